use Rattle.std.proofs.Common.{◌∙◌, ap, not}
use Rattle.bench_net.proofs.NumberedLines.{key_in}
use Rattle.bench_net.proofs.number.add_name.Goals as goal

pub returns-clause-added : goal.returns-clause-added
returns-clause-added c =
    c.in_ok-added.ensures.added ∙ ap not (key_in c.args.names.now.keys c.args.name.now)
