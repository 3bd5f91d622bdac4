use Rattle.std.proofs.{Common.{◌∙◌, sym, []}, lemmas.List.get_or-map}
use Rattle.std.proofs.lemmas.List.Quantifiers.{position-Some}
use Rattle.bench_net.proofs.{Names.same_bytes, NumberedLines.key_in}
use Rattle.bench_net.proofs.number.number_of.Goals as goal

pub returns-in-Some-clause-named : goal.returns-in-Some-clause-named
returns-in-Some-clause-named c =
    let keys = c.args.names.now.keys in
    let p = position-Some _ keys c.in-Some.index c.args.name (sym c.in-Some.ensures.index) in
    get_or-map (λ x. x.now) keys c.in-Some.index c.args.name [] p.0
    ∙ sym (same_bytes c.args.name.now _ p.1)

pub returns-in-None-clause-missing : goal.returns-in-None-clause-missing
returns-in-None-clause-missing c =
    sym (key_in c.args.names.now.keys c.args.name.now) ∙ sym c.in-None.ensures.found
