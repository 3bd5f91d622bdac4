use Rattle.std.proofs.Common.{◌≡◌, ◌<◌, rules}
use Rattle.patterns.specs.Tests.{max_pieces}
use Rattle.block_sim.specs.Parts.{piece_count, with_tests}
use Rattle.job_loading.specs.declared.runs.Limit.TheVariants as limit
use Rattle.job_loading.proofs.JobsOfTexts.{not_too_many, too_many}
use Rattle.job_loading.proofs.runs.run_within.Goals as goal

pub returns-then-has_too_many_pieces-clause-refused :
    goal.returns-then-has_too_many_pieces-clause-refused
returns-then-has_too_many_pieces-clause-refused g c =
    let limited : c.args.limit ≡ limit.Pieces = search rules in
    let many : max_pieces < piece_count (with_tests c.args.job c.args.tests) = search rules in
    too_many c.args.job c.args.tests c.args.limit c.classes.ensures.together
    c.requires.tests limited many

pub returns-clause-within : goal.returns-clause-within
returns-clause-within g c = not_too_many c.args.job c.in_ok-run.run'.whole c.args.tests c.args.limit
    c.in_ok-run.ensures.kept (λ limited. search rules)
