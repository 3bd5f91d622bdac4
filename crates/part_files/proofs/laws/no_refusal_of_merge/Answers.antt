use Rattle.std.proofs.Common.{arith, false}
use Rattle.bench_net.proofs.Public.{some_signal}
use Rattle.part_files.proofs.MergeRefusals.{merge_refused}
use Rattle.part_files.proofs.laws.no_refusal_of_merge.Goals as goal

pub returns : goal.returns
returns c =
    merge_refused c.one_answer.ensures.one_circuit c.collapsing.ensures.classes (λ m circuit is.
    let at = c.stems.ensures m circuit 0 false (some_signal circuit is.well_formed) in
    omega (arith, at.1))
