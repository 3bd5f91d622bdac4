use Rattle.std.proofs.Common.{◌≡◌, ◌≤◌, ◌/◌, ◌∙◌, ℕ, ap, arith, length, max, subst, sym}
use Rattle.fault_model.specs.Collapse.{Collapsed}
use Rattle.patterns.specs.Tests.{max_pieces}
use Rattle.generator.proofs.{Detected.few_classes, Pieces.one_block}
use Rattle.generator.proofs.search.room_of.Goals as goal

pub returns-clause-some : goal.returns-clause-some
returns-clause-some c =
    let job = c.args.job.now in
    let n = length job.classes.representative in
    let same : c.max-blocks.result ≡ max n 1 = c.max-blocks.ensures ∙ ap (λ (k : ℕ). max k 1)
    (c.count.ensures ∙ ap (λ (x : Collapsed). length x.representative) c.classes.ensures.part) in
    let one : 1 ≤ max_pieces / c.max-blocks.result =
    subst (λ (k : ℕ). 1 ≤ max_pieces / k) (sym same)
    (one_block n (few_classes job c.tests-tests.ensures.together)) in
    omega (arith, one, c.min.ensures)
