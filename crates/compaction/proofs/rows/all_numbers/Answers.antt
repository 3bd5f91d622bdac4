use Rattle.std.proofs.Common.{◌∙◌, ◌++◌, ◌∷◌, [], ap, sym}
use Rattle.compaction.proofs.TestNumbers.{below_more}
use Rattle.compaction.proofs.rows.all_numbers.Goals as goal

pub loop-test-preserved : goal.loop-test-preserved
loop-test-preserved c = c.in_ok-push.ensures.items
    ∙ (ap (λ xs. xs ++ c.loop-test.test ∷ []) c.loop-test.invariant
    ∙ sym (below_more c.loop-test.test))
