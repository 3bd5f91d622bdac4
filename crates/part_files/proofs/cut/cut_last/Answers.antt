use Rattle.std.proofs.{Common.{arith, rules}, lemmas.List.take_rest}
use Rattle.part_files.proofs.CutTexts.{cut_at_last, lacks_from}
use Rattle.part_files.proofs.cut.cut_last.Goals as goal

pub returns-then-text-at : goal.returns-then-text-at
returns-then-text-at c = rw (take_rest _ _) (cut_at_last _ _ _ (omega arith) (search rules)
    (λ k low high. c.loop-at.invariant.lacks k (omega arith) high))

pub returns : goal.returns
returns c = lacks_from _ _ (λ k h. c.loop-at.invariant.lacks k (omega arith) h)
