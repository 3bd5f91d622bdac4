-- Vectors that were written over.
use Rattle.std.proofs.Common.{◌≡◌, ◌++◌, ◌∙◌, ℕ, List, ap, length, take}
use Rattle.std.proofs.Math.Seq.{take-append_seam}

-- the vector after its slice was overwritten
pub written_over : {X : Type 0} (n : ℕ) (new old : List X) → n ≡ length new
    → take n (new ++ old) ≡ new
written_over n new old e = ap (λ k. take k (new ++ old)) e ∙ take-append_seam new old
