-- A class is settled exactly at the test of its first hit.
use Rattle.std.proofs.Common.{◌≡◌, ℕ, zero, suc, ◌+◌, ◌-◌, ◌*◌, ◌<◌, ◌≤◌, List, ◌∷◌, map, Option}
use Rattle.std.proofs.{Common.{Some, None, refl, sym, ap, ◌∙◌, subst, arith}, Math.Logic.◌↔◌}
use Rattle.patterns.specs.Least.{from_up}
use Rattle.fault_ledger.specs.declared.{Shape.Shape, PieceState.PieceState}
use Rattle.fault_ledger.specs.History.{History, entry, block_count, piece_at}
use Rattle.fault_ledger.specs.Settled.{status_from, IsSettledAt, IsFirstHit}
use Rattle.fault_ledger.proofs.ClassStatus.{status-hit, status-none}
use Rattle.fault_ledger.specs.declared.PieceState.TheVariants as state
use Rattle.fault_ledger.specs.declared.Status.TheVariants as status_is

-- the blocks from this one to before that one are clear
abbrev Clears : (ℕ → PieceState) → ℕ → ℕ → Type 0
Clears g first end = (k : ℕ) → first ≤ k → k < end → g k ≡ state.Clear

abbrev FirstFrom : (ℕ → PieceState) → ℕ → ℕ → Option ℕ → Type 0
FirstFrom g first end None = Clears g first end
FirstFrom g first end (Some test) = (block : ℕ) × (k : ℕ) × (first ≤ block) × (block < end)
    × Clears g first block × (g block ≡ state.Hit k) × (test ≡ 64 * block + k)

-- one more clear block in front
clears_more : (g : ℕ → PieceState) (first end : ℕ) → g first ≡ state.Clear
    → Clears g (first + 1) end → Clears g first end
clears_more g first end clear rest k l m = go (k - first) refl
  where
    go : (d : ℕ) → k - first ≡ d → g k ≡ state.Clear
    go zero e = subst (λ x. g x ≡ state.Clear) (omega arith) clear
    go (suc d) e = rest k (omega arith) m

first_more : (g : ℕ → PieceState) (first end : ℕ) (at : Option ℕ) → g first ≡ state.Clear
    → FirstFrom g (first + 1) end at → FirstFrom g first end at
first_more g first end None clear rest = clears_more g first end clear rest
first_more g first end (Some test) clear (block, k, l, m, before, hit, is) =
    (block, k, omega arith, m, clears_more g first block clear before, hit, is)

settled_from : (g : ℕ → PieceState) (first n end : ℕ) (at : Option ℕ) → first + n ≡ end
    → status_from first (map g (from_up first n)) ≡ status_is.Settled at → FirstFrom g first end at
settled_from g first zero end None p e = λ k l m. absurd (omega arith)
settled_from g first zero end (Some test) p e = absurd (cc)
settled_from g first (suc n) end at p e =
    go (g first) refl at (settled_from g (first + 1) n end at (omega arith)) e
  where
    rest : List PieceState
    rest = map g (from_up (first + 1) n)

    go : (x : PieceState) → g first ≡ x → (t : Option ℕ)
        → (status_from (first + 1) rest ≡ status_is.Settled t → FirstFrom g (first + 1) end t)
        → status_from first (x ∷ rest) ≡ status_is.Settled t → FirstFrom g first end t
    go state.Clear is t later e = first_more g first end t is (later e)
    go (state.Hit k) is None later e = absurd (cc)
    go (state.Hit k) is (Some test) later e =
        (first, k, omega arith, omega arith, (λ j l m. absurd (omega arith)), is, cc)
    go state.Open is t later e = absurd (cc)
    go state.Skipped is t later e = absurd (cc)

to_first : (s : Shape) (h : History) (class : ℕ) (at : Option ℕ) → IsSettledAt s h class at
    → IsFirstHit s h class at
to_first s h class None e =
    let g = λ (b : ℕ). entry (piece_at s class b) h in
    let n = block_count s in
    λ k l. settled_from g 0 n n None (omega arith) e k (omega arith) l
to_first s h class (Some test) e =
    let g = λ (b : ℕ). entry (piece_at s class b) h in
    let n = block_count s in
    let (block, k, _, l, before, hit, is) = settled_from g 0 n n (Some test) (omega arith) e in
    (block, k, l, (λ j m. before j (omega arith) m), hit, is)

from_first : (s : Shape) (h : History) (class : ℕ) (at : Option ℕ) → IsFirstHit s h class at
    → IsSettledAt s h class at
from_first s h class None clear =
    status-none (λ b. entry (piece_at s class b) h) (block_count s) clear
from_first s h class (Some test) (block, k, l, before, hit, is) =
    status-hit (λ b. entry (piece_at s class b) h) (block_count s) block k l before hit
    ∙ ap (λ t. status_is.Settled (Some t)) (sym is)

pub settled_at_first : (s : Shape) (h : History) (class : ℕ) (at : Option ℕ)
    → IsSettledAt s h class at ↔ IsFirstHit s h class at
settled_at_first s h class at = (to_first s h class at, from_first s h class at)
