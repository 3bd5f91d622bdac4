-- Whether all classes are settled, read from their statuses.
use Rattle.std.proofs.Common.{◌≡◌, ℕ, zero, suc, ◌+◌, ◌-◌, ◌<◌, ◌≤◌, List, ◌∷◌, map, Option, None}
use Rattle.std.proofs.Common.{ap, ◌∙◌, arith}
use Rattle.patterns.specs.Least.{from_up, below}
use Rattle.fault_ledger.specs.declared.{Shape.Shape, PieceState.PieceState, Status.Status}
use Rattle.fault_ledger.specs.History.{History, entry, states_of, block_count, piece_count}
use Rattle.fault_ledger.specs.{History.piece_at, Settled.{status, finish, finish_from}}
use Rattle.fault_ledger.{specs.Answer.IsLegal, proofs.PieceNumbers.no_block}
use Rattle.fault_ledger.proofs.ClassStatus.{status-none}
use Rattle.fault_ledger.specs.declared.Status.TheVariants as status_is
use Rattle.fault_ledger.specs.declared.Finish.TheVariants as finish_is

-- past classes that are settled
finish-past : (g : ℕ → Status) (a m n all b : ℕ) → m + n ≡ all → a + m ≡ b
    → ((k : ℕ) → a ≤ k → k < b → (at : Option ℕ) × (g k ≡ status_is.Settled at))
    → finish_from a (map g (from_up a all)) ≡ finish_from b (map g (from_up b n))
finish-past g a zero n all b p q settled =
    let x : all ≡ n = omega arith in
    let y : a ≡ b = omega arith in
    λ i. finish_from (y i) (map g (from_up (y i) (x i)))
finish-past g a (suc m) n zero b p q settled = absurd (omega arith)
finish-past g a (suc m) n (suc all) b p q settled =
    ap (λ x. finish_from a (x ∷ map g (from_up (a + 1) all)))
    (settled a (omega arith) (omega arith)).1
    ∙ finish-past g (a + 1) m n all b (omega arith) (omega arith)
    (λ k l o. settled k (omega arith) o)

-- at the first class that waits, and if all are settled
pub finish-waits : (g : ℕ → Status) (n c b : ℕ) → c < n
    → ((k : ℕ) → k < c → (at : Option ℕ) × (g k ≡ status_is.Settled at)) → g c ≡ status_is.Waiting b
    → finish_from 0 (map g (below n)) ≡ finish_is.Waiting c b
finish-waits g n c b l settled e =
    finish-past g 0 c (suc (n - c - 1)) n c (omega arith) (omega arith) (λ k _ o. settled k o)
    ∙ ap (λ x. finish_from c (x ∷ map g (from_up (c + 1) (n - c - 1)))) e

pub finish-all : (g : ℕ → Status) (n : ℕ) → ((k : ℕ) → k < n → (at : Option ℕ)
    × (g k ≡ status_is.Settled at)) → finish_from 0 (map g (below n)) ≡ finish_is.Finished
finish-all g n settled = finish-past g 0 n 0 n n (omega arith) (omega arith) (λ k _ o. settled k o)

-- each class below n is settled, in every legal history with these states
abbrev pub SettledBelow : Shape → List PieceState → ℕ → Type 0
SettledBelow s states n = (h : History) → IsLegal s h → states ≡ states_of s h → (k : ℕ) → k < n
    → (at : Option ℕ) × (status s h k ≡ status_is.Settled at)

-- if there is no piece, all classes are settled
pub finish-none : (s : Shape) (h : History) → piece_count s ≡ 0 → finish s h ≡ finish_is.Finished
finish-none s h none = finish-all (status s h) s.classes (λ k l. (
  None,
  status-none (λ block. entry (piece_at s k block) h) (block_count s)
      (λ j m. let a = no_block s k l (omega arith) in absurd (omega arith)),
))
