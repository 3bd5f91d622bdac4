-- A class that is settled is settled at the least test of every table to which the reports are
-- true.
use Rattle.std.proofs.Common.{◌≡◌, ℕ, ◌+◌, Bool, true, false, if◌then◌else◌, List, [], ◌∷◌, map}
use Rattle.std.proofs.Common.{Option, refl, sym, subst}
use Rattle.patterns.specs.{declared.Outcome.Outcome, Least.{Table, below, first_hit}}
use Rattle.patterns.specs.declared.Outcome.TheVariants as outcome
use Rattle.fault_ledger.specs.declared.{Event.Event, Shape.Shape, PieceState.PieceState}
use Rattle.fault_ledger.specs.{declared.Status.TheVariants.Settled, History.{piece_at, block_count}}
use Rattle.fault_ledger.specs.History.{History, holds, state_of, entry, class_of, block_of}
use Rattle.fault_ledger.specs.{Settled.status_from, Answer.{Gives, IsTrueTo, SettlesAtLeast}}
use Rattle.fault_ledger.proofs.{Histories.holds-held, PieceNumbers.{class_of-at, block_of-at}}
use Rattle.fault_ledger.specs.declared.PieceState.TheVariants as state

-- the state of a reported piece follows from the table's outcome
abbrev Agrees : PieceState → Outcome → Type 0
Agrees state.Clear o = o ≡ outcome.Clear
Agrees (state.Hit k) o = o ≡ outcome.Hit k
Agrees _ o = Unit {0}

agrees_with : (o : Outcome) → Agrees (state_of o) o
agrees_with outcome.Clear = refl
agrees_with (outcome.Hit k) = refl

agrees : (s : Shape) (table : Table) (h : History) → IsTrueTo s table h → (p : ℕ)
    → Agrees (entry p h) (table (class_of s p) (block_of s p))
agrees s table [] t p = tt
agrees s table (Event.Claim w ∷ h) t p = agrees s table h t p
agrees s table (Event.Report w o ∷ h) t p = go (holds w p h) refl (agrees s table h t.1 p)
  where
    go : (b : Bool) → holds w p h ≡ b → Agrees (entry p h) (table (class_of s p) (block_of s p))
        → Agrees (if b then state_of o else entry p h) (table (class_of s p) (block_of s p))
    go true e i = subst (λ x. Agrees (state_of o) x)
        (subst (λ x. Gives s table x o) (holds-held w p h e) t.0) (agrees_with o)
    go false e i = i
agrees s table (Event.Drop w ∷ h) t p = go (holds w p h) (agrees s table h t p)
  where
    go : (b : Bool) → Agrees (entry p h) (table (class_of s p) (block_of s p))
        → Agrees (if b then state.Skipped else entry p h) (table (class_of s p) (block_of s p))
    go true i = tt
    go false i = i

settled_at : (f : ℕ → PieceState) (g : ℕ → Outcome) (b : ℕ) (xs : List ℕ) (at : Option ℕ) → ((k : ℕ)
    → Agrees (f k) (g k)) → status_from b (map f xs) ≡ Settled at → at ≡ first_hit b (map g xs)
settled_at f g b [] at a e = cc
settled_at f g b (x ∷ xs) at a e = go (f x) (g x) (a x) e (settled_at f g (b + 1) xs at a)
  where
    go : (y : PieceState) (o : Outcome) → Agrees y o → status_from b (y ∷ map f xs) ≡ Settled at
        → (status_from (b + 1) (map f xs) ≡ Settled at → at ≡ first_hit (b + 1) (map g xs))
        → at ≡ first_hit b (o ∷ map g xs)
    go state.Clear o q e i = subst (λ z. at ≡ first_hit b (z ∷ map g xs)) (sym q) (i e)
    go (state.Hit k) o q e i = subst (λ z. at ≡ first_hit b (z ∷ map g xs)) (sym q) (cc)
    go state.Open o q e i = absurd (cc)
    go state.Skipped o q e i = absurd (cc)

pub settles_at_least : (s : Shape) (table : Table) (h : History) → IsTrueTo s table h
    → SettlesAtLeast s table h
settles_at_least s table h t class at l e =
    settled_at (λ b. entry (piece_at s class b) h) (table class) 0 (below (block_count s)) at
    (λ k. subst (λ b. Agrees (entry (piece_at s class k) h) (table class b))
    (block_of-at s class k l)
    (subst (λ c. Agrees (entry (piece_at s class k) h) (table c (block_of s (piece_at s class k))))
    (class_of-at s class k l) (agrees s table h t (piece_at s class k)))) e
