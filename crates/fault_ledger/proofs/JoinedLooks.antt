-- Two tokens that are joined, and look together.
use Rattle.std.proofs.Common.{◌≡◌, ℕ, [], ◌∷◌, sym, ◌∙◌, subst}
use mathlib.Core.Option.{none}
use Rattle.atomic_table.specs.{Seated.TableId, Table.{Me, Allows, step}}
use Rattle.fault_ledger.specs.{declared.Shape.Shape, declared.words.View.View, Seats.Sitter}
use Rattle.fault_ledger.{specs.Words.{post_of, both_of, IsKept, Looks}, proofs.TokenAsSeat.Taken}
use Rattle.fault_ledger.proofs.LoadsKeepRule.{looks_allowed}

-- a load by the table seat of both workers
pub both_allowed : (s : Shape) (u : TableId) (a b : Sitter) (t v : TableId)
    (me other now : Me ℕ View) → Taken s u a t me → Taken s u b v other
    → now ≡ (both_of other.0 me.0, other.1)
    → (slots id : ℕ) → Allows (IsKept s) slots id now 0 (λ n. n) (Looks (step slots 0 0 0 none) now)
both_allowed s u a b t v me other now first second is slots id =
    let both : now ≡ (record { shape = s; posts = post_of a ∷ post_of b ∷ [] }, []) = is
    ∙ (λ k. (both_of (second.me_is k).0 (first.me_is k).0, (second.me_is k).1)) in
    subst (λ (m : Me ℕ View).
    Allows (IsKept s) slots id m 0 (λ n. n) (Looks (step slots 0 0 0 none) m)) (sym both)
    (looks_allowed s slots id 0 s (post_of a) (post_of b ∷ []) [])
