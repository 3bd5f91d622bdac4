-- The elements of lists with one element more at the end.
use Rattle.std.proofs.Common.{◌≡◌, ◌⊎◌, inl, inr, ℕ, zero, suc, List, [], ◌∷◌, ◌++◌, length, None}
use Rattle.std.{proofs.Common.{Some, refl, subst}, specs.Prelude.slice_get}
pub use Rattle.flat_circuit.proofs.Public.{pushed_get as pushed}

-- a property of each element at its place holds for one element more
pub push_each : {X : Type 0} (P : ℕ → X → Type 0) (xs : List X) (x : X)
    → ((i : ℕ) (y : X) → slice_get xs i ≡ Some y → P i y) → P (length xs) x
    → (i : ℕ) (y : X) → slice_get (xs ++ x ∷ []) i ≡ Some y → P i y
push_each P [] x before last zero y at = let same : x ≡ y = cc in subst (P 0) same last
push_each P [] x before last (suc i) y at = let bad : None ≡ Some y = at in absurd (cc)
push_each P (z ∷ xs) x before last zero y at = before 0 y at
push_each P (z ∷ xs) x before last (suc i) y at =
    push_each (λ j. P (suc j)) xs x (λ j. before (suc j)) last i y at

-- an element stays at its place if more elements follow
pub kept : {X : Type 0} (xs ys : List X) (k : ℕ) (x : X) → slice_get xs k ≡ Some x
    → slice_get (xs ++ ys) k ≡ Some x
kept [] ys k x e = let bad : None ≡ Some x = e in absurd (cc)
kept (z ∷ xs) ys zero x e = e
kept (z ∷ xs) ys (suc k) x e = kept xs ys k x e

-- an element between others
pub between_others : {X : Type 0} (xs ys : List X) (x : X)
    → slice_get (xs ++ x ∷ ys) (length xs) ≡ Some x
between_others [] ys x = refl
between_others (z ∷ xs) ys x = between_others xs ys x

-- and at the end
pub last_of : {X : Type 0} (xs : List X) (x : X) → slice_get (xs ++ x ∷ []) (length xs) ≡ Some x
last_of xs x = between_others xs [] x
