-- The element at a place of a list.
use Rattle.std.proofs.Common.{◌≡◌, ◌≢◌, ◌<◌, ℕ, zero, suc, refl, ap, List, [], ◌∷◌, length, set}
use Rattle.std.proofs.Common.{arith}
use Rattle.std.specs.Prelude.{Some, None, map, slice_get, slice_index_or, unwrap_or}

pub index_of : {X : Type 0} (xs : List X) (i : ℕ) (x d : X) → slice_get xs i ≡ Some x
    → slice_index_or xs i d ≡ x
index_of [] i x d e = let bad : None ≡ Some x = e in cc
index_of (y ∷ xs) zero x d e = ap (λ o. unwrap_or o x) e
index_of (y ∷ xs) (suc i) x d e = index_of xs i x d e

pub mapped_at : {X : Type 0} (h : X → ℕ) (xs : List X) (i : ℕ) (x : X) → slice_get xs i ≡ Some x
    → slice_index_or (map h xs) i 0 ≡ h x
mapped_at h [] i x e = let bad : None ≡ Some x = e in cc
mapped_at h (y ∷ xs) zero x e = ap h (ap (λ o. unwrap_or o x) e)
mapped_at h (y ∷ xs) (suc i) x e = mapped_at h xs i x e

-- ---- a write to a list
pub set_here : {X : Type 0} (xs : List X) (i : ℕ) (x : X) → i < length xs
    → slice_get (set xs i x) i ≡ Some x
set_here [] i x lt = absurd (omega (arith, lt))
set_here (y ∷ xs) zero x lt = refl
set_here (y ∷ xs) (suc i) x lt = set_here xs i x (omega (arith, lt))

pub set_there : {X : Type 0} (xs : List X) (i k : ℕ) (x : X) → k ≢ i
    → slice_get (set xs i x) k ≡ slice_get xs k
set_there [] zero k x ne = refl
set_there [] (suc i) k x ne = refl
set_there (y ∷ xs) zero zero x ne = absurd (ne refl)
set_there (y ∷ xs) zero (suc k) x ne = refl
set_there (y ∷ xs) (suc i) zero x ne = refl
set_there (y ∷ xs) (suc i) (suc k) x ne = set_there xs i k x (λ e. ne (ap suc e))
