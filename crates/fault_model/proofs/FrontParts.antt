-- Front parts of a list, one element longer each time.
use Rattle.std.proofs.Common.{◌≡◌, ◌<◌, ℕ, zero, suc, ◌+◌, refl, sym, ◌∙◌, ap, List, [], ◌∷◌, ◌++◌}
use Rattle.std.proofs.Common.{length, take, arith, inl, inr, ◌⊎◌}
use Rattle.std.specs.Prelude.{Some, None, slice_get}

pub take_next : {X : Type 0} (xs : List X) (k : ℕ) (x : X) → slice_get xs k ≡ Some x
    → take (k + 1) xs ≡ take k xs ++ x ∷ []
take_next xs k x e =
    let one : suc k ≡ k + 1 = omega arith in ap (λ n. take n xs) (sym one) ∙ go xs k e
  where
    go : (ys : _) (j : ℕ) → slice_get ys j ≡ Some x → take (suc j) ys ≡ take j ys ++ x ∷ []
    go [] j e = let bad : None ≡ Some x = e in cc
    go (y ∷ ys) zero e = let same : y ≡ x = cc in ap (λ z. z ∷ []) same
    go (y ∷ ys) (suc j) e = ap (λ zs. y ∷ zs) (go ys j e)

pub take_all : {X : Type 0} (xs : List X) → take (length xs) xs ≡ xs
take_all [] = refl
take_all (x ∷ xs) = ap (λ zs. x ∷ zs) (take_all xs)

-- an element of a list stays at its place if more elements follow
pub at_front : {X : Type 0} (xs ys : List X) (i : ℕ) (x : X) → slice_get xs i ≡ Some x
    → slice_get (xs ++ ys) i ≡ Some x
at_front [] ys i x e = let bad : None ≡ Some x = e in cc
at_front (z ∷ xs) ys zero x e = e
at_front (z ∷ xs) ys (suc i) x e = at_front xs ys i x e

pub at_end : {X : Type 0} (xs ys : List X) (x : X) → slice_get (xs ++ x ∷ ys) (length xs) ≡ Some x
at_end [] ys x = refl
at_end (z ∷ xs) ys x = at_end xs ys x

-- below one more is below, or equal
pub below_or_at : (s k : ℕ) → s < k + 1 → (s < k) ⊎ (s ≡ k)
below_or_at s zero lt = inr (omega (arith, lt))
below_or_at zero (suc k) lt = inl (omega arith)
below_or_at (suc s) (suc k) lt = go (below_or_at s k (omega (arith, lt)))
  where
    go : (s < k) ⊎ (s ≡ k) → (suc s < suc k) ⊎ (suc s ≡ suc k)
    go (inl h) = inl (omega (arith, h))
    go (inr h) = inr (ap suc h)
