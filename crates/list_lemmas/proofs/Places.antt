-- The places of a list, and its elements beside their places.
use Rattle.std.proofs.Common.{◌≡◌, ℕ, zero, suc, ◌+◌, ◌<◌, refl, sym, ◌∙◌, ap, subst, List, [], ◌∷◌}
use Rattle.std.{proofs.Common.{length, arith, inl, inr}, specs.List.enumerate_from}
use Rattle.std.specs.Prelude.{Some, None, slice_get, map, unwrap_or}
use Rattle.list_lemmas.proofs.Members.{Among}

-- an element has a place, and what stands at a place is an element
pub placed : {X : Type 0} (xs : List X) (x : X) → Among x xs → (i : ℕ) × (slice_get xs i ≡ Some x)
placed [] x a = absurd a
placed (z ∷ xs) x (inl e) = (0, ap Some e)
placed (z ∷ xs) x (inr a) = let p = placed xs x a in (suc p.0, p.1)

pub at_place : {X : Type 0} (xs : List X) (i : ℕ) (x : X) → slice_get xs i ≡ Some x → Among x xs
at_place [] i x e = let bad : None ≡ Some x = e in cc
at_place (z ∷ xs) zero x e = inl (ap (λ o. unwrap_or o x) e)
at_place (z ∷ xs) (suc i) x e = inr (at_place xs i x e)

pub place_within : {X : Type 0} (xs : List X) (i : ℕ) (x : X) → slice_get xs i ≡ Some x
    → i < length xs
place_within [] i x e = let bad : None ≡ Some x = e in cc
place_within (z ∷ xs) zero x e = omega arith
place_within (z ∷ xs) (suc i) x e = let h : i < length xs = place_within xs i x e in
    omega (arith, h)

pub within_place : {X : Type 0} (xs : List X) (i : ℕ) → i < length xs
    → (x : X) × (slice_get xs i ≡ Some x)
within_place [] i h = absurd (omega (arith, h))
within_place (z ∷ xs) zero h = (z, refl)
within_place (z ∷ xs) (suc i) h = within_place xs i (omega (arith, h))

-- the elements beside their places
pub among_numbered_from : {X : Type 0} (xs : List X) (from i : ℕ) (x : X) → slice_get xs i ≡ Some x
    → Among (from + i, x) (enumerate_from from xs)
among_numbered_from [] from i x e = let bad : None ≡ Some x = e in cc
among_numbered_from {X} (y ∷ ys) from zero x e =
    let same : y ≡ x = ap (λ o. unwrap_or o x) e in
    let there : Among (from, x) (enumerate_from from (y ∷ ys)) = inl (ap (λ z. (from, z)) same) in
    subst (λ k. Among (k, x) (enumerate_from from (y ∷ ys))) (omega arith) there
among_numbered_from (y ∷ ys) from (suc i) x e = inr (subst (λ k. Among (k, x)
    (enumerate_from (from + 1) ys)) (omega arith) (among_numbered_from ys (from + 1) i x e))

pub among_numbered : {X : Type 0} (xs : List X) (i : ℕ) (x : X) → slice_get xs i ≡ Some x
    → Among (i, x) (enumerate_from 0 xs)
among_numbered xs i x e =
    subst (λ k. Among (k, x) (enumerate_from 0 xs)) (omega arith) (among_numbered_from xs 0 i x e)

pub numbered_from : {X : Type 0} (xs : List X) (from : ℕ) (at : ℕ × X)
    → Among at (enumerate_from from xs) → (i : ℕ) × (at.0 ≡ from + i) × (slice_get xs i ≡ Some at.1)
numbered_from [] from at a = absurd a
numbered_from (y ∷ ys) from at (inl e) =
    (0, sym (ap (λ p. p.0) e) ∙ omega arith, ap (λ p. Some p.1) e)
numbered_from (y ∷ ys) from at (inr a) =
    let p = numbered_from ys (from + 1) at a in
    let h : at.0 ≡ from + 1 + p.0 = p.1 in
    (suc p.0, omega (arith, h), p.2)

pub numbered_at : {X : Type 0} (xs : List X) (at : ℕ × X) → Among at (enumerate_from 0 xs)
    → slice_get xs at.0 ≡ Some at.1
numbered_at xs at a =
    let p = numbered_from xs 0 at a in
    let h : at.0 ≡ 0 + p.0 = p.1 in
    let same : p.0 ≡ at.0 = omega (arith, h) in
    subst (λ k. slice_get xs k ≡ Some at.1) same p.2

-- what stands at a place of a mapped list
pub from_mapped : {X Y : Type 0} (f : X → Y) (xs : List X) (i : ℕ) (y : Y)
    → slice_get (map f xs) i ≡ Some y → (x : X) × (slice_get xs i ≡ Some x) × (f x ≡ y)
from_mapped f [] i y e = let bad : None ≡ Some y = e in cc
from_mapped f (x ∷ xs) zero y e = (x, refl, ap (λ o. unwrap_or o y) e)
from_mapped f (x ∷ xs) (suc i) y e = from_mapped f xs i y e
