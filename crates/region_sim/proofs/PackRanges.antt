-- The part of a list that a slot has.
use Rattle.std.proofs.Common.{◌≡◌, ◌<◌, ◌≤◌, ℕ, zero, suc, ◌+◌, ◌-◌, ◌∙◌, ap, arith}
use Rattle.std.proofs.Common.{List, [], ◌∷◌, drop, take, inl, inr}
use Rattle.std.specs.Prelude.{Contains, None, Some, slice_get, slice_range, unwrap_or}
use Rattle.list_lemmas.proofs.Members.{Among, among, contained}

taken_at : {X : Type 0} (n : ℕ) (xs : List X) (i : ℕ) (x : X) → i < n → slice_get xs i ≡ Some x
    → Among x (take n xs)
taken_at zero xs i x lt e = absurd (omega (arith, lt))
taken_at (suc n) [] i x lt e = let bad : None ≡ Some x = e in cc
taken_at (suc n) (y ∷ xs) zero x lt e = inl (ap (λ o. unwrap_or o y) e)
taken_at (suc n) (y ∷ xs) (suc i) x lt e = inr (taken_at n xs i x (omega (arith, lt)) e)

taken_from : {X : Type 0} (n : ℕ) (xs : List X) (x : X) → Among x (take n xs)
    → (i : ℕ) × (i < n) × (slice_get xs i ≡ Some x)
taken_from zero xs x a = absurd a
taken_from (suc n) [] x a = absurd a
taken_from (suc n) (y ∷ xs) x (inl e) = (0, omega arith, ap Some e)
taken_from (suc n) (y ∷ xs) x (inr a) =
    let i = taken_from n xs x a in
    let lt = i.1 in (suc i.0, omega (arith, lt), i.2)

dropped_at : {X : Type 0} (a : ℕ) (xs : List X) (at : ℕ) (x : X) → a ≤ at
    → slice_get xs at ≡ Some x → slice_get (drop a xs) (at - a) ≡ Some x
dropped_at zero xs at x le e = let same : at - 0 ≡ at = omega arith in ap (slice_get xs) same ∙ e
dropped_at (suc a) [] at x le e = let bad : None ≡ Some x = e in cc
dropped_at (suc a) (y ∷ xs) zero x le e = absurd (omega (arith, le))
dropped_at (suc a) (y ∷ xs) (suc at) x le e =
    let same : suc at - suc a ≡ at - a = omega arith in
    ap (slice_get (drop a xs)) same ∙ dropped_at a xs at x (omega (arith, le)) e

dropped_from : {X : Type 0} (a : ℕ) (xs : List X) (i : ℕ) (x : X)
    → slice_get (drop a xs) i ≡ Some x → slice_get xs (a + i) ≡ Some x
dropped_from zero xs i x e = let same : 0 + i ≡ i = omega arith in ap (slice_get xs) same ∙ e
dropped_from (suc a) [] i x e = let bad : None ≡ Some x = e in cc
dropped_from (suc a) (y ∷ xs) i x e =
    let same : suc a + i ≡ suc (a + i) = omega arith in
    ap (slice_get (y ∷ xs)) same ∙ dropped_from a xs i x e

pub in_range : {X : Type 0} (xs : List X) (a b at : ℕ) (x : X) → a ≤ at → at < b
    → slice_get xs at ≡ Some x → Contains (slice_range xs a b) x
in_range xs a b at x low high e = contained (slice_range xs a b) x
    (taken_at (b - a) (drop a xs) (at - a) x (omega (arith, low, high))
    (dropped_at a xs at x low e))

pub range_from : {X : Type 0} (xs : List X) (a b : ℕ) (x : X) → Contains (slice_range xs a b) x
    → (at : ℕ) × (a ≤ at) × (at < b) × (slice_get xs at ≡ Some x)
range_from xs a b x there =
    let i = taken_from (b - a) (drop a xs) x (among (slice_range xs a b) x there) in
    let lt = i.1 in
    (a + i.0, omega arith, omega (arith, lt), dropped_from a xs i.0 x i.2)
