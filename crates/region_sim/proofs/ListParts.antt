-- Places in parts of a list.
use Rattle.std.proofs.Common.{◌≡◌, ◌+◌, ◌-◌, ◌<◌, ◌≤◌, ℕ, zero, suc, refl, sym, ◌∙◌, ap, List, []}
use Rattle.std.proofs.Common.{◌∷◌, ◌++◌, length, arith, take, drop, Some, None}
use Rattle.std.specs.Prelude.{slice_get, slice_range}

pub get_left : {X : Type 0} (xs ys : List X) (i : ℕ) → i < length xs
    → slice_get (xs ++ ys) i ≡ slice_get xs i
get_left [] ys i lt = absurd (omega (arith, lt))
get_left (x ∷ xs) ys zero lt = refl
get_left (x ∷ xs) ys (suc i) lt = get_left xs ys i (omega (arith, lt))

pub get_right : {X : Type 0} (xs ys : List X) (i : ℕ)
    → slice_get (xs ++ ys) (length xs + i) ≡ slice_get ys i
get_right [] ys i = let e : 0 + i ≡ i = omega arith in ap (slice_get ys) e
get_right (x ∷ xs) ys i =
    let e : length (x ∷ xs) + i ≡ suc (length xs + i) = omega arith in
    ap (slice_get (x ∷ xs ++ ys)) e ∙ get_right xs ys i

get_dropped : {X : Type 0} (xs : List X) (a i : ℕ) → slice_get (drop a xs) i ≡ slice_get xs (a + i)
get_dropped xs zero i = let e : i ≡ 0 + i = omega arith in ap (slice_get xs) e
get_dropped [] (suc a) i = let e : suc a + i ≡ suc (a + i) =
    omega arith in sym (ap (slice_get []) e)
get_dropped (x ∷ xs) (suc a) i =
    let e : suc a + i ≡ suc (a + i) = omega arith in
    get_dropped xs a i ∙ sym (ap (slice_get (x ∷ xs)) e)

get_taken : {X : Type 0} (xs : List X) (n i : ℕ) → i < n → slice_get (take n xs) i ≡ slice_get xs i
get_taken xs zero i lt = absurd (omega (arith, lt))
get_taken [] (suc n) i lt = refl
get_taken (x ∷ xs) (suc n) zero lt = refl
get_taken (x ∷ xs) (suc n) (suc i) lt = get_taken xs n i (omega (arith, lt))

taken_few : {X : Type 0} (xs : List X) (n i : ℕ) (x : X) → slice_get (take n xs) i ≡ Some x → i < n
taken_few xs zero i x e = let bad : None ≡ Some x = e in cc
taken_few [] (suc n) i x e = let bad : None ≡ Some x = e in cc
taken_few (y ∷ xs) (suc n) zero x e = omega arith
taken_few (y ∷ xs) (suc n) (suc i) x e = let lt = taken_few xs n i x e in omega (arith, lt)

pub out_of_range : {X : Type 0} (xs : List X) (a b i : ℕ) (x : X)
    → slice_get (slice_range xs a b) i ≡ Some x → (i < b - a) × (slice_get xs (a + i) ≡ Some x)
out_of_range xs a b i x e =
    let lt : i < b - a = taken_few (drop a xs) (b - a) i x e in (
      lt,
      sym (get_dropped xs a i) ∙ (sym (get_taken (drop a xs) (b - a) i lt) ∙ e),
    )

pub into_range : {X : Type 0} (xs : List X) (a b i : ℕ) (x : X) → a ≤ i → i < b
    → slice_get xs i ≡ Some x → slice_get (slice_range xs a b) (i - a) ≡ Some x
into_range xs a b i x low high e =
    let at : a + (i - a) ≡ i = omega (arith, low) in
    get_taken (drop a xs) (b - a) (i - a) (omega (arith, low, high))
    ∙ (get_dropped xs a (i - a) ∙ (ap (slice_get xs) at ∙ e))
