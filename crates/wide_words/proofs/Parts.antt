-- A number by its parts of 64 bits.
use Rattle.std.proofs.Common.{◌≡◌, ◌<◌, ◌≤◌, ℕ, zero, suc, ◌+◌, ◌*◌, ◌-◌, ◌/◌, ◌%◌, ◌^◌, refl, sym}
use Rattle.std.proofs.Common.{◌∙◌, ap, arith, List, [], ◌∷◌, length, get_or, max, true, min, ◌≢◌}
use Rattle.std.{proofs.Common.{◌⊎◌, inl, inr}, specs.Prelude.{All, bit_and, bit_or, bit_xor, ◌==◌}}
use Rattle.std.specs.{Int.{bit_at, trailing_zeros, w64}, Simd.Lanes.{fold_l, number_l, zip2}}
use Rattle.std.proofs.lemmas.{List.Elements.{All-cons, All-nil}, Bool.{cases_eq, eq-eqb, eqb-true}}
use Rattle.std.proofs.lemmas.Nat.Bits.{bit_at-zero, bit_at_cat_low, bit_at_cat_high, bit_at_and}
use Rattle.std.proofs.lemmas.Nat.Bits.{bit_at_or, bit_at_xor, same_from_bits, bit_at-trailing_zeros}
use Rattle.std.proofs.lemmas.{Nat.{le_or_l, le_or_r, or_lt, xor_lt}, Simd.length-zip2}
use Rattle.wide_words.specs.Lanes.{lane}
use lib.Bits.{and_le_r}

abbrev pub Fit : List ℕ → Type 0
Fit xs = All (λ part. part < 2 ^ 64) xs

pub rest_fits : (x : ℕ) (xs : List ℕ) → Fit (x ∷ xs) → Fit xs
rest_fits x xs fits k d lt = fits (suc k) d (omega (arith, lt))

-- bit i of part p
pub bit_of_part : (xs : List ℕ) → Fit xs → (p i : ℕ) → i < 64
    → bit_at (number_l 18446744073709551616 xs) (64 * p + i) ≡ bit_at (get_or xs p 0) i
bit_of_part [] fits p i lt = bit_at-zero (64 * p + i) ∙ sym (bit_at-zero i)
bit_of_part (x ∷ xs) fits zero i lt =
    let rest = number_l 18446744073709551616 xs in
    let parts : x + 18446744073709551616 * rest ≡ rest * 2 ^ 64 + x = omega arith in
    let at : 64 * 0 + i ≡ i = omega arith in
    ap (λ n. bit_at n (64 * 0 + i)) parts
    ∙ (ap (bit_at (rest * 2 ^ 64 + x)) at ∙ bit_at_cat_low rest 64 x i lt)
bit_of_part (x ∷ xs) fits (suc p) i lt =
    let rest = number_l 18446744073709551616 xs in
    let parts : x + 18446744073709551616 * rest ≡ rest * 2 ^ 64 + x = omega arith in
    let back : 64 * suc p + i - 64 ≡ 64 * p + i = omega arith in
    ap (λ n. bit_at n (64 * suc p + i)) parts
    ∙ (bit_at_cat_high rest 64 x (64 * suc p + i) (fits 0 0 (omega arith)) (omega arith)
    ∙ (ap (bit_at rest) back ∙ bit_of_part xs (rest_fits x xs fits) p i lt))

-- ---- two words, part by part
pub zip_at : (f : ℕ → ℕ → ℕ) → f 0 0 ≡ 0 → (xs ys : List ℕ) → length xs ≡ length ys → (p : ℕ)
    → get_or (zip2 f xs ys) p 0 ≡ f (get_or xs p 0) (get_or ys p 0)
zip_at f none [] [] same p = sym none
zip_at f none [] (y ∷ ys) same p = absurd (omega (arith, same))
zip_at f none (x ∷ xs) [] same p = absurd (omega (arith, same))
zip_at f none (x ∷ xs) (y ∷ ys) same zero = refl
zip_at f none (x ∷ xs) (y ∷ ys) same (suc p) = zip_at f none xs ys (omega (arith, same)) p

pub zip_fits : (f : ℕ → ℕ → ℕ) → ((a b : ℕ) → a < 2 ^ 64 → b < 2 ^ 64 → f a b < 2 ^ 64)
    → (xs ys : List ℕ) → Fit xs → Fit ys → Fit (zip2 f xs ys)
zip_fits f closed [] ys some others = All-nil (λ part. part < 2 ^ 64)
zip_fits f closed (x ∷ xs) [] some others = All-nil (λ part. part < 2 ^ 64)
zip_fits f closed (x ∷ xs) (y ∷ ys) some others =
    All-cons (λ part. part < 2 ^ 64) (f x y) (zip2 f xs ys)
    (closed x y (some 0 0 (omega arith)) (others 0 0 (omega arith)))
    (zip_fits f closed xs ys (rest_fits x xs some) (rest_fits y ys others))

part_of : (xs : List ℕ) → Fit xs → (k : ℕ)
    → bit_at (number_l 18446744073709551616 xs) k ≡ bit_at (get_or xs (k / 64) 0) (k % 64)
part_of xs fits k =
    let place : 64 * (k / 64) + k % 64 ≡ k = omega arith in
    ap (bit_at (number_l 18446744073709551616 xs)) (sym place)
    ∙ bit_of_part xs fits (k / 64) (k % 64) (omega arith)

pub lane_of : (xs : List ℕ) → Fit xs → (k : ℕ)
    → lane (number_l 18446744073709551616 xs) k ≡ lane (get_or xs (k / 64) 0) (k % 64)
lane_of xs fits k = ap (λ b. b == 1) (part_of xs fits k)

pub lane_at : (xs : List ℕ) → Fit xs → (p k : ℕ) → k < 64
    → lane (get_or xs p 0) k ≡ lane (number_l 18446744073709551616 xs) (64 * p + k)
lane_at xs fits p k lt = ap (λ b. b == 1) (sym (bit_of_part xs fits p k lt))

pub number_zip : (f g : ℕ → ℕ → ℕ) → f 0 0 ≡ 0
    → ((a b : ℕ) → a < 2 ^ 64 → b < 2 ^ 64 → f a b < 2 ^ 64)
    → ((a b i : ℕ) → bit_at (f a b) i ≡ g (bit_at a i) (bit_at b i))
    → (xs ys : List ℕ) → length xs ≡ length ys → Fit xs → Fit ys
    → number_l 18446744073709551616 (zip2 f xs ys)
    ≡ f (number_l 18446744073709551616 xs) (number_l 18446744073709551616 ys)
number_zip f g none closed bits xs ys same some others =
    same_from_bits (number_l 18446744073709551616 (zip2 f xs ys))
    (f (number_l 18446744073709551616 xs) (number_l 18446744073709551616 ys)) at
  where
    at : (k : ℕ) → bit_at (number_l 18446744073709551616 (zip2 f xs ys)) k
        ≡ bit_at (f (number_l 18446744073709551616 xs) (number_l 18446744073709551616 ys)) k
    at k = part_of (zip2 f xs ys) (zip_fits f closed xs ys some others) k
        ∙ (ap (λ x. bit_at x (k % 64)) (zip_at f none xs ys same (k / 64))
        ∙ (bits (get_or xs (k / 64) 0) (get_or ys (k / 64) 0) (k % 64)
        ∙ (ap (λ b. g b (bit_at (get_or ys (k / 64) 0) (k % 64))) (sym (part_of xs some k))
        ∙ (ap (g (bit_at (number_l 18446744073709551616 xs) k)) (sym (part_of ys others k))
        ∙ sym (bits (number_l 18446744073709551616 xs) (number_l 18446744073709551616 ys) k)))))

pub room_zip : (f : ℕ → ℕ → ℕ) (xs ys : List ℕ) → length xs ≡ 8 → length ys ≡ 8
    → length (zip2 f xs ys) ≡ 8
room_zip f xs ys some others =
    let long = length-zip2 f xs ys (some ∙ sym others) in omega (arith, long, some)

pub and_fits : (xs ys : List ℕ) → Fit xs → Fit ys → Fit (zip2 bit_and xs ys)
and_fits xs ys some others =
    zip_fits bit_and (λ a b lt gt. let le = and_le_r a b in omega (arith, le, gt)) xs ys some others

pub or_fits : (xs ys : List ℕ) → Fit xs → Fit ys → Fit (zip2 bit_or xs ys)
or_fits xs ys some others = zip_fits bit_or (or_lt 64) xs ys some others

pub xor_fits : (xs ys : List ℕ) → Fit xs → Fit ys → Fit (zip2 bit_xor xs ys)
xor_fits xs ys some others = zip_fits bit_xor (xor_lt 64) xs ys some others

pub number_and : (xs ys : List ℕ) → length xs ≡ 8 → length ys ≡ 8 → Fit xs → Fit ys
    → number_l 18446744073709551616 (zip2 bit_and xs ys)
    ≡ bit_and (number_l 18446744073709551616 xs) (number_l 18446744073709551616 ys)
number_and xs ys long same some others =
    number_zip bit_and min refl (λ a b lt gt. let le = and_le_r a b in omega (arith, le, gt))
    bit_at_and xs ys (long ∙ sym same) some others

pub number_or : (xs ys : List ℕ) → length xs ≡ 8 → length ys ≡ 8 → Fit xs → Fit ys
    → number_l 18446744073709551616 (zip2 bit_or xs ys)
    ≡ bit_or (number_l 18446744073709551616 xs) (number_l 18446744073709551616 ys)
number_or xs ys long same some others =
    number_zip bit_or max refl (or_lt 64) bit_at_or xs ys (long ∙ sym same) some others

pub number_xor : (xs ys : List ℕ) → length xs ≡ 8 → length ys ≡ 8 → Fit xs → Fit ys
    → number_l 18446744073709551616 (zip2 bit_xor xs ys)
    ≡ bit_xor (number_l 18446744073709551616 xs) (number_l 18446744073709551616 ys)
number_xor xs ys long same some others =
    number_zip bit_xor (λ a b. (a + b) % 2) refl (xor_lt 64) bit_at_xor xs ys (long ∙ sym same)
    some others

-- ---- a word of which all parts joined are 0
joined_from : (a : ℕ) (xs : List ℕ) → fold_l bit_or a xs ≡ 0
    → (a ≡ 0) × (number_l 18446744073709551616 xs ≡ 0)
joined_from a [] e = (e, refl)
joined_from a (x ∷ xs) e =
    let h = joined_from (bit_or a x) xs e in
    let left = le_or_l a x in
    let right : x ≤ bit_or a x = le_or_r a x in
    let rest : number_l 18446744073709551616 xs ≡ 0 = h.1 in
    let first : a ≡ 0 = omega (arith, left, h.0) in
    let none : x ≡ 0 = omega (arith, right, h.0) in
    (first, omega (arith, rest, none))

from_joined : (xs : List ℕ) → number_l 18446744073709551616 xs ≡ 0 → fold_l bit_or 0 xs ≡ 0
from_joined [] e = refl
from_joined (x ∷ xs) e =
    let none : x ≡ 0 = omega (arith, e) in
    let rest : number_l 18446744073709551616 xs ≡ 0 = omega (arith, e) in
    ap (λ y. fold_l bit_or (bit_or 0 y) xs) none ∙ from_joined xs rest

pub joined_none : (xs : List ℕ) → (fold_l bit_or 0 xs == 0) ≡ true
    → number_l 18446744073709551616 xs ≡ 0
joined_none xs e = (joined_from 0 xs (eqb-true (fold_l bit_or 0 xs) 0 e)).1

pub none_joined : (xs : List ℕ) → number_l 18446744073709551616 xs ≡ 0
    → (fold_l bit_or 0 xs == 0) ≡ true
none_joined xs e = eq-eqb (fold_l bit_or 0 xs) 0 (from_joined xs e)

-- ---- a word that is not 0 has a lane that is 1
some_part : (xs : List ℕ) → number_l 18446744073709551616 xs ≢ 0
    → (p : ℕ) × (p < length xs) × (get_or xs p 0 ≢ 0)
some_part [] ne = absurd (ne refl)
some_part (x ∷ xs) ne = go (cases_eq x 0) (λ some. some_part xs some)
  where
    go : (x ≡ 0) ⊎ (x ≢ 0) → (number_l 18446744073709551616 xs ≢ 0
        → (p : ℕ) × (p < length xs) × (get_or xs p 0 ≢ 0))
        → (p : ℕ) × (p < length (x ∷ xs)) × (get_or (x ∷ xs) p 0 ≢ 0)
    go (inr some) rest = (0, omega arith, some)
    go (inl e) rest =
        let p = rest (λ none. ne (omega (arith, e, none))) in
        let lt = p.1 in (suc p.0, omega (arith, lt), p.2)

pub some_lane : (xs : List ℕ) → Fit xs → length xs ≡ 8 → number_l 18446744073709551616 xs ≢ 0
    → (k : ℕ) × (k < 512) × (lane (number_l 18446744073709551616 xs) k ≡ true)
some_lane xs fits long ne =
    let p = some_part xs ne in
    let part = get_or xs p.0 0 in
    let some = p.2 in
    let low = p.1 in
    let found = bit_at-trailing_zeros w64 part (omega (arith, some)) (fits p.0 0 low) in
    let k = trailing_zeros w64 part in
    let lt : k < 64 = found.0 in (
      64 * p.0 + k,
      omega (arith, lt, low, long),
      sym (lane_at xs fits p.0 k lt) ∙ ap (λ b. b == 1) found.1,
    )
