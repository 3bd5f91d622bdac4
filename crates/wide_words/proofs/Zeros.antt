-- How many numbers of a list are 0.
use Rattle.std.proofs.Common.{◌≡◌, ◌≢◌, ◌<◌, ℕ, zero, suc, ◌+◌, refl, ap, List, [], ◌∷◌, length}
use Rattle.std.{proofs.Common.{arith, set}, specs.Prelude.{All, slice_index_or}}
use Rattle.std.proofs.lemmas.List.Sums.{sum_by-set, sum_by-cons, get_or-le-sum_by}
use Rattle.wide_words.specs.WideOverlay.{zero_weight, zeros}

weight_no : (x : ℕ) → x ≢ 0 → zero_weight x ≡ 0
weight_no zero ne = absurd (ne refl)
weight_no (suc n) ne = refl

weight_yes : (x : ℕ) → x ≡ 0 → zero_weight x ≡ 1
weight_yes x e = ap zero_weight e

-- one that is 0 is counted
pub zero_counted : (xs : List ℕ) (i : ℕ) → i < length xs → slice_index_or xs i 0 ≡ 0 → 0 < zeros xs
zero_counted xs i lt e =
    let h = get_or-le-sum_by zero_weight xs i 0 lt in
    let w = weight_yes (slice_index_or xs i 0) e in
    omega (arith, h, w)

pub one_less : (xs : List ℕ) (i y : ℕ) → i < length xs → slice_index_or xs i 0 ≡ 0 → y ≢ 0
    → zeros (set xs i y) + 1 ≡ zeros xs
one_less xs i y lt e ne =
    let h = sum_by-set zero_weight xs i y 0 lt in
    let w = weight_yes (slice_index_or xs i 0) e in
    let v = weight_no y ne in
    omega (arith, h, w, v)

pub zeros_all : (xs : List ℕ) → All (λ x. x ≡ 0) xs → zeros xs ≡ length xs
zeros_all [] a = refl
zeros_all (x ∷ xs) a =
    let h = sum_by-cons zero_weight x xs in
    let w = weight_yes x (a 0 0 (omega arith)) in
    let rest = zeros_all xs (λ i d lt. a (suc i) d (omega (arith, lt))) in
    omega (arith, h, w, rest)

-- of all zeros, also past the end
pub index_zero : (xs : List ℕ) (i : ℕ) → All (λ x. x ≡ 0) xs → slice_index_or xs i 0 ≡ 0
index_zero [] i a = refl
index_zero (x ∷ xs) zero a = a 0 0 (omega arith)
index_zero (x ∷ xs) (suc i) a = index_zero xs i (λ j d lt. a (suc j) d (omega (arith, lt)))
