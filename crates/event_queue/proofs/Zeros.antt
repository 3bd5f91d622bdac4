-- The number of zeros in a list.
use Rattle.std.proofs.Common.{◌≡◌, ◌≢◌, ◌<◌, ◌≤◌, ℕ, zero, suc, ◌+◌, refl, ap, List, [], ◌∷◌}
use Rattle.std.{proofs.Common.{length, arith, set}, specs.Prelude.{All, slice_index_or}}
use Rattle.std.proofs.lemmas.List.Sums.{sum_by-set, sum_by-cons, get_or-le-sum_by}
use Rattle.event_queue.specs.Zeros.{zero_weight, zeros}

weight_no : (x : ℕ) → x ≢ 0 → zero_weight x ≡ 0
weight_no zero ne = absurd (ne refl)
weight_no (suc n) ne = refl

weight_yes : (x : ℕ) → x ≡ 0 → zero_weight x ≡ 1
weight_yes x e = ap zero_weight e

weight_le : (x : ℕ) → zero_weight x ≤ 1
weight_le zero = omega arith
weight_le (suc n) = omega arith

-- one that is 0 is counted
pub zero_counted : (xs : List ℕ) (i : ℕ) → i < length xs → slice_index_or xs i 0 ≡ 0 → 0 < zeros xs
zero_counted xs i lt e =
    let h = get_or-le-sum_by zero_weight xs i 0 lt in
    let w = weight_yes (slice_index_or xs i 0) e in
    omega (arith, h, w)

pub one_less : (xs : List ℕ) (i y : ℕ) → i < length xs → slice_index_or xs i 0 ≡ 0 → y ≢ 0
    → zeros (set xs i y) + 1 ≡ zeros xs
one_less xs i y lt e ne =
    let h = sum_by-set zero_weight xs i y 0 lt in
    let w = weight_yes (slice_index_or xs i 0) e in
    let v = weight_no y ne in
    omega (arith, h, w, v)

pub one_more : (xs : List ℕ) (i : ℕ) → i < length xs → slice_index_or xs i 0 ≢ 0
    → zeros (set xs i 0) ≡ zeros xs + 1
one_more xs i lt ne =
    let h = sum_by-set zero_weight xs i 0 0 lt in
    let w = weight_no (slice_index_or xs i 0) ne in
    omega (arith, h, w)

pub zeros_le : (xs : List ℕ) → zeros xs ≤ length xs
zeros_le [] = omega arith
zeros_le (x ∷ xs) =
    let h = sum_by-cons zero_weight x xs in
    let w = weight_le x in
    let le = zeros_le xs in
    omega (arith, h, w, le)

-- all are 0 exactly if all are counted
pub all_zero : (xs : List ℕ) → zeros xs ≡ length xs → All (λ x. x ≡ 0) xs
all_zero [] e i d lt = absurd (omega (arith, lt))
all_zero (zero ∷ xs) e zero d lt = refl
all_zero (zero ∷ xs) e (suc i) d lt =
    let h = sum_by-cons zero_weight 0 xs in
    all_zero xs (omega (arith, h, e)) i d (omega (arith, lt))
all_zero (suc x ∷ xs) e i d lt =
    let h = sum_by-cons zero_weight (suc x) xs in
    let le = zeros_le xs in
    absurd (omega (arith, h, e, le))

pub zeros_all : (xs : List ℕ) → All (λ x. x ≡ 0) xs → zeros xs ≡ length xs
zeros_all [] a = refl
zeros_all (x ∷ xs) a =
    let h = sum_by-cons zero_weight x xs in
    let w = weight_yes x (a 0 0 (omega arith)) in
    let rest = zeros_all xs (λ i d lt. a (suc i) d (omega (arith, lt))) in
    omega (arith, h, w, rest)

-- of all zeros, also past the end
pub index_zero : (xs : List ℕ) (i : ℕ) → All (λ x. x ≡ 0) xs → slice_index_or xs i 0 ≡ 0
index_zero [] i a = refl
index_zero (x ∷ xs) zero a = a 0 0 (omega arith)
index_zero (x ∷ xs) (suc i) a = index_zero xs i (λ j d lt. a (suc j) d (omega (arith, lt)))
