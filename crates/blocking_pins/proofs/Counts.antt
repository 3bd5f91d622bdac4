-- How many numbers have a property.
use Rattle.std.proofs.Common.{◌≡◌, ◌<◌, ◌≤◌, ◌+◌, ℕ, zero, suc, arith, inl, inr, ◌⊎◌, subst, Bool}
use Rattle.std.{proofs.Common.{false, refl, true}, specs.Prelude.if◌then◌else◌}
use Rattle.std.proofs.lemmas.Bool.{false≢true}
use Rattle.blocking_pins.specs.Blocking.{HaveCount, HaveCount.{none, counted, skipped}}

pub count_within : (P : ℕ → Type 0) (n k : ℕ) → HaveCount P n k → k ≤ n
count_within P zero zero none = omega arith
count_within P zero (suc k) h = elim h [ ]
count_within P (suc n) (suc k) (counted h on) = let le = count_within P n k h in omega (arith, le)
count_within P (suc n) k (skipped h off) = let le = count_within P n k h in omega (arith, le)

before_or : (i n : ℕ) → i < suc n → (i < n) ⊎ (i ≡ n)
before_or i n lt = grind (arith, lt)

-- some number has the property
pub count_some : (P : ℕ → Type 0) (n k i : ℕ) → HaveCount P n k → i < n → P i → 0 < k
count_some P zero k i h lt on = absurd (omega (arith, lt))
count_some P (suc n) (suc k) i (counted h is) lt on = omega arith
count_some P (suc n) k i (skipped h off) lt on =
    go (λ below. count_some P n k i h below on) (before_or i n lt)
  where
    go : (i < n → 0 < k) → (i < n) ⊎ (i ≡ n) → 0 < k
    go more (inl below) = more below
    go more (inr same) = absurd (off (subst P same on))

-- properties that say the same of the numbers below one
pub count_same : (P Q : ℕ → Type 0) (n k : ℕ) → ((i : ℕ) → i < n → P i → Q i)
    → ((i : ℕ) → i < n → Q i → P i) → HaveCount P n k → HaveCount Q n k
count_same P Q zero zero to from none = none
count_same P Q zero (suc k) to from h = elim h [ ]
count_same P Q (suc n) (suc k) to from (counted h on) =
    counted (count_same P Q n k (λ i lt. to i (omega (arith, lt)))
    (λ i lt. from i (omega (arith, lt))) h) (to n (omega arith) on)
count_same P Q (suc n) k to from (skipped h off) =
    skipped (count_same P Q n k (λ i lt. to i (omega (arith, lt)))
    (λ i lt. from i (omega (arith, lt))) h) (λ q. off (from n (omega arith) q))

-- one number more
pub count_next : (P : ℕ → Type 0) (n k : ℕ) (b : Bool) → HaveCount P n k
    → (b ≡ true → P n) → (P n → b ≡ true) → HaveCount P (n + 1) (k + (if b then 1 else 0))
count_next P n k true h to from =
    let e : suc n ≡ n + 1 = omega arith in
    let f : suc k ≡ k + 1 = omega arith in
    subst (λ m. HaveCount P m (k + 1)) e (subst (HaveCount P (suc n)) f (counted h (to refl)))
count_next P n k false h to from =
    let e : suc n ≡ n + 1 = omega arith in
    let f : k ≡ k + 0 = omega arith in
    subst (λ m. HaveCount P m (k + 0)) e
    (subst (HaveCount P (suc n)) f (skipped h (λ p. false≢true (from p))))

-- a number that has the property
pub count_found : (P : ℕ → Type 0) (n k : ℕ) → HaveCount P n k → 0 < k → (i : ℕ) × (i < n) × P i
count_found P zero zero none lt = absurd (omega (arith, lt))
count_found P zero (suc k) h lt = elim h [ ]
count_found P (suc n) (suc k) (counted h on) lt = (n, omega arith, on)
count_found P (suc n) k (skipped h off) lt =
    let w = count_found P n k h lt in
    let low = w.1 in (w.0, omega (arith, low), w.2)
