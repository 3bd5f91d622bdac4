-- What the operations on words of a block do in a lane.
use Rattle.std.proofs.Common.{◌≡◌, ◌<◌, ◌≤◌, ◌^◌, ◌*◌, ◌/◌, ◌%◌, ◌+◌, ◌-◌, ◌∙◌, ◌&&◌, ◌||◌, ◌⊎◌, ℕ}
use Rattle.std.proofs.Common.{◌≢◌, zero, suc, Bool, true, false, ap, arith, inl, inr, max, min, not}
use Rattle.std.{proofs.Common.{refl, subst, sym}, specs.Prelude.{◌==◌, ◌↔◌, bit_and, bit_or}}
use Rattle.std.specs.{Bool.Decides, Int.{bit_at, bit_not, trailing_zeros, w64}}
use Rattle.std.specs.Int.Count.{trailing_of_zero}
use Rattle.std.proofs.lemmas.Bool.{and_parts, cases_eq, cases_lt, eq-eqb, eqb-true, false≢true}
use Rattle.std.proofs.lemmas.Nat.Bits.{bit_at-lt, bit_at-suc, bit_at-trailing_zeros, bit_at-zero}
use Rattle.std.proofs.lemmas.Nat.Bits.{bit_at_above, bit_at_and, bit_at_cat_high, bit_at_cat_low}
use Rattle.std.proofs.lemmas.Nat.Bits.{bit_at_lowest, bit_at_not, bit_at_ones, bit_at_or}
use Rattle.fault_model.specs.Detection.{IsSecondOfPair}
use Rattle.flat_circuit.specs.Words.{lane}

two : (x : ℕ) → x < 2 → (x ≡ 0) ⊎ (x ≡ 1)
two zero lt = inl refl
two (suc zero) lt = inr refl
two (suc (suc x)) lt = absurd (omega (arith, lt))

pub lane_and : (a b k : ℕ) → lane (bit_and a b) k ≡ (lane a k && lane b k)
lane_and a b k = rw (bit_at_and a b k) (go (bit_at a k) (bit_at b k) (two _ (bit_at-lt a k))
    (two _ (bit_at-lt b k)))
  where
    go : (x y : ℕ) → (x ≡ 0) ⊎ (x ≡ 1) → (y ≡ 0) ⊎ (y ≡ 1) → (min x y == 1) ≡ (x == 1 && y == 1)
    go x y (inl e) (inl g) = rw (e, g) refl
    go x y (inl e) (inr g) = rw (e, g) refl
    go x y (inr e) (inl g) = rw (e, g) refl
    go x y (inr e) (inr g) = rw (e, g) refl

lane_or : (a b k : ℕ) → lane (bit_or a b) k ≡ (lane a k || lane b k)
lane_or a b k = rw (bit_at_or a b k) (go (bit_at a k) (bit_at b k) (two _ (bit_at-lt a k))
    (two _ (bit_at-lt b k)))
  where
    go : (x y : ℕ) → (x ≡ 0) ⊎ (x ≡ 1) → (y ≡ 0) ⊎ (y ≡ 1) → (max x y == 1) ≡ (x == 1 || y == 1)
    go x y (inl e) (inl g) = rw (e, g) refl
    go x y (inl e) (inr g) = rw (e, g) refl
    go x y (inr e) (inl g) = rw (e, g) refl
    go x y (inr e) (inr g) = rw (e, g) refl

lane_not : (a k : ℕ) → a < 2 ^ 64 → k < 64 → lane (bit_not w64 a) k ≡ not (lane a k)
lane_not a k fits lt = rw (bit_at_not w64 a k fits lt) (go (bit_at a k) (two _ (bit_at-lt a k)))
  where
    go : (x : ℕ) → (x ≡ 0) ⊎ (x ≡ 1) → (1 - x == 1) ≡ not (x == 1)
    go x (inl e) = rw e refl
    go x (inr e) = rw e refl

pub lane_ones : (size k : ℕ) → k < size → lane (2 ^ size - 1) k ≡ true
lane_ones size k lt = rw (bit_at_ones size k lt) refl

-- the lanes with a bit, by its value
pub with_true : (word k : ℕ) (bit : Bool) → bit ≡ true → (lane word k ≡ true) ↔ (lane word k ≡ bit)
with_true word k bit is = (λ e. e ∙ sym is, λ e. e ∙ is)

pub with_false : (word k : ℕ) (bit : Bool) → word < 2 ^ 64 → k < 64 → bit ≡ false
    → (lane (bit_not w64 word) k ≡ true) ↔ (lane word k ≡ bit)
with_false word k bit few lt is = (
  λ e. turned (lane word k) (sym turn ∙ e) ∙ sym is,
  λ e. turn ∙ ap not (e ∙ is),
)
  where
    turn : lane (bit_not w64 word) k ≡ not (lane word k)
    turn = lane_not word k few lt

    turned : (b : Bool) → not b ≡ true → b ≡ false
    turned false e = refl
    turned true e = sym e

-- a lane of two words is 1 where it is in both
pub both_decide : (a b k : ℕ) (P Q : Type 0) → Decides (lane a k) P → Decides (lane b k) Q
    → Decides (lane (bit_and a b) k) (P × Q)
both_decide a b k P Q p q = (there, back)
  where
    there : lane (bit_and a b) k ≡ true → P × Q
    there e = let parts = and_parts (lane a k) (lane b k) (sym (lane_and a b k) ∙ e) in
        (p.0 parts.0, q.0 parts.1)

    back : P × Q → lane (bit_and a b) k ≡ true
    back h = lane_and a b k ∙ (ap (λ x. x && lane b k) (p.1 h.0) ∙ q.1 h.1)

-- a word one up has 0 in lane 0, and in the next its lane
up_first : (w : ℕ) → lane (w * 2 % 2 ^ 64) 0 ≡ false
up_first w = let even : w * 2 % 2 ^ 64 % 2 ≡ 0 = omega arith in
    ap (λ x. x == 1) (bit_at_lowest (w * 2 % 2 ^ 64) ∙ even)

low : (w k : ℕ) → k < 63 → bit_at (w % 2 ^ 63) k ≡ bit_at w k
low w k lt = let parts : w ≡ w / 2 ^ 63 * 2 ^ 63 + w % 2 ^ 63 = omega arith in
    sym (bit_at_cat_low (w / 2 ^ 63) 63 (w % 2 ^ 63) k lt) ∙ ap (λ x. bit_at x k) (sym parts)

up_later : (w k : ℕ) → k < 63 → lane (w * 2 % 2 ^ 64) (suc k) ≡ lane w k
up_later w k lt =
    let half : w * 2 % 2 ^ 64 / 2 ≡ w % 2 ^ 63 = omega arith in
    ap (λ x. x == 1) (bit_at-suc (w * 2 % 2 ^ 64) k ∙ (ap (λ x. bit_at x k) half ∙ low w k lt))

-- the highest lane of a word, brought to lane 0, leaves the others 0
down_first : (w : ℕ) → lane (w / 2 ^ 63) 0 ≡ lane w 63
down_first w =
    let parts : w / 2 ^ 63 * 2 ^ 63 + w % 2 ^ 63 ≡ w = omega arith in
    let few : w % 2 ^ 63 < 2 ^ 63 = omega arith in
    ap (λ x. x == 1) (sym (bit_at_cat_high (w / 2 ^ 63) 63 (w % 2 ^ 63) 63 few (omega arith))
    ∙ ap (λ x. bit_at x 63) parts)

down_later : (w k : ℕ) → w < 2 ^ 64 → lane (w / 2 ^ 63) (suc k) ≡ false
down_later w k fits = let few : w / 2 ^ 63 < 2 ^ 1 = omega (arith, fits) in
    ap (λ x. x == 1) (bit_at_above (w / 2 ^ 63) 1 (suc k) few (omega arith))

or_none : (b : Bool) → (b || false) ≡ b
or_none true = refl
or_none false = refl

pub before_first : (w last : ℕ) → lane (bit_or (w * 2 % 2 ^ 64) (last / 2 ^ 63)) 0 ≡ lane last 63
before_first w last = lane_or (w * 2 % 2 ^ 64) (last / 2 ^ 63) 0
    ∙ (ap (λ b. b || lane (last / 2 ^ 63) 0) (up_first w) ∙ down_first last)

pub before_later : (w last k : ℕ) → last < 2 ^ 64 → k < 63
    → lane (bit_or (w * 2 % 2 ^ 64) (last / 2 ^ 63)) (suc k) ≡ lane w k
before_later w last k fits lt = lane_or (w * 2 % 2 ^ 64) (last / 2 ^ 63) (suc k)
    ∙ (ap (λ b. lane (w * 2 % 2 ^ 64) (suc k) || b) (down_later last k fits)
    ∙ (or_none (lane (w * 2 % 2 ^ 64) (suc k)) ∙ up_later w k lt))

-- all lanes but the first
pub later_ones : (j : ℕ) → j < 63 → lane 18446744073709551614 (suc j) ≡ true
later_ones j lt = ap (λ x. x == 1) (bit_at-suc 18446744073709551614 j) ∙ lane_ones 63 j lt

odd_second : (t : ℕ) → t % 2 ≡ 1 → IsSecondOfPair t
odd_second t e = (t / 2, omega (arith, e))

second_odd : (t : ℕ) → IsSecondOfPair t → t % 2 ≡ 1
second_odd t h = let e : t ≡ 2 * h.0 + 1 = h.1 in omega (arith, e)

abbrev passes_below : (ℕ → Bool) → ℕ → Bool
passes_below p zero = true
passes_below p (suc n) = p n && passes_below p n

passes : (p : ℕ → Bool) (n k : ℕ) → passes_below p n ≡ true → k < n → p k ≡ true
passes p zero k e lt = absurd (omega (arith, lt))
passes p (suc n) k e lt = go (passes p n k (and_parts (p n) (passes_below p n) e).1) (cases_lt k n)
  where
    go : (k < n → p k ≡ true) → (k < n) ⊎ (n ≤ k) → p k ≡ true
    go below (inl l) = below l
    go below (inr g) = let same : n ≡ k = omega (arith, lt, g) in
        subst (λ j. p j ≡ true) same (and_parts (p n) (passes_below p n) e).0

-- the word whose lanes of odd number are 1
odd_lanes : (k : ℕ) → k < 64 → bit_at 12297829382473034410 k ≡ k % 2
odd_lanes k lt = eqb-true _ _ (passes (λ j. bit_at 12297829382473034410 j == j % 2) 64 k refl lt)

pub seconds_decide : (block k : ℕ) → k < 64
    → Decides (lane 12297829382473034410 k) (IsSecondOfPair (64 * block + k))
seconds_decide block k lt = (there, back)
  where
    is : lane 12297829382473034410 k ≡ (k % 2 == 1)
    is = ap (λ x. x == 1) (odd_lanes k lt)

    there : lane 12297829382473034410 k ≡ true → IsSecondOfPair (64 * block + k)
    there e = let odd : k % 2 ≡ 1 = eqb-true (k % 2) 1 (sym is ∙ e) in
        odd_second (64 * block + k) (omega (arith, odd))

    back : IsSecondOfPair (64 * block + k) → lane 12297829382473034410 k ≡ true
    back h = let odd = second_odd (64 * block + k) h in is ∙ eq-eqb (k % 2) 1 (omega (arith, odd))

-- a word without a lane that is 1 has no such test
pub no_lane : (P : ℕ → Type 0) (block word size : ℕ)
    → ((k : ℕ) → k < size → Decides (lane word k) (P (64 * block + k))) → word ≡ 0 → (t : ℕ)
    → 64 * block ≤ t → t < 64 * block + size → P t → ⊥
no_lane P block word size decides none t from lt h =
    let k = t - 64 * block in
    let is : t ≡ 64 * block + k = omega (arith, from) in
    let shown : lane word k ≡ true = (decides k (omega (arith, from, lt))).1 (subst P is h) in
    false≢true (sym (ap (λ w. lane w k) none ∙ ap (λ x. x == 1) (bit_at-zero k)) ∙ shown)

module _ (P : ℕ → Type 0) (block word size : ℕ) (few : word < 2 ^ 64)
    (decides : (k : ℕ) → k < size → Decides (lane word k) (P (64 * block + k))) where
  -- a word with a lane below the size of the block has such a test
  pub some_lane : size ≤ 64 → trailing_zeros w64 word < size
      → (t : ℕ) × (64 * block ≤ t) × (t < 64 * block + size) × P t
  some_lane most lt = go (cases_eq word 0)
    where
      k : ℕ
      k = trailing_zeros w64 word

      go : (word ≡ 0) ⊎ (word ≢ 0) → (t : ℕ) × (64 * block ≤ t) × (t < 64 * block + size) × P t
      go (inl none) =
          let all : k ≡ 64 = ap (trailing_zeros w64) none ∙ trailing_of_zero 64 in
          absurd (omega (arith, all, lt, most))
      go (inr some) =
          let least = bit_at-trailing_zeros w64 word (omega (arith, some)) few in (
            64 * block + k,
            omega arith,
            omega (arith, lt),
            (decides k lt).0 (ap (λ x. x == 1) least.1),
          )

  -- and a word of a block that has one has such a lane
  pub lane_below : (t : ℕ) → 64 * block ≤ t → t < 64 * block + size → P t
      → trailing_zeros w64 word < size
  lane_below t from lt h = go (cases_eq word 0)
    where
      k : ℕ
      k = t - 64 * block

      below : k < size
      below = omega (arith, from, lt)

      is : t ≡ 64 * block + k
      is = omega (arith, from)

      shown : lane word k ≡ true
      shown = (decides k below).1 (subst P is h)

      go : (word ≡ 0) ⊎ (word ≢ 0) → trailing_zeros w64 word < size
      go (inl none) = absurd (false≢true (sym (ap (λ w. lane w k) none
          ∙ ap (λ x. x == 1) (bit_at-zero k)) ∙ shown))
      go (inr some) = last (cases_lt k (trailing_zeros w64 word))
        where
          last : (k < trailing_zeros w64 word) ⊎ (trailing_zeros w64 word ≤ k)
              → trailing_zeros w64 word < size
          last (inl lower) =
              let least = bit_at-trailing_zeros w64 word (omega (arith, some)) few in
              absurd (false≢true (sym (ap (λ x. x == 1) (least.2 k lower)) ∙ shown))
          last (inr up) = omega (arith, up, below)
