-- The parts of a wide word that has lanes in one slot or the same lanes in each.
use Rattle.std.proofs.Common.{◌≡◌, ◌≢◌, ◌<◌, ◌≤◌, ℕ, zero, suc, ◌+◌, ◌*◌, ◌/◌, ◌%◌, refl, ◌∙◌, ap}
use Rattle.std.proofs.Common.{arith, List, [], ◌∷◌, get_or, set, inl, inr, ◌⊎◌}
use Rattle.std.proofs.lemmas.{Bool.cases_lt, List.{get_or-set_other, get_or-set_same, length-set}}
use Rattle.std.proofs.lemmas.Simd.{get_or-replicate}
use Rattle.wide_words.specs.{Lanes.lane, Layouts.one_of}

abbrev pub zeros : List ℕ
zeros = 0 ∷ 0 ∷ 0 ∷ 0 ∷ 0 ∷ 0 ∷ 0 ∷ 0 ∷ []

zeros_at : (p : ℕ) → p < 8 → get_or zeros p 0 ≡ 0
zeros_at p lt = get_or-replicate 8 p 0 0 lt

-- ---- one part is written
pub one_same : (slot part p : ℕ) → slot < 8 → p ≡ slot → get_or (set zeros slot part) p 0 ≡ part
one_same slot part p lt e =
    ap (λ i. get_or (set zeros slot part) i 0) e ∙ get_or-set_same zeros slot part 0 (omega (
      arith,
      lt,
    ))

pub one_other : (slot part p : ℕ) → p < 8 → p ≢ slot → get_or (set zeros slot part) p 0 ≡ 0
one_other slot part p lt ne = get_or-set_other zeros slot p part 0 ne ∙ zeros_at p lt

-- ---- two parts are written
module _ (slot low high p : ℕ) where
  abbrev pub two : List ℕ
  two = set (set zeros (2 * slot) low) (2 * slot + 1) high

  pub two_low : slot < 4 → p ≡ 2 * slot → get_or two p 0 ≡ low
  two_low lt e =
      get_or-set_other (set zeros (2 * slot) low) (2 * slot + 1) p high 0 (omega (arith, e))
      ∙ one_same (2 * slot) low p (omega (arith, lt)) e

  pub two_high : slot < 4 → p ≡ 2 * slot + 1 → get_or two p 0 ≡ high
  two_high lt e =
      let long = length-set zeros (2 * slot) low in
      ap (λ i. get_or two i 0) e
      ∙ get_or-set_same (set zeros (2 * slot) low) (2 * slot + 1) high 0 (omega (arith, lt, long))

  pub two_other : p < 8 → p ≢ 2 * slot → p ≢ 2 * slot + 1 → get_or two p 0 ≡ 0
  two_other lt first second =
      get_or-set_other (set zeros (2 * slot) low) (2 * slot + 1) p high 0 second
      ∙ one_other (2 * slot) low p lt first

-- ---- two parts in turn
module _ (low high : ℕ) where
  abbrev pub in_turn : List ℕ
  in_turn = low ∷ high ∷ low ∷ high ∷ low ∷ high ∷ low ∷ high ∷ []

  even_part : (q : ℕ) → q < 4 → get_or in_turn (2 * q) 0 ≡ low
  even_part zero lt = refl
  even_part (suc zero) lt = refl
  even_part (suc (suc zero)) lt = refl
  even_part (suc (suc (suc zero))) lt = refl
  even_part (suc (suc (suc (suc q)))) lt = absurd (omega (arith, lt))

  odd_part : (q : ℕ) → q < 4 → get_or in_turn (2 * q + 1) 0 ≡ high
  odd_part zero lt = refl
  odd_part (suc zero) lt = refl
  odd_part (suc (suc zero)) lt = refl
  odd_part (suc (suc (suc zero))) lt = refl
  odd_part (suc (suc (suc (suc q)))) lt = absurd (omega (arith, lt))

  module _ (word : ℕ) (first : (k : ℕ) → k < 64 → lane low k ≡ lane word k)
      (second : (k : ℕ) → k < 64 → lane high k ≡ lane word (64 + k)) where
    pub in_turn_lane : (k : ℕ) → k < 512
        → lane (get_or in_turn (k / 64) 0) (k % 64) ≡ lane word (0 + k % 128)
    in_turn_lane k lt = go (cases_lt (k % 128) 64)
      where
        go : (k % 128 < 64) ⊎ (64 ≤ k % 128)
            → lane (get_or in_turn (k / 64) 0) (k % 64) ≡ lane word (0 + k % 128)
        go (inl few) =
            let part : k / 64 ≡ 2 * (k / 128) = omega (arith, few) in
            let same : k % 64 ≡ 0 + k % 128 = omega (arith, few) in
            let within : k / 128 < 4 = omega (arith, lt) in
            ap (λ p. lane (get_or in_turn p 0) (k % 64)) part
            ∙ (ap (λ x. lane x (k % 64)) (even_part (k / 128) within)
            ∙ (first (k % 64) (omega arith) ∙ ap (lane word) same))
        go (inr up) =
            let part : k / 64 ≡ 2 * (k / 128) + 1 = omega (arith, up) in
            let same : 64 + k % 64 ≡ 0 + k % 128 = omega (arith, up) in
            let within : k / 128 < 4 = omega (arith, lt) in
            ap (λ p. lane (get_or in_turn p 0) (k % 64)) part
            ∙ (ap (λ x. lane x (k % 64)) (odd_part (k / 128) within)
            ∙ (second (k % 64) (omega arith) ∙ ap (lane word) same))

-- ---- the parts of four words
module _ (l0 h0 l1 h1 l2 h2 l3 h3 : ℕ) where
  abbrev pub of_four : List ℕ
  of_four = l0 ∷ h0 ∷ l1 ∷ h1 ∷ l2 ∷ h2 ∷ l3 ∷ h3 ∷ []

  low_of : (q : ℕ) → q < 4 → get_or of_four (2 * q) 0 ≡ one_of l0 l1 l2 l3 q
  low_of zero lt = refl
  low_of (suc zero) lt = refl
  low_of (suc (suc zero)) lt = refl
  low_of (suc (suc (suc zero))) lt = refl
  low_of (suc (suc (suc (suc q)))) lt = absurd (omega (arith, lt))

  high_of : (q : ℕ) → q < 4 → get_or of_four (2 * q + 1) 0 ≡ one_of h0 h1 h2 h3 q
  high_of zero lt = refl
  high_of (suc zero) lt = refl
  high_of (suc (suc zero)) lt = refl
  high_of (suc (suc (suc zero))) lt = refl
  high_of (suc (suc (suc (suc q)))) lt = absurd (omega (arith, lt))

  module _ (a b c d : ℕ)
      (first : (q k : ℕ) → k < 64 → lane (one_of l0 l1 l2 l3 q) k ≡ lane (one_of a b c d q) k)
      (second : (q k : ℕ) → k < 64
      → lane (one_of h0 h1 h2 h3 q) k ≡ lane (one_of a b c d q) (64 + k)) where
    pub four_lane : (k : ℕ) → k < 512
        → lane (get_or of_four (k / 64) 0) (k % 64) ≡ lane (one_of a b c d (k / 128)) (k % 128)
    four_lane k lt = go (cases_lt (k % 128) 64)
      where
        go : (k % 128 < 64) ⊎ (64 ≤ k % 128)
            → lane (get_or of_four (k / 64) 0) (k % 64) ≡ lane (one_of a b c d (k / 128)) (k % 128)
        go (inl few) =
            let part : k / 64 ≡ 2 * (k / 128) = omega (arith, few) in
            let same : k % 64 ≡ k % 128 = omega (arith, few) in
            let within : k / 128 < 4 = omega (arith, lt) in
            ap (λ p. lane (get_or of_four p 0) (k % 64)) part
            ∙ (ap (λ x. lane x (k % 64)) (low_of (k / 128) within)
            ∙ (first (k / 128) (k % 64) (omega arith) ∙ ap (lane (one_of a b c d (k / 128))) same))
        go (inr up) =
            let part : k / 64 ≡ 2 * (k / 128) + 1 = omega (arith, up) in
            let same : 64 + k % 64 ≡ k % 128 = omega (arith, up) in
            let within : k / 128 < 4 = omega (arith, lt) in
            ap (λ p. lane (get_or of_four p 0) (k % 64)) part
            ∙ (ap (λ x. lane x (k % 64)) (high_of (k / 128) within)
            ∙ (second (k / 128) (k % 64) (omega arith) ∙ ap (lane (one_of a b c d (k / 128))) same))

-- a fact of each of four things is one of that of a slot
pub each_of : {X Y : Type 0} (P : X → Y → Type 0) (a b c d : X) (p q r s : Y)
    → P a p → P b q → P c r → P d s → (n : ℕ) → P (one_of a b c d n) (one_of p q r s n)
each_of P a b c d p q r s one two three four zero = one
each_of P a b c d p q r s one two three four (suc zero) = two
each_of P a b c d p q r s one two three four (suc (suc zero)) = three
each_of P a b c d p q r s one two three four (suc (suc (suc n))) = four

pub at_one_of : {X Y : Type 0} (f : X → Y) (a b c d : X) (n : ℕ)
    → one_of (f a) (f b) (f c) (f d) n ≡ f (one_of a b c d n)
at_one_of f a b c d zero = refl
at_one_of f a b c d (suc zero) = refl
at_one_of f a b c d (suc (suc zero)) = refl
at_one_of f a b c d (suc (suc (suc n))) = refl
