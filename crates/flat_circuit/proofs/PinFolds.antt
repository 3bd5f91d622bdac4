-- The folds over the bits of a gate's pins, bit by bit: all of them are 1, an odd number is.
use Rattle.std.proofs.Common.{◌≡◌, ◌<◌, ℕ, ◌+◌, refl, sym, ◌∙◌, ap, Bool, true, false, not, ◌&&◌}
use Rattle.std.proofs.Common.{List, [], ◌∷◌, ◌++◌, length, map, take, arith, inl, inr, ◌⊎◌}
use Rattle.std.specs.{Prelude.slice_index_or, List.list_all}
use Rattle.std.proofs.lemmas.List.{get_or-map, length-map, take_all, take_more, Folds.list_all_more}
use Rattle.fault_model.specs.Solution.{is_odd}
use Rattle.flat_circuit.proofs.Lanes.{unlike}

unlike_not : (x b : Bool) → not (unlike x b) ≡ unlike (not x) b
unlike_not true true = refl
unlike_not true false = refl
unlike_not false true = refl
unlike_not false false = refl

odd_push : (bits : List Bool) (b : Bool) → is_odd (bits ++ b ∷ []) ≡ unlike (is_odd bits) b
odd_push [] true = refl
odd_push [] false = refl
odd_push (true ∷ bits) b = ap not (odd_push bits b) ∙ unlike_not (is_odd bits) b
odd_push (false ∷ bits) b = odd_push bits b

-- ---- folds over the first bits
and_true : (b : Bool) → (b && true) ≡ b
and_true true = refl
and_true false = refl

and_same : (b : Bool) → (b && b) ≡ b
and_same true = refl
and_same false = refl

odd_one : (b : Bool) → is_odd (b ∷ []) ≡ b
odd_one true = refl
odd_one false = refl

first_bit : (bits : List Bool) → 0 < length bits → take 1 bits ≡ slice_index_or bits 0 false ∷ []
first_bit [] lt = absurd (omega (arith, lt))
first_bit (b ∷ bits) lt = refl

module _ (p : Bool → Bool) (bits : List Bool) where
  first_all : 0 < length bits → list_all p (take 1 bits) ≡ p (slice_index_or bits 0 false)
  first_all lt = ap (list_all p) (first_bit bits lt) ∙ and_true (p (slice_index_or bits 0 false))

  last_all : (i last : ℕ) → length bits ≡ last + 1 → (i ≡ last) ⊎ ((i ≡ 1) × (last ≡ 0))
      → (list_all p (take i bits) && p (slice_index_or bits last false)) ≡ list_all p bits
  last_all i last count (inl e) =
      ap (λ n. list_all p (take n bits) && p (slice_index_or bits last false)) e
      ∙ (sym (list_all_more p bits last false (omega (arith, count)))
      ∙ ap (list_all p) (take_all (last + 1) bits (omega (arith, count))))
  last_all i last count (inr (one, none)) =
      let some : 0 < length bits = omega (arith, count) in
      ap (λ n. list_all p (take n bits) && p (slice_index_or bits last false)) one
      ∙ (ap (λ b. b && p (slice_index_or bits last false)) (first_all some)
      ∙ (ap (λ n. p (slice_index_or bits 0 false) && p (slice_index_or bits n false)) none
      ∙ (and_same (p (slice_index_or bits 0 false))
      ∙ (sym (first_all some) ∙ ap (list_all p) (take_all 1 bits (omega (arith, count, none)))))))

module _ (bits : List Bool) where
  first_odd : 0 < length bits → is_odd (take 1 bits) ≡ slice_index_or bits 0 false
  first_odd lt = ap is_odd (first_bit bits lt) ∙ odd_one (slice_index_or bits 0 false)

  more_odd : (i : ℕ) → i < length bits
      → is_odd (take (i + 1) bits) ≡ unlike (is_odd (take i bits)) (slice_index_or bits i false)
  more_odd i lt = ap is_odd (take_more bits i false lt)
      ∙ odd_push (take i bits) (slice_index_or bits i false)

  only_odd : (i last : ℕ) → length bits ≡ last + 1 → last ≡ 0 → i ≡ 1
      → is_odd (take i bits) ≡ is_odd bits
  only_odd i last count none one = ap is_odd (take_all i bits (omega (arith, count, none, one)))

  last_odd : (i last : ℕ) → length bits ≡ last + 1 → i ≡ last
      → unlike (is_odd (take i bits)) (slice_index_or bits last false) ≡ is_odd bits
  last_odd i last count e =
      ap (λ n. unlike (is_odd (take n bits)) (slice_index_or bits last false)) e
      ∙ (sym (more_odd last (omega (arith, count)))
      ∙ ap is_odd (take_all (last + 1) bits (omega (arith, count))))

-- ---- of the bits of pins
module _ (g : ℕ → Bool) (pins : List ℕ) where
  abbrev bits : List Bool
  bits = map g pins

  many : length bits ≡ length pins
  many = length-map pins g

  at : (i : ℕ) → i < length pins → slice_index_or bits i false ≡ g (slice_index_or pins i 0)
  at i lt = get_or-map g pins i 0 false lt

  module _ (p : Bool → Bool) where
    pub all_first : (first : ℕ) → 0 < length pins → slice_index_or pins 0 0 ≡ first
        → p (g first) ≡ list_all p (take 1 bits)
    all_first first lt is = sym (first_all p bits (omega (arith, lt, many))
        ∙ ap p (at 0 lt ∙ ap g is))

    pub all_more : (i : ℕ) (all word : Bool) → i < length pins → all ≡ list_all p (take i bits)
        → word ≡ p (g (slice_index_or pins i 0)) → (all && word) ≡ list_all p (take (i + 1) bits)
    all_more i all word lt before is = ap (λ b. b && word) before
        ∙ (ap (λ b. list_all p (take i bits) && b) (is ∙ ap p (sym (at i lt)))
        ∙ sym (list_all_more p bits i false (omega (arith, lt, many))))

    pub all_last : (i last end : ℕ) (all word : Bool) → length pins ≡ last + 1
        → (i ≡ last) ⊎ ((i ≡ 1) × (last ≡ 0)) → all ≡ list_all p (take i bits)
        → slice_index_or pins last 0 ≡ end → word ≡ p (g end) → (all && word) ≡ list_all p bits
    all_last i last end all word count stop before here is = ap (λ b. b && word) before
        ∙ (ap (λ b. list_all p (take i bits) && b)
        (is ∙ ap p (sym (at last (omega (arith, count)) ∙ ap g here)))
        ∙ last_all p bits i last (many ∙ count) stop)

  pub odd_first : (first : ℕ) → 0 < length pins → slice_index_or pins 0 0 ≡ first
      → g first ≡ is_odd (take 1 bits)
  odd_first first lt is = sym (first_odd bits (omega (arith, lt, many)) ∙ (at 0 lt ∙ ap g is))

  pub odd_more : (i : ℕ) (odd word : Bool) → i < length pins → odd ≡ is_odd (take i bits)
      → word ≡ g (slice_index_or pins i 0) → unlike odd word ≡ is_odd (take (i + 1) bits)
  odd_more i odd word lt before is = ap (λ b. unlike b word) before
      ∙ (ap (unlike (is_odd (take i bits))) (is ∙ sym (at i lt))
      ∙ sym (more_odd bits i (omega (arith, lt, many))))

  pub odd_only : (i last : ℕ) → length pins ≡ last + 1 → last ≡ 0 → i ≡ 1
      → is_odd (take i bits) ≡ is_odd bits
  odd_only i last count none one = only_odd bits i last (many ∙ count) none one

  pub odd_last : (i last end : ℕ) (odd word : Bool) → length pins ≡ last + 1 → i ≡ last
      → odd ≡ is_odd (take i bits) → slice_index_or pins last 0 ≡ end → word ≡ g end
      → unlike odd word ≡ is_odd bits
  odd_last i last end odd word count e before here is = ap (λ b. unlike b word) before
      ∙ (ap (unlike (is_odd (take i bits))) (is ∙ sym (at last (omega (arith, count)) ∙ ap g here))
      ∙ last_odd bits i last (many ∙ count) e)
