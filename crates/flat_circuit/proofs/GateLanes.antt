-- A gate on words: in each lane, the folds over the pins' words are the folds over the bits that
-- the pins see.
use Rattle.std.proofs.Common.{◌≡◌, ◌<◌, ◌≤◌, ℕ, zero, suc, ◌+◌, ◌-◌, ◌≢◌, refl, sym, ◌∙◌, ap, subst}
use Rattle.std.proofs.Common.{Bool, true, false, not, ◌&&◌, List, [], ◌∷◌, ◌++◌, length, take}
use Rattle.std.{proofs.Common.{arith, inl, inr, ◌⊎◌}, specs.Prelude.if◌then◌else◌}
use Rattle.std.specs.Prelude.{Option, None, Some, map, slice_index_or, bit_and, bit_xor, nat_lt}
use Rattle.std.{specs.List.{enumerate_from, list_all}, proofs.lemmas.Bool.{cases_eq, lt-ltb}}
use Rattle.std.proofs.lemmas.List.{take_all, take_more, Folds.list_all_more}
use Rattle.bench_net.specs.declared.Kind.{Kind}
use Rattle.fault_model.specs.declared.Line.TheVariants as line
use Rattle.fault_model.specs.{Fault.Fault, Solution.{under, is_odd, value}}
use Rattle.patterns.specs.Least.{below, from_up}
use Rattle.flat_circuit.specs.declared.gate_form.GateForm.{GateForm}
use Rattle.flat_circuit.specs.{GateForms.{IsFormOf, inverted_if}, Words.{lane, word_over, pin_bits}}
use Rattle.flat_circuit.proofs.Lanes.{lane_and, lane_xor, lane_zero, lane_ones, unlike}

-- the bit of one pin, and the number of pins
pin_at_from : (f : Option Fault) (gate : ℕ) (pins words delta : List ℕ) (k from i : ℕ)
    → i < length pins
    → slice_index_or (map (λ at. under f (line.Pin gate at.0) (lane (word_over words delta at.1) k))
    (enumerate_from from pins)) i false
    ≡ under f (line.Pin gate (from + i)) (lane (word_over words delta (slice_index_or pins i 0)) k)
pin_at_from f gate [] words delta k from i lt = absurd (omega (arith, lt))
pin_at_from f gate (p ∷ pins) words delta k from zero lt =
    ap (λ pin. under f (line.Pin gate pin) (lane (word_over words delta p) k)) (omega arith)
pin_at_from f gate (p ∷ pins) words delta k from (suc i) lt =
    pin_at_from f gate pins words delta k (from + 1) i (omega (arith, lt))
    ∙ ap (λ pin. under f (line.Pin gate pin)
    (lane (word_over words delta (slice_index_or pins i 0)) k)) (omega arith)

pin_at : (f : Option Fault) (gate : ℕ) (pins words delta : List ℕ) (k i : ℕ) → i < length pins
    → slice_index_or (pin_bits f gate pins words delta k) i false ≡ under f (line.Pin gate i)
    (lane (word_over words delta (slice_index_or pins i 0)) k)
pin_at f gate pins words delta k i lt = pin_at_from f gate pins words delta k 0 i lt
    ∙ ap (λ pin. under f (line.Pin gate pin)
    (lane (word_over words delta (slice_index_or pins i 0)) k)) (omega arith)

pins_counted_from : (f : Option Fault) (gate : ℕ) (pins words delta : List ℕ) (k from : ℕ)
    → length (map (λ at. under f (line.Pin gate at.0) (lane (word_over words delta at.1) k))
    (enumerate_from from pins)) ≡ length pins
pins_counted_from f gate [] words delta k from = refl
pins_counted_from f gate (p ∷ pins) words delta k from =
    ap suc (pins_counted_from f gate pins words delta k (from + 1))

pins_counted : (f : Option Fault) (gate : ℕ) (pins words delta : List ℕ) (k : ℕ)
    → length (pin_bits f gate pins words delta k) ≡ length pins
pins_counted f gate pins words delta k = pins_counted_from f gate pins words delta k 0

is_odd_push : (bits : List Bool) (b : Bool) → is_odd (bits ++ b ∷ []) ≡ unlike (is_odd bits) b
is_odd_push [] true = refl
is_odd_push [] false = refl
is_odd_push (true ∷ bits) b = ap not (is_odd_push bits b) ∙ inverted (is_odd bits)
  where
    inverted : (x : Bool) → not (unlike x b) ≡ unlike (not x) b
    inverted true = twice b
      where
        twice : (y : Bool) → not (not y) ≡ y
        twice true = refl
        twice false = refl
    inverted false = refl
is_odd_push (false ∷ bits) b = is_odd_push bits b

-- a word that complements a bit in each lane or in none
inverted_there : (b turn : Bool) → unlike b turn ≡ inverted_if turn b
inverted_there true true = refl
inverted_there true false = refl
inverted_there false true = refl
inverted_there false false = refl

pub turned_lane : (word flips k : ℕ) (turn : Bool) → lane flips k ≡ turn
    → lane (bit_xor word flips) k ≡ inverted_if turn (lane word k)
turned_lane word flips k turn flip = lane_xor word flips k
    ∙ (ap (unlike (lane word k)) flip ∙ inverted_there (lane word k) turn)

-- the end of a loop from 1 to the last of n pins
pub at_last : (n i : ℕ) → 0 < i → i ≤ n → n - 1 ≤ i → (1 ≤ n - 1 → i ≤ n - 1)
    → (i ≡ n - 1) ⊎ ((i ≡ 1) × (n - 1 ≡ 0))
at_last n i started within passed at = go (cases_eq (n - 1) 0)
  where
    go : (n - 1 ≡ 0) ⊎ (n - 1 ≢ 0) → (i ≡ n - 1) ⊎ ((i ≡ 1) × (n - 1 ≡ 0))
    go (inl none) = inr (omega (arith, none, started, within), none)
    go (inr some) = let le = at (omega (arith, some)) in inl (omega (arith, le, passed))

-- In each lane: whether the bits that the first pins see, inverted or not, are all 1, and an odd
-- number of them are 1.
pub record AreFolds (f : Option Fault) (gate : ℕ) (pins words delta : List ℕ) (turn : Bool)
    (i all odd : ℕ) : Type 0 where
  pub all_is : (k : ℕ) → k < 128 → lane all k ≡ list_all (λ b. inverted_if turn b)
      (take i (pin_bits f gate pins words delta k))
  pub odd_is : (k : ℕ) → k < 128 → lane odd k ≡ is_odd (take i (pin_bits f gate pins words delta k))

module _ (f : Option Fault) (gate : ℕ) (pins words delta : List ℕ) where
  pub folds_none : (turn : Bool)
      → AreFolds f gate pins words delta turn 0 340282366920938463463374607431768211455 0
  folds_none turn = record { all_is = λ k lt. lane_ones 128 k lt; odd_is = λ k lt. lane_zero k }

  pub folds_more : (turn : Bool) (flips i all odd word : ℕ) → i < length pins
      → ((k : ℕ) → k < 128 → lane flips k ≡ turn) → AreFolds f gate pins words delta turn i all odd
      → ((k : ℕ) → k < 128 → lane word k ≡ under f (line.Pin gate i)
      (lane (word_over words delta (slice_index_or pins i 0)) k))
      → AreFolds f gate pins words delta turn (i + 1) (bit_and all (bit_xor word flips))
      (bit_xor odd word)
  folds_more turn flips i all odd word lt flip h is = record {
    all_is = λ k below. lane_and all (bit_xor word flips) k ∙ (rw (
      h.all_is k below,
      lane_xor word flips k,
      bit k below,
      flip k below,
      inverted_there (slice_index_or (pin_bits f gate pins words delta k) i false) turn,
    ) refl
        ∙ sym (list_all_more (λ b. inverted_if turn b) (pin_bits f gate pins words delta k) i false
        (within k)));
    odd_is = λ k below. lane_xor odd word k ∙ (rw (h.odd_is k below, bit k below) refl
        ∙ sym (ap is_odd (take_more (pin_bits f gate pins words delta k) i false (within k))
        ∙ is_odd_push (take i (pin_bits f gate pins words delta k))
        (slice_index_or (pin_bits f gate pins words delta k) i false)));
  }
    where
      within : (k : ℕ) → i < length (pin_bits f gate pins words delta k)
      within k = let e : length (pin_bits f gate pins words delta k) ≡ length pins =
          pins_counted f gate pins words delta k in omega (arith, e, lt)

      bit : (k : ℕ) → k < 128 → lane word k ≡ slice_index_or (pin_bits f gate pins words delta k) i
          false
      bit k below = is k below ∙ sym (pin_at f gate pins words delta k i lt)

  -- the first pin
  pub folds_first : (turn : Bool) (flips word : ℕ) → 0 < length pins
      → ((k : ℕ) → k < 128 → lane flips k ≡ turn)
      → ((k : ℕ) → k < 128 → lane word k ≡ under f (line.Pin gate 0)
      (lane (word_over words delta (slice_index_or pins 0 0)) k))
      → AreFolds f gate pins words delta turn 1 (bit_xor word flips) word
  folds_first turn flips word some flip is =
      let h = folds_more turn flips 0 340282366920938463463374607431768211455 0 word some flip
      (folds_none turn) is in
      record {
        all_is = λ k lt. sym (lane_and 340282366920938463463374607431768211455
            (bit_xor word flips) k ∙ rw (lane_ones 128 k lt) refl) ∙ h.all_is k lt;
        odd_is = λ k lt. sym (lane_xor 0 word k ∙ rw (lane_zero k) refl) ∙ h.odd_is k lt;
      }

  -- the last pin; if there is only one pin, it is the first again
  pub folds_last : (turn : Bool) (flips i last all odd word other : ℕ) → length pins ≡ last + 1
      → ((i ≡ last) ⊎ ((i ≡ 1) × (last ≡ 0))) → ((k : ℕ) → k < 128 → lane flips k ≡ turn)
      → ((k : ℕ) → k < 128 → lane other k ≡ nat_lt 0 last)
      → AreFolds f gate pins words delta turn i all odd
      → ((k : ℕ) → k < 128 → lane word k ≡ under f (line.Pin gate last)
      (lane (word_over words delta (slice_index_or pins last 0)) k))
      → 0 < i → AreFolds f gate pins words delta turn (length pins)
      (bit_and all (bit_xor word flips)) (bit_xor odd (bit_and word other))
  folds_last turn flips i last all odd word other count (inl e) flip others h is more = record {
    all_is = λ k lt. whole.all_is k lt
        ∙ ap (λ n. list_all (λ b. inverted_if turn b) (take n (pin_bits f gate pins words delta k)))
        long;
    odd_is = λ k lt. lane_xor odd (bit_and word other) k
        ∙ (ap (unlike (lane odd k)) (lane_and word other k ∙ rw (
          others k lt,
          some,
        ) (all_true (lane word k))) ∙ (sym (lane_xor odd word k)
        ∙ (whole.odd_is k lt ∙ ap (λ n. is_odd (take n (pin_bits f gate pins words delta k)))
        long)));
  }
    where
      long : i + 1 ≡ length pins
      long = omega (arith, e, count)

      some : nat_lt 0 last ≡ true
      some = lt-ltb 0 last (omega (arith, e, more))

      all_true : (b : Bool) → (b && true) ≡ b
      all_true true = refl
      all_true false = refl

      whole : AreFolds f gate pins words delta turn (i + 1) (bit_and all (bit_xor word flips))
          (bit_xor odd word)
      whole = folds_more turn flips i all odd word (omega (arith, e, count)) flip h
          (λ k lt. subst (λ j. lane word k ≡ under f (line.Pin gate j)
          (lane (word_over words delta (slice_index_or pins j 0)) k)) (sym e) (is k lt))
  folds_last turn flips i last all odd word other count (inr (one, none)) flip others h is more =
      record {
        all_is = λ k lt. lane_and all (bit_xor word flips) k
            ∙ (rw (h.all_is k lt, same k lt) (twice _) ∙ ap (λ n. list_all (λ b. inverted_if turn b)
            (take n (pin_bits f gate pins words delta k))) long);
        odd_is = λ k lt. lane_xor odd (bit_and word other) k
            ∙ (ap (unlike (lane odd k)) (lane_and word other k ∙ rw (
              others k lt,
              none,
            ) (none_true (lane word k))) ∙ (unlike_false (lane odd k)
            ∙ (h.odd_is k lt ∙ ap (λ n. is_odd (take n (pin_bits f gate pins words delta k)))
            long)));
      }
    where
      long : i ≡ length pins
      long = omega (arith, one, none, count)

      none_true : (b : Bool) → (b && false) ≡ false
      none_true true = refl
      none_true false = refl

      unlike_false : (b : Bool) → unlike b false ≡ b
      unlike_false true = refl
      unlike_false false = refl

      twice : (b : Bool) → (b && b) ≡ b
      twice true = refl
      twice false = refl

      only : AreFolds f gate pins words delta turn 1 (bit_xor word flips) word
      only = folds_first turn flips word (omega (arith, count)) flip
          (λ k lt. subst (λ j. lane word k ≡ under f (line.Pin gate j)
          (lane (word_over words delta (slice_index_or pins j 0)) k)) none (is k lt))

      same : (k : ℕ) → k < 128 → lane (bit_xor word flips) k ≡ list_all (λ b. inverted_if turn b)
          (take i (pin_bits f gate pins words delta k))
      same k lt = only.all_is k lt ∙ ap
          (λ n. list_all (λ b. inverted_if turn b) (take n (pin_bits f gate pins words delta k)))
          (sym one)

  -- and so for all pins
  whole : (k : ℕ) → take (length pins) (pin_bits f gate pins words delta k)
      ≡ pin_bits f gate pins words delta k
  whole k = let e : length (pin_bits f gate pins words delta k) ≡ length pins =
      pins_counted f gate pins words delta k in
      take_all (length pins) (pin_bits f gate pins words delta k) (omega (arith, e))

  module _ (turn : Bool) (all odd : ℕ) (h : AreFolds f gate pins words delta turn
      (length pins) all odd) where
    pub folds_all : (k : ℕ) → k < 128
        → lane all k ≡ list_all (λ b. inverted_if turn b) (pin_bits f gate pins words delta k)
    folds_all k lt = h.all_is k lt ∙ ap (list_all (λ b. inverted_if turn b)) (whole k)

    pub folds_odd : (k : ℕ) → k < 128 → lane odd k ≡ is_odd (pin_bits f gate pins words delta k)
    folds_odd k lt = h.odd_is k lt ∙ ap is_odd (whole k)

unlike_false : (b : Bool) → b ≡ unlike b false
unlike_false true = refl
unlike_false false = refl

-- the bit of a signal, if no signal differs
pub plain_word : (words : List ℕ) (s k : ℕ)
    → lane (slice_index_or words s 0) k ≡ lane (word_over words [] s) k
plain_word words s k = unlike_false (lane (slice_index_or words s 0) k)
    ∙ (ap (unlike (lane (slice_index_or words s 0) k)) (sym (lane_zero k))
    ∙ sym (lane_xor (slice_index_or words s 0) 0 k))

-- without a fault, and if no signal differs, the pins see the bits of their signals
pub plain_pins : (gate : ℕ) (pins words : List ℕ) (k : ℕ)
    → map (λ s. lane (slice_index_or words s 0) k) pins ≡ pin_bits None gate pins words [] k
plain_pins gate pins words k = go 0 pins
  where
    go : (from : ℕ) (rest : List ℕ) → map (λ s. lane (slice_index_or words s 0) k) rest
        ≡ map (λ at. under None (line.Pin gate at.0) (lane (word_over words [] at.1) k))
        (enumerate_from from rest)
    go from [] = refl
    go from (s ∷ rest) = rw (plain_word words s k, go (from + 1) rest) refl

-- words that differ nowhere change no pin
pub clear_pins : (f : Option Fault) (gate : ℕ) (pins words delta : List ℕ) (k : ℕ)
    → ((s : ℕ) → slice_index_or delta s 0 ≡ 0)
    → pin_bits f gate pins words delta k ≡ pin_bits f gate pins words [] k
clear_pins f gate pins words delta k clear = go 0 pins
  where
    same : (s : ℕ) → word_over words delta s ≡ word_over words [] s
    same s = ap (bit_xor (slice_index_or words s 0)) (clear s)

    go : (from : ℕ) (rest : List ℕ)
        → map (λ at. under f (line.Pin gate at.0) (lane (word_over words delta at.1) k))
        (enumerate_from from rest)
        ≡ map (λ at. under f (line.Pin gate at.0) (lane (word_over words [] at.1) k))
        (enumerate_from from rest)
    go from [] = refl
    go from (s ∷ rest) = rw (same s, go (from + 1) rest) refl

-- the bit that a pin sees, by its place and the signal that it reads, if no signal differs
abbrev pub pin_seen : Fault → ℕ → List ℕ → ℕ → ℕ → ℕ → Bool
pin_seen f gate words k place s =
    under (Some f) (line.Pin gate place) (lane (word_over words [] s) k)

abbrev pub pin_bit : Fault → ℕ → List ℕ → List ℕ → ℕ → ℕ → Bool
pin_bit f gate pins words k place = pin_seen f gate words k place (slice_index_or pins place 0)

pub pins_by_place : (f : Fault) (gate : ℕ) (pins words : List ℕ) (k : ℕ)
    → pin_bits (Some f) gate pins words [] k
    ≡ map (pin_bit f gate pins words k) (below (length pins))
pins_by_place f gate pins words k =
    go 0 pins (λ i lt. ap (λ n. slice_index_or pins n 0) (omega arith))
  where
    go : (from : ℕ) (rest : List ℕ)
        → ((i : ℕ) → i < length rest → slice_index_or rest i 0 ≡ slice_index_or pins (from + i) 0)
        → map (λ at. under (Some f) (line.Pin gate at.0) (lane (word_over words [] at.1) k))
        (enumerate_from from rest) ≡ map (pin_bit f gate pins words k) (from_up from (length rest))
    go from [] same = refl
    go from (s ∷ rest) same =
        let here : s ≡ slice_index_or pins from 0 = same 0 (omega arith)
        ∙ ap (λ n. slice_index_or pins n 0) (omega arith) in
        ap (λ x. pin_seen f gate words k from x
        ∷ map (λ at. under (Some f) (line.Pin gate at.0) (lane (word_over words [] at.1) k))
        (enumerate_from (from + 1) rest)) here
        ∙ ap (λ more. pin_bit f gate pins words k from ∷ more)
        (go (from + 1) rest (λ i lt. same (suc i) (omega (arith, lt))
        ∙ ap (λ n. slice_index_or pins n 0) (omega arith)))

-- the word of a form, if the fold that it takes is known
pub chosen_lane : (kind : Kind) (form : GateForm) (bits : List Bool) (core flips k : ℕ)
    → IsFormOf kind form → lane flips k ≡ form.inverts_output
    → ((form.is_xor ≡ true) × (lane core k ≡ is_odd bits)) ⊎ ((form.is_xor ≡ false)
    × (lane core k ≡ list_all (λ b. inverted_if form.inverts_inputs b) bits))
    → lane (bit_xor core flips) k ≡ value kind bits
chosen_lane kind form bits core flips k formed flip chosen =
    turned_lane core flips k form.inverts_output flip
    ∙ (ap (inverted_if form.inverts_output) (go chosen) ∙ formed bits)
  where
    go : ((form.is_xor ≡ true) × (lane core k ≡ is_odd bits)) ⊎ ((form.is_xor ≡ false)
        × (lane core k ≡ list_all (λ b. inverted_if form.inverts_inputs b) bits))
        → lane core k ≡ (if form.is_xor then is_odd bits else list_all
        (λ b. inverted_if form.inverts_inputs b) bits)
    go (inl (xor, e)) = e ∙ rw xor refl
    go (inr (and, e)) = e ∙ rw and refl

-- the word of a form
pub form_lane : (kind : Kind) (form : GateForm) (bits : List Bool) (all odd core flips k : ℕ)
    → IsFormOf kind form → lane flips k ≡ form.inverts_output
    → lane all k ≡ list_all (λ b. inverted_if form.inverts_inputs b) bits → lane odd k ≡ is_odd bits
    → ((form.is_xor ≡ true) × (core ≡ odd)) ⊎ ((form.is_xor ≡ false) × (core ≡ all))
    → lane (bit_xor core flips) k ≡ value kind bits
form_lane kind form bits all odd core flips k formed flip all_is odd_is chosen =
    lane_xor core flips k ∙ (ap (unlike (lane core k)) flip
    ∙ (inverted_there (lane core k) form.inverts_output
    ∙ (ap (inverted_if form.inverts_output) (go chosen) ∙ formed bits)))
  where
    go : ((form.is_xor ≡ true) × (core ≡ odd)) ⊎ ((form.is_xor ≡ false) × (core ≡ all))
        → lane core k ≡ (if form.is_xor then is_odd bits else list_all
        (λ b. inverted_if form.inverts_inputs b) bits)
    go (inl (xor, e)) = ap (λ w. lane w k) e ∙ (odd_is ∙ rw xor refl)
    go (inr (and, e)) = ap (λ w. lane w k) e ∙ (all_is ∙ rw and refl)
