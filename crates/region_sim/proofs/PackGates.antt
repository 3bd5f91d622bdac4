-- A gate on wide words: in each lane, the folds over the words of its pins, and what the word of a
-- form differs from the fault-free one.
use Rattle.std.proofs.Common.{◌≡◌, ◌<◌, ℕ, ◌/◌, ◌%◌, refl, sym, ◌∙◌, ap, Bool, true, false, not}
use Rattle.std.{proofs.Common.{List, [], ◌∷◌, map, arith, inl, inr, ◌⊎◌}, specs.List.list_all}
use Rattle.std.specs.Prelude.{slice_index_or, if◌then◌else◌}
use Rattle.bench_net.specs.declared.Kind.{Kind}
use Rattle.fault_model.specs.Solution.{is_odd, value}
use Rattle.wide_words.specs.Lanes.{IsLayout, Layout, lane_in, slot_of, slots}
use Rattle.flat_circuit.specs.{declared.gate_form.GateForm.GateForm, Words.lane}
use Rattle.flat_circuit.{specs.GateForms.{IsFormOf, inverted_if}, proofs.Public.unlike}
use Rattle.region_sim.specs.Pack.{wide_bit}

-- the lane of a group that a lane of a wide word copies is one of 128
pub in_group : (layout : Layout) → IsLayout layout → (k : ℕ) → lane_in layout k < 128
in_group layout sized k = go sized.whole
  where
    go : (layout.size ≡ 64) ⊎ (layout.size ≡ 128) → lane_in layout k < 128
    go (inl e) =
        let at = ap (λ n. k % n) e in
        let below : k % 64 < 64 = omega arith in
        let within = sized.within in omega (arith, at, below, within, e)
    go (inr e) =
        let at = ap (λ n. k % n) e in
        let below : k % 128 < 128 = omega arith in
        let within = sized.within in omega (arith, at, below, within, e)

-- each lane is in a slot
pub slot_low : (layout : Layout) → IsLayout layout → (k : ℕ) → k < 512
    → slot_of layout k < slots layout
slot_low layout sized k lt = go sized.whole
  where
    go : (layout.size ≡ 64) ⊎ (layout.size ≡ 128) → slot_of layout k < slots layout
    go (inl e) =
        let at = ap (λ n. k / n) e in
        let all = ap (λ n. 512 / n) e in omega (arith, at, all, lt)
    go (inr e) =
        let at = ap (λ n. k / n) e in
        let all = ap (λ n. 512 / n) e in omega (arith, at, all, lt)

-- ---- bits that differ
pub unlike_is : (b turn : Bool) → unlike b turn ≡ inverted_if turn b
unlike_is true true = refl
unlike_is true false = refl
unlike_is false true = refl
unlike_is false false = refl

-- the fault-free bit of a pin is inverted, and then where it differs
pub turned_bit : (bit turn differs : Bool)
    → unlike (unlike bit turn) differs ≡ inverted_if turn (inverted_if differs bit)
turned_bit true true true = refl
turned_bit true true false = refl
turned_bit true false true = refl
turned_bit true false false = refl
turned_bit false true true = refl
turned_bit false true false = refl
turned_bit false false true = refl
turned_bit false false false = refl

-- what a gate gives, beside its fault-free bit
pub difference_bit : (all bit turn : Bool)
    → inverted_if (unlike all (unlike bit turn)) bit ≡ inverted_if turn all
difference_bit true true true = refl
difference_bit true true false = refl
difference_bit true false true = refl
difference_bit true false false = refl
difference_bit false true true = refl
difference_bit false true false = refl
difference_bit false false true = refl
difference_bit false false false = refl

-- ---- an XOR of bits that differ is inverted where an odd number of them do
odd_inverted : (d g : ℕ → Bool) (pins : List ℕ) → is_odd (map (λ s. inverted_if (d s) (g s)) pins)
    ≡ inverted_if (is_odd (map d pins)) (is_odd (map g pins))
odd_inverted d g [] = refl
odd_inverted d g (p ∷ pins) = step (d p) (g p) (is_odd (map d pins)) (is_odd (map g pins))
    (is_odd (map (λ s. inverted_if (d s) (g s)) pins)) (odd_inverted d g pins)
    (map d pins) (map g pins) (map (λ s. inverted_if (d s) (g s)) pins) refl refl refl
  where
    twice : (b : Bool) → not (not b) ≡ b
    twice true = refl
    twice false = refl

    inner : (x y : Bool) → not (inverted_if x y) ≡ inverted_if x (not y)
    inner true true = refl
    inner true false = refl
    inner false true = refl
    inner false false = refl

    outer : (x y : Bool) → not (inverted_if x y) ≡ inverted_if (not x) y
    outer true true = refl
    outer true false = refl
    outer false true = refl
    outer false false = refl

    both : (x y : Bool) → inverted_if x y ≡ inverted_if (not x) (not y)
    both true true = refl
    both true false = refl
    both false true = refl
    both false false = refl

    step : (b c x y z : Bool) → z ≡ inverted_if x y → (xs ys zs : List Bool)
        → is_odd xs ≡ x → is_odd ys ≡ y → is_odd zs ≡ z
        → is_odd (inverted_if b c ∷ zs) ≡ inverted_if (is_odd (b ∷ xs)) (is_odd (c ∷ ys))
    step true true x y z e xs ys zs p q r = rw (p, q, r, e) (both x y)
    step true false x y z e xs ys zs p q r = rw (p, q, r, e) (outer x y)
    step false true x y z e xs ys zs p q r = rw (p, q, r, e) (inner x y)
    step false false x y z e xs ys zs p q r = rw (p, q, r, e) refl

-- ---- the word of a form
module _ (layout : Layout) (good : ℕ → List ℕ) (delta : List ℕ) (kind : Kind) (form : GateForm)
    (formed : IsFormOf kind form) (pins : List ℕ) (k : ℕ) where
  abbrev seen : List Bool
  seen = map (wide_bit layout good delta k) pins

  abbrev free : List Bool
  free = map (λ s. lane (slice_index_or (good (slot_of layout k)) s 0) (lane_in layout k)) pins

  pub and_value : (all bit turn : Bool) → form.is_xor ≡ false → turn ≡ form.inverts_output
      → all ≡ list_all (λ b. inverted_if form.inverts_inputs b) seen
      → inverted_if (unlike all (unlike bit turn)) bit ≡ value kind seen
  and_value all bit turn and flip is = difference_bit all bit turn
      ∙ (ap (λ t. inverted_if t all) flip
      ∙ (ap (inverted_if form.inverts_output) (is ∙ chosen) ∙ formed seen))
    where
      chosen : list_all (λ b. inverted_if form.inverts_inputs b) seen
          ≡ (if form.is_xor then is_odd seen else list_all
          (λ b. inverted_if form.inverts_inputs b) seen)
      chosen = rw and refl

  pub xor_value : (odd bit : Bool) → form.is_xor ≡ true
      → odd ≡ is_odd (map (λ s. lane (slice_index_or delta s 0) k) pins)
      → bit ≡ value kind free → inverted_if odd bit ≡ value kind seen
  xor_value odd bit xor is solves = ap (inverted_if odd) (solves ∙ (sym (formed free)
      ∙ ap (inverted_if form.inverts_output) (chosen free)))
      ∙ (swapped odd form.inverts_output (is_odd free)
      ∙ (ap (inverted_if form.inverts_output) (ap (λ b. inverted_if b (is_odd free)) is
      ∙ sym (odd_inverted (λ s. lane (slice_index_or delta s 0) k)
      (λ s. lane (slice_index_or (good (slot_of layout k)) s 0) (lane_in layout k)) pins))
      ∙ (ap (inverted_if form.inverts_output) (sym (chosen seen)) ∙ formed seen)))
    where
      chosen : (bits : List Bool) → (if form.is_xor then is_odd bits else list_all
          (λ b. inverted_if form.inverts_inputs b) bits) ≡ is_odd bits
      chosen bits = rw xor refl

      swapped : (x y b : Bool) → inverted_if x (inverted_if y b) ≡ inverted_if y (inverted_if x b)
      swapped true true b = refl
      swapped true false b = refl
      swapped false true b = refl
      swapped false false b = refl
