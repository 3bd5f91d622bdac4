-- The pins of gates, gate by gate.
use Rattle.std.proofs.Common.{◌≡◌, ◌≢◌, ◌<◌, ◌≤◌, ◌+◌, ◌-◌, ◌∙◌, ℕ, zero, suc, refl, sym, ap, subst}
use Rattle.std.proofs.Common.{List, [], ◌∷◌, ◌++◌, length, arith, inl, inr, set, map, get_or, ◌⊎◌}
use Rattle.std.specs.Prelude.{AllPairs, Contains, None, Some, slice_get, slice_index_or, unwrap_or}
use Rattle.std.proofs.lemmas.Bool.{cases_eq, cases_lt}
use Rattle.std.proofs.lemmas.List.{get_or-append-add, get_or-set_other, get_or-set_same}
use Rattle.std.proofs.lemmas.List.{get_or_append_left, length-append, length-set}
use Rattle.std.proofs.lemmas.Option.{get_or_from_slice_get, slice_get-get_or}
use Rattle.list_lemmas.proofs.{Members.{among, contained}, Places.{at_place, place_within}}
use Rattle.bench_net.specs.{declared.Kind.Kind, Statement.Statement, Scan.{gate_of, names}}
use Rattle.fault_model.specs.Reordered.{place}
use Rattle.blocking_pins.specs.declared.gate_pins.GatePin.{GatePin}
use Rattle.blocking_pins.specs.Effects.{AreAllPins, AreGatePins, ArePinsOf, IsBefore, IsGatePin}

same_some : {X : Type 0} (x y : X) → Some x ≡ Some y → x ≡ y
same_some x y e = cc

-- the first pins of a gate
pub record ArePinsBelow (gate end : ℕ) (pins : List GatePin) : Type 0 where
  pub count : length pins ≡ end
  pub each : (i : ℕ) (at : GatePin) → slice_get pins i ≡ Some at
      → at ≡ record { gate = gate; pin = i }

pub pins_none : (gate : ℕ) → ArePinsBelow gate 0 []
pins_none gate = record { count = refl; each = λ i at e. let bad : None ≡ Some at = e in cc }

-- an element of a list with one more at the end
push_at : {X : Type 0} (xs : List X) (y x : X) (i : ℕ) → slice_get (xs ++ y ∷ []) i ≡ Some x
    → (slice_get xs i ≡ Some x) ⊎ ((i ≡ length xs) × (x ≡ y))
push_at [] y x zero e = inr (refl, sym (same_some y x e))
push_at [] y x (suc i) e = let bad : None ≡ Some x = e in cc
push_at (z ∷ xs) y x zero e = inl e
push_at (z ∷ xs) y x (suc i) e = go (push_at xs y x i e)
  where
    go : (slice_get xs i ≡ Some x) ⊎ ((i ≡ length xs) × (x ≡ y))
        → (slice_get (z ∷ xs) (suc i) ≡ Some x) ⊎ ((suc i ≡ length (z ∷ xs)) × (x ≡ y))
    go (inl h) = inl h
    go (inr h) = let same = h.0 in inr (omega (arith, same), h.1)

-- an element of two lists
pub append_at : {X : Type 0} (xs ys : List X) (x : X) (i : ℕ) → slice_get (xs ++ ys) i ≡ Some x
    → (slice_get xs i ≡ Some x) ⊎ ((j : ℕ) × (i ≡ length xs + j) × (slice_get ys j ≡ Some x))
append_at [] ys x i e = inr (i, (let h : i ≡ 0 + i = omega arith in h), e)
append_at (z ∷ xs) ys x zero e = inl e
append_at (z ∷ xs) ys x (suc i) e = go (append_at xs ys x i e)
  where
    go : (slice_get xs i ≡ Some x) ⊎ ((j : ℕ) × (i ≡ length xs + j) × (slice_get ys j ≡ Some x))
        → (slice_get (z ∷ xs) (suc i) ≡ Some x)
        ⊎ ((j : ℕ) × (suc i ≡ length (z ∷ xs) + j) × (slice_get ys j ≡ Some x))
    go (inl h) = inl h
    go (inr h) = let same = h.1 in inr (h.0, omega (arith, same), h.2)

pub append_left : {X : Type 0} (xs ys : List X) (x : X) (i : ℕ) → slice_get xs i ≡ Some x
    → slice_get (xs ++ ys) i ≡ Some x
append_left [] ys x i e = let bad : None ≡ Some x = e in cc
append_left (z ∷ xs) ys x zero e = e
append_left (z ∷ xs) ys x (suc i) e = append_left xs ys x i e

pub append_right : {X : Type 0} (xs ys : List X) (x : X) (i j : ℕ) → i ≡ length xs + j
    → slice_get ys j ≡ Some x → slice_get (xs ++ ys) i ≡ Some x
append_right [] ys x i j is e = ap (slice_get ys) (let h : i ≡ j = omega (arith, is) in h) ∙ e
append_right (z ∷ xs) ys x zero j is e = absurd (omega (arith, is))
append_right (z ∷ xs) ys x (suc i) j is e =
    append_right xs ys x i j (let h : i ≡ length xs + j = omega (arith, is) in h) e

pub pins_more : (gate end : ℕ) (pins : List GatePin) → ArePinsBelow gate end pins
    → ArePinsBelow gate (end + 1) (pins ++ (record { gate = gate; pin = end }) ∷ [])
pins_more gate end pins h = record {
  count = let long = length-append pins (own ∷ []) in let old = h.count in
      omega (arith, long, old);
  each = λ i at e. go i at (push_at pins own at i e);
}
  where
    own : GatePin
    own = record { gate = gate; pin = end }

    go : (i : ℕ) (at : GatePin) → (slice_get pins i ≡ Some at) ⊎ ((i ≡ length pins) × (at ≡ own))
        → at ≡ record { gate = gate; pin = i }
    go i at (inl e) = h.each i at e
    go i at (inr e) = e.1 ∙ ap (λ n. record { gate = gate; pin = n }) (sym (e.0 ∙ h.count))

pub pins_of : (c : List Statement) (gate end : ℕ) (pins : List GatePin) (kind : Kind)
    (reads : List ℕ) → gate_of c gate ≡ Some (kind, reads) → end ≡ length reads
    → ArePinsBelow gate end pins → ArePinsOf c gate pins
pins_of c gate end pins kind reads is full h = record {
  each = h.each;
  driven = λ i lt. (kind, reads, is, (let count = h.count in omega (arith, lt, count, full)));
  all = λ other list e.
      let pair : (kind, reads) ≡ (other, list) =
      same_some (kind, reads) (other, list) (sym is ∙ e) in
      let long : length reads ≡ length list = ap (λ p. length p.1) pair in
      let count = h.count in
      omega (arith, long, full, count);
}

pub pins_of_source : (c : List Statement) (gate : ℕ) → gate_of c gate ≡ None → ArePinsOf c gate []
pins_of_source c gate none = record {
  each = λ i at e. let bad : None ≡ Some at = e in cc;
  driven = λ i lt. absurd (omega (arith, lt));
  all = λ kind reads e. let bad : None ≡ Some (kind, reads) = sym none ∙ e in cc;
}

module _ (c d : List Statement) (apart : (s t : ℕ) → place c d s ≡ place c d t → s ≡ t) where
  pub gate_pins_none : (starts : List ℕ) → length starts ≡ length (names d)
      → AreGatePins c d 0 [] starts
  gate_pins_none starts count = record {
    count = count;
    at = λ gate pin kind reads lt. absurd (omega (arith, lt));
    back = λ i at e. let bad : None ≡ Some at = e in cc;
    ordered = λ i j x lt len. absurd (omega (arith, len));
  }

  module _ (s : ℕ) (pins more : List GatePin) (starts : List ℕ)
      (h : AreGatePins c d s pins starts) (own : ArePinsOf c s more)
      (within : place c d s < length starts) where
    abbrev now : List ℕ
    now = set starts (place c d s) (length pins)

    here : slice_index_or now (place c d s) 0 ≡ length pins
    here = get_or-set_same starts (place c d s) (length pins) 0 within

    kept : (gate : ℕ) → gate < s
        → slice_index_or now (place c d gate) 0 ≡ slice_index_or starts (place c d gate) 0
    kept gate lt = get_or-set_other starts (place c d s) (place c d gate) (length pins) 0
        (λ e. let same = apart gate s e in omega (arith, lt, same))

    before_or : (i n : ℕ) → i < n + 1 → (i < n) ⊎ (i ≡ n)
    before_or i n lt = grind (arith, lt)

    at_of : (gate pin : ℕ) (kind : Kind) (reads : List ℕ) → (gate < s) ⊎ (gate ≡ s)
        → gate_of c gate ≡ Some (kind, reads) → pin < length reads
        → slice_get (pins ++ more) (slice_index_or now (place c d gate) 0 + pin)
        ≡ Some (record { gate = gate; pin = pin })
    at_of gate pin kind reads (inl lt) is low =
        ap (λ x. slice_get (pins ++ more) (x + pin)) (kept gate lt)
        ∙ append_left pins more (record { gate = gate; pin = pin })
        (slice_index_or starts (place c d gate) 0 + pin) (h.at gate pin kind reads lt is low)
    at_of gate pin kind reads (inr same) is low =
        let long = own.all kind reads (ap (gate_of c) (sym same) ∙ is) in
        let lt : pin < length more = omega (arith, low, long) in
        let there = slice_get-get_or more pin (record { gate = 0; pin = 0 }) lt in
        let exact = own.each pin (get_or more pin (record { gate = 0; pin = 0 })) there in
        append_right pins more (record { gate = gate; pin = pin })
        (slice_index_or now (place c d gate) 0 + pin) pin
        (ap (λ x. slice_index_or now (place c d x) 0 + pin) same ∙ ap (λ x. x + pin) here)
        (there ∙ (ap Some exact ∙ ap (λ x. Some (record { gate = x; pin = pin })) (sym same)))

    back_of : (i : ℕ) (at : GatePin)
        → (slice_get pins i ≡ Some at) ⊎ ((j : ℕ) × (i ≡ length pins + j)
        × (slice_get more j ≡ Some at)) → (at.gate < s + 1) × (kind : Kind) × (reads : List ℕ)
        × (gate_of c at.gate ≡ Some (kind, reads)) × (at.pin < length reads)
        × (i ≡ slice_index_or now (place c d at.gate) 0 + at.pin)
    back_of i at (inl e) =
        let b = h.back i at e in
        let lt = b.0 in (
          omega (arith, lt),
          b.1,
          b.2,
          b.3,
          b.4,
          b.5 ∙ ap (λ x. x + at.pin) (sym (kept at.gate b.0)),
        )
    back_of i at (inr e) =
        let exact = own.each e.0 at e.2 in
        let gate_is : at.gate ≡ s = ap (λ (x : GatePin). x.gate) exact in
        let pin_is : at.pin ≡ e.0 = ap (λ (x : GatePin). x.pin) exact in
        let drive = own.driven e.0 (place_within more e.0 at e.2) in
        let low = drive.3 in
        let start : slice_index_or now (place c d at.gate) 0 ≡ length pins =
        ap (λ x. slice_index_or now (place c d x) 0) gate_is ∙ here in
        let is = e.1 in (
          omega (arith, gate_is),
          drive.0,
          drive.1,
          ap (gate_of c) gate_is ∙ drive.2,
          omega (arith, low, pin_is),
          omega (arith, is, start, pin_is),
        )

    ordered_of : AllPairs IsBefore (pins ++ more)
    ordered_of i j x lt len =
        let long = length-append pins more in
        pairs (append_at pins more (get_or (pins ++ more) i x) i
        (slice_get-get_or (pins ++ more) i x (omega (arith, lt, len))))
        (append_at pins more (get_or (pins ++ more) j x) j
        (slice_get-get_or (pins ++ more) j x len))
      where
        pairs : (slice_get pins i ≡ Some (get_or (pins ++ more) i x))
            ⊎ ((k : ℕ) × (i ≡ length pins + k)
            × (slice_get more k ≡ Some (get_or (pins ++ more) i x)))
            → (slice_get pins j ≡ Some (get_or (pins ++ more) j x))
            ⊎ ((k : ℕ) × (j ≡ length pins + k)
            × (slice_get more k ≡ Some (get_or (pins ++ more) j x)))
            → IsBefore (get_or (pins ++ more) i x) (get_or (pins ++ more) j x)
        pairs (inl a) (inl b) =
            let low = place_within pins j (get_or (pins ++ more) j x) b in
            subst (λ y. IsBefore y (get_or (pins ++ more) j x))
            (get_or_from_slice_get pins i (get_or (pins ++ more) i x) x a)
            (subst (IsBefore (get_or pins i x))
            (get_or_from_slice_get pins j (get_or (pins ++ more) j x) x b) (h.ordered i j x lt low))
        pairs (inl a) (inr b) =
            let first = (h.back i (get_or (pins ++ more) i x) a).0 in
            let exact = own.each b.0 (get_or (pins ++ more) j x) b.2 in
            let gate_is = ap (λ (y : GatePin). y.gate) exact in
            inl (omega (arith, first, gate_is))
        pairs (inr a) (inl b) =
            let low = place_within pins j (get_or (pins ++ more) j x) b in
            let is = a.1 in
            absurd (omega (arith, low, is, lt))
        pairs (inr a) (inr b) =
            let one = own.each a.0 (get_or (pins ++ more) i x) a.2 in
            let two = own.each b.0 (get_or (pins ++ more) j x) b.2 in
            let one_pin = ap (λ (y : GatePin). y.pin) one in
            let two_pin = ap (λ (y : GatePin). y.pin) two in
            let i_is = a.1 in
            let j_is = b.1 in
            inr (
              ap (λ (y : GatePin). y.gate) one ∙ sym (ap (λ (y : GatePin). y.gate) two),
              omega (arith, one_pin, two_pin, i_is, j_is, lt),
            )

    pub gate_pins_more : AreGatePins c d (s + 1) (pins ++ more) now
    gate_pins_more = record {
      count = length-set starts (place c d s) (length pins) ∙ h.count;
      at = λ gate pin kind reads lt is low. at_of gate pin kind reads (before_or gate s lt) is low;
      back = λ i at e. back_of i at (append_at pins more at i e);
      ordered = ordered_of;
    }

-- all pins of the circuit
pub all_pins : (c d : List Statement) (pins : List GatePin) (starts : List ℕ)
    → AreGatePins c d (length (names c)) pins starts
    → ((gate : ℕ) (kind : Kind) (reads : List ℕ) → gate_of c gate ≡ Some (kind, reads)
    → gate < length (names c)) → AreAllPins c pins
all_pins c d pins starts h within = record {
  each = λ i x lt.
      let b = h.back i (get_or pins i x) (slice_get-get_or pins i x lt) in
      (b.1, b.2, b.3, b.4);
  all = λ gate pin kind reads is low. contained pins (record { gate = gate; pin = pin })
      (at_place pins (slice_index_or starts (place c d gate) 0 + pin)
      (record { gate = gate; pin = pin })
      (h.at gate pin kind reads (within gate kind reads is) is low));
  ordered = h.ordered;
}
