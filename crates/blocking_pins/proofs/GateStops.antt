-- The lanes in which the pins of a gate block the effect of a fault.
use Rattle.std.proofs.Common.{◌≡◌, ◌≢◌, ◌<◌, ◌≤◌, ◌+◌, ◌^◌, ◌∙◌, ℕ, refl, sym, ap, subst, Bool}
use Rattle.std.proofs.Common.{true, false, not, List, length, arith, inl, inr, ◌⊎◌}
use Rattle.std.specs.Prelude.{None, Option, Some, bit_and, bit_xor, slice_get, slice_index_or}
use Rattle.std.{specs.Prelude.{unwrap_or, ◌&&◌}, specs.Bool.Decides, proofs.lemmas.Bool.false≢true}
use Rattle.bench_net.specs.{declared.Kind.Kind, Statement.Statement, Scan.gate_of}
use Rattle.fault_model.specs.declared.Line.TheVariants as line
use Rattle.fault_model.specs.{Fault.Fault, Solution.under}
use Rattle.flat_circuit.specs.Words.{lane, word_over}
use Rattle.flat_circuit.proofs.Public.{lane_and, lane_xor, left_of, right_of, unlike}
use Rattle.blocking_pins.specs.{Blocking.controlling, Effects.{Differs, Stops}}
use Rattle.blocking_pins.proofs.SteadyLanes.{both}
use Rattle.list_lemmas.proofs.Places.{place_within}

-- a pin before a number blocks the effect, where the gate's pins begin and in a lane of some
abbrev pub StopsBelow : List Statement → Fault → List ℕ → List ℕ → ℕ → ℕ → ℕ → ℕ → ℕ → ℕ → Type 0
StopsBelow c f good delta gate lanes start end i k = (pin : ℕ) × (pin < end) × (i ≡ start + pin)
    × (lane lanes k ≡ true) × Stops c f good delta gate pin k

before_or : (i n : ℕ) → i < n + 1 → (i < n) ⊎ (i ≡ n)
before_or i n lt = grind (arith, lt)

module _ (c : List Statement) (f : Fault) (good delta : List ℕ) (gate lanes : ℕ) (kind : Kind)
    (pins : List ℕ) (value : Bool) (is : gate_of c gate ≡ Some (kind, pins))
    (controls : controlling kind ≡ Some value) (entered : ℕ)
    (enters : (k : ℕ) → k < 128 → Decides (lane entered k) (Differs f good delta gate pins k))
  where
    abbrev pub same_lanes : ℕ
    same_lanes = bit_xor lanes (bit_and lanes (slice_index_or delta gate 0))

    abbrev pub stopped : ℕ
    stopped = bit_and same_lanes entered

    without : (a b : Bool) → unlike a (a && b) ≡ true → (a ≡ true) × (b ≡ false)
    without true true e = absurd (false≢true e)
    without true false e = (refl, refl)
    without false b e = absurd (false≢true e)

    with_both : (a b : Bool) → (a ≡ true) × (b ≡ false) → unlike a (a && b) ≡ true
    with_both true true e = absurd (false≢true (sym e.1))
    with_both true false e = refl
    with_both false b e = absurd (false≢true e.0)

    same_is : (k : ℕ) → lane same_lanes k
        ≡ unlike (lane lanes k) (lane lanes k && lane (slice_index_or delta gate 0) k)
    same_is k = lane_xor lanes (bit_and lanes (slice_index_or delta gate 0)) k
        ∙ ap (unlike (lane lanes k)) (lane_and lanes (slice_index_or delta gate 0) k)

    stopped_is : (k : ℕ) → k < 128 → Decides (lane stopped k) ((lane lanes k ≡ true)
        × (lane (slice_index_or delta gate 0) k ≡ false) × Differs f good delta gate pins k)
    stopped_is k lt = (
      λ on. let two = sym (lane_and same_lanes entered k) ∙ on in
          let w = without (lane lanes k) (lane (slice_index_or delta gate 0) k)
          (sym (same_is k) ∙ left_of (lane same_lanes k) (lane entered k) two) in
          (w.0, w.1, (enters k lt).0 (right_of (lane same_lanes k) (lane entered k) two)),
      λ h. lane_and same_lanes entered k ∙ both (lane same_lanes k) (lane entered k)
          (same_is k ∙ with_both (lane lanes k) (lane (slice_index_or delta gate 0) k)
          (h.0, h.1)) ((enters k lt).1 h.2),
    )

    module _ (pin read blocked : ℕ) (at : slice_get pins pin ≡ Some read)
        (steady : (k : ℕ) → k < 128 → Decides (lane blocked k) ((lane stopped k ≡ true)
        × (lane (slice_index_or good read 0) k ≡ value)
        × (under (Some f) (line.Pin gate pin) (lane (word_over good delta read) k) ≡ value))) where
      -- the lanes in which this pin blocks the effect
      pub blocked_stops : (k : ℕ) → k < 128 → lane blocked k ≡ true
          → (lane lanes k ≡ true) × Stops c f good delta gate pin k
      blocked_stops k lt on =
          let s = (steady k lt).0 on in
          let w = (stopped_is k lt).0 s.0 in (
            w.0,
            record {
              kind = kind;
              pins = pins;
              read = read;
              bit = value;
              driven = is;
              controls = controls;
              at = at;
              same = w.1;
              enters = w.2;
              free_bit = s.1;
              faulty_bit = s.2;
            },
          )

      pub stops_blocked : (k : ℕ) → k < 128 → lane lanes k ≡ true
          → Stops c f good delta gate pin k → lane blocked k ≡ true
      stops_blocked k lt on s =
          let pair : (kind, pins) ≡ (s.kind, s.pins) =
          ap (λ o. unwrap_or o (kind, pins)) (sym is ∙ s.driven) in
          let one_kind : s.kind ≡ kind = ap (λ p. p.0) (sym pair) in
          let one_list : s.pins ≡ pins = ap (λ p. p.1) (sym pair) in
          let bit_is : s.bit ≡ value = ap (λ o. unwrap_or o value) (sym s.controls
          ∙ (ap controlling one_kind ∙ controls)) in
          let read_is : s.read ≡ read = ap (λ o. unwrap_or o read) (sym s.at
          ∙ (ap (λ l. slice_get l pin) one_list ∙ at)) in
          (steady k lt).1 (
            (stopped_is k lt).1 (
              on,
              s.same,
              subst (λ l. Differs f good delta gate l k) one_list s.enters,
            ),
            ap (λ x. lane (slice_index_or good x 0) k) (sym read_is) ∙ (s.free_bit ∙ bit_is),
            ap (λ x. under (Some f) (line.Pin gate pin) (lane (word_over good delta x) k))
                (sym read_is) ∙ (s.faulty_bit ∙ bit_is),
          )

-- no pin blocks without a controlling value
pub stops_nowhere : (c : List Statement) (f : Fault) (good delta : List ℕ) (gate pin k : ℕ)
    (kind : Kind) (pins : List ℕ) → gate_of c gate ≡ Some (kind, pins) → controlling kind ≡ None
    → Stops c f good delta gate pin k → ⊥
stops_nowhere c f good delta gate pin k kind pins is none s =
    let pair : (kind, pins) ≡ (s.kind, s.pins) =
    ap (λ o. unwrap_or o (kind, pins)) (sym is ∙ s.driven) in
    let one_kind : s.kind ≡ kind = ap (λ p. p.0) (sym pair) in
    let bad : None ≡ Some s.bit = sym none ∙ (ap controlling (sym one_kind) ∙ s.controls) in cc

-- a pin that blocks is one of the gate's
pub stops_within : (c : List Statement) (f : Fault) (good delta : List ℕ) (gate pin k : ℕ)
    (kind : Kind) (pins : List ℕ) → gate_of c gate ≡ Some (kind, pins)
    → Stops c f good delta gate pin k → pin < length pins
stops_within c f good delta gate pin k kind pins is s =
    let pair : (kind, pins) ≡ (s.kind, s.pins) =
    ap (λ o. unwrap_or o (kind, pins)) (sym is ∙ s.driven) in
    let long : length pins ≡ length s.pins = ap (λ p. length p.1) pair in
    let lt = place_within s.pins pin s.read s.at in
    omega (arith, long, lt)

-- one pin more
pub stops_split : (c : List Statement) (f : Fault) (good delta : List ℕ)
    (gate lanes start pin blocked : ℕ)
    → ((k : ℕ) → k < 128 → lane lanes k ≡ true → Stops c f good delta gate pin k
    → lane blocked k ≡ true)
    → (i k : ℕ) → k < 128 → StopsBelow c f good delta gate lanes start (pin + 1) i k
    → StopsBelow c f good delta gate lanes start pin i k
    ⊎ ((i ≡ start + pin) × (lane blocked k ≡ true))
stops_split c f good delta gate lanes start pin blocked block i k low s = go (before_or s.0 pin s.1)
  where
    go : (s.0 < pin) ⊎ (s.0 ≡ pin) → StopsBelow c f good delta gate lanes start pin i k
        ⊎ ((i ≡ start + pin) × (lane blocked k ≡ true))
    go (inl lt) = inl (s.0, lt, s.2, s.3, s.4)
    go (inr same) = inr (
      s.2 ∙ ap (λ x. start + x) same,
      block k low s.3 (subst (λ x. Stops c f good delta gate x k) same s.4),
    )
