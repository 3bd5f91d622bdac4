-- The pins that block the effect of a fault in a group of tests: those of the gates that the effect
-- comes to.
use Rattle.std.proofs.Common.{◌≡◌, ◌≢◌, ◌<◌, ◌≤◌, ◌+◌, ◌∙◌, ℕ, refl, sym, ap, subst, Bool, true}
use Rattle.std.proofs.Common.{false, List, length, arith, inl, inr, map, ◌⊎◌}
use Rattle.std.specs.Prelude.{Contains, None, Some, bit_xor, if◌then◌else◌, slice_get, ◌-◌, Option}
use Rattle.std.specs.Prelude.{option_map, slice_index_or, unwrap_or}
use Rattle.std.proofs.lemmas.{Bool.{cases_eq, false≢true}, List.{get_or_default, length-map}}
use Rattle.bench_net.specs.{declared.Kind.Kind, Statement.{Statement, Gate}}
use Rattle.bench_net.specs.{Scan.{gate_of, names, signal}, Circuit.{IsCircuit, IsWellFormed}}
use Rattle.list_lemmas.proofs.Places.{place_within}
use Rattle.fault_model.specs.declared.Line.TheVariants as line
use Rattle.fault_model.specs.{Fault.{Fault, same_line}, Solution.{Test, under}}
use Rattle.fault_model.specs.Reordered.{IsReordered, moved_fault, moved_gate, place}
use Rattle.fault_model.proofs.Public.{same_lines, same_signals, under_other, well_reordered}
use Rattle.flat_circuit.specs.{Readers.Reads, Words.{AreWords, lane, test_of, word_over}}
use Rattle.flat_circuit.proofs.Public.{gate_at, lane_same, nothing, pins_some}
use Rattle.block_sim.proofs.Public.{gate_named_of_signal_equations}
use Rattle.blocking_pins.specs.{declared.gate_pins.GatePin.GatePin, Blocking.Blocks}
use Rattle.blocking_pins.specs.Counting.{BlocksInLane, StopsAt, StopsReached}
use Rattle.blocking_pins.specs.Effects.{AreFaulty, AreGatePins, IsTouched, Stops}
use Rattle.blocking_pins.proofs.{SignalReaders.reads_pin, StoppedEffects.{stops_back, stops_there}}

-- of one of the first gates that the effect came to
abbrev pub ReachedBelow : List Statement → Fault → List ℕ → List ℕ → ℕ → List ℕ → List ℕ → ℕ → ℕ
    → ℕ → Type 0
ReachedBelow d f good delta lanes starts reached end i k = (j : ℕ) × (j < end)
    × StopsAt d f good delta lanes starts (slice_index_or reached j 0) i k

before_or : (i n : ℕ) → i < n + 1 → (i < n) ⊎ (i ≡ n)
before_or i n lt = grind (arith, lt)

module _ (d : List Statement) (f : Fault) (good delta : List ℕ) (lanes : ℕ)
    (starts reached : List ℕ) where
  pub reached_split : (j i k : ℕ) → ReachedBelow d f good delta lanes starts reached (j + 1) i k
      → ReachedBelow d f good delta lanes starts reached j i k
      ⊎ StopsAt d f good delta lanes starts (slice_index_or reached j 0) i k
  reached_split j i k s = go (before_or s.0 j s.1)
    where
      go : (s.0 < j) ⊎ (s.0 ≡ j) → ReachedBelow d f good delta lanes starts reached j i k
          ⊎ StopsAt d f good delta lanes starts (slice_index_or reached j 0) i k
      go (inl lt) = inl (s.0, lt, s.2)
      go (inr same) = inr (subst (λ x. StopsAt d f good delta lanes starts
          (slice_index_or reached x 0) i k) same s.2)

  pub reached_from : (end i k : ℕ) → end ≤ length reached
      → ReachedBelow d f good delta lanes starts reached end i k
      → StopsReached d f good delta lanes starts reached i k
  reached_from end i k le s =
      let low = s.1 in
      let lt : s.0 < length reached = omega (arith, low, le) in
      let gate = slice_index_or reached s.0 0 in
      (gate, (s.0, lt, get_or_default reached s.0 gate 0 lt), s.2)

  pub reached_all : (end i k : ℕ) → length reached ≤ end
      → StopsReached d f good delta lanes starts reached i k
      → ReachedBelow d f good delta lanes starts reached end i k
  reached_all end i k le s =
      let at = s.1 in
      let lt = at.1 in
      let is : slice_index_or reached at.0 0 ≡ s.0 =
      get_or_default reached at.0 0 s.0 at.1 ∙ at.2 in (
        at.0,
        omega (arith, lt, le),
        subst (λ x. StopsAt d f good delta lanes starts x i k) (sym is) s.2,
      )

-- a pin that differs is one that the effect comes to
same_bit : (x y : Bool) → (x ≡ y) ⊎ (x ≢ y)
same_bit true true = inl refl
same_bit false false = inl refl
same_bit true false = inr (λ e. false≢true (sym e))
same_bit false true = inr (λ e. false≢true e)

pub stopped_touched : (d : List Statement) (f : Fault) (good delta : List ℕ) (gate pin k : ℕ)
    → IsWellFormed d → Stops d f good delta gate pin k → IsTouched d f delta gate
stopped_touched d f good delta gate pin k well s =
    go (same_line f.line (line.Pin gate s.enters.0)) refl
    (cases_eq (slice_index_or delta s.enters.1 0) 0)
  where
    go : (b : Bool) → same_line f.line (line.Pin gate s.enters.0) ≡ b
        → (slice_index_or delta s.enters.1 0 ≡ 0) ⊎ (slice_index_or delta s.enters.1 0 ≢ 0)
        → IsTouched d f delta gate
    go true e h = inl (s.enters.0, same_lines f.line (line.Pin gate s.enters.0) e)
    go false e (inr ne) = inr (
      s.enters.1,
      reads_pin d gate s.kind s.pins well s.driven s.enters.0 s.enters.1 s.enters.2,
      ne,
    )
    go false e (inl none) = absurd (s.enters.3
        (sym (lane_same (slice_index_or good s.enters.1 0) k (slice_index_or delta s.enters.1 0)
        none) ∙ sym (ap (λ b. if b then f.stuck else lane (word_over good delta s.enters.1) k) e)))

module _ (c d : List Statement) (well : IsWellFormed c) (is : IsReordered c d)
    (tests : List Test) (group : ℕ) (f : Fault) (good delta : List ℕ) (lanes : ℕ)
    (words : AreWords d tests group None good)
    (faulty : AreFaulty d (moved_fault c d f) good lanes delta) (pins : List GatePin)
    (starts reached : List ℕ) (listed : AreGatePins c d (length (names c)) pins starts)
    (touched : (g : ℕ) → IsTouched d (moved_fault c d f) delta g → Contains reached g)
    (within : (g : ℕ) → Contains reached g → g < length (names d)) where
  pub reached_blocks : (i k : ℕ) → k < 128
      → StopsReached d (moved_fault c d f) good delta lanes starts reached i k
      → BlocksInLane c tests group lanes f pins i k
  reached_blocks i k lt s =
      let own = (same_signals c d well is).onto s.0 (within s.0 s.1) in
      let gate = own.0 in
      let pin = s.2.0 in
      let stops : Stops d (moved_fault c d f) good delta (place c d gate) pin k =
      subst (λ x. Stops d (moved_fault c d f) good delta x pin k) own.2 s.2.3 in
      let b = stops_back c d well is tests group f good delta lanes words faulty k lt s.2.2 gate
      pin stops in
      let driven = gate_named_of_signal_equations c b.name b.kind b.args gate well b.number
      b.stands in
      let low = place_within b.args pin b.read b.at in
      let long = length-map b.args (signal c) in
      let at = listed.at gate pin b.kind (map (signal c) b.args) own.1 driven
      (omega (arith, low, long)) in (
        record { gate = gate; pin = pin },
        ap (slice_get pins) (s.2.1 ∙ ap (λ x. slice_index_or starts x 0 + pin) own.2) ∙ at,
        s.2.2,
        b,
      )

  pub blocks_reached : (i k : ℕ) → k < 128 → BlocksInLane c tests group lanes f pins i k
      → StopsReached d (moved_fault c d f) good delta lanes starts reached i k
  blocks_reached i k lt b =
      let stops = stops_there c d well is tests group f good delta lanes words faulty k lt b.2
      b.0.gate b.0.pin b.3 in
      let back = listed.back i b.0 b.1 in (
        place c d b.0.gate,
        touched (place c d b.0.gate) (stopped_touched d (moved_fault c d f) good delta
            (place c d b.0.gate) b.0.pin k (well_reordered c d is.statements well) stops),
        (b.0.pin, back.5, b.2, stops),
      )

-- there is room for the pins of each gate
pub pins_room : (c d : List Statement) → IsCircuit d → IsWellFormed c → IsReordered c d
    → (pins : List GatePin) (starts : List ℕ) → AreGatePins c d (length (names c)) pins starts
    → (at : ℕ) (kind : Kind) (reads : List ℕ) → gate_of d at ≡ Some (kind, reads)
    → slice_index_or starts at 0 + length reads ≤ length pins
pins_room c d circuit well is pins starts listed at kind reads e =
    let own = gate_at d at kind reads e in
    let signals = same_signals c d well is in
    let from = signals.onto at (place_within (names d) at own.name own.named) in
    go from.0 from.1 from.2 (gate_of c from.0) refl
    (sym (signals.gates from.0) ∙ (ap (gate_of d) (sym from.2) ∙ e))
  where
    some : 0 < length reads
    some = pins_some d at kind reads circuit e

    go : (s : ℕ) → s < length (names c) → at ≡ place c d s → (o : Option (Kind × List ℕ))
        → gate_of c s ≡ o → option_map (moved_gate c d) o ≡ Some (kind, reads)
        → slice_index_or starts at 0 + length reads ≤ length pins
    go s lt same None own bad = absurd (nothing (kind, reads) bad)
    go s lt same (Some g) own moved =
        let mapped : map (place c d) g.1 ≡ reads =
        ap (λ (o : Option (Kind × List ℕ)). (unwrap_or o (kind, reads)).1) moved in
        let long : length reads ≡ length g.1 =
        sym (ap length mapped) ∙ length-map g.1 (place c d) in
        let more = some in
        let last : length reads - 1 < length g.1 = omega (arith, long, more) in
        let there = listed.at s (length reads - 1) g.0 g.1 lt own last in
        let within = place_within pins (slice_index_or starts (place c d s) 0
        + (length reads - 1)) (record { gate = s; pin = length reads - 1 }) there in
        let start : slice_index_or starts at 0 ≡ slice_index_or starts (place c d s) 0 =
        ap (λ x. slice_index_or starts x 0) same in
        omega (arith, within, start, more)
