use Rattle.std.proofs.Common.{◌≡◌, ◌<◌, ◌+◌, ◌++◌, ◌∷◌, [], ◌∙◌, ap, arith, get_or, length, subst}
use Rattle.std.{proofs.Common.{Vec, Global, refl, sym}, specs.Prelude.{All, Some, slice_get}}
use Rattle.std.proofs.lemmas.Option.{get_or_from_slice_get, slice_get-get_or, slice_get_read}
use Rattle.bench_net.specs.Scan.{gate_of}
use Rattle.list_lemmas.proofs.Places.{place_within}
use Rattle.patterns.specs.Tests.{TestList}
use Rattle.blocking_pins.specs.{declared.pins.BlockingPin.BlockingPin, Blocking.HaveCount}
use Rattle.blocking_pins.specs.{Counting.HasBit, declared.gate_pins.GatePin.GatePin}
use Rattle.blocking_pins.specs.{declared.tally.PinCount.PinCount, Effects.IsGatePin}
use Rattle.blocking_pins.proofs.PinRows.{AreListedBelow, IsRowOf, blocks_driven, listed_all}
use Rattle.blocking_pins.proofs.PinRows.{listed_more, listed_none, listed_same, no_row, pin_row}
use Rattle.blocking_pins.proofs.{VecRows.rows_of, pins.rows_of.Goals.else-faults-gt0}
use Rattle.blocking_pins.proofs.pins.rows_of.Goals.{Joined-faults-gt0, then-faults-gt0+in_ok-push}
use Rattle.blocking_pins.proofs.pins.rows_of.Goals as goal

pub row_of-requires : goal.row_of-requires
row_of-requires c =
    let all = subst (λ l. All (IsGatePin c.circuit.result.now) l)
    (sym c.deref-pin-items.ensures.value)
    (subst (λ x. All (IsGatePin x) c.args.pins.now.pins.items) (sym c.circuit.ensures.part)
    c.requires.pins.each) in
    all c.loop-at.at (record { gate = 0; pin = 0 }) c.loop-at-test.true

-- the pin at the place, and its numbers
pin_at : (c : Joined-faults-gt0) → slice_get c.args.pins.now.pins.items c.loop-at.at
    ≡ Some (get_or c.deref-pin-items.result.now c.loop-at.at (record { gate = 0; pin = 0 }))
pin_at c = subst (λ l. slice_get l c.loop-at.at ≡ Some (get_or c.deref-pin-items.result.now
    c.loop-at.at (record { gate = 0; pin = 0 }))) c.deref-pin-items.ensures.value
    (slice_get-get_or c.deref-pin-items.result.now c.loop-at.at (record { gate = 0; pin = 0 })
    c.loop-at-test.true)

count_at : (c : Joined-faults-gt0) → slice_get c.args.tally.now.counts.items c.loop-at.at
    ≡ Some c.index.result.now
count_at c =
    let lt = place_within c.args.pins.now.pins.items c.loop-at.at _ (pin_at c) in
    let same = c.requires.tally.count in
    let low : c.loop-at.at < length c.args.tally.now.counts.items = omega (arith, lt, same) in
    slice_get_read c.args.tally.now.counts.items (length c.args.tally.now.counts.items)
    c.loop-at.at c.index.result.now refl low c.index.ensures

pub loop-at-preserved : goal.loop-at-preserved
loop-at-preserved c = elim c.if-faults-gt0.branch [
  | then-faults-gt0+in_ok-push w ↦
      let job = c.args.job.now in
      let pins = c.args.pins.now.pins.items in
      let counts = c.args.tally.now.counts.items in
      let rows = rows_of c.args.tally.now.rows.items in
      let i = c.loop-at.at in
      let at : GatePin = get_or c.deref-pin-items.result.now i (record { gate = 0; pin = 0 }) in
      let row = w.row_of.result in
      let is : IsRowOf row at = (w.row_of.ensures.gate, w.row_of.ensures.pin) in
      let own = c.requires.pins.each i at (place_within pins i at (pin_at c)) in
      let gate : IsGatePin job.circuit at = subst (IsGatePin job.circuit)
      (get_or_from_slice_get pins i at at (pin_at c)) own in
      let kind = gate.0 in
      let reads = gate.1 in
      let there : gate_of w.circuit.result.now at.gate ≡ Some (kind, reads) =
      ap (λ x. gate_of x at.gate) w.circuit.ensures.part ∙ gate.2 in
      let tests : HaveCount (HasBit rows i) (length job.tests.tests) row.tests =
      subst (HaveCount (HasBit rows i) (length job.tests.tests)) (sym w.row_of.ensures.tests)
      (subst (λ n. HaveCount (HasBit rows i) n w.tests_of-tests.result)
      (w.count.ensures ∙ ap (λ (t : TestList). length t.tests) w.tests.ensures.part)
      w.tests_of-tests.ensures) in
      let one = pin_row job pins counts rows c.requires.tally
      c.circuit-circuit.ensures.together.circuit.well_formed i at c.index.result.now (pin_at c)
      (count_at c) row is w.row_of.ensures.faults w.if-faults-gt0.true tests kind reads gate.2
      (w.row_of.ensures.read kind reads there)
      (λ value controls. w.row_of.ensures.value kind reads value there controls) in
      let more = listed_more job pins i c.loop-at.rows.items at (pin_at c) c.loop-at.invariant row
      one is c.requires.pins.ordered in
      subst (λ (v : Vec BlockingPin Global). AreListedBelow job pins (i + 1) v.items)
      (sym w.rows-is) (subst (AreListedBelow job pins (i + 1)) (sym w.in_ok-push.ensures.items)
      more)
  | else-faults-gt0 w ↦
      let job = c.args.job.now in
      let pins = c.args.pins.now.pins.items in
      let i = c.loop-at.at in
      let at : GatePin = get_or c.deref-pin-items.result.now i (record { gate = 0; pin = 0 }) in
      let none = no_row job pins c.args.tally.now.counts.items
      (rows_of c.args.tally.now.rows.items) c.requires.tally i at c.index.result.now (pin_at c)
      (count_at c) w.if-faults-gt0.false in
      subst (λ (v : Vec BlockingPin Global). AreListedBelow job pins (i + 1) v.items)
      (sym w.rows-is)
      (listed_same job pins i c.loop-at.rows.items at (pin_at c) c.loop-at.invariant none)
]

pub returns : goal.returns
returns c =
    let job = c.args.job.now in
    let well = c.circuit-circuit.ensures.together.circuit.well_formed in
    let end = c.loop-at-test.false in
    let long = ap length c.deref-pin-items.ensures.value in
    listed_all job c.args.pins.now.pins.items c.loop-at.at c.loop-at.rows.items c.requires.pins
    (omega (arith, end, long)) c.loop-at.invariant
    (λ gate pin fault t b. let d = blocks_driven job well gate pin fault t b in
    (d.0, d.1, d.2, d.3))
