-- In the lanes of a group the pins that block are those under the lanes' tests.
use Rattle.std.proofs.Common.{◌≡◌, ◌<◌, ◌+◌, ◌*◌, ◌∙◌, ℕ, sym, subst, List, [], length, true}
use Rattle.std.specs.{Prelude.{Some, slice_get}, Bool.Decides}
use Rattle.std.proofs.lemmas.Option.{get_or_from_slice_get}
use Rattle.bench_net.specs.Statement.{Statement}
use Rattle.fault_model.specs.{Detection.LooksBack, Fault.Fault, Solution.Test}
use Rattle.flat_circuit.specs.Words.{lane, test_of}
use Rattle.list_lemmas.proofs.Places.{place_within, within_place}
use Rattle.blocking_pins.specs.{declared.gate_pins.GatePin.GatePin, Blocking.Blocks}
use Rattle.blocking_pins.specs.Counting.{BlocksAtPlace, BlocksInLane}

module _ (c : List Statement) (tests : List Test) (group lanes : ℕ) (f : Fault)
    (pins : List GatePin) (are : (k : ℕ) → k < 128 → Decides (lane lanes k)
    ((128 * group + k < length tests)
    × LooksBack c tests f.model f.line f.stuck (128 * group + k))) where
  pub lane_at_place : (i k : ℕ) → k < 128 → BlocksInLane c tests group lanes f pins i k
      → BlocksAtPlace c tests f pins i (128 * group + k)
  lane_at_place i k low b =
      let w = (are k low).0 b.2 in
      let test = within_place tests (128 * group + k) w.0 in
      let is : test_of tests group k ≡ test.0 =
      get_or_from_slice_get tests (128 * group + k) test.0 [] test.1 in (
        b.0,
        b.1,
        (test.0, test.1, subst (λ t. Blocks c t f b.0.gate b.0.pin) is b.3, w.1),
      )

  pub place_in_lane : (i k : ℕ) → k < 128 → BlocksAtPlace c tests f pins i (128 * group + k)
      → BlocksInLane c tests group lanes f pins i k
  place_in_lane i k low b =
      let w = b.2 in
      let is : test_of tests group k ≡ w.0 =
      get_or_from_slice_get tests (128 * group + k) w.0 [] w.1 in (
        b.0,
        b.1,
        (are k low).1 (place_within tests (128 * group + k) w.0 w.1, w.3),
        subst (λ t. Blocks c t f b.0.gate b.0.pin) (sym is) w.2,
      )
