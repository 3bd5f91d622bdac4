-- The texts of the pins that block effects, and what verdicts tell of them.
use Rattle.std.proofs.Common.{◌≡◌, ◌<◌, ◌∙◌, ◌++◌, [], ℕ, Bool, List, ap, false, get_or, length}
use Rattle.std.proofs.{Common.{map, refl, subst, sym, true}, lemmas.Option.get_or_from_slice_get}
use Rattle.std.specs.Prelude.{All, Option, None, Some, codes, decimal, is_some, slice_get}
use Rattle.std.proofs.lemmas.Bool.{false≢true}
use Rattle.bench_net.specs.{Scan.names, Statement.Statement}
use Rattle.fault_model.specs.{Detection.DetectsAt, Fault.{Fault, FaultList}, Solution.Test}
use Rattle.list_lemmas.proofs.Places.{from_mapped, place_within}
use Rattle.flat_circuit.proofs.Public.{gate_at, pins_within}
use Rattle.block_sim.specs.{First.IsFirst, Parts.{BelongTogether, Parts}}
use Rattle.blocking_pins.specs.declared.pins.BlockingPin.{BlockingPin}
use Rattle.blocking_pins.specs.Blocking.{AreDetected, IsBlockingPin}
use Rattle.workers.specs.Verdict.{AreFirsts}
use Rattle.analysis_reports.specs.BlockingReports.{HasNames, PinCells, pin_line}
use Rattle.analysis_reports.proofs.BlockTexts.{flags_counted}

-- the line of a pin from its pieces
pub line_pieces : (pin : PinCells) (number value faults tests : List ℕ)
    → number ≡ decimal pin.pin → value ≡ decimal pin.value
    → faults ≡ decimal pin.faults → tests ≡ decimal pin.tests
    → codes "pin " ++ (pin.gate ++ (codes " " ++ (number ++ (codes " " ++ (pin.net
    ++ (codes " " ++ (value ++ (codes " " ++ (faults ++ (codes " " ++ (tests
    ++ (codes "\n" ++ [])))))))))))) ≡ pin_line pin
line_pieces pin number value faults tests e f g h = rw (e, f, g, h) refl

-- the signals of a pin are in the circuit
pub pin_named : (job : Parts) (row : BlockingPin) → BelongTogether job → IsBlockingPin job row
    → HasNames job.circuit row
pin_named job row together is =
    let c = job.circuit in
    let own = gate_at c row.gate is.kind is.pins is.driven in
    let lt : row.pin < length is.pins = place_within is.pins row.pin row.read is.reads in
    let at : get_or is.pins row.pin 0 ≡ row.read =
    get_or_from_slice_get is.pins row.pin row.read 0 is.reads in (
      place_within (names c) row.gate own.name own.named,
      subst (λ n. n < length (names c)) at (pins_within c row.gate is.kind is.pins
          together.circuit.well_formed is.driven row.pin 0 lt),
    )

pub pins_named : (job : Parts) (rows : List BlockingPin) → BelongTogether job
    → All (IsBlockingPin job) rows → All (HasNames job.circuit) rows
pins_named job rows together are = λ k d lt. pin_named job (get_or rows k d) together (are k d lt)

-- the verdict on a fault from its flag
flag_true : (o : Option ℕ) (c : List Statement) (tests : List Test) (f : Fault)
    → IsFirst c tests f o → is_some o ≡ true → (t : ℕ) × DetectsAt c tests f t
flag_true (Some t) c tests f is e = (t, is.0)
flag_true None c tests f is e = absurd (false≢true e)

flag_false : (o : Option ℕ) (c : List Statement) (tests : List Test) (f : Fault)
    → IsFirst c tests f o → is_some o ≡ false → (t : ℕ) → ¬ DetectsAt c tests f t
flag_false None c tests f is e = is
flag_false (Some t) c tests f is e = absurd (false≢true (sym e))

-- the flags that say whether each fault has a first test say whether it is detected
pub flags_detected : (job : Parts) (firsts : List (Option ℕ)) (flags : List Bool)
    → BelongTogether job → AreFirsts job.list.model job.circuit job.tests.tests firsts
    → flags ≡ map is_some firsts → AreDetected job flags
flags_detected job firsts flags together are is = record {
  count = flags_counted job firsts flags together are is;
  found = λ i f at flag.
      let own = from_mapped is_some firsts i true (ap (λ l. slice_get l i) (sym is) ∙ flag) in
      flag_true own.0 job.circuit job.tests.tests f (first i f own.0 at own.1) own.2;
  none = λ i f at flag.
      let own = from_mapped is_some firsts i false (ap (λ l. slice_get l i) (sym is) ∙ flag) in
      flag_false own.0 job.circuit job.tests.tests f (first i f own.0 at own.1) own.2;
}
  where
    first : (i : ℕ) (f : Fault) (o : Option ℕ) → slice_get job.list.list i ≡ Some f
        → slice_get firsts i ≡ Some o → IsFirst job.circuit job.tests.tests f o
    first i f o at own = are.first i f o
        (ap (λ (l : FaultList). slice_get l.list i) (sym together.list) ∙ at) own
