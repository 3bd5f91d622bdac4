use Rattle.std.proofs.{Common.{ap, false}, lemmas.Result.err_from_is_err_and}
use Rattle.byte_output.proofs.Public.{flat_map_cut, flat_map_taken, stopped, takes_more}
use Rattle.blocking_pins.specs.declared.pins.BlockingPin.{BlockingPin}
use Rattle.analysis_reports.specs.BlockingReports.{pin_cells, pin_line}
use Rattle.analysis_reports.proofs.blocking.put_pins.Goals as goal

pub returns-in_err-put_pin : goal.returns-in_err-put_pin
returns-in_err-put_pin g c =
    let p = err_from_is_err_and c.from_residual.result c.from_residual.ensures.1 in
    let none : BlockingPin = record {
      gate = 0;
      pin = 0;
      read = 0;
      value = false;
      faults = 0;
      tests = 0;
    } in
    let line = λ (pin : BlockingPin). pin_line (pin_cells c.args.circuit.now pin) in
    rw (p.1) (stopped _ _ _ _ _ _ _ c.loop-pin.invariant c.in_err-put_pin.ensures
    (flat_map_cut line c.args.pins.now c.loop-pin.pin-index none _ c.loop-pin-test.true
    (ap pin_line c.named_pin.ensures)))

pub loop-pin-preserved : goal.loop-pin-preserved
loop-pin-preserved g c =
    let none : BlockingPin = record {
      gate = 0;
      pin = 0;
      read = 0;
      value = false;
      faults = 0;
      tests = 0;
    } in
    let line = λ (pin : BlockingPin). pin_line (pin_cells c.args.circuit.now pin) in
    rw (flat_map_taken line c.args.pins.now c.loop-pin.pin-index none _ c.loop-pin-test.true
    (ap pin_line c.named_pin.ensures))
    (takes_more _ _ _ _ _ c.loop-pin.invariant c.in_ok-put_pin.ensures)
