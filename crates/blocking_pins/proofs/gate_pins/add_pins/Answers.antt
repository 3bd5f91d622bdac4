use Rattle.std.proofs.Common.{◌≡◌, ◌∙◌, ◌++◌, [], ◌∷◌, ap, append_assoc, arith, length, sym}
use Rattle.flat_circuit.proofs.Public.{pins_few}
use Rattle.blocking_pins.specs.declared.gate_pins.GatePin.{GatePin}
use Rattle.blocking_pins.proofs.PinLists.{pins_more, pins_none, pins_of, pins_of_source}
use Rattle.blocking_pins.proofs.gate_pins.add_pins.Goals as goal

pub overflow_cast-pin-end : goal.overflow_cast-pin-end
overflow_cast-pin-end c =
    let few = pins_few c.args.circuit.now c.args.signal c.in-Some.gate.now.kind
    c.in-Some.gate.now.pins.items c.signals-signals.ensures.circuit (sym c.in-Some.ensures) in
    omega (arith, few, c.len-pin-end.ensures.value)

pub loop-pin-preserved : goal.loop-pin-preserved
loop-pin-preserved c =
    let h = c.loop-pin.invariant in
    let own : GatePin = record { gate = c.args.signal; pin = c.loop-pin.pin } in (
      h.0 ++ own ∷ [],
      pins_more c.args.signal c.loop-pin.pin h.0 h.1,
      c.in_ok-push.ensures.items ∙ (ap (λ l. l ++ own ∷ []) h.2
          ∙ append_assoc c.args.pins.now.items h.0 (own ∷ [])),
    )
