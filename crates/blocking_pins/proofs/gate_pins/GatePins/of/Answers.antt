use Rattle.std.proofs.Common.{◌≡◌, ◌<◌, ◌+◌, ◌++◌, ◌∙◌, ap, arith, length, set, subst, sym}
use Rattle.bench_net.specs.Scan.{names}
use Rattle.fault_model.specs.Reordered.{place}
use Rattle.flat_circuit.proofs.Public.{signals_there}
use Rattle.blocking_pins.specs.Effects.{AreGatePins, ArePinsOf}
use Rattle.blocking_pins.proofs.PinLists.{gate_pins_more, gate_pins_none}
use Rattle.blocking_pins.proofs.gate_pins.GatePins.of.Goals as goal

pub loop-signal-preserved : goal.loop-signal-preserved
loop-signal-preserved c =
    let flat = c.args.flat.now in
    let s = c.loop-signal.signal in
    let pins = c.loop-signal.pins.items in
    let starts = c.loop-signal.starts.items in
    let well = c.signals-signals.ensures.given.well_formed in
    let arranged = c.signals-signals.ensures.arranged in
    let added = c.in_ok-add_pins.ensures in
    let own : ArePinsOf flat.statements s added.0 =
    subst (λ x. ArePinsOf x s added.0) c.circuit.ensures added.1 in
    let at : c.place_of-in-loop-signal.result ≡ place flat.statements flat.arranged s =
    c.place_of-in-loop-signal.ensures.place in
    let lt = c.place_of-in-loop-signal.ensures.within in
    let count = c.loop-signal.invariant.count in
    let within : place flat.statements flat.arranged s < length starts =
    subst (λ x. x < length starts) at (omega (arith, lt, count)) in
    let more = gate_pins_more flat.statements flat.arranged
    (signals_there flat.statements flat.arranged well arranged).apart s pins added.0 starts
    c.loop-signal.invariant own within in
    let number : c.in_ok-starts-2.field-0 ≡ length pins =
    omega (arith, c.in_ok-starts-2.ensures, c.len.ensures, c.loop-signal.pins.ok.0) in
    subst (λ l. AreGatePins flat.statements flat.arranged (s + 1) l
    (set starts c.place_of-in-loop-signal.result c.in_ok-starts-2.field-0)) (sym added.2)
    (subst (λ x. AreGatePins flat.statements flat.arranged (s + 1) (pins ++ added.0)
    (set starts x c.in_ok-starts-2.field-0)) (sym at)
    (subst (λ x. AreGatePins flat.statements flat.arranged (s + 1) (pins ++ added.0)
    (set starts (place flat.statements flat.arranged s) x)) (sym number) more))

pub returns : goal.returns
returns c =
    let flat = c.args.flat.now in
    let full : c.loop-signal.signal ≡ length (names flat.statements) = omega (
      arith,
      c.loop-signal-test.false,
      c.loop-signal.auto.signal-end,
      c.signals-signals.ensures.given_count,
    ) in
    subst (λ n. AreGatePins flat.statements flat.arranged n c.loop-signal.pins.items
    c.loop-signal.starts.items) full c.loop-signal.invariant
