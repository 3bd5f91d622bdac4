use Rattle.std.proofs.Common.{◌≡◌, ◌<◌, ◌∙◌, ℕ, List, ap, arith, get_or, length, sym}
use Rattle.std.{specs.Prelude.{Option, Some, unwrap_or}, proofs.lemmas.Option.slice_get-get_or}
use Rattle.bench_net.specs.{declared.Kind.Kind, Scan.names}
use Rattle.list_lemmas.proofs.Places.{place_within}
use Rattle.flat_circuit.proofs.Public.{gate_at}
use Rattle.blocking_pins.proofs.pins.row_of.Goals as goal

pub gate_of-requires : goal.gate_of-requires
gate_of-requires c =
    let own = gate_at c.args.circuit.now c.args.pin.gate c.requires.0 c.requires.1 c.requires.2 in
    place_within (names c.args.circuit.now) c.args.pin.gate own.name own.named

pub returns-clause-read : goal.returns-clause-read
returns-clause-read c = λ kind reads e.
    let own : c.requires.1 ≡ reads =
    ap (λ (o : Option (Kind × List ℕ)). (unwrap_or o (kind, reads)).1) (sym c.requires.2 ∙ e) in
    let long = ap length own in
    let low = c.requires.3 in
    let lt : c.args.pin.pin < length reads = omega (arith, low, long) in
    let there : reads ≡ c.deref.result.now =
    ap (λ (o : Option (Kind × List ℕ)). (unwrap_or o (kind, reads)).1)
    (sym e ∙ sym c.in-Some.ensures) ∙ sym c.deref.ensures in
    slice_get-get_or reads c.args.pin.pin 0 lt ∙ ap (λ l. Some (get_or l c.args.pin.pin 0)) there
