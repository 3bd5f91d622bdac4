use Rattle.std.{proofs.Common.{◌<◌, length, refl, subst}, specs.Prelude.{◌≤◌, ℕ}}
use Rattle.bench_net.specs.{Scan.names, Level.HasLevel}
use Rattle.fault_model.specs.Reordered.{in_order}
use Rattle.flat_circuit.{specs.Arranged.IsArranged, proofs.ArrangedSignals.deep_there}
use Rattle.flat_circuit.proofs.flat.FlatCircuit.depth.Goals as goal

pub returns : goal.returns
returns c =
    let own = c.self.inside in
    let circuit = own.circuit in
    let there = in_order circuit own.order.items in
    let arranged : IsArranged circuit there = (own.order.items, c.self.invariant.ordered, refl) in
    subst (λ x. (s : ℕ) → s < length (names x.arranged)
    → (level : ℕ) × HasLevel x.arranged s level × (level ≤ c.depth.result)) c.self.view_is
    (deep_there circuit there c.signals-signals.ensures.circuit.well_formed arranged
    c.depth.result c.depth.ensures)
