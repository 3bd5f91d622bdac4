use Rattle.std.proofs.Common.{◌∙◌, ap, length, refl, subst, sym}
use Rattle.bench_net.specs.{Scan.names, Circuit.IsCircuit}
use Rattle.fault_model.specs.Reordered.{in_order}
use Rattle.flat_circuit.specs.{Arranged.IsArranged, Readers.IsRising}
use Rattle.flat_circuit.proofs.ArrangedSignals.{count_there, rising_there}
use Rattle.flat_circuit.proofs.ArrangedFaults.{circuit_there}
use Rattle.flat_circuit.proofs.flat.FlatCircuit.signals.Goals as goal

pub returns-clause-count : goal.returns-clause-count
returns-clause-count c =
    let own = c.self.inside in
    let circuit = own.circuit in
    let there = in_order circuit own.order.items in
    let arranged : IsArranged circuit there = (own.order.items, c.self.invariant.ordered, refl) in
    c.signals.ensures.count
    ∙ (sym (count_there circuit there c.signals.ensures.circuit.well_formed arranged)
    ∙ ap (λ x. length (names x.arranged)) c.self.view_is)

pub returns-clause-circuit : goal.returns-clause-circuit
returns-clause-circuit c =
    let own = c.self.inside in
    let circuit = own.circuit in
    let there = in_order circuit own.order.items in
    let arranged : IsArranged circuit there = (own.order.items, c.self.invariant.ordered, refl) in
    subst (λ x. IsCircuit x.arranged) c.self.view_is
    (circuit_there circuit there c.signals.ensures.circuit arranged)

pub returns-clause-rising : goal.returns-clause-rising
returns-clause-rising c =
    let own = c.self.inside in
    let circuit = own.circuit in
    let there = in_order circuit own.order.items in
    let arranged : IsArranged circuit there = (own.order.items, c.self.invariant.ordered, refl) in
    subst (λ x. IsRising x.arranged) c.self.view_is
    (rising_there circuit there c.signals.ensures.circuit.well_formed arranged)
