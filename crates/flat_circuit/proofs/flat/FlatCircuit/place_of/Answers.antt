use Rattle.std.proofs.Common.{◌≡◌, ◌<◌, ◌∙◌, arith, length, refl, subst, sym}
use Rattle.std.proofs.lemmas.Grind.{get_or_default_zero}
use Rattle.bench_net.specs.Scan.{names}
use Rattle.fault_model.specs.Reordered.{in_order, place}
use Rattle.flat_circuit.{specs.Arranged.IsArranged, proofs.ArrangedSignals.within_there}
use Rattle.flat_circuit.proofs.flat.FlatCircuit.place_of.Goals as goal

pub returns-clause-within : goal.returns-clause-within
returns-clause-within c =
    let own = c.self.inside in
    let circuit = own.circuit in
    let there = in_order circuit own.order.items in
    let arranged : IsArranged circuit there = (own.order.items, c.self.invariant.ordered, refl) in
    let lt = subst (λ x. c.args.signal < length (names x.statements)) (sym c.self.view_is)
    c.requires in
    let inside : c.args.signal < length own.places.items = omega (
      arith,
      lt,
      c.self.invariant.room,
    ) in
    let is : c.index.result.now ≡ place circuit there c.args.signal = c.index.ensures
    ∙ (get_or_default_zero own.places.items c.args.signal c.index.result.now inside
    ∙ c.self.invariant.placed c.args.signal lt) in
    subst (λ x. x < length (names c.args.self.now.arranged)) (sym is)
    (subst (λ x. place circuit there c.args.signal < length (names x.arranged)) c.self.view_is
    (within_there circuit there c.signals-signals.ensures.circuit.well_formed arranged
    c.args.signal lt))
