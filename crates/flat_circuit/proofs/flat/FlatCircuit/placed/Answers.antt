use Rattle.std.proofs.Common.{◌≡◌, ◌<◌, ◌∙◌, ◌++◌, ap, arith, length, refl, subst, sym, ℕ}
use Rattle.std.{specs.Prelude.{map, slice_index_or}, proofs.lemmas.Option.get_or_from_slice_get}
use Rattle.bench_net.specs.Scan.{names}
use Rattle.list_lemmas.proofs.{Members.Among, Places.{place_within, placed}}
use Rattle.fault_model.specs.Reordered.{in_order, place}
use Rattle.flat_circuit.{specs.Arranged.IsArranged, proofs.ArrangedSignals.places_of_all}
use Rattle.flat_circuit.proofs.flat.FlatCircuit.placed.Goals as goal

pub returns : goal.returns
returns c =
    let own = c.self.inside in
    let circuit = own.circuit in
    let there = in_order circuit own.order.items in
    let arranged : IsArranged circuit there = (own.order.items, c.self.invariant.ordered, refl) in
    let signals = c.args.signals.now in
    let inside = subst (λ x. (k d : ℕ) → k < length signals
    → slice_index_or signals k d < length (names x.statements)) (sym c.self.view_is) c.requires in
    let within : (s : ℕ) → Among s signals → s < length (names circuit) = λ s a.
    let at = placed signals s a in
    let lt = inside at.0 0 (place_within signals at.0 s at.1) in
    let is : slice_index_or signals at.0 0 ≡ s = get_or_from_slice_get signals at.0 s 0 at.1 in
    omega (arith, lt, is) in
    c.in_ok-push_places.ensures
    ∙ (ap (λ xs. xs ++ map (λ s. slice_index_or c.as_slice.result.now s 0) signals)
    c.new-placed.ensures.items
    ∙ (ap (λ places. map (λ s. slice_index_or places s 0) signals) c.as_slice.ensures.value
    ∙ (places_of_all circuit there c.signals-signals.ensures.circuit.well_formed arranged
    own.places.items signals c.self.invariant.placed within
    ∙ ap (λ x. map (place x.statements x.arranged) signals) c.self.view_is)))
