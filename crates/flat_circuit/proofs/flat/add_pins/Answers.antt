use Rattle.std.proofs.Common.{◌≡◌, ◌<◌, ◌∙◌, ◌++◌, [], ap, arith, refl, subst, sym, length, ℕ}
use Rattle.std.specs.Prelude.{Some, map, option_map, slice_index_or}
use Rattle.std.proofs.lemmas.{List.append-nil, Option.get_or_from_slice_get}
use Rattle.bench_net.specs.Scan.{gate_of, names}
use Rattle.list_lemmas.proofs.{Members.Among, Places.{place_within, placed}}
use Rattle.fault_model.specs.Reordered.{in_order, moved_gate, place}
use Rattle.flat_circuit.{specs.Arranged.IsArranged, proofs.Equations.pins_within}
use Rattle.flat_circuit.proofs.ArrangedSignals.{places_of_all, signals_there}
use Rattle.flat_circuit.proofs.flat.add_pins.Goals as goal

pub push_places-requires : goal.push_places-requires
push_places-requires c = λ k d lt.
    let within = pins_within c.args.placed.circuit.now c.args.signal c.in-Some.gate.now.kind
    c.in-Some.gate.now.pins.items c.requires.placed.circuit.well_formed (sym c.in-Some.ensures)
    k d (subst (λ xs. k < length xs) c.as_slice.ensures lt) in
    let same = ap (λ xs. slice_index_or xs k d) c.as_slice.ensures in
    omega (arith, within, same, c.requires.placed.room)

pub returns-in_ok-push_places-in-Some : goal.returns-in_ok-push_places-in-Some
returns-in_ok-push_places-in-Some c =
    let circuit = c.args.placed.circuit.now in
    let well = c.requires.placed.circuit.well_formed in
    let order = c.args.placed.order.now in
    let there = in_order circuit order in
    let arranged : IsArranged circuit there = (order, c.requires.placed.ordered, refl) in
    let places = c.args.placed.places.now in
    let kind = c.in-Some.gate.now.kind in
    let pins = c.in-Some.gate.now.pins.items in
    let within : (s : ℕ) → Among s pins → s < length (names circuit) = λ s a.
    let at = placed pins s a in
    let lt = pins_within circuit c.args.signal kind pins well (sym c.in-Some.ensures) at.0 0
    (place_within pins at.0 s at.1) in
    let is : slice_index_or pins at.0 0 ≡ s = get_or_from_slice_get pins at.0 s 0 at.1 in
    omega (arith, lt, is) in
    let more = map (λ s. slice_index_or places s 0) pins in
    let same = places_of_all circuit there well arranged places pins c.requires.placed.placed
    within in
    let is : Some (kind, more) ≡ gate_of there (place circuit there c.args.signal) =
    ap (λ xs. Some (kind, xs)) same ∙ (ap (option_map (moved_gate circuit there)) c.in-Some.ensures
    ∙ sym ((signals_there circuit there well arranged).gates c.args.signal)) in (
      more,
      c.in_ok-push_places-in-Some.ensures
          ∙ ap (λ xs. c.args.pins.now.items ++ map (λ s. slice_index_or places s 0) xs)
          c.as_slice.ensures,
      is,
      c.of-form.ensures,
    )

pub returns-in-None : goal.returns-in-None
returns-in-None c =
    let circuit = c.args.placed.circuit.now in
    let well = c.requires.placed.circuit.well_formed in
    let order = c.args.placed.order.now in
    let there = in_order circuit order in
    let arranged : IsArranged circuit there = (order, c.requires.placed.ordered, refl) in
    let is = ap (option_map (moved_gate circuit there)) c.in-None.ensures
    ∙ sym ((signals_there circuit there well arranged).gates c.args.signal) in
    ([], sym (append-nil c.args.pins.now.items), is, tt)
