use Rattle.std.proofs.Common.{◌≡◌, ◌∙◌, ℕ, List, ap, arith, map, subst, sym}
use Rattle.std.specs.Prelude.{slice_index_or, unwrap_or}
use Rattle.bench_net.specs.declared.Kind.{Kind}
use Rattle.fault_model.specs.Solution.{value}
use Rattle.wide_words.specs.{Lanes.{lane_in, slot_of}, Wide.number}
use Rattle.flat_circuit.specs.{GateForms.inverted_if, Words.lane}
use Rattle.flat_circuit.proofs.Public.{pins_within, pins_some, lane_xor, unlike}
use Rattle.region_sim.specs.Pack.{wide_bit}
use Rattle.region_sim.proofs.PackGates.{and_value, in_group, slot_low, xor_value}
use Rattle.region_sim.proofs.pack.difference.Goals as goal

pub lanes_of_odd-requires-clause-some : goal.lanes_of_odd-requires-clause-some
lanes_of_odd-requires-clause-some g c =
    pins_some c.args.circuit.now.arranged c.args.gate c.in-Some.driver.kind
    c.in-Some.driver.pins.now c.requires.circuit (sym c.in-Some.ensures.gate)

pub lanes_of_odd-requires-clause-pins_in : goal.lanes_of_odd-requires-clause-pins_in
lanes_of_odd-requires-clause-pins_in g c = λ k d lt.
    let within = pins_within c.args.circuit.now.arranged c.args.gate c.in-Some.driver.kind
    c.in-Some.driver.pins.now c.requires.circuit.well_formed (sym c.in-Some.ensures.gate) k d lt in
    omega (arith, within, c.requires.room)

pub lanes_of_all-requires-clause-some : goal.lanes_of_all-requires-clause-some
lanes_of_all-requires-clause-some g c =
    pins_some c.args.circuit.now.arranged c.args.gate c.in-Some.driver.kind
    c.in-Some.driver.pins.now c.requires.circuit (sym c.in-Some.ensures.gate)

pub lanes_of_all-requires-clause-pins_in : goal.lanes_of_all-requires-clause-pins_in
lanes_of_all-requires-clause-pins_in g c = λ k d lt.
    let within = pins_within c.args.circuit.now.arranged c.args.gate c.in-Some.driver.kind
    c.in-Some.driver.pins.now c.requires.circuit.well_formed (sym c.in-Some.ensures.gate) k d lt in
    λ slot low. (let many = c.requires.view slot low in omega (arith, within, many))

pub lanes_of_all-requires-clause-room : goal.lanes_of_all-requires-clause-room
lanes_of_all-requires-clause-room g c = λ k d lt.
    let within = pins_within c.args.circuit.now.arranged c.args.gate c.in-Some.driver.kind
    c.in-Some.driver.pins.now c.requires.circuit.well_formed (sym c.in-Some.ensures.gate) k d lt in
    omega (arith, within, c.requires.room)

pub of-requires : goal.of-requires
of-requires g c = λ slot low.
    let many = c.requires.view slot low in omega (arith, many, c.requires.within)

pub returns-then-driver : goal.returns-then-driver
returns-then-driver g c = λ kind pins k lt is.
    let layout = g.C.Copies.layout in
    let own = c.in-Some.driver in
    let j = lane_in layout k in
    let good = (g.C.Copies.rows c.args.copies) in
    let delta = c.args.deltas.now in
    let bit = lane (slice_index_or (good (slot_of layout k)) c.args.gate 0) j in
    let known = sym c.in-Some.ensures.gate in
    let same : (own.kind, own.pins.now) ≡ (kind, pins) =
    ap (λ o. unwrap_or o (kind, pins)) (sym known ∙ is) in
    let P : Kind × List ℕ → Type 0 = λ line. inverted_if (lane (number c.lanes_of_odd.result) k) bit
    ≡ value line.0 (map (wide_bit layout good delta k) line.1) in
    subst P same
    (xor_value layout good delta own.kind own.form c.in-Some.ensures.form own.pins.now k
    (lane (number c.lanes_of_odd.result) k) bit c.if-driver.true (c.lanes_of_odd.ensures k lt)
    (c.requires.words (slot_of layout k) (slot_low layout g.C.Copies.sized k lt) c.args.gate j
    own.kind own.pins.now (in_group layout g.C.Copies.sized k) known))

pub returns : goal.returns
returns g c = λ kind pins k lt is.
    let layout = g.C.Copies.layout in
    let own = c.in-Some.driver in
    let j = lane_in layout k in
    let good = (g.C.Copies.rows c.args.copies) in
    let delta = c.args.deltas.now in
    let word = slice_index_or (good (slot_of layout k)) c.args.gate 0 in
    let bit = lane word j in
    let known = sym c.in-Some.ensures.gate in
    let all = lane (number c.lanes_of_all.result) k in
    let turn = lane (number c.in_each_wide_lane.result) k in
    let same : (own.kind, own.pins.now) ≡ (kind, pins) =
    ap (λ o. unwrap_or o (kind, pins)) (sym known ∙ is) in
    let P : Kind × List ℕ → Type 0 = λ line. inverted_if (lane (number c.xor.result) k) bit
    ≡ value line.0 (map (wide_bit layout good delta k) line.1) in
    subst P same (ap (λ n. inverted_if (lane n k) bit) c.xor.ensures ∙ (ap (λ b. inverted_if b bit)
    (lane_xor (number c.lanes_of_all.result) (number c.xor-word.result) k
    ∙ ap (unlike all) (ap (λ n. lane n k) c.xor-word.ensures
    ∙ (lane_xor (number c.of.result) (number c.in_each_wide_lane.result) k
    ∙ ap (λ b. unlike b turn) (c.of.ensures k lt))))
    ∙ and_value layout good delta own.kind own.form c.in-Some.ensures.form own.pins.now k all bit
    turn c.if-driver.false (c.in_each_wide_lane.ensures k lt) (c.lanes_of_all.ensures k lt)))
