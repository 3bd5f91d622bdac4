use Rattle.std.{proofs.Common.{◌<◌, ◌∙◌, ap, sym, subst, length, arith}, specs.Option.option_map}
use Rattle.std.specs.Prelude.{IfSome, Some, slice_range}
use Rattle.bench_net.specs.Scan.{names, gate_of}
use Rattle.fault_model.specs.Reordered.{in_order}
use Rattle.flat_circuit.specs.{declared.flat.Driver.Driver, Flat.HasEnds, GateForms.IsFormOf}
use Rattle.flat_circuit.proofs.Flats.{row_of}
use Rattle.flat_circuit.proofs.flat.FlatCircuit.gate_of.Goals as goal

pub offset_bounds-deref-row : goal.offset_bounds-deref-row
offset_bounds-deref-row c =
    let own = c.self.inside in
    let circuit = in_order own.circuit own.order.items in
    let levels = ap (λ x. x.arranged) c.self.view_is in
    let row = row_of circuit own.lists.pins.items own.lists.readers.items own.lists.rows.items
    own.lists.standings.items c.args.signal c.index-row.result.now c.self.invariant.flat
    (subst (λ x. c.args.signal < length (names x)) (sym levels) c.requires) c.index-row.ensures in
    omega (arith, row.pins_in.0, row.pins_in.1, c.deref.ensures.len)

pub slice_bounds-result-count : goal.slice_bounds-result-count
slice_bounds-result-count c =
    let own = c.self.inside in
    let circuit = in_order own.circuit own.order.items in
    let levels = ap (λ x. x.arranged) c.self.view_is in
    let row = row_of circuit own.lists.pins.items own.lists.readers.items own.lists.rows.items
    own.lists.standings.items c.args.signal c.index-row.result.now c.self.invariant.flat
    (subst (λ x. c.args.signal < length (names x)) (sym levels) c.requires) c.index-row.ensures in
    row.pins_in.0

pub slice_bounds-result-start : goal.slice_bounds-result-start
slice_bounds-result-start c =
    let own = c.self.inside in
    let circuit = in_order own.circuit own.order.items in
    let levels = ap (λ x. x.arranged) c.self.view_is in
    let row = row_of circuit own.lists.pins.items own.lists.readers.items own.lists.rows.items
    own.lists.standings.items c.args.signal c.index-row.result.now c.self.invariant.flat
    (subst (λ x. c.args.signal < length (names x)) (sym levels) c.requires) c.index-row.ensures in
    row.pins_in.0

pub slice_bounds-result-end : goal.slice_bounds-result-end
slice_bounds-result-end c =
    let own = c.self.inside in
    let circuit = in_order own.circuit own.order.items in
    let levels = ap (λ x. x.arranged) c.self.view_is in
    let row = row_of circuit own.lists.pins.items own.lists.readers.items own.lists.rows.items
    own.lists.standings.items c.args.signal c.index-row.result.now c.self.invariant.flat
    (subst (λ x. c.args.signal < length (names x)) (sym levels) c.requires) c.index-row.ensures in
    omega (arith, row.pins_in.1, ap length c.deref.ensures.value)

pub returns-in-Some-clause-gate : goal.returns-in-Some-clause-gate
returns-in-Some-clause-gate c =
    let own = c.self.inside in
    let circuit = in_order own.circuit own.order.items in
    let levels = ap (λ x. x.arranged) c.self.view_is in
    let row = row_of circuit own.lists.pins.items own.lists.readers.items own.lists.rows.items
    own.lists.standings.items c.args.signal c.index-row.result.now c.self.invariant.flat
    (subst (λ x. c.args.signal < length (names x)) (sym levels) c.requires) c.index-row.ensures in
    ap (λ l. Some (
      c.in-Some.driver.kind,
      slice_range l c.index-row.result.now.pins_start c.index-row.result.now.pins_end,
    )) c.deref.ensures.value ∙ (ap (option_map (λ (driver : Driver). (
      driver.kind,
      slice_range own.lists.pins.items c.index-row.result.now.pins_start
          c.index-row.result.now.pins_end,
    ))) (sym c.in-Some.is) ∙ (row.driven ∙ ap (λ x. gate_of x c.args.signal) levels))

pub returns-in-None-clause-gate : goal.returns-in-None-clause-gate
returns-in-None-clause-gate c =
    let own = c.self.inside in
    let circuit = in_order own.circuit own.order.items in
    let levels = ap (λ x. x.arranged) c.self.view_is in
    let row = row_of circuit own.lists.pins.items own.lists.readers.items own.lists.rows.items
    own.lists.standings.items c.args.signal c.index-row.result.now c.self.invariant.flat
    (subst (λ x. c.args.signal < length (names x)) (sym levels) c.requires) c.index-row.ensures in
    ap (option_map (λ (driver : Driver). (
      driver.kind,
      slice_range own.lists.pins.items c.index-row.result.now.pins_start
          c.index-row.result.now.pins_end,
    ))) (sym c.in-None.is) ∙ (row.driven ∙ ap (λ x. gate_of x c.args.signal) levels)

pub returns-in-Some-clause-form : goal.returns-in-Some-clause-form
returns-in-Some-clause-form c =
    let own = c.self.inside in
    let circuit = in_order own.circuit own.order.items in
    let levels = ap (λ x. x.arranged) c.self.view_is in
    let row = row_of circuit own.lists.pins.items own.lists.readers.items own.lists.rows.items
    own.lists.standings.items c.args.signal c.index-row.result.now c.self.invariant.flat
    (subst (λ x. c.args.signal < length (names x)) (sym levels) c.requires) c.index-row.ensures in
    subst (λ o. IfSome o (λ (driver : Driver). IsFormOf driver.kind driver.form)) c.in-Some.is
    row.formed

pub returns-in-Some-clause-ends : goal.returns-in-Some-clause-ends
returns-in-Some-clause-ends c =
    let own = c.self.inside in
    let circuit = in_order own.circuit own.order.items in
    let levels = ap (λ x. x.arranged) c.self.view_is in
    let at = c.index-row.result.now in
    let row = row_of circuit own.lists.pins.items own.lists.readers.items own.lists.rows.items
    own.lists.standings.items c.args.signal at c.self.invariant.flat
    (subst (λ x. c.args.signal < length (names x)) (sym levels) c.requires) c.index-row.ensures in
    subst (λ l. HasEnds (slice_range l at.pins_start at.pins_end) at.first at.last)
    (sym c.deref.ensures.value) row.ends
