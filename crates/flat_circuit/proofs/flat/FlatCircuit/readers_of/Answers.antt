use Rattle.std.{proofs.Common.{◌<◌, ap, sym, subst, length, arith}, specs.Prelude.slice_range}
use Rattle.bench_net.specs.Scan.{names}
use Rattle.fault_model.specs.Reordered.{in_order}
use Rattle.flat_circuit.{specs.Flat.AreReaders, proofs.Flats.row_of}
use Rattle.flat_circuit.proofs.flat.FlatCircuit.readers_of.Goals as goal

pub offset_bounds-deref-row : goal.offset_bounds-deref-row
offset_bounds-deref-row c =
    let own = c.self.inside in
    let circuit = in_order own.circuit own.order.items in
    let levels = ap (λ x. x.arranged) c.self.view_is in
    let row = row_of circuit own.lists.pins.items own.lists.readers.items own.lists.rows.items
    own.lists.standings.items c.args.signal c.index-row.result.now c.self.invariant.flat
    (subst (λ x. c.args.signal < length (names x)) (sym levels) c.requires) c.index-row.ensures in
    omega (arith, row.readers_in.0, row.readers_in.1, c.deref.ensures.len)

pub slice_bounds-result-count : goal.slice_bounds-result-count
slice_bounds-result-count c =
    let own = c.self.inside in
    let circuit = in_order own.circuit own.order.items in
    let levels = ap (λ x. x.arranged) c.self.view_is in
    let row = row_of circuit own.lists.pins.items own.lists.readers.items own.lists.rows.items
    own.lists.standings.items c.args.signal c.index-row.result.now c.self.invariant.flat
    (subst (λ x. c.args.signal < length (names x)) (sym levels) c.requires) c.index-row.ensures in
    row.readers_in.0

pub slice_bounds-result-start : goal.slice_bounds-result-start
slice_bounds-result-start c =
    let own = c.self.inside in
    let circuit = in_order own.circuit own.order.items in
    let levels = ap (λ x. x.arranged) c.self.view_is in
    let row = row_of circuit own.lists.pins.items own.lists.readers.items own.lists.rows.items
    own.lists.standings.items c.args.signal c.index-row.result.now c.self.invariant.flat
    (subst (λ x. c.args.signal < length (names x)) (sym levels) c.requires) c.index-row.ensures in
    row.readers_in.0

pub slice_bounds-result-end : goal.slice_bounds-result-end
slice_bounds-result-end c =
    let own = c.self.inside in
    let circuit = in_order own.circuit own.order.items in
    let levels = ap (λ x. x.arranged) c.self.view_is in
    let row = row_of circuit own.lists.pins.items own.lists.readers.items own.lists.rows.items
    own.lists.standings.items c.args.signal c.index-row.result.now c.self.invariant.flat
    (subst (λ x. c.args.signal < length (names x)) (sym levels) c.requires) c.index-row.ensures in
    omega (arith, row.readers_in.1, ap length c.deref.ensures.value)

pub returns : goal.returns
returns c =
    let own = c.self.inside in
    let circuit = in_order own.circuit own.order.items in
    let levels = ap (λ x. x.arranged) c.self.view_is in
    let row = row_of circuit own.lists.pins.items own.lists.readers.items own.lists.rows.items
    own.lists.standings.items c.args.signal c.index-row.result.now c.self.invariant.flat
    (subst (λ x. c.args.signal < length (names x)) (sym levels) c.requires) c.index-row.ensures in
    subst (λ x. AreReaders x c.args.signal
    (slice_range c.deref.result.now c.index-row.result.now.readers_start
    c.index-row.result.now.readers_end)) levels (subst (λ l. AreReaders circuit c.args.signal
    (slice_range l c.index-row.result.now.readers_start c.index-row.result.now.readers_end))
    (sym c.deref.ensures.value) row.read_by)
