use Rattle.std.{proofs.Common.{◌<◌, ap, sym, subst, length}, specs.Prelude.{IsTrue, ◌↔◌}}
use Rattle.bench_net.specs.Scan.{names}
use Rattle.fault_model.specs.Reordered.{in_order}
use Rattle.flat_circuit.{specs.Readers.IsObserved, proofs.Flats.row_of}
use Rattle.flat_circuit.proofs.flat.FlatCircuit.is_observed.Goals as goal

pub returns : goal.returns
returns c =
    let own = c.self.inside in
    let circuit = in_order own.circuit own.order.items in
    let levels = ap (λ x. x.arranged) c.self.view_is in
    let row = row_of circuit own.lists.pins.items own.lists.readers.items own.lists.rows.items
    own.lists.standings.items c.args.signal c.index.result.now c.self.invariant.flat
    (subst (λ x. c.args.signal < length (names x)) (sym levels) c.requires) c.index.ensures in
    subst (λ x. IsTrue c.index.result.now.observed ↔ IsObserved x c.args.signal) levels row.observed
