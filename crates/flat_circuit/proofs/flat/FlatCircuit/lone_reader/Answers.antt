use Rattle.std.proofs.Common.{◌≡◌, ◌<◌, ap, sym, subst, length}
use Rattle.bench_net.specs.Scan.{names}
use Rattle.fault_model.specs.Reordered.{in_order}
use Rattle.flat_circuit.{specs.Regions.lone_reader, proofs.Flats.standing_of}
use Rattle.flat_circuit.proofs.flat.FlatCircuit.lone_reader.Goals as goal

pub returns : goal.returns
returns c =
    let own = c.self.inside in
    let circuit = in_order own.circuit own.order.items in
    let levels = ap (λ x. x.arranged) c.self.view_is in
    let standing = standing_of circuit own.lists.pins.items own.lists.readers.items
    own.lists.rows.items own.lists.standings.items c.args.signal c.index.result.now
    c.self.invariant.flat (subst (λ x. c.args.signal < length (names x)) (sym levels) c.requires)
    c.index.ensures in
    subst (λ x. c.index.result.now.lone_reader ≡ lone_reader x c.args.signal) levels standing.lone
