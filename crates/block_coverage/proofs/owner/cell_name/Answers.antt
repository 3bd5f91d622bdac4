use Rattle.std.{proofs.Common.{◌≡◌, ◌∙◌, ap, sym}, specs.Prelude.{Some, map, option_map, slice_get}}
use Rattle.std.proofs.lemmas.Option.{slice_get-map}
use Rattle.bench_net.specs.Scan.{cells, name_of, signal}
use Rattle.block_coverage.proofs.SignalNames.{q_named, signal_named, stored_at}
use Rattle.block_coverage.proofs.owner.cell_name.Goals as goal

pub name_of-requires : goal.name_of-requires
name_of-requires c =
    let at = stored_at (cells c.args.circuit.now) c.scan_cells.result.now
    (signal c.args.circuit.now) c.args.cell (record { q = 0; d = 0 }) c.scan_cells.ensures
    c.requires in
    rw (at.q) (signal_named c.args.circuit.now at.cell.0
    (q_named c.args.circuit.now c.args.cell at.cell at.is)).0

pub returns : goal.returns
returns c =
    let at = stored_at (cells c.args.circuit.now) c.scan_cells.result.now
    (signal c.args.circuit.now) c.args.cell (record { q = 0; d = 0 }) c.scan_cells.ensures
    c.requires in
    let named = signal_named c.args.circuit.now at.cell.0
    (q_named c.args.circuit.now c.args.cell at.cell at.is) in
    let own : slice_get (map (λ qd. qd.0) (cells c.args.circuit.now)) c.args.cell
    ≡ Some at.cell.0 = slice_get-map (λ qd. qd.0) (cells c.args.circuit.now) c.args.cell
    ∙ ap (option_map (λ qd. qd.0)) at.is in
    own ∙ sym (c.name_of.ensures ∙ (ap (name_of c.args.circuit.now) at.q ∙ named.1))
