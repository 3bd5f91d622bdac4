use Rattle.std.proofs.{Common.{◌≡◌, ◌∙◌, ap, sym}, lemmas.Option.slice_get_within}
use Rattle.std.specs.Prelude.{unwrap_or}
use Rattle.bench_net.specs.Scan.{cells, name_of, signal}
use Rattle.tables.proofs.Nets.{data_at, signal_named, stored_at}
use Rattle.tables.proofs.row.data_net.Goals as goal

pub bounds-scan_cells-cell : goal.bounds-scan_cells-cell
bounds-scan_cells-cell c =
    let own = data_at (cells c.args.circuit.now) c.args.cell c.requires.0 c.requires.1 in
    (stored_at (cells c.args.circuit.now) c.scan_cells.result.now (signal c.args.circuit.now)
    c.args.cell (record { q = 0; d = 0 }) c.scan_cells.ensures
    (slice_get_within (cells c.args.circuit.now) c.args.cell own.0 own.1)).within

pub name_of-requires : goal.name_of-requires
name_of-requires c =
    let own = data_at (cells c.args.circuit.now) c.args.cell c.requires.0 c.requires.1 in
    let at = stored_at (cells c.args.circuit.now) c.scan_cells.result.now
    (signal c.args.circuit.now) c.args.cell (record { q = 0; d = 0 }) c.scan_cells.ensures
    (slice_get_within (cells c.args.circuit.now) c.args.cell own.0 own.1) in
    let same : at.cell ≡ own.0 = ap (λ o. unwrap_or o at.cell) (sym at.is ∙ own.1) in
    let read : at.cell.1 ≡ c.requires.0 = ap (λ qd. qd.1) same ∙ own.2 in
    rw (at.d, read) (signal_named c.args.circuit.now c.requires.0 c.requires.2).0

pub returns : goal.returns
returns c =
    let own = data_at (cells c.args.circuit.now) c.args.cell c.requires.0 c.requires.1 in
    let at = stored_at (cells c.args.circuit.now) c.scan_cells.result.now
    (signal c.args.circuit.now) c.args.cell (record { q = 0; d = 0 }) c.scan_cells.ensures
    (slice_get_within (cells c.args.circuit.now) c.args.cell own.0 own.1) in
    let same : at.cell ≡ own.0 = ap (λ o. unwrap_or o at.cell) (sym at.is ∙ own.1) in
    let read : at.cell.1 ≡ c.requires.0 = ap (λ qd. qd.1) same ∙ own.2 in
    c.requires.1 ∙ sym (c.name_of.ensures ∙ (ap (name_of c.args.circuit.now) (at.d
    ∙ ap (signal c.args.circuit.now) read)
    ∙ (signal_named c.args.circuit.now c.requires.0 c.requires.2).1))
