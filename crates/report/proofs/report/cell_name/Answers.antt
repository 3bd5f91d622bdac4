use Rattle.std.{proofs.Common.{sym, ap, ◌∙◌, []}, specs.Prelude.unwrap_or}
use Rattle.bench_net.specs.Scan.{cells, signal, name_of}
use Rattle.report.proofs.CellNames.{cell_at, cell_signal}
use Rattle.report.proofs.report.cell_name.Goals as goal

pub name_of-requires : goal.name_of-requires
name_of-requires c =
    let at = cell_at (cells c.args.circuit.now) c.scan_cells.result.now (signal c.args.circuit.now)
    c.args.cell (record { q = 0; d = 0 }) c.scan_cells.ensures c.requires in
    rw (at.2) (cell_signal c.args.circuit.now at.0 at.3).0

pub returns : goal.returns
returns c =
    let at = cell_at (cells c.args.circuit.now) c.scan_cells.result.now (signal c.args.circuit.now)
    c.args.cell (record { q = 0; d = 0 }) c.scan_cells.ensures c.requires in
    ap (λ o. unwrap_or o []) (c.name_of.ensures
    ∙ (ap (name_of c.args.circuit.now) at.2 ∙ ((cell_signal c.args.circuit.now at.0 at.3).1
    ∙ sym at.1)))
