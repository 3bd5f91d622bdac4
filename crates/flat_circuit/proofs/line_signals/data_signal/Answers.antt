use Rattle.std.proofs.{Common.{◌∙◌, sym}, lemmas.List.get_or-map}
use Rattle.bench_net.specs.declared.ScanCell.{ScanCell}
use Rattle.flat_circuit.proofs.CarriedSignals.{data_signal}
use Rattle.flat_circuit.proofs.line_signals.data_signal.Goals as goal

pub bounds-scan_cells-cell : goal.bounds-scan_cells-cell
bounds-scan_cells-cell c =
    (data_signal c.args.circuit.now c.scan_cells.result.now c.args.cell c.requires.named.0
    c.scan_cells.ensures c.requires.named.1).0

pub returns : goal.returns
returns c = λ n at.
    let p = data_signal c.args.circuit.now c.scan_cells.result.now c.args.cell n
    c.scan_cells.ensures at in
    sym (get_or-map (λ (cell : ScanCell). cell.d) c.scan_cells.result.now c.args.cell
    (record { q = 0; d = 0 }) 0 p.0) ∙ p.1
