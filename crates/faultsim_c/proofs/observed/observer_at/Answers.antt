use Rattle.std.proofs.Common.{◌<◌, arith, length, subst, sym}
use Rattle.bench_net.specs.Scan.{names}
use Rattle.faultsim_c.proofs.ObservedSignals.{observed_cell, observed_count, observed_output}
use Rattle.faultsim_c.proofs.ObservedSignals.{observed_within}
use Rattle.faultsim_c.proofs.observed.observer_at.Goals as goal

pub cell_at-requires : goal.cell_at-requires
cell_at-requires c =
    let count = observed_count c.args.circuit.now c.outputs-outputs.result.now
    c.scan_cells-cells.result.now c.outputs-outputs.ensures c.scan_cells-cells.ensures in
    let high = c.if-place-outputs.false in
    let low = c.requires in
    omega (arith, count, high, low)

pub returns-then-place-outputs-clause-signal : goal.returns-then-place-outputs-clause-signal
returns-then-place-outputs-clause-signal c =
    observed_output c.args.circuit.now c.outputs-outputs.result.now c.scan_cells-cells.result.now
    c.outputs-outputs.ensures c.scan_cells-cells.ensures c.args.place c.if-place-outputs.true

pub returns-then-place-outputs-clause-within : goal.returns-then-place-outputs-clause-within
returns-then-place-outputs-clause-within c =
    let is = observed_output c.args.circuit.now c.outputs-outputs.result.now
    c.scan_cells-cells.result.now c.outputs-outputs.ensures c.scan_cells-cells.ensures c.args.place
    c.if-place-outputs.true in
    subst (λ s. s < length (names c.args.circuit.now)) (sym is)
    (observed_within c.args.circuit.now c.args.place c.signals-signals.ensures.circuit.well_formed
    c.requires)

pub returns-else-place-outputs-clause-signal : goal.returns-else-place-outputs-clause-signal
returns-else-place-outputs-clause-signal c =
    observed_cell c.args.circuit.now c.outputs-outputs.result.now c.scan_cells-cells.result.now
    c.outputs-outputs.ensures c.scan_cells-cells.ensures c.args.place c.cell_at.result
    (omega (arith, c.if-place-outputs.false)) c.cell_at.ensures

pub returns-else-place-outputs-clause-within : goal.returns-else-place-outputs-clause-within
returns-else-place-outputs-clause-within c =
    let is = observed_cell c.args.circuit.now c.outputs-outputs.result.now
    c.scan_cells-cells.result.now
    c.outputs-outputs.ensures c.scan_cells-cells.ensures c.args.place c.cell_at.result
    (omega (arith, c.if-place-outputs.false)) c.cell_at.ensures in
    subst (λ s. s < length (names c.args.circuit.now)) (sym is)
    (observed_within c.args.circuit.now c.args.place c.signals-signals.ensures.circuit.well_formed
    c.requires)
