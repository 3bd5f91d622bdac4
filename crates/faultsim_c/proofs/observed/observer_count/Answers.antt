use Rattle.std.proofs.Common.{sym}
use Rattle.faultsim_c.proofs.ObservedSignals.{observed_count}
use Rattle.faultsim_c.proofs.observed.observer_count.Goals as goal

pub returns : goal.returns
returns c = sym (observed_count c.args.circuit.now c.outputs.result.now c.scan_cells.result.now
    c.outputs.ensures c.scan_cells.ensures)
