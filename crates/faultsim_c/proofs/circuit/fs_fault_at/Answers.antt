use Rattle.std.proofs.Common.{rules}
use Rattle.faultsim_c.proofs.circuit.fs_fault_at.Goals as goal

pub returns-clause-done : goal.returns-clause-done
returns-clause-done c e = (c.job.result.now, search rules, c.fault_in-status.ensures.done e)
