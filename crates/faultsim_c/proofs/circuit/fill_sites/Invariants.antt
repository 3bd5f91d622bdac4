use Rattle.std.{proofs.Common.{◌≡◌, ℕ, ◌<◌, Some, get_or, length}, specs.Prelude.slice_get}
use Rattle.fault_model.specs.Fault.{Fault}
use Rattle.faultsim_c.specs.Circuits.{no_site, site_of}
use Rattle.faultsim_c.proofs.circuit.fill_sites.Given as goal

-- the sites of the faults so far stand in their places
abbrev pub invariant-loop-fault : goal.invariant-loop-fault
invariant-loop-fault l = (length l.sites ≡ length l.fn.sites)
    × ((k : ℕ) → k < l.fault → (f : Fault) → slice_get l.job.list.list k ≡ Some f
    → get_or l.sites k no_site ≡ site_of f)
