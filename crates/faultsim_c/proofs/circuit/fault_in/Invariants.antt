use Rattle.std.{proofs.Common.{◌≡◌, ◌≢◌, ℕ, ◌<◌, Some}, specs.Prelude.slice_get}
use Rattle.fault_model.specs.Fault.{Fault}
use Rattle.faultsim_c.specs.Circuits.{site_of}
use Rattle.faultsim_c.proofs.circuit.fault_in.Given as goal

-- no fault so far has the site
abbrev pub invariant-loop-number : goal.invariant-loop-number
invariant-loop-number l = (l.fault ≡ l.fn.fault)
    × ((i : ℕ) → i < l.number → (f : Fault) → slice_get l.job.list.list i ≡ Some f
    → site_of f ≢ l.site)
