use Rattle.std.{proofs.Common.{◌≡◌, ℕ, ◌<◌, None, get_or, length}, specs.Prelude.slice_index}
use Rattle.faultsim_c.specs.Calls.{first_number}
use Rattle.faultsim_c.proofs.run.write_firsts.Given as goal

abbrev pub invariant-loop-place : goal.invariant-loop-place
invariant-loop-place l = (length l.firsts ≡ length l.fn.firsts)
    × ((k : ℕ) → k < l.place → slice_index l.firsts k ≡ first_number (get_or l.found k None))
