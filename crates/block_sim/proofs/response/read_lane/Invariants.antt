use Rattle.std.{proofs.Common.{◌≡◌, ℕ, ◌<◌, Bool, get_or}, specs.Prelude.slice_index_or}
use Rattle.flat_circuit.specs.Words.{lane}
use Rattle.block_sim.proofs.response.read_lane.Given as goal

abbrev pub invariant-loop-place : goal.invariant-loop-place
invariant-loop-place l = (k : ℕ) (d : Bool) → k < l.place
    → get_or l.row k d ≡ lane (slice_index_or l.words (get_or l.observed k 0) 0) l.lane
