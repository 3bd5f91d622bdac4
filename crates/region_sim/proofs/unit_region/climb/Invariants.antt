use Rattle.std.proofs.Common.{◌≡◌, ◌<◌, ◌≤◌, ◌-◌, ℕ, length}
use Rattle.std.specs.Prelude.{vec_capacity, vec_len}
use Rattle.bench_net.specs.Scan.{names}
use Rattle.flat_circuit.specs.Regions.{IsStemOf, LeadsTo}
use Rattle.region_sim.specs.Sensitized.{IsPathTo, on_from}
use Rattle.region_sim.proofs.unit_region.climb.Given as goal

abbrev pub invariant-loop-lanes : goal.invariant-loop-lanes
invariant-loop-lanes l = record {
  within : l.at < length (names l.circuit.arranged);
  path : IsPathTo l.circuit.arranged l.path.items l.at;
  first : on_from l.path.items l.at ≡ l.fn.signal;
  few : vec_len l.path ≤ l.at;
  capacity : vec_capacity l.path ≡ vec_capacity l.fn.path;
  left : (r : ℕ) (chain : IsStemOf l.circuit.arranged r l.fn.signal)
      → LeadsTo l.circuit.arranged l.at r;
}

abbrev pub decreases-loop-lanes : goal.decreases-loop-lanes
decreases-loop-lanes l = length (names l.circuit.arranged) - l.at
