-- The invariant of the tables of the fault list.
use Rattle.std.specs.Prelude.{◌≡◌, ◌≤◌, ◌+◌, ℕ, List, length, Contains, Some, slice_get}
use Rattle.std.specs.Prelude.{option_and_then}
use Rattle.bench_net.specs.Circuit.{max_signals, max_sinks}
use Rattle.fault_model.specs.declared.Line.{Line}
use Rattle.fault_model.specs.declared.Line.TheVariants as line

-- for each stem among the lines, a table by signals has the place of the stem
pub record AreStemsOf (list : List Line) (stems : List ℕ) : Type 0 where
  pub each : (s : ℕ) → Contains list (line.Stem s) → option_and_then (slice_get list)
      (slice_get stems s) ≡ Some (line.Stem s)

-- a table of the lines is within the limits of a circuit
abbrev pub IsWithinLimits : List Line → Type 0
IsWithinLimits list = length list ≤ max_signals + max_sinks
