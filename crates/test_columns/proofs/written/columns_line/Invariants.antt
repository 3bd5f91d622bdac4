use Rattle.std.{proofs.Common.{◌≡◌, ◌++◌, take}, specs.Prelude.codes}
use Rattle.bench_net.specs.Scan.{sources}
use Rattle.test_columns.proofs.ReadBack.{spaced}
use Rattle.test_columns.proofs.written.columns_line.Given as goal

-- the names of the sources before the place are written
abbrev pub invariant-loop-place : goal.invariant-loop-place
invariant-loop-place l =
    l.line.items ≡ codes "# columns:" ++ spaced (take l.place (sources l.circuit))
