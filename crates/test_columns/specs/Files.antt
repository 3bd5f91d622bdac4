-- Test files that name their columns.
use Rattle.std.specs.Prelude.{ℕ, Bool, List, ◌++◌}
use Rattle.bench_net.specs.Scan.{sources}
use Rattle.bench_net.specs.Statement.{Statement}
use Rattle.patterns.specs.Making.{test_text}
use Rattle.test_columns.specs.Columns.{columns_line}

-- the test file of tests for a circuit: the line that names the columns, and the rows
abbrev pub file_text : List Statement → List (List Bool) → List ℕ
file_text c tests = columns_line (sources c) ++ test_text tests
