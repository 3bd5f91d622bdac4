use Rattle.std.proofs.Common.{◌≡◌, false, take}
use Rattle.csv.specs.Writing.{default_writer, needs_quotes}
use Rattle.table_rows.proofs.csv_rows.needs_quotes.Given as goal

-- no byte so far calls for quotes
abbrev pub invariant-loop-byte : goal.invariant-loop-byte
invariant-loop-byte l = needs_quotes default_writer (take l.byte-index l.field) ≡ false
