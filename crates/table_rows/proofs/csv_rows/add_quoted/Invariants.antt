use Rattle.std.proofs.Common.{◌≡◌, ◌++◌, ◌∷◌, take}
use Rattle.csv.specs.Writing.{default_writer, escaped}
use Rattle.table_rows.proofs.csv_rows.add_quoted.Given as goal

-- the first quote and the bytes so far were added
abbrev pub invariant-loop-byte : goal.invariant-loop-byte
invariant-loop-byte l = l.text.items
    ≡ l.fn.text.items ++ (34 ∷ escaped default_writer (take l.byte-index l.field))
