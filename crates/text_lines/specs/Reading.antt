-- The lines and the rows that an iterator has left to yield.
use Rattle.std.specs.Prelude.{ℕ, List, [], Option, Some, None}
use Rattle.std.specs.Borrow.{Bor}
use Rattle.text_lines.specs.Lines.{lines}
use Rattle.text_lines.specs.Rows.{Row, rows_from}
use Rattle.text_lines.specs.declared.lines.FileLines.{FileLines}
use Rattle.text_lines.specs.declared.rows.Rows.{Rows}
use Rattle.text_lines.specs.declared.rows.Row.{Row as Item}

-- the row that an item is
abbrev pub row_of : Item → Row
row_of item = record { line = item.line; bytes = item.bytes.now }

-- the rows that are left
abbrev pub rows_left : Rows → List Row
rows_left it = rows_from it.line it.text.now

-- the lines of the bytes that are left, if there are some
abbrev lines_of : Option (Bor (List ℕ)) → List (List ℕ)
lines_of None = []
lines_of (Some text) = lines text.now

-- the lines that are left
abbrev pub lines_left : FileLines → List (List ℕ)
lines_left it = lines_of it.text
