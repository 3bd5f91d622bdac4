-- Cells of tables, and their texts.
use Rattle.std.specs.Prelude.{ℕ, ◌+◌, ◌*◌, ◌/◌, ◌%◌, max, List, [], ◌∷◌, ◌++◌, Option, None, Some}
use Rattle.std.specs.Prelude.{codes, decimal}
use Rattle.json.specs.Print.{quoted}
use Rattle.table_rows.specs.declared.cell.Cell.{Cell as ProgramCell}
use Rattle.table_rows.specs.declared.cell.Cell.TheVariants as cell

-- a cell: empty, a number, words, or a part of a whole in percent
pub data Cell : Type 0 where
  Empty : Cell
  Number : ℕ → Cell
  Words : List ℕ → Cell
  Percent : ℕ → ℕ → Cell

-- a part of a whole in percent, rounded down to two decimals; 0 if the whole is 0
abbrev pub percent : ℕ → ℕ → List ℕ
percent part whole = decimal (10000 * part / max whole 1 / 100) ++ (codes "."
    ++ (48 + 10000 * part / max whole 1 % 100 / 10) ∷ (48 + 10000 * part / max whole 1 % 100 % 10)
    ∷ [])

-- a number that may be missing
abbrev pub number_cell : Option ℕ → Cell
number_cell None = Empty
number_cell (Some n) = Number n

-- a cell as comma-separated values
abbrev pub csv_cell : Cell → List ℕ
csv_cell Empty = []
csv_cell (Number n) = decimal n
csv_cell (Words words) = words
csv_cell (Percent part whole) = percent part whole

-- a cell as JSON
abbrev pub json_cell : Cell → List ℕ
json_cell Empty = codes "null"
json_cell (Number n) = decimal n
json_cell (Words words) = quoted words
json_cell (Percent part whole) = percent part whole

-- a cell from the form of the program
abbrev pub cell_in : ProgramCell → Cell
cell_in cell.Empty = Empty
cell_in (cell.Number n) = Number n
cell_in (cell.Words words) = Words words.now
cell_in (cell.Percent part whole) = Percent part whole
