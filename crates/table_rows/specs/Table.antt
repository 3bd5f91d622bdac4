-- The bytes of a table.
use Rattle.std.specs.Prelude.{ℕ, List, [], ◌++◌, ◌==◌, codes, if◌then◌else◌, map, zip}
use Rattle.std.specs.Prelude.{get_or}
use Rattle.std.specs.List.{enumerate_from, flat_map}
use Rattle.csv.specs.Writing.{default_writer, row_text}
use Rattle.threaded_lines.specs.Texts.{joined}
use Rattle.table_rows.specs.declared.rows.Format.{Format}
use Rattle.table_rows.specs.declared.rows.Format.TheVariants.{Csv, Json}
use Rattle.table_rows.specs.declared.rows.Heading.{Heading}
use Rattle.table_rows.specs.Cells.{Cell, cell_in, csv_cell, json_cell}

-- what a table has beside its rows: the names of its columns, and for JSON the name of the array of
-- the rows and the sums with their names
pub record Head : Type 0 where
  pub columns : List (List ℕ)
  pub array : List ℕ
  pub sum_names : List (List ℕ)
  pub sums : List Cell

pub record Table : Type 0 where
  pub head : Head
  pub rows : List (List Cell)

-- the cells of a row
abbrev pub row_at : Table → ℕ → List Cell
row_at table row = get_or table.rows row []

-- the comma before a member of a JSON object, or before an object; the first has none
abbrev pub separator : ℕ → List ℕ
separator place = if place == 0 then [] else codes ","

-- what stands before the value of each member of a JSON object with these names
abbrev pub key : ℕ × List ℕ → List ℕ
key at = separator at.0 ++ (codes "\"" ++ (at.1 ++ codes "\":"))

abbrev pub keys : List (List ℕ) → List (List ℕ)
keys names = map key (enumerate_from 0 names)

-- a member: what stands before its value, and the value
abbrev pub member : List ℕ × Cell → List ℕ
member m = m.0 ++ json_cell m.1

abbrev pub keyed_object : List (List ℕ) → List Cell → List ℕ
keyed_object keys cells = codes "{" ++ (flat_map member (zip keys cells) ++ codes "}")

-- the JSON object whose members have these names and values
abbrev pub object : List (List ℕ) → List Cell → List ℕ
object names cells = keyed_object (keys names) cells

-- what stands before a row in JSON: each is on a line of its own
abbrev pub opening : ℕ → List ℕ
opening row = separator row ++ codes "\n"

-- a row as a record, and as an object, by its number
abbrev pub csv_row : List Cell → List ℕ
csv_row cells = row_text default_writer (map csv_cell cells)

abbrev pub json_row : List (List ℕ) → ℕ × List Cell → List ℕ
json_row columns at = opening at.0 ++ object columns at.1

-- the text of each row
abbrev pub row_texts : Format → Table → List (List ℕ)
row_texts Csv table = map csv_row table.rows
row_texts Json table = map (json_row table.head.columns) (enumerate_from 0 table.rows)

-- the text before the rows: a header, or the sums and the begin of an array
abbrev pub json_front : Head → List ℕ
json_front head = codes "{\"summary\":" ++ (object head.sum_names head.sums
    ++ (codes ",\"" ++ (head.array ++ codes "\":[")))

abbrev pub front : Format → Head → List ℕ
front Csv head = row_text default_writer head.columns
front Json head = json_front head

-- the text after the rows
abbrev pub back : Format → List ℕ
back Csv = []
back Json = codes "\n]}\n"

-- the table
abbrev pub table_text : Format → Table → List ℕ
table_text format table =
    front format table.head ++ (joined (row_texts format table) ++ back format)

-- what a table has beside its rows, from the form of the program
abbrev pub head_in : Heading → Head
head_in h = record {
  columns = map (λ name. name.now) h.columns.now;
  array = h.array.now;
  sum_names = map (λ name. name.now) h.sum_names.now;
  sums = map cell_in h.sums.now;
}
