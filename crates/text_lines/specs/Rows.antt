-- The rows of a text: the contents of its lines.
use Rattle.std.specs.Prelude.{ℕ, not, ◌==◌, ◌||◌, Bool, List, [], ◌∷◌, map, reverse, filter, length}
use Rattle.std.specs.Prelude.{if◌then◌else◌}
use Rattle.std.specs.List.{before_first, enumerate_from}
use Rattle.text_lines.specs.Lines.{lines, is_blank, begins_comment}

-- without the blanks at its front, at its back, and at both ends
abbrev pub without_front : List ℕ → List ℕ
without_front [] = []
without_front (b ∷ bytes) = if is_blank b then without_front bytes else b ∷ bytes

abbrev pub without_back : List ℕ → List ℕ
without_back bytes = reverse (without_front (reverse bytes))

abbrev pub without_blanks : List ℕ → List ℕ
without_blanks bytes = without_back (without_front bytes)

-- the contents of a line: its bytes before a comment, without the blanks at their ends
abbrev pub content : List ℕ → List ℕ
content line = without_blanks (before_first begins_comment line)

-- a row: the number of its line, counted from 1, and the line's contents
pub record Row : Type 0 where
  pub line : ℕ
  pub bytes : List ℕ

-- the rows of a text whose first line has this number: its lines with contents
abbrev pub rows_from : ℕ → List ℕ → List Row
rows_from first text = filter (λ row. not (length row.bytes == 0))
    (map (λ at. record { line = at.0; bytes = content at.1 }) (enumerate_from first (lines text)))

-- the rows of a text
abbrev pub rows : List ℕ → List Row
rows text = rows_from 1 text

-- a byte that is a digit `0` or `1`
abbrev pub is_bit : ℕ → Bool
is_bit b = b == 48 || b == 49
