-- The lines of a text, and the bytes that are blanks or begin a comment.
use Rattle.std.specs.Prelude.{ℕ, Bool, ◌||◌, ◌==◌, List, map}
use Rattle.std.specs.List.{slice_split}
use Rattle.std.specs.Str.Lines.{strip_carriage_return}

-- a line feed ends a line
abbrev pub ends_line : ℕ → Bool
ends_line b = b == 10

-- The lines of a text. A line ends at a line feed or at the end of the text; one carriage return
-- directly before that end belongs to it.
abbrev pub lines : List ℕ → List (List ℕ)
lines text = map strip_carriage_return (slice_split ends_line text)

-- a blank is a space or a tab
abbrev pub is_blank : ℕ → Bool
is_blank b = b == 32 || b == 9

-- `#` begins a comment, which runs to the end of its line
abbrev pub begins_comment : ℕ → Bool
begins_comment b = b == 35
