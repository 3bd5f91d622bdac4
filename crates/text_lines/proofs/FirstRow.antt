-- The rows of a text are its first line, if that has contents, and the rows of the rest.
use Rattle.std.proofs.Common.{◌≡◌, ℕ, ◌+◌, ◌<◌, ◌⊎◌, not, ◌==◌, cond, List, [], ◌∷◌, map, filter}
use Rattle.std.proofs.Common.{length, sym, ap, ◌∙◌, inl, inr, ⊎_elim, arith, take_all}
use Rattle.std.specs.List.{slice_split, before_first, after_first, position_or_len, enumerate_from}
use Rattle.std.{specs.Str.Lines.strip_carriage_return, proofs.lemmas.List.drop_all}
use Rattle.std.proofs.lemmas.Bool.{cases_lt, cond-true, cond-false, eq-eqb, ne_eqb}
use Rattle.std.proofs.lemmas.List.Splits.{slice_split_first, slice_split_none}
use Rattle.std.proofs.lemmas.List.Sums.{fails_before_first}
use Rattle.text_lines.specs.{Lines.ends_line, Rows.{Row, content, rows_from}}

-- the contents of the first line of a text
abbrev first_content : List ℕ → List ℕ
first_content text = content (strip_carriage_return (before_first ends_line text))

-- the rows of the parts of a text between line feeds
abbrev rows_of_parts : ℕ → List (List ℕ) → List Row
rows_of_parts first parts = filter (λ row. not (length row.bytes == 0))
    (map (λ at. record { line = at.0; bytes = content at.1 })
    (enumerate_from first (map strip_carriage_return parts)))

-- the parts of a text are its first line and, if that is not the last, the parts of the rest
parts_of : (text : List ℕ) → (slice_split ends_line text
    ≡ before_first ends_line text ∷ slice_split ends_line (after_first ends_line text))
    ⊎ ((slice_split ends_line text ≡ before_first ends_line text ∷ [])
    × (after_first ends_line text ≡ []))
parts_of text = ⊎_elim (λ found. inl (slice_split_first ends_line text 0 found)) (λ none. inr (
  slice_split_none ends_line text (λ k d h. fails_before_first ends_line text k d (omega arith))
      ∙ ap (λ line. line ∷ []) (sym (take_all _ text none)),
  drop_all _ text (omega arith),
)) (cases_lt (position_or_len ends_line text) (length text))

held : (text before bytes : List ℕ) → before ≡ before_first ends_line text
    → bytes ≡ content (strip_carriage_return before) → bytes ≡ first_content text
held text before bytes is_before is_bytes =
    is_bytes ∙ ap (λ line. content (strip_carriage_return line)) is_before

rows_from_step : (line : ℕ) (text : List ℕ) → rows_from line text
    ≡ cond (not (length (first_content text) == 0))
    (record { line = line; bytes = first_content text }
    ∷ rows_from (line + 1) (after_first ends_line text))
    (rows_from (line + 1) (after_first ends_line text))
rows_from_step line text = ⊎_elim
    (λ more. ap (rows_of_parts line) more) (λ last. ap (rows_of_parts line) last.0 ∙ ap
    (λ rest. cond (not (length (first_content text) == 0))
    (record { line = line; bytes = first_content text } ∷ rest) rest)
    (sym (ap (rows_from (line + 1)) last.1))) (parts_of text)

-- a line without contents is skipped
pub rows_from_skip : (line : ℕ) (text before rest bytes : List ℕ)
    → before ≡ before_first ends_line text → rest ≡ after_first ends_line text
    → bytes ≡ content (strip_carriage_return before)
    → length bytes ≡ 0 → rows_from line text ≡ rows_from (line + 1) rest
rows_from_skip line text before rest bytes is_before is_rest is_bytes empty =
    let same = held text before bytes is_before is_bytes in
    rw (is_rest, rows_from_step line text)
    (cond-false _ _ _ (ap not (eq-eqb _ 0 (sym (ap length same) ∙ empty))))

-- any other line is the first row
pub rows_from_first : (line : ℕ) (text before rest bytes : List ℕ)
    → before ≡ before_first ends_line text → rest ≡ after_first ends_line text
    → bytes ≡ content (strip_carriage_return before) → 0 < length bytes
    → rows_from line text ≡ record { line = line; bytes = bytes } ∷ rows_from (line + 1) rest
rows_from_first line text before rest bytes is_before is_rest is_bytes some =
    let same = held text before bytes is_before is_bytes in
    rw (is_rest, same, rows_from_step line text)
    (cond-true _ _ _ (ap not (ne_eqb _ 0 (λ (e : length (first_content text) ≡ 0).
    omega (arith, ap length same)))))
