-- The lines of a text are its first line and, if a line feed ends it, the lines of the rest.
use Rattle.std.proofs.Common.{◌≡◌, ℕ, ◌+◌, ◌<◌, ◌≤◌, Option, Some, None, List, [], ◌∷◌, map, length}
use Rattle.std.{proofs.Common.{take, drop, sym, refl, ap, ◌∙◌, arith}, specs.Prelude.slice_index}
use Rattle.std.specs.List.{slice_split, before_first, after_first, position_or_len}
use Rattle.std.{specs.Str.Lines.strip_carriage_return, proofs.lemmas.Bool.false_from_ne_true}
use Rattle.std.proofs.lemmas.List.Splits.{length-slice_split, slice_split_first, slice_split_none}
use Rattle.std.proofs.lemmas.List.Sums.{count_by-le-length, fails_before_first, position_or_len_is}
use Rattle.std.proofs.lemmas.List.{length-map}
use Rattle.memchr.specs.Find.{IsFirstByte, is_byte}
use Rattle.text_lines.specs.Lines.{ends_line, lines}

-- the place of the first line feed
feed_at : (text : List ℕ) (at : ℕ) → IsFirstByte (is_byte 10) text (Some at)
    → position_or_len ends_line text ≡ at
feed_at text at found = position_or_len_is ends_line text at 0 (omega (arith, found.0.high))
    (λ k low. false_from_ne_true _ (found.0.before k (omega arith) low)) (λ _. found.1)

pub lines_first : (text : List ℕ) (at : ℕ) → at < length text
    → IsFirstByte (is_byte 10) text (Some at)
    → lines text ≡ strip_carriage_return (take at text) ∷ lines (drop (at + 1) text)
lines_first text at within found =
    let place = feed_at text at found in
    ap (map strip_carriage_return) (slice_split_first ends_line text 0 (omega (arith, place)))
    ∙ ap (λ n. strip_carriage_return (take n text) ∷ lines (drop (n + 1) text)) place

-- a text without a line feed is one line
pub lines_last : (text : List ℕ) → IsFirstByte (is_byte 10) text None
    → lines text ≡ strip_carriage_return text ∷ []
lines_last text none =
    let end = position_or_len_is ends_line text (length text) 0 (omega arith)
    (λ k below. false_from_ne_true _ (none k (omega arith) below)) (λ h. absurd (omega (arith, h)))
    in ap (map strip_carriage_return) (slice_split_none ends_line text
    (λ k d below. fails_before_first ends_line text k d (omega (arith, end))))

-- a text has at most one line more than bytes
pub few_lines : (text : List ℕ) → length (lines text) ≤ length text + 1
few_lines text = omega (
  arith,
  length-map (slice_split ends_line text) strip_carriage_return,
  length-slice_split ends_line text,
  count_by-le-length ends_line text,
)
