-- The rows of a text that is cut at the begin of a line are the rows of both pieces, one after
-- another.
use Rattle.std.proofs.Common.{◌≡◌, ℕ, zero, suc, ◌+◌, ◌-◌, ◌<◌, ◌≤◌, Bool, true, false, not, ◌==◌}
use Rattle.std.proofs.Common.{cond, List, [], ◌∷◌, ◌++◌, map, filter, length, take, drop, get_or}
use Rattle.std.proofs.Common.{sym, refl, ap, ◌∙◌, ⊎_elim, subst, arith, add-one, drop-cons}
use Rattle.std.{proofs.Common.take_all, specs.Prelude.count_by}
use Rattle.std.specs.List.{slice_split, onto_first, enumerate_from, slice_range}
use Rattle.std.{specs.Str.Lines.strip_carriage_return, proofs.lemmas.Bool.{cases_Bool, cases_lt}}
use Rattle.std.proofs.lemmas.List.{append-nil, append_assoc, drop_all, length-map, map-append}
use Rattle.std.proofs.lemmas.List.{take_more, take-append-drop, get_or-take, length-take-le}
use Rattle.std.proofs.lemmas.List.{drop-take, take-take, get_or-drop, length-drop}
use Rattle.std.proofs.lemmas.List.{Elements.filter-append, Splits.length-slice_split}
use Rattle.std.proofs.lemmas.List.Splits.{slice_split-cons_yes, slice_split-cons_no}
use Rattle.std.proofs.lemmas.List.Sums.{count_by_more_yes}
use Rattle.text_lines.specs.{Lines.{ends_line, lines}, Rows.{Row, content, rows_from}}
use Rattle.text_lines.specs.Starts.{IsLineStart, IsLineStartFrom}

-- ---- the parts of a text between line feeds

onto_first-append : (x : ℕ) (before after : List (List ℕ)) → 0 < length before
    → onto_first x (before ++ after) ≡ onto_first x before ++ after
onto_first-append x [] after some = absurd (omega arith)
onto_first-append x (part ∷ parts) after some = refl

parts-append : (front : List ℕ) (rest : List ℕ) → slice_split ends_line (front ++ 10 ∷ rest)
    ≡ slice_split ends_line front ++ slice_split ends_line rest
parts-append [] rest = slice_split-cons_yes ends_line 10 rest refl
parts-append (x ∷ front) rest =
    let more = slice_split ends_line rest in
    let later = parts-append front rest in
    ⊎_elim (λ (ends : ends_line x ≡ true).
    slice_split-cons_yes ends_line x (front ++ 10 ∷ rest) ends ∙ ap (λ parts. [] ∷ parts) later
    ∙ sym (ap (λ parts. parts ++ more) (slice_split-cons_yes ends_line x front ends)))
    (λ (goes_on : ends_line x ≡ false). slice_split-cons_no ends_line x (front ++ 10 ∷ rest) goes_on
    ∙ ap (onto_first x) later ∙ onto_first-append x (slice_split ends_line front) more
    (omega (arith, length-slice_split ends_line front))
    ∙ sym (ap (λ parts. parts ++ more) (slice_split-cons_no ends_line x front goes_on)))
    (cases_Bool (ends_line x))

-- The lines of a front of a text that is cut at the begin of a line: the lines before the cut,
-- which are as many as their line feeds, and those of the piece behind it. Alone, the piece before
-- the cut has one line more, without a byte.
pub lines-cut : (text : List ℕ) (place end : ℕ) → place ≤ end → end ≤ length text
    → IsLineStart text place → place < length text
    → (before : List (List ℕ)) × (lines (take place text) ≡ before ++ [] ∷ [])
    × (lines (take end text) ≡ before ++ lines (slice_range text place end))
    × (length before ≡ count_by ends_line (take place text))
lines-cut text zero end low within start some =
    let e : end ≡ end - 0 = omega arith in
    ([], refl, ap (λ n. lines (take n text)) e, refl)
lines-cut text (suc at) end low within start some =
    let front = take at text in
    let rest = slice_range text (suc at) end in
    let short : at < length text = omega arith in
    let last : at ≡ suc at - 1 = omega arith in
    let feed : get_or text at 0 ≡ 10 =
    ap (λ k. get_or text k 0) last ∙ start.after_feed (omega arith) some in
    let line : take (at + 1) text ≡ front ++ 10 ∷ [] =
    take_more text at 0 short ∙ ap (λ b. front ++ b ∷ []) feed in
    let own : take (suc at) text ≡ front ++ 10 ∷ [] =
    ap (λ n. take n text) (sym (add-one at)) ∙ line in
    let e : end ≡ suc at + (end - suc at) = omega arith in
    let more : drop (suc at) (take end text) ≡ rest =
    ap (λ k. drop (suc at) (take k text)) e ∙ drop-take (suc at) (end - suc at) text in
    let whole : take end text ≡ front ++ 10 ∷ rest = sym (take-append-drop (suc at) (take end text))
    ∙ ap (λ l. l ++ drop (suc at) (take end text)) (take-take (suc at) end text low ∙ own)
    ∙ ap (λ l. (front ++ 10 ∷ []) ++ l) more ∙ append_assoc front (10 ∷ []) rest in
    let before = map strip_carriage_return (slice_split ends_line front) in (
      before,
      ap lines own ∙ ap (map strip_carriage_return) (parts-append front [])
          ∙ map-append strip_carriage_return (slice_split ends_line front)
          (slice_split ends_line []),
      ap lines whole ∙ ap (map strip_carriage_return) (parts-append front rest)
          ∙ map-append strip_carriage_return (slice_split ends_line front)
          (slice_split ends_line rest),
      length-map (slice_split ends_line front) strip_carriage_return
          ∙ length-slice_split ends_line front
          ∙ sym (count_by_more_yes ends_line text at 0 short (ap ends_line feed))
          ∙ ap (λ n. count_by ends_line (take n text)) (add-one at),
    )

-- ---- numbered elements

pub enumerate_from-append : {X : Type 0} (n : ℕ) (before after : List X)
    → enumerate_from n (before ++ after)
    ≡ enumerate_from n before ++ enumerate_from (n + length before) after
enumerate_from-append n [] after =
    let same : n ≡ n + 0 = omega arith in
    ap (λ k. enumerate_from k after) same
enumerate_from-append n (x ∷ before) after =
    let same : n + 1 + length before ≡ n + suc (length before) = omega arith in
    ap (λ rest. (n, x) ∷ rest) (enumerate_from-append (n + 1) before after
    ∙ ap (λ k. enumerate_from (n + 1) before ++ enumerate_from k after) same)

-- ---- the rows of parts

abbrev holds : Row → Bool
holds row = not (length row.bytes == 0)

abbrev row_at : ℕ × List ℕ → Row
row_at at = record { line = at.0; bytes = content at.1 }

abbrev rows_of_parts : ℕ → List (List ℕ) → List Row
rows_of_parts first parts =
    filter holds (map row_at (enumerate_from first (map strip_carriage_return parts)))

rows_of_parts-append : (first : ℕ) (before after : List (List ℕ))
    → rows_of_parts first (before ++ after)
    ≡ rows_of_parts first before ++ rows_of_parts (first + length before) after
rows_of_parts-append first before after =
    let lines = map strip_carriage_return before in
    let more = map strip_carriage_return after in
    let count : length lines ≡ length before = length-map before strip_carriage_return in
    ap (λ all. filter holds (map row_at (enumerate_from first all)))
    (map-append strip_carriage_return before after)
    ∙ ap (λ ats. filter holds (map row_at ats)) (enumerate_from-append first lines more)
    ∙ ap (filter holds) (map-append row_at (enumerate_from first lines)
    (enumerate_from (first + length lines) more))
    ∙ filter-append holds (map row_at (enumerate_from first lines))
    (map row_at (enumerate_from (first + length lines) more))
    ∙ ap (λ n. rows_of_parts first before ++ rows_of_parts (first + n) after) count

rows_from-append : (first : ℕ) (front rest : List ℕ) → rows_from first (front ++ 10 ∷ rest)
    ≡ rows_from first front ++ rows_from (first + length (slice_split ends_line front)) rest
rows_from-append first front rest = ap (rows_of_parts first) (parts-append front rest)
    ∙ rows_of_parts-append first (slice_split ends_line front) (slice_split ends_line rest)

rows_from-none : (first : ℕ) → rows_from first [] ≡ []
rows_from-none first = refl

-- ---- a text that is cut

-- the bytes before the place, and from it on
abbrev Cut : ℕ → List ℕ → ℕ → Type 0
Cut first text place = rows_from first text ≡ rows_from first (take place text)
    ++ rows_from (first + count_by ends_line (take place text)) (drop place text)

at_end : (first : ℕ) (text : List ℕ) (place : ℕ) → length text ≤ place → Cut first text place
at_end first text place past =
    let whole : take place text ≡ text = take_all place text past in
    let none : drop place text ≡ [] = drop_all place text past in
    let line = first + count_by ends_line (take place text) in
    sym (append-nil (rows_from first text)) ∙ ap (λ front. rows_from first front ++ []) (sym whole)
    ∙ ap (λ rest. rows_from first (take place text) ++ rows_from line rest) (sym none)

after_line_feed : (first : ℕ) (text : List ℕ) (at : ℕ) → at + 1 < length text
    → get_or text at 0 ≡ 10 → Cut first text (at + 1)
after_line_feed first text at within feed =
    let front = take at text in
    let rest = drop (at + 1) text in
    let short : at < length text = omega arith in
    let line : take (at + 1) text ≡ front ++ 10 ∷ [] =
    take_more text at 0 short ∙ ap (λ b. front ++ b ∷ []) feed in
    let here : drop at text ≡ 10 ∷ rest =
    (rw (add-one, drop-cons text at 0)) ∙ ap (λ b. b ∷ rest) feed in
    let whole : text ≡ front ++ 10 ∷ rest =
    sym (take-append-drop at text) ∙ ap (λ more. front ++ more) here in
    let own : rows_from first (front ++ 10 ∷ []) ≡ rows_from first front =
    rows_from-append first front [] ∙ append-nil (rows_from first front) in
    let count : length (slice_split ends_line front) ≡ count_by ends_line (take (at + 1) text) =
    length-slice_split ends_line front
    ∙ sym (count_by_more_yes ends_line text at 0 short (ap ends_line feed)) in
    ap (rows_from first) whole ∙ rows_from-append first front rest
    ∙ ap (λ rows. rows ++ rows_from (first + length (slice_split ends_line front)) rest)
    (sym own ∙ ap (rows_from first) (sym line))
    ∙ ap (λ n. rows_from first (take (at + 1) text) ++ rows_from (first + n) rest) count

pub rows_from-cut : (first : ℕ) (text : List ℕ) (place : ℕ) → IsLineStart text place
    → rows_from first text ≡ rows_from first (take place text)
    ++ rows_from (first + count_by ends_line (take place text)) (drop place text)
rows_from-cut first text zero start =
    let same : first ≡ first + 0 = omega arith in
    ap (λ n. rows_from n text) same
rows_from-cut first text (suc at) start = ⊎_elim (λ (within : suc at < length text).
    let more : at + 1 < length text = omega arith in
    let last : at ≡ suc at - 1 = omega arith in
    let feed : get_or text at 0 ≡ 10 =
    ap (λ k. get_or text k 0) last ∙ start.after_feed (omega arith) within in
    subst (Cut first text) (add-one at) (after_line_feed first text at more feed))
    (λ (past : length text ≤ suc at). at_end first text (suc at) past)
    (cases_lt (suc at) (length text))

-- a line begins in a front of a text if one does in the text
pub IsLineStart-in_front : (text : List ℕ) (place end : ℕ) → place ≤ end → end ≤ length text
    → IsLineStart text place → IsLineStart (take end text) place
IsLineStart-in_front text place end low within start =
    let len : length (take end text) ≡ end = length-take-le end text within in
    record {
      within = omega arith;
      after_feed = λ some more. get_or-take end text (place - 1) 0 (omega arith)
          ∙ start.after_feed some (omega arith);
    }

-- ---- the contents of rows, whatever the numbers of their lines

abbrev pub held : List Row → List (List ℕ)
held rows = map (λ row. row.bytes) rows

held_alike : (first other : ℕ) (parts : List (List ℕ))
    → held (rows_of_parts first parts) ≡ held (rows_of_parts other parts)
held_alike first other [] = refl
held_alike first other (part ∷ parts) =
    let later = held_alike (first + 1) (other + 1) parts in
    let bytes = content (strip_carriage_return part) in
    go first other bytes (rows_of_parts (first + 1) parts) (rows_of_parts (other + 1) parts)
    (not (length bytes == 0)) later
  where
    go : (m n : ℕ) (bytes : List ℕ) (rows others : List Row) (some : Bool) → held rows ≡ held others
        → held (cond some (record { line = m; bytes = bytes } ∷ rows) rows)
        ≡ held (cond some (record { line = n; bytes = bytes } ∷ others) others)
    go m n bytes rows others true same = ap (λ more. bytes ∷ more) same
    go m n bytes rows others false same = same

-- the rows of a front of a text have the contents of the rows of both pieces
pub held-cut : (text : List ℕ) (place end : ℕ) → place ≤ end → end ≤ length text
    → IsLineStart text place → (n : ℕ) × (rows_from 1 (take end text)
    ≡ rows_from 1 (take place text) ++ rows_from n (slice_range text place end))
    × (held (rows_from n (slice_range text place end))
    ≡ held (rows_from 1 (slice_range text place end)))
held-cut text place end low within start =
    let front = take end text in
    let n = 1 + count_by ends_line (take place front) in
    let cut = rows_from-cut 1 front place (IsLineStart-in_front text place end low within start) in
    let e : end ≡ place + (end - place) = omega arith in
    let own : take place front ≡ take place text = take-take place end text low in
    let more : drop place front ≡ slice_range text place end =
    ap (λ k. drop place (take k text)) e ∙ drop-take place (end - place) text in (
      n,
      cut ∙ ap (λ l. rows_from 1 l ++ rows_from n (drop place front)) own
          ∙ ap (λ l. rows_from 1 (take place text) ++ rows_from n l) more,
      held_alike n 1 (slice_split ends_line (slice_range text place end)),
    )

-- ---- the first place at which a line begins

module _ (text rest : List ℕ) (place : ℕ) (some : 0 < place) (within : place ≤ length text)
    (is : rest ≡ drop (place - 1) text) where
  read : (k : ℕ) → get_or rest k 0 ≡ get_or text (place - 1 + k) 0
  read k = ap (λ l. get_or l k 0) is ∙ get_or-drop (place - 1) text k 0

  len : length rest ≡ length text - (place - 1)
  len = ap length is ∙ length-drop (place - 1) text

  no_start : (earlier : ℕ) → place ≤ earlier → earlier < length text
      → (get_or rest (earlier - place) 0 == 10) ≡ false → IsLineStart text earlier → ⊥
  no_start earlier later inside differs start =
      let at : place - 1 + (earlier - place) ≡ earlier - 1 = omega arith in
      let feed : get_or rest (earlier - place) 0 ≡ 10 =
      read (earlier - place) ∙ ap (λ k. get_or text k 0) at
      ∙ start.after_feed (omega arith) inside in
      let is_feed : (get_or rest (earlier - place) 0 == 10) ≡ true = ap (λ b. b == 10) feed in
      let clash : true ≡ false = sym is_feed ∙ differs in cc

  pub IsLineStartFrom-found : (at : ℕ) → at < length rest
      → ((k : ℕ) → k < at → (get_or rest k 0 == 10) ≡ false) → get_or rest at 0 ≡ 10
      → IsLineStartFrom text place (place + at)
  IsLineStartFrom-found at inside before feed =
      let last : place - 1 + at ≡ place + at - 1 = omega arith in
      record {
        is = record {
          within = omega (arith, len);
          after_feed = λ _ _. sym (ap (λ k. get_or text k 0) last) ∙ sym (read at) ∙ feed;
        };
        later = omega arith;
        first = λ earlier low high. no_start earlier low (omega (arith, len))
            (before (earlier - place) (omega arith));
      }

  pub IsLineStartFrom-end : ((k : ℕ) → k < length rest → (get_or rest k 0 == 10) ≡ false)
      → IsLineStartFrom text place (length text)
  IsLineStartFrom-end before = record {
    is = record {
      within = omega arith;
      after_feed = λ _ (past : length text < length text). absurd (omega arith);
    };
    later = within;
    first = λ earlier low high. no_start earlier low high
        (before (earlier - place) (omega (arith, len)));
  }
