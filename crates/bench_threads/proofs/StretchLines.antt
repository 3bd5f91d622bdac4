-- The statements and the numbered lines of stretches of a file, one after another.
use Rattle.std.proofs.Common.{◌≡◌, ℕ, zero, suc, ◌+◌, ◌-◌, ◌<◌, ◌≤◌, refl, sym, ap, ◌∙◌, subst}
use Rattle.std.proofs.Common.{List, [], ◌∷◌, ◌++◌, map, filter, length, length-append, take, drop}
use Rattle.std.proofs.Common.{get_or, arith, append-nil, append_assoc, take_all, ⊎_elim}
use Rattle.std.specs.Prelude.{Option, Some, None, cond, count_by, flat_map, slice_get, unwrap_or}
use Rattle.std.{specs.List.{All, AllZip, slice_range}, proofs.lemmas.Bool.cases_lt}
use Rattle.std.proofs.lemmas.List.{map-append, take_more, take-append-drop, take-take, drop_all}
use Rattle.std.proofs.lemmas.List.{drop-take, Sums.sum_by-take-drop, Concat.flat_map-append}
use Rattle.std.proofs.lemmas.List.Elements.{All-append, All-get_or, filter-append}
use Rattle.text_lines.specs.{Lines.{ends_line, lines}, Starts.IsLineStart}
use Rattle.text_lines.proofs.Public.{lines-cut}
use Rattle.bench_net.specs.declared.{line.NumberedLine.NumberedLine, number.StatedLine.StatedLine}
use Rattle.bench_net.specs.{Statement.{Name, Statement, defines}, Reading.States}
use Rattle.bench_net.specs.{Stored.{numbers, statements_of, statement_of}, reader.Parsed.stands_for}
use Rattle.bench_net.specs.reader.Entries.{AreNamesFrom, AreNumberedLines, AreStated, AreStatedFrom}
use Rattle.bench_net.specs.reader.Entries.{Entry, defined_of, entries_of, entry_of, names_in}
use Rattle.bench_net.specs.reader.Entries.{numbered_from, reads_in, read_of, statements_in}
use Rattle.bench_net.proofs.Public.{complete_states, sound_states}
use Rattle.bench_threads.specs.{declared.stretch.Stretch.Stretch, Stretches.line_numbers_in}
use Rattle.bench_threads.specs.Stretches.{AreCounted, AreStatedBetween, IsCounted, joined, line_at}

-- ---- the statements of a text that is cut

-- a line without a byte states nothing
bare : (s : Option Statement) → States [] s → s ≡ None
bare None h = refl
bare (Some st) h = let e = complete_states [] (Some st) h in cc

-- lines after others, of which the last has no byte
after_bare : (n : ℕ) (before more : List (List ℕ)) (stated later : List (Option Statement))
    → AllZip States (before ++ [] ∷ []) stated → AllZip States more later
    → (all : List (Option Statement)) × AllZip States (before ++ more) all
    × (numbered_from n all ≡ numbered_from n stated ++ numbered_from (n + length before) later)
after_bare n [] more [] later h g = absurd h
after_bare n [] more (s ∷ t ∷ stated) later h g = absurd h.1
after_bare n [] more (s ∷ []) later h g =
    let same : n ≡ n + 0 = omega arith in
    let none : numbered_from n (s ∷ []) ≡ [] = rw (bare s h.0) refl in (
      later,
      g,
      ap (λ k. numbered_from k later) same ∙ ap (λ l. l ++ numbered_from (n + 0) later) (sym none),
    )
after_bare n (l ∷ before) more [] later h g = absurd h
after_bare n (l ∷ before) more (None ∷ stated) later h g =
    let rest = after_bare (suc n) before more stated later h.1 g in
    let same : suc n + length before ≡ n + suc (length before) = omega arith in (
      None ∷ rest.0,
      (h.0, rest.1),
      rest.2 ∙ ap (λ k. numbered_from (suc n) stated ++ numbered_from k later) same,
    )
after_bare n (l ∷ before) more (Some s ∷ stated) later h g =
    let rest = after_bare (suc n) before more stated later h.1 g in
    let same : suc n + length before ≡ n + suc (length before) = omega arith in (
      Some s ∷ rest.0,
      (h.0, rest.1),
      ap (λ l. (n, s) ∷ l) (rest.2
          ∙ ap (λ k. numbered_from (suc n) stated ++ numbered_from k later) same),
    )

-- a text without a byte states nothing
pub stated_none : (first : ℕ) → AreStatedFrom first (lines []) []
stated_none first = record {
  stated = None ∷ [];
  each = (sound_states [] None refl, tt);
  same = refl;
}

none_stated : (first : ℕ) (entries : List Entry) → AreStatedFrom first (lines []) entries
    → entries ≡ []
none_stated first entries are = go are.stated are.each are.same
  where
    go : (stated : List (Option Statement)) → AllZip States (lines []) stated
        → entries ≡ numbered_from first stated → entries ≡ []
    go [] h e = absurd h
    go (s ∷ t ∷ stated) h e = absurd h.1
    go (s ∷ []) h e = e ∙ rw (bare s h.0) refl

-- the statements of a piece behind others
pub stated_more : (text : List ℕ) (start end : ℕ) (before after : List StatedLine)
    → IsLineStart text start → AreStated (lines (take start text)) (entries_of before)
    → AreStatedBetween text start end after
    → AreStated (lines (take end text)) (entries_of (before ++ after))
stated_more text start end before after from are between = ⊎_elim (λ (some : start < length text).
    let cut = lines-cut text start end between.order between.until.within from some in
    let all = after_bare 1 cut.0 (lines (slice_range text start end)) are.stated
    between.are.stated (subst (λ l. AllZip States l are.stated) cut.1 are.each) between.are.each in
    record {
      stated = all.0;
      each = subst (λ l. AllZip States l all.0) (sym cut.2) all.1;
      same = map-append entry_of before after ∙ ap (λ l. l ++ entries_of after) are.same
          ∙ ap (λ l. numbered_from 1 are.stated ++ l) between.are.same
          ∙ ap (λ n. numbered_from 1 are.stated ++ numbered_from (1 + n) between.are.stated)
          (sym cut.3) ∙ sym all.2;
    }) (λ (past : length text ≤ start).
    let same : start ≡ end = omega (arith, between.order, between.until.within) in
    let piece : slice_range text start end ≡ [] = ap (take (end - start)) (drop_all start text past)
    ∙ take_all (end - start) [] (omega arith) in
    let none : entries_of after ≡ [] = none_stated (line_at text start) (entries_of after)
    (subst (λ l. AreStatedFrom (line_at text start) (lines l) (entries_of after)) piece
    between.are) in
    subst (λ n. AreStated (lines (take n text)) (entries_of (before ++ after))) same
    (subst (AreStated (lines (take start text))) (sym (append-nil (entries_of before))
    ∙ ap (λ l. entries_of before ++ l) (sym none) ∙ sym (map-append entry_of before after)) are))
    (cases_lt start (length text))

-- the line feeds before a place and up to another
pub feeds_up_to : (text : List ℕ) (start end : ℕ) → start ≤ end → count_by ends_line (take end text)
    ≡ count_by ends_line (take start text) + count_by ends_line (slice_range text start end)
feeds_up_to text start end le =
    let whole = sum_by-take-drop (λ y. cond (ends_line y) 1 0) (take end text) start in
    let n : start + (end - start) ≡ end = omega (arith, le) in
    let behind : drop start (take end text) ≡ slice_range text start end =
    subst (λ m. drop start (take m text) ≡ take (end - start) (drop start text)) n
    (drop-take start (end - start) text) in
    sym whole ∙ rw (take-take start end text le, behind) refl

-- ---- lists that are one after another

pub joined_push : (xs : List Stretch) (x : Stretch)
    → joined (xs ++ x ∷ []) ≡ joined xs ++ x.stated.items
joined_push xs x = flat_map-append (λ own. own.stated.items) xs (x ∷ [])
    ∙ ap (λ l. joined xs ++ l) (append-nil x.stated.items)

pub joined_more : (xs : List Stretch) (i : ℕ) (x : Stretch) → i < length xs → x ≡ get_or xs i x
    → joined (take (i + 1) xs) ≡ joined (take i xs) ++ x.stated.items
joined_more xs i x h e = ap joined (take_more xs i x h ∙ ap (λ y. take i xs ++ y ∷ []) (sym e))
    ∙ joined_push (take i xs) x

pub joined_at : (xs : List Stretch) (i : ℕ) (x : Stretch) → slice_get xs i ≡ Some x
    → (i < length xs) × (joined (take (i + 1) xs) ≡ joined (take i xs) ++ x.stated.items)
joined_at [] i x e = let bad : None ≡ Some x = e in cc
joined_at (y ∷ xs) zero x e = let h : y ≡ x = ap (λ o. unwrap_or o x) e in
    (omega arith, rw h (append-nil x.stated.items))
joined_at (y ∷ xs) (suc i) x e =
    let rest = joined_at xs i x e in
    let more : suc i + 1 ≡ suc (i + 1) = omega arith in (
      omega (arith, rest.0),
      ap (λ n. joined (take n (y ∷ xs))) more ∙ ap (λ l. y.stated.items ++ l) rest.1
          ∙ sym (append_assoc y.stated.items (joined (take i xs)) x.stated.items),
    )

pub names_append : (xs ys : List StatedLine) → names_in (xs ++ ys) ≡ names_in xs ++ names_in ys
names_append xs ys = flat_map-append defined_of xs ys

pub reads_append : (xs ys : List StatedLine) → reads_in (xs ++ ys) ≡ reads_in xs ++ reads_in ys
reads_append xs ys = flat_map-append read_of xs ys

-- the names of one stretch more, by their number
pub names_grown : (xs ys : List StatedLine)
    → length (names_in (xs ++ ys)) ≡ length (names_in xs) + length (names_in ys)
names_grown xs ys = ap length (names_append xs ys) ∙ length-append (names_in xs) (names_in ys)

pub reads_grown : (xs ys : List StatedLine)
    → length (reads_in (xs ++ ys)) ≡ length (reads_in xs) + length (reads_in ys)
reads_grown xs ys = ap length (reads_append xs ys) ∙ length-append (reads_in xs) (reads_in ys)

-- the stretches before a place, the one at it, and those behind it
pub joined_parts : (xs : List Stretch) (i : ℕ) (x : Stretch) → i < length xs → x ≡ get_or xs i x
    → joined xs ≡ joined (take i xs) ++ (x.stated.items ++ joined (drop (i + 1) xs))
joined_parts xs i x h e = ap joined (sym (take-append-drop (i + 1) xs))
    ∙ flat_map-append (λ own. own.stated.items) (take (i + 1) xs) (drop (i + 1) xs)
    ∙ ap (λ l. l ++ joined (drop (i + 1) xs)) (joined_more xs i x h e)
    ∙ append_assoc (joined (take i xs)) x.stated.items (joined (drop (i + 1) xs))

-- the names of a stretch stand behind the names of those before it
pub names_at : (ns : List Name) (xs : List Stretch) (i first : ℕ) (x : Stretch) → i < length xs
    → x ≡ get_or xs i x → ns ≡ names_in (joined xs) → first ≡ length (names_in (joined (take i xs)))
    → AreNamesFrom ns first (names_in x.stated.items)
names_at ns xs i first x h e all place = (
  names_in (joined (take i xs)),
  names_in (joined (drop (i + 1) xs)),
  all ∙ ap names_in (joined_parts xs i x h e)
      ∙ names_append (joined (take i xs)) (x.stated.items ++ joined (drop (i + 1) xs))
      ∙ ap (λ l. names_in (joined (take i xs)) ++ l)
      (names_append x.stated.items (joined (drop (i + 1) xs))),
  sym place,
)

-- the names of the stretches up to a place are no more than all
pub names_within : (xs : List Stretch) (i : ℕ) (x : Stretch) → i < length xs → x ≡ get_or xs i x
    → length (names_in (joined (take i xs))) + length (names_in x.stated.items)
    ≤ length (names_in (joined xs))
names_within xs i x h e = omega (
  arith,
  ap (λ l. length (names_in l)) (joined_parts xs i x h e),
  names_grown (joined (take i xs)) (x.stated.items ++ joined (drop (i + 1) xs)),
  names_grown x.stated.items (joined (drop (i + 1) xs)),
)

-- ---- numbered lines that are one after another

pub numbered_append : (ns : List Name) (xs ys : List StatedLine) (ls ms : List NumberedLine)
    → AreNumberedLines ns xs ls → AreNumberedLines ns ys ms
    → AreNumberedLines ns (xs ++ ys) (ls ++ ms)
numbered_append ns xs ys ls ms first next = record {
  stand = map-append (statement_of ns) ls ms ∙ ap (λ l. l ++ statements_of ns ms) first.stand
      ∙ ap (λ l. statements_in xs ++ l) next.stand
      ∙ sym (map-append (λ line. stands_for line.statement) xs ys);
  in_range = subst (All (λ number. number < length ns)) (sym (flat_map-append numbers ls ms))
      (All-append (λ number. number < length ns) (flat_map numbers ls) (flat_map numbers ms)
      first.in_range next.in_range);
}

pub line_numbers_append : (xs ys : List StatedLine)
    → line_numbers_in (xs ++ ys) ≡ line_numbers_in xs ++ line_numbers_in ys
line_numbers_append xs ys = ap (map (λ line. line.number))
    (filter-append (λ line. defines (stands_for line.statement)) xs ys)
    ∙ map-append (λ line. line.number) (filter (λ line. defines (stands_for line.statement)) xs)
    (filter (λ line. defines (stands_for line.statement)) ys)

-- ---- the numbers of names of stretches

pub counted_at : (xs : List Stretch) (i : ℕ) (x : Stretch) → AreCounted xs → i < length xs
    → x ≡ get_or xs i x → IsCounted x
counted_at xs i x all h e = subst IsCounted (sym e) (All-get_or IsCounted xs i x h all)
