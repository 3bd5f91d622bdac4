-- The first line of a text that has more than blanks.
use Rattle.std.proofs.Common.{◌≡◌, ◌<◌, ◌+◌, ◌-◌, ◌∙◌, ◌++◌, ℕ, zero, suc, Bool, true, false, List}
use Rattle.std.proofs.Common.{[], ◌∷◌, append_assoc, ap, arith, drop, filter, get_or, inl, inr}
use Rattle.std.proofs.Common.{length, map, length-append, refl, sym, take, ◌==◌, subst}
use Rattle.std.specs.Prelude.{◌≢◌, IfSome, Option, Some, None, option_and_then, slice_get}
use Rattle.std.specs.{List.{enumerate_from, slice_split}, Str.Lines.strip_carriage_return}
use Rattle.std.proofs.lemmas.{Bool.{cases_Bool, eqb-true}, List.take_rest}
use Rattle.std.proofs.lemmas.List.{get_or-map, length-map, map_push, take-append-drop, take-map}
use Rattle.std.{proofs.lemmas.List.Elements.filter-append, specs.Io.StartsWith}
use Rattle.std.specs.Io.BufRead.{DropsThrough, drop_through, take_through}
use denote.Ref.{Bor}
use Rattle.text_lines.specs.Lines.{lines}
use Rattle.test_columns.specs.Columns.{IsBlankLine, IsLastOfFront, columns, columns_in}
use Rattle.test_columns.specs.Columns.{first_written, is_written, written_from}

-- the lines that an iterator has given so far
abbrev pub given : List (Bor (List ℕ)) → List (List ℕ)
given parts = map strip_carriage_return (map (λ x. x.now) parts)

abbrev written : List (ℕ × List ℕ) → List (ℕ × List ℕ)
written ats = filter (λ at. is_written at.1) ats

-- the first line with more than blanks, after lines without
pub first_at : (first : ℕ) (ls : List (List ℕ)) (k : ℕ) (d : List ℕ) → k < length ls
    → written (enumerate_from first (take k ls)) ≡ [] → is_written (get_or ls k d) ≡ true
    → slice_get (written (enumerate_from first ls)) 0 ≡ Some (first + k, get_or ls k d)
first_at first [] k d lt none is = absurd (omega (arith, lt))
first_at first (l ∷ ls) zero d lt none is =
    let number : first ≡ first + 0 = omega arith in
    rw is (ap (λ n. Some (n, l)) number)
first_at first (l ∷ ls) (suc k) d lt none is = elim (cases_Bool (is_written l)) [
  | inl on ↦ (let bad : (first, l) ∷ written (enumerate_from (first + 1) (take k ls)) ≡ []
      = rw on at none in cc)
  | inr off ↦
      let later : written (enumerate_from (first + 1) (take k ls)) ≡ [] = rw off at none in
      let number : first + 1 + k ≡ first + suc k = omega arith in
      rw off (first_at (first + 1) ls k d (omega (arith, lt)) later is
      ∙ ap (λ n. Some (n, get_or ls k d)) number)
]

abbrev feeds : ℕ → Bool
feeds b = b == 10

-- a text up to its first line feed: the first line and the rest
first_line_is : (text own : List ℕ) → take_through 10 text ≡ own ++ 10 ∷ []
    → slice_split feeds text ≡ own ∷ slice_split feeds (drop_through 10 text)
first_line_is [] own e = absurd (omega (arith, ap length e, length-append own (10 ∷ [])))
first_line_is (x ∷ text) own e = elim (cases_Bool (feeds x)) [
  | inl on ↦ one own (rw on at e) on
  | inr off ↦ more own (rw off at e) off (λ own e. first_line_is text own e)
]
  where
    one : (own : List ℕ) → x ∷ [] ≡ own ++ 10 ∷ [] → feeds x ≡ true
        → slice_split feeds (x ∷ text) ≡ own ∷ slice_split feeds (drop_through 10 (x ∷ text))
    one [] e on = rw on refl
    one (y ∷ own) e on = absurd (omega (arith, ap length e, length-append own (10 ∷ [])))

    more : (own : List ℕ) → x ∷ take_through 10 text ≡ own ++ 10 ∷ [] → feeds x ≡ false
        → ((own : List ℕ) → take_through 10 text ≡ own ++ 10 ∷ []
        → slice_split feeds text ≡ own ∷ slice_split feeds (drop_through 10 text))
        → slice_split feeds (x ∷ text) ≡ own ∷ slice_split feeds (drop_through 10 (x ∷ text))
    more [] e off later =
        let same : x ≡ 10 = ap (λ l. get_or l 0 0) e in
        let bad : feeds 10 ≡ false = ap feeds (sym same) ∙ off in cc
    more (y ∷ own) e off later =
        let first : x ≡ y = ap (λ l. get_or l 0 0) e in
        let rest : take_through 10 text ≡ own ++ 10 ∷ [] = ap (λ l. drop 1 l) e in
        rw (off, later own rest) (ap (λ z. (z ∷ own) ∷ slice_split feeds
        (drop_through 10 text)) first)

-- what has no line feed at its end is all of the text
whole_text : (text : List ℕ) → ((own : List ℕ) → take_through 10 text ≢ own ++ 10 ∷ [])
    → take_through 10 text ≡ text
whole_text [] none = refl
whole_text (x ∷ text) none = elim (cases_Bool (feeds x)) [
  | inl on ↦ (let is : x ≡ 10 = eqb-true x 10 on in
      absurd (none [] (rw on (ap (λ b. b ∷ []) is))))
  | inr off ↦ rw off (ap (λ l. x ∷ l) (whole_text text (λ own e. none (x ∷ own)
      (rw off (ap (λ l. x ∷ l) e)))))
]

both : (text : List ℕ) → take_through 10 text ++ drop_through 10 text ≡ text
both [] = refl
both (x ∷ text) = elim (cases_Bool (feeds x)) [
  | inl on ↦ rw on refl
  | inr off ↦ rw off (ap (λ l. x ∷ l) (both text))
]

append_same : (front a b : List ℕ) → front ++ a ≡ front ++ b → a ≡ b
append_same [] a b e = e
append_same (x ∷ front) a b e = append_same front a b (ap (λ l. drop 1 l) e)

through_twice : (text : List ℕ) → take_through 10 (take_through 10 text) ≡ take_through 10 text
through_twice [] = refl
through_twice (x ∷ text) = elim (cases_Bool (feeds x)) [
  | inl on ↦ rw on (rw on refl)
  | inr off ↦ rw off (rw off (ap (λ l. x ∷ l) (through_twice text)))
]

-- bytes behind a line and its line feed
through_front : (line rest own : List ℕ) → take_through 10 line ≡ own ++ 10 ∷ []
    → (take_through 10 (line ++ rest) ≡ own ++ 10 ∷ [])
    × (drop_through 10 (line ++ rest) ≡ drop_through 10 line ++ rest)
through_front [] rest own e = absurd (omega (arith, ap length e, length-append own (10 ∷ [])))
through_front (x ∷ line) rest own e = elim (cases_Bool (feeds x)) [
  | inl on ↦ (rw on (rw on at e), rw on refl)
  | inr off ↦ more own (rw off at e) off (λ own e. through_front line rest own e)
]
  where
    more : (own : List ℕ) → x ∷ take_through 10 line ≡ own ++ 10 ∷ [] → feeds x ≡ false
        → ((own : List ℕ) → take_through 10 line ≡ own ++ 10 ∷ []
        → (take_through 10 (line ++ rest) ≡ own ++ 10 ∷ [])
        × (drop_through 10 (line ++ rest) ≡ drop_through 10 line ++ rest))
        → (take_through 10 (x ∷ line ++ rest) ≡ own ++ 10 ∷ [])
        × (drop_through 10 (x ∷ line ++ rest) ≡ drop_through 10 (x ∷ line) ++ rest)
    more [] e off ahead =
        let same : x ≡ 10 = ap (λ l. get_or l 0 0) e in
        let bad : feeds 10 ≡ false = ap feeds (sym same) ∙ off in cc
    more (y ∷ own) e off ahead =
        let first : x ≡ y = ap (λ l. get_or l 0 0) e in
        let later = ahead own (ap (λ l. drop 1 l) e) in (
          rw off (ap (λ l. x ∷ l) later.0 ∙ ap (λ z. z ∷ (own ++ 10 ∷ [])) first),
          rw off later.1,
        )

nothing_behind : (line : List ℕ) → take_through 10 line ≡ line → drop_through 10 line ≡ []
nothing_behind [] e = refl
nothing_behind (x ∷ line) e = elim (cases_Bool (feeds x)) [
  | inl on ↦ (let all : x ∷ [] ≡ x ∷ line = rw on at e in
      rw on (sym (ap (λ l. drop 1 l) all)))
  | inr off ↦ (let all : x ∷ take_through 10 line ≡ x ∷ line = rw off at e in
      rw off (nothing_behind line (ap (λ l. drop 1 l) all)))
]

-- ---- the front of a text that is read line by line

-- a front without a line that has more than blanks: the lines behind it are numbered on
abbrev pub IsPassed : List ℕ → Type 0
IsPassed front = (n : ℕ) × ((rest : List ℕ) → written_from 1 (front ++ rest) ≡ written_from n rest)

-- a reader whose bytes are known has these left behind such a front
abbrev pub IsBehind : Option (List ℕ) → Option (List ℕ) → List ℕ → Type 0
IsBehind known left front = (text : List ℕ) → known ≡ Some text
    → (rest : List ℕ) × (left ≡ Some rest) × (text ≡ front ++ rest) × IsPassed front

written_first : (n : ℕ) (text own : List ℕ) → take_through 10 text ≡ own ++ 10 ∷ []
    → written_from n text ≡ written ((n, strip_carriage_return own)
    ∷ enumerate_from (n + 1) (lines (drop_through 10 text)))
written_first n text own e =
    ap (λ parts. written (enumerate_from n (map strip_carriage_return parts)))
    (first_line_is text own e)

-- a line of blanks more
passed_more : (front line : List ℕ) → IsPassed front → take_through 10 line ≡ line
    → IsBlankLine line → IsPassed (front ++ line)
passed_more front line passed all blank = (
  passed.0 + 1,
  λ rest.
      let at = through_front line rest blank.0 (all ∙ blank.1) in
      ap (written_from 1) (append_assoc front line rest) ∙ passed.1 (line ++ rest)
      ∙ written_first passed.0 (line ++ rest) blank.0 at.0
      ∙ rw blank.2 (ap (written_from (passed.0 + 1))
      (at.1 ∙ ap (λ l. l ++ rest) (nothing_behind line all))),
)

-- the first line behind such a front, if it has more than blanks
written_at : (front text own : List ℕ) (passed : IsPassed front)
    → take_through 10 text ≡ own ++ 10 ∷ [] → is_written (strip_carriage_return own) ≡ true
    → first_written (front ++ text) ≡ Some (passed.0, strip_carriage_return own)
written_at front text own passed near is =
    let rest = enumerate_from (passed.0 + 1) (lines (drop_through 10 text)) in
    let all : written_from 1 (front ++ text)
    ≡ written ((passed.0, strip_carriage_return own) ∷ rest) =
    passed.1 text ∙ written_first passed.0 text own near in
    let first : slice_get (written ((passed.0, strip_carriage_return own) ∷ rest)) 0
    ≡ Some (passed.0, strip_carriage_return own) = rw is refl in
    ap (λ ats. slice_get ats 0) all ∙ first

-- a line more that ends the front
same_columns : (front text line : List ℕ) → IsPassed front → line ≡ take_through 10 text
    → IsLastOfFront line → columns (front ++ line) ≡ columns (front ++ text)
same_columns front text line passed is (inl none) =
    let all : line ≡ text = is ∙ whole_text text (λ own e. none own (is ∙ e)) in
    ap (λ l. columns (front ++ l)) all
same_columns front text line passed is (inr at) =
    let near : take_through 10 text ≡ at.0 ++ 10 ∷ [] = sym is ∙ at.1 in
    let own : take_through 10 line ≡ at.0 ++ 10 ∷ [] =
    ap (take_through 10) is ∙ (through_twice text ∙ near) in
    let left = written_at front line at.0 passed own at.2 in
    let right = written_at front text at.0 passed near at.2 in
    ap (option_and_then columns_in) (left ∙ sym right)

-- what a reader has read and what it has left, with one line more
pub behind_more : (known left after : Option (List ℕ)) (front more line : List ℕ)
    → IsBehind known left front
    → IfSome left (λ xs. more ≡ front ++ take_through 10 xs) → DropsThrough left after 10
    → more ≡ front ++ line → IsBlankLine line → IsBehind known after more
behind_more known left after front more line behind bytes drops split blank text is =
    let at = behind text is in
    let read : more ≡ front ++ take_through 10 at.0 =
    subst (λ o. IfSome o (λ xs. more ≡ front ++ take_through 10 xs)) at.1 bytes in
    let gone : after ≡ Some (drop_through 10 at.0) =
    subst (λ o. DropsThrough o after 10) at.1 drops in
    let own : line ≡ take_through 10 at.0 = append_same front line (take_through 10 at.0)
    (sym split ∙ read) in (
      drop_through 10 at.0,
      gone,
      at.2 ∙ (ap (λ l. front ++ l) (sym (both at.0)) ∙ (sym (append_assoc front
          (take_through 10 at.0) (drop_through 10 at.0))
          ∙ ap (λ l. l ++ drop_through 10 at.0) (sym read))),
      subst IsPassed (sym split) (passed_more front line at.3
          (ap (take_through 10) own ∙ (through_twice at.0 ∙ sym own)) blank),
    )

-- what was read names the columns of all
pub behind_last : (known left : Option (List ℕ)) (front more line : List ℕ)
    → IsBehind known left front → IfSome left (λ xs. more ≡ front ++ take_through 10 xs)
    → more ≡ front ++ line → IsLastOfFront line → IfSome known (λ text. columns more ≡ columns text)
behind_last None left front more line behind bytes split last = tt
behind_last (Some text) left front more line behind bytes split last =
    let at = behind text refl in
    let read : more ≡ front ++ take_through 10 at.0 =
    subst (λ o. IfSome o (λ xs. more ≡ front ++ take_through 10 xs)) at.1 bytes in
    let own : line ≡ take_through 10 at.0 = append_same front line (take_through 10 at.0)
    (sym split ∙ read) in
    ap columns split ∙ (same_columns front at.0 line at.3 own last ∙ ap columns (sym at.2))

-- ---- the first line, line by line

enumerate_push : (first : ℕ) (ls : List (List ℕ)) (l : List ℕ)
    → enumerate_from first (ls ++ l ∷ []) ≡ enumerate_from first ls ++ (first + length ls, l) ∷ []
enumerate_push first [] l = ap (λ n. (n, l) ∷ []) (omega arith)
enumerate_push first (k ∷ ls) l = ap (λ ats. (first, k) ∷ ats) (enumerate_push (first + 1) ls l
    ∙ ap (λ n. enumerate_from (first + 1) ls ++ (n, l) ∷ []) (omega arith))

pub given_more : (parts : List (Bor (List ℕ))) (x : Bor (List ℕ)) (own : List ℕ) (number : ℕ)
    → number ≡ length parts → own ≡ strip_carriage_return x.now
    → written (enumerate_from 1 (given parts)) ≡ [] → is_written own ≡ false
    → (number + 1 ≡ length (parts ++ x ∷ []))
    × (written (enumerate_from 1 (given (parts ++ x ∷ []))) ≡ [])
given_more parts x own number count is none blank = (
  omega (arith, count, length-append parts (x ∷ [])),
  ap (λ ls. written (enumerate_from 1 ls))
      (ap (map strip_carriage_return) (map_push (λ y. y.now) parts x)
      ∙ map_push strip_carriage_return (map (λ y. y.now) parts) x.now)
      ∙ (ap written (enumerate_push 1 (given parts) (strip_carriage_return x.now))
      ∙ (filter-append (λ at. is_written at.1) (enumerate_from 1 (given parts)) _
      ∙ (ap (λ ats. ats ++ written ((1 + length (given parts), strip_carriage_return x.now) ∷ []))
      none ∙ rw (ap is_written (sym is) ∙ blank) refl))),
)

-- the lines of a text, of which an iterator has given some
lines_so_far : (text : List ℕ) (parts : List (Bor (List ℕ)))
    → map (λ y. y.now) parts ≡ take (length parts) (slice_split feeds text)
    → given parts ≡ take (length parts) (lines text)
lines_so_far text parts so_far = ap (map strip_carriage_return) so_far
    ∙ sym (take-map strip_carriage_return (length parts) (slice_split feeds text))

pub is_first : (text : List ℕ) (parts : List (Bor (List ℕ))) (x : Bor (List ℕ)) (own : List ℕ)
    (number : ℕ) → number ≡ length parts
    → map (λ y. y.now) parts ≡ take (length parts) (slice_split feeds text)
    → length parts < length (slice_split feeds text)
    → x.now ≡ get_or (slice_split feeds text) (length parts) x.now
    → own ≡ strip_carriage_return x.now → written (enumerate_from 1 (given parts)) ≡ []
    → is_written own ≡ true → Some (number + 1, own) ≡ first_written text
is_first text parts x own number count so_far below turn is none on =
    let k = length parts in
    let all = slice_split feeds text in
    let long : k < length (lines text) =
    omega (arith, below, length-map all strip_carriage_return) in
    let here : get_or (lines text) k [] ≡ own =
    get_or-map strip_carriage_return all k x.now [] below
    ∙ (ap strip_carriage_return (sym turn) ∙ sym is) in
    let front : written (enumerate_from 1 (take k (lines text))) ≡ [] =
    ap (λ ls. written (enumerate_from 1 ls)) (sym (lines_so_far text parts so_far)) ∙ none in
    let place : 1 + k ≡ number + 1 = omega (arith, count) in
    sym (first_at 1 (lines text) k [] long front (ap is_written here ∙ on)
    ∙ (ap (λ n. Some (n, get_or (lines text) k [])) place ∙ ap (λ l. Some (number + 1, l)) here))

pub is_none : (text : List ℕ) (parts : List (Bor (List ℕ)))
    → map (λ y. y.now) parts ≡ slice_split feeds text
    → written (enumerate_from 1 (given parts)) ≡ [] → None ≡ first_written text
is_none text parts all none = sym (ap (λ ls. slice_get (written (enumerate_from 1 ls)) 0)
    (sym (ap (map strip_carriage_return) all)) ∙ ap (λ ats. slice_get ats 0) none)

-- what a read added to what was read before
pub split_at : (front more now : List ℕ) (start : ℕ) → start ≡ length front → now ≡ more
    → StartsWith more front → more ≡ front ++ take (length now - start) (drop start now)
split_at front more now start is same begins =
    let own : take start now ≡ front = rw (same, is) begins in
    sym (ap (λ l. l ++ take (length now - start) (drop start now)) (sym own)
    ∙ (ap (λ l. take start now ++ l) (take_rest now start) ∙ (take-append-drop start now ∙ same)))
