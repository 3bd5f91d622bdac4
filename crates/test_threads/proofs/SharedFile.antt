-- Lemmas on a file whose bytes threads take in turn.
use Rattle.std.proofs.Common.{◌≡◌, ℕ, ◌+◌, ◌-◌, ◌≤◌, List, [], ◌++◌, Option, None, Some, arith}
use Rattle.std.proofs.Common.{true, false, length, take, drop, sym, refl, ap, ◌∙◌, subst}
use Rattle.std.proofs.Common.{append_assoc, drop_at, length-append, length-drop, length-take-le}
use Rattle.std.{proofs.Common.{take-append-drop, All, slice_index}, specs.List.slice_range}
use Rattle.std.{specs.Io.KnownBytes.{Consumes, IsAtEnd}, proofs.lemmas.List.take_at}
use Rattle.std.proofs.lemmas.List.{drop-drop, get_or-append-add, get_or_append_left, take-append-le}
use Rattle.std.proofs.lemmas.List.Elements.{All-append}
use Rattle.text_lines.specs.Starts.{IsLineStart}
use Rattle.patterns.specs.{LaterRows.with_tests, Tests.{TestList, max_tests}}
use Rattle.test_threads.specs.Pieces.{AreLinesAt, AreRowsOf, IsLineEnd, IsOpenAt}

-- a text that is cut at the two places
pub open_of : (text before rest more : List ℕ) (left : Option (List ℕ)) (place : ℕ)
    → text ≡ before ++ (rest ++ more) → length before ≡ place → left ≡ Some more
    → IsLineStart text place → IsOpenAt text left rest place
open_of text before rest more left place is size left_is starts =
    let both : length (before ++ rest) ≡ place + length rest =
    length-append before rest ∙ ap (λ n. n + length rest) size in
    record {
      within = omega (
        arith,
        ap length is,
        length-append before (rest ++ more),
        length-append rest more,
        size,
      );
      rest_is = ap (λ l. slice_range l place (place + length rest)) is
          ∙ (ap (take ((place + length rest) - place)) (drop_at before (rest ++ more) place size)
          ∙ take_at rest more ((place + length rest) - place) (omega arith));
      left_is = left_is
          ∙ ap Some (sym (ap (drop (place + length rest)) (is ∙ sym (append_assoc before rest more))
          ∙ drop_at (before ++ rest) more (place + length rest) both));
      starts = starts;
    }

-- the text, from its pieces
pub text_is : (text : List ℕ) (left : Option (List ℕ)) (rest : List ℕ) (place : ℕ)
    → IsOpenAt text left rest place
    → text ≡ take place text ++ (rest ++ drop (place + length rest) text)
text_is text left rest place at =
    let tail = drop place text in
    let own : take (length rest) tail ≡ rest = ap (λ n. take n tail) (omega arith) ∙ at.rest_is in
    let behind : drop (length rest) tail ≡ drop (place + length rest) text =
    drop-drop (length rest) place text in
    sym (take-append-drop place text) ∙ ap (λ l. take place text ++ l)
    (sym (take-append-drop (length rest) tail)
    ∙ (ap (λ l. l ++ drop (length rest) tail) own ∙ ap (λ l. rest ++ l) behind))

consumed : (bytes : List ℕ) (left : Option (List ℕ)) (added : List ℕ)
    → Consumes (Some bytes) left added → (more : List ℕ) × (left ≡ Some more)
    × (bytes ≡ added ++ more)
consumed bytes None added read = absurd read
consumed bytes (Some more) added read = (more, refl, read)

-- more bytes were read
pub IsOpenAt-more : (text : List ℕ) (left later : Option (List ℕ)) (rest added : List ℕ)
    (place : ℕ) → IsOpenAt text left rest place → Consumes left later added
    → IsOpenAt text later (rest ++ added) place
IsOpenAt-more text left later rest added place at read =
    let after = consumed (drop (place + length rest) text) later added
    (subst (λ l. Consumes l later added) at.left_is read) in
    let is : text ≡ take place text ++ ((rest ++ added) ++ after.0) =
    text_is text left rest place at ∙ ap (λ l. take place text ++ l)
    (ap (λ l. rest ++ l) after.2 ∙ sym (append_assoc rest added after.0)) in
    open_of text (take place text) (rest ++ added) after.0 later place is
    (length-take-le place text (omega (arith, at.within))) after.1 at.starts

-- so nothing is left
pub nothing_left : (left : Option (List ℕ)) (rest : List ℕ) → left ≡ Some rest → IsAtEnd left
    → left ≡ Some []
nothing_left left rest is ended = is ∙ ap Some (subst IsAtEnd is ended)

none_left : (text : List ℕ) (place : ℕ) → IsAtEnd (Some (drop place text)) → place ≤ length text
    → place ≡ length text
none_left text place ended within = omega (arith, length-drop place text, ap length ended, within)

-- all bytes that were read, of which the text ends with the last
pub AreLines-last : (text : List ℕ) (left : Option (List ℕ)) (buffer : List ℕ)
    (place filled end : ℕ) → IsOpenAt text left (take filled buffer) place
    → filled ≤ length buffer → IsAtEnd left → end ≡ place + filled
    → AreLinesAt text buffer place end true
AreLines-last text left buffer place filled end at within ended is =
    let size : length (take filled buffer) ≡ filled = length-take-le filled buffer within in
    let count : end ≡ place + length (take filled buffer) = omega (arith, is, size) in
    let whole : place + length (take filled buffer) ≡ length text =
    none_left text (place + length (take filled buffer)) (subst IsAtEnd at.left_is ended)
    at.within in
    record {
      until = record {
        within = omega (arith, count, whole);
        after_feed = λ _ below. absurd (omega (arith, below, count, whole));
      };
      bytes = ap (λ n. slice_range text place n) count
          ∙ (at.rest_is ∙ ap (λ n. take n buffer) (omega (arith, is)));
      all = λ _. count ∙ whole;
    }

-- the bytes of a full buffer, cut where a line ends
pub AreLines-cut : (text : List ℕ) (left : Option (List ℕ)) (buffer : List ℕ)
    (place count end : ℕ) → IsOpenAt text left buffer place → IsLineEnd buffer count
    → end ≡ place + count
    → AreLinesAt text buffer place end false × IsOpenAt text left (drop count buffer) end
AreLines-cut text left buffer place count end at cut is =
    let before = take place text in
    let more = drop (place + length buffer) text in
    let size : length before ≡ place = length-take-le place text (omega (arith, at.within)) in
    let t : text ≡ before ++ (buffer ++ more) = text_is text left buffer place at in
    let feed : slice_index text (end - 1) ≡ 10 = ap (λ l. slice_index l (end - 1)) t
    ∙ (ap (λ n. slice_index (before ++ (buffer ++ more)) n) (omega (arith, is, size, cut.some))
    ∙ (get_or-append-add before (buffer ++ more) (count - 1) 0
    ∙ (get_or_append_left buffer more 0 (count - 1) (omega (arith, cut.some, cut.within))
    ∙ cut.feed))) in
    let until : IsLineStart text end = record {
      within = omega (arith, is, cut.within, at.within);
      after_feed = λ _ _. feed;
    } in
    let front = take count buffer in
    let parts : text ≡ (before ++ front) ++ (drop count buffer ++ more) =
    t ∙ (ap (λ l. before ++ (l ++ more)) (sym (take-append-drop count buffer))
    ∙ (ap (λ l. before ++ l) (append_assoc front (drop count buffer) more)
    ∙ sym (append_assoc before front (drop count buffer ++ more)))) in
    let both : length (before ++ front) ≡ end =
    omega (arith, length-append before front, size, length-take-le count buffer cut.within, is) in (
      record {
        until = until;
        bytes = ap (λ l. slice_range l place end) t
            ∙ (ap (take (end - place)) (drop_at before (buffer ++ more) place size)
            ∙ take-append-le (end - place) buffer more (omega (arith, is, cut.within)));
        all = λ no. absurd (cc);
      },
      open_of text (before ++ front) (drop count buffer) more left end parts both at.left_is until,
    )

-- more tests of the same width
pub AreRowsOf-more : (width : ℕ) (t more : TestList) → AreRowsOf width t → AreRowsOf width more
    → length t.tests + length more.tests ≤ max_tests → AreRowsOf width (with_tests t more.tests)
AreRowsOf-more width t more rows own room = (
  rows.0,
  record {
    each = All-append (λ test. length test ≡ t.width) t.tests more.tests rows.1.each
        (subst (λ w. All (λ test. length test ≡ w) more.tests) (own.0 ∙ sym rows.0) own.1.each);
    count = omega (arith, length-append t.tests more.tests, room);
  },
)
