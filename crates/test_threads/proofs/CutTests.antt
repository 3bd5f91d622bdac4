-- The tests of a file that is cut at the begin of a line are the tests of both pieces.
use Rattle.std.proofs.Common.{◌≡◌, ℕ, ◌+◌, ◌<◌, ◌≤◌, ◌==◌, not, cond, Bool, true, false, List, []}
use Rattle.std.proofs.Common.{◌∷◌, map, length, take, Option, Some, None, sym, refl, ap, ◌∙◌, arith}
use Rattle.std.{specs.Prelude.nat_lt, proofs.lemmas.Bool.lt-ltb}
use Rattle.std.specs.List.{filter_map, cons_option, enumerate_from, list_all, slice_range}
use Rattle.text_lines.specs.{Starts.IsLineStart, Rows.{Row, rows, rows_from, is_bit}}
use Rattle.text_lines.proofs.Public.{held, held-cut}
use Rattle.patterns.specs.{declared.TestFault.TestFault, LaterRows.with_tests}
use Rattle.patterns.specs.Tests.{TestList, HasTests, max_tests, test_fault}
use Rattle.patterns.proofs.Public.{HasTests-behind, bits, count_is}
use Rattle.patterns.specs.declared.TestFault.TheVariants as fault
use Rattle.test_threads.specs.Stretches.{AreTestsBetween}

-- ---- rows without an error

three_hold : (x y z : Bool) (e f g : TestFault)
    → cond (not x) (Some e) (cond (not y) (Some f) (cond (not z) (Some g) None)) ≡ None
    → (x ≡ true) × (y ≡ true) × (z ≡ true)
three_hold true true true e f g none = (refl, refl, refl)
three_hold true true false e f g none = absurd (cc)
three_hold true false z e f g none = absurd (cc)
three_hold false y z e f g none = absurd (cc)

none_where_three_hold : (x y z : Bool) (e f g : TestFault) → x ≡ true → y ≡ true → z ≡ true
    → cond (not x) (Some e) (cond (not y) (Some f) (cond (not z) (Some g) None)) ≡ None
none_where_three_hold true true true e f g _ _ _ = refl
none_where_three_hold true true false e f g _ _ last = absurd (cc)
none_where_three_hold true false z e f g _ next _ = absurd (cc)
none_where_three_hold false y z e f g first _ _ = absurd (cc)

-- a row with the same contents elsewhere within the limit has no error there either
none_elsewhere : (width place other : ℕ) (row same : Row) → row.bytes ≡ same.bytes
    → other < max_tests → test_fault width (place, row) ≡ None
    → test_fault width (other, same) ≡ None
none_elsewhere width place other row same alike room none =
    let three = three_hold (nat_lt place max_tests) (list_all is_bit row.bytes)
    (length row.bytes == width) fault.TooMany (fault.BadByte row.line) (fault.BadWidth row.line)
    none in
    none_where_three_hold (nat_lt other max_tests) (list_all is_bit same.bytes)
    (length same.bytes == width) fault.TooMany (fault.BadByte same.line) (fault.BadWidth same.line)
    (lt-ltb other max_tests room) (ap (list_all is_bit) (sym alike) ∙ three.1)
    (ap (λ bytes. length bytes == width) (sym alike) ∙ three.2)

nothing_first : (o : Option TestFault) (rest : List TestFault) → cons_option o rest ≡ []
    → (o ≡ None) × (rest ≡ [])
nothing_first None rest e = (refl, e)
nothing_first (Some y) rest e = absurd (cc)

none_of_all_elsewhere : (width place other : ℕ) (own same : List Row) → held own ≡ held same
    → other + length own ≤ max_tests → filter_map (test_fault width) (enumerate_from place own) ≡ []
    → filter_map (test_fault width) (enumerate_from other same) ≡ []
none_of_all_elsewhere width place other [] [] alike room none = refl
none_of_all_elsewhere width place other [] (row ∷ same) alike room none = absurd (cc)
none_of_all_elsewhere width place other (row ∷ own) [] alike room none = absurd (cc)
none_of_all_elsewhere width place other (row ∷ own) (next ∷ same) alike room none =
    let here : row.bytes ≡ next.bytes = cc in
    let rest : held own ≡ held same = cc in
    let parts = nothing_first (test_fault width (place, row))
    (filter_map (test_fault width) (enumerate_from (place + 1) own)) none in
    let first = none_elsewhere width place other row next here (omega arith) parts.0 in
    ap (λ o. cons_option o (filter_map (test_fault width) (enumerate_from (other + 1) same))) first
    ∙ none_of_all_elsewhere width (place + 1) (other + 1) own same rest (omega arith) parts.1

-- ---- pieces of a text

bits_held : (own same : List Row) → held own ≡ held same → map bits own ≡ map bits same
bits_held [] [] alike = refl
bits_held [] (row ∷ same) alike = absurd (cc)
bits_held (row ∷ own) [] alike = absurd (cc)
bits_held (row ∷ own) (next ∷ same) alike =
    let here : row.bytes ≡ next.bytes = cc in
    let rest : held own ≡ held same = cc in
    ap (λ bytes. map (λ b. b == 49) bytes ∷ map bits own) here
    ∙ ap (λ more. bits next ∷ more) (bits_held own same rest)

pub HasTests-cut : (text : List ℕ) (width start end : ℕ) (t more : TestList)
    → IsLineStart text start → HasTests (take start text) width t
    → AreTestsBetween text width start end more → length t.tests + length more.tests ≤ max_tests
    → HasTests (take end text) width (with_tests t more.tests)
HasTests-cut text width start end t more from has between room =
    let piece = rows (slice_range text start end) in
    let cut = held-cut text start end between.order between.until.within from in
    let left = rows_from cut.0 (slice_range text start end) in
    let count : length t.tests ≡ length (rows (take start text)) =
    count_is t (rows (take start text)) has.2 in
    let others : length more.tests ≡ length piece = count_is more piece between.tests.2 in
    HasTests-behind (take end text) (take start text) width t left has cut.1
    (with_tests t more.tests) (
      ap (λ w. filter_map (test_fault w) (enumerate_from (length t.tests) left)) has.1
          ∙ none_of_all_elsewhere width 0 (length t.tests) piece left (sym cut.2)
          (omega arith) between.tests.0,
      ap (with_tests t) (between.tests.2 ∙ sym (bits_held left piece cut.2)),
    )
