-- The line that names columns, read back: its names, and the rows of the text behind it.
use Rattle.std.proofs.Common.{◌≡◌, ◌<◌, ◌+◌, ◌-◌, ◌∙◌, ◌++◌, ℕ, zero, suc, Bool, true, false, List}
use Rattle.std.proofs.Common.{[], ◌∷◌, append_assoc, ap, arith, filter, get_or, length, map, refl}
use Rattle.std.{proofs.Common.{sym, take, ◌==◌, not, subst}, specs.Prelude.{option_map, unwrap_or}}
use Rattle.std.specs.Prelude.{◌≢◌, ◌&&◌, ⊤, Option, Some, None, codes, slice_get, option_and_then}
use Rattle.std.specs.{Int.is_in_range, Str.Lines.strip_carriage_return}
use Rattle.std.specs.List.{AllZip, enumerate_from, flat_map, list_all, slice_split}
use Rattle.std.proofs.lemmas.Bool.{and_parts, cond-false, ne_eqb, Decides.nat_tests}
use Rattle.std.proofs.lemmas.List.{append-nil, Folds.list_all-append, Sums.AllPass-from_list_all}
use Rattle.std.proofs.lemmas.List.Splits.{slice_split_at, slice_split_none}
use denote.Ref.{Bor}
use Rattle.text_lines.specs.Lines.{ends_line, is_blank, lines}
use Rattle.text_lines.specs.Rows.{Row, content, rows, rows_from}
use Rattle.bench_net.specs.{Reading.{LinesState, States, statements}, Refusal.IsAccepted}
use Rattle.bench_net.specs.Scan.{cells, inputs, sources}
use Rattle.bench_net.specs.Statement.{Name, Statement, Input, Output, Gate, Dff}
use Rattle.bench_net.specs.Text.{IsToken, Spells, Token, Word, is_word_byte}
use Rattle.list_lemmas.proofs.Places.{within_place}
use Rattle.test_columns.specs.Columns.{Columns, columns, columns_in, columns_line, is_word}
use Rattle.test_columns.specs.Columns.{first_written, is_written, names_after}
use Rattle.test_columns.proofs.FirstLine.{first_at}

-- ---- the names of a circuit's sources are words

-- a name is a word of a bench file
abbrev pub IsName : Name → Type 0
IsName name = IsToken (Word name)

abbrev pub AreNames : List Name → Type 0
AreNames [] = ⊤
AreNames (name ∷ names) = IsName name × AreNames names

-- all tokens that a line spells are tokens
abbrev AreTokens : List Token → Type 0
AreTokens [] = ⊤
AreTokens (token ∷ tokens) = IsToken token × AreTokens tokens

spelled : (tokens : List Token) (line : List ℕ) → Spells line tokens → AreTokens tokens
spelled [] line is = tt
spelled (token ∷ tokens) line is = (is.4, spelled tokens is.1 is.6)

-- the source of a statement, if it has one
abbrev named : Statement → List Name
named (Input n) = n ∷ []
named (Dff q d) = q ∷ []
named _ = []

-- the name of a source is a word
stated_name : (s : Statement) (line : List ℕ) → States line (Some s) → AreNames (named s)
stated_name (Input n) line is =
    let all : AreTokens is.0 = spelled is.0 line is.1 in
    let own = subst AreTokens is.2.2 all in
    (own.1.1.0, tt)
stated_name (Output n) line is = tt
stated_name (Gate n kind args) line is = tt
stated_name (Dff q d) line is =
    let all : AreTokens is.0 = spelled is.0 line is.1 in
    let own = subst AreTokens is.2.2 all in
    (own.0, tt)

abbrev HaveNames : List Statement → Type 0
HaveNames c = AreNames (inputs c) × AreNames (map (λ cell. cell.0) (cells c))

one_more : (s : Statement) (c : List Statement) → AreNames (named s) → HaveNames c
    → HaveNames (s ∷ c)
one_more (Input n) c is more = ((is.0, more.0), more.1)
one_more (Output n) c is more = more
one_more (Gate n kind args) c is more = more
one_more (Dff q d) c is more = (more.0, (is.0, more.1))

stated_names : (ls : List (List ℕ)) (stated : List (Option Statement)) → AllZip States ls stated
    → HaveNames (statements stated)
stated_names [] [] all = (tt, tt)
stated_names [] (s ∷ stated) all = absurd all
stated_names (l ∷ ls) [] all = absurd all
stated_names (l ∷ ls) (None ∷ stated) all = stated_names ls stated all.1
stated_names (l ∷ ls) (Some s ∷ stated) all =
    one_more s (statements stated) (stated_name s l all.0) (stated_names ls stated all.1)

joined_names : (first more : List Name) → AreNames first → AreNames more → AreNames (first ++ more)
joined_names [] more is also = also
joined_names (name ∷ first) more is also = (is.0, joined_names first more is.1 also)

pub source_names : (bench : List ℕ) (c : List Statement) → IsAccepted bench c → AreNames (sources c)
source_names bench c accepted =
    let each : LinesState bench accepted.0 = accepted.1.each in
    let have = stated_names (lines bench) accepted.0 each in
    let own : AreNames (sources (statements accepted.0)) =
    joined_names (inputs (statements accepted.0))
    (map (λ cell. cell.0) (cells (statements accepted.0))) have.0 have.1 in
    subst (λ c. AreNames (sources c)) (sym accepted.2) own

-- ---- the bytes of the line

-- a visible ASCII character or a space
abbrev is_shown : ℕ → Bool
is_shown b = is_in_range 32 126 b

abbrev AreShown : List ℕ → Type 0
AreShown bytes = list_all is_shown bytes ≡ true

shown_word : (b : ℕ) → is_word_byte b ≡ true → is_shown b ≡ true
shown_word b h = grind (arith, nat_tests)

no_blank : (b : ℕ) → is_word_byte b ≡ true → is_blank b ≡ false
no_blank b h = grind (arith, nat_tests)

no_feed : (b : ℕ) → is_shown b ≡ true → ends_line b ≡ false
no_feed b h = grind (arith, nat_tests)

no_return : (b : ℕ) → is_shown b ≡ true → (b == 13) ≡ false
no_return b h = grind (arith, nat_tests)

shown_name : (bytes : List ℕ) → list_all is_word_byte bytes ≡ true → AreShown bytes
shown_name [] is = refl
shown_name (b ∷ bytes) is =
    let parts = and_parts (is_word_byte b) (list_all is_word_byte bytes) is in
    ap (λ v. v && list_all is_shown bytes) (shown_word b parts.0) ∙ shown_name bytes parts.1

shown_append : (bytes more : List ℕ) → AreShown bytes → AreShown more → AreShown (bytes ++ more)
shown_append bytes more is also = list_all-append is_shown bytes more
    ∙ (ap (λ v. v && list_all is_shown more) is ∙ also)

-- the names, each after a space
abbrev pub spaced : List Name → List ℕ
spaced names = flat_map (λ name. 32 ∷ name) names

-- one name more
pub spaced_more : (names : List Name) (place : ℕ) (name : Name) → slice_get names place ≡ Some name
    → spaced (take (place + 1) names) ≡ spaced (take place names) ++ 32 ∷ name
spaced_more [] place name at = let bad : None ≡ Some name = at in cc
spaced_more (first ∷ names) zero name at =
    let same : first ≡ name = ap (λ o. unwrap_or o first) at in
    ap (λ l. 32 ∷ l) (append-nil first ∙ same)
spaced_more (first ∷ names) (suc place) name at =
    let number : suc place + 1 ≡ suc (place + 1) = omega arith in
    ap (λ n. spaced (take n (first ∷ names))) number
    ∙ (ap (λ l. (32 ∷ first) ++ l) (spaced_more names place name at)
    ∙ sym (append_assoc (32 ∷ first) (spaced (take place names)) (32 ∷ name)))

-- a place of a name has one
pub found_name : (names : List Name) (place : ℕ) (found : Option (Bor Name))
    → place < length names → option_map (λ name. name.now) found ≡ slice_get names place
    → ((name : Bor Name) → found ≡ Some name → ⊥) → ⊥
found_name names place (Some name) lt is none = none name refl
found_name names place None lt is none =
    let at = within_place names place lt in
    let bad : None ≡ Some at.0 = is ∙ at.1 in cc

shown_names : (names : List Name) → AreNames names → AreShown (spaced names)
shown_names [] are = refl
shown_names (name ∷ names) are =
    shown_append name (spaced names) (shown_name name are.0.1) (shown_names names are.1)

-- the line without its line feed
abbrev own_line : List Name → List ℕ
own_line names = codes "# columns:" ++ spaced names

-- it has no line feed, and no carriage return at its end
shown_line : (names : List Name) → AreNames names → AreShown (own_line names)
shown_line names are = shown_names names are

kept_return : (bytes : List ℕ) → AreShown bytes → strip_carriage_return bytes ≡ bytes
kept_return [] is = refl
kept_return (b ∷ bytes) is =
    let own : List ℕ = b ∷ bytes in
    let within : length own - 1 < length own = omega arith in
    let last = AllPass-from_list_all is_shown own is (length own - 1) 0 within in
    cond-false _ _ _ (no_return (get_or own (length own - 1) 0) last)

first_of_lines : (names : List Name) (rest : List ℕ) → AreNames names
    → lines (columns_line names ++ rest) ≡ own_line names ∷ lines rest
first_of_lines names rest are =
    let own = own_line names in
    let shown = shown_line names are in
    ap lines (append_assoc (codes "# columns:") (spaced names ++ 10 ∷ []) rest
    ∙ (ap (λ l. codes "# columns:" ++ l) (append_assoc (spaced names) (10 ∷ []) rest)
    ∙ sym (append_assoc (codes "# columns:") (spaced names) (10 ∷ rest))))
    ∙ (ap (map strip_carriage_return) (slice_split_at ends_line own 10 rest
    (λ k d h. no_feed (get_or own k d) (AllPass-from_list_all is_shown own shown k d h)) refl)
    ∙ ap (λ l. l ∷ lines rest) (kept_return own shown))

-- ---- the words of the line

split_names : (word : List ℕ) (names : List Name) → list_all is_word_byte word ≡ true
    → AreNames names → slice_split is_blank (word ++ spaced names) ≡ word ∷ names
split_names word [] is are =
    ap (slice_split is_blank) (append-nil word) ∙ slice_split_none is_blank word
    (λ k d h. no_blank (get_or word k d) (AllPass-from_list_all is_word_byte word is k d h))
split_names word (name ∷ names) is are = slice_split_at is_blank word 32 (name ++ spaced names)
    (λ k d h. no_blank (get_or word k d) (AllPass-from_list_all is_word_byte word is k d h)) refl
    ∙ ap (λ words. word ∷ words) (split_names name names are.0.1 are.1)

some_byte : (name : Name) → name ≢ [] → is_word name ≡ true
some_byte [] some = absurd (some refl)
some_byte (b ∷ name) some = ap not (ne_eqb (length (b ∷ name)) 0 (λ e. omega (arith, e)))

all_words : (names : List Name) → AreNames names → filter is_word names ≡ names
all_words [] are = refl
all_words (name ∷ names) are =
    rw (some_byte name are.0.0) (ap (λ l. name ∷ l) (all_words names are.1))

words_of_line : (names : List Name) → AreNames names
    → filter is_word (slice_split is_blank (32 ∷ codes "columns:" ++ spaced names))
    ≡ codes "columns:" ∷ names
words_of_line names are =
    ap (λ parts. filter is_word ([] ∷ parts)) (split_names (codes "columns:") names refl are)
    ∙ ap (λ l. codes "columns:" ∷ l) (all_words names are)

-- ---- what is read

-- the line has more than blanks
first_is : (names : List Name) (rest : List ℕ) → AreNames names
    → first_written (columns_line names ++ rest) ≡ Some (1, own_line names)
first_is names rest are =
    let more : length (own_line names) ≢ 0 = λ e. omega (arith, e) in
    ap (λ ls. slice_get (filter (λ at. is_written at.1) (enumerate_from 1 ls)) 0)
    (first_of_lines names rest are)
    ∙ first_at 1 (own_line names ∷ lines rest) 0 [] (omega arith) refl
    (ap not (ne_eqb (length (own_line names)) 0 more))

pub columns_read : (names : List Name) (rest : List ℕ) → AreNames names
    → columns (columns_line names ++ rest) ≡ Some (record { line = 1; names = names })
columns_read names rest are = ap (option_and_then columns_in) (first_is names rest are)
    ∙ ap (λ ws. option_map {U = Columns} (λ names. record { line = 1; names = names })
    (names_after ws)) (words_of_line names are)

pub rows_read : (names : List Name) (rest : List ℕ) → AreNames names
    → rows (columns_line names ++ rest) ≡ rows_from 2 rest
rows_read names rest are = ap (λ ls. filter (λ (row : Row). not (length row.bytes == 0))
    (map (λ at. record { line = at.0; bytes = content at.1 }) (enumerate_from 1 ls)))
    (first_of_lines names rest are)
