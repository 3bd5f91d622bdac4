-- A text that begins with digits 0 and 1 and a line feed: these digits are its first line.
use Rattle.std.proofs.Common.{◌≡◌, ℕ, ◌+◌, ◌-◌, ◌<◌, ◌==◌, true, false, List, [], ◌∷◌, ◌++◌, length}
use Rattle.std.proofs.Common.{reverse, take, drop, get_or, sym, refl, ap, ◌∙◌, arith, add-one}
use Rattle.std.proofs.{Common.{drop-cons, take_all, length-append}, lemmas.Bool.cond-false}
use Rattle.std.proofs.Math.Seq.{take-append_seam, drop-append-add, get_or-append_seam}
use Rattle.std.proofs.lemmas.{Bool.Decides.nat_tests, List.{reverse-reverse, get_or_append_left}}
use Rattle.std.proofs.lemmas.List.{take-append-drop, length-reverse, get_or-reverse}
use Rattle.std.proofs.lemmas.List.Sums.{position_or_len_is, AllPass-from_list_all}
use Rattle.std.specs.List.{list_all, before_first, after_first, position_or_len}
use Rattle.std.specs.Str.Lines.{strip_carriage_return}
use Rattle.text_lines.specs.Lines.{ends_line, begins_comment, is_blank}
use Rattle.text_lines.specs.Rows.{content, without_front, without_back, is_bit}

-- the bytes are digits 0 and 1
abbrev AreBits : List ℕ → Type 0
AreBits row = list_all is_bit row ≡ true

bit_at : (row : List ℕ) → AreBits row → (k : ℕ) → k < length row → is_bit (get_or row k 0) ≡ true
bit_at row bits k within = AllPass-from_list_all is_bit row bits k 0 within

-- a digit ends no line, begins no comment, and is no blank and no carriage return
ends_none : (b : ℕ) → is_bit b ≡ true → ends_line b ≡ false
ends_none b h = grind (arith, nat_tests)

begins_none : (b : ℕ) → is_bit b ≡ true → begins_comment b ≡ false
begins_none b h = grind (arith, nat_tests)

no_blank : (b : ℕ) → is_bit b ≡ true → is_blank b ≡ false
no_blank b h = grind (arith, nat_tests)

no_return : (b : ℕ) → is_bit b ≡ true → (b == 13) ≡ false
no_return b h = grind (arith, nat_tests)

-- the first line feed of a text that begins with a row ends the row
row_end : (row rest : List ℕ) → AreBits row
    → position_or_len ends_line (row ++ 10 ∷ rest) ≡ length row
row_end row rest bits = position_or_len_is ends_line (row ++ 10 ∷ rest) (length row) 0
    (omega (arith, length-append row (10 ∷ rest)))
    (λ k h. ap ends_line (get_or_append_left row (10 ∷ rest) 0 k h)
    ∙ ends_none (get_or row k 0) (bit_at row bits k h))
    (λ h. ap ends_line (get_or-append_seam row 10 rest 0))

pub before_end : (row rest : List ℕ) → AreBits row → row ≡ before_first ends_line (row ++ 10 ∷ rest)
before_end row rest bits = sym (ap (λ n. take n (row ++ 10 ∷ rest)) (row_end row rest bits)
    ∙ take-append_seam row (10 ∷ rest))

pub after_end : (row rest : List ℕ) → AreBits row → rest ≡ after_first ends_line (row ++ 10 ∷ rest)
after_end row rest bits = sym (ap (λ n. drop (n + 1) (row ++ 10 ∷ rest)) (row_end row rest bits)
    ∙ drop-append-add row (10 ∷ rest) 1)

-- a row holds all of itself
kept_front : (row : List ℕ) → ((k : ℕ) → k < length row → is_bit (get_or row k 0) ≡ true)
    → without_front row ≡ row
kept_front [] bits = refl
kept_front (b ∷ row) bits = cond-false _ _ _ (no_blank b (bits 0 (omega arith)))

bit_from_back : (row : List ℕ) → AreBits row → (k : ℕ) → k < length (reverse row)
    → is_bit (get_or (reverse row) k 0) ≡ true
bit_from_back row bits k h =
    let within : k < length row = omega (arith, length-reverse row) in
    ap is_bit (get_or-reverse row k 0 within) ∙ bit_at row bits (length row - 1 - k) (omega arith)

kept_back : (row : List ℕ) → AreBits row → without_back row ≡ row
kept_back row bits =
    ap reverse (kept_front (reverse row) (bit_from_back row bits)) ∙ reverse-reverse row

no_comment : (row : List ℕ) → AreBits row → before_first begins_comment row ≡ row
no_comment row bits =
    let none = position_or_len_is begins_comment row (length row) 0 (omega arith)
    (λ k h. begins_none (get_or row k 0) (bit_at row bits k h)) (λ h. absurd (omega (arith, h)))
    in ap (λ n. take n row) none ∙ take_all (length row) row (omega arith)

no_return_at_end : (row : List ℕ) → AreBits row → 0 < length row → strip_carriage_return row ≡ row
no_return_at_end row bits some =
    let last = get_or row (length row - 1) 0 in
    cond-false _ _ _ (no_return last (bit_at row bits (length row - 1) (omega arith)))

pub row_content : (row : List ℕ) → AreBits row → row ≡ content (strip_carriage_return row)
row_content [] bits = refl
row_content (b ∷ row) bits =
    let all = b ∷ row in
    sym (ap content (no_return_at_end all bits (omega arith))
    ∙ ap (λ bytes. without_back (without_front bytes)) (no_comment all bits)
    ∙ ap without_back (kept_front all (bit_at all bits)) ∙ kept_back all bits)

-- a text, cut at a line feed
cut : (text : List ℕ) (at : ℕ) → at < length text → get_or text at 0 ≡ 10
    → take at text ++ 10 ∷ drop (at + 1) text ≡ text
cut text at within feed =
    let rest : drop at text ≡ get_or text at 0 ∷ drop (at + 1) text
    = rw (add-one, drop-cons text at 0) in
    ap (λ rest. take at text ++ rest) (ap (λ n. n ∷ drop (at + 1) text) (sym feed) ∙ sym rest)
    ∙ take-append-drop at text

-- the contents of the first line, and the bytes after it
pub first_held : (text : List ℕ) (count : ℕ) → count < length text → get_or text count 0 ≡ 10
    → AreBits (take count text)
    → take count text ≡ content (strip_carriage_return (before_first ends_line text))
first_held text count within feed bits =
    let line = take count text in
    row_content line bits ∙ ap (λ bytes. content (strip_carriage_return bytes))
    (before_end line (drop (count + 1) text) bits
    ∙ ap (before_first ends_line) (cut text count within feed))

pub after_held : (text : List ℕ) (count : ℕ) → count < length text → get_or text count 0 ≡ 10
    → AreBits (take count text) → drop (count + 1) text ≡ after_first ends_line text
after_held text count within feed bits = after_end (take count text) (drop (count + 1) text) bits
    ∙ ap (after_first ends_line) (cut text count within feed)
