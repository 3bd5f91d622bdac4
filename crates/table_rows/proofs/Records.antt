-- The text of a record.
use Rattle.std.proofs.Common.{◌≡◌, ◌∙◌, ◌+◌, ◌<◌, ◌≤◌, ◌/◌, ◌%◌, ◌*◌, ◌==◌, ℕ, List, [], ◌∷◌, ◌++◌}
use Rattle.std.proofs.Common.{ap, append-nil, append_assoc, arith, false, length, max}
use Rattle.std.proofs.Common.{length-append, refl, suc, sym, true, zero}
use Rattle.std.proofs.lemmas.{Bool.{eq-eqb, lt-ltb, ne_eqb}, List.Folds.list_any-append}
use Rattle.std.specs.Prelude.{Bool, codes, decimal, if◌then◌else◌}
use Rattle.std.specs.Fmt.{digit_glyph, digits, digits_onto}
use Rattle.csv.specs.Writing.{default_writer, field_text, fields_text, is_blank, needs_byte}
use Rattle.csv.specs.Writing.{needs_quotes, row_body, row_text}
use Rattle.table_rows.specs.Cells.{percent}

-- a byte above all that call for quotes
high_byte : (b : ℕ) → 45 ≤ b → needs_byte default_writer b ≡ false
high_byte b low = rw (
  ne_eqb b 44 (omega (arith, low)),
  ne_eqb b 34 (omega (arith, low)),
  ne_eqb b 13 (omega (arith, low)),
  ne_eqb b 10 (omega (arith, low)),
) refl

plain_more : (d : ℕ) (rest : List ℕ) → d < 10 → needs_quotes default_writer rest ≡ false
    → needs_quotes default_writer (digit_glyph false d ∷ rest) ≡ false
plain_more d rest small plain = rw (lt-ltb d 10 small, high_byte (48 + d) (omega arith)) plain

by_case : (b : Bool) (xs ys : List ℕ) → needs_quotes default_writer xs ≡ false
    → needs_quotes default_writer ys ≡ false
    → needs_quotes default_writer (if b then xs else ys) ≡ false
by_case true xs ys e f = e
by_case false xs ys e f = f

plain_digits : (k n : ℕ) (rest : List ℕ) → needs_quotes default_writer rest ≡ false
    → needs_quotes default_writer (digits_onto k 10 false n rest) ≡ false
plain_digits zero n rest plain = plain
plain_digits (suc k) n rest plain =
    let more = plain_more (n % 10) rest (omega arith) plain in
    by_case (n / 10 == 0) _ _ more (plain_digits k (n / 10) _ more)

-- the digits of a number are a field without quotes
pub plain_number : (n : ℕ) → field_text default_writer (decimal n) ≡ decimal n
unfolding digits
plain_number n = let e = plain_digits 64 n [] refl in rw e refl

plain_number_text : (n : ℕ) → needs_quotes default_writer (decimal n) ≡ false
unfolding digits
plain_number_text n = plain_digits 64 n [] refl

pub plain_percent : (part whole : ℕ)
    → field_text default_writer (percent part whole) ≡ percent part whole
plain_percent part whole =
    let h = 10000 * part / max whole 1 in
    let units = plain_number_text (h / 100) in
    let tens = high_byte (48 + h % 100 / 10) (omega arith) in
    let ones = high_byte (48 + h % 100 % 10) (omega arith) in
    let e : needs_quotes default_writer (percent part whole) ≡ false = rw (
      list_any-append (needs_byte default_writer) (decimal (h / 100))
          (codes "." ++ (48 + h % 100 / 10) ∷ (48 + h % 100 % 10) ∷ []),
      units,
      tens,
      ones,
    ) refl in
    rw e refl

same_ends : (a b n : ℕ) → a ≡ b + n → (a == b) ≡ (n == 0)
same_ends a b zero e = eq-eqb a b (omega (arith, e))
same_ends a b (suc n) e = ne_eqb a b (omega (arith, e)) ∙ sym (ne_eqb (suc n) 0 (omega arith))

blank_row : (fields : List (List ℕ))
    → is_blank default_writer fields ≡ (length (row_body default_writer fields) == 0)
unfolding is_blank fields_text
blank_row [] = refl
blank_row (f ∷ []) = rw (append-nil (field_text default_writer f)) refl
blank_row (f ∷ g ∷ rest) =
    let n = length-append (field_text default_writer f) (fields_text default_writer (g ∷ rest)) in
    sym (ne_eqb _ 0 (omega (arith, n)))

-- the end of a record, by whether it has a byte so far
pub row_closed : (old text : List ℕ) (fields : List (List ℕ))
    → text ≡ old ++ row_body default_writer fields
    → text ++ ((if length text == length old then 34 ∷ 34 ∷ [] else []) ++ 10 ∷ [])
    ≡ old ++ row_text default_writer fields
row_closed old text fields e =
    let body = row_body default_writer fields in
    let n = ap length e ∙ length-append old body in
    let same : (length text == length old) ≡ is_blank default_writer fields =
    same_ends _ _ (length body) n ∙ sym (blank_row fields) in
    rw same (rw e (append_assoc old body _))
