-- Lemmas on the numbers of an order file.
use Rattle.std.proofs.Common.{◌≡◌, ℕ, ◌+◌, ◌-◌, ◌*◌, ◌^◌, ◌<◌, ◌≤◌, true, List, take, length}
use Rattle.std.proofs.Common.{get_or, sym, refl, ap, ◌∙◌, add-one, arith, take_all, lit<}
use Rattle.std.{specs.List.list_all, specs.Char.is_ascii_digit, proofs.lemmas.List.Sums.fold_more}
use Rattle.std.proofs.{Math.Nat.{pow-suc, pow-le-pow_right}, lemmas.List.Folds.list_all_more}
use Rattle.std.proofs.lemmas.Bool.{and_parts, and_from, leb-true, le-leb}
use Rattle.orders.specs.Order.{is_number, number}

-- the bytes before place i are digits, and n is what they stand for
pub record IsRead (bytes : List ℕ) (i n : ℕ) : Type 0 where
  pub value : n ≡ number (take i bytes)
  pub below : n < 10 ^ i
  pub digits : list_all is_ascii_digit (take i bytes) ≡ true

pub IsRead-none : (bytes : List ℕ) → IsRead bytes 0 0
IsRead-none bytes = record { value = refl; below = lit< tt; digits = refl }

digit_bound : (b : ℕ) → is_ascii_digit b ≡ true → b - 48 < 10
digit_bound b h = omega (arith, leb-true b 57 (and_parts _ _ h).1)

pub IsRead-more : (bytes : List ℕ) (i n : ℕ) → i < length bytes → IsRead bytes i n
    → is_ascii_digit (get_or bytes i 0) ≡ true
    → IsRead bytes (i + 1) (10 * n + (get_or bytes i 0 - 48))
IsRead-more bytes i n within read digit =
    record {
      value = ap (λ m. 10 * m + (get_or bytes i 0 - 48)) read.value
          ∙ sym (fold_more _ 0 bytes i 0 within);
      below = rw (add-one, pow-suc 10 i)
          (omega (arith, read.below, digit_bound (get_or bytes i 0) digit));
      digits = list_all_more is_ascii_digit bytes i 0 within ∙ and_from _ _ read.digits digit;
    }

-- fewer than 9 digits leave room for one more
pub IsRead-bound : (bytes : List ℕ) (i n : ℕ) → i < 9 → IsRead bytes i n → n < 100000000
IsRead-bound bytes i n few read =
    omega (arith, read.below, pow-le-pow_right {n = 10} (lit< tt) {i = i} {j = 8} (omega arith))

-- all bytes are read
pub is_number_all : (bytes : List ℕ) (i n : ℕ) → length bytes ≤ i → length bytes ≤ 9
    → IsRead bytes i n → (is_number bytes ≡ true) × (n ≡ number bytes)
is_number_all bytes i n all few read =
    let whole = take_all i bytes all in (
      and_from _ _ (le-leb _ 9 few) (sym (ap (list_all is_ascii_digit) whole) ∙ read.digits),
      read.value ∙ ap number whole,
    )
