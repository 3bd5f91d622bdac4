-- Lemmas on setting one lane of the words or bytes of a block.
use Rattle.std.proofs.Common.{◌≡◌, ◌≢◌, ℕ, ◌+◌, ◌*◌, ◌^◌, ◌%◌, ◌<◌, ◌≤◌, Bool, true, false, bit_or}
use Rattle.std.proofs.Common.{List, length, get_or, set, sym, ap, ◌∙◌, ⊎_elim, subst, arith, cond}
use Rattle.std.proofs.{Common.{zero-mul, get_or-set_same, get_or-set_other}, Math.Nat.zero-mod}
use Rattle.std.{specs.Int.{bit_at, Width}, proofs.lemmas.Bool.{cases_eq, cases_Bool}}
use Rattle.std.{specs.Int.Bits.or_zero_r, proofs.lemmas.List.set-get_or}
use Rattle.std.proofs.lemmas.Nat.Bits.{bit_at_set_same, bit_at_set_other}
use Rattle.patterns.specs.Tests.{as_number}
use mir.Val.{bits}

-- of words whose lane was 0, those below i have the row's bit there, and every other bit is as it
-- was
pub record IsSetBelow (old words : List ℕ) (bit : ℕ → Bool) (lane i : ℕ) : Type 0 where
  pub done : (source : ℕ) → source < i
      → bit_at (get_or words source 0) lane ≡ as_number (bit source)
  pub clear : (source : ℕ) → i ≤ source → bit_at (get_or words source 0) lane ≡ 0
  pub others : (source k : ℕ) → k ≢ lane
      → bit_at (get_or words source 0) k ≡ bit_at (get_or old source 0) k

abbrev with_lane : Width → ℕ → ℕ → ℕ
with_lane w word lane = bit_or word (1 * 2 ^ lane % 2 ^ bits w)

-- a 1 sets the bit
pub IsSetBelow-one : (w : Width) (old words : List ℕ) (bit : ℕ → Bool) (lane i : ℕ) → lane < bits w
    → i < length words → bit i ≡ true → IsSetBelow old words bit lane i
    → IsSetBelow old (set words i (with_lane w (get_or words i 0) lane)) bit lane (i + 1)
IsSetBelow-one w old words bit lane i in_word within one before =
    let written = set words i (with_lane w (get_or words i 0) lane) in
    let here : get_or written i 0 ≡ with_lane w (get_or words i 0) lane =
    get_or-set_same words i _ 0 within in
    record {
      done = λ source h. ⊎_elim (λ (same : source ≡ i). subst
          (λ s. bit_at (get_or written s 0) lane ≡ as_number (bit s)) (sym same)
          (ap (λ w. bit_at w lane) here ∙ bit_at_set_same w (get_or words i 0) lane in_word
          ∙ sym (ap as_number one))) (λ (other : source ≢ i). ap (λ w. bit_at w lane)
          (get_or-set_other words i source _ 0 other) ∙ before.done source (omega arith))
          (cases_eq source i);
      clear = λ source h. ap (λ w. bit_at w lane) (get_or-set_other words i source _ 0
          (λ (e : source ≡ i). omega arith)) ∙ before.clear source (omega arith);
      others = λ source k ne. ⊎_elim (λ (same : source ≡ i).
          subst (λ s. bit_at (get_or written s 0) k ≡ bit_at (get_or old s 0) k) (sym same)
          (ap (λ w. bit_at w k) here ∙ bit_at_set_other w (get_or words i 0) lane in_word k ne
          ∙ before.others i k ne))
          (λ (other : source ≢ i). ap (λ w. bit_at w k) (get_or-set_other words i source _ 0 other)
          ∙ before.others source k ne) (cases_eq source i);
    }

-- a 0 leaves the word as it is
pub IsSetBelow-zero : (old words : List ℕ) (bit : ℕ → Bool) (lane i : ℕ) → bit i
    ≡ false → IsSetBelow old words bit lane i → IsSetBelow old words bit lane (i + 1)
IsSetBelow-zero old words bit lane i zero before =
    record {
      done = λ source h. ⊎_elim (λ (same : source ≡ i). subst
          (λ s. bit_at (get_or words s 0) lane ≡ as_number (bit s)) (sym same)
          (before.clear i (omega arith) ∙ sym (ap as_number zero)))
          (λ (other : source ≢ i). before.done source (omega arith)) (cases_eq source i);
      clear = λ source h. before.clear source (omega arith);
      others = before.others;
    }

-- the bit is set by its number
pub IsSetBelow-bit : (w : Width) (old words : List ℕ) (bit : ℕ → Bool) (lane i n : ℕ)
    → (bit i ≡ true → n ≡ 1) → (bit i ≡ false → n ≡ 0)
    → lane < bits w → i < length words → IsSetBelow old words bit lane i
    → IsSetBelow old (set words i (bit_or (get_or words i 0) (n * 2 ^ lane % 2 ^ bits w))) bit lane
    (i + 1)
IsSetBelow-bit w old words bit lane i n one zero in_word within before =
    let word = get_or words i 0 in
    let with : ℕ → List ℕ = λ m. set words i (bit_or word (m * 2 ^ lane % 2 ^ bits w)) in
    let Is : List ℕ → Type 0 = λ ws. IsSetBelow old ws bit lane (i + 1) in
    ⊎_elim (λ (is_one : bit i ≡ true). subst (λ m. Is (with m)) (sym (one is_one))
    (IsSetBelow-one w old words bit lane i in_word within is_one before))
    (λ (is_zero : bit i ≡ false).
    let same : with 0 ≡ words =
    ap (λ m. set words i (bit_or word (m % 2 ^ bits w))) (zero-mul (2 ^ lane))
    ∙ ap (λ m. set words i (bit_or word m)) (zero-mod (2 ^ bits w))
    ∙ ap (λ m. set words i m) (or_zero_r word) ∙ set-get_or words i 0
    in subst (λ m. Is (with m)) (sym (zero is_zero))
    (subst Is (sym same) (IsSetBelow-zero old words bit lane i is_zero before)))
    (cases_Bool (bit i))

-- the bit is chosen by the row's
pub IsSetBelow-chosen : (w : Width) (old words : List ℕ) (bit : ℕ → Bool) (lane i v : ℕ)
    → v ≡ cond (bit i) (1 * 2 ^ lane % 2 ^ bits w) 0
    → lane < bits w → i < length words → IsSetBelow old words bit lane i
    → IsSetBelow old (set words i (bit_or (get_or words i 0) v)) bit lane (i + 1)
IsSetBelow-chosen w old words bit lane i v is in_word within before =
    let word = get_or words i 0 in
    let one = 1 * 2 ^ lane % 2 ^ bits w in
    let with : ℕ → List ℕ = λ m. set words i (bit_or word m) in
    let Is : List ℕ → Type 0 = λ ws. IsSetBelow old ws bit lane (i + 1) in
    ⊎_elim
    (λ (is_one : bit i ≡ true). subst (λ m. Is (with m)) (sym (is ∙ ap (λ b. cond b one 0) is_one))
    (IsSetBelow-one w old words bit lane i in_word within is_one before))
    (λ (is_zero : bit i ≡ false).
    let same : with 0 ≡ words = ap (λ m. set words i m) (or_zero_r word) ∙ set-get_or words i 0 in
    subst (λ m. Is (with m)) (sym (is ∙ ap (λ b. cond b one 0) is_zero))
    (subst Is (sym same) (IsSetBelow-zero old words bit lane i is_zero before)))
    (cases_Bool (bit i))
