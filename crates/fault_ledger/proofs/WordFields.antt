-- Eight fields of eight bits in a word: a code that is added to a field of 0 is set in it, and the
-- others stay.
use Rattle.std.proofs.Common.{◌≡◌, ◌≢◌, ℕ, ◌+◌, ◌-◌, ◌*◌, ◌/◌, ◌%◌, ◌^◌, ◌<◌, ◌≤◌, bit_or, bit_and}
use Rattle.std.proofs.Common.{sym, ap, ◌∙◌, subst, arith, mod-eq_of_lt, mul_assoc, mul-div_cancel}
use Rattle.std.proofs.Common.{pow-add, pow_pos, pow_mono, lt_of_lt_of_le, mul-lt-mul_of_pos_right}
use Rattle.std.proofs.Common.{List, set, length, slice_index, get_or-set_same, get_or-set_other}
use Rattle.std.proofs.Math.Nat.{div-add-mod, div-eq_of_lt, mul-mod_left}
use Rattle.std.proofs.lemmas.Nat.{and_le_r, and_mod, and_shr, or_disjoint, or_lt, or_mod, or_shr}
use Rattle.std.specs.Int.Bits.{and_zero_l, and_zero_r, or_zero_l, or_zero_r}
use native.Mathlib.Decide.{dec_lt, ℕ_discrete}
use mathlib.Core.Logic.{dite}
use Rattle.fault_ledger.specs.Words.{field, field_in, in_field, word_with}

or_field : (n m j : ℕ) → field (bit_or n m) j ≡ bit_or (field n j) (field m j)
or_field n m j =
    ap (λ x. x % 2 ^ 8) (or_shr n m (8 * j)) ∙ or_mod (n / 2 ^ (8 * j)) (m / 2 ^ (8 * j)) 8

here : (c i : ℕ) → c < 256 → field (c * 2 ^ (8 * i)) i ≡ c
here c i l = ap (λ x. x % 2 ^ 8) (mul-div_cancel c (pow_pos (8 * i))) ∙ mod-eq_of_lt l

whole : (x : ℕ) → x * 2 ^ 8 % 2 ^ 8 ≡ 0
whole x = omega arith

below : (c i j : ℕ) → j < i → field (c * 2 ^ (8 * i)) j ≡ 0
below c i j l =
    let k = i - (j + 1) in
    let e : 8 * i ≡ (8 * k + 8) + 8 * j = omega arith in
    let powers : 2 ^ ((8 * k + 8) + 8 * j) ≡ (2 ^ (8 * k) * 2 ^ 8) * 2 ^ (8 * j) =
    pow-add 2 (8 * k + 8) (8 * j) ∙ ap (λ x. x * 2 ^ (8 * j)) (pow-add 2 (8 * k) 8) in
    let p : c * 2 ^ (8 * i) ≡ ((c * 2 ^ (8 * k)) * 2 ^ 8) * 2 ^ (8 * j) = ap (λ x. c * 2 ^ x) e
    ∙ ap (λ x. c * x) powers ∙ sym (mul_assoc c (2 ^ (8 * k) * 2 ^ 8) (2 ^ (8 * j)))
    ∙ ap (λ x. x * 2 ^ (8 * j)) (sym (mul_assoc c (2 ^ (8 * k)) (2 ^ 8))) in
    ap (λ x. field x j) p
    ∙ ap (λ x. x % 2 ^ 8) (mul-div_cancel ((c * 2 ^ (8 * k)) * 2 ^ 8) (pow_pos (8 * j)))
    ∙ whole (c * 2 ^ (8 * k))

-- a field of which only the lowest bits are set is below the next
pub under : (c i : ℕ) → c < 256 → c * 2 ^ (8 * i) < 2 ^ (8 + 8 * i)
under c i l = subst (λ x. c * 2 ^ (8 * i) < x) (sym (pow-add 2 8 (8 * i)))
    (mul-lt-mul_of_pos_right l (pow_pos (8 * i)))

above : (c i j : ℕ) → c < 256 → i < j → field (c * 2 ^ (8 * i)) j ≡ 0
above c i j l k =
    let d : 2 ^ (8 + 8 * i) ≤ 2 ^ (8 * j) = pow_mono (omega arith) in
    ap (λ x. x % 2 ^ 8) (div-eq_of_lt (lt_of_lt_of_le (under c i l) d))

-- a field that was 0 is c after an `or` with c there, and the others stay
or_here : (n c i : ℕ) → c < 256 → field n i ≡ 0 → field (bit_or n (c * 2 ^ (8 * i))) i ≡ c
or_here n c i l free =
    or_field n (c * 2 ^ (8 * i)) i ∙ (λ k. bit_or (free k) (here c i l k)) ∙ or_zero_l c

or_else : (n c i j : ℕ) → c < 256 → i ≢ j → field (bit_or n (c * 2 ^ (8 * i))) j ≡ field n j
or_else n c i j l apart = or_field n (c * 2 ^ (8 * i)) j
    ∙ ap (bit_or (field n j)) (nothing (dec_lt i j)) ∙ or_zero_r (field n j)
  where
    nothing : Dec (i < j) → field (c * 2 ^ (8 * i)) j ≡ 0
    nothing (yes k) = above c i j l k
    nothing (no k) = below c i j (omega arith)

-- a number with a field of 0 shares no bit with a number that has bits only in that field
apart_at : (n c i : ℕ) → c < 256 → field n i ≡ 0 → bit_and n (c * 2 ^ (8 * i)) ≡ 0
apart_at n c i l free =
    let k = 8 * i in
    let both = bit_and n (c * 2 ^ k) in
    let above : both / 2 ^ k ≡ bit_and (n / 2 ^ k) c =
    and_shr n (c * 2 ^ k) k ∙ ap (bit_and (n / 2 ^ k)) (mul-div_cancel c (pow_pos k)) in
    let low : both % 2 ^ k ≡ 0 =
    and_mod n (c * 2 ^ k) k ∙ ap (bit_and (n % 2 ^ k)) (mul-mod_left c (2 ^ k))
    ∙ and_zero_r (n % 2 ^ k) in
    let under8 : bit_and (n / 2 ^ k) c % 2 ^ 8 ≡ 0 =
    and_mod (n / 2 ^ k) c 8 ∙ ap (λ x. bit_and x (c % 2 ^ 8)) free ∙ and_zero_l (c % 2 ^ 8) in
    let small : bit_and (n / 2 ^ k) c ≤ c = and_le_r (n / 2 ^ k) c in
    let none : bit_and (n / 2 ^ k) c ≡ 0 = omega arith in
    let parts = div-add-mod both (2 ^ k) in
    sym parts ∙ (λ j. 2 ^ k * (above ∙ none) j + low j) ∙ omega arith

-- if a field is 0, an addition to it sets its bits
pub sum_is_or : (n p c : ℕ) → n < 2 ^ 64 → c < 256 → field n (p % 8) ≡ 0
    → (n + in_field p c) % 2 ^ 64 ≡ bit_or n (in_field p c)
sum_is_or n p c wide small free =
    let i = p % 8 in
    let e = or_disjoint n (in_field p c) (apart_at n c i small free) in
    let top : 8 + 8 * i ≤ 64 = omega arith in
    let inside : in_field p c < 2 ^ 64 = lt_of_lt_of_le (under c i small) (pow_mono top) in
    let l : bit_or n (in_field p c) < 2 ^ 64 = or_lt 64 n (in_field p c) wide inside in
    ap (λ x. x % 2 ^ 64) (sym e) ∙ mod-eq_of_lt l

-- the same word has the same in a piece's field
pub same_field : (p a b : ℕ) → in_field p a ≡ in_field p b → a ≡ b
same_field p a b e =
    let positive = pow_pos (8 * (p % 8)) in
    sym (mul-div_cancel a positive) ∙ ap (λ x. x / 2 ^ (8 * (p % 8))) e ∙ mul-div_cancel b positive

-- the words after an `or` on the field of a piece
abbrev pub marked_words : List ℕ → ℕ → ℕ → List ℕ
marked_words words p c =
    set words (word_with p) (bit_or (slice_index words (word_with p)) (in_field p c))

-- the field of the piece itself, which was 0
pub marked_here : (words : List ℕ) (p c : ℕ) → word_with p < length words → c < 256
    → field_in words p ≡ 0 → field_in (marked_words words p c) p ≡ c
marked_here words p c long small free =
    let old = slice_index words (word_with p) in
    let set_now = get_or-set_same words (word_with p) (bit_or old (in_field p c)) 0 long in
    ap (λ n. field n (p % 8)) set_now ∙ or_here old c (p % 8) small free

-- the fields of the others
pub marked_else : (words : List ℕ) (p q c : ℕ) → word_with p < length words → c < 256 → p ≢ q
    → field_in (marked_words words p c) q ≡ field_in words q
marked_else words p q c long small apart = dite (ℕ_discrete (p / 8) (q / 8)) same_word other_word
  where
    new : ℕ
    new = bit_or (slice_index words (word_with p)) (in_field p c)

    now : List ℕ
    now = set words (word_with p) new

    same_word : p / 8 ≡ q / 8 → field_in now q ≡ field_in words q
    same_word e =
        let set_now = get_or-set_same words (word_with p) new 0 long in
        let at : slice_index now (word_with q) ≡ new =
        subst (λ x. slice_index now (x + 1) ≡ new) e set_now in
        ap (λ x. field x (q % 8)) at
        ∙ or_else (slice_index words (word_with p)) c (p % 8) (q % 8) small
        (λ r. apart (omega arith)) ∙ ap (λ x. field (slice_index words (x + 1)) (q % 8)) e

    other_word : p / 8 ≢ q / 8 → field_in now q ≡ field_in words q
    other_word m = ap (λ x. field x (q % 8))
        (get_or-set_other words (word_with p) (word_with q) new 0 (λ r. m (omega arith)))

-- the cursor stays
pub marked_cursor : (words : List ℕ) (p c : ℕ)
    → slice_index (marked_words words p c) 0 ≡ slice_index words 0
marked_cursor words p c =
    let new = bit_or (slice_index words (word_with p)) (in_field p c) in
    get_or-set_other words (word_with p) 0 new 0 (λ q. absurd (omega arith))
