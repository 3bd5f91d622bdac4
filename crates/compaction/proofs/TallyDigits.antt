-- Numbers in the lanes of words, and the tallies of classes.
use Rattle.std.proofs.Common.{◌≡◌, ◌+◌, ◌*◌, ◌/◌, ◌%◌, ◌<◌, ◌≤◌, ◌∙◌, ◌∷◌, [], ℕ, zero, suc, List}
use Rattle.std.proofs.Common.{All, ap, arith, count_by, get_or, length, map, refl, replicate, subst}
use Rattle.std.{proofs.Common.{sym, take, Bool, true, false}, specs.declared.vec.Vec.Vec}
use Rattle.std.{specs.Prelude.{◌&&◌, ◌^◌, bit_and, bit_xor}, proofs.Math.Nat.pow-succ'}
use Rattle.std.proofs.lemmas.List.{get_or-map, length-map, length-replicate, Elements.All-map}
use Rattle.std.proofs.lemmas.List.Sums.{count_by-le-length, count_by_more_no, count_by_more_yes}
use Rattle.patterns.specs.Tests.{as_number}
use Rattle.flat_circuit.{specs.Words.lane, proofs.Public.{lane_and, lane_xor, lane_zero, unlike}}
use Rattle.compaction.specs.Tallies.{AreTallied, number_in}

-- the sum of two bits, by its digits
both : (a b : Bool) → as_number (unlike a b) + 2 * as_number (a && b) ≡ as_number a + as_number b
both true true = refl
both true false = refl
both false true = refl
both false false = refl

digits_of_sum : (digit word k : ℕ) → as_number (lane (bit_xor digit word) k)
    + 2 * as_number (lane (bit_and digit word) k)
    ≡ as_number (lane digit k) + as_number (lane word k)
digits_of_sum digit word k =
    rw (lane_xor digit word k, lane_and digit word k) (both (lane digit k) (lane word k))

-- one digit of a sum, with the carry in the digits above it
pub sum_above : (digit word k old new : ℕ) → new ≡ old + as_number (lane (bit_and digit word) k)
    → as_number (lane (bit_xor digit word) k) + 2 * new
    ≡ as_number (lane digit k) + 2 * old + as_number (lane word k)
sum_above digit word k old new e =
    let s = digits_of_sum digit word k in
    omega (arith, s, e)

-- one digit more doubles the room
pub doubled : (digits : ℕ) → 2 ^ (1 + digits) ≡ 2 * 2 ^ digits
doubled digits =
    let e : 1 + digits ≡ suc digits = omega arith in
    ap (λ n. 2 ^ n) e ∙ pow-succ' 2 digits

-- the room for the carry
pub room_above : (digit word k : ℕ) (higher : List ℕ)
    → number_in (digit ∷ higher) k + as_number (lane word k) < 2 ^ length (digit ∷ higher)
    → number_in higher k + as_number (lane (bit_and digit word) k) < 2 ^ length higher
room_above digit word k higher lt =
    let s = digits_of_sum digit word k in
    omega (arith, s, lt, pow-succ' 2 (length higher))

-- ---- the tallies of classes

zeros_in : (digits k : ℕ) → number_in (replicate digits 0) k ≡ 0
zeros_in zero k = refl
zeros_in (suc digits) k =
    let low = ap as_number (lane_zero k) in
    let rest = zeros_in digits k in
    omega (arith, low, rest)

module _ {Z : Type 0} (detects : ℕ → ℕ → Bool) (digits : ℕ) (groups : List (Vec ℕ Z)) where
  abbrev words_of : List (List ℕ)
  words_of = map (λ words. words.items) groups

  -- of no class
  pub tallied_none : All (λ words. words.items ≡ replicate digits 0) groups
      → AreTallied detects [] digits words_of
  tallied_none are = record {
    long = All-map (λ words. length words ≡ digits) (λ words. words.items) groups
        (λ k d lt. ap length (are k d lt) ∙ length-replicate digits 0);
    each = λ t lt. ap (λ ws. number_in ws (t % 128))
        (All-map (λ words. words ≡ replicate digits 0) (λ words. words.items) groups are
        (t / 128) [] lt) ∙ zeros_in digits (t % 128);
  }

-- the tallies have room for one class more
pub tallied_room : (detects : ℕ → ℕ → Bool) (classes : List ℕ) (digits : ℕ)
    (groups : List (List ℕ)) → AreTallied detects classes digits groups
    → length classes + 1 < 2 ^ digits → (group k bit : ℕ) → group < length groups → k < 128
    → bit ≤ 1 → number_in (get_or groups group []) k + bit < 2 ^ length (get_or groups group [])
tallied_room detects classes digits groups are few group k bit lt low small =
    let place : (128 * group + k) / 128 ≡ group = omega (arith, low) in
    let lane_of : (128 * group + k) % 128 ≡ k = omega (arith, low) in
    let own = are.each (128 * group + k) (subst (λ g. g < length groups) (sym place) lt) in
    let here : number_in (get_or groups group []) k
    ≡ count_by (λ class. detects class (128 * group + k)) classes =
    ap (λ g. number_in (get_or groups g []) k) (sym place)
    ∙ (ap (number_in (get_or groups ((128 * group + k) / 128) [])) (sym lane_of) ∙ own) in
    let most = count_by-le-length (λ class. detects class (128 * group + k)) classes in
    subst (λ n. number_in (get_or groups group []) k + bit < 2 ^ n) (sym (are.long group [] lt))
    (omega (arith, here, most, few, small))

-- one class more
pub tallied_more : (detects : ℕ → ℕ → Bool) (classes : List ℕ) (at d : ℕ) (digits : ℕ)
    (old new : List (List ℕ)) → at < length classes
    → AreTallied detects (take at classes) digits old → map length new ≡ map length old
    → ((t : ℕ) → t / 128 < length old → number_in (get_or new (t / 128) []) (t % 128)
    ≡ number_in (get_or old (t / 128) []) (t % 128) + as_number (detects (get_or classes at d) t))
    → AreTallied detects (take (at + 1) classes) digits new
tallied_more detects classes at d digits old new lt are same sum =
    let count : length new ≡ length old =
    sym (length-map new length) ∙ (ap length same ∙ length-map old length) in
    record {
      long = λ k e low.
          let in_old : k < length old = omega (arith, low, count) in
          sym (get_or-map length new k e 0 low) ∙ (ap (λ l. get_or l k 0) same
          ∙ (get_or-map length old k e 0 in_old ∙ are.long k e in_old));
      each = λ t low.
          let in_old : t / 128 < length old = omega (arith, low, count) in
          let own = sum t in_old in
          let before = are.each t in_old in
          let more = one_more (λ class. detects class t) (detects (get_or classes at d) t) refl in
          omega (arith, own, before, more);
    }
  where
    one_more : (p : ℕ → Bool) (b : Bool) → p (get_or classes at d) ≡ b
        → count_by p (take (at + 1) classes) ≡ count_by p (take at classes) + as_number b
    one_more p true e = count_by_more_yes p classes at d lt e
    one_more p false e =
        let none = count_by_more_no p classes at d lt e in omega (arith, none)
