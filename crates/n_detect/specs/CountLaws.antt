-- Laws of counts over ranges of numbers.
use Rattle.std.proofs.Common.{◌≡◌, ◌<◌, ◌≤◌, ◌+◌, ◌-◌, ◌*◌, ℕ, zero, suc, Bool, false, cond}
use Rattle.std.proofs.Common.{refl, sym, ap, ◌∙◌, arith}
use Rattle.std.specs.Prelude.{List, count_by, nat_lt}
use Rattle.std.proofs.lemmas.Bool.{false≢true}
use Rattle.std.proofs.lemmas.List.Sums.{sum_by-cons}
use Rattle.std.proofs.lemmas.Bool.{cases_lt}
use Rattle.std.proofs.Common.{◌⊎◌, inl, inr, lt-ltb, true}
use Rattle.patterns.specs.Least.{from_up}
use Rattle.n_detect.specs.HitCounts.{IsHitCount}
use Rattle.n_detect.specs.ClassTests.{AreGroupsIn}
use Rattle.n_detect.specs.ListLanes.{AreLanesIn}

-- one number more at the front
pub count_more : (p : ℕ → Bool) (a n : ℕ)
    → count_by p (from_up a (suc n)) ≡ cond (p a) 1 0 + count_by p (from_up (a + 1) n)
count_more p a n = sum_by-cons (λ x. cond (p x) 1 0) a (from_up (a + 1) n)

-- a range in two parts
pub count_parts : (p : ℕ → Bool) (a n m : ℕ)
    → count_by p (from_up a (n + m)) ≡ count_by p (from_up a n) + count_by p (from_up (a + n) m)
count_parts p a zero m =
    let all : zero + m ≡ m = omega arith in
    let same : a ≡ a + zero = omega arith in
    let none : count_by p (from_up (a + zero) m) ≡ 0 + count_by p (from_up (a + zero) m) =
    omega arith in
    ap (λ k. count_by p (from_up a k)) all ∙ ap (λ b. count_by p (from_up b m)) same ∙ none
count_parts p a (suc n) m =
    let all : suc n + m ≡ suc (n + m) = omega arith in
    let same : (a + 1) + n ≡ a + suc n = omega arith in
    let front = count_more p a (n + m) in
    let own = count_more p a n in
    let rest = count_parts p (a + 1) n m in
    let later = ap (λ b. count_by p (from_up b m)) same in
    ap (λ k. count_by p (from_up a k)) all ∙ omega (arith, front, own, rest, later)

-- none of a range has it
pub count_none : (p : ℕ → Bool) (a n : ℕ) → ((j : ℕ) → j < n → p (a + j) ≡ false)
    → count_by p (from_up a n) ≡ 0
count_none p a zero none = refl
count_none p a (suc n) none =
    let first : p a ≡ false = ap p (let q : a ≡ a + 0 = omega arith in q) ∙ none 0 (omega arith) in
    let number : Bool → ℕ = λ b. cond b 1 0 in
    let here : number (p a) ≡ 0 = ap number first in
    let rest = count_none p (a + 1) n (λ j lt.
    ap p (let q : (a + 1) + j ≡ a + suc j = omega arith in q) ∙ none (suc j) (omega (arith, lt))) in
    let front = count_more p a n in
    omega (arith, front, here, rest)

-- two properties that agree on a range
pub count_same : (p q : ℕ → Bool) (a n : ℕ) → ((j : ℕ) → j < n → p (a + j) ≡ q (a + j))
    → count_by p (from_up a n) ≡ count_by q (from_up a n)
count_same p q a zero same = refl
count_same p q a (suc n) same =
    let here : a ≡ a + 0 = omega arith in
    let first : p a ≡ q a = ap p here ∙ (same 0 (omega arith) ∙ ap q (sym here)) in
    let number : Bool → ℕ = λ b. cond b 1 0 in
    let own : number (p a) ≡ number (q a) = ap number first in
    let rest = count_same p q (a + 1) n (λ j lt.
    let next : (a + 1) + j ≡ a + suc j = omega arith in
    ap p next ∙ (same (suc j) (omega (arith, lt)) ∙ ap q (sym next))) in
    let left = count_more p a n in
    let right = count_more q a n in
    omega (arith, own, rest, left, right)

-- a count that has reached the most it counts to stays
pub count_stays : (most n : ℕ) (hits : ℕ → Bool) (low high more : ℕ) → nat_lt n most ≡ false
    → high ≤ more → IsHitCount most hits low high n → IsHitCount most hits low more n
count_stays most n hits low high more full le is = go (cases_lt n most)
  where
    go : (n < most) ⊎ (most ≤ n) → IsHitCount most hits low more n
    go (inl lt) = absurd (false≢true (sym full ∙ lt-ltb n most lt))
    go (inr enough) =
        let parts : more - low ≡ (high - low) + ((more - low) - (high - low)) = omega (arith, le) in
        let both = count_parts hits low (high - low) ((more - low) - (high - low)) in
        let whole = ap (λ k. count_by hits (from_up low k)) parts in
        omega (arith, is, enough, both, whole)

-- what is always wanted is never not wanted
pub always_wanted : {A : Type 0} → true ≡ false → A
always_wanted off = absurd (false≢true (sym off))

-- one number of hits decides whether more are wanted
pub count_agrees : (most one other : ℕ) (hits : ℕ → Bool) (low high : ℕ)
    → IsHitCount most hits low high one → IsHitCount most hits low high other
    → nat_lt one most ≡ nat_lt other most
count_agrees most one other hits low high a b = ap (λ n. nat_lt n most) (a ∙ sym b)

-- tests that are no hits change no count
pub count_unchanged : (most n : ℕ) (hits : ℕ → Bool) (low high more : ℕ) → high ≤ more
    → ((t : ℕ) → high ≤ t → t < more → hits t ≡ false) → IsHitCount most hits low high n
    → IsHitCount most hits low more n
count_unchanged most n hits low high more le none is = go (cases_lt high low)
  where
    go : (high < low) ⊎ (low ≤ high) → IsHitCount most hits low more n
    go (inl under) =
        let before : high - low ≡ 0 = omega (arith, under) in
        let own = ap (λ k. count_by hits (from_up low k)) before in
        let rest = count_none hits low (more - low) (λ j lt.
        none (low + j) (omega (arith, under)) (omega (arith, lt))) in
        omega (arith, is, own, rest)
    go (inr up) =
        let parts : more - low ≡ (high - low) + (more - high) = omega (arith, le, up) in
        let both = count_parts hits low (high - low) (more - high) in
        let whole = ap (λ k. count_by hits (from_up low k)) parts in
        let rest = count_none hits (low + (high - low)) (more - high) (λ j lt.
        none (low + (high - low) + j) (omega (arith, up)) (omega (arith, lt, up))) in
        omega (arith, is, both, whole, rest)

-- nor lanes
pub lanes_unchanged : (group word : ℕ) (hits : ℕ → Bool) (low high more : ℕ) → high ≤ more
    → ((t : ℕ) → high ≤ t → t < more → hits t ≡ false) → AreLanesIn group hits low high word
    → AreLanesIn group hits low more word
lanes_unchanged group word hits low high more le none are = λ k lt. (
  λ on. (let h = (are k lt).0 on in let below = h.1 in (h.0, omega (arith, below, le), h.2)),
  λ h. (elim (cases_lt (128 * group + k) high) [
    | inl under ↦ (are k lt).1 (h.0, under, h.2)
    | inr above ↦ absurd (false≢true (sym (none (128 * group + k) above h.1) ∙ h.2))
  ]),
)

-- nor those of several groups
pub groups_unchanged : (count : ℕ) (words : List ℕ) (hits : ℕ → Bool) (low high more : ℕ)
    → high ≤ more → ((t : ℕ) → high ≤ t → t < more → hits t ≡ false)
    → AreGroupsIn count hits low high words → AreGroupsIn count hits low more words
groups_unchanged count words hits low high more le none are = record {
  long = are.long;
  each = λ group word at.
      lanes_unchanged group word hits low high more le none (are.each group word at);
}
