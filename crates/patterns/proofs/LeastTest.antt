-- Lemmas on the least test over a table.
use Rattle.std.proofs.Common.{◌≡◌, ◌≢◌, ℕ, zero, suc, ◌+◌, ◌*◌, ◌/◌, ◌%◌, ◌<◌, ◌≤◌, ◌⊎◌, map, Some}
use Rattle.std.proofs.Common.{None, sym, refl, ap, ◌∙◌, subst, inl, inr, ⊎_elim, arith}
use Rattle.std.proofs.lemmas.Bool.{cases_eq}
use Rattle.patterns.specs.declared.Outcome.{Outcome, TheVariants.{Clear, Hit}}
use Rattle.patterns.specs.{Tests.blocks, Least.{IsFirstOfBlock, IsFirstTest}}
use Rattle.patterns.specs.Least.{Table, from_up, first_hit, least, AreClear, IsLeastHit}

some_same : {m n : ℕ} → Some m ≡ Some n → m ≡ n
some_same e = cc

none_some : {n : ℕ} → None ≡ Some n → ⊥
none_some e = cc

-- ---- the first hit among the outcomes from a block on

-- the n outcomes from this block on are Clear
abbrev AreClearFrom : (ℕ → Outcome) → ℕ → ℕ → Type 0
AreClearFrom row first n = (block : ℕ) → first ≤ block → block < first + n → row block ≡ Clear

clear_first : (row : ℕ → Outcome) (first n : ℕ) → row first ≡ Clear → AreClearFrom row (first + 1) n
    → AreClearFrom row first (suc n)
clear_first row first n here later block from to = ⊎_elim
    (λ (same : block ≡ first). ap row same ∙ here)
    (λ (other : block ≢ first). later block (omega arith) (omega arith)) (cases_eq block first)

first_hit-clear : (row : ℕ → Outcome) (first n : ℕ) → AreClearFrom row first n
    → first_hit first (map row (from_up first n)) ≡ None
first_hit-clear row first zero clear = refl
first_hit-clear row first (suc n) clear = rw (clear first (omega arith) (omega arith))
    (first_hit-clear row (first + 1) n (λ block from to. clear block (omega arith) (omega arith)))

first_hit-hit : (row : ℕ → Outcome) (first n block k : ℕ) → first ≤ block → block < first + n
    → row block ≡ Hit k → ((before : ℕ) → first ≤ before → before < block → row before ≡ Clear)
    → first_hit first (map row (from_up first n)) ≡ Some (64 * block + k)
first_hit-hit row first zero block k from to hit earlier = absurd (omega arith)
first_hit-hit row first (suc n) block k from to hit earlier = ⊎_elim
    (λ (same : first ≡ block). rw (ap row same ∙ hit) (ap (λ b. Some (64 * b + k)) same))
    (λ (other : first ≢ block). rw (earlier first (omega arith) (omega arith))
    (first_hit-hit row (first + 1) n block k (omega arith) (omega arith) hit
    (λ before after. earlier before (omega arith)))) (cases_eq first block)

-- the first hit is at a block, or there is none
abbrev FoundFrom : (ℕ → Outcome) → ℕ → ℕ → Type 0
FoundFrom row first n =
    (block : ℕ) × (k : ℕ) × (first ≤ block) × (block < first + n) × (row block ≡ Hit k)
    × ((before : ℕ) → first ≤ before → before < block → row before ≡ Clear)

found_more : (row : ℕ → Outcome) (first n : ℕ) (outcome : Outcome) → row first ≡ outcome
    → FoundFrom row (first + 1) n ⊎ AreClearFrom row (first + 1) n
    → FoundFrom row first (suc n) ⊎ AreClearFrom row first (suc n)
found_more row first n (Hit k) is later =
    inl (first, k, omega arith, omega arith, is, λ before from to. absurd (omega arith))
found_more row first n Clear is (inl found) = inl (
  found.0,
  found.1,
  omega (arith, found.2),
  omega (arith, found.3),
  found.4,
  λ before from to. ⊎_elim (λ (same : before ≡ first). ap row same ∙ is)
      (λ (other : before ≢ first). found.5 before (omega arith) to) (cases_eq before first),
)
found_more row first n Clear is (inr clear) = inr (clear_first row first n is clear)

found_from : (row : ℕ → Outcome) (first n : ℕ) → FoundFrom row first n ⊎ AreClearFrom row first n
found_from row first zero = inr (λ block from to. absurd (omega arith))
found_from row first (suc n) =
    found_more row first n (row first) refl (found_from row (first + 1) n)

-- ---- the least test over a table

-- the blocks before a hit are Clear: the least test is the hit's
least-from_hit : (table : Table) (blocks class block lane : ℕ) → block < blocks
    → table class block ≡ Hit lane → AreClear table block class
    → least table blocks class ≡ Some (64 * block + lane)
least-from_hit table blocks class block lane within hit earlier =
    first_hit-hit (table class) 0 blocks block lane (omega arith) (omega arith) hit
    (λ before from to. earlier before to)

pub least-from_least_hit : (table : Table) (blocks class t : ℕ) → IsLeastHit table blocks class t
    → least table blocks class ≡ Some t
least-from_least_hit table blocks class t is =
    least-from_hit table blocks class is.block is.lane is.within is.hit is.earlier
    ∙ ap Some (sym is.number)

-- all blocks are Clear: there is no least test
pub least-from_clear : (table : Table) (blocks class : ℕ) → AreClear table blocks class
    → least table blocks class ≡ None
least-from_clear table blocks class clear =
    first_hit-clear (table class) 0 blocks (λ block from to. clear block (omega arith))

-- some block is the first that is hit, or all are Clear
least_cases : (table : Table) (blocks class : ℕ)
    → ((t : ℕ) × IsLeastHit table blocks class t) ⊎ AreClear table blocks class
least_cases table blocks class = ⊎_elim (λ found. inl (
  64 * found.0 + found.1,
  record {
    block = found.0;
    lane = found.1;
    within = omega (arith, found.3);
    hit = found.4;
    number = refl;
    earlier = λ before to. found.5 before (omega arith) to;
  },
)) (λ clear. inr (λ block to. clear block (omega arith) (omega arith)))
    (found_from (table class) 0 blocks)

pub IsLeastHit-from_least : (table : Table) (blocks class t : ℕ) → least table blocks class ≡ Some t
    → IsLeastHit table blocks class t
IsLeastHit-from_least table blocks class t is = ⊎_elim (λ found. let same : found.0 ≡ t =
    some_same (sym (least-from_least_hit table blocks class found.0 found.1) ∙ is) in
    subst (IsLeastHit table blocks class) same found.1)
    (λ clear. absurd (none_some (sym (least-from_clear table blocks class clear) ∙ is)))
    (least_cases table blocks class)

pub AreClear-from_least : (table : Table) (blocks class : ℕ) → least table blocks class ≡ None
    → AreClear table blocks class
AreClear-from_least table blocks class is = ⊎_elim
    (λ found. absurd (none_some (sym is ∙ least-from_least_hit table blocks class found.0 found.1)))
    (λ clear. clear) (least_cases table blocks class)

-- ---- over a table of first hits the least test is the first at which it holds

-- the first hit of its block, with the blocks before Clear, is the first of all tests
first_from_hit : (Holds : ℕ → Type 0) (table : Table) (tests class t : ℕ)
    → IsLeastHit table (blocks tests) class t
    → ((block : ℕ) → block < blocks tests → IsFirstOfBlock Holds tests block (table class block))
    → IsFirstTest Holds tests (Some t)
first_from_hit Holds table tests class t is first =
    let at : IsFirstOfBlock Holds tests is.block (Hit is.lane) =
    subst (IsFirstOfBlock Holds tests is.block) is.hit (first is.block is.within) in (
      omega (arith, at.0, is.number),
      subst Holds (sym is.number) at.1,
      λ earlier to.
          let same : 64 * (earlier / 64) + earlier % 64 ≡ earlier = omega arith in
          subst (λ e. ¬ Holds e) same (⊎_elim (λ (inside : earlier / 64 ≡ is.block).
          subst (λ b. ¬ Holds (64 * b + earlier % 64)) (sym inside)
          (at.2 (earlier % 64) (omega (arith, is.number)))) (λ (other : earlier / 64 ≢ is.block).
          let before : earlier / 64 < is.block = omega (arith, is.number, at.0) in
          let clear : IsFirstOfBlock Holds tests (earlier / 64) Clear =
          subst (IsFirstOfBlock Holds tests (earlier / 64)) (is.earlier (earlier / 64) before)
          (first (earlier / 64) (omega (arith, is.within))) in
          clear (earlier % 64) (omega (arith, at.0, is.number)))
          (cases_eq (earlier / 64) is.block)),
    )

pub IsFirstTest-least : (Holds : ℕ → Type 0) (table : Table) (tests class : ℕ)
    → ((block : ℕ) → block < blocks tests → IsFirstOfBlock Holds tests block (table class block))
    → IsFirstTest Holds tests (least table (blocks tests) class)
IsFirstTest-least Holds table tests class first = ⊎_elim (λ found. subst (IsFirstTest Holds tests)
    (sym (least-from_least_hit table (blocks tests) class found.0 found.1))
    (first_from_hit Holds table tests class found.0 found.1 first))
    (λ clear. subst (IsFirstTest Holds tests)
    (sym (least-from_clear table (blocks tests) class clear)) (λ t to.
    let same : 64 * (t / 64) + t % 64 ≡ t = omega arith in
    let within : t / 64 < blocks tests = omega arith in
    let none : IsFirstOfBlock Holds tests (t / 64) Clear = subst
    (IsFirstOfBlock Holds tests (t / 64)) (clear (t / 64) within) (first (t / 64) within) in
    subst (λ e. ¬ Holds e) same (none (t % 64) (omega arith))))
    (least_cases table (blocks tests) class)
