-- The law of the table: in a table of true outcomes, the least test of a class is the first test of
-- each of its faults.
use Rattle.std.proofs.Common.{◌≡◌, ◌<◌, ◌≤◌, ℕ, zero, suc, ◌+◌, ◌*◌, ◌-◌, sym, subst, List, ◌∷◌}
use Rattle.std.proofs.{Common.{length, arith, inl, inr, ◌⊎◌}, lemmas.Bool.cases_lt}
use Rattle.std.specs.Prelude.{Option, Some, None, map}
use Rattle.bench_net.specs.{Statement.Statement, Circuit.{IsWellFormed, HaveArities}}
use Rattle.list_lemmas.proofs.Places.{place_within}
use Rattle.fault_model.specs.{declared.Model.Model, Fault.Fault, Solution.Test, Detection.DetectsAt}
use Rattle.fault_model.specs.Collapse.{representatives, IsClassOf, AreEquivalent}
use Rattle.fault_model.proofs.Public.{classes_detected_same, own_class}
use Rattle.patterns.specs.declared.Outcome.{Outcome, TheVariants.{Clear, Hit}}
use Rattle.patterns.specs.{Tests.{blocks, size_of}, Least.{Table, from_up, first_hit, least}}
use Rattle.block_sim.specs.First.{IsFirst, IsOutcome, IsTrueOutcome, IsTrueTable, LeastIsFirst}

-- the same tests detect a fault and the representative of its class; so an outcome of one on a
-- block is an outcome of the other
outcome_too : (c : List Statement) (tests : List Test) (f r : Fault) (block : ℕ) (o : Outcome)
    → ((t : ℕ) → DetectsAt c tests f t → DetectsAt c tests r t)
    → ((t : ℕ) → DetectsAt c tests r t → DetectsAt c tests f t) → IsOutcome c tests r block o
    → IsOutcome c tests f block o
outcome_too c tests f r block Clear to from h = λ k lt d. h k lt (to (64 * block + k) d)
outcome_too c tests f r block (Hit k) to from h = (
  h.0,
  from (64 * block + k) h.1,
  λ lower lt d. h.2 lower lt (to (64 * block + lower) d),
)

pub true_of_class : (m : Model) (c : List Statement) (tests : List Test) (f : Fault)
    (class block : ℕ) (o : Outcome) → IsWellFormed c → HaveArities c → IsClassOf m c f class
    → IsTrueOutcome m c tests class block o → IsOutcome c tests f block o
true_of_class m c tests f class block o well arities of h = outcome_too c tests f h.0 block o
    (λ t. (classes_detected_same c well arities f h.0 tests t both).0)
    (λ t. (classes_detected_same c well arities f h.0 tests t both).1) h.2
  where
    both : AreEquivalent c f h.0
    both = (m, class, of, own_class m c h.0 class h.1)

-- the first test from a block on that detects a fault
abbrev IsFirstFrom : List Statement → List Test → Fault → ℕ → Option ℕ → Type 0
IsFirstFrom c tests f block (Some t) = DetectsAt c tests f t × ((earlier : ℕ) → 64 * block ≤ earlier
    → earlier < t → DetectsAt c tests f earlier → ⊥)
IsFirstFrom c tests f block None = (t : ℕ) → 64 * block ≤ t → DetectsAt c tests f t → ⊥

detects_within : (c : List Statement) (tests : List Test) (f : Fault) (t : ℕ)
    → DetectsAt c tests f t → t < length tests
detects_within c tests f t d = place_within tests t d.0 d.1

-- a test from the block on is a test of the block, or of a later one
in_block : (c : List Statement) (tests : List Test) (f : Fault) (block t : ℕ) → 64 * block ≤ t
    → DetectsAt c tests f t
    → ((k : ℕ) → k < size_of (length tests) block → DetectsAt c tests f (64 * block + k) → ⊥)
    → 64 * (block + 1) ≤ t
in_block c tests f block t after d none = go (cases_lt t (64 * (block + 1)))
  where
    go : (t < 64 * (block + 1)) ⊎ (64 * (block + 1) ≤ t) → 64 * (block + 1) ≤ t
    go (inl lt) =
        let few : t < length tests = detects_within c tests f t d in
        let place : 64 * block + (t - 64 * block) ≡ t = omega arith in
        absurd (none (t - 64 * block) (omega arith) (subst (DetectsAt c tests f) (sym place) d))
    go (inr h) = h

-- one more block in front
one_more : (c : List Statement) (tests : List Test) (f : Fault) (block : ℕ) (o : Outcome)
    (outcomes : List Outcome) → IsOutcome c tests f block o
    → IsFirstFrom c tests f (block + 1) (first_hit (block + 1) outcomes)
    → IsFirstFrom c tests f block (first_hit block (o ∷ outcomes))
one_more c tests f block (Hit k) outcomes h later = (
  h.1,
  λ earlier after lt d.
      let place : 64 * block + (earlier - 64 * block) ≡ earlier = omega arith in
      h.2 (earlier - 64 * block) (omega arith) (subst (DetectsAt c tests f) (sym place) d),
)
one_more c tests f block Clear outcomes h later = go (first_hit (block + 1) outcomes) later
  where
    go : (first : Option ℕ) → IsFirstFrom c tests f (block + 1) first
        → IsFirstFrom c tests f block first
    go None none = λ t after d. none t (in_block c tests f block t after d h) d
    go (Some t) first = (
      first.0,
      λ earlier after lt d. first.1 earlier (in_block c tests f block earlier after d h) lt d,
    )

module _ (m : Model) (c : List Statement) (tests : List Test) (table : Table)
    (well : IsWellFormed c) (arities : HaveArities c) (each : IsTrueTable m c tests table)
    (f : Fault) (class : ℕ) (of : IsClassOf m c f class) where
  outcome_of : (block : ℕ) → block < blocks (length tests)
      → IsOutcome c tests f block (table class block)
  outcome_of block lt = true_of_class m c tests f class block (table class block) well arities of
      (each class block (place_within (representatives m c) class of.0 of.3) lt)

  from_block : (count block : ℕ) → block + count ≡ blocks (length tests)
      → IsFirstFrom c tests f block (first_hit block (map (table class) (from_up block count)))
  from_block zero block e = λ t after d. let lt : t < length tests = detects_within c tests f t d in
      omega (arith, e, after, lt)
  from_block (suc count) block e =
      one_more c tests f block (table class block) (map (table class) (from_up (block + 1) count))
      (outcome_of block (omega (arith, e))) (from_block count (block + 1) (omega (arith, e)))

  least_first : IsFirst c tests f (least table (blocks (length tests)) class)
  least_first = go (least table (blocks (length tests)) class)
      (from_block (blocks (length tests)) 0 (omega arith))
    where
      go : (first : Option ℕ) → IsFirstFrom c tests f 0 first → IsFirst c tests f first
      go None none = λ t d. none t (omega arith) d
      go (Some t) first = (first.0, λ earlier lt d. first.1 earlier (omega arith) lt d)

pub least_is_first : (m : Model) (c : List Statement) (tests : List Test) (table : Table)
    → IsWellFormed c → HaveArities c → IsTrueTable m c tests table → LeastIsFirst m c tests table
least_is_first m c tests table well arities each f class of =
    least_first m c tests table well arities each f class of
