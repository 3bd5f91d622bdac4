-- Every class has a true outcome on every block, and no second one.
use Rattle.std.proofs.Common.{◌≡◌, ◌≢◌, ◌⊎◌, ◌<◌, ◌≤◌, ◌+◌, ◌*◌, inl, inr, ℕ, zero, suc, Bool, true}
use Rattle.std.proofs.Common.{false, List, [], ◌∷◌, length, get_or, Option, Some, None, refl, sym}
use Rattle.std.{proofs.Common.{ap, ◌∙◌, subst, arith}, specs.Bool.Decides}
use Rattle.std.specs.Prelude.{slice_get, Contains, unwrap_or, is_none}
use Rattle.std.proofs.lemmas.Bool.{cases_lt}
use Rattle.bench_net.specs.{declared.Sink.Sink, Statement.{Name, Statement}, Circuit.IsWellFormed}
use Rattle.bench_net.specs.Scan.{names, observers}
use Rattle.list_lemmas.proofs.{Members.{contained, filtered_from}, Places.{at_place, within_place}}
use Rattle.fault_model.specs.{declared.Line.Line, declared.Model.Model, Fault.{Fault, faults}}
use Rattle.fault_model.specs.declared.Model.TheVariants.{StuckAt, Transition, TransitionPairs}
use Rattle.fault_model.specs.{Solution.{Test, Solves, Detects, shows}, Detection.DetectsAt}
use Rattle.fault_model.specs.Collapse.{next, representatives}
use Rattle.fault_model.specs.Detection.{name_on, HasBit, IsInitialized, IsSecondOfPair, LooksBack}
use Rattle.fault_model.proofs.Public.{carries, has_solutions, detection_is_of_any_solution, agree}
use Rattle.patterns.specs.declared.Outcome.{Outcome, TheVariants.{Clear, Hit}}
use Rattle.patterns.specs.{Tests.size_of, Least.Table}
use Rattle.block_sim.{specs.First.{IsOutcome, IsTrueOutcome, IsTrueTable}, proofs.Pairs.second_or}

abbrev Or : Type 0 → Type 0
Or P = P ⊎ (P → ⊥)

-- some element of a list has the property, or none has it
one_or_none : {X : Type 0} (P : X → Type 0) (xs : List X) → ((x : X) → Or (P x))
    → Or ((x : X) × Contains xs x × P x)
one_or_none P [] d = inr (λ r. absurd (let l = r.1.1 in omega (arith, l)))
one_or_none P (y ∷ ys) d = go (d y) (one_or_none P ys d)
  where
    later : ((x : _) × Contains ys x × P x → ⊥) → (P y → ⊥) → (x : _) × Contains (y ∷ ys) x × P x
        → ⊥
    later none not r = by_index r.1.0 r.1.1 r.1.2
      where
        by_index : (k : ℕ) → k < suc (length ys) → get_or (y ∷ ys) k r.0 ≡ r.0 → ⊥
        by_index zero lt e = not (subst P (sym e) r.2)
        by_index (suc k) lt e = none (r.0, (k, omega (arith, lt), e), r.2)

    go : Or (P y) → Or ((x : _) × Contains ys x × P x) → Or ((x : _) × Contains (y ∷ ys) x × P x)
    go (inl p) rest = inl (y, (0, omega arith, refl), p)
    go (inr not) (inl r) = inl (r.0, (suc r.1.0, (let l = r.1.1 in omega (arith, l)), r.1.2), r.2)
    go (inr not) (inr none) = inr (later none not)

same_or : (a b : Bool) → Or (a ≡ b)
same_or true true = inl refl
same_or true false = inr (λ e. absurd (cc))
same_or false true = inr (λ e. absurd (cc))
same_or false false = inl refl

differ_or : (a b : Bool) → Or (a ≢ b)
differ_or a b = go (same_or a b)
  where
    go : Or (a ≡ b) → Or (a ≢ b)
    go (inl e) = inr (λ n. n e)
    go (inr n) = inl n

module _ (c : List Statement) (tests : List Test) (well : IsWellFormed c) where
  detects_or : (t : Test) (f : Fault) → Or (Detects c t f)
  detects_or t f = go (one_or_none (λ o. shows None v.0 o ≢ shows (Some f) w.0 o) (observers c)
      (λ o. differ_or (shows None v.0 o) (shows (Some f) w.0 o)))
    where
      v : (v : Name → Bool) × Solves c t None v
      v = has_solutions c well t None

      w : (w : Name → Bool) × Solves c t (Some f) w
      w = has_solutions c well t (Some f)

      go : Or ((o : Sink × Name) × Contains (observers c) o
          × (shows None v.0 o ≢ shows (Some f) w.0 o)) → Or (Detects c t f)
      go (inl o) = inl ((detection_is_of_any_solution c well f t v.0 w.0 v.1 w.1).1 o)
      go (inr n) = inr (λ d. n ((detection_is_of_any_solution c well f t v.0 w.0 v.1 w.1).0 d))

  -- the unique fault-free solution decides whether a line has a bit
  bit_or : (t : Test) (l : Line) (n : Name) (b : Bool) → name_on c l ≡ Some n → Contains (names c) n
      → Or (HasBit c t l b)
  bit_or t l n b at named = go (same_or (v.0 n) b)
    where
      v : (v : Name → Bool) × Solves c t None v
      v = has_solutions c well t None

      go : Or (v.0 n ≡ b) → Or (HasBit c t l b)
      go (inl e) = inl (v.0, n, v.1, at, e)
      go (inr not) = inr (λ h.
          let same : h.1 ≡ n = ap (λ o. unwrap_or o n) (sym h.3 ∙ at) in
          not (agree c t None v.0 h.0 well v.1 h.2 n named ∙ subst (λ x. h.0 x ≡ b) same h.4))

  initialized_or : (l : Line) (n : Name) (b : Bool) (t : ℕ) → name_on c l ≡ Some n
      → Contains (names c) n → Or (IsInitialized c tests l b t)
  initialized_or l n b zero at named = inr (λ no. no)
  initialized_or l n b (suc t) at named = go (slice_get tests t) refl
    where
      go : (o : Option Test) → slice_get tests t ≡ o → Or (IsInitialized c tests l b (suc t))
      go None e = inr (λ h. let bad : None ≡ Some h.0 = sym e ∙ h.1 in absurd (cc))
      go (Some before) e = pick (bit_or before l n b at named)
        where
          pick : Or (HasBit c before l b) → Or (IsInitialized c tests l b (suc t))
          pick (inl h) = inl (before, e, h)
          pick (inr not) = inr (λ h. let same : h.0 ≡ before = ap (λ o. unwrap_or o before) (sym h.1
              ∙ e) in not (subst (λ x. HasBit c x l b) same h.2))

  looks_or : (m : Model) (l : Line) (n : Name) (b : Bool) (t : ℕ) → name_on c l ≡ Some n
      → Contains (names c) n → Or (LooksBack c tests m l b t)
  looks_or StuckAt l n b t at named = inl tt
  looks_or Transition l n b t at named = initialized_or l n b t at named
  looks_or TransitionPairs l n b t at named = pick (second_or t) (initialized_or l n b t at named)
    where
      pick : Or (IsSecondOfPair t) → Or (IsInitialized c tests l b t)
          → Or (LooksBack c tests TransitionPairs l b t)
      pick (inl second) (inl before) = inl (second, before)
      pick (inl second) (inr none) = inr (λ h. none h.1)
      pick (inr none) before = inr (λ h. none h.0)

  at_or : (m : Model) (f : Fault) (t : ℕ) → Contains (faults m c) f → Or (DetectsAt c tests f t)
  at_or m f t listed = go (slice_get tests t) refl
    where
      line : (n : Name) × (name_on c f.line ≡ Some n) × Contains (names c) n
      line = carries m c f well listed

      go : (o : Option Test) → slice_get tests t ≡ o → Or (DetectsAt c tests f t)
      go None e = inr (λ d. let bad : None ≡ Some d.0 = sym e ∙ d.1 in absurd (cc))
      go (Some test) e = pick (detects_or test f)
          (looks_or f.model f.line line.0 f.stuck t line.1 line.2)
        where
          pick : Or (Detects c test f) → Or (LooksBack c tests f.model f.line f.stuck t)
              → Or (DetectsAt c tests f t)
          pick (inl d) (inl back) = inl (test, e, d, back)
          pick (inl d) (inr none) = inr (λ x. none x.3)
          pick (inr n) back = inr (λ x. let same : x.0 ≡ test = ap (λ o. unwrap_or o test) (sym x.1
              ∙ e) in n (subst (λ y. Detects c y f) same x.2))

  outcome_from : (m : Model) (f : Fault) (b n k : ℕ) → Contains (faults m c) f
      → k + n ≡ size_of (length tests) b
      → ((lower : ℕ) → lower < k → DetectsAt c tests f (64 * b + lower) → ⊥)
      → (o : Outcome) × IsOutcome c tests f b o
  outcome_from m f b zero k listed e none = (Clear, λ j lt d. none j (omega (arith, e, lt)) d)
  outcome_from m f b (suc n) k listed e none =
      go (at_or m f (64 * b + k) listed) (λ not. outcome_from m f b n (k + 1) listed (omega (
        arith,
        e,
      )) (more not))
    where
      more : (DetectsAt c tests f (64 * b + k) → ⊥) → (lower : ℕ) → lower < k + 1
          → DetectsAt c tests f (64 * b + lower) → ⊥
      more not lower lt d = pick (cases_lt lower k)
        where
          pick : (lower < k) ⊎ (k ≤ lower) → ⊥
          pick (inl l) = none lower l d
          pick (inr l) = let q : lower ≡ k = omega (arith, lt, l) in
              not (subst (λ j. DetectsAt c tests f (64 * b + j)) q d)

      go : Or (DetectsAt c tests f (64 * b + k)) → ((DetectsAt c tests f (64 * b + k) → ⊥)
          → (o : Outcome) × IsOutcome c tests f b o) → (o : Outcome) × IsOutcome c tests f b o
      go (inl d) later = (Hit k, (omega (arith, e), d, none))
      go (inr not) later = later not

  -- a class has a representative, and that is a fault of the list
  class_listed : (m : Model) (r : Fault) (class : ℕ)
      → slice_get (representatives m c) class ≡ Some r → Contains (faults m c) r
  class_listed m r class at =
      contained (faults m c) r (filtered_from (λ f. is_none (next c f)) (faults m c) r
      (at_place (representatives m c) class r at)).0

  abbrev class_outcome : (m : Model) (class block : ℕ) → (o : Option Fault)
      → slice_get (representatives m c) class ≡ o → Outcome
  class_outcome m class block None at = Clear
  class_outcome m class block (Some r) at =
      (outcome_from m r block (size_of (length tests) block) 0 (class_listed m r class at)
      (omega arith) (λ lower lt d. absurd (omega (arith, lt)))).0

  class_true : (m : Model) (class block : ℕ) (r : Fault) (o : Option Fault)
      (at : slice_get (representatives m c) class ≡ o)
      → slice_get (representatives m c) class ≡ Some r
      → IsTrueOutcome m c tests class block (class_outcome m class block o at)
  class_true m class block r None at is = let bad : None ≡ Some r = sym at ∙ is in absurd (cc)
  class_true m class block r (Some f) at is = (
    f,
    at,
    (outcome_from m f block (size_of (length tests) block) 0 (class_listed m f class at)
        (omega arith) (λ lower lt d. absurd (omega (arith, lt)))).1,
  )

-- the tests that detect the representative of a class
pub which_detect : (m : Model) (c : List Statement) (tests : List Test) (class : ℕ) (r : Fault)
    → IsWellFormed c → slice_get (representatives m c) class ≡ Some r
    → (detects : ℕ → Bool) × ((t : ℕ) → Decides (detects t) (DetectsAt c tests r t))
which_detect m c tests class r well at = (λ t. detection (or t), λ t. decided (or t))
  where
    or : (t : ℕ) → Or (DetectsAt c tests r t)
    or t = at_or c tests well m r t (class_listed c tests well m r class at)

    detection : {P : Type 0} → Or P → Bool
    detection (inl p) = true
    detection (inr not) = false

    decided : {P : Type 0} (d : Or P) → Decides (detection d) P
    decided (inl p) = (λ e. p, λ q. refl)
    decided (inr not) = (λ e. absurd (cc), λ q. absurd (not q))

pub true_table : (m : Model) (c : List Statement) (tests : List Test) → IsWellFormed c
    → (table : Table) × IsTrueTable m c tests table
true_table m c tests well = (
  λ class block. class_outcome c tests well m class block (slice_get (representatives m c) class)
      refl,
  λ class block lt few.
      let r = within_place (representatives m c) class lt in
      class_true c tests well m class block r.0 (slice_get (representatives m c) class) refl r.1,
)

-- the first test of a block that detects a fault is unique
one_of_fault : (c : List Statement) (tests : List Test) (f : Fault) (block : ℕ) (o p : Outcome)
    → IsOutcome c tests f block o → IsOutcome c tests f block p → o ≡ p
one_of_fault c tests f block Clear Clear x y = refl
one_of_fault c tests f block Clear (Hit k) x y = absurd (x k y.0 y.1)
one_of_fault c tests f block (Hit k) Clear x y = absurd (y k x.0 x.1)
one_of_fault c tests f block (Hit k) (Hit j) x y = go (cases_lt k j) (cases_lt j k)
  where
    go : (k < j) ⊎ (j ≤ k) → (j < k) ⊎ (k ≤ j) → Hit k ≡ Hit j
    go (inl lt) other = absurd (y.2 k lt x.1)
    go (inr le) (inl lt) = absurd (x.2 j lt y.1)
    go (inr le) (inr ge) = ap Hit (let q : k ≡ j = omega arith in q)

pub one_outcome : (m : Model) (c : List Statement) (tests : List Test) (class block : ℕ)
    (o p : Outcome) → IsTrueOutcome m c tests class block o → IsTrueOutcome m c tests class block p
    → o ≡ p
one_outcome m c tests class block o p x y =
    let same : x.0 ≡ y.0 = ap (λ z. unwrap_or z x.0) (sym x.1 ∙ y.1) in
    one_of_fault c tests y.0 block o p (subst (λ f. IsOutcome c tests f block o) same x.2) y.2
