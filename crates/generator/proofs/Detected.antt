-- Lists of tests that detect some fault, and rounds that detect none.
use Rattle.std.proofs.Common.{◌≡◌, ◌<◌, ◌≤◌, ◌+◌, ◌*◌, ◌∙◌, ◌⊎◌, inl, inr, ℕ, zero, suc, Bool, true}
use Rattle.std.proofs.Common.{List, All, length, Option, Some, None, refl, sym, ap, subst, [], ◌∷◌}
use Rattle.std.{proofs.Common.{arith, is_none}, specs.Prelude.{Contains, slice_get}}
use Rattle.std.proofs.lemmas.List.{length-map, Sums.{count_by-le-length, length-filter}}
use Rattle.std.proofs.lemmas.Option.{get_or_from_slice_get, slice_get_within}
use Rattle.list_lemmas.proofs.{Members.{among, contained}, Places.{at_place, placed, within_place}}
use Rattle.bench_net.specs.{Circuit.{max_signals, max_sinks}, Statement.Statement}
use Rattle.fault_model.specs.{declared.Line.Line, declared.Model.Model, Fault.{Fault, faults}}
use Rattle.fault_model.specs.declared.Model.TheVariants.{StuckAt, Transition, TransitionPairs}
use Rattle.fault_model.specs.{Collapse.{IsClassOf, next, representatives}, Solution.Detects}
use Rattle.fault_model.specs.Detection.{DetectsAt, IsInitialized, LooksBack}
use Rattle.fault_model.proofs.Public.{faults_within, listed_model, own_class}
use Rattle.patterns.specs.Tests.{max_pieces}
use Rattle.block_sim.specs.{First.IsFirst, Parts.{BelongTogether, Parts}}
use Rattle.flat_circuit.proofs.Public.{representative_at}
use Rattle.workers.specs.Verdict.{AreClassFirsts}
use Rattle.generator.specs.Generated.{DetectsEarly, DetectsSome}
use Rattle.generator.specs.Keeping.{AreKept, AreNeeded, HasFirst, HasMark, IsMarked, in_pairs}
use Rattle.generator.proofs.KeptTests.{first_mark, wanted_alone, wanted_before, wanted_behind}

-- ---- the same rows detect the same

-- up to a test the first list has the rows of the second
abbrev pub SameRows : ℕ → List (List Bool) → List (List Bool) → Type 0
SameRows t xs ys = (k : ℕ) (row : List Bool) → k ≤ t → slice_get xs k ≡ Some row
    → slice_get ys k ≡ Some row

initialized_along : (c : List Statement) (xs ys : List (List Bool)) (l : Line) (b : Bool) (t : ℕ)
    → SameRows t xs ys → IsInitialized c xs l b t → IsInitialized c ys l b t
initialized_along c xs ys l b zero same is = is
initialized_along c xs ys l b (suc t) same is = (is.0, same t is.0 (omega arith) is.1, is.2)

looks_along : (c : List Statement) (xs ys : List (List Bool)) (m : Model) (l : Line) (b : Bool)
    (t : ℕ) → SameRows t xs ys → LooksBack c xs m l b t → LooksBack c ys m l b t
looks_along c xs ys StuckAt l b t same is = is
looks_along c xs ys Transition l b t same is = initialized_along c xs ys l b t same is
looks_along c xs ys TransitionPairs l b t same is =
    (is.0, initialized_along c xs ys l b t same is.1)

pub detects_along : (c : List Statement) (xs ys : List (List Bool)) (f : Fault) (t : ℕ)
    → SameRows t xs ys → DetectsAt c xs f t → DetectsAt c ys f t
detects_along c xs ys f t same is = (
  is.0,
  same t is.0 (omega arith) is.1,
  is.2,
  looks_along c xs ys f.model f.line f.stuck t same is.3,
)

-- a list that begins with the same two rows also detects a fault early
pub early_along : (m : Model) (c : List Statement) (xs ys : List (List Bool))
    → ((k : ℕ) (row : List Bool) → k < 2 → slice_get xs k ≡ Some row → slice_get ys k ≡ Some row)
    → DetectsEarly m c xs → DetectsEarly m c ys
early_along m c xs ys same (f, t, low, listed, is) = (
  f,
  t,
  low,
  listed,
  detects_along c xs ys f t (λ k row le e. same k row (omega (arith, le, low)) e) is,
)

pub early_some : (m : Model) (c : List Statement) (tests : List (List Bool))
    → DetectsEarly m c tests → DetectsSome m c tests
early_some m c tests (f, t, low, listed, is) = (f, t, listed, is)

-- ---- stuck-at faults: a row detects by itself

pub stuck_at : (c : List Statement) (rows : List (List Bool)) (f : Fault) (k : ℕ)
    (row : List Bool) → Contains (faults StuckAt c) f → slice_get rows k ≡ Some row
    → Detects c row f → DetectsAt c rows f k
stuck_at c rows f k row listed at detects =
    let model : f.model ≡ StuckAt = listed_model StuckAt c f listed in
    (row, at, detects, subst (λ m. LooksBack c rows m f.line f.stuck k) (sym model) tt)

-- a list with the same rows detects some fault too
pub some_among : (c : List Statement) (xs ys : List (List Bool))
    → ((k : ℕ) (row : List Bool) → slice_get xs k ≡ Some row
    → (j : ℕ) × (slice_get ys j ≡ Some row)) → DetectsSome StuckAt c xs → DetectsSome StuckAt c ys
some_among c xs ys same (f, t, listed, is) =
    let at = same t is.0 is.1 in
    (f, at.0, listed, stuck_at c ys f at.0 is.0 listed at.1 is.2)

-- ---- the kept tests of a round

-- a fault that depends on the test before as its list's model does
own_look : (m : Model) (c : List Statement) (tests : List (List Bool)) (f : Fault) (t : ℕ)
    → Contains (faults m c) f → LooksBack c tests f.model f.line f.stuck t
    → LooksBack c tests m f.line f.stuck t
own_look m c tests f t listed is =
    subst (λ x. LooksBack c tests x f.line f.stuck t) (listed_model m c f listed) is

its_look : (m : Model) (c : List Statement) (tests : List (List Bool)) (f : Fault) (t : ℕ)
    → Contains (faults m c) f → LooksBack c tests m f.line f.stuck t
    → LooksBack c tests f.model f.line f.stuck t
its_look m c tests f t listed is =
    subst (λ x. LooksBack c tests x f.line f.stuck t) (sym (listed_model m c f listed)) is

-- the first two kept tests detect a transition fault
early_pair : (m : Model) (c : List Statement) (tests new : List (List Bool)) (marks : List Bool)
    (room : ℕ) (old : List (List Bool)) → AreKept tests marks true room old new → length old ≡ 0
    → 2 ≤ room → (f : Fault) → Contains (faults m c) f → (t : ℕ) → IsMarked marks t
    → ((j : ℕ) → j < t → IsMarked marks j → ⊥) → DetectsAt c tests f t
    → IsInitialized c tests f.line f.stuck t
    → (IsInitialized c new f.line f.stuck 1 → LooksBack c new m f.line f.stuck 1)
    → DetectsEarly m c new
early_pair m c tests new marks room old are none big f listed zero e before is init looks =
    absurd init
early_pair m c tests new marks room old are none big f listed (suc t) e before is init looks =
    let within = slice_get_within tests (suc t) is.0 is.1 in
    let wanted = wanted_before marks t e before in
    let first = are.first none big t (omega (arith, within)) wanted in
    let second = are.second none big t (omega (arith, within)) wanted
    (wanted_behind marks true t e) in
    let next : t + 1 ≡ suc t = omega arith in (
      f,
      1,
      omega arith,
      listed,
      (
        is.0,
        second ∙ (ap (slice_get tests) next ∙ is.1),
        is.2,
        its_look m c new f 1 listed (looks (init.0, first ∙ init.1, init.2)),
      ),
    )

-- If nothing was kept before, the kept tests of a round that detects a fault detect a fault early.
pub kept_early : (m : Model) (c : List Statement) (tests new : List (List Bool))
    (marks : List Bool) (pairs : Bool) (room : ℕ) (old : List (List Bool)) → pairs ≡ in_pairs m
    → AreKept tests marks pairs room old new → length old ≡ 0 → 2 ≤ room → HasMark marks
    → ((t : ℕ) → IsMarked marks t
    → (f : Fault) × Contains (faults m c) f × DetectsAt c tests f t) → DetectsEarly m c new
kept_early m c tests new marks pairs room old own are none big has detects =
    let first = first_mark marks has in
    let f = detects first.0 first.1 in
    go m (subst (λ p. AreKept tests marks p room old new) own are) first.0 first.1 first.2 f.0 f.1
    f.2
  where
    go : (m : Model) → AreKept tests marks (in_pairs m) room old new → (t : ℕ)
        → IsMarked marks t → ((j : ℕ) → j < t → IsMarked marks j → ⊥) → (f : Fault)
        → Contains (faults m c) f → DetectsAt c tests f t → DetectsEarly m c new
    go StuckAt are t e before f listed is =
        let within = slice_get_within tests t is.0 is.1 in
        let same = are.first none big t within (wanted_alone marks t e before) in
        (f, 0, omega arith, listed, stuck_at c new f 0 is.0 listed (same ∙ is.1) is.2)
    go Transition are t e before f listed is =
        early_pair Transition c tests new marks room old are none big f listed t e before is
        (own_look Transition c tests f t listed is.3) (λ init. init)
    go TransitionPairs are t e before f listed is =
        early_pair TransitionPairs c tests new marks room old are none big f listed t e before is
        (own_look TransitionPairs c tests f t listed is.3).1 (λ init. ((0, refl), init))

-- ---- rounds over classes

-- there are as many classes as representatives
class_count : (job : Parts) → BelongTogether job
    → length job.classes.representative ≡ length (representatives job.list.model job.circuit)
class_count job b =
    sym (length-map job.classes.representative (slice_get (faults job.list.model job.circuit)))
    ∙ (ap (λ (l : List (Option Fault)). length l) b.classes.representative
    ∙ length-map {B = Option Fault} (representatives job.list.model job.circuit) Some)

-- at most as many as there may be pieces
pub few_classes : (job : Parts) → BelongTogether job
    → length job.classes.representative ≤ max_pieces
few_classes job b =
    let reps = class_count job b in
    let own = count_by-le-length (λ f. is_none (next job.circuit f))
    (faults job.list.model job.circuit) in
    let kept = length-filter (λ f. is_none (next job.circuit f))
    (faults job.list.model job.circuit) in
    let all = faults_within job.list.model job.circuit b.circuit in
    let low : 2 * (max_signals + max_sinks) ≤ max_pieces = omega arith in
    omega (arith, reps, own, kept, all, low)

-- the first test of a class of a list detects a fault
pub first_detects : (job : Parts) (classes : List ℕ) (firsts : List (Option ℕ))
    → BelongTogether job → All (λ class. class < length job.classes.representative) classes
    → AreClassFirsts job.list.model job.circuit job.tests.tests classes firsts → (t : ℕ)
    → HasFirst firsts t → (f : Fault) × Contains (faults job.list.model job.circuit) f
    × DetectsAt job.circuit job.tests.tests f t
first_detects job classes firsts b all are t (k, at) =
    let low = slice_get_within firsts k (Some t) at in
    let class = within_place classes k (omega (arith, low, are.count)) in
    let within : class.0 < length job.classes.representative =
    subst (λ n. n < length job.classes.representative)
    (get_or_from_slice_get classes k class.0 0 class.1)
    (all k 0 (slice_get_within classes k class.0 class.1)) in
    let fault = within_place job.classes.representative class.0 within in
    let r = representative_at job.list.model job.circuit job.classes class.0 fault.0 b.classes
    fault.1 in
    let is = are.first k class.0 r.0 (Some t) class.1
    (own_class job.list.model job.circuit r.0 class.0 r.2) at in (
      r.0,
      contained (faults job.list.model job.circuit) r.0
          (at_place (faults job.list.model job.circuit) fault.0 r.0 r.1),
      is.0,
    )

-- If nothing was kept before, the needed tests of a round in which a class has a first test detect
-- a fault early.
pub round_early : (job : Parts) (classes : List ℕ) (firsts : List (Option ℕ)) (marks : List Bool)
    (pairs : Bool) (room : ℕ) (old new : List (List Bool)) → BelongTogether job
    → All (λ class. class < length job.classes.representative) classes
    → AreClassFirsts job.list.model job.circuit job.tests.tests classes firsts
    → pairs ≡ in_pairs job.list.model → AreNeeded firsts marks
    → AreKept job.tests.tests marks pairs room old new → length old ≡ 0 → 2 ≤ room → (t : ℕ)
    → HasFirst firsts t → DetectsEarly job.list.model job.circuit new
round_early job classes firsts marks pairs room old new b all are own needed kept none big t has =
    kept_early job.list.model job.circuit job.tests.tests new marks pairs room old own kept none big
    (needed.some t has) (λ s e. first_detects job classes firsts b all are s (needed.first s e))

-- the class of a fault
fault_class : (job : Parts) → BelongTogether job → (f : Fault)
    → Contains (faults job.list.model job.circuit) f
    → (class : ℕ) × (class < length job.classes.representative)
    × IsClassOf job.list.model job.circuit f class
fault_class job b f listed =
    let all = faults job.list.model job.circuit in
    let i = placed all f (among all f listed) in
    let low = slice_get_within all i.0 f i.1 in
    let class = within_place job.classes.class_of i.0 (omega (arith, low, b.classes.count)) in
    let of : IsClassOf job.list.model job.circuit f class.0 =
    b.classes.class i.0 f class.0 i.1 class.1 in
    let within = slice_get_within (representatives job.list.model job.circuit) class.0 of.0 of.3 in
    let count = class_count job b in
    (class.0, omega (arith, within, count), of)

-- if there is no class, there is no fault
pub no_class : (job : Parts) → BelongTogether job → length job.classes.representative ≡ 0
    → (f : Fault) → Contains (faults job.list.model job.circuit) f → ⊥
no_class job b none f listed =
    let class = fault_class job b f listed in let low = class.1 in omega (arith, low, none)

-- if no class of a list with all classes has a first test, no test detects a fault
pub none_detects : (job : Parts) (classes : List ℕ) (firsts : List (Option ℕ)) → BelongTogether job
    → ((class : ℕ) → class < length job.classes.representative
    → (k : ℕ) × (slice_get classes k ≡ Some class))
    → AreClassFirsts job.list.model job.circuit job.tests.tests classes firsts
    → ((t : ℕ) → HasFirst firsts t → ⊥) → DetectsSome job.list.model job.circuit job.tests.tests → ⊥
none_detects job classes firsts b all are none (f, t, listed, detects) =
    let class = fault_class job b f listed in
    let at = all class.0 class.1 in
    let low = slice_get_within classes at.0 class.0 at.1 in
    let first = within_place firsts at.0 (omega (arith, low, are.count)) in
    go at.0 first.0 first.1 (are.first at.0 class.0 f first.0 at.1 class.2 first.1)
  where
    go : (k : ℕ) (x : Option ℕ) → slice_get firsts k ≡ Some x
        → IsFirst job.circuit job.tests.tests f x → ⊥
    go k None e is = is t detects
    go k (Some s) e is = none s (k, e)

-- some class of a list has a first test, or none has
pub some_first : (firsts : List (Option ℕ))
    → ((t : ℕ) × HasFirst firsts t) ⊎ ((t : ℕ) → HasFirst firsts t → ⊥)
some_first [] = inr (λ t h. let bad : None ≡ Some (Some t) = h.1 in absurd (cc))
some_first (Some t ∷ firsts) = inl (t, (0, refl))
some_first (None ∷ firsts) = go (some_first firsts)
  where
    go : ((t : ℕ) × HasFirst firsts t) ⊎ ((t : ℕ) → HasFirst firsts t → ⊥)
        → ((t : ℕ) × HasFirst (None ∷ firsts) t) ⊎ ((t : ℕ) → HasFirst (None ∷ firsts) t → ⊥)
    go (inl h) = inl (h.0, (suc h.1.0, h.1.1))
    go (inr none) = inr (λ t h. later none t h)
      where
        later : ((t : ℕ) → HasFirst firsts t → ⊥) → (t : ℕ) → HasFirst (None ∷ firsts) t → ⊥
        later none t (zero, e) = let bad : Some None ≡ Some (Some t) = e in absurd (cc)
        later none t (suc k, e) = none t (k, e)
