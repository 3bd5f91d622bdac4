-- Parts are a partition, and the verdicts of runs over them.
use Rattle.std.proofs.Common.{◌≡◌, ◌<◌, ◌≤◌, ◌+◌, ◌*◌, ◌%◌, ◌^◌, inl, inr, ℕ, Bool, zero, suc, List}
use Rattle.std.proofs.Common.{[], ◌∷◌, ◌++◌, map, take, drop, length, get_or, All, Option, Some}
use Rattle.std.proofs.Common.{None, refl, sym, ap, ◌∙◌, subst, arith, replicate, add-one}
use Rattle.std.{specs.Prelude.slice_get, proofs.Math.Seq.take-add}
use Rattle.std.proofs.Math.Nat.{mod-lt, mul_comm, mul-le-mul_left, suc-mul}
use Rattle.std.proofs.lemmas.{Grind.div_ceil_times, List.{length-map, take_all}}
use Rattle.std.proofs.lemmas.Option.{get_or_from_slice_get, slice_get-get_or, slice_get_within}
use Rattle.std.proofs.lemmas.List.Elements.{All-drop, All-take}
use Rattle.flat_circuit.specs.Regions.{IsStemOfClass}
use Rattle.flat_circuit.proofs.Public.{class_has_stem, one_class_stem}
use Rattle.patterns.specs.Tests.{blocks}
use Rattle.list_lemmas.proofs.Places.{from_mapped}
use Rattle.fault_model.specs.{Fault.Fault, Collapse.IsClassOf}
use Rattle.block_sim.specs.Parts.{Parts, BelongTogether}
use Rattle.workers.specs.{Settling.shape_for, Verdict.{AreClassFirsts, blocks_after}}
use Rattle.workers.proofs.Public.{class_count, class_in}
use Rattle.region_runs.specs.{declared.parts.PartVerdict.PartVerdict, Cut.IsCutOf}
use Rattle.region_runs.specs.declared.parts.PartVerdict.TheVariants.{First, OtherPart}
use Rattle.region_runs.specs.Part.{AreClassVerdicts, ArePartOf, ArePartVerdicts, IsClassVerdict}
use Rattle.region_runs.specs.Part.{IsInOnePart, IsOfPart, IsPartVerdict, stretch_at, stretch_size}
use Rattle.region_runs.specs.Tasks.{AreKept, Task}
use Rattle.region_sim.specs.Goals.{AreHits}

-- the part of a class is the part of its one stem
pub part_of_stem : (job : Parts) (parts part class stem : ℕ)
    → IsStemOfClass job.list.model job.circuit class stem → IsOfPart job parts part class
    → part ≡ stem % parts
part_of_stem job parts part class stem at of = of.2
    ∙ ap (λ n. n % parts) (one_class_stem job.list.model job.circuit class of.0 stem of.1 at)

-- each class is in one part
pub one_part : (job : Parts) (parts class : ℕ) → BelongTogether job → 0 < parts
    → class < length job.classes.representative → IsInOnePart job parts class
one_part job parts class b some lt =
    let stem = class_has_stem job.list.model job.circuit b.circuit.well_formed class (omega (
      arith,
      lt,
      class_count job b,
    )) in (
      stem.0 % parts,
      mod-lt stem.0 some,
      (stem.0, stem.2, refl),
      λ other of. part_of_stem job parts other class stem.0 stem.2 of,
    )

-- each is a class of the job
pub part_within : (job : Parts) (parts part : ℕ) (classes : List ℕ)
    → ArePartOf job parts part classes
    → All (λ class. class < length job.classes.representative) classes
part_within job parts part classes are k d lt =
    (are.each k (get_or classes k d) (slice_get-get_or classes k d lt)).0

-- at first no class has one
pub verdict_none : (count : ℕ) (classes : List ℕ) (firsts : List (Option ℕ))
    (verdicts : List PartVerdict) → verdicts ≡ replicate count OtherPart
    → AreClassVerdicts count classes firsts 0 verdicts
verdict_none count classes firsts verdicts e =
    subst (AreClassVerdicts count classes firsts 0) (sym e) (record {
      long = all_long count;
      each = λ class lt. inr ((λ k low. absurd (omega (arith, low))), at count class lt);
    })
  where
    all_long : (n : ℕ) → length (replicate n OtherPart) ≡ n
    all_long zero = refl
    all_long (suc n) = ap suc (all_long n)

    at : (n class : ℕ) → class < n → slice_get (replicate n OtherPart) class ≡ Some OtherPart
    at zero class lt = absurd (omega (arith, lt))
    at (suc n) zero lt = refl
    at (suc n) (suc class) lt = at n class (omega (arith, lt))

-- verdicts by class are so under other names of the lists and of their number
pub verdicts_under : (m n : ℕ) (xs ys : List ℕ) (fs gs : List (Option ℕ)) (table : List PartVerdict)
    → m ≡ n → xs ≡ ys → fs ≡ gs → AreClassVerdicts m xs fs (length xs) table
    → AreClassVerdicts n ys gs (length ys) table
verdicts_under m n xs ys fs gs table a b c are =
    subst (λ k. AreClassVerdicts k ys gs (length ys) table) a
    (subst (λ l. AreClassVerdicts m l gs (length l) table) b
    (subst (λ l. AreClassVerdicts m xs l (length xs) table) c are))

-- the verdicts of a part's run
pub part_verdicts : (job : Parts) (parts part : ℕ) (classes : List ℕ) (firsts : List (Option ℕ))
    (table verdicts : List PartVerdict) → BelongTogether job → ArePartOf job parts part classes
    → AreClassFirsts job.list.model job.circuit job.tests.tests classes firsts
    → AreClassVerdicts (length job.classes.representative) classes firsts (length classes) table
    → verdicts ≡ map (λ class. get_or table class OtherPart) job.classes.class_of
    → ArePartVerdicts job parts part verdicts
part_verdicts job parts part classes firsts table verdicts b own found by is = record {
  count = ap (λ (l : List PartVerdict). length l) is ∙ length-map job.classes.class_of g
      ∙ b.classes.count;
  each = λ i class f verdict at e v.
      let of : IsClassOf job.list.model job.circuit f class = b.classes.class i f class at e in
      let lt : class < count = class_in job (shape_for job 1) i class b (record {
        classes = refl;
        tests = refl;
      }) e in
      let x = from_mapped g job.classes.class_of i verdict
      (ap (λ (l : List PartVerdict). slice_get l i) (sym is) ∙ v) in
      let same : class ≡ x.0 = let q = sym e ∙ x.1 in cc in
      let own : verdict ≡ get_or table class OtherPart = sym x.2 ∙ ap g (sym same) in
      subst (IsPartVerdict job parts part class f) (sym own) (go f class lt of (by.each class lt));
}
  where
    count : ℕ
    count = length job.classes.representative

    g : ℕ → PartVerdict
    g class = get_or table class OtherPart

    go : (f : Fault) (class : ℕ) → class < count → IsClassOf job.list.model job.circuit f class
        → IsClassVerdict classes firsts (length classes) class (slice_get table class)
        → IsPartVerdict job parts part class f (get_or table class OtherPart)
    go f class lt of (inl x) = subst (IsPartVerdict job parts part class f)
        (sym (get_or_from_slice_get table class (First x.1) OtherPart x.5))
        ((own.each x.0 class x.3).1, found.first x.0 class f x.1 x.3 of x.4)
    go f class lt of (inr x) = subst (IsPartVerdict job parts part class f)
        (sym (get_or_from_slice_get table class OtherPart OtherPart x.1))
        (λ here. let k = own.all class lt here in
        x.0 k.0 (slice_get_within classes k.0 class k.1) k.1)

-- what is kept of two lists of classes is kept of both together
append_kept : {K : Type 0} (task : Task K) (xs ys : List ℕ) (f g : List K) → AreKept task xs f
    → AreKept task ys g → AreKept task (xs ++ ys) (f ++ g)
append_kept {K} task [] ys [] g a b = b
append_kept {K} task [] ys (y ∷ f) g a b = absurd (omega (arith, a.count))
append_kept {K} task (x ∷ xs) ys [] g a b = absurd (omega (arith, a.count))
append_kept {K} task (x ∷ xs) ys (y ∷ f) g a b =
    let rest = append_kept task xs ys f g (record {
      count = omega (arith, a.count);
      each = λ hits k. a.each hits (suc k);
    }) b in
    record { count = ap suc rest.count; each = at rest }
  where
    at : AreKept task (xs ++ ys) (f ++ g) → (hits : ℕ → Bool) (k class : ℕ) (one : K)
        → slice_get (x ∷ (xs ++ ys)) k ≡ Some class → slice_get (y ∷ (f ++ g)) k ≡ Some one
        → AreHits task.job class hits
        → task.means hits (64 * task.from) (64 * blocks (length task.job.tests.tests)) one
    at rest hits zero class one e v h = a.each hits 0 class one e v h
    at rest hits (suc k) class one e v h = rest.each hits k class one e v h

-- what is kept of the classes up to the start of a stretch
abbrev pub AreKeptBelow : {K : Type 0} → Task K → List ℕ → ℕ → List K → Type 0
AreKeptBelow task classes start kept = AreKept task (take start classes) kept

pub kept_none : {K : Type 0} (task : Task K) (classes : List ℕ) → AreKeptBelow task classes 0 []
kept_none {K} task classes = record {
  count = refl;
  each = λ hits k class one e at h. let bad : None ≡ Some class = e in absurd (cc);
}

-- one stretch more
pub kept_more : {K : Type 0} (task : Task K) (classes : List ℕ) (size stretch : ℕ)
    (kept more : List K) → AreKeptBelow task classes (stretch * size) kept
    → AreKept task (stretch_at size classes stretch) more
    → AreKeptBelow task classes ((stretch + 1) * size) (kept ++ more)
kept_more {K} task classes size stretch kept more was found =
    subst (λ l. AreKept task l (kept ++ more)) joined
    (append_kept task (take (stretch * size) classes)
    (stretch_at size classes stretch) kept more was found)
  where
    joined : take (stretch * size) classes ++ stretch_at size classes stretch
        ≡ take ((stretch + 1) * size) classes
    joined = sym (take-add (stretch * size) size classes)
        ∙ ap (λ n. take n classes) (let next = suc-mul stretch size in
        let same : stretch + 1 ≡ suc stretch = add-one stretch in
        omega (arith, next, ap (λ n. n * size) same))

-- all stretches have all classes
pub kept_all : {K : Type 0} (task : Task K) (stretches size : ℕ) (classes : List ℕ) (kept : List K)
    → IsCutOf task.job task.from stretches size classes
    → AreKeptBelow task classes (stretches * size) kept → AreKept task classes kept
kept_all {K} task stretches size classes kept cut found =
    subst (λ l. AreKept task l kept) (take_all (stretches * size) classes long) found
  where
    long : length classes ≤ stretches * size
    long =
        let high = (div_ceil_times (length classes) stretches cut.some).0 in
        let same : stretches * size ≡ stretch_size (length classes) stretches * stretches =
        mul_comm stretches size ∙ ap (λ k. k * stretches) cut.size_is in
        omega (arith, high, same)

-- a stretch of classes of the job has such classes
pub stretch_within : (job : Parts) (size stretch : ℕ) (classes : List ℕ)
    → All (λ class. class < length job.classes.representative) classes
    → All (λ class. class < length job.classes.representative) (stretch_at size classes stretch)
stretch_within job size stretch classes are =
    All-take (λ class. class < length job.classes.representative) size (drop
    (stretch * size) classes)
    (All-drop (λ class. class < length job.classes.representative) (stretch * size) classes are)

-- each verdict of a part that is not of another part is the first test of a class of its list
pub part_verdict_there : (job : Parts) (classes : List ℕ) (firsts : List (Option ℕ))
    (table verdicts : List PartVerdict) → BelongTogether job
    → AreClassVerdicts (length job.classes.representative) classes firsts (length classes) table
    → verdicts ≡ map (λ class. get_or table class OtherPart) job.classes.class_of
    → (i class : ℕ) (first : Option ℕ) → slice_get job.classes.class_of i ≡ Some class
    → slice_get verdicts i ≡ Some (First first)
    → (k : ℕ) × (slice_get classes k ≡ Some class) × (slice_get firsts k ≡ Some first)
part_verdict_there job classes firsts table verdicts b by is i class first at v =
    let x = from_mapped g job.classes.class_of i (First first)
    (ap (λ (l : List PartVerdict). slice_get l i) (sym is) ∙ v) in
    let both : Some x.0 ≡ Some class = sym x.1 ∙ at in
    let one : x.0 ≡ class = cc in
    go (ap g (sym one) ∙ x.2) (by.each class lt)
  where
    g : ℕ → PartVerdict
    g class = get_or table class OtherPart

    lt : class < length job.classes.representative
    lt = class_in job (shape_for job 1) i class b (record { classes = refl; tests = refl }) at

    go : g class ≡ First first
        → IsClassVerdict classes firsts (length classes) class (slice_get table class)
        → (k : ℕ) × (slice_get classes k ≡ Some class) × (slice_get firsts k ≡ Some first)
    go e (inl x) =
        let own = get_or_from_slice_get table class (First x.1) OtherPart x.5 in
        let same : First x.1 ≡ First first = sym own ∙ e in
        let first_is : x.1 ≡ first = cc in
        (x.0, x.3, x.4 ∙ ap Some first_is)
    go e (inr x) =
        let own = get_or_from_slice_get table class OtherPart OtherPart x.1 in
        let bad : OtherPart ≡ First first = sym own ∙ e in
        absurd (cc)

-- the pieces of a class
behind_le : (n : ℕ) (first : Option ℕ) → blocks_after n first ≤ n
behind_le n None = omega arith
behind_le n (Some test) = omega arith

pub behind_within : (n r : ℕ) (first : Option ℕ) → r ≡ blocks_after n first → r ≤ n
behind_within n r first is = omega (arith, is, behind_le n first)

-- a product of two numbers of 32 bits has 64
pub small_product : (a b : ℕ) → a < 2 ^ 32 → b < 2 ^ 32 → a * b < 2 ^ 64
small_product a b small few =
    let le : b ≤ 2 ^ 32 = omega (arith, few) in
    let more : a * b ≤ a * 2 ^ 32 = mul-le-mul_left a le in
    omega (arith, small, more)
