-- A run of one thread that sweeps over the blocks: what it knows after one sweep more, and the
-- outcomes that follow from it.
use Rattle.std.proofs.Common.{◌≡◌, ◌<◌, ◌≤◌, ◌+◌, ◌*◌, ◌/◌, ◌%◌, ℕ, List, Option, Some, None, refl}
use Rattle.std.proofs.Common.{sym, ap, ◌∙◌, subst, arith, length, get_or, Bool, true, false}
use Rattle.std.{proofs.Common.replicate, specs.Prelude.{slice_get, unwrap_or}}
use Rattle.std.proofs.lemmas.{Bool.false≢true, List.get_or-replicate}
use Rattle.std.proofs.lemmas.Option.{get_or_from_slice_get, slice_get-get_or, slice_get_within}
use Rattle.list_lemmas.proofs.Places.{from_mapped, within_place}
use Rattle.fault_model.specs.{Collapse.representatives, Detection.DetectsAt}
use Rattle.patterns.specs.declared.Outcome.TheVariants.{Clear, Hit}
use Rattle.flat_circuit.specs.declared.block_span.BlockSpan.{BlockSpan}
use Rattle.flat_circuit.specs.declared.origin.ListedClass.{ListedClass}
use Rattle.block_sim.specs.{First.IsTrueOutcome, Parts.{BelongTogether, Parts}}
use Rattle.block_sim.proofs.Public.{which_detect}
use Rattle.region_sim.specs.{ClassOrder.classes_of, Goals.{AreHits, HaveTaken, IsFirstHit}}
use Rattle.workers.specs.Swept.{AreSweptFirsts, IsPlaced, IsSweptFirst, IsSweptOf}
use Rattle.workers.{specs.declared.swept.Swept.Swept, proofs.TrueOutcomes.class_count}

-- ---- before the first block
pub none_below : (job : Parts) (class : ℕ) → BelongTogether job
    → class < length job.classes.representative → IsSweptFirst job 0 class None
none_below job class b lt =
    let x = within_place (representatives job.list.model job.circuit) class (omega (
      arith,
      lt,
      class_count job b,
    )) in
    (x.0, x.1, λ t low. absurd (omega (arith, low)))

-- an element of a list of one value
pub replicated : (n k : ℕ) (none first : Option ℕ) → slice_get (replicate n none) k ≡ Some first
    → k < n → first ≡ none
replicated n k none first e low = sym (get_or_from_slice_get (replicate n none) k first none e)
    ∙ get_or-replicate n k none none low

-- the row of a class, by its place
pub placed_row : (rows : List ListedClass) (k class : ℕ)
    → slice_get (classes_of rows) k ≡ Some class
    → (row : ListedClass) × (slice_get rows k ≡ Some row) × (row.class ≡ class)
placed_row rows k class e =
    let x = from_mapped (λ (row : ListedClass). row.class) rows k class e in (x.0, x.1, x.2)

-- ---- the outcomes of blocks that are swept
module _ (job : Parts) (class block bound : ℕ) where
  -- no test of them all detects the class
  pub clear_of_none : 64 * block + 64 ≤ bound → IsSweptFirst job bound class None
      → IsTrueOutcome job.list.model job.circuit job.tests.tests class block Clear
  clear_of_none le h = (h.0, h.1, λ k lt. h.2 (64 * block + k) (omega (arith, le, lt)))

  module _ (test : ℕ) (h : IsSweptFirst job bound class (Some test)) where
    -- the first one comes later
    pub clear_before : block < test / 64
        → IsTrueOutcome job.list.model job.circuit job.tests.tests class block Clear
    clear_before lt = (h.0, h.1, λ k low. h.2.2 (64 * block + k) (omega (arith, lt, low)))

    -- or is in the block
    pub hit_in : test / 64 ≡ block
        → IsTrueOutcome job.list.model job.circuit job.tests.tests class block (Hit (test % 64))
    hit_in at =
        let same : 64 * block + test % 64 ≡ test = omega (arith, at) in
        let d : DetectsAt job.circuit job.tests.tests h.0 test = h.2.1 in
        let listed = slice_get_within job.tests.tests test d.0 d.1 in (
          h.0,
          h.1,
          (
            omega (arith, listed, same),
            subst (DetectsAt job.circuit job.tests.tests h.0) (sym same) d,
            λ lower lt. h.2.2 (64 * block + lower) (omega (arith, lt, same)),
          ),
        )

-- ---- one sweep more
-- a first hit among the first tests is the first test, and the reverse
hit_is : (job : Parts) (class bound : ℕ) (first : Option ℕ) (hits : ℕ → Bool)
    → AreHits job class hits → IsSweptFirst job bound class first → IsFirstHit hits 0 bound first
hit_is job class bound (Some t) hits h first =
    let same : first.0 ≡ h.0 = ap (λ o. unwrap_or o first.0) (sym first.1 ∙ h.1) in (
      omega arith,
      (first.2).0,
      (h.2 t).1 (subst (λ r. DetectsAt job.circuit job.tests.tests r t) same (first.2).1),
      λ earlier up lt. off earlier (hits earlier) refl (λ d. (first.2).2 earlier lt
          (subst (λ r. DetectsAt job.circuit job.tests.tests r earlier) (sym same) d)),
    )
  where
    off : (n : ℕ) (b : Bool) → hits n ≡ b
        → (DetectsAt job.circuit job.tests.tests h.0 n → ⊥) → hits n ≡ false
    off n true e none = absurd (none ((h.2 n).0 e))
    off n false e none = e
hit_is job class bound None hits h first = λ t up lt. off t (hits t) refl (λ d. first.2 t lt
    (subst (λ r. DetectsAt job.circuit job.tests.tests r t)
    (ap (λ o. unwrap_or o h.0) (sym h.1 ∙ first.1)) d))
  where
    off : (n : ℕ) (b : Bool) → hits n ≡ b
        → (DetectsAt job.circuit job.tests.tests h.0 n → ⊥) → hits n ≡ false
    off n true e none = absurd (none ((h.2 n).0 e))
    off n false e none = e

first_is : (job : Parts) (class bound : ℕ) (first : Option ℕ) (hits : ℕ → Bool)
    → AreHits job class hits → IsFirstHit hits 0 bound first → IsSweptFirst job bound class first
first_is job class bound (Some t) hits h first = (
  h.0,
  h.1,
  (
    first.1,
    (h.2 t).0 first.2,
    λ earlier lt d. false≢true (sym (first.3 earlier (omega arith) lt) ∙ (h.2 earlier).1 d),
  ),
)
first_is job class bound None hits h first =
    (h.0, h.1, λ t lt d. false≢true (sym (first t (omega arith) lt) ∙ (h.2 t).1 d))

pub swept_more : (job : Parts) → BelongTogether job → (span : BlockSpan) (rows : List ListedClass)
    (firsts after : List (Option ℕ)) → AreSweptFirsts job (64 * span.first) rows firsts
    → HaveTaken IsFirstHit job span rows 0 (length rows) firsts after
    → AreSweptFirsts job (64 * (span.last + 1)) rows after
swept_more job b span rows firsts after known taken k row first at is_first =
    let t = taken k row (omega arith) (slice_get_within rows k row at) at in
    let both : Some t.1 ≡ Some first = sym t.3 ∙ is_first in
    let same : t.1 ≡ first = cc in
    let was = known k row t.0 at t.2 in
    let which = which_detect job.list.model job.circuit job.tests.tests row.class was.0
    b.circuit.well_formed was.1 in
    let hits = which.0 in
    let h : AreHits job row.class hits = (was.0, was.1, which.1) in
    let end : 64 * span.last + 64 ≡ 64 * (span.last + 1) = omega arith in
    subst (IsSweptFirst job (64 * (span.last + 1)) row.class) same
    (first_is job row.class (64 * (span.last + 1)) t.1 hits h
    (subst (λ n. IsFirstHit hits 0 n t.1) end
    (t.4 hits 0 h (omega arith) (hit_is job row.class (64 * span.first) t.0 hits h was))))

-- ---- what is known of a class, by its place
module _ (job : Parts) (s : Swept) (class place : ℕ) (are : IsSweptOf job s)
    (low : class < length job.classes.representative)
    (is : place ≡ get_or s.places.items class place) where
  stands : IsPlaced s.rows.items s.places.items class
  stands = are.placed class low

  same_place : get_or s.places.items class 0 ≡ place
  same_place = get_or_from_slice_get s.places.items class place 0
      (slice_get-get_or s.places.items class place (omega (arith, low, are.numbers))
      ∙ ap Some (sym is))

  row_is : slice_get s.rows.items place ≡ Some stands.0
  row_is = ap (slice_get s.rows.items) (sym same_place) ∙ stands.1

  pub place_low : place < length s.firsts.items
  place_low = omega (arith, slice_get_within s.rows.items place stands.0 row_is, are.count)

  pub known_at : (first : Option ℕ) → first ≡ get_or s.firsts.items place first
      → IsSweptFirst job (64 * s.blocks) class first
  known_at first e = subst (λ k. IsSweptFirst job (64 * s.blocks) k first) stands.2
      (are.found place stands.0 first row_is
      (slice_get-get_or s.firsts.items place first place_low ∙ ap Some (sym e)))
