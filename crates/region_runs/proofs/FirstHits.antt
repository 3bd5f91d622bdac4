-- What is kept of classes after the blocks of a span more, and the first tests of classes.
use Rattle.std.proofs.Common.{◌≡◌, ◌<◌, ◌≤◌, ◌+◌, ◌-◌, ◌*◌, ◌/◌, ◌⊎◌, inl, inr, ℕ, zero, suc, Bool}
use Rattle.std.proofs.Common.{true, false, List, All, Option, Some, None, length, refl, sym, ap}
use Rattle.std.{proofs.Common.{◌∙◌, subst, arith}, specs.Prelude.{slice_get, unwrap_or}}
use Rattle.std.{specs.Option.option_map, proofs.lemmas.Bool.{cases_lt, false≢true}}
use Rattle.std.proofs.lemmas.Option.{get_or_from_slice_get, slice_get-map, slice_get_within}
use Rattle.list_lemmas.proofs.Places.{from_mapped, place_within}
use Rattle.fault_model.specs.Detection.{DetectsAt}
use Rattle.patterns.specs.{Least.{Table, least}, Tests.blocks, declared.Outcome.Outcome}
use Rattle.patterns.specs.declared.Outcome.TheVariants.{Clear, Hit}
use Rattle.flat_circuit.specs.{declared.block_span.BlockSpan.BlockSpan, BlockSpans.one_block}
use Rattle.flat_circuit.specs.declared.origin.ListedClass.{ListedClass}
use Rattle.block_sim.specs.{First.{IsFirst, IsFirstOn, IsTrueOutcome}, Listed.IsListed}
use Rattle.block_sim.specs.Parts.{BelongTogether, Parts}
use Rattle.block_sim.proofs.Public.{least_is_first, true_table}
use Rattle.region_sim.specs.ClassOrder.{classes_of}
use Rattle.region_sim.specs.Goals.{AreHits, HasTakenAt, HaveTaken, IsFirstHit}
use Rattle.workers.specs.{Schedule.IsTableOf, Verdict.AreClassFirsts}
use Rattle.workers.proofs.Public.{class_count}
use Rattle.region_runs.specs.StretchRuns.{AreEarlier, AreKeptUpTo}
use Rattle.region_runs.specs.Tasks.{AreKept, IsOpenAtFirst, Task, first_tests}
use Rattle.region_runs.proofs.StretchRuns.{done_high, done_low, hit_at, least_kept, least_more}
use Rattle.region_runs.proofs.StretchRuns.{listed_class, one_count, some_hits}

-- ---- rows and classes
pub class_there : (rows : List ListedClass) (k : ℕ) (row : ListedClass)
    → slice_get rows k ≡ Some row → slice_get (classes_of rows) k ≡ Some row.class
class_there rows k row e = slice_get-map (λ (at : ListedClass). at.class) rows k ∙ ap
    (option_map (λ (at : ListedClass). at.class)) e

-- each row stands for a class of the job
pub row_listed : (job : Parts) (rows : List ListedClass) (k : ℕ) (row : ListedClass)
    → All (IsListed job) rows → slice_get rows k ≡ Some row → IsListed job row
row_listed job rows k row all e = subst (IsListed job) (get_or_from_slice_get rows k row row e)
    (all k row (slice_get_within rows k row e))

-- ---- there is one first hit
pub one_first : (hits : ℕ → Bool) (low high : ℕ) (first other : Option ℕ)
    → IsFirstHit hits low high first → IsFirstHit hits low high other → first ≡ other
one_first hits low high None None a b = refl
one_first hits low high (Some t) None a b = absurd (false≢true (sym (b t a.0 a.1) ∙ a.2))
one_first hits low high None (Some t) a b = absurd (false≢true (sym (a t b.0 b.1) ∙ b.2))
one_first hits low high (Some t) (Some s) a b = go (cases_lt t s) (cases_lt s t)
  where
    go : (t < s) ⊎ (s ≤ t) → (s < t) ⊎ (t ≤ s) → Some t ≡ Some s
    go (inl lt) y = absurd (false≢true (sym (b.3 t a.0 lt) ∙ a.2))
    go (inr x) (inl lt) = absurd (false≢true (sym (a.3 s b.0 lt) ∙ b.2))
    go (inr x) (inr y) = ap Some (omega (arith, x, y))

-- ---- the least test of a class in a true table
module _ (job : Parts) (b : BelongTogether job) (class : ℕ)
    (lt : class < length job.classes.representative) where
  module _ (table : Table) (is : IsTableOf job table) (hits : ℕ → Bool)
      (h : AreHits job class hits) where
    -- a test of a block that isn't its first hit
    miss : (block t : ℕ) → 64 * block ≤ t → t < 64 * block + 64
        → ((k : ℕ) → 64 * block + k ≡ t → t < length job.tests.tests
        → DetectsAt job.circuit job.tests.tests h.0 t → ⊥) → hits t ≡ false
    miss block t low high none = go (hits t) refl
      where
        go : (v : Bool) → hits t ≡ v → hits t ≡ false
        go false e = e
        go true e =
            let d = (h.2 t).0 e in
            absurd (none (t - 64 * block) (omega (arith, low))
            (place_within job.tests.tests t d.0 d.1) d)

    block_more : (block : ℕ) → block < blocks (length job.tests.tests) → (o : Outcome)
        → IsTrueOutcome job.list.model job.circuit job.tests.tests class block o
        → IsFirstHit hits 0 (64 * block) None → IsFirstHit hits 0 (64 * block + 64) (hit_at block o)
    block_more block low Clear true_is none = λ t up below. go t below (cases_lt t (64 * block))
      where
        same : true_is.0 ≡ h.0
        same = ap (λ o. unwrap_or o true_is.0) (sym true_is.1 ∙ h.1)

        go : (t : ℕ) → t < 64 * block + 64 → (t < 64 * block) ⊎ (64 * block ≤ t) → hits t ≡ false
        go t below (inl before) = none t (omega arith) before
        go t below (inr after) = miss block t after below (λ k at listed d.
            true_is.2 k (omega (arith, at, listed, below))
            (subst (λ n. DetectsAt job.circuit job.tests.tests true_is.0 n) (sym at)
            (subst (λ r. DetectsAt job.circuit job.tests.tests r t) (sym same) d)))
    block_more block low (Hit k) true_is none =
        let within = (true_is.2).0 in (
          omega arith,
          omega (arith, within),
          (h.2 (64 * block + k)).1
              (subst (λ r. DetectsAt job.circuit job.tests.tests r (64 * block + k)) same
              (true_is.2).1),
          λ t up below. go t below (cases_lt t (64 * block)),
        )
      where
        same : true_is.0 ≡ h.0
        same = ap (λ o. unwrap_or o true_is.0) (sym true_is.1 ∙ h.1)

        go : (t : ℕ) → t < 64 * block + k → (t < 64 * block) ⊎ (64 * block ≤ t) → hits t ≡ false
        go t below (inl before) = none t (omega arith) before
        go t below (inr after) =
            let within = (true_is.2).0 in
            miss block t after (omega (arith, below, within)) (λ j at listed d.
            (true_is.2).2 j (omega (arith, at, below))
            (subst (λ n. DetectsAt job.circuit job.tests.tests true_is.0 n) (sym at)
            (subst (λ r. DetectsAt job.circuit job.tests.tests r t) (sym same) d)))

    pub least_is_hit : (n : ℕ) → n ≤ blocks (length job.tests.tests)
        → IsFirstHit hits 0 (64 * n) (least table n class)
    least_is_hit zero le = λ t up below. absurd (omega (arith, below))
    least_is_hit (suc n) le = subst (λ m. IsFirstHit hits 0 (64 * m) (least table m class)) one
        (go (least_is_hit n (omega (arith, le))) (least table n class) refl)
      where
        one : n + 1 ≡ suc n
        one = omega arith

        next : 64 * n + 64 ≡ 64 * (n + 1)
        next = omega arith

        go : IsFirstHit hits 0 (64 * n) (least table n class) → (o : Option ℕ)
            → least table n class ≡ o → IsFirstHit hits 0 (64 * (n + 1)) (least table (n + 1) class)
        go before (Some t) e =
            let was = subst (IsFirstHit hits 0 (64 * n)) e before in
            let below = was.1 in
            subst (IsFirstHit hits 0 (64 * (n + 1))) (sym (least_kept table n class t e))
            (was.0, omega (arith, below), was.2, was.3)
        go before None e =
            subst (IsFirstHit hits 0 (64 * (n + 1))) (sym (least_more table n class e))
            (subst (λ m. IsFirstHit hits 0 m (hit_at n (table class n))) next
            (block_more n (omega (arith, le)) (table class n)
            (is class n (omega (arith, lt, class_count job b)) (omega (arith, le)))
            (subst (IsFirstHit hits 0 (64 * n)) e before)))

  -- no test is a hit of a class that no test detects
  pub never_hit : ((span : BlockSpan) → IsFirstOn job span class None) → (hits : ℕ → Bool)
      → AreHits job class hits → (t : ℕ) → hits t ≡ false
  never_hit dead hits h t = go (hits t) refl
    where
      go : (v : Bool) → hits t ≡ v → hits t ≡ false
      go false e = e
      go true e =
          let d = (h.2 t).0 e in
          let own = dead (one_block (t / 64)) in
          let same : own.0 ≡ h.0 = ap (λ o. unwrap_or o own.0) (sym own.1 ∙ h.1) in
          absurd (own.2 t (record {
            from = omega arith;
            to = omega arith;
            listed = place_within job.tests.tests t d.0 d.1;
          }) (subst (λ r. DetectsAt job.circuit job.tests.tests r t) (sym same) d))

-- ---- what is kept of rows
module _ {K : Type 0} (task : Task K) (rows : List ListedClass) (span : BlockSpan)
    (low : task.from ≤ span.first) (up : span.first ≤ span.last) (before now : List K)
    (found : AreKeptUpTo task (classes_of rows) 0 span.first before)
    (count : length now ≡ length before) where
  -- of a row of which the tests of the span were taken
  row_kept : (hits : ℕ → Bool) (k class : ℕ) (one : K) → slice_get (classes_of rows) k ≡ Some class
      → slice_get now k ≡ Some one → AreHits task.job class hits
      → ((row : ListedClass) → slice_get rows k ≡ Some row
      → HasTakenAt task.means task.job span row before now k)
      → task.means hits (64 * task.from) (64 * (span.last + 1)) one
  row_kept hits k class one ec ek h taken =
      let x = from_mapped (λ (at : ListedClass). at.class) rows k class ec in
      let t = taken x.0 x.1 in
      let both : Some t.1 ≡ Some one = sym t.3 ∙ ek in
      let same : t.1 ≡ one = cc in
      let was = found.each hits k class span.first t.0 ec t.2 h
      (done_high 0 span.first k (omega arith)) in
      let end : 64 * span.last + 64 ≡ 64 * (span.last + 1) = omega arith in
      subst (λ v. task.means hits (64 * task.from) (64 * (span.last + 1)) v) same
      (subst (λ n. task.means hits (64 * task.from) n t.1) end
      (t.4 hits (64 * task.from) (subst (λ c. AreHits task.job c hits) (sym x.2) h)
      (omega (arith, low)) was))

  -- of all rows
  pub kept_swept : HaveTaken task.means task.job span rows 0 (length rows) before now
      → AreKeptUpTo task (classes_of rows) 0 (span.last + 1) now
  kept_swept taken = record {
    count = count ∙ found.count;
    each = λ hits k class n one ec ek h earlier.
        subst (λ m. task.means hits (64 * task.from) (64 * m) one)
        (one_count 0 (span.last + 1) k (span.last + 1) n
        (done_high 0 (span.last + 1) k (omega arith)) earlier) (row_kept hits k class one ec ek h
        (λ row at. taken k row (omega arith) (slice_get_within rows k row at) at));
  }

  -- of those before a place, if the span is a block
  pub kept_before : span.last ≡ span.first → (place : ℕ)
      → ((k : ℕ) (row : ListedClass) → k < place → slice_get rows k ≡ Some row
      → HasTakenAt task.means task.job span row before now k)
      → ((k : ℕ) → place ≤ k → slice_get now k ≡ slice_get before k)
      → AreKeptUpTo task (classes_of rows) place span.first now
  kept_before alone place taken others = record {
    count = count ∙ found.count;
    each = λ hits k class n one ec ek h earlier.
        go hits k class n one ec ek h earlier (cases_lt k place);
  }
    where
      go : (hits : ℕ → Bool) (k class n : ℕ) (one : K)
          → slice_get (classes_of rows) k ≡ Some class → slice_get now k ≡ Some one
          → AreHits task.job class hits → AreEarlier place span.first k n
          → (k < place) ⊎ (place ≤ k) → task.means hits (64 * task.from) (64 * n) one
      go hits k class n one ec ek h earlier (inl lt) =
          subst (λ m. task.means hits (64 * task.from) (64 * m) one) (ap (λ m. m + 1) alone
          ∙ one_count place span.first k (span.first + 1) n (done_low place span.first k lt)
          earlier) (row_kept hits k class one ec ek h (λ row at. taken k row lt at))
      go hits k class n one ec ek h earlier (inr le) =
          subst (λ m. task.means hits (64 * task.from) (64 * m) one)
          (one_count place span.first k span.first n (done_high place span.first k le) earlier)
          (found.each hits k class span.first one ec (sym (others k le) ∙ ek) h
          (done_high 0 span.first k (omega arith)))

-- ---- the first tests of all classes
pub firsts_kept : (job : Parts) (classes : List ℕ) (firsts : List (Option ℕ)) → BelongTogether job
    → All (λ class. class < length job.classes.representative) classes
    → AreKept (first_tests job) classes firsts
    → AreClassFirsts job.list.model job.circuit job.tests.tests classes firsts
firsts_kept job classes firsts b all found = record {
  count = found.count;
  first = λ k class f first ec of ef.
      let lt = listed_class job classes k class all ec in
      let h = some_hits job b class lt in
      let table = true_table job.list.model job.circuit job.tests.tests b.circuit.well_formed in
      let least_is = least_is_hit job b class lt table.0 table.1 h.0 h.1
      (blocks (length job.tests.tests)) (omega arith) in
      let same = one_first h.0 0 (64 * blocks (length job.tests.tests)) first
      (least table.0 (blocks (length job.tests.tests)) class)
      (found.each h.0 k class first ec ef h.1) least_is in
      subst (IsFirst job.circuit job.tests.tests f) (sym same)
      (least_is_first job.list.model job.circuit job.tests.tests table.0 b.circuit.well_formed
      b.circuit.arities table.1 f class of);
}

-- none of them is settled by no test
pub first_open : (job : Parts) → IsOpenAtFirst (first_tests job)
first_open job None hits at h = refl
first_open job (Some t) hits at h =
    let low = h.0 in let high = h.1 in absurd (omega (arith, low, high))
