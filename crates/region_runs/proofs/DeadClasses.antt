-- The dead classes at the end of a list: no test detects them, so a run over the others does for
-- the whole list.
use Rattle.std.proofs.Common.{◌≡◌, ◌<◌, ◌≤◌, ◌-◌, ◌*◌, ◌++◌, ◌⊎◌, inl, inr, ℕ, zero, suc, List, []}
use Rattle.std.proofs.Common.{◌∷◌, All, Bool, Option, Some, None, false, length, refl, sym, ap, ◌∙◌}
use Rattle.std.{proofs.Common.{subst, arith}, specs.Prelude.slice_get, specs.Option.option_map}
use Rattle.std.proofs.lemmas.{Bool.cases_lt, List.{length-append, length-map}}
use Rattle.std.proofs.lemmas.Option.{slice_get-map, slice_get_within}
use Rattle.list_lemmas.proofs.Places.{from_mapped}
use Rattle.patterns.specs.Tests.{blocks}
use Rattle.flat_circuit.specs.declared.origin.ListedClass.{ListedClass}
use Rattle.block_sim.specs.{Listed.IsListed, Parts.BelongTogether}
use Rattle.workers.specs.Stops.{Stops}
use Rattle.region_sim.specs.{ClassOrder.classes_of, Goals.AreHits}
use Rattle.region_runs.specs.{declared.stretch_run.Stop.Stop, Tasks.{IsSound, Task}}
use Rattle.region_runs.specs.BlockSweeps.{AreAllNotStopped, AreDeadFrom}
use Rattle.region_runs.specs.StretchRuns.{AreKeptUpTo, ArePassed, HasEnded, IsEarlier, IsOpenAfter}
use Rattle.region_runs.proofs.FirstHits.{never_hit, row_listed}
use Rattle.region_runs.proofs.StretchRuns.{done_high, one_count}

-- ---- places in two lists, one behind the other
pub get_left : {X : Type 0} (xs ys : List X) (k : ℕ) → k < length xs
    → slice_get (xs ++ ys) k ≡ slice_get xs k
get_left [] ys k lt = absurd (omega (arith, lt))
get_left (x ∷ xs) ys zero lt = refl
get_left (x ∷ xs) ys (suc k) lt = get_left xs ys k (omega (arith, lt))

pub get_behind : {X : Type 0} (xs ys : List X) (k : ℕ) → length xs ≤ k
    → slice_get (xs ++ ys) k ≡ slice_get ys (k - length xs)
get_behind [] ys k le = let e : k ≡ k - 0 = omega arith in ap (slice_get ys) e
get_behind (x ∷ xs) ys zero le = absurd (omega (arith, le))
get_behind (x ∷ xs) ys (suc k) le =
    let e : k - length xs ≡ suc k - length (x ∷ xs) = omega arith in
    get_behind xs ys k (omega (arith, le)) ∙ ap (slice_get ys) e

-- ---- a list of live classes, and dead ones behind them
module _ {K : Type 0} (task : Task K) (live dead : List ListedClass) where
  class_left : (k class : ℕ) → k < length live
      → slice_get (classes_of (live ++ dead)) k ≡ Some class
      → slice_get (classes_of live) k ≡ Some class
  class_left k class lt e = slice_get-map (λ (at : ListedClass). at.class) live k
      ∙ (ap (option_map (λ (at : ListedClass). at.class)) (sym (get_left live dead k lt))
      ∙ (sym (slice_get-map (λ (at : ListedClass). at.class) (live ++ dead) k) ∙ e))

  class_stays : (k class : ℕ) → slice_get (classes_of live) k ≡ Some class
      → slice_get (classes_of (live ++ dead)) k ≡ Some class
  class_stays k class e =
      let long = length-map live (λ (at : ListedClass). at.class) in
      let lt = slice_get_within (classes_of live) k class e in
      slice_get-map (λ (at : ListedClass). at.class) (live ++ dead) k
      ∙ (ap (option_map (λ (at : ListedClass). at.class)) (get_left live dead k (omega (
        arith,
        lt,
        long,
      ))) ∙ (sym (slice_get-map (λ (at : ListedClass). at.class) live k) ∙ e))

  -- before the first block
  pub live_none : (was rest : List K) → length was ≡ length live
      → AreKeptUpTo task (classes_of (live ++ dead)) 0 task.from (was ++ rest)
      → AreKeptUpTo task (classes_of live) 0 task.from was
  live_none was rest long none = record {
    count = long ∙ sym (length-map live (λ (at : ListedClass). at.class));
    each = λ hits k class n one ec ek h up. none.each hits k class n one (class_stays k class ec)
        (get_left was rest k (slice_get_within was k one ek) ∙ ek) h up;
  }

-- ---- no test detects the dead ones
module _ {K : Type 0} (task : Task K) (b : BelongTogether task.job) (live dead : List ListedClass)
    (listed : All (IsListed task.job) (live ++ dead))
    (are : AreDeadFrom task.job (live ++ dead) (length live)) where
  no_hits : (k class : ℕ) → length live ≤ k
      → slice_get (classes_of (live ++ dead)) k ≡ Some class → (hits : ℕ → Bool)
      → AreHits task.job class hits → (t : ℕ) → hits t ≡ false
  no_hits k class le e hits h t =
      let x = from_mapped (λ (at : ListedClass). at.class) (live ++ dead) k class e in
      let own = row_listed task.job (live ++ dead) k x.0 listed x.1 in
      never_hit task.job b x.0.class own.within (are k x.0 le x.1) hits
      (subst (λ c. AreHits task.job c hits) (sym x.2) h) t

  -- the gate was asked for each of them
  whole_passed : (worker : ℕ) (S : Stops)
      → ArePassed task (classes_of live) worker S 0 (blocks (length task.job.tests.tests))
      → ((block : ℕ) → task.from ≤ block → block < blocks (length task.job.tests.tests)
      → AreAllNotStopped dead worker S block (length dead))
      → ArePassed task (classes_of (live ++ dead)) worker S 0 (blocks (length task.job.tests.tests))
  whole_passed worker S before asked = λ k class block at low e still must.
      go k class block at low e still must (cases_lt k (length live))
    where
      go : (k class block : ℕ) → slice_get (classes_of (live ++ dead)) k ≡ Some class
          → task.from ≤ block → IsEarlier k block 0 (blocks (length task.job.tests.tests))
          → IsOpenAfter task class block → S.must worker class block
          → (k < length live) ⊎ (length live ≤ k) → ⊥
      go k class block at low e still must (inl lt) =
          before k class block (class_left task live dead k class lt at) low e still must
      go k class block at low (inr x) still must (inr le) = let no = x.1 in omega (arith, no)
      go k class block at low (inl lt) still must (inr le) =
          let x = from_mapped (λ (at : ListedClass). at.class) (live ++ dead) k class at in
          let here = sym (get_behind live dead k le) ∙ x.1 in
          asked block low lt (k - length live) x.0
          (slice_get_within dead (k - length live) x.0 here) here
          (subst (λ c. S.must worker c block) (sym x.2) must)

  -- what is kept of them is that of no test
  module _ (sound : IsSound task) (was rest : List K) (long : length was ≡ length live)
      (none : AreKeptUpTo task (classes_of (live ++ dead)) 0 task.from (was ++ rest))
      (low : task.from ≤ blocks (length task.job.tests.tests)) where
    whole_kept : (found : List K)
        → AreKeptUpTo task (classes_of live) 0 (blocks (length task.job.tests.tests)) found
        → AreKeptUpTo task (classes_of (live ++ dead)) 0 (blocks (length task.job.tests.tests))
        (found ++ rest)
    whole_kept found done = record {
      count =
          let all = none.count in
          let old = length-append was rest in
          let new = length-append found rest in
          omega (arith, all, old, new, same);
      each = λ hits k class n one ec ek h up. (elim (cases_lt k (length live)) [
        | inl lt ↦ done.each hits k class n one (class_left task live dead k class lt ec)
            (sym (get_left found rest k (omega (arith, lt, same, long))) ∙ ek) h up
        | inr le ↦ sound.unchanged one hits (64 * task.from) (64 * task.from) (64 * n)
            (let all = one_count 0 (blocks (length task.job.tests.tests)) k
            (blocks (length task.job.tests.tests)) n
            (done_high 0 (blocks (length task.job.tests.tests)) k (omega arith)) up in
            omega (arith, low, all)) (λ t above below. no_hits k class le ec hits h t)
            (none.each hits k class task.from one ec (stays k one le ek) h
            (done_high 0 task.from k (omega arith)))
      ]);
    }
      where
        same : length found ≡ length was
        same =
            let count = done.count in
            let rows = length-map live (λ (at : ListedClass). at.class) in
            omega (arith, count, rows, long)

        stays : (k : ℕ) (one : K) → length live ≤ k → slice_get (found ++ rest) k ≡ Some one
            → slice_get (was ++ rest) k ≡ Some one
        stays k one le e = get_behind was rest k (omega (arith, le, long))
            ∙ (ap (λ n. slice_get rest (k - n)) (sym same)
            ∙ (sym (get_behind found rest k (omega (arith, le, long, same))) ∙ e))

    pub has_ended : (worker : ℕ) (S : Stops) (stop : Option Stop) (found : List K)
        → stop ≡ None → HasEnded task (classes_of live) worker S stop found
        → ((block : ℕ) → task.from ≤ block → block < blocks (length task.job.tests.tests)
        → AreAllNotStopped dead worker S block (length dead))
        → HasEnded task (classes_of (live ++ dead)) worker S stop (found ++ rest)
    has_ended worker S stop found is ended asked =
        let own = subst (λ s. HasEnded task (classes_of live) worker S s found) is ended in
        subst (λ s. HasEnded task (classes_of (live ++ dead)) worker S s (found ++ rest)) (sym is)
        (whole_kept found own.0, whole_passed worker S own.1 asked)
