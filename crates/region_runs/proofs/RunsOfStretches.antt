-- The runs of stretches, one after another.
use Rattle.std.proofs.Common.{◌≡◌, ◌<◌, ◌+◌, ◌*◌, ◌⊎◌, inl, inr, ℕ, zero, suc, List, [], ◌∷◌, ◌++◌}
use Rattle.std.proofs.Common.{length, All, Option, Some, None, refl, sym, ap, ◌∙◌, subst, arith}
use Rattle.std.specs.Prelude.{slice_get}
use Rattle.std.proofs.lemmas.Option.{get_or_from_slice_get, slice_get_within}
use Rattle.patterns.specs.Tests.{blocks}
use Rattle.list_lemmas.proofs.Places.{within_place}
use Rattle.workers.specs.Stops.{Stops}
use Rattle.region_runs.specs.declared.stretch_run.{Stop.Stop, Waiting.Waiting}
use Rattle.region_runs.specs.{declared.stretch_workers.Done.Done, Part.stretch_at, Cut.IsCutOf}
use Rattle.region_runs.specs.StretchRuns.{AreAllKept, AreAllLowest, AreAllStopped, AreKeptUpTo}
use Rattle.region_runs.specs.StretchRuns.{AreRunsOf, HasEnded, HasPassed, HasRunSo, IsDone}
use Rattle.region_runs.specs.StretchRuns.{IsLowerOf, IsLowest, IsLowestAt, IsLowestIn, IsOpenIn}
use Rattle.region_runs.specs.StretchRuns.{IsStopAt, StretchRun, StretchesWaitFor, WaitsIn, at_first}
use Rattle.region_runs.specs.StretchRuns.{kept_at, run_at, runs_from, unbegun_run}
use Rattle.region_runs.proofs.{PartsOfClasses.stretch_within, PushedLists.{kept, last_of, pushed}}
use Rattle.region_runs.proofs.StretchRuns.{done_high, lowest_along, lowest_join}
use Rattle.region_runs.proofs.StretchTables.{AreFoundByStretch, AreWhole, IsWholeAt}
use Rattle.region_runs.specs.Tasks.{AreKept, IsOpenAtFirst, Task}

-- if all blocks are done, all tests are taken
pub all_kept : {K : Type 0} (task : Task K) (classes : List ℕ) (kept : List K)
    → AreKeptUpTo task classes 0 (blocks (length task.job.tests.tests)) kept
    → AreKept task classes kept
all_kept {K} task classes kept found = record {
  count = found.count;
  each = λ hits k class one ec ek h.
      found.each hits k class (blocks (length task.job.tests.tests)) one ec ek h
      (done_high 0 (blocks (length task.job.tests.tests)) k (omega arith));
}

-- a worker that leaves no class open was not stopped
pub not_stopped : {K : Type 0} (task : Task K) (classes : List ℕ) (worker : ℕ) (S : Stops)
    (stop : Option Stop) (kept : List K) → HasEnded task classes worker S stop kept
    → IsLowest (IsOpenIn task classes stop) None → stop ≡ None
not_stopped {K} task classes worker S None kept e none = refl
not_stopped {K} task classes worker S (Some stop) kept e none =
    let at = e.0 in
    absurd (none at.class stop.block (record {
      place = stop.place;
      low = slice_get_within classes stop.place at.class at.at;
      at = at.at;
      block_is = done_high stop.place stop.block stop.place (omega arith);
      within = at.within;
      still = at.still;
    }))

-- and one that was not stopped leaves none
pub none_open : {K : Type 0} (task : Task K) (classes : List ℕ) (lowest : Option Waiting)
    → IsLowest (IsOpenIn task classes None) lowest → lowest ≡ None
none_open {K} task classes None is = refl
none_open {K} task classes (Some w) is = absurd is.0

-- ---- the runs in a table

-- one more
pub runs_push : {K : Type 0} (from size : ℕ) (classes : List ℕ) (stretch : ℕ) (table : List (Option
    (Done K))) (place : Option (Done K)) → runs_from from size classes stretch (table ++ place ∷ [])
    ≡ runs_from from size classes stretch table
    ++ run_at from (stretch_at size classes (stretch + length table)) place ∷ []
runs_push {K} from size classes stretch [] place =
    let same : stretch ≡ stretch + 0 = omega arith in
    ap (λ n. run_at from (stretch_at size classes n) place ∷ []) same
runs_push {K} from size classes stretch (x ∷ table) place =
    let same : stretch + 1 + length table ≡ stretch + suc (length table) = omega arith in
    ap (λ l. run_at from (stretch_at size classes stretch) x ∷ l)
    (runs_push from size classes (stretch + 1) table place
    ∙ ap (λ n. runs_from from size classes (stretch + 1) table
    ++ run_at from (stretch_at size classes n) place ∷ []) same)

-- as many as there are places
pub runs_count : {K : Type 0} (from size : ℕ) (classes : List ℕ) (stretch : ℕ) (table : List (Option
    (Done K))) → length (runs_from from size classes stretch table) ≡ length table
runs_count {K} from size classes stretch [] = refl
runs_count {K} from size classes stretch (x ∷ table) =
    ap suc (runs_count from size classes (stretch + 1) table)

-- the run at a place
run_from : {K : Type 0} (from size : ℕ) (classes : List ℕ) (stretch : ℕ)
    (table : List (Option (Done K))) (k : ℕ)
    (place : Option (Done K)) → slice_get table k ≡ Some place
    → slice_get (runs_from from size classes stretch table) k
    ≡ Some (run_at from (stretch_at size classes (stretch + k)) place)
run_from {K} from size classes stretch [] k place e = let bad : None ≡ Some place = e in absurd (cc)
run_from {K} from size classes stretch (x ∷ table) zero place e =
    let same : x ≡ place = cc in
    let here : stretch ≡ stretch + 0 = omega arith in
    ap (λ p. Some (run_at from (stretch_at size classes stretch) p)) same
    ∙ ap (λ n. Some (run_at from (stretch_at size classes n) place)) here
run_from {K} from size classes stretch (x ∷ table) (suc k) place e =
    let here : stretch + 1 + k ≡ stretch + suc k = omega arith in
    run_from from size classes (stretch + 1) table k place e
    ∙ ap (λ n. Some (run_at from (stretch_at size classes n) place)) here

pub run_there : {K : Type 0} (from size : ℕ) (classes : List ℕ) (table : List (Option (Done K)))
    (stretch : ℕ) (place : Option (Done K)) → slice_get table stretch ≡ Some place
    → slice_get (runs_from from size classes 0 table) stretch
    ≡ Some (run_at from (stretch_at size classes stretch) place)
run_there {K} from size classes table stretch place e =
    let here : 0 + stretch ≡ stretch = omega arith in
    run_from from size classes 0 table stretch place e
    ∙ ap (λ n. Some (run_at from (stretch_at size classes n) place)) here

-- and each is at a place
pub run_back : {K : Type 0} (from size : ℕ) (classes : List ℕ) (table : List (Option (Done K)))
    (stretch : ℕ)
    (run : StretchRun) → slice_get (runs_from from size classes 0 table) stretch ≡ Some run
    → (place : Option (Done K)) × (slice_get table stretch ≡ Some place)
    × (run ≡ run_at from (stretch_at size classes stretch) place)
run_back {K} from size classes table stretch run at =
    let lt = slice_get_within (runs_from from size classes 0 table) stretch run at in
    let n = runs_count from size classes 0 table in
    let x = within_place table stretch (omega (arith, lt, n)) in
    let there = run_there from size classes table stretch x.0 x.1 in
    let both : Some run ≡ Some (run_at from (stretch_at size classes stretch) x.0) = sym at
    ∙ there in
    let same : run ≡ run_at from (stretch_at size classes stretch) x.0 = cc in
    (x.0, x.1, same)

-- the class that waits in one run more
pub waits_more : {K : Type 0} (task : Task K) (runs : List StretchRun) (run : StretchRun)
    (lowest own lower : Option Waiting)
    → IsLowest (WaitsIn task runs) lowest → IsLowest (IsOpenIn task run.classes run.stop) own
    → IsLowerOf lowest own lower → IsLowest (WaitsIn task (runs ++ run ∷ [])) lower
waits_more {K} task runs run lowest own lower was is lo =
    lowest_along (λ c b. WaitsIn task runs c b ⊎ IsOpenIn task run.classes run.stop c b)
    (WaitsIn task (runs ++ run ∷ [])) lower (λ c b x. to c b x)
    (λ c b x. from c b x (pushed runs run x.1 x.0 x.2))
    (lowest_join (WaitsIn task runs) (IsOpenIn task run.classes run.stop) lowest own lower was is
    lo)
  where
    to : (c b : ℕ) → WaitsIn task runs c b ⊎ IsOpenIn task run.classes run.stop c b
        → WaitsIn task (runs ++ run ∷ []) c b
    to c b (inl x) = (x.0, x.1, kept runs (run ∷ []) x.0 x.1 x.2, x.3)
    to c b (inr x) = (length runs, run, last_of runs run, x)

    from : (c b : ℕ) (x : WaitsIn task (runs ++ run ∷ []) c b) → (slice_get runs x.0 ≡ Some x.1)
        ⊎ ((x.0 ≡ length runs) × (run ≡ x.1))
        → WaitsIn task runs c b ⊎ IsOpenIn task run.classes run.stop c b
    from c b x (inl h) = inl (x.0, x.1, h, x.3)
    from c b x (inr h) = inr (subst (λ (r : StretchRun). IsOpenIn task r.classes r.stop c b)
        (sym h.1) x.3)

-- a worker that was stopped was so at a piece where its gate may
stopped_there : {K : Type 0} (task : Task K) (classes : List ℕ) (worker : ℕ) (S : Stops)
    (stop : Option Stop) (kept : List K) → HasEnded task classes worker S stop kept
    → (at : Stop) → stop ≡ Some at → IsStopAt task classes worker S at
stopped_there {K} task classes worker S None kept e at is = absurd (cc)
stopped_there {K} task classes worker S (Some stop) kept e at is = let same : stop ≡ at = cc in
    subst (IsStopAt task classes worker S) same e.0

-- and the gate let it pass all before
passed_there : {K : Type 0} (task : Task K) (classes : List ℕ) (worker : ℕ) (S : Stops)
    (stop : Option Stop) (kept : List K) → HasEnded task classes worker S stop kept
    → HasPassed task classes worker S stop
passed_there {K} task classes worker S None kept e = e.1
passed_there {K} task classes worker S (Some stop) kept e = e.2

-- one that was not has taken all tests
pub not_stopped_kept : {K : Type 0} (task : Task K) (classes : List ℕ) (worker : ℕ) (S : Stops)
    (stop : Option Stop) (kept : List K) → HasEnded task classes worker S stop kept
    → stop ≡ None → AreKept task classes kept
not_stopped_kept {K} task classes worker S None kept e is = all_kept task classes kept e.0
not_stopped_kept {K} task classes worker S (Some stop) kept e is = absurd (cc)

-- nothing is kept of no class
kept_of_none : {K : Type 0} (task : Task K) (own : List ℕ) (kept : List K) → length own ≡ 0
    → length kept ≡ 0 → AreKept task own kept
kept_of_none {K} task own kept e n = record {
  count = omega (arith, e, n);
  each = λ hits k class one at v h.
      let lt = slice_get_within own k class at in absurd (omega (arith, lt, e));
}

-- a class that waits in a stretch of classes of the task is one of the task's, and so is its block
open_within : {K : Type 0} (task : Task K) (size stretch : ℕ) (classes own : List ℕ)
    (stop : Option Stop)
    (class block : ℕ) → All (λ class. class < length task.job.classes.representative) classes
    → own ≡ stretch_at size classes stretch → IsOpenIn task own stop class block
    → (class < length task.job.classes.representative) × (block < blocks
    (length task.job.tests.tests))
open_within {K} task size stretch classes own None class block all is x = absurd x
open_within {K} task size stretch classes own (Some stop) class block all is x = (
  let at : slice_get (stretch_at size classes stretch) x.place ≡ Some class =
      subst (λ l. slice_get l x.place ≡ Some class) is x.at in
      subst (λ c. c < length task.job.classes.representative)
      (get_or_from_slice_get (stretch_at size classes stretch) x.place class 0 at)
      (stretch_within task.job size stretch classes all x.place 0
      (slice_get_within (stretch_at size classes stretch) x.place class at)),
  x.within,
)

-- a run of a stretch that no worker began
unbegun_so : {K : Type 0} (task : Task K) (size : ℕ) (classes : List ℕ) (workers : ℕ) (S : Stops)
    (runs : List StretchRun) (own : List ℕ)
    → (0 < length own → AreAllStopped task size classes workers S runs)
    → ((unbegun_run task.from own).classes ≡ own)
    × HasRunSo task size classes workers S runs (unbegun_run task.from own)
    (unbegun_run task.from own).worker
unbegun_so {K} task size classes workers S runs [] stopped = (refl, (refl, stopped))
unbegun_so {K} task size classes workers S runs (class ∷ own) stopped = (refl, (refl, stopped))

-- a class of it waits only if it has one
unbegun_open : {K : Type 0} (task : Task K) (own : List ℕ) (class block : ℕ)
    → IsOpenIn task (unbegun_run task.from own).classes (unbegun_run task.from own).stop class block
    → 0 < length own
unbegun_open {K} task [] class block x = absurd x
unbegun_open {K} task (c ∷ own) class block x = omega arith

-- so none waits in one without a class
pub unbegun_empty : {K : Type 0} (task : Task K) (own : List ℕ) → length own ≡ 0
    → IsLowestIn task (unbegun_run task.from own) None
unbegun_empty {K} task [] e = λ class block x. x
unbegun_empty {K} task (class ∷ own) e = absurd (omega (arith, e))

-- and in another the lowest class does
pub unbegun_lowest : {K : Type 0} (task : Task K) (own : List ℕ) (lowest : Option Waiting)
    → IsLowest (IsOpenIn task own (Some (at_first task.from))) lowest
    → IsLowestIn task (unbegun_run task.from own) lowest
unbegun_lowest {K} task [] lowest is = lowest_along (IsOpenIn task [] (Some (at_first task.from)))
    (IsOpenIn task [] None) lowest (λ class block x. let low = x.low in absurd (omega (arith, low)))
    (λ class block x. absurd x) is
unbegun_lowest {K} task (class ∷ own) lowest is = is

-- and if it has one, it waits
unbegun_waits : {K : Type 0} (task : Task K) → IsOpenAtFirst task → (own : List ℕ) → 0 < length own
    → task.from < blocks (length task.job.tests.tests)
    → (class : ℕ) × IsOpenIn task (unbegun_run task.from own).classes
    (unbegun_run task.from own).stop class task.from
unbegun_waits {K} task first [] some block = absurd (omega (arith, some))
unbegun_waits {K} task first (class ∷ own) some block = (
  class,
  record {
    place = 0;
    low = some;
    at = refl;
    block_is = done_high 0 task.from 0 (omega arith);
    within = block;
    still = λ hits one h means. first one hits (64 * task.from) means;
  },
)

-- no worker ran a stretch that none began
unbegun_none : (from : ℕ) (own : List ℕ) → (unbegun_run from own).worker ≡ None
unbegun_none from [] = refl
unbegun_none from (class ∷ own) = refl

-- the result of a worker for a stretch that it ran is at the stretch's place
begun : {K : Type 0} (from : ℕ) (own : List ℕ) (place : Option (Done K)) (run : StretchRun) (w : ℕ)
    → run ≡ run_at from own place → run.worker ≡ Some w
    → (done : Done K) × (place ≡ Some done) × (done.worker ≡ w) × (run.stop ≡ done.stop)
begun {K} from own None run w e q =
    let bad : None ≡ Some w = sym (unbegun_none from own)
    ∙ (sym (ap (λ (r : StretchRun). r.worker) e) ∙ q)
    in absurd (cc)
begun {K} from own (Some done) run w e q =
    let both : Some done.worker ≡ Some w = sym (ap (λ (r : StretchRun). r.worker) e) ∙ q in
    (done, refl, cc, ap (λ (r : StretchRun). r.stop) e)

-- if a worker was stopped, a class waits
stopped_waits : {K : Type 0} (task : Task K) (size : ℕ) (classes : List ℕ) (worker : ℕ) (P : Type 0)
    (S : Stops)
    (done : Done K) (stop : Stop) → IsDone task size classes worker P S done → done.stop ≡ Some stop
    → (v : Waiting) × (done.waiting ≡ Some v)
stopped_waits {K} task size classes worker P S done stop is e = pick done.waiting refl
  where
    own : List ℕ
    own = stretch_at size classes done.stretch

    pick : (x : Option Waiting) → done.waiting ≡ x → (v : Waiting) × (done.waiting ≡ Some v)
    pick (Some v) q = (v, q)
    pick None q =
        let low = subst (IsLowest (IsOpenIn task own done.stop)) q is.lowest in
        let none = not_stopped task own worker S done.stop done.kept.items is.ended low in
        let bad : Some stop ≡ None = sym e ∙ none in absurd (cc)

module _ {K : Type 0} (task : Task K) (size : ℕ) (classes : List ℕ) (workers : ℕ) (P : Type 0)
    (S : Stops)
    (table : List (Option (Done K))) (found : AreFoundByStretch task size classes workers P S table)
  where
    abbrev pub runs : List StretchRun
    runs = runs_from task.from size classes 0 table

    -- the runs of a table are runs of the stretches
    pub runs_are : AreRunsOf task size classes workers S (length table) runs
    runs_are = record {
      count = runs_count task.from size classes 0 table;
      each = λ stretch run at. let x = run_back task.from size classes table stretch run at in
          go stretch run x.0 x.1 x.2;
      once = λ i k w a b s t ea eb wa wb sa sb.
          let x = run_back task.from size classes table i a ea in
          let y = run_back task.from size classes table k b eb in
          let u = begun task.from (stretch_at size classes i) x.0 a w x.2 wa in
          let v = begun task.from (stretch_at size classes k) y.0 b w y.2 wb in
          let iu : slice_get table i ≡ Some (Some u.0) = x.1 ∙ ap Some u.1 in
          let iv : slice_get table k ≡ Some (Some v.0) = y.1 ∙ ap Some v.1 in
          let p = stopped_waits task size classes u.0.worker P S u.0 s (found.each i u.0 iu).2
          (sym u.3 ∙ sa) in
          let q = stopped_waits task size classes v.0.worker P S v.0 t (found.each k v.0 iv).2
          (sym v.3 ∙ sb) in
          found.once i k u.0 v.0 p.0 q.0 iu iv (u.2 ∙ sym v.2) p.1 q.1;
    }
      where
        go : (stretch : ℕ) (run : StretchRun) (place : Option (Done K))
            → slice_get table stretch ≡ Some place
            → run ≡ run_at task.from (stretch_at size classes stretch) place
            → (run.classes ≡ stretch_at size classes stretch)
            × HasRunSo task size classes workers S runs run run.worker
        go stretch run (Some done) at e =
            let f = found.each stretch done at in
            let ended : HasEnded task (stretch_at size classes stretch) done.worker S done.stop
            done.kept.items = subst (λ n. HasEnded task (stretch_at size classes n) done.worker S
            done.stop done.kept.items) f.0 f.2.ended in
            subst (λ (r : StretchRun). (r.classes ≡ stretch_at size classes stretch)
            × HasRunSo task size classes workers S runs r r.worker) (sym e) (
              refl,
              (
                f.1,
                λ stop q. stopped_there task (stretch_at size classes stretch) done.worker S
                    done.stop done.kept.items ended stop q,
                passed_there task (stretch_at size classes stretch) done.worker S done.stop
                    done.kept.items ended,
              ),
            )
        go stretch run None at e =
            subst (λ (r : StretchRun). (r.classes ≡ stretch_at size classes stretch)
            × HasRunSo task size classes workers S runs r r.worker) (sym e)
            (unbegun_so task size classes workers S runs (stretch_at size classes stretch)
            (λ some. (found.none stretch at some).2))

    -- a gate that lets all pass leaves no class open
    none_waits : P → (class block : ℕ) → WaitsIn task runs class block → ⊥
    none_waits p class block x =
        let y = run_back task.from size classes table x.0 x.1 x.2 in
        go x.0 y.0 y.1 (subst (λ (r : StretchRun). IsOpenIn task r.classes r.stop class block) y.2
        x.3)
      where
        go : (stretch : ℕ) (place : Option (Done K)) → slice_get table stretch ≡ Some place
            → IsOpenIn task (run_at task.from (stretch_at size classes stretch) place).classes
            (run_at task.from (stretch_at size classes stretch) place).stop class block → ⊥
        go stretch (Some done) at still_open =
            let f = found.each stretch done at in
            subst (λ s. IsOpenIn task (stretch_at size classes stretch) s class block)
            (f.2.passed p) still_open
        go stretch None at still_open =
            (found.none stretch at (unbegun_open task (stretch_at size classes stretch) class block
            still_open)).0 p

    -- the lowest class that waits
    pub stretches_wait : (stretches class block : ℕ)
        → IsCutOf task.job task.from stretches size classes → length table ≡ stretches
        → IsLowest (WaitsIn task runs) (Some (record { class = class; block = block }))
        → (class < length task.job.classes.representative)
        × (block < blocks (length task.job.tests.tests))
        × (P → ⊥) × StretchesWaitFor task size classes stretches workers S class block
    stretches_wait stretches class block cut count low =
        let x = low.0 in
        let own = (runs_are.each x.0 x.1 x.2).0 in
        let within = open_within task size x.0 classes x.1.classes x.1.stop class block cut.within
        own x.3 in (
          within.0,
          within.1,
          λ p. none_waits p class block x,
          record {
            runs = runs;
            are = subst (λ n. AreRunsOf task size classes workers S n runs) count runs_are;
            lowest = low;
          },
        )

    -- the results at each place give its lowest class
    pub all_lowest : AreAllLowest task size classes table
    all_lowest stretch place at = go place at
      where
        go : (place : Option (Done K)) → slice_get table stretch ≡ Some place
            → IsLowestAt task (stretch_at size classes stretch) place
        go None at = λ some. (found.none stretch at some).1
        go (Some done) at =
            let f = found.each stretch done at in
            subst (λ n. IsLowest (IsOpenIn task (stretch_at size classes n) done.stop) done.waiting)
            f.0 f.2.lowest

    -- if no class waits, all places are whole
    pub none_whole : IsOpenAtFirst task → IsLowest (WaitsIn task runs) None
        → AreWhole size classes table
    none_whole first none stretch place at = go place at
      where
        go : (place : Option (Done K)) → slice_get table stretch ≡ Some place
            → IsWholeAt size classes stretch place
        go (Some done) at = pick done.waiting refl
          where
            low : IsLowest (IsOpenIn task (stretch_at size classes stretch) done.stop) done.waiting
            low = all_lowest stretch (Some done) at

            pick : (x : Option Waiting) → done.waiting ≡ x → done.waiting ≡ None
            pick None e = e
            pick (Some v) e =
                let own = subst (IsLowest (IsOpenIn task
                (stretch_at size classes stretch) done.stop)) e low in
                absurd (none v.class v.block (
                  stretch,
                  run_at task.from (stretch_at size classes stretch) (Some done),
                  run_there task.from size classes table stretch (Some done) at,
                  own.0,
                ))
        go None at = pick (length (stretch_at size classes stretch)) refl
          where
            pick : (n : ℕ) → length (stretch_at size classes stretch) ≡ n
                → length (stretch_at size classes stretch) ≡ 0
            pick zero e = e
            pick (suc n) e =
                let some : 0 < length (stretch_at size classes stretch) = omega (arith, e) in
                let x = unbegun_waits task first (stretch_at size classes stretch) some
                (found.none stretch at some).1 in
                absurd (none x.0 task.from (
                  stretch,
                  run_at {K = K} task.from (stretch_at size classes stretch) None,
                  run_there task.from size classes table stretch None at,
                  x.1,
                ))

    -- and whole places give what is kept
    pub whole_kept : AreWhole size classes table → AreAllKept task size classes table
    whole_kept whole stretch place at = go place at (whole stretch place at)
      where
        go : (place : Option (Done K)) → slice_get table stretch ≡ Some place
            → IsWholeAt size classes stretch place
            → AreKept task (stretch_at size classes stretch) (kept_at place)
        go None at none = kept_of_none task (stretch_at size classes stretch) [] none refl
        go (Some done) at none =
            let f = found.each stretch done at in
            let own = stretch_at size classes done.stretch in
            let low = subst (IsLowest (IsOpenIn task own done.stop)) none f.2.lowest in
            let stop = not_stopped task own done.worker S done.stop done.kept.items f.2.ended low in
            subst (λ n. AreKept task (stretch_at size classes n) done.kept.items) f.0
            (not_stopped_kept task own done.worker S done.stop done.kept.items f.2.ended stop)
