-- The gate was asked for all pieces whose class the earlier blocks leave open.
use Rattle.std.proofs.Common.{◌≡◌, ◌<◌, ◌≤◌, ◌+◌, ◌*◌, ◌⊎◌, inl, inr, ℕ, Bool, true, false, List}
use Rattle.std.proofs.Common.{All, length, Some, sym, ◌∙◌, subst, refl, arith}
use Rattle.std.{specs.Prelude.slice_get, proofs.lemmas.Bool.{cases_lt, false≢true}}
use Rattle.std.proofs.lemmas.Option.{slice_get_within}
use Rattle.flat_circuit.specs.declared.origin.ListedClass.{ListedClass}
use Rattle.block_sim.specs.{Listed.IsListed, Parts.BelongTogether}
use Rattle.workers.specs.Stops.{Stops}
use Rattle.region_sim.specs.{ClassOrder.classes_of, Goals.AreHits, RegionHits.IsOpenAt}
use Rattle.region_runs.specs.{BlockSweeps.AreNotStopped, Tasks.{IsSound, Task}}
use Rattle.region_runs.specs.StretchRuns.{AreKeptUpTo, ArePassed, IsEarlier, IsOpenAfter}
use Rattle.region_runs.proofs.FirstHits.{class_there, row_listed}
use Rattle.region_runs.proofs.StretchRuns.{done_high, some_hits}
use Rattle.list_lemmas.proofs.Places.{from_mapped, within_place}

-- the gate was asked for each class of rows that is open on one of the blocks up to the last
module _ {K : Type 0} (task : Task K) (sound : IsSound task) (b : BelongTogether task.job)
    (rows : List ListedClass) (listed : All (IsListed task.job) rows) (worker : ℕ) (S : Stops)
    (from last : ℕ) (kept : List K) (found : AreKeptUpTo task (classes_of rows) 0 from kept) where
  -- what is kept there can be changed
  wanted_there : (k : ℕ) (row : ListedClass) (block : ℕ) (one : K) → slice_get rows k ≡ Some row
      → slice_get kept k ≡ Some one → from ≤ block → IsOpenAfter task row.class block
      → task.wants one ≡ true
  wanted_there k row block one at here le still = go (task.wants one) refl
    where
      own : IsListed task.job row
      own = row_listed task.job rows k row listed at

      h : (hits : ℕ → Bool) × AreHits task.job row.class hits
      h = some_hits task.job b row.class own.within

      was : task.means h.0 (64 * task.from) (64 * from) one
      was = found.each h.0 k row.class from one (class_there rows k row at) here h.1
          (done_high 0 from k (omega arith))

      go : (v : Bool) → task.wants one ≡ v → task.wants one ≡ true
      go true e = e
      go false e =
          let later = sound.stays one h.0 (64 * task.from) (64 * from) (64 * block) e
          (omega (arith, le)) was in
          absurd (false≢true (sym e ∙ still h.0 one h.1 later))

  -- a class that is open after later blocks is open at its place
  open_there : (k : ℕ) (row : ListedClass) (block : ℕ) → slice_get rows k ≡ Some row
      → from ≤ block → IsOpenAfter task row.class block → IsOpenAt task.wants rows kept k row
  open_there k row block at le still =
      let lt = slice_get_within (classes_of rows) k row.class (class_there rows k row at) in
      let count = found.count in
      let there = within_place kept k (omega (arith, lt, count)) in
      record {
        row_is = at;
        one = there.0;
        kept_is = there.1;
        wanted = wanted_there k row block there.0 at there.1 le still;
      }

  -- the row of a class at a place
  asked_at : (k class block : ℕ) → slice_get (classes_of rows) k ≡ Some class → from ≤ block
      → IsOpenAfter task class block
      → (row : ListedClass) × (k < length rows) × IsOpenAt task.wants rows kept k row
      × (row.class ≡ class)
  asked_at k class block at le still =
      let x = from_mapped (λ (at : ListedClass). at.class) rows k class at in (
        x.0,
        slice_get_within rows k x.0 x.1,
        open_there k x.0 block x.1 le (subst (λ c. IsOpenAfter task c block) (sym x.2) still),
        x.2,
      )

  pub rest_passed : ArePassed task (classes_of rows) worker S 0 from
      → ((block : ℕ) → from ≤ block → block ≤ last
      → AreNotStopped task.wants rows kept worker S block (length rows))
      → ArePassed task (classes_of rows) worker S 0 (last + 1)
  rest_passed first asked = λ k class block at up e still must.
      go k class block at up e still must (cases_lt block from)
    where
      go : (k class block : ℕ) → slice_get (classes_of rows) k ≡ Some class
          → task.from ≤ block → IsEarlier k block 0 (last + 1) → IsOpenAfter task class block
          → S.must worker class block → (block < from) ⊎ (from ≤ block) → ⊥
      go k class block at up (inr x) still must y = let no = x.1 in omega (arith, no)
      go k class block at up (inl lt) still must (inl low) =
          first k class block at up (inl low) still must
      go k class block at up (inl lt) still must (inr high) =
          let x = asked_at k class block at high still in
          asked block high (omega (arith, lt)) k x.0 x.1 x.2
          (subst (λ c. S.must worker c block) (sym x.3) must)

  -- or for those before a place, on one block
  pub before_passed : (place : ℕ) → ArePassed task (classes_of rows) worker S 0 from
      → AreNotStopped task.wants rows kept worker S from place
      → ArePassed task (classes_of rows) worker S place from
  before_passed place first asked = λ k class block at up e still must.
      go k class block at up e still must
    where
      go : (k class block : ℕ) → slice_get (classes_of rows) k ≡ Some class
          → task.from ≤ block → IsEarlier k block place from → IsOpenAfter task class block
          → S.must worker class block → ⊥
      go k class block at up (inl lt) still must = first k class block at up (inl lt) still must
      go k class block at up (inr x) still must =
          let own = asked_at k class from at (omega arith)
          (subst (IsOpenAfter task class) x.0 still) in
          asked k own.0 x.1 own.2 (subst (λ n. S.must worker n from) (sym own.3)
          (subst (S.must worker class) x.0 must))
