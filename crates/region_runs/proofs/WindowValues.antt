-- What is kept of the classes of a list after a window.
use Rattle.std.proofs.Common.{◌≡◌, ◌⊎◌, ◌<◌, ◌≤◌, ◌*◌, ◌+◌, ◌-◌, ◌∙◌, All, inl, inr, ℕ, suc, List}
use Rattle.std.proofs.Common.{[], Bool, Some, None, arith, length, refl, sym, subst, ap, true}
use Rattle.std.proofs.{Common.false, lemmas.Option.{get_or_from_slice_get, slice_get_within}}
use Rattle.std.specs.Prelude.{count_by, slice_get, take}
use Rattle.list_lemmas.proofs.Places.{within_place}
use Rattle.patterns.specs.Tests.{IsTestList, TestList, blocks}
use Rattle.block_sim.specs.Parts.{BelongTogether, with_tests}
use Rattle.region_sim.specs.Goals.{AreHits}
use Rattle.region_runs.specs.{declared.windows.Window.Window, Joins.{AreJoined, IsJoinedAt}}
use Rattle.region_runs.{specs.Tasks.{AreKept, IsAtFirst, IsSound, Task}, proofs.Joins.open_there}
use Rattle.region_runs.specs.WindowLedgers.{open_classes, window_task}
use Rattle.region_runs.specs.Windows.{AreKeptBelow, GoesOnFrom, IsWindowOf}
use Rattle.region_runs.proofs.{StretchRuns.{listed_class, some_hits}, WindowTests.same_hits}

-- a window has as many blocks as there are from its first up to its end
pub window_blocks_are : (tests window : TestList) (first : ℕ) (w : Window)
    → IsWindowOf tests.tests (64 * w.from) (64 * w.end) window.tests
    → GoesOnFrom (blocks (length tests.tests)) first w
    → w.from + blocks (length window.tests) ≡ w.end
window_blocks_are tests window first w of on =
    let last : 64 * (w.end - 1) < length tests.tests = omega (arith, on.within, on.some) in
    let there = within_place tests.tests (64 * (w.end - 1)) last in
    let reach = of.all (64 * (w.end - 1)) there.0 (omega (arith, on.some)) there.1 in
    omega (arith, reach, of.within, on.some)

-- the blocks before its first new one are within it
pub window_from : (first : ℕ) (w : Window) (count : ℕ) → GoesOnFrom count first w
    → ((w.first - w.from ≡ 0) × (w.from ≡ 0) × (w.first ≡ 0))
    ⊎ ((w.first - w.from ≡ 1) × (w.first ≡ w.from + 1))
window_from first w count on = go on.before
  where
    go : ((w.from ≡ 0) × (first ≡ 0)) ⊎ (suc w.from ≡ first)
        → ((w.first - w.from ≡ 0) × (w.from ≡ 0) × (w.first ≡ 0))
        ⊎ ((w.first - w.from ≡ 1) × (w.first ≡ w.from + 1))
    go (inl x) = inl (omega (arith, x.0, x.1, on.first_is), x.0, omega (arith, x.1, on.first_is))
    go (inr x) = inr (omega (arith, x, on.first_is), omega (arith, x, on.first_is))

module _ {K : Type 0} (task : Task K) (sound : IsSound task) (tests some : TestList) (w : Window)
    (classes : List ℕ) (own : task.job.tests ≡ tests) (list : IsTestList tests)
    (b : BelongTogether (with_tests task.job some))
    (of : IsWindowOf tests.tests (64 * w.from) (64 * w.end) some.tests)
    (on : GoesOnFrom (blocks (length tests.tests)) w.first w)
    (within : All (λ class. class < length task.job.classes.representative) classes) where
  count : w.from + blocks (length some.tests) ≡ w.end
  count = window_blocks_are tests some w.first w of on

  -- the hits of the window are those of the list
  agree : (class t : ℕ) (hits mine : ℕ → Bool) → 64 * (w.first - w.from) ≤ t
      → t < 64 * blocks (length some.tests) → AreHits task.job class hits
      → AreHits (with_tests task.job some) class mine → mine t ≡ hits (64 * w.from + t)
  agree class t hits mine low high all stretch =
      same_hits task.job some (64 * w.from) (64 * w.end) (32 * w.from) class t hits mine
      (subst (λ (l : TestList). IsWindowOf l.tests (64 * w.from) (64 * w.end) some.tests) (sym own)
      of) (omega arith) (go (window_from w.first w (blocks (length tests.tests)) on))
      (omega (arith, high, count)) all stretch
    where
      go : ((w.first - w.from ≡ 0) × (w.from ≡ 0) × (w.first ≡ 0))
          ⊎ ((w.first - w.from ≡ 1) × (w.first ≡ w.from + 1)) → (64 * w.from ≡ 0) ⊎ (0 < t)
      go (inl x) = inl (omega (arith, x.1))
      go (inr x) = inr (omega (arith, x.0, low))

  -- after the window the same is kept of the tests below its end
  pub values_after : (before found after : List K) → AreKeptBelow task (64 * w.first) classes before
      → AreKept (window_task task some w) (open_classes task.wants classes before) found
      → AreJoined task.wants task.means (64 * w.from) before found after
      → AreKeptBelow task (64 * w.end) classes after
  values_after before found after known are joined = record {
    count = joined.count ∙ known.count;
    each = λ hits k class one at there h.
        let long = known.count in
        let old = within_place before k
        (omega (arith, slice_get_within classes k class at, long)) in
        go hits k class one old.0 at old.1 h
        (known.each hits k class old.0 at old.1 h) (joined.each k old.0 one old.1 there);
  }
    where
      go : (hits : ℕ → Bool) (k class : ℕ) (one old : K) → slice_get classes k ≡ Some class
          → slice_get before k ≡ Some old → AreHits task.job class hits
          → task.means hits 0 (64 * w.first) old
          → IsJoinedAt task.wants task.means (64 * w.from) before found k old one
          → task.means hits 0 (64 * w.end) one
      go hits k class one old at here h was (inl x) =
          subst (task.means hits 0 (64 * w.end)) (sym x.1)
          (sound.stays old hits 0 (64 * w.first) (64 * w.end) x.0 (omega (arith, on.some)) was)
      go hits k class one old at here h was (inr x) =
          let lt = listed_class task.job classes k class within at in
          let stretch = some_hits (with_tests task.job some) b class lt in
          let place = count_by task.wants (take k before) in
          let mine = are.each stretch.0 place class x.1
          (open_there task.wants classes before k class old at here x.0) x.2 stretch.1 in
          let up = begins (window_from w.first w (blocks (length tests.tests)) on) in
          let all : 64 * w.from + 64 * blocks (length some.tests) ≡ 64 * w.end =
          omega (arith, count) in
          subst (λ n. task.means hits 0 n one) all
          (x.3 hits stretch.0 0 (64 * (w.first - w.from)) (64 * blocks (length some.tests))
          (omega arith) (omega (arith, up, count, on.some))
          (omega (arith, all, on.within, list.count))
          (λ t low high. agree class t hits stretch.0 low high h stretch.1)
          (subst (λ n. task.means hits 0 n old) (omega (arith, up)) was) mine)
        where
          begins : ((w.first - w.from ≡ 0) × (w.from ≡ 0) × (w.first ≡ 0))
              ⊎ ((w.first - w.from ≡ 1) × (w.first ≡ w.from + 1))
              → w.from + (w.first - w.from) ≡ w.first
          begins (inl x) = omega (arith, x.0, x.1, x.2)
          begins (inr x) = omega (arith, x.0, x.1)

-- with none that more tests can change, nothing changes
pub values_settled : {K : Type 0} (task : Task K) (sound : IsSound task) (first end : ℕ)
    (classes : List ℕ) (kept : List K) → first ≤ end → AreKeptBelow task first classes kept
    → open_classes task.wants classes kept ≡ [] → AreKeptBelow task end classes kept
values_settled {K} task sound first end classes kept up known empty = record {
  count = known.count;
  each = λ hits k class one at there h. go hits k class one (task.wants one) refl at there
      (known.each hits k class one at there h);
}
  where
    go : (hits : ℕ → Bool) (k class : ℕ) (one : K) (v : Bool) → task.wants one ≡ v
        → slice_get classes k ≡ Some class → slice_get kept k ≡ Some one
        → task.means hits 0 first one → task.means hits 0 end one
    go hits k class one false off at there was = sound.stays one hits 0 first end off up was
    go hits k class one true w at there was =
        let place = count_by task.wants (take k kept) in
        let bad : None ≡ Some class = ap (λ (l : List ℕ). slice_get l place) (sym empty)
        ∙ open_there task.wants classes kept k class one at there w in
        absurd (cc)

-- what is kept of no test
pub values_begin : {K : Type 0} (task : Task K) (classes : List ℕ) (kept : List K)
    → length kept ≡ length classes → All (λ one. IsAtFirst task one) kept
    → AreKeptBelow task 0 classes kept
values_begin {K} task classes kept count first = record {
  count = count;
  each = λ hits k class one at there h.
      (subst (IsAtFirst task) (get_or_from_slice_get kept k one one there)
      (first k one (slice_get_within kept k one there))) hits 0;
}

-- after the last block it is that of all tests
pub values_end : {K : Type 0} (task : Task K) (classes : List ℕ) (kept : List K)
    → task.from ≡ 0 → AreKeptBelow task (64 * blocks (length task.job.tests.tests)) classes kept
    → AreKept task classes kept
values_end {K} task classes kept none known = record {
  count = known.count;
  each = λ hits k class one at there h.
      subst (λ n. task.means hits n (64 * blocks (length task.job.tests.tests)) one)
      (omega (arith, none)) (known.each hits k class one at there h);
}
