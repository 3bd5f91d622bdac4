-- The windows whose words a reader reads.
use Rattle.std.proofs.Common.{◌≡◌, ◌+◌, ◌*◌, ◌∙◌, ℕ, ap, arith, inl, length, refl}
use Rattle.std.{specs.Prelude.slice_get, proofs.lemmas.Option.slice_get_within}
use Rattle.patterns.specs.Tests.{TestList, blocks}
use Rattle.block_sim.specs.Parts.{Parts, with_tests}
use Rattle.region_runs.specs.declared.windows.Window.{Window}
use Rattle.region_runs.specs.Windows.{GoesOnFrom, IsWindowFor, IsWindowOf}

-- a job is that of a window that has all its tests
pub whole_window : (job : Parts) → IsWindowFor job 0 0 (blocks (length job.tests.tests)) job
whole_window job = record {
  is = refl;
  of = record {
    each = λ k lt. let here : k ≡ 64 * 0 + k = omega arith in ap (slice_get job.tests.tests) here;
    all = λ t test lt at.
        let within = slice_get_within job.tests.tests t test at in omega (arith, within);
    within = omega arith;
  };
  before = inl (refl, refl);
  order = omega arith;
}

-- a job that took the tests of a window is that of the window
pub window_taken : (job now new : Parts) (some tests : TestList) (first : ℕ) (window : Window)
    → now ≡ with_tests job some → new ≡ with_tests now new.tests
    → IsWindowOf tests.tests (64 * window.from) (64 * window.end) new.tests.tests
    → GoesOnFrom (blocks (length tests.tests)) first window
    → IsWindowFor (with_tests job tests) window.from first window.end new
window_taken job now new some tests first window was kept of goes = record {
  is = kept ∙ ap (λ (j : Parts). with_tests j new.tests) was;
  of = of;
  before = goes.before;
  order = omega (arith, goes.some);
}
