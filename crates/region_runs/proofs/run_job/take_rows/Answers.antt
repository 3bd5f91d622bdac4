use Rattle.std.proofs.Common.{◌≡◌, ◌<◌, ◌≤◌, ◌+◌, ◌*◌, ◌∙◌, ℕ, zero, suc, List, [], ap, arith}
use Rattle.std.proofs.{Common.{get_or, inl, length, refl, sym}, lemmas.List.ext_get_or}
use Rattle.std.proofs.lemmas.Option.{slice_get-get_or, slice_get_within}
use Rattle.std.specs.Prelude.{slice_get, unwrap_or}
use Rattle.fault_model.specs.Solution.{Test}
use Rattle.region_runs.specs.Windows.{IsWindowOf}
use Rattle.region_runs.proofs.run_job.take_rows.Goals as goal

-- a window from the first test on has no more tests than the list
few : (tests window : List Test) (end n : ℕ) → IsWindowOf tests 0 end window → n ≡ length window
    → n ≤ length tests
few tests window end zero of e = omega arith
few tests window end (suc k) of e =
    let lt : k < length window = omega (arith, e) in
    let at = sym (of.each k lt) ∙ slice_get-get_or window k [] lt in
    let within : 0 + k < length tests = slice_get_within tests (0 + k) (get_or window k []) at in
    omega (arith, within)

-- and it has all that are below its end
many : (tests window : List Test) (end n : ℕ) → IsWindowOf tests 0 end window → length tests ≤ end
    → n ≡ length tests → n ≤ length window
many tests window end zero of le e = omega arith
many tests window end (suc k) of le e =
    let lt : k < length tests = omega (arith, e) in
    let within : k < 0 + length window = of.all k (get_or tests k []) (omega (arith, lt, le))
    (slice_get-get_or tests k [] lt) in
    omega (arith, within)

-- so a window of all tests has the tests of the list
whole : (tests window : List Test) (end : ℕ) → length tests ≤ end → IsWindowOf tests 0 end window
    → window ≡ tests
whole tests window end le of =
    let low = few tests window end (length window) of refl in
    let high = many tests window end (length tests) of le refl in
    let long : length window ≡ length tests = omega (arith, low, high) in
    ext_get_or [] window tests long (λ k lt.
    let there : k < length tests = omega (arith, lt, long) in
    let first : 0 + k ≡ k = omega arith in
    ap (λ o. unwrap_or o []) (sym (slice_get-get_or window k [] lt)
    ∙ (of.each k lt ∙ (ap (slice_get tests) first ∙ slice_get-get_or tests k [] there))))

pub take_window-requires-clause-window : goal.take_window-requires-clause-window
take_window-requires-clause-window g c = (
  0,
  record { first_is = refl; some = omega arith; within = omega arith; before = inl (refl, refl) },
)

pub returns-in-Ok-clause-taken : goal.returns-in-Ok-clause-taken
returns-in-Ok-clause-taken g c =
    let tests = c.args.tests.now.tests in
    let end : length tests ≤ 64 * c.blocks-end.result =
    let is = c.blocks-end.ensures in omega (arith, is) in
    whole tests (c.take_window.new.job).tests.tests (64 * c.blocks-end.result) end
    c.in-Ok.ensures.tests
