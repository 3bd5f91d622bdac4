use Rattle.std.proofs.Common.{◌≡◌, ◌<◌, ◌+◌, ◌*◌, ◌∙◌, All, ap, arith, length, min, refl, subst}
use Rattle.std.proofs.Common.{sym}
use Rattle.bench_net.specs.Scan.{sources}
use Rattle.block_sim.specs.Parts.{Parts, with_tests}
use Rattle.region_runs.specs.{Tasks.task_of, WindowLedgers.{AreOfWindows, begins}}
use Rattle.region_runs.{specs.Windows.AreKeptBelow, proofs.WindowValues.{values_begin, values_end}}
use Rattle.region_runs.proofs.WindowSteps.{step_all, step_first, step_within}
use Rattle.region_runs.proofs.windows.run_windows.Goals as goal

pub returns-in_err-kept-clause-job : goal.returns-in_err-kept-clause-job
returns-in_err-kept-clause-job g c = (c.args.job.now.tests, refl)

pub loop-number-init : goal.loop-number-init
loop-number-init g c =
    let job = c.args.job.now in
    let goal = c.args.goal.now in
    let task = task_of (with_tests job c.args.tests.now) 0 (g.A.Goal.wants goal)
    (g.A.Goal.means goal) in
    let none : 64 * min (0 * c.args.step) c.blocks-blocks.result ≡ 0 = omega arith in
    let zero_low : min (0 * c.args.step) c.blocks-blocks.result ≡ 0 = omega arith in
    record {
      job = (job.tests, refl);
      untouched = λ _. refl;
      kept = subst (λ n. AreKeptBelow task n c.args.classes.now c.in_ok-kept.kept.items) (sym none)
          (values_begin task c.args.classes.now c.in_ok-kept.kept.items
          (omega (arith, c.in_ok-kept.ensures.count)) c.in_ok-kept.ensures.first);
      ledgers = subst (λ n. AreOfWindows task c.args.workers c.args.classes.now n
          c.in_ok-kept.kept.items) (sym zero_low)
          (begins c.in_ok-kept.kept.items (omega (arith, c.in_ok-kept.ensures.count))
          c.in_ok-kept.ensures.first);
    }

pub new-window-requires-clause-within : goal.new-window-requires-clause-within
new-window-requires-clause-within g c =
    step_within c.blocks-blocks.result c.args.step c.loop-number.number c.requires.step.0
    (subst (λ n. c.loop-number.number < n) c.div_ceil-number-end.ensures c.loop-number-test.true)

pub run_window-requires-clause-width : goal.run_window-requires-clause-width
run_window-requires-clause-width g c κs within = c.requires.width
    ∙ ap (λ (j : Parts). length (sources j.circuit)) (sym c.loop-number.invariant.job.1)

pub run_window-requires-clause-few : goal.run_window-requires-clause-few
run_window-requires-clause-few g c κs within = omega (
  arith,
  c.requires.few,
  ap (λ (j : Parts). length j.classes.representative) c.loop-number.invariant.job.1,
)

pub run_window-requires-clause-within : goal.run_window-requires-clause-within
run_window-requires-clause-within g c κs within =
    subst (λ (j : Parts). All (λ class. class < length j.classes.representative)
    c.args.classes.now) (sym c.loop-number.invariant.job.1) c.requires.within

pub run_window-requires-clause-kept : goal.run_window-requires-clause-kept
run_window-requires-clause-kept g c κs within =
    let was = c.loop-number.invariant in
    let goal = c.args.goal.now in
    let below = step_within c.blocks-blocks.result c.args.step c.loop-number.number
    c.requires.step.0
    (subst (λ n. c.loop-number.number < n) c.div_ceil-number-end.ensures c.loop-number-test.true) in
    let first = step_first c.blocks-blocks.result c.args.step c.loop-number.number
    below ∙ sym c.new-window.ensures.window.first_is in
    subst (λ (j : Parts). AreKeptBelow (task_of (with_tests j c.args.tests.now) 0
    (g.A.Goal.wants goal) (g.A.Goal.means goal)) (64 * c.new-window.result.first)
    c.args.classes.now c.loop-number.kept.items) (sym was.job.1)
    (subst (λ n. AreKeptBelow (task_of (with_tests c.args.job.now c.args.tests.now) 0
    (g.A.Goal.wants goal) (g.A.Goal.means goal)) (64 * n) c.args.classes.now
    c.loop-number.kept.items) first was.kept)

pub returns-in_err-kept-2-clause-job : goal.returns-in_err-kept-2-clause-job
returns-in_err-kept-2-clause-job g c =
    let kept = c.run_window.ensures.job in
    (kept.0, kept.1 ∙ ap (λ j. with_tests j kept.0) c.loop-number.invariant.job.1)

pub loop-number-preserved : goal.loop-number-preserved
loop-number-preserved g c =
    let was = c.loop-number.invariant in
    let goal = c.args.goal.now in
    let job = c.run_window.ensures.job in
    let number = c.loop-number.number in
    let step = c.args.step in
    let next : number * step + step ≡ (number + 1) * step = omega arith in
    let end : c.new-window.result.end ≡ min ((number + 1) * step) c.blocks-blocks.result =
    c.new-window.ensures.end ∙ ap (λ n. min n c.blocks-blocks.result) next in
    let below = step_within c.blocks-blocks.result step number c.requires.step.0
    (subst (λ n. number < n) c.div_ceil-number-end.ensures c.loop-number-test.true) in
    let first = step_first c.blocks-blocks.result step number below
    ∙ sym c.new-window.ensures.window.first_is in
    record {
      job = (job.0, job.1 ∙ ap (λ j. with_tests j job.0) was.job.1);
      untouched = λ none. absurd (omega (arith, none));
      kept = subst (λ n. AreKeptBelow (task_of (with_tests c.args.job.now c.args.tests.now) 0
          (g.A.Goal.wants goal) (g.A.Goal.means goal)) (64 * n) c.args.classes.now
          c.in_ok-kept-2.kept.items) end
          (subst (λ (j : Parts). AreKeptBelow (task_of (with_tests j c.args.tests.now) 0
          (g.A.Goal.wants goal) (g.A.Goal.means goal)) (64 * c.new-window.result.end)
          c.args.classes.now c.in_ok-kept-2.kept.items) was.job.1 c.in_ok-kept-2.ensures.kept);
      ledgers = subst (λ n. AreOfWindows (task_of (with_tests c.args.job.now c.args.tests.now) 0
          (g.A.Goal.wants goal) (g.A.Goal.means goal)) c.args.workers c.args.classes.now n
          c.in_ok-kept-2.kept.items) end
          (subst (λ (j : Parts). AreOfWindows (task_of (with_tests j c.args.tests.now) 0
          (g.A.Goal.wants goal) (g.A.Goal.means goal)) c.args.workers c.args.classes.now
          c.new-window.result.end c.in_ok-kept-2.kept.items) was.job.1
          (c.in_ok-kept-2.ensures.ledgers
          (subst (λ (j : Parts). AreOfWindows (task_of (with_tests j c.args.tests.now) 0
          (g.A.Goal.wants goal) (g.A.Goal.means goal)) c.args.workers c.args.classes.now
          c.new-window.result.first c.loop-number.kept.items) (sym was.job.1)
          (subst (λ n. AreOfWindows (task_of (with_tests c.args.job.now c.args.tests.now) 0
          (g.A.Goal.wants goal) (g.A.Goal.means goal)) c.args.workers c.args.classes.now n
          c.loop-number.kept.items) first was.ledgers))));
    }

pub returns-in_err-forget_tests-clause-job : goal.returns-in_err-forget_tests-clause-job
returns-in_err-forget_tests-clause-job g c =
    let tests = (c.forget_tests.new.job).tests in (
      tests,
      c.in_err-forget_tests.ensures.kept
          ∙ ap (λ j. with_tests j tests) c.loop-number.invariant.job.1,
    )

pub returns-clause-kept : goal.returns-clause-kept
returns-clause-kept g c =
    let goal = c.args.goal.now in
    let task = task_of (with_tests c.args.job.now c.args.tests.now) 0 (g.A.Goal.wants goal)
    (g.A.Goal.means goal) in
    let all = step_all c.blocks-blocks.result c.args.step c.loop-number.number
    c.requires.step.0 (omega (arith, c.loop-number-test.false, c.div_ceil-number-end.ensures)) in
    values_end task c.args.classes.now c.loop-number.kept.items refl
    (subst (λ n. AreKeptBelow task (64 * n) c.args.classes.now c.loop-number.kept.items)
    (all ∙ c.blocks-blocks.ensures) c.loop-number.invariant.kept)

pub returns-clause-job : goal.returns-clause-job
returns-clause-job g c =
    let tests = (c.forget_tests.new.job).tests in (
      tests,
      c.in_ok-forget_tests.ensures.kept
          ∙ ap (λ j. with_tests j tests) c.loop-number.invariant.job.1,
    )

pub returns-clause-ledgers : goal.returns-clause-ledgers
returns-clause-ledgers g c =
    let goal = c.args.goal.now in
    let all = step_all c.blocks-blocks.result c.args.step c.loop-number.number
    c.requires.step.0 (omega (arith, c.loop-number-test.false, c.div_ceil-number-end.ensures)) in
    subst (λ n. AreOfWindows (task_of (with_tests c.args.job.now c.args.tests.now) 0
    (g.A.Goal.wants goal) (g.A.Goal.means goal)) c.args.workers c.args.classes.now n
    c.loop-number.kept.items) (all ∙ c.blocks-blocks.ensures) c.loop-number.invariant.ledgers
