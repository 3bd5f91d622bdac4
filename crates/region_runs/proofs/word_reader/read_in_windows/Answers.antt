use Rattle.std.proofs.Common.{◌≡◌, ◌<◌, ◌+◌, ◌*◌, ◌∙◌, ap, arith, length, min, refl, subst, sym}
use Rattle.bench_net.specs.Scan.{sources}
use Rattle.block_sim.specs.Parts.{Parts, with_tests}
use Rattle.region_runs.{specs.Windows.GoesOnFrom, proofs.ReadWords.window_taken}
use Rattle.region_runs.proofs.WindowSteps.{step_first, step_within}
use Rattle.region_runs.proofs.word_reader.read_in_windows.Goals as goal

pub loop-number-init : goal.loop-number-init
loop-number-init g c =
    let job = c.args.job.now in
    let none : 64 * min (0 * c.args.step) c.blocks-blocks.result ≡ 0 = omega arith in
    record {
      job = (job.tests, refl);
      gathered = subst (g.V.WordReader.gathered c.args.reader.now
          (with_tests job c.args.tests.now)) (sym none) c.requires.begins;
    }

pub new-window-requires-clause-within : goal.new-window-requires-clause-within
new-window-requires-clause-within g c =
    step_within c.blocks-blocks.result c.args.step c.loop-number.number c.requires.step.0
    (subst (λ n. c.loop-number.number < n) c.div_ceil-number-end.ensures c.loop-number-test.true)

pub take_window-requires-clause-width : goal.take_window-requires-clause-width
take_window-requires-clause-width g c = c.requires.width
    ∙ ap (λ (j : Parts). length (sources j.circuit)) (sym c.loop-number.invariant.job.1)

pub read-requires : goal.read-requires
read-requires g c =
    let was = c.loop-number.invariant in
    let job = c.args.job.now in
    let tests = c.args.tests.now in
    let number = c.loop-number.number in
    let window = c.new-window.result in
    let below = step_within c.blocks-blocks.result c.args.step number c.requires.step.0
    (subst (λ n. number < n) c.div_ceil-number-end.ensures c.loop-number-test.true) in
    let first = step_first c.blocks-blocks.result c.args.step number below in
    let goes = subst (λ n. GoesOnFrom n (number * c.args.step) window) c.blocks-blocks.ensures
    c.new-window.ensures.window in (
      with_tests job tests,
      window.from,
      number * c.args.step,
      window.end,
      window_taken job c.loop-number.job c.take_window.new.job was.job.0 tests
          (number * c.args.step) window was.job.1 c.in_ok-take_window.ensures.kept
          c.in_ok-take_window.ensures.tests goes,
      subst (λ n. g.V.WordReader.gathered c.loop-number.reader (with_tests job tests) (64 * n))
          first was.gathered,
    )

pub loop-number-preserved : goal.loop-number-preserved
loop-number-preserved g c =
    let was = c.loop-number.invariant in
    let job = c.args.job.now in
    let tests = c.args.tests.now in
    let number = c.loop-number.number in
    let step = c.args.step in
    let window = c.new-window.result in
    let below = step_within c.blocks-blocks.result step number c.requires.step.0
    (subst (λ n. number < n) c.div_ceil-number-end.ensures c.loop-number-test.true) in
    let first = step_first c.blocks-blocks.result step number below in
    let goes = subst (λ n. GoesOnFrom n (number * step) window) c.blocks-blocks.ensures
    c.new-window.ensures.window in
    let next : number * step + step ≡ (number + 1) * step = omega arith in
    let end : window.end ≡ min ((number + 1) * step) c.blocks-blocks.result =
    c.new-window.ensures.end ∙ ap (λ n. min n c.blocks-blocks.result) next in
    let took = (c.take_window.new.job).tests in
    record {
      job = (
        took,
        c.in_ok-take_window.ensures.kept ∙ ap (λ (j : Parts). with_tests j took) was.job.1,
      );
      gathered = subst (λ n. g.V.WordReader.gathered c.read.new.self (with_tests job tests)
          (64 * n)) end
          (c.read.ensures (with_tests job tests) window.from (number * step) window.end
          (window_taken job c.loop-number.job c.take_window.new.job was.job.0 tests
          (number * step) window was.job.1 c.in_ok-take_window.ensures.kept
          c.in_ok-take_window.ensures.tests goes)
          (subst (λ n. g.V.WordReader.gathered c.loop-number.reader (with_tests job tests)
          (64 * n)) first was.gathered));
    }
