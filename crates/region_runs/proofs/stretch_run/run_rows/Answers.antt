use Rattle.std.proofs.Common.{◌≡◌, ◌<◌, arith, inl, inr, length, refl, subst}
use Rattle.std.proofs.Common.{sym}
use Rattle.std.proofs.lemmas.Bool.{cases_eq}
use Rattle.patterns.specs.Tests.{blocks}
use Rattle.region_sim.specs.ClassOrder.{classes_of}
use Rattle.region_sim.proofs.Public.{next_still}
use Rattle.region_runs.specs.BlockSweeps.{AreNotStopped}
use Rattle.region_runs.specs.StretchRuns.{AreKeptUpTo}
use Rattle.region_runs.specs.Tasks.{IsSound, task_of}
use Rattle.region_runs.proofs.AskedPieces.{before_passed, rest_passed}
use Rattle.region_runs.proofs.FirstHits.{class_there, kept_before, kept_swept}
use Rattle.region_runs.proofs.StretchRuns.{done_high, still_open}
use Rattle.region_runs.proofs.stretch_run.run_rows.Goals as goal

pub loop-block-smaller : goal.loop-block-smaller
loop-block-smaller g c =
    let up = c.span_from-span.ensures.ordered in
    omega (arith, up, c.loop-block-test.true)

pub loop-block-preserved : goal.loop-block-preserved
loop-block-preserved g c =
    let goal = c.args.goal.now in
    let wants = g.A.Goal.wants goal in
    let task = task_of c.args.job.now c.args.from wants (g.A.Goal.means goal) in
    let sound : IsSound task = record {
      agrees = g.A.Goal.agrees goal;
      stays = g.A.Goal.stays goal;
      unchanged = g.A.Goal.unchanged goal;
    } in
    let rows = c.args.rows.now in
    let last = c.loop-block.invariant in
    let span = c.span_from-span.result in
    let is = c.span_from-span.ensures in
    let within = is.within in
    let block = c.loop-block.block in
    let kept = c.loop-block.kept in
    let now = c.simulate.new.kept in
    let together = c.tests.ensures.together in
    let S = g.G.Gate.stops c.args.gate.now in
    let first = is.first in
    let ordered = is.ordered in
    let end : c.ask_open-place.result ≡ length rows =
    (let le = c.ask_open-place.ensures.within in omega (arith, le, c.if-place-rows.false)) in
    let whole = subst (AreNotStopped wants rows kept c.args.worker S block) end
    c.ask_open-place.ensures.asked in
    record {
      low = omega (arith, last.low, ordered);
      within = omega (arith, within);
      found = kept_swept task rows span (omega (arith, first, last.low))
          (omega (arith, first, ordered))
          kept now
          (subst (λ n. AreKeptUpTo task (classes_of rows) 0 n kept) (sym first) last.found)
          c.simulate.ensures.places c.simulate.ensures.taken;
      passed = rest_passed task sound together rows c.requires.rows c.args.worker S block span.last
          kept last.found last.passed (λ b from to. elim (cases_eq b block) [
            | inl same ↦ subst (λ n. AreNotStopped wants rows kept c.args.worker S n (length rows))
                (sym same) whole
            | inr ne ↦ c.ask_rest.ensures b (omega (arith, from, ne, first)) to
          ]);
      next = next_still wants kept now c.ask_open-place.new.next c.simulate.ensures.places
          c.simulate.ensures.closed c.ask_open-place.ensures.next;
      serves = c.simulate.ensures.serves;
    }

pub returns-then-place-rows-clause-ended : goal.returns-then-place-rows-clause-ended
returns-then-place-rows-clause-ended g c =
    let goal = c.args.goal.now in
    let wants = g.A.Goal.wants goal in
    let task = task_of c.args.job.now c.args.from wants (g.A.Goal.means goal) in
    let sound : IsSound task = record {
      agrees = g.A.Goal.agrees goal;
      stays = g.A.Goal.stays goal;
      unchanged = g.A.Goal.unchanged goal;
    } in
    let rows = c.args.rows.now in
    let last = c.loop-block.invariant in
    let block = c.loop-block.block in
    let place = c.ask_open-place.result in
    let kept = c.loop-block.kept in
    let together = c.tests.ensures.together in
    let S = g.G.Gate.stops c.args.gate.now in
    let at = c.ask_open-place.ensures.stopped c.if-place-rows.true in
    let is = c.span_from-span.ensures in
    let ordered = is.ordered in
    let within = is.within in
    let low : block < blocks (length c.args.job.now.tests.tests) = omega (arith, ordered, within) in
    let class = class_there rows place at.0 at.1.row_is in (
      record {
        class = (at.0).class;
        at = class;
        low = last.low;
        within = low;
        stopped = at.2;
        still = still_open task sound (classes_of rows) 0 block place (at.0).class block kept
            at.1.one class at.1.kept_is at.1.wanted (done_high 0 block place (omega arith))
            last.found;
      },
      kept_before task rows (record { first = block; last = block }) last.low (omega arith) kept
          c.simulate_before.new.kept last.found c.simulate_before.ensures.places refl place
          c.simulate_before.ensures.taken c.simulate_before.ensures.others,
      before_passed task sound together rows c.requires.rows c.args.worker S block block kept
          last.found place last.passed c.ask_open-place.ensures.asked,
    )

pub ask_rest-requires-clause-ordered : goal.ask_rest-requires-clause-ordered
ask_rest-requires-clause-ordered g c =
    let up = c.span_from-span.ensures.ordered in
    let first = c.span_from-span.ensures.first in
    omega (arith, up, first)
