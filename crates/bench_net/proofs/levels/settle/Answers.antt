use Rattle.std.{proofs.Common.{◌∙◌, ◌+◌, ap, refl, arith}, specs.Prelude.Some}
use Rattle.std.proofs.lemmas.Option.{slice_get_read}
use Rattle.bench_net.proofs.LevelSearch.{begun_more, lower_levels, opened}
use Rattle.bench_net.proofs.levels.settle.Goals.{in-Unknown+in_ok-push, in_default}
use Rattle.bench_net.proofs.levels.settle.Goals as goal

pub loop-gate-init : goal.loop-gate-init
loop-gate-init c =
    let state = c.requires.search in
    let read = slice_get_read c.args.marks.now.items _ c.args.start _ refl
    (omega (arith, c.requires.start, state.count)) c.index.ensures in
    elim c.match-index.branch [
      | in-Unknown+in_ok-push w ↦ rw (w.marks-is, w.path-is, w.in_ok-push.ensures.items)
          (rw c.requires.path (opened state (c.args.start + 1) c.args.start
          (read ∙ ap Some w.in-Unknown.is) (refl, tt) (λ s ne le. omega arith)
          (c.requires.graph.few_pins c.args.start)).0)
      | in_default w ↦ rw (w.marks-is, w.path-is, c.requires.path)
          (begun_more state (grind (arith, read, w.in_default.not-Unknown)))
    ]

pub visit-requires-clause-lower : goal.visit-requires-clause-lower
visit-requires-clause-lower c = lower_levels c.requires.search (omega arith)
