use Rattle.std.proofs.Common.{◌≡◌, arith, inl, inr, length, subst, sym}
use Rattle.std.proofs.lemmas.Bool.{cases_lt}
use Rattle.region_runs.specs.BlockSweeps.{AreAllNotStopped}
use Rattle.region_runs.proofs.stretch_run.ask_dead.Goals as goal

pub loop-block-init : goal.loop-block-init
loop-block-init g c = λ b up below. absurd (omega (arith, up, below))

pub loop-block-preserved : goal.loop-block-preserved
loop-block-preserved g c = λ b up below. elim (cases_lt b c.loop-block.block) [
  | inl x ↦ c.loop-block.invariant b up x
  | inr x ↦ (let same : b ≡ c.loop-block.block = omega (arith, below, x) in
      subst (λ n. AreAllNotStopped c.args.rows.now c.args.worker
      (g.G.Gate.stops c.args.gate.now) n (length c.args.rows.now)) (sym same)
      c.ask_rows.ensures)
]

pub returns : goal.returns
returns g c = λ b up below.
    c.loop-block.invariant b up (omega (arith, below, c.loop-block-test.false))
