use Rattle.std.proofs.Common.{◌≡◌, arith, inl, inr, length, subst, sym}
use Rattle.std.proofs.lemmas.Bool.{cases_lt}
use Rattle.region_runs.specs.BlockSweeps.{AreNotStopped}
use Rattle.region_runs.proofs.stretch_run.ask_rest.Goals as goal

pub loop-block-init : goal.loop-block-init
loop-block-init g c = λ b above below. absurd (omega (arith, above, below))

pub loop-block-preserved : goal.loop-block-preserved
loop-block-preserved g c = λ b above below. elim (cases_lt b c.loop-block.block) [
  | inl x ↦ c.loop-block.invariant b above x
  | inr x ↦ (let same : b ≡ c.loop-block.block = omega (arith, below, x) in
      subst (λ n. AreNotStopped (g.A.Goal.wants c.args.goal.now) c.args.rows.now c.args.kept.now
      c.args.worker
      (g.G.Gate.stops c.args.gate.now) n (length c.args.rows.now)) (sym same)
      c.ask_block.ensures)
]

pub returns : goal.returns
returns g c = λ b above to.
    c.loop-block.invariant b above (omega (arith, to, c.loop-block-test.false))
