use Rattle.std.proofs.{Common.{◌∙◌, arith}, lemmas.List.length-set}
use Rattle.faultsim_c.{specs.Circuits.IsLevelAt, proofs.Tables.next}
use Rattle.faultsim_c.proofs.circuit.fill_levels.Goals as goal

pub loop-signal-preserved : goal.loop-signal-preserved
loop-signal-preserved c =
    let levels = c.loop-signal.levels in
    let signal = c.loop-signal.signal in
    let r = c.level_of.result in
    let same = c.loop-signal.invariant.0 in
    let low = c.loop-signal-test.true in
    let end = c.signals-signal-end.ensures.count in
    let fit = c.requires in (
      length-set levels signal r ∙ same,
      next (IsLevelAt c.args.circuit.now) signal r levels (omega (arith, same, low, end, fit))
          (record { is = c.level_of.ensures }) c.loop-signal.invariant.1,
    )

pub returns : goal.returns
returns c =
    let high = c.loop-signal-test.false in
    let end = c.signals-signal-end.ensures.count in
    λ s lt. c.loop-signal.invariant.1 s (omega (arith, lt, high, end))
