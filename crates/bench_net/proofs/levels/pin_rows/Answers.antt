use Rattle.std.proofs.{Common.arith, lemmas.Grind.common_steps}
use Rattle.bench_net.proofs.PinRows.{no_pins, pin_rows_are}
use Rattle.bench_net.proofs.levels.pin_rows.Goals as goal

pub loop-line-preserved : goal.loop-line-preserved
loop-line-preserved c =
    grind (arith, common_steps, no_pins c.line-item.result, c.loop-line.invariant)

pub returns : goal.returns
returns c = pin_rows_are c.args.lines.now _ (grind (arith, common_steps, c.loop-line.invariant))
    (grind (arith, common_steps, c.loop-line.invariant))
