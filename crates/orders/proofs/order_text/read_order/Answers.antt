use Rattle.std.proofs.{Common.arith, lemmas.Grind.common_steps}
use Rattle.orders.proofs.order_text.read_order.Goals as goal

pub loop-row-preserved : goal.loop-row-preserved
loop-row-preserved c = grind (arith, common_steps)
