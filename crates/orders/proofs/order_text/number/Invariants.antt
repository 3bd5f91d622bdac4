use Rattle.orders.proofs.Numbers.{IsRead}
use Rattle.orders.proofs.order_text.number.Given as goal

abbrev pub invariant-loop-byte : goal.invariant-loop-byte
invariant-loop-byte l = IsRead l.bytes l.byte-index l.number
