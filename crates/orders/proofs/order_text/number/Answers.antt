use Rattle.std.proofs.{Common.{Some, sym, ap, ◌∙◌, arith, rules}, lemmas.Bool.cond-true}
use Rattle.orders.proofs.Numbers.{IsRead-none, IsRead-more, IsRead-bound, is_number_all}
use Rattle.orders.proofs.order_text.number.Goals as goal

pub loop-byte-init : goal.loop-byte-init
loop-byte-init c = IsRead-none _

pub overflow_mul-number : goal.overflow_mul-number
overflow_mul-number c = omega (arith, IsRead-bound _ _ _ (omega arith) c.loop-byte.invariant)

pub overflow_add-number : goal.overflow_add-number
overflow_add-number c = omega (arith, IsRead-bound _ _ _ (omega arith) c.loop-byte.invariant)

pub loop-byte-preserved : goal.loop-byte-preserved
loop-byte-preserved c =
    rw c.from.ensures (IsRead-more _ _ _ c.loop-byte-test.true c.loop-byte.invariant (search rules))

pub returns : goal.returns
returns c =
    let all = is_number_all _ _ _ c.loop-byte-test.false c.if-bytes-gt-MAX_DIGITS.false
    c.loop-byte.invariant in
    ap Some all.1 ∙ sym (cond-true _ _ _ all.0)
