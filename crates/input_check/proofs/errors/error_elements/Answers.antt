use Rattle.std.proofs.Common.{arith}
use Rattle.input_check.{specs.Objects.{error_of, error_text}, proofs.Parts.with_next}
use Rattle.input_check.proofs.errors.error_elements.Goals as goal

pub loop-row-preserved : goal.loop-row-preserved
loop-row-preserved c =
    with_next error_text error_of c.args.rows.now c.loop-row.row-index c.row-item.result _ _
    (omega arith) c.row-item.is c.loop-row.invariant c.in_ok-add_error.ensures
