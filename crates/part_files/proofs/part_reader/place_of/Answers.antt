use Rattle.std.proofs.Common.{◌+◌, arith}
use Rattle.part_files.proofs.PartHeads.{same_number}
use Rattle.part_files.proofs.part_reader.place_of.Goals as goal

pub returns-then-place-count : goal.returns-then-place-count
returns-then-place-count c = λ i n below few p q.
    let a = same_number c.in_ok-place.place (i + 1) _ (omega arith) (omega (
      arith,
      below,
      few,
    )) c.in_ok-place.ensures p in
    let b = same_number c.in_ok-count.count n _ (omega arith) few c.in_ok-count.ensures q in
    omega (arith, a, b, below)

pub returns-in_err-before : goal.returns-in_err-before
returns-in_err-before c = rw c.from_residual-in_err-before.ensures (λ i n below few p q.
    let a = same_number c.in_ok-place.place (i + 1) _ (omega arith) (omega (
      arith,
      below,
      few,
    )) c.in_ok-place.ensures p in
    c.in_err-before.ensures (omega (arith, a)))
