use Rattle.std.{proofs.Common.{ap, arith}, specs.Prelude.◌==◌, specs.Int.w64}
use Rattle.std.proofs.lemmas.Nat.Bits.{bit_at-trailing_zeros}
use Rattle.flat_circuit.proofs.block_lanes.least_lane.Goals as goal

pub returns-else-word-eq0 : goal.returns-else-word-eq0
returns-else-word-eq0 c =
    let found = bit_at-trailing_zeros w64 c.args.word (omega arith) (omega arith) in
    (found.0, ap (λ x. x == 1) found.1, λ lower lt. ap (λ x. x == 1) (found.2 lower lt))
