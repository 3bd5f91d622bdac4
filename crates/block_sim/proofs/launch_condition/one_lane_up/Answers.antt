use Rattle.std.{proofs.Common.{◌≡◌, ◌+◌, ◌*◌, ◌%◌, ◌/◌, suc, arith, subst}, specs.Prelude.bit_or}
use Rattle.flat_circuit.specs.Words.{lane}
use Rattle.block_sim.proofs.EarlierLanes.{before_first, before_later}
use Rattle.block_sim.proofs.launch_condition.one_lane_up.Goals as goal

pub returns-clause-first : goal.returns-clause-first
returns-clause-first c = before_first c.args.word c.args.last

pub returns-clause-later : goal.returns-clause-later
returns-clause-later c = λ k lt.
    let one : suc k ≡ k + 1 = omega arith in
    subst (λ j. lane (bit_or (c.args.word * 2 % 340282366920938463463374607431768211456)
    (c.args.last / 170141183460469231731687303715884105728)) j ≡ lane c.args.word k) one
    (before_later c.args.word c.args.last k (omega arith) lt)
