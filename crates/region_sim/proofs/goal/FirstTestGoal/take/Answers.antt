use Rattle.std.proofs.Common.{◌*◌, ◌==◌, ap, arith, subst, sym, ◌∙◌}
use Rattle.std.{specs.Int.{trailing_zeros, w128}, proofs.lemmas.Nat.Bits.bit_at-trailing_zeros}
use Rattle.region_sim.specs.Goals.{IsFirstHit}
use Rattle.region_sim.proofs.Goals.{first_stays, first_taken, none_is, none_taken, unknown}
use Rattle.flat_circuit.{specs.Words.lane, proofs.Public.lane_zero}
use Rattle.region_sim.proofs.goal.FirstTestGoal.take.Goals as goal

pub returns-then-is_some : goal.returns-then-is_some
returns-then-is_some c = λ hits low from to le tells was.
    first_stays hits (128 * c.args.group) low from to c.args.lanes le tells c.args.kept.now
    (sym c.is_some.ensures ∙ c.if-is_some.true) was

pub returns-then-lanes-eq0 : goal.returns-then-lanes-eq0
returns-then-lanes-eq0 c = λ hits low from to le tells was.
    let off = sym c.is_some.ensures ∙ c.if-is_some.false in
    subst (IsFirstHit hits low to) (sym (none_is c.args.kept.now off))
    (none_taken hits (128 * c.args.group) low from to c.args.lanes le tells
    (λ k. ap (λ w. lane w k) c.if-lanes-eq0.true ∙ lane_zero k)
    (unknown hits low from c.args.kept.now off was))

pub returns : goal.returns
returns c = λ hits low from to le tells was.
    let word = c.args.lanes in
    let some = c.if-lanes-eq0.false in
    let found = bit_at-trailing_zeros w128 word (omega (arith, some)) (omega arith) in
    let k = trailing_zeros w128 word in
    let within = found.0 in
    first_taken hits (128 * c.args.group) low from to word le tells k (omega (arith, within))
    (ap (λ x. x == 1) found.1) (λ j lt. ap (λ x. x == 1) (found.2 j lt))
    (unknown hits low from c.args.kept.now (sym c.is_some.ensures ∙ c.if-is_some.false) was)
