use Rattle.std.proofs.{Common.{◌+◌, ◌∙◌, ap, length, subst, sym}, lemmas.List.length_push}
use Rattle.flat_circuit.specs.Origins.{HaveRepresentatives}
use Rattle.flat_circuit.proofs.Representatives.{representatives_more}
use Rattle.flat_circuit.proofs.origin.representatives_of.Goals as goal

pub loop-class-preserved : goal.loop-class-preserved
loop-class-preserved c =
    let stucks = c.loop-class.stucks.items in
    let model = c.args.list.now.model in
    let stuck = c.representative.result in
    record {
      count = ap length c.in_ok-push.ensures.items
          ∙ (length_push stucks stuck ∙ ap (λ n. n + 1) c.loop-class.invariant.count);
      known = subst (HaveRepresentatives model c.args.circuit.now) (sym c.in_ok-push.ensures.items)
          (representatives_more model c.args.circuit.now stucks stuck c.loop-class.class
          c.loop-class.invariant.count c.loop-class.invariant.known c.representative.ensures);
    }
