use Rattle.std.{proofs.Common.{◌/◌, rules, subst}, specs.Prelude.IfOk}
use Rattle.fault_model.specs.Reordered.{in_order}
use Rattle.flat_circuit.specs.Flat.{AreListsOf}
use Rattle.flat_circuit.proofs.flat.lists_in_halves.Goals as goal

pub returns : goal.returns
returns g c =
    let there = in_order c.args.circuit.now c.args.order.now in
    let middle = c.args.end / 2 in
    let rest : IfOk c.join-rest.result.0 (AreListsOf there middle c.args.end) = search rules in
    let first : IfOk c.join-rest.result.1 (AreListsOf there 0 middle) = search rules in
    c.join_lists.ensures there 0 middle c.args.end
    (subst (λ r. IfOk r (AreListsOf there 0 middle)) c.in_ok-first.was first)
    (subst (λ r. IfOk r (AreListsOf there middle c.args.end)) c.in_ok-rest.was rest)
