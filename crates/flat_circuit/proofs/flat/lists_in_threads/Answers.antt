use Rattle.std.{proofs.Common.{◌-◌, ◌/◌, length, rules, subst}, specs.Prelude.IfOk}
use Rattle.fault_model.specs.Reordered.{in_order}
use Rattle.flat_circuit.specs.Flat.{AreListsOf}
use Rattle.flat_circuit.proofs.flat.lists_in_threads.Goals as goal

pub returns : goal.returns
returns g c =
    let there = in_order c.args.circuit.now c.args.order.now in
    let count = length c.args.order.now in
    let last = count - count / 3 in
    let rest : IfOk c.join-rest.result.0 (AreListsOf there last count) = search rules in
    let first : IfOk c.join-rest.result.1 (AreListsOf there 0 last) = search rules in
    c.join_lists.ensures there 0 last count
    (subst (λ r. IfOk r (AreListsOf there 0 last)) c.in_ok-first.was first)
    (subst (λ r. IfOk r (AreListsOf there last count)) c.in_ok-rest.was rest)
