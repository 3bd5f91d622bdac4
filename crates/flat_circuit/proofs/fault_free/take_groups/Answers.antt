use Rattle.std.{proofs.Common.{subst, sym}, specs.Prelude.All, proofs.lemmas.List.Elements.All-push}
use Rattle.flat_circuit.specs.GroupRows.{AreOwnRows}
use Rattle.flat_circuit.proofs.fault_free.take_groups.Goals as goal

pub loop-pass-preserved : goal.loop-pass-preserved
loop-pass-preserved c =
    let P = AreOwnRows c.args.circuit.now.arranged c.args.tests.now.tests in
    subst (All P) (sym c.in_ok-push.ensures.items)
    (All-push P c.loop-pass.taken.items _ c.loop-pass.invariant c.in_ok-rows.ensures.rows)
