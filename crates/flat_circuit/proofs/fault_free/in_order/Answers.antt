use Rattle.std.proofs.Common.{◌<◌, ap, arith, get_or, rules, subst, suc, sym, ◌≡◌}
use Rattle.std.specs.{Prelude.All, Vec.Iter.{into_iter_items, into_iter_len}}
use Rattle.std.proofs.lemmas.List.{Elements.All-append, Sorted.All-permutation}
use Rattle.flat_circuit.specs.GroupRows.{AreOwnRows, HasRows}
use Rattle.flat_circuit.proofs.fault_free.in_order.Goals as goal

pub loop-part-preserved : goal.loop-part-preserved
loop-part-preserved c =
    let circuit = c.args.circuit.now.arranged in
    let tests = c.args.tests.now.tests in
    let was = c.loop-part.invariant in
    let step = c.in-Some.ensures.steps in
    let next : c.in-Some.part ≡ get_or (into_iter_items c.loop-part.part-iterator) 0 c.in-Some.part
    = grind rules in
    let some : 0 < into_iter_len c.loop-part.part-iterator = grind rules in
    let has : HasRows circuit tests c.in-Some.part =
    subst (HasRows circuit tests) (sym next) (was.left 0 c.in-Some.part some) in
    let own : All (AreOwnRows circuit tests) c.in_ok-taken.taken.items =
    subst (HasRows circuit tests) c.in_ok-taken.was has in
    record {
      left = λ k d lt.
          let h = was.left (suc k) d (omega (arith, lt, step.1)) in
          subst (HasRows circuit tests) (ap (λ l. get_or l (suc k) d) step.0) h;
      all = subst (All (AreOwnRows circuit tests)) (sym c.in_ok-append.ensures.items)
          (All-append (AreOwnRows circuit tests) c.loop-part.all.items c.in_ok-taken.taken.items
          was.all own);
    }

pub returns : goal.returns
returns c =
    let P = AreOwnRows c.args.circuit.now.arranged c.args.tests.now.tests in
    All-permutation P _ _ c.sort_unstable_by_key.ensures.permutation c.loop-part.invariant.all
