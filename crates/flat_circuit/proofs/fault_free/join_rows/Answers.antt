use Rattle.std.proofs.Common.{◌≡◌, ◌<◌, ◌∙◌, ap, arith, get_or, Global, length, rules, subst, sym}
use Rattle.std.{proofs.Common.{suc, ℕ, Vec}, specs.Prelude.map}
use Rattle.std.specs.Vec.Iter.{into_iter_items, into_iter_len}
use Rattle.std.proofs.lemmas.List.{length-map, map-append}
use Rattle.flat_circuit.specs.GroupRows.{AreOwnRows, AreRowsFrom}
use Rattle.flat_circuit.proofs.Rows.{from_first, rows_append}
use Rattle.flat_circuit.proofs.fault_free.join_rows.Goals.{then-first-len+in_ok-append}
use Rattle.flat_circuit.proofs.fault_free.join_rows.Goals.{else-first-len}
use Rattle.flat_circuit.proofs.fault_free.join_rows.Goals as goal

pub loop-part-preserved : goal.loop-part-preserved
loop-part-preserved c =
    let circuit = c.args.circuit.now.arranged in
    let tests = c.args.tests.now.tests in
    let items = λ (row : Vec ℕ Global). row.items in
    let was = c.loop-part.invariant in
    let step = c.in-Some.ensures.steps in
    let next : c.in-Some.part ≡ get_or (into_iter_items c.loop-part.part-iterator) 0 c.in-Some.part
    = grind rules in
    let some : 0 < into_iter_len c.loop-part.part-iterator = grind rules in
    let own : AreOwnRows circuit tests c.in-Some.part =
    subst (AreOwnRows circuit tests) (sym next) (was.left 0 c.in-Some.part some) in
    let more = map items c.in-Some.part.rows.items in
    let there : AreRowsFrom circuit tests c.in-Some.part.first more = own in
    let before = map items c.loop-part.all.items in
    record {
      left = λ k d lt.
          let h = was.left (suc k) d (omega (arith, lt, step.1)) in
          subst (AreOwnRows circuit tests) (ap (λ l. get_or l (suc k) d) step.0) h;
      rows = elim c.if-first-len.branch [
        | then-first-len+in_ok-append w ↦
            let long : c.in-Some.part.first ≡ length before = omega (
              arith,
              w.if-first-len.true,
              c.len.ensures,
              c.loop-part.all.ok.0,
              length-map c.loop-part.all.items items,
            ) in
            subst (λ v. AreRowsFrom circuit tests 0 (map items v.items)) (sym w.all-is)
            (subst (AreRowsFrom circuit tests 0) (sym (ap (map items) w.in_ok-append.ensures.items
            ∙ map-append items c.loop-part.all.items c.in-Some.part.rows.items))
            (rows_append circuit tests before more c.in-Some.part.first was.rows long there))
        | else-first-len w ↦
            subst (λ v. AreRowsFrom circuit tests 0 (map items v.items)) (sym w.all-is) was.rows
      ];
    }

pub returns-clause-rows : goal.returns-clause-rows
returns-clause-rows c =
    let circuit = c.args.circuit.now.arranged in
    let tests = c.args.tests.now.tests in
    let items = λ (row : Vec ℕ Global). row.items in
    let before = map items c.loop-part.all.items in
    let all = c.append-2.new.self.items in
    let whole : map items all ≡ _ = ap (map items) c.in_ok-append-2.ensures.items
    ∙ map-append items c.loop-part.all.items c.in_ok-rest.rest.items in
    from_first circuit tests (map items all) (subst (AreRowsFrom circuit tests 0) (sym whole)
    (rows_append circuit tests before (map items c.in_ok-rest.rest.items) c.len-2.result
    c.loop-part.invariant.rows
    (omega (arith, c.len-2.ensures, c.loop-part.all.ok.0, length-map c.loop-part.all.items items))
    c.in_ok-rest.ensures.rows))
