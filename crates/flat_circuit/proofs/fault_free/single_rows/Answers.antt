use Rattle.std.proofs.Common.{◌≡◌, ◌∙◌, ◌∷◌, ◌++◌, [], ℕ, ap, subst, sym, arith, length, Vec}
use Rattle.std.{proofs.Common.Global, specs.Prelude.{map, vec_len}}
use Rattle.std.proofs.lemmas.List.{map-append, length_push, with_items_is}
use Rattle.bench_net.specs.Scan.{names}
use Rattle.flat_circuit.{specs.GroupRows.AreRowsFrom, proofs.ArrangedSignals.sources_there}
use Rattle.flat_circuit.proofs.Rows.{rows_more}
use Rattle.flat_circuit.proofs.fault_free.single_rows.Goals as goal

pub evaluate-requires-clause-width : goal.evaluate-requires-clause-width
evaluate-requires-clause-width c =
    let signals = c.signals-signals.ensures in
    c.requires.width ∙ ap length (sym (sources_there c.args.circuit.now.statements
    c.args.circuit.now.arranged signals.given.well_formed signals.arranged))

pub loop-group-preserved : goal.loop-group-preserved
loop-group-preserved c =
    let items = λ (row : Vec ℕ Global). row.items in
    let before = map items c.loop-group.rows.items in
    let words = c.evaluate.new.words in
    let long : length words ≡ vec_len c.in_ok-row.row = omega (
      arith,
      c.evaluate.ensures.room,
      c.deref_mut.ensures.len,
    ) in
    let room : length words ≡ length (names c.args.circuit.now.arranged) = omega (
      arith,
      long,
      c.in_ok-row.ensures.len,
      c.signals-signals.ensures.count,
    ) in
    let pushed : map items c.push.new.self.items ≡ before ++ words ∷ [] =
    ap (map items) c.in_ok-push.ensures.items ∙ (map-append items c.loop-group.rows.items _
    ∙ ap (λ row. before ++ row ∷ []) (with_items_is c.in_ok-row.row words long)) in
    record {
      count = omega (
        arith,
        ap length pushed,
        length_push before words,
        c.loop-group.invariant.count,
      );
      rows = subst (AreRowsFrom c.args.circuit.now.arranged c.args.tests.now.tests c.args.first)
          (sym pushed)
          (rows_more c.args.circuit.now.arranged c.args.tests.now.tests c.args.first before words
          c.loop-group.group c.loop-group.invariant.count
          (omega (arith, c.loop-group-test.true, c.requires.end)) c.loop-group.invariant.rows room
          c.evaluate.ensures.words);
    }
