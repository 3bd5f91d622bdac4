use Rattle.std.proofs.Common.{◌≡◌, ◌∙◌, ◌∷◌, [], ℕ, List, ap, arith, length, subst, sym, Global}
use Rattle.std.{proofs.Common.Vec, specs.Prelude.{map, vec_len}, proofs.lemmas.List.with_items_is}
use Rattle.bench_net.specs.Scan.{names}
use Rattle.flat_circuit.{specs.GroupRows.AreRowsFrom, proofs.ArrangedSignals.sources_there}
use Rattle.flat_circuit.proofs.FourWords.{four_from, pushed_row, of_four}
use Rattle.flat_circuit.proofs.fault_free.four_rows.Goals as goal

pub evaluate_four-requires-clause-width : goal.evaluate_four-requires-clause-width
evaluate_four-requires-clause-width c =
    let signals = c.signals-signals.ensures in
    c.requires.width ∙ ap length (sym (sources_there c.args.circuit.now.statements
    c.args.circuit.now.arranged signals.given.well_formed signals.arranged))

pub returns-clause-rows : goal.returns-clause-rows
returns-clause-rows c =
    let circuit = c.args.circuit.now.arranged in
    let tests = c.args.tests.now.tests in
    let count = c.signals-signals.ensures.count in
    let now = c.evaluate_four.new in
    let done = c.evaluate_four.ensures in
    let first : length now.first ≡ vec_len c.in_ok-first.first = omega (
      arith,
      done.first_room,
      c.deref_mut.ensures.len,
    ) in
    let second : length now.second ≡ vec_len c.in_ok-second.second = omega (
      arith,
      done.second_room,
      c.deref_mut-2.ensures.len,
    ) in
    let third : length now.third ≡ vec_len c.in_ok-third.third = omega (
      arith,
      done.third_room,
      c.deref_mut-3.ensures.len,
    ) in
    let fourth : length now.fourth ≡ vec_len c.in_ok-fourth.fourth = omega (
      arith,
      done.fourth_room,
      c.deref_mut-4.ensures.len,
    ) in
    let Room : ℕ → List ℕ → Type 0 = λ slot row. length row ≡ length (names circuit) in
    let room = of_four Room now.first now.second now.third now.fourth
    (omega (arith, first, c.in_ok-first.ensures.len, count))
    (omega (arith, second, c.in_ok-second.ensures.len, count))
    (omega (arith, third, c.in_ok-third.ensures.len, count))
    (omega (arith, fourth, c.in_ok-fourth.ensures.len, count)) in
    let none = ap (map (λ (v : Vec ℕ Global). v.items)) c.in_ok-rows.ensures.items in
    let one = pushed_row c.push.new.self.items c.in_ok-rows.rows.items _ [] now.first
    c.in_ok-push.ensures.items none (with_items_is c.in_ok-first.first now.first first) in
    let two = pushed_row c.push-2.new.self.items c.push.new.self.items _
    (now.first ∷ []) now.second c.in_ok-push-2.ensures.items one
    (with_items_is c.in_ok-second.second now.second second) in
    let three = pushed_row c.push-3.new.self.items c.push-2.new.self.items _
    (now.first ∷ now.second ∷ []) now.third c.in_ok-push-3.ensures.items two
    (with_items_is c.in_ok-third.third now.third third) in
    let four = pushed_row c.push-4.new.self.items c.push-3.new.self.items _
    (now.first ∷ now.second ∷ now.third ∷ []) now.fourth c.in_ok-push-4.ensures.items three
    (with_items_is c.in_ok-fourth.fourth now.fourth fourth) in
    subst (AreRowsFrom circuit tests c.args.group) (sym four)
    (four_from circuit tests c.args.group now.first now.second now.third now.fourth done.words room
    c.requires.end)
