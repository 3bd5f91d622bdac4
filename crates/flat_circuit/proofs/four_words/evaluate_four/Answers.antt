use Rattle.std.proofs.Common.{◌<◌, ◌≤◌, ◌+◌, ◌∙◌, ℕ, List, arith, length, subst}
use Rattle.std.{specs.Prelude.None, proofs.lemmas.List.length-set}
use Rattle.bench_net.specs.Scan.{names}
use Rattle.patterns.{specs.Least.below, proofs.Public.length-below}
use Rattle.wide_words.specs.Layouts.{one_of}
use Rattle.flat_circuit.proofs.{ArrangedSignals.natural_order, FourWords.{set_each, of_four}}
use Rattle.flat_circuit.proofs.FlowPass.{ArePassed, natural_more, passed_all}
use Rattle.flat_circuit.proofs.four_words.evaluate_four.Goals as goal

pub loop-signal-preserved : goal.loop-signal-preserved
loop-signal-preserved c =
    let circuit = c.args.circuit.now.arranged in
    let tests = c.args.tests.now.tests in
    let signals = c.signals-signal-end.ensures in
    let ordered = natural_order c.args.circuit.now.statements circuit
    signals.given.well_formed signals.arranged in
    let signal = c.loop-signal.signal in
    let rows = c.loop-signal in
    let was = c.loop-signal.invariant in
    let words = c.signal_words-words.result in
    let lt : signal < length (names circuit) = omega (
      arith,
      c.loop-signal-test.true,
      signals.count,
    ) in
    let Room : ℕ → List ℕ → Type 0 = λ slot row. length (names circuit) ≤ length row in
    let room = of_four Room rows.first rows.second rows.third rows.fourth
    (omega (arith, was.first_room, c.requires.first))
    (omega (arith, was.second_room, c.requires.second))
    (omega (arith, was.third_room, c.requires.third))
    (omega (arith, was.fourth_room, c.requires.fourth)) in
    record {
      passed = λ slot low. subst (λ row. ArePassed circuit tests (c.args.group + slot) None
          (below (length (names circuit))) row (signal + 1))
          (set_each rows.first rows.second rows.third rows.fourth signal words.first words.second
          words.third words.fourth slot) (natural_more circuit tests (c.args.group + slot) None
          (one_of rows.first rows.second rows.third rows.fourth slot) signal
          (one_of words.first words.second words.third words.fourth slot)
          c.requires.circuit.well_formed ordered (room slot low) lt (was.passed slot low)
          (c.signal_words-words.ensures slot low));
      first_room = length-set rows.first signal words.first ∙ was.first_room;
      second_room = length-set rows.second signal words.second ∙ was.second_room;
      third_room = length-set rows.third signal words.third ∙ was.third_room;
      fourth_room = length-set rows.fourth signal words.fourth ∙ was.fourth_room;
    }

pub returns-clause-words : goal.returns-clause-words
returns-clause-words c = λ slot low.
    let circuit = c.args.circuit.now.arranged in
    let signals = c.signals-signal-end.ensures in
    let ordered = natural_order c.args.circuit.now.statements circuit
    signals.given.well_formed signals.arranged in
    let long = length-below (length (names circuit)) in
    let rows = c.loop-signal in
    passed_all circuit c.args.tests.now.tests (c.args.group + slot) None
    (below (length (names circuit))) c.requires.circuit.well_formed ordered
    (one_of rows.first rows.second rows.third rows.fourth slot) c.loop-signal.signal
    (omega (arith, long, c.loop-signal-test.false, signals.count))
    (c.loop-signal.invariant.passed slot low)
