use Rattle.std.{proofs.Common.{◌<◌, ◌≤◌, ◌∙◌, arith, length}, specs.Prelude.None}
use Rattle.std.proofs.lemmas.List.{length-set}
use Rattle.bench_net.specs.Scan.{names}
use Rattle.patterns.{specs.Least.below, proofs.Public.length-below}
use Rattle.flat_circuit.proofs.{FlowPass.{natural_more, passed_all}, ArrangedSignals.natural_order}
use Rattle.flat_circuit.proofs.words.evaluate.Goals as goal

pub loop-signal-preserved : goal.loop-signal-preserved
loop-signal-preserved c =
    let circuit = c.args.circuit.now.arranged in
    let signals = c.signals-signal-end.ensures in
    let ordered = natural_order c.args.circuit.now.statements circuit
    signals.given.well_formed signals.arranged in
    let signal = c.loop-signal.signal in
    let lt : signal < length (names circuit) = omega (
      arith,
      c.loop-signal-test.true,
      signals.count,
    ) in
    let enough : length (names circuit) ≤ length c.loop-signal.words = omega (
      arith,
      c.loop-signal.invariant.room,
      c.requires.words,
    ) in
    record {
      passed = natural_more circuit c.args.tests.now.tests c.args.group None c.loop-signal.words
          signal c.signal_word-word.result c.requires.circuit.well_formed ordered enough lt
          c.loop-signal.invariant.passed c.signal_word-word.ensures;
      room = length-set c.loop-signal.words signal c.signal_word-word.result
          ∙ c.loop-signal.invariant.room;
    }

pub returns-clause-words : goal.returns-clause-words
returns-clause-words c =
    let circuit = c.args.circuit.now.arranged in
    let signals = c.signals-signal-end.ensures in
    let ordered = natural_order c.args.circuit.now.statements circuit
    signals.given.well_formed signals.arranged in
    let long = length-below (length (names circuit)) in
    passed_all circuit c.args.tests.now.tests c.args.group None (below (length (names circuit)))
    c.requires.circuit.well_formed ordered c.loop-signal.words c.loop-signal.signal
    (omega (arith, long, c.loop-signal-test.false, signals.count)) c.loop-signal.invariant.passed
