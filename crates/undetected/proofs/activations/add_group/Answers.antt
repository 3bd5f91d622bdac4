use Rattle.std.proofs.Common.{◌≤◌, ap, arith, false, length, true}
use Rattle.bench_net.specs.Scan.{names}
use Rattle.undetected.proofs.AddedTests.{group_added}
use Rattle.undetected.proofs.activations.add_group.Goals as goal

pub loop-signal-preserved : goal.loop-signal-preserved
loop-signal-preserved c =
    let was = c.loop-signal.invariant in
    record {
      zero_room = c.add_words.ensures.room;
      one_room = c.add_words-in-loop-signal.ensures.room;
      zero = λ start h. c.add_words.ensures.after start (was.zero start h);
      one = λ start h. c.add_words-in-loop-signal.ensures.after start (was.one start h);
    }

pub returns-clause-zero : goal.returns-clause-zero
returns-clause-zero c = λ start h.
    let flags = c.loop-signal.at_zero in
    let signal = c.loop-signal.signal in
    let count = ap (λ x. length (names x)) c.circuit.ensures.part in
    let all : length flags ≤ signal = omega (
      arith,
      c.loop-signal.invariant.zero_room,
      c.loop-signal-test.false,
      c.signals-signal-end.ensures.count,
      count,
    ) in
    group_added c.args.job.now false start c.args.group signal flags all
    (c.loop-signal.invariant.zero start h)

pub returns-clause-one : goal.returns-clause-one
returns-clause-one c = λ start h.
    let flags = c.loop-signal.at_one in
    let signal = c.loop-signal.signal in
    let count = ap (λ x. length (names x)) c.circuit.ensures.part in
    let all : length flags ≤ signal = omega (
      arith,
      c.loop-signal.invariant.one_room,
      c.loop-signal-test.false,
      c.signals-signal-end.ensures.count,
      count,
    ) in
    group_added c.args.job.now true start c.args.group signal flags all
    (c.loop-signal.invariant.one start h)
