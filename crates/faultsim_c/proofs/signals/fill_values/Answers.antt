use Rattle.std.proofs.{Common.{◌∙◌, List, ap, arith, length}, lemmas.List.length-set}
use Rattle.bench_net.specs.{Scan.names, Statement.Statement}
use Rattle.flat_circuit.specs.Words.{IsFaultFreeWord}
use Rattle.faultsim_c.proofs.Tables.{next}
use Rattle.faultsim_c.proofs.signals.fill_values.Goals as goal

pub loop-signal-preserved : goal.loop-signal-preserved
loop-signal-preserved c =
    let job = c.args.job.now in
    let words = c.loop-signal.words in
    let signal = c.loop-signal.signal in
    let r = c.word.result in
    let same = c.loop-signal.invariant.0 in
    let low = c.loop-signal-test.true in
    let end = c.signals-signal-end.ensures.count in
    let part = ap (λ (s : List Statement). length (names s)) c.circuit.ensures.part in
    let fit = c.requires.lengths in (
      length-set words signal r ∙ same,
      next (λ s w. IsFaultFreeWord job.circuit job.tests.tests c.args.block s w) signal r words
          (omega (arith, same, low, end, part, fit)) c.word.ensures c.loop-signal.invariant.1,
    )

pub returns : goal.returns
returns c =
    let high = c.loop-signal-test.false in
    let end = c.signals-signal-end.ensures.count in
    let part = ap (λ (s : List Statement). length (names s)) c.circuit.ensures.part in
    λ s lt. c.loop-signal.invariant.1 s (omega (arith, lt, high, end, part))
