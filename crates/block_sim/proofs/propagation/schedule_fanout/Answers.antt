use Rattle.std.proofs.Common.{◌<◌, ◌∙◌, ap, arith, length, refl, sym, subst, ◌+◌}
use Rattle.std.{specs.Prelude.slice_index_or, proofs.lemmas.List.length-set}
use Rattle.flat_circuit.proofs.Public.{reader_within}
use Rattle.block_sim.proofs.ScheduledGates.{HasScheduled, scheduled_none, scheduled_added}
use Rattle.block_sim.proofs.ScheduledGates.{scheduled_all}
use Rattle.block_sim.proofs.propagation.schedule_fanout.Goals as goal

pub loop-reader-init : goal.loop-reader-init
loop-reader-init c = record {
  gates = refl;
  scheduled = scheduled_none c.args.circuit.now.arranged c.args.signal
      c.readers_of-reader-items.result.now c.args.waiting.now;
}

pub add-requires : goal.add-requires
add-requires c =
    let reader = slice_index_or c.readers_of-reader-items.result.now c.loop-reader.reader-index 0 in
    let has = c.readers_of-reader-items.ensures.each c.loop-reader.reader-index 0
    c.loop-reader-test.true in
    let lt = reader_within c.args.circuit.now.arranged reader c.args.signal has.0 in
    omega (arith, lt, c.requires.gates, c.loop-reader.invariant.gates)

pub loop-reader-preserved : goal.loop-reader-preserved
loop-reader-preserved c =
    let circuit = c.args.circuit.now.arranged in
    let items = c.readers_of-reader-items.result.now in
    let i = c.loop-reader.reader-index in
    let reader = slice_index_or items i 0 in
    let has = c.readers_of-reader-items.ensures.each i 0 c.loop-reader-test.true in
    let lt = reader_within circuit reader c.args.signal has.0 in
    let within : reader < length c.loop-reader.waiting = omega (
      arith,
      lt,
      c.requires.gates,
      c.loop-reader.invariant.gates,
    ) in
    record {
      gates = ap length c.add.ensures
          ∙ (length-set c.loop-reader.waiting reader 1 ∙ c.loop-reader.invariant.gates);
      scheduled = subst (HasScheduled circuit c.args.signal items (i + 1) c.args.waiting.now)
          (sym c.add.ensures)
          (scheduled_added circuit c.args.signal items c.readers_of-reader-items.ensures i reader
          c.args.waiting.now c.loop-reader.waiting refl c.loop-reader-test.true
          c.loop-reader.invariant.scheduled within);
    }

pub returns-clause-scheduled : goal.returns-clause-scheduled
returns-clause-scheduled c = scheduled_all c.args.circuit.now.arranged c.args.signal
    c.readers_of-reader-items.result.now c.readers_of-reader-items.ensures
    c.loop-reader.reader-index c.args.waiting.now c.loop-reader.waiting c.loop-reader-test.false
    c.loop-reader.invariant.scheduled
