use Rattle.std.proofs.Common.{map}
use Rattle.blocking_pins.specs.{Counting.IsTallyBelow, Effects.IsFresh}
use Rattle.blocking_pins.proofs.counting.tally_of.Given as goal

abbrev pub invariant-loop-fault : goal.invariant-loop-fault
invariant-loop-fault l = record {
  tally : IsTallyBelow l.job l.pins.pins.items l.fault l.tally.counts.items
      (map (λ row. row.items) l.tally.rows.items);
  effect : IsFresh l.words.circuit.now.arranged l.effect;
}
