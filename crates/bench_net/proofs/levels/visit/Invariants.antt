use Rattle.std.proofs.Common.{◌≡◌, ◌∷◌, ◌+◌, ◌≤◌, length, reverse}
use Rattle.bench_net.specs.Marks.{pins_by, IsSearch, steps, pins_left}
use Rattle.bench_net.proofs.levels.visit.Given as goal

abbrev pub invariant-loop-pin : goal.invariant-loop-pin
invariant-loop-pin l = record {
  signal : l.gate.signal ≡ l.fn.gate.signal;
  search : IsSearch (pins_by l.rows) (length l.at) (l.start + 1) l.marks.items
      (l.gate ∷ reverse l.path.items);
  fewer : steps (pins_by l.rows) l.marks.items (l.gate ∷ reverse l.path.items)
      ≤ steps (pins_by l.rows) l.fn.marks.items (l.fn.gate ∷ reverse l.fn.path.items);
}

abbrev pub decreases-loop-pin : goal.decreases-loop-pin
decreases-loop-pin l = pins_left (pins_by l.rows) l.gate
