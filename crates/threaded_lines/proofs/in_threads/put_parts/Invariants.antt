use Rattle.std.proofs.Common.{◌<◌, ◌≤◌, ℕ, get_or, length}
use Rattle.std.specs.Vec.Iter.{into_iter_items, into_iter_len}
use Rattle.byte_output.specs.Output.{TakesAll}
use Rattle.threaded_lines.specs.{Stretches.HasStretch, Texts.text_between}
use Rattle.threaded_lines.proofs.in_threads.put_parts.Given as goal

-- the stretches that are left have their lines, and those so far were taken whole
abbrev pub invariant-loop-part : goal.invariant-loop-part
invariant-loop-part g l = record {
  left : (k : ℕ) (d : _) → k < into_iter_len l.part-iterator
      → HasStretch (g.L.FaultLines.texts l.lines) (get_or (into_iter_items l.part-iterator) k d);
  low : l.place ≤ l.end;
  within : l.end ≤ length (g.L.FaultLines.texts l.lines);
  taken : TakesAll (g.W.Out.seen l.initial.out) (g.W.Out.seen l.out)
      (text_between (g.L.FaultLines.texts l.lines) l.place l.end);
}
