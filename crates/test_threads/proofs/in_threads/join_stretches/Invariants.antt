use Rattle.std.proofs.Common.{◌<◌, ℕ, get_or, take}
use Rattle.std.specs.Vec.Iter.{into_iter_items, into_iter_len}
use Rattle.text_lines.specs.Starts.{IsLineStart}
use Rattle.test_threads.specs.Stretches.{HasStretch}
use Rattle.patterns.specs.Tests.{HasTests}
use Rattle.test_threads.proofs.in_threads.join_stretches.Given as goal

abbrev pub invariant-loop-part : goal.invariant-loop-part
invariant-loop-part l = record {
  left : (k : ℕ) (d : _) → k < into_iter_len l.part-iterator
      → HasStretch l.text l.width (get_or (into_iter_items l.part-iterator) k d);
  start : IsLineStart l.text l.place;
  tests : HasTests (take l.place l.text) l.width l.all;
}
