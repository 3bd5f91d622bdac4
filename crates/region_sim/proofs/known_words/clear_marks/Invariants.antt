use Rattle.std.{proofs.Common.{◌≡◌, ◌<◌, ℕ}, specs.Prelude.slice_index_or}
use Rattle.region_sim.proofs.known_words.clear_marks.Given as goal

abbrev pub invariant-loop-mark : goal.invariant-loop-mark
invariant-loop-mark l = record {
  clear : (s : ℕ) → s < l.mark-index → slice_index_or l.mark-items s 0 ≡ 0;
}
