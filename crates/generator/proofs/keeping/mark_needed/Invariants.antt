use Rattle.std.{proofs.Common.{◌≡◌, ◌<◌, ℕ, Some}, specs.Prelude.slice_get}
use Rattle.block_sim.specs.Parts.{HasRoom}
use Rattle.generator.specs.Keeping.{AreNoted, HasFirst, HasMark, IsMarked}
use Rattle.generator.proofs.keeping.mark_needed.Given as goal

abbrev pub invariant-loop-place : goal.invariant-loop-place
invariant-loop-place l = record {
  fits : HasRoom l.workspace l.job;
  noted : AreNoted l.words l.marks;
  first : (t : ℕ) → IsMarked l.marks t → HasFirst l.firsts t;
  some : (k t : ℕ) → k < l.place → slice_get l.firsts k ≡ Some (Some t) → HasMark l.marks;
}
