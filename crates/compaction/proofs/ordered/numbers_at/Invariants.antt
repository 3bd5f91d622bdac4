use Rattle.std.proofs.Common.{◌≡◌, take}
use Rattle.compaction.specs.Steepest.{at_places}
use Rattle.compaction.proofs.ordered.numbers_at.Given as goal

abbrev pub invariant-loop-place : goal.invariant-loop-place
invariant-loop-place l = l.at.items ≡ at_places 0 l.numbers (take l.place-index l.places)
