use Rattle.std.proofs.Common.{length}
use Rattle.compaction.proofs.tallies.+number_of.Given as goal

abbrev pub decreases-number_of : goal.decreases-number_of
decreases-number_of l = length l.digits.now
