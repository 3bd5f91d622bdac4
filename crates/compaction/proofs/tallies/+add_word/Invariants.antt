use Rattle.std.proofs.Common.{length}
use Rattle.compaction.proofs.tallies.+add_word.Given as goal

abbrev pub decreases-add_word : goal.decreases-add_word
decreases-add_word l = length l.digits.now
