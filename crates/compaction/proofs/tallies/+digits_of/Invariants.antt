use Rattle.compaction.proofs.tallies.+digits_of.Given as goal

abbrev pub decreases-digits_of : goal.decreases-digits_of
decreases-digits_of l = l.number
