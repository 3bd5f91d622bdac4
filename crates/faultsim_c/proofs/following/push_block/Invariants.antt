use Rattle.std.proofs.Common.{◌≡◌, ◌+◌, ◌*◌, length}
use Rattle.faultsim_c.specs.Following.{AreFirstWords, after_last}
use Rattle.faultsim_c.proofs.following.push_block.Given as goal

-- the words of the sources so far
abbrev pub invariant-loop-source : goal.invariant-loop-source
invariant-loop-source l = record {
  count : length l.words.items ≡ l.new.width * l.block + l.source;
  are : AreFirstWords (after_last l.old.tests l.new.tests) l.new.width l.words.items;
}
