use Rattle.std.proofs.Common.{◌≡◌, ◌*◌, length}
use Rattle.faultsim_c.specs.Following.{AreFirstWords, after_last}
use Rattle.faultsim_c.proofs.following.moved_words.Given as goal

-- the words of the blocks so far
abbrev pub invariant-loop-block : goal.invariant-loop-block
invariant-loop-block l = record {
  count : length l.words.items ≡ l.new.width * l.block;
  are : AreFirstWords (after_last l.old.tests l.new.tests) l.new.width l.words.items;
}
