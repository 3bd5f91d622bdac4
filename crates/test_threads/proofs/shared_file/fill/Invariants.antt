use Rattle.std.proofs.Common.{length, ◌-◌, ◌≡◌, ◌≤◌, ◌++◌, List, ℕ, take}
use Rattle.std.specs.Io.KnownBytes.{Consumes}
use Rattle.test_threads.proofs.shared_file.fill.Given as goal

-- behind the bytes before the first place stand the next ones of the file
abbrev pub invariant-loop-place : goal.invariant-loop-place
invariant-loop-place g l = record {
  added : List ℕ;
  read : Consumes (g.F.Read.remaining l.initial.file) (g.F.Read.remaining l.file) added;
  within : l.place ≤ length l.buffer;
  size : length l.buffer ≡ length l.initial.buffer;
  holds : take l.place l.buffer ≡ take l.from l.initial.buffer ++ added;
}

abbrev pub decreases-loop-place : goal.decreases-loop-place
decreases-loop-place g l = length l.initial.buffer - l.place
