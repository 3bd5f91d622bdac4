use Rattle.std.proofs.Common.{◌≡◌, ◌<◌, ℕ, List, get_or}
use Rattle.part_files.specs.PartReading.{texts_in}
use Rattle.part_files.proofs.joining.check_names.Given as goal

-- the names so far are the same
abbrev pub invariant-loop-place : goal.invariant-loop-place
invariant-loop-place l = (i : ℕ) (d : List ℕ) → i < l.place
    → get_or (texts_in l.faults) i d ≡ get_or (texts_in l.others) i d
