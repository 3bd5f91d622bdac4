use Rattle.std.proofs.Common.{◌≡◌, map, take}
use Rattle.region_runs.specs.declared.parts.PartVerdict.TheVariants.{First}
use Rattle.part_files.proofs.ending.firsts_of.Given as goal

-- the verdicts so far are first tests
abbrev pub invariant-loop-place : goal.invariant-loop-place
invariant-loop-place l = map First l.firsts.items ≡ take l.place l.verdicts
