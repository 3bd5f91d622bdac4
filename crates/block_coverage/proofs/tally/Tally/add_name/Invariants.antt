use Rattle.std.proofs.Common.{◌≡◌, ◌++◌, ◌∷◌, [], List, Bool, length, take}
use Rattle.bench_net.specs.Statement.{Name}
use Rattle.block_coverage.specs.Tallies.{IsTally}
use Rattle.block_coverage.proofs.tally.Tally.add_name.Given as goal

-- the name so far is counted
abbrev pub invariant-loop-place : goal.invariant-loop-place
invariant-loop-place l = (names : List Name) (flags : List Bool) → length flags ≡ length names
    → IsTally l.separator names flags l.fn.self
    → IsTally l.separator (names ++ take l.place l.name ∷ []) (flags ++ l.detected ∷ []) l.self
