use Rattle.std.{proofs.Common.{◌≡◌, map, take}, specs.List.enumerate_from}
use Rattle.table_rows.specs.Table.{key}
use Rattle.table_rows.proofs.json_rows.keys_of.Given as goal

-- the keys so far
abbrev pub invariant-loop-place : goal.invariant-loop-place
invariant-loop-place l = map (λ key. key.items) l.keys.items
    ≡ take l.place (map key (enumerate_from 0 (map (λ name. name.now) l.names)))
