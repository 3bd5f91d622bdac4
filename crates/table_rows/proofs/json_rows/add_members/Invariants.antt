use Rattle.std.{proofs.Common.{◌≡◌, ◌++◌, map, take}, specs.Prelude.{codes, zip}}
use Rattle.std.specs.List.{flat_map}
use Rattle.table_rows.specs.{Cells.cell_in, Table.member}
use Rattle.table_rows.proofs.json_rows.add_members.Given as goal

-- the members so far were added
abbrev pub invariant-loop-place : goal.invariant-loop-place
invariant-loop-place l = l.text.items ≡ l.fn.text.items ++ (codes "{" ++ flat_map member
    (take l.place (zip (map (λ key. key.items) l.keys) (map cell_in l.cells))))
