use Rattle.std.{proofs.Common.{◌≡◌, map, take}, specs.List.filter}
use Rattle.tables.specs.Tables.{has_row, numbered, values_in}
use Rattle.tables.proofs.fault_rows.listed_faults.Given as goal

-- the faults so far that have a row
abbrev pub invariant-loop-fault : goal.invariant-loop-fault
invariant-loop-fault l = l.faults.items ≡ map (λ at. at.0) (filter (λ at. has_row l.lines at.1.1)
    (take l.fault (numbered l.list.list (values_in l.column).values)))
