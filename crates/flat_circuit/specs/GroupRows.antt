-- Rows of fault-free words of adjacent groups.
use Rattle.std.specs.Prelude.{◌≡◌, ℕ, ◌+◌, ◌≤◌, All, IfOk, List, None, Result, Some, length, map}
use Rattle.std.specs.Prelude.{slice_get}
use Rattle.std.specs.declared.alloc.Global.{Global}
use Rattle.std.specs.declared.vec.Vec.{Vec}
use Rattle.bench_net.specs.Statement.{Statement}
use Rattle.bench_net.specs.Scan.{names}
use Rattle.fault_model.specs.Solution.{Test}
use Rattle.flat_circuit.specs.BlockSpans.{groups}
use Rattle.flat_circuit.specs.Words.{AreWords}
use Rattle.flat_circuit.specs.declared.fault_free.GroupRows.{GroupRows}

-- the fault-free words of adjacent groups, from this one on, one row for each group
pub record AreRowsFrom (c : List Statement) (tests : List Test) (first : ℕ) (rows : List (List ℕ))
    : Type 0 where
  pub within : first + length rows ≤ groups (length tests)
  pub each : (k : ℕ) (row : List ℕ) → slice_get rows k ≡ Some row
      → (length row ≡ length (names c)) × AreWords c tests (first + k) None row

-- the rows are such ones
abbrev pub AreOwnRows : List Statement → List Test → GroupRows → Type 0
AreOwnRows c tests own = AreRowsFrom c tests own.first (map (λ row. row.items) own.rows.items)

-- the result of a thread has such rows, unless it had no memory
abbrev pub HasRows : {E : Type 0} → List Statement → List Test → Result (Vec GroupRows Global) E
    → Type 0
HasRows c tests part = IfOk part (λ taken. All (AreOwnRows c tests) taken.items)

-- the fault-free words of the first groups, one row of words for each group
abbrev pub AreFaultFree : List Statement → List Test → List (List ℕ) → Type 0
AreFaultFree c tests rows = (group : ℕ) (row : List ℕ) → slice_get rows group ≡ Some row
    → (length row ≡ length (names c)) × AreWords c tests group None row
