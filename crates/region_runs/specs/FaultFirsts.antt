-- The first tests of faults, from those of all classes in some order.
use Rattle.std.specs.Prelude.{◌≡◌, ◌<◌, ◌≤◌, ◌+◌, ◌++◌, ℕ, All, IfOk, List, None, Option, Result}
use Rattle.std.specs.Prelude.{Some, length, map, slice_get, slice_index, slice_index_or, take}
use Rattle.block_sim.specs.Parts.{Parts}
use Rattle.region_runs.specs.declared.fault_firsts.FaultFirsts.{FaultFirsts}

-- the first test of a class: the one at its position in the order
abbrev pub first_at : List ℕ → List (Option ℕ) → ℕ → Option ℕ
first_at positions firsts class = slice_index_or firsts (slice_index positions class) None

-- the first tests of all faults: those of their classes
abbrev pub firsts_of_faults : Parts → List ℕ → List (Option ℕ) → List (Option ℕ)
firsts_of_faults job positions firsts = map (first_at positions firsts) job.classes.class_of

-- each fault's class has a position, and each position has a first test
pub record ServesFaults (job : Parts) (positions : List ℕ) (firsts : List (Option ℕ)) : Type 0 where
  pub classes : All (λ class. class < length positions) job.classes.class_of
  pub positions_within : All (λ position. position < length firsts) positions

-- the first tests of adjacent faults, from this one on: they follow those of the faults before them
pub record AreFirstsFrom (class_of positions : List ℕ) (firsts : List (Option ℕ)) (start : ℕ)
    (found : List (Option ℕ)) : Type 0 where
  pub within : start + length found ≤ length class_of
  pub follow : map (first_at positions firsts) (take start class_of) ++ found
      ≡ map (first_at positions firsts) (take (start + length found) class_of)

-- the result of a thread has such first tests, unless it had no memory
abbrev pub HasFirsts : {E : Type 0} → List ℕ → List ℕ → List (Option ℕ) → Result FaultFirsts E
    → Type 0
HasFirsts class_of positions firsts share = IfOk share (λ own.
    AreFirstsFrom class_of positions firsts own.start own.firsts.items)

-- each of several results has such first tests
abbrev pub HaveFirsts : {E : Type 0} → List ℕ → List ℕ → List (Option ℕ)
    → List (Result FaultFirsts E) → Type 0
HaveFirsts {E} class_of positions firsts shares = (i : ℕ) (share : Result FaultFirsts E)
    → slice_get shares i ≡ Some share → HasFirsts class_of positions firsts share
