-- The facts that a simulation needs about a circuit whose statements stand in another order: the
-- same stems, active gates and complemented signals.
use Rattle.std.specs.Prelude.{◌↔◌, ℕ, List, map, Contains}
use Rattle.bench_net.specs.Statement.{Statement}
use Rattle.fault_model.specs.declared.Model.{Model}
use Rattle.fault_model.specs.Fault.{Fault, faults}
use Rattle.fault_model.specs.Solution.{Test}
use Rattle.fault_model.specs.Reordered.{place, moved_line, moved_fault}
use Rattle.block_sim.specs.ActiveGates.{HasActive, HasActiveIn}
use Rattle.flat_circuit.specs.Regions.{IsStemOf, IsStemOfLine}
use Rattle.block_sim.specs.Flips.{DetectsFlip, HasCome, TellsFirstFlips}

-- the region of a signal has the same stem, and so has the region of a fault of the list
pub record HasSameStems (c d : List Statement) : Type 0 where
  pub of_signal : (r s : ℕ) → IsStemOf c r s ↔ IsStemOf d (place c d r) (place c d s)
  pub of_line : (m : Model) (f : Fault) (r : ℕ) → Contains (faults m c) f
      → IsStemOfLine c r f.line ↔ IsStemOfLine d (place c d r) (moved_line c d f.line)

-- a list with each gate that a fault makes active has each of them, moved, in the other circuit
pub record HasSameActive (c d : List Statement) : Type 0 where
  pub on_block : (tests : List Test) (block : ℕ) (f : Fault) (gates : List ℕ)
      → HasActive c tests block f gates
      → HasActive d tests block (moved_fault c d f) (map (place c d) gates)
  pub in_lanes : (tests : List Test) (group lanes : ℕ) (f : ℕ → Fault) (gates : List ℕ)
      → HasActiveIn c tests group lanes f gates
      → HasActiveIn d tests group lanes (λ k. moved_fault c d (f k)) (map (place c d) gates)

-- the same tests detect a complemented signal, and faults arrive at it in the same lanes
pub record HasSameFlips (c d : List Statement) : Type 0 where
  pub detected : (t : Test) (s : ℕ) → DetectsFlip c t s ↔ DetectsFlip d t (place c d s)
  pub come : (tests : List Test) (group : ℕ) (f : Fault) (mask s word : ℕ)
      → HasCome c tests group f mask s word
      ↔ HasCome d tests group (moved_fault c d f) mask (place c d s) word
  pub detection : (tests : List Test) (group mask s word : ℕ)
      → TellsFirstFlips c tests group mask s word
      ↔ TellsFirstFlips d tests group mask (place c d s) word
