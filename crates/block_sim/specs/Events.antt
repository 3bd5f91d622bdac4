-- Words that differ from the fault-free ones, and the equations of the signals one by one.
use Rattle.std.specs.Prelude.{◌≡◌, ◌≢◌, ◌⊎◌, ℕ, Bool, false, List, Contains, Option, Some}
use Rattle.std.specs.Prelude.{slice_get, slice_index_or}
use Rattle.bench_net.specs.declared.Kind.{Kind}
use Rattle.bench_net.specs.Statement.{Name, Statement, Gate}
use Rattle.bench_net.specs.Scan.{signal, sources}
use Rattle.fault_model.specs.declared.Line.TheVariants as line
use Rattle.fault_model.specs.Fault.{Fault}
use Rattle.fault_model.specs.Solution.{Test, under, value, pins_see}
use Rattle.flat_circuit.specs.Words.{lane, word_over}
use Rattle.flat_circuit.specs.Readers.{Reads, IsLive}

-- the bits of a lane
abbrev pub bits_of : List Statement → List ℕ → List ℕ → ℕ → Name → Bool
bits_of c good delta k n = lane (word_over good delta (signal c n)) k

-- the equation of one signal
pub record HasEquation (c : List Statement) (t : Test) (f : Option Fault)
    (v : Name → Bool) (s : ℕ) : Type 0 where
  pub source : (i : ℕ) (n : Name) → signal c n ≡ s → slice_get (sources c) i ≡ Some n
      → v n ≡ under f (line.Stem s) (slice_index_or t i false)
  pub gate : (n : Name) (kind : Kind) (args : List Name) → signal c n ≡ s
      → Contains c (Gate n kind args)
      → v n ≡ under f (line.Stem s) (value kind (pins_see f v s args))

-- the fault is on no line that the equation of the signal reads or drives
pub record IsElsewhere (f : Fault) (s : ℕ) : Type 0 where
  pub stem : f.line ≢ line.Stem s
  pub pin : (pin : ℕ) → f.line ≢ line.Pin s pin

-- The live readers of a signal wait, and no other gate has begun to wait.
pub record AreScheduled (c : List Statement) (s : ℕ) (before after : List ℕ) : Type 0 where
  pub readers : (r : ℕ) → Reads c r s → IsLive c r → slice_index_or after r 0 ≢ 0
  pub only : (r : ℕ) → (slice_index_or after r 0 ≡ slice_index_or before r 0)
      ⊎ ((Reads c r s × IsLive c r) × (slice_index_or after r 0 ≢ 0))
