-- A circuit whose statements stand in another order: the same signals by other numbers, and so the
-- same faults on other lines.
use Rattle.std.specs.Prelude.{◌≡◌, ◌↔◌, ◌<◌, ℕ, Bool, not, List, ◌++◌, map, filter, length}
use Rattle.std.specs.Prelude.{AllPairs, Contains, IsPermutation, Option, Some, option_map}
use Rattle.std.specs.Prelude.{slice_get}
use Rattle.std.specs.List.{filter_map}
use Rattle.std.specs.Option.{option_map_or}
use Rattle.bench_net.specs.declared.Kind.{Kind}
use Rattle.bench_net.specs.declared.Sink.{Sink}
use Rattle.bench_net.specs.declared.Sink.TheVariants as sink
use Rattle.bench_net.specs.Statement.{Name, Statement, defines}
use Rattle.bench_net.specs.Scan.{names, name_of, signal, definition, gate_of, inputs, outputs}
use Rattle.bench_net.specs.Scan.{cells, sinks, sources}
use Rattle.bench_net.specs.Level.{HasLevel}
use Rattle.fault_model.specs.declared.Line.{Line}
use Rattle.fault_model.specs.declared.Line.TheVariants as line
use Rattle.fault_model.specs.declared.Model.{Model}
use Rattle.fault_model.specs.Fault.{Fault, faults}
use Rattle.fault_model.specs.Solution.{Test, Solves, Detects}
use Rattle.fault_model.specs.Collapse.{readers}
use Rattle.fault_model.specs.Known.{only_gate}
use Rattle.fault_model.specs.Detection.{HasBit, DetectsAt}

-- The second list has the statements of the first in another order, in which inputs, outputs and
-- cells follow one another as before.
pub record IsReordered (c d : List Statement) : Type 0 where
  pub statements : IsPermutation c d
  pub same_inputs : inputs d ≡ inputs c
  pub same_outputs : outputs d ≡ outputs c
  pub same_cells : cells d ≡ cells c

-- the number in the second list of the signal that has this number in the first; a number that no
-- signal has stays
abbrev pub place : List Statement → List Statement → ℕ → ℕ
place c d s = option_map_or (signal d) (name_of c s) s

-- the line in the second list, and a fault on it: cells and outputs have their numbers in both
abbrev pub moved_line : List Statement → List Statement → Line → Line
moved_line c d (line.Stem s) = line.Stem (place c d s)
moved_line c d (line.Pin gate pin) = line.Pin (place c d gate) pin
moved_line c d (line.Data cell) = line.Data cell
moved_line c d (line.Out output) = line.Out output

abbrev pub moved_fault : List Statement → List Statement → Fault → Fault
moved_fault c d f = record { model = f.model; line = moved_line c d f.line; stuck = f.stuck }

-- a gate's kind and the numbers of its arguments in the second list
abbrev pub moved_gate : List Statement → List Statement → Kind × List ℕ → Kind × List ℕ
moved_gate c d gate = (gate.0, map (place c d) gate.1)

-- the same signals by other numbers
pub record HasSameSignals (c d : List Statement) : Type 0 where
  pub count : length (names d) ≡ length (names c)
  pub apart : (s t : ℕ) → place c d s ≡ place c d t → s ≡ t
  pub onto : (s : ℕ) → s < length (names d) → (t : ℕ) × (t < length (names c)) × (s ≡ place c d t)
  pub named : (s : ℕ) → name_of d (place c d s) ≡ name_of c s
  pub numbered : (n : Name) → Contains (names c) n → signal d n ≡ place c d (signal c n)
  pub gates : (s : ℕ) → gate_of d (place c d s) ≡ option_map (moved_gate c d) (gate_of c s)
  pub levels : (s level : ℕ) → HasLevel c s level ↔ HasLevel d (place c d s) level

-- a sink in the second list
abbrev pub moved_sink : List Statement → List Statement → Sink → Sink
moved_sink c d (sink.Pin gate pin) = sink.Pin (place c d gate) pin
moved_sink c d (sink.Data cell) = sink.Data cell
moved_sink c d (sink.Out output) = sink.Out output

-- Each name has the same sinks, maybe in another order. A line that only a gate's pin reads in one
-- list is such a line in the other. A fault of one list is a fault of the other.
pub record HasSameSinks (c d : List Statement) : Type 0 where
  pub count : (n : Name) → length (sinks d n) ≡ length (sinks c n)
  pub to : (n : Name) (k : Sink) → Contains (sinks c n) k → Contains (sinks d n) (moved_sink c d k)
  pub back : (n : Name) (k : Sink) → Contains (sinks d n) k
      → (j : Sink) × Contains (sinks c n) j × (k ≡ moved_sink c d j)
  pub alone : (l : Line)
      → only_gate (readers d (moved_line c d l)) ≡ option_map (place c d) (only_gate (readers c l))
  pub listed : (m : Model) (f : Fault) → Contains (faults m c) f
      → Contains (faults m d) (moved_fault c d f)

-- the same valuations solve
abbrev pub IsSolvedSame : List Statement → List Statement → Type 0
IsSolvedSame c d = (t : Test) (f : Option Fault) (v : Name → Bool)
    → Solves c t f v ↔ Solves d t (option_map (moved_fault c d) f) v

-- the same tests detect a fault, give a line a bit, and detect a fault in a list of tests
abbrev pub IsDetectedSame : List Statement → List Statement → Type 0
IsDetectedSame c d = (t : Test) (f : Fault) → Detects c t f ↔ Detects d t (moved_fault c d f)

abbrev pub HasSameBits : List Statement → List Statement → Type 0
HasSameBits c d = (t : Test) (l : Line) (b : Bool)
    → HasBit c t l b ↔ HasBit d t (moved_line c d l) b

abbrev pub IsDetectedSameAt : List Statement → List Statement → Type 0
IsDetectedSameAt c d = (tests : List Test) (f : Fault) (t : ℕ)
    → DetectsAt c tests f t ↔ DetectsAt d tests (moved_fault c d f) t

-- the statements in an order of signals: the outputs, and then the definition of each signal
abbrev pub in_order : List Statement → List ℕ → List Statement
in_order c order = filter (λ s. not (defines s)) c ++ filter_map (definition c) order

-- the signal of this number is a source
abbrev pub IsSourceAt : List Statement → ℕ → Type 0
IsSourceAt c s = (n : Name) × (name_of c s ≡ Some n) × Contains (sources c) n

-- the numbers of all signals, in which the sources' numbers ascend
pub record IsSignalOrder (c : List Statement) (order : List ℕ) : Type 0 where
  pub all : (s : ℕ) → s < length (names c) → Contains order s
  pub count : length order ≡ length (names c)
  pub ascending : AllPairs (λ s t. IsSourceAt c s → IsSourceAt c t → s < t) order

-- in such an order the statements are the same circuit, in which each signal has its place in the
-- order as its number
pub record IsOrderedBy (c : List Statement) (order : List ℕ) : Type 0 where
  pub reordered : IsReordered c (in_order c order)
  pub places : (i s : ℕ) → slice_get order i ≡ Some s → place c (in_order c order) s ≡ i
