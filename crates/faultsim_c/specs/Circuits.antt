-- The circuit of a job in arrays: kinds, levels and values of its signals, the signals that its
-- gates read, the pins that read a signal, and the sites of its faults.
use Rattle.std.specs.Prelude.{◌≡◌, ℕ, zero, suc, ◌+◌, ◌<◌, ◌≤◌, List, [], ◌++◌, Bool, true, false}
use Rattle.std.specs.Prelude.{Option, Some, None, ◌==◌, filter, length, map, slice_get, slice_index}
use Rattle.std.specs.List.{enumerate_from}
use Rattle.bench_net.specs.declared.Kind.{Kind}
use Rattle.bench_net.specs.declared.Kind.TheVariants.{And, Nand, Or, Nor, Xor, Xnor, Not, Buff}
use Rattle.bench_net.specs.Level.{HasLevel}
use Rattle.bench_net.specs.Scan.{gate_of, names}
use Rattle.bench_net.specs.Statement.{Statement}
use Rattle.fault_model.specs.declared.Line.{Line}
use Rattle.fault_model.specs.declared.Line.TheVariants as line
use Rattle.fault_model.specs.Fault.{Fault}
use Rattle.block_sim.specs.Parts.{Parts}
use Rattle.flat_circuit.specs.Words.{IsFaultFreeWord}
use Rattle.faultsim_c.specs.declared.circuit.FsPin.{FsPin}
use Rattle.faultsim_c.specs.declared.circuit.FsSite.{FsSite}

-- the number of a kind of gate
abbrev pub gate_number : Kind → ℕ
gate_number And = 1
gate_number Nand = 2
gate_number Or = 3
gate_number Nor = 4
gate_number Xor = 5
gate_number Xnor = 6
gate_number Not = 7
gate_number Buff = 8

-- the number of the kind of the gate that drives a signal; 0 for a source
abbrev pub kind_number : Option (Kind × List ℕ) → ℕ
kind_number None = 0
kind_number (Some gate) = gate_number gate.0

-- the kind of each signal, at its place
abbrev pub AreKindsOf : List Statement → List ℕ → Type 0
AreKindsOf c kinds = (s : ℕ) → s < length (names c)
    → slice_index kinds s ≡ kind_number (gate_of c s)

-- the level of a signal
pub record IsLevelAt (c : List Statement) (s level : ℕ) : Type 0 where
  pub is : HasLevel c s level

-- the level of each signal, at its place
abbrev pub AreLevelsOf : List Statement → List ℕ → Type 0
AreLevelsOf c levels = (s : ℕ) → s < length (names c) → IsLevelAt c s (slice_index levels s)

-- the fault-free word of each signal on a block, at its place
abbrev pub AreValuesOf : Parts → ℕ → List ℕ → Type 0
AreValuesOf parts block words = (s : ℕ) → s < length (names parts.circuit)
    → IsFaultFreeWord parts.circuit parts.tests.tests block s (slice_index words s)

-- the signals that the pins of a gate read, in order
abbrev pub pins_read : Option (Kind × List ℕ) → List ℕ
pins_read None = []
pins_read (Some gate) = gate.1

-- the fan-in of a signal: the signals that the pins of its gate read; nothing for a source
abbrev pub fan_in : List Statement → ℕ → List ℕ
fan_in c s = pins_read (gate_of c s)

-- the first rows, one after the other
abbrev pub rows_before : {X : Type 0} → (ℕ → List X) → ℕ → List X
rows_before row zero = []
rows_before row (suc k) = rows_before row k ++ row k

-- all rows, one after the other, and the start of each; the last start is the number of items
pub record AreRows {X : Type 0} (row : ℕ → List X) (count : ℕ) (starts : List ℕ)
    (items : List X) : Type 0 where
  pub start_count : length starts ≡ count + 1
  pub each : (k : ℕ) → k ≤ count → slice_index starts k ≡ length (rows_before row k)
  pub items_are : items ≡ rows_before row count

-- the pins of all gates, signal by signal
abbrev pub all_pins : List Statement → List ℕ
all_pins c = rows_before (fan_in c) (length (names c))

-- the pins of a gate, given what they read, that read a signal, in order
abbrev pub pins_reading : ℕ → ℕ → List ℕ → List FsPin
pins_reading s gate reads = map (λ at. record { gate = gate; pin = at.0 })
    (filter (λ at. at.1 == s) (enumerate_from 0 reads))

-- the fan-out of a signal: the pins that read it, gate by gate. It is the transpose of the fan-in:
-- each pin of a gate is in the fan-out of the one signal that it reads.
abbrev pub fan_out : List Statement → ℕ → List FsPin
fan_out c s = rows_before (λ gate. pins_reading s gate (fan_in c gate)) (length (names c))

-- the number of a fault's bit
abbrev pub bit_number : Bool → ℕ
bit_number false = 0
bit_number true = 1

-- the site of a line with a bit: a kind of line, the number of its signal, gate, flip-flop or
-- OUTPUT line, the pin of a gate, and the bit
abbrev pub site_on : Line → ℕ → FsSite
site_on (line.Stem s) bit = record { kind = 0; at = s; pin = 0; stuck = bit }
site_on (line.Pin g p) bit = record { kind = 1; at = g; pin = p; stuck = bit }
site_on (line.Data i) bit = record { kind = 2; at = i; pin = 0; stuck = bit }
site_on (line.Out o) bit = record { kind = 3; at = o; pin = 0; stuck = bit }

-- the site of a fault
abbrev pub site_of : Fault → FsSite
site_of f = site_on f.line (bit_number f.stuck)

-- a site that stands in no array yet
abbrev pub no_site : FsSite
no_site = record { kind = 0; at = 0; pin = 0; stuck = 0 }

-- the site of each fault, at its place
abbrev pub AreSitesOf : Parts → List FsSite → Type 0
AreSitesOf parts sites = (i : ℕ) (f : Fault) → slice_get parts.list.list i ≡ Some f
    → slice_get sites i ≡ Some (site_of f)
