-- A circuit in flat lists: a row for each signal, with ranges of the lists of all pins and of all
-- readers.
use Rattle.std.specs.Prelude.{◌≡◌, ◌↔◌, ◌++◌, ℕ, ◌+◌, ◌-◌, ◌<◌, ◌≤◌, All, Bool, false, List}
use Rattle.std.specs.Prelude.{Contains, IfSome, IsTrue, Option, Some, length, slice_get}
use Rattle.std.specs.Prelude.{slice_index_or, slice_range}
use Rattle.std.specs.Option.{option_map}
use Rattle.bench_net.specs.Statement.{Statement}
use Rattle.bench_net.specs.Scan.{names, gate_of}
use Rattle.bench_net.specs.Circuit.{IsCircuit}
use Rattle.fault_model.specs.Reordered.{in_order}
use Rattle.flat_circuit.specs.declared.flat.Driver.{Driver}
use Rattle.flat_circuit.specs.declared.flat.Lists.{Lists}
use Rattle.flat_circuit.specs.declared.flat.SignalRow.{SignalRow}
use Rattle.flat_circuit.specs.declared.flat.Standing.{Standing}
use Rattle.flat_circuit.specs.Readers.{Reads, IsObserved, IsLive}
use Rattle.flat_circuit.specs.GateForms.{IsFormOf}
use Rattle.flat_circuit.specs.Arranged.{ArePlaces, IsFlowOrder}
use Rattle.flat_circuit.specs.Regions.{lone_reader}
use Rattle.flat_circuit.specs.declared.flat.FlatRows.{FlatRows}

-- each reader is a live gate that reads the signal, and each such gate is in the list
pub record AreReaders (c : List Statement) (s : ℕ) (readers : List ℕ) : Type 0 where
  pub each : All (λ gate. Reads c gate s × IsLive c gate) readers
  pub all : (g : ℕ) → Reads c g s → IsLive c g → Contains readers g

-- the list has for each signal whether it is live
abbrev pub IsLiveAt : List Statement → List Bool → ℕ → Type 0
IsLiveAt c live s = IsTrue (slice_index_or live s false) ↔ IsLive c s

abbrev pub AreLive : List Statement → List Bool → Type 0
AreLive c live = (s : ℕ) → s < length (names c) → IsLiveAt c live s

-- the numbers are the first and the last of the list, 0 if it is empty
abbrev pub HasEnds : List ℕ → ℕ → ℕ → Type 0
HasEnds pins first last =
    (slice_index_or pins 0 0 ≡ first) × (slice_index_or pins (length pins - 1) 0 ≡ last)

-- a row has the gate that drives a signal, the gates that read it, and whether an observer observes
-- it
pub record IsRow (c : List Statement) (pins readers : List ℕ) (s : ℕ) (row : SignalRow) :
    Type 0 where
  pub pins_in : (row.pins_start ≤ row.pins_end) × (row.pins_end ≤ length pins)
  pub readers_in : (row.readers_start ≤ row.readers_end) × (row.readers_end ≤ length readers)
  pub driven :
      option_map (λ driver. (driver.kind, slice_range pins row.pins_start row.pins_end)) row.driver
      ≡ gate_of c s
  pub ends : HasEnds (slice_range pins row.pins_start row.pins_end) row.first row.last
  pub formed : IfSome row.driver (λ driver. IsFormOf driver.kind driver.form)
  pub read_by : AreReaders c s (slice_range readers row.readers_start row.readers_end)
  pub observed : IsTrue row.observed ↔ IsObserved c s

-- the only gate that reads a signal, if there is one, and whether the signal is live
pub record IsStanding (c : List Statement) (s : ℕ) (standing : Standing) : Type 0 where
  pub lone : standing.lone_reader ≡ lone_reader c s
  pub live : IsTrue standing.live ↔ IsLive c s

-- the second list extends the first
abbrev pub HasMore : {X : Type 0} → List X → List X → Type 0
HasMore {X} before after = (more : List X) × (after ≡ before ++ more)

-- the kind and the form of the gate that drives a signal, and after the first list the signals that
-- its pins read
abbrev pub IsDriver : List Statement → ℕ → List ℕ → List ℕ → Option Driver → Type 0
IsDriver c s before after driver =
    (more : List ℕ) × (after ≡ before ++ more)
    × (option_map (λ (d : Driver). (d.kind, more)) driver ≡ gate_of c s)
    × IfSome driver (λ d. IsFormOf d.kind d.form)

-- the rows of signals from one on
abbrev pub AreRowsAt : List Statement → ℕ → List ℕ → List ℕ → List SignalRow → Type 0
AreRowsAt c from pins readers rows = (i : ℕ) (row : SignalRow) → slice_get rows i ≡ Some row
    → IsRow c pins readers (from + i) row

-- the positions of signals from one on
abbrev pub AreStandingsAt : List Statement → ℕ → List Standing → Type 0
AreStandingsAt c from standings = (i : ℕ) (standing : Standing)
    → slice_get standings i ≡ Some standing → IsStanding c (from + i) standing

-- the lists of the signals from one up to another, which is not included: a row and a position for
-- each
pub record AreListsOf (c : List Statement) (from end : ℕ) (lists : Lists) : Type 0 where
  pub count : from + length lists.rows.items ≡ end
  pub numbered : AreRowsAt c from lists.pins.items lists.readers.items lists.rows.items
  pub stand : from + length lists.standings.items ≡ end
  pub standing : AreStandingsAt c from lists.standings.items

-- a row with its pins and readers after this number of others
pub record IsMoved (pins readers : ℕ) (row moved : SignalRow) : Type 0 where
  pub driver : moved.driver ≡ row.driver
  pub observed : moved.observed ≡ row.observed
  pub first : moved.first ≡ row.first
  pub last : moved.last ≡ row.last
  pub pins_start : moved.pins_start ≡ pins + row.pins_start
  pub pins_end : moved.pins_end ≡ pins + row.pins_end
  pub readers_start : moved.readers_start ≡ readers + row.readers_start
  pub readers_end : moved.readers_end ≡ readers + row.readers_end

-- each row of a list so moved
pub record AreMoved (pins readers : ℕ) (rows moved : List SignalRow) : Type 0 where
  pub count : length moved ≡ length rows
  pub each : (i : ℕ) (row : SignalRow) → slice_get moved i ≡ Some row
      → (before : SignalRow) × (slice_get rows i ≡ Some before) × IsMoved pins readers before row

-- the rows of all signals
abbrev pub AreRows : List Statement → List ℕ → List ℕ → List SignalRow → Type 0
AreRows c pins readers rows = (s : ℕ) (row : SignalRow) → slice_get rows s ≡ Some row
    → IsRow c pins readers s row

-- the positions of all signals
abbrev pub AreStandings : List Statement → List Standing → Type 0
AreStandings c standings = (s : ℕ) (standing : Standing) → slice_get standings s ≡ Some standing
    → IsStanding c s standing

-- the lists belong to the circuit: a row and a position for each signal
pub record IsFlat (c : List Statement) (pins readers : List ℕ) (rows : List SignalRow)
    (standings : List Standing) : Type 0 where
  pub count : length rows ≡ length (names c)
  pub numbered : AreRows c pins readers rows
  pub stand : length standings ≡ length (names c)
  pub standing : AreStandings c standings

-- the lists have the signals of a circuit in the order of their places, the place of each, and
-- whether it is live
pub record ArePlaced (c : List Statement) (order places : List ℕ) (live : List Bool) : Type 0 where
  pub circuit : IsCircuit c
  pub ordered : IsFlowOrder c order
  pub room : length places ≡ length (names c)
  pub placed : ArePlaces c (in_order c order) places
  pub live_room : length live ≡ length (names c)
  pub alive : AreLive c live

-- the same without liveness, and the flat lists of the circuit in that order
pub record IsArrangedFlat (c : List Statement) (order places pins readers : List ℕ)
    (rows : List SignalRow) (standings : List Standing) : Type 0 where
  pub ordered : IsFlowOrder c order
  pub room : length places ≡ length (names c)
  pub placed : ArePlaces c (in_order c order) places
  pub flat : IsFlat (in_order c order) pins readers rows standings

-- these are the flat arrays of the circuit
abbrev pub AreFlatRows : List Statement → FlatRows → Type 0
AreFlatRows c rows = IsArrangedFlat c rows.order.items rows.places.items rows.lists.pins.items
    rows.lists.readers.items rows.lists.rows.items rows.lists.standings.items
