-- Levels of gates by the numbers of their signals, and a search for them.
use Rattle.std.specs.Prelude.{◌≡◌, ℕ, ◌+◌, ◌-◌, ◌*◌, ◌<◌, ◌≤◌, ◌^◌, List, [], ◌∷◌, map, take}
use Rattle.std.specs.Prelude.{length, max, count_by, sum_by, Some, slice_get, slice_index, Bool}
use Rattle.std.specs.Prelude.{true, false}
use Rattle.list_lemmas.proofs.Members.{Among}
use Rattle.bench_net.specs.declared.line.NumberedLine.{NumberedLine}
use Rattle.bench_net.specs.declared.levels.Mark.{Mark}
use Rattle.bench_net.specs.declared.levels.Mark.TheVariants.{Unknown, Open, Level}
use Rattle.bench_net.specs.declared.levels.OpenGate.{OpenGate}
use Rattle.bench_net.specs.declared.levels.PinRows.{PinRows}
use Rattle.bench_net.specs.declared.BenchFault.{BenchFault}
use Rattle.bench_net.specs.declared.BenchFault.TheVariants.{Memory, Cycle}
use Rattle.bench_net.specs.Tables.{signals_in, all_pins, HasRow, row_of}
pub use Rattle.bench_net.specs.Tables.{pins_in, gate_pins}

-- lines few enough to be numbered, whose pins each read a signal
pub record IsGraph (lines : List NumberedLine) : Type 0 where
  pub few : signals_in lines < 2 ^ 31
  pub few_pins : length (all_pins lines) < 2 ^ 32
  pub pins_below : (s p : ℕ) → Among p (gate_pins lines s) → p < signals_in lines

-- the signals that a signal's row of pins reads
abbrev pub pins_by : PinRows → ℕ → List ℕ
pins_by rows s = row_of rows.starts.items rows.pins.items s

-- the pins of each signal below a number are a row, and no other signal has pins
pub record ArePinRows (pins : ℕ → List ℕ) (signals : ℕ) (rows : PinRows) : Type 0 where
  pub have_rows : (s : ℕ) → s < signals → HasRow rows.starts.items rows.pins.items s
  pub rows_are : (s : ℕ) → pins_by rows s ≡ pins s

-- each signal below a number has a row of pins, and each pin reads a signal
pub record IsPinGraph (rows : PinRows) (signals : ℕ) : Type 0 where
  pub few : signals < 2 ^ 31
  pub have_rows : (s : ℕ) → s < signals → HasRow rows.starts.items rows.pins.items s
  pub few_pins : (s : ℕ) → length (pins_by rows s) < 2 ^ 32
  pub pins_below : (s p : ℕ) → Among p (pins_by rows s) → p < signals

-- signals that all have levels, and one more than the greatest of these
pub data HaveLevels (pins : ℕ → List ℕ) : List ℕ → ℕ → Type 0 where
  no_signal : HaveLevels pins [] 0
  one_more : (p : ℕ) (ps : List ℕ) (k above level : ℕ) → HaveLevels pins (pins p) k
      → HaveLevels pins ps above → level ≡ max (1 + k) above → HaveLevels pins (p ∷ ps) level

-- the levels of all signals
pub record AreLevelsOf (pins : ℕ → List ℕ) (signals : ℕ) (levels : List ℕ) : Type 0 where
  pub count : length levels ≡ signals
  pub each : (s : ℕ) → s < signals → HaveLevels pins (pins s) (slice_index levels s)
  pub of_pins : (s p : ℕ) → Among p (pins s) → HaveLevels pins (pins p) (slice_index levels p)

-- the signal is in a set of signals each of which reads one of the set
abbrev pub IsStuckAt : (ℕ → List ℕ) → ℕ → Type 0
IsStuckAt pins s = (members : List ℕ)
    × ((m : ℕ) → Among m members → (p : ℕ) × Among p (pins m) × Among p members)
    × Among s members

-- each signal below a number has a level
abbrev pub HaveLevelsBelow : (ℕ → List ℕ) → ℕ → Type 0
HaveLevelsBelow pins s = (lower : ℕ) → lower < s → (k : ℕ) × HaveLevels pins (pins lower) k

-- a stuck signal below which each has a level
abbrev pub IsLowestStuck : (ℕ → List ℕ) → ℕ → ℕ → Type 0
IsLowestStuck pins signals s = (s < signals) × IsStuckAt pins s × HaveLevelsBelow pins s

-- the error is a cycle only at such a signal, by the number of its line
abbrev pub IsLevelFault : (ℕ → List ℕ) → ℕ → List ℕ → BenchFault → Type 0
IsLevelFault pins signals at Memory = Unit {0}
IsLevelFault pins signals at (Cycle number) =
    (s : ℕ) × (slice_get at s ≡ Some number) × IsLowestStuck pins signals s
IsLevelFault pins signals at _ = ⊥

abbrev pub is_unknown : Mark → Bool
is_unknown Unknown = true
is_unknown _ = false

-- the number of signals that wait for a level, if a path leads through the open ones
abbrev pub waiting_in : List Mark → List OpenGate → ℕ
waiting_in marks path = count_by is_unknown marks + length path

-- the greatest number of steps that are left
abbrev pub pins_left : (ℕ → List ℕ) → OpenGate → ℕ
pins_left pins gate = 1 + (length (pins gate.signal) - gate.pin)

abbrev pub steps : (ℕ → List ℕ) → List Mark → List OpenGate → ℕ
steps pins marks path = count_by is_unknown marks * 4294967297 + sum_by (pins_left pins) path

abbrev pub signals_of : List OpenGate → List ℕ
signals_of path = map (λ gate. gate.signal) path

-- a signal is read by the first of some gates, or it is the last that was begun
abbrev pub IsRead : (ℕ → List ℕ) → ℕ → ℕ → List ℕ → Type 0
IsRead pins begun s [] = s + 1 ≡ begun
IsRead pins begun s (g ∷ gates) = Among s (pins g)

-- signals each of which the next one reads
abbrev pub IsPath : (ℕ → List ℕ) → ℕ → List ℕ → Type 0
IsPath pins begun [] = Unit {0}
IsPath pins begun (g ∷ gates) = IsRead pins begun g gates × IsPath pins begun gates

-- the meaning of a signal's mark, by the numbers of begun and of waiting signals and the open ones
abbrev pub IsMark : (ℕ → List ℕ) → ℕ → ℕ → ℕ → List ℕ → ℕ → Mark → Type 0
IsMark pins signals begun waits gates s Unknown = begun ≤ s
IsMark pins signals begun waits gates s Open = Among s gates
IsMark pins signals begun waits gates s (Level k) =
    HaveLevels pins (pins s) k × (k + waits < signals)

-- the meaning of a gate on the path, by the numbers of all signals and of signals without a level
abbrev pub IsOpen : (ℕ → List ℕ) → ℕ → ℕ → OpenGate → Type 0
IsOpen pins signals waits gate = (gate.signal < signals)
    × HaveLevels pins (take gate.pin (pins gate.signal)) gate.level
    × (gate.level + waits ≤ signals)

-- A search for levels that has begun the first `begun` signals. The open ones are a path from the
-- last one that it met to the last one that it began, and the others that it began have levels.
pub record IsSearch (pins : ℕ → List ℕ) (signals begun : ℕ) (marks : List Mark)
    (path : List OpenGate) : Type 0 where
  pub count : length marks ≡ signals
  pub each : (s : ℕ) (m : Mark) → slice_get marks s ≡ Some m
      → IsMark pins signals begun (waiting_in marks path) (signals_of path) s m
  pub opens : (gate : OpenGate) → Among gate path
      → IsOpen pins signals (waiting_in marks path) gate
  pub path_is : IsPath pins begun (signals_of path)

-- the level in a mark
abbrev pub level_in : Mark → ℕ
level_in (Level k) = k
level_in _ = 0
