-- Tables of stored lines, by the numbers that the lines hold.
use Rattle.std.specs.Prelude.{◌≡◌, ◌≢◌, ℕ, ◌+◌, ◌<◌, ◌≤◌, ◌^◌, ◌==◌, Bool, List, [], ◌∷◌, ◌++◌, map}
use Rattle.std.specs.Prelude.{filter, length, Option, Some, None, true, false, if◌then◌else◌}
use Rattle.std.specs.Prelude.{flat_map, slice_get, slice_index, slice_index_or, slice_range}
use Rattle.std.specs.List.{enumerate_from, filter_map}
use Rattle.bench_net.specs.declared.Kind.{Kind}
use Rattle.bench_net.specs.declared.line.NumberedLine.{NumberedLine}
use Rattle.bench_net.specs.declared.line.NumberedLine.TheVariants as line
use Rattle.bench_net.specs.declared.ScanCell.{ScanCell}
use Rattle.bench_net.specs.declared.Sink.{Sink}
use Rattle.bench_net.specs.declared.Sink.TheVariants.{Pin, Data, Out}
use Rattle.bench_net.specs.declared.sinks.Reader.{Reader}

-- the number that an INPUT line defines
abbrev pub input_number : NumberedLine → Option ℕ
input_number (line.Input s) = Some s
input_number _ = None

-- the number that an OUTPUT line observes
abbrev pub output_number : NumberedLine → Option ℕ
output_number (line.Output s) = Some s
output_number _ = None

-- the cell of a flip-flop line
abbrev pub cell_numbers : NumberedLine → Option ScanCell
cell_numbers (line.Dff q d) = Some (record { q = q; d = d })
cell_numbers _ = None

-- the kind and the pins of a gate line
abbrev pub line_gate : Option NumberedLine → Option (Kind × List ℕ)
line_gate (Some (line.Gate s g)) = Some (g.kind, g.pins.items)
line_gate _ = None

-- the signals that a gate reads, if there is a gate
abbrev pub pins_in : Option (Kind × List ℕ) → List ℕ
pins_in None = []
pins_in (Some gate) = gate.1

-- a line defines a signal: every line but an OUTPUT line does
abbrev pub defines_number : NumberedLine → Bool
defines_number (line.Output s) = false
defines_number _ = true

-- the places of the lines that define a signal, in order
abbrev pub place_in : ℕ × NumberedLine → Option ℕ
place_in at = if defines_number at.1 then Some at.0 else None

abbrev pub definition_places : List NumberedLine → List ℕ
definition_places lines = filter_map place_in (enumerate_from 0 lines)

-- the number of signals that lines define
abbrev pub signals_in : List NumberedLine → ℕ
signals_in lines = length (definition_places lines)

-- the numbers that the pins of a signal's gate read
abbrev pub gate_pins : List NumberedLine → ℕ → List ℕ
gate_pins lines s = pins_in (line_gate (slice_get (filter defines_number lines) s))

-- the numbers that the pins of all gates read, in order
abbrev pub all_pins : List NumberedLine → List ℕ
all_pins lines = flat_map (λ l. pins_in (line_gate (Some l))) lines

-- of each signal below a number its place among the first n sources
pub record ArePlaces (sources : List ℕ) (signals n : ℕ) (places : List (Option ℕ)) : Type 0 where
  pub count : length places ≡ signals
  pub some : (s i : ℕ) → s < signals → slice_index_or places s None ≡ Some i
      → (i < n) × (slice_index sources i ≡ s)
  pub none : (s i : ℕ) → s < signals → slice_index_or places s None ≡ None → i < n
      → slice_index sources i ≢ s

-- the signal that a reader reads
abbrev pub signal_read : Reader → ℕ
signal_read reader = reader.signal

-- sinks that read these signals, numbered from a number on
abbrev pub readers_from : (ℕ → Sink) → ℕ → List ℕ → List Reader
readers_from sink from signals =
    map (λ at. record { signal = at.1; sink = sink at.0 }) (enumerate_from from signals)

-- the pins of a gate as readers, in order
abbrev pub pin_readers : ℕ → List ℕ → List Reader
pin_readers gate pins = readers_from (Pin gate) 0 pins

-- the outputs as readers, in order
abbrev pub output_readers : List ℕ → List Reader
output_readers outputs = readers_from Out 0 outputs

-- the gate pins and data pins of lines, in order, if the first cell has this number
abbrev pub line_readers : ℕ → List NumberedLine → List Reader
line_readers cell [] = []
line_readers cell (line.Input s ∷ lines) = line_readers cell lines
line_readers cell (line.Output s ∷ lines) = line_readers cell lines
line_readers cell (line.Gate s gate ∷ lines) =
    pin_readers s gate.pins.items ++ line_readers cell lines
line_readers cell (line.Dff q d ∷ lines) =
    record { signal = d; sink = Data cell } ∷ line_readers (cell + 1) lines

-- the readers of all signals: gate pins and data pins by their lines, then the outputs
abbrev pub all_readers : List NumberedLine → List ℕ → List Reader
all_readers lines outputs = line_readers 0 lines ++ output_readers outputs

-- the reader at a place, and past the last one a reader of nothing
abbrev pub no_reader : Reader
no_reader = record { signal = 0; sink = Pin 0 0 }

abbrev pub reader_at : List Reader → ℕ → Reader
reader_at readers place = slice_index_or readers place no_reader

-- the sinks of one signal among the readers
abbrev pub sinks_at : List Reader → ℕ → List Sink
sinks_at readers s = map (λ reader. reader.sink) (filter (λ reader. reader.signal == s) readers)

-- a signal has a row of a list
pub record HasRow {X : Type 0} (starts : List ℕ) (xs : List X) (s : ℕ) : Type 0 where
  pub known : s + 1 < length starts
  pub in_order : slice_index starts s ≤ slice_index starts (s + 1)
  pub within : slice_index starts (s + 1) ≤ length xs

-- the row of a signal
abbrev pub row_of : {X : Type 0} → List ℕ → List X → ℕ → List X
row_of starts xs s = slice_range xs (slice_index starts s) (slice_index starts (s + 1))

-- the sinks of each signal below a number, row by row
pub record AreSinkRows (readers : List Reader) (signals : ℕ) (starts : List ℕ)
    (sinks : List Sink) : Type 0 where
  pub row : (s : ℕ) → s < signals
      → HasRow starts sinks s × (row_of starts sinks s ≡ sinks_at readers s)

-- a line's pins can be numbered
abbrev pub PinsFit : NumberedLine → Type 0
PinsFit (line.Gate s gate) = length gate.pins.items < 2 ^ 32
PinsFit _ = Unit {0}

-- the signals of the inputs, and then the signals of the cells' outputs
abbrev pub source_signals : List NumberedLine → List ℕ
source_signals lines =
    filter_map input_number lines ++ map (λ cell. cell.q) (filter_map cell_numbers lines)
