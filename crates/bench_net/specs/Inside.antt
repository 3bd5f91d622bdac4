-- The contents of a circuit: a statement list, and tables that agree with it.
use Rattle.std.specs.Prelude.{◌≡◌, ◌≢◌, ℕ, ◌+◌, ◌<◌, ◌^◌, List, length, map, filter, All, Contains}
use Rattle.std.specs.Prelude.{Option, Some, None, IfSome, IfNone, slice_get, slice_index}
use Rattle.std.specs.Prelude.{slice_index_or}
use Rattle.std.specs.List.{filter_map}
use Rattle.bench_net.specs.declared.line.NumberedLine.{NumberedLine}
use Rattle.bench_net.specs.declared.tables.SignalTables.{SignalTables}
use Rattle.bench_net.specs.declared.tables.SinkTables.{SinkTables}
use Rattle.bench_net.specs.declared.tables.Tables.{Tables}
use Rattle.bench_net.specs.Statement.{Name, Statement}
use Rattle.bench_net.specs.Scan.{names, signal, name_of, gate_of, inputs, outputs, cells, sources}
use Rattle.bench_net.specs.Scan.{sinks}
use Rattle.bench_net.specs.Circuit.{IsCircuit}
use Rattle.bench_net.specs.Level.{greatest, HasLevel, HasDepth, IsLevelOrder}
use Rattle.bench_net.specs.Rows.{AreRows}
use Rattle.bench_net.specs.Tables.{PinsFit, signal_read, input_number, cell_numbers, output_number}
use Rattle.bench_net.specs.Tables.{source_signals, ArePlaces, definition_places, signals_in}
use Rattle.bench_net.specs.Tables.{defines_number}
use Rattle.bench_net.specs.Tables.{line_gate, gate_pins, all_readers, AreSinkRows, HasRow, row_of}
use Rattle.bench_net.specs.Marks.{IsGraph, AreLevelsOf}

-- lines few enough to be numbered, which name no other signals than the ones that they define
pub record AreTableLines (lines : List NumberedLine) : Type 0 where
  pub few_lines : length lines < 2 ^ 31
  pub few_sources : length (source_signals lines) < 2 ^ 31
  pub sources_below : All (λ s. s < signals_in lines) (source_signals lines)
  pub few_outputs : length (filter_map output_number lines) < 2 ^ 31
  pub few_readers : length (all_readers lines (filter_map output_number lines)) < 2 ^ 31
  pub readers_below : All (λ s. s < signals_in lines)
      (map signal_read (all_readers lines (filter_map output_number lines)))
  pub pins_fit : (l : NumberedLine) → Contains lines l → PinsFit l
  pub graph : IsGraph lines

-- the tables of the signals that lines define
pub record AreSignalTables (lines : List NumberedLine) (tables : SignalTables) : Type 0 where
  pub inputs_are : tables.inputs.items ≡ filter_map input_number lines
  pub cells_are : tables.cells.items ≡ filter_map cell_numbers lines
  pub sources_are : tables.sources.items ≡ source_signals lines
  pub definitions_are : tables.definitions.items ≡ definition_places lines
  pub places_are : ArePlaces (source_signals lines) (signals_in lines)
      (length (source_signals lines)) tables.source_places.items

-- and those of what reads the signals
pub record AreSinkTables (lines : List NumberedLine) (tables : SinkTables) : Type 0 where
  pub outputs_are : tables.outputs.items ≡ filter_map output_number lines
  pub sinks_are : AreSinkRows (all_readers lines (filter_map output_number lines))
      (signals_in lines) tables.sinks.starts.items tables.sinks.sinks.items

-- the tables of lines over numbered signals
pub record AreTables (lines : List NumberedLine) (tables : Tables) : Type 0 where
  pub of_signals_are : AreSignalTables lines tables.of_signals
  pub of_sinks_are : AreSinkTables lines tables.of_sinks
  pub levels_are : AreLevelsOf (gate_pins lines) (signals_in lines) tables.levels.levels.items
  pub order_is : (starts : List ℕ) × AreRows tables.levels.levels.items (tables.levels.depth + 1)
      starts tables.levels.order.items
  pub depth_is : tables.levels.depth ≡ greatest tables.levels.levels.items

-- the place of a signal in a test, or none
abbrev pub IsPlace : List Statement → ℕ → Option ℕ → Type 0
IsPlace c s place = IfSome place (λ i. slice_get (sources c) i ≡ name_of c s)
    × IfNone place ((i : ℕ) → slice_get (sources c) i ≢ name_of c s)

-- the names are the names of a circuit, and the tables are its tables
pub record IsInside (c : List Statement) (ns : List Name) (lines : List NumberedLine)
    (tables : Tables) : Type 0 where
  pub circuit : IsCircuit c
  pub names_are : names c ≡ ns
  pub inputs_are : tables.of_signals.inputs.items ≡ map (signal c) (inputs c)
  pub cells_are : map {B = ℕ × ℕ} (λ cell. (cell.q, cell.d)) tables.of_signals.cells.items
      ≡ map (λ cell. (signal c cell.0, signal c cell.1)) (cells c)
  pub outputs_are : tables.of_sinks.outputs.items ≡ map (signal c) (outputs c)
  pub source_count : length tables.of_signals.sources.items ≡ length (sources c)
  pub place_count : length tables.of_signals.source_places.items ≡ length (names c)
  pub places_are : (s : ℕ) → s < length (names c)
      → IsPlace c s (slice_index_or tables.of_signals.source_places.items s None)
  pub few_lines : length lines < 2 ^ 32
  pub definitions_are : tables.of_signals.definitions.items ≡ definition_places lines
  pub definition_count : length tables.of_signals.definitions.items ≡ length (names c)
  pub gates_are : (s : ℕ) → line_gate (slice_get (filter defines_number lines) s) ≡ gate_of c s
  pub have_rows : (s : ℕ) → s < length (names c)
      → HasRow tables.of_sinks.sinks.starts.items tables.of_sinks.sinks.sinks.items s
  pub sinks_are : (s : ℕ) (n : Name) → name_of c s ≡ Some n
      → row_of tables.of_sinks.sinks.starts.items tables.of_sinks.sinks.sinks.items s ≡ sinks c n
  pub level_count : length tables.levels.levels.items ≡ length (names c)
  pub levels_are : (s : ℕ) → s < length (names c)
      → HasLevel c s (slice_index tables.levels.levels.items s)
  pub order_is : IsLevelOrder c tables.levels.order.items
  pub depth_is : HasDepth c tables.levels.depth
