-- The report of the pins that block the effects of undetected faults.
use Rattle.std.specs.Prelude.{◌≡◌, ◌+◌, ◌<◌, ℕ, Bool, List, ◌++◌, Option, codes, decimal, flat_map}
use Rattle.std.specs.Prelude.{is_some, length, map}
use Rattle.bench_net.specs.Scan.{names}
use Rattle.bench_net.specs.Statement.{Statement}
use Rattle.patterns.specs.Tests.{as_number}
use Rattle.block_sim.specs.Parts.{Parts}
use Rattle.blocking_pins.specs.declared.pins.BlockingPin.{BlockingPin}
use Rattle.blocking_pins.specs.Blocking.{AreBlockingPins}
use Rattle.workers.specs.Verdict.{AreFirsts}
use Rattle.report.specs.Report.{coverage_line, signal_text}
use Rattle.analysis_reports.specs.declared.blocking.NamedPin.{NamedPin}
use Rattle.analysis_reports.specs.Blocks.{flagged}

-- The cells of a pin: the gate's name, the pin's number from 1, the name of the signal that it
-- reads, the controlling value, and the numbers of the faults and of the tests.
pub record PinCells : Type 0 where
  pub gate : List ℕ
  pub pin : ℕ
  pub net : List ℕ
  pub value : ℕ
  pub faults : ℕ
  pub tests : ℕ

-- those of a pin of a circuit
abbrev pub pin_cells : List Statement → BlockingPin → PinCells
pin_cells c row = record {
  gate = signal_text c row.gate;
  pin = row.pin + 1;
  net = signal_text c row.read;
  value = as_number row.value;
  faults = row.faults;
  tests = row.tests;
}

-- the same from the form of the program
abbrev pub cells_in : NamedPin → PinCells
cells_in pin = record {
  gate = pin.gate.now;
  pin = pin.pin;
  net = pin.net.now;
  value = pin.value;
  faults = pin.faults;
  tests = pin.tests;
}

-- both signals of a pin are in the circuit, so they have names
abbrev pub HasNames : List Statement → BlockingPin → Type 0
HasNames c row = (row.gate < length (names c)) × (row.read < length (names c))

-- the line of a pin, `pin GATE K NET V F T`
abbrev pub pin_line : PinCells → List ℕ
pin_line pin = codes "pin " ++ (pin.gate ++ (codes " " ++ (decimal pin.pin
    ++ (codes " " ++ (pin.net ++ (codes " " ++ (decimal pin.value
    ++ (codes " " ++ (decimal pin.faults ++ (codes " " ++ (decimal pin.tests
    ++ codes "\n")))))))))))

-- the coverage line of faults that are detected or not, and the line of each pin
abbrev pub blocking_text : List Statement → List Bool → List BlockingPin → List ℕ
blocking_text c flags rows = coverage_line (flagged flags) (length flags)
    ++ flat_map (λ row. pin_line (pin_cells c row)) rows

-- the bytes are the report of a job, with a flag for each fault that is detected
abbrev pub IsBlockingReport : Parts → List Bool → List ℕ → Type 0
IsBlockingReport job flags bytes = (rows : List BlockingPin) × AreBlockingPins job rows
    × (bytes ≡ blocking_text job.circuit flags rows)

-- the same for the faults that the tests of the job detect
abbrev pub IsBlockingReportOfJob : Parts → List ℕ → Type 0
IsBlockingReportOfJob job bytes = (firsts : List (Option ℕ))
    × AreFirsts job.list.model job.circuit job.tests.tests firsts
    × IsBlockingReport job (map is_some firsts) bytes
