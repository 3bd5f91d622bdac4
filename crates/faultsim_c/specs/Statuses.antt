-- The report to C of a call that isn't done.
use Rattle.std.specs.Prelude.{◌≡◌, ◌⊎◌, ◌+◌, ◌<◌, ⊤, ℕ, Bool, false, List, length}
use Rattle.bench_net.specs.Refusal.{IsAccepted, IsRefused}
use Rattle.bench_net.specs.Scan.{sources}
use Rattle.bench_net.specs.Statement.{Statement}
use Rattle.bench_net.specs.declared.BenchFault.{BenchFault}
use Rattle.bench_net.specs.declared.BenchFault.TheVariants as bench
use Rattle.bench_net.specs.declared.Limit.TheVariants as limit
use Rattle.patterns.specs.Making.{IsWordsRefusal}
use Rattle.patterns.specs.Tests.{IsTestRefusal, max_tests}
use Rattle.patterns.specs.declared.TestFault.{TestFault}
use Rattle.patterns.specs.declared.TestFault.TheVariants as tests
use Rattle.patterns.specs.declared.WordsFault.{WordsFault}
use Rattle.patterns.specs.declared.WordsFault.TheVariants as words
use Rattle.faultsim_c.specs.Following.{last_of}
use Rattle.faultsim_c.specs.declared.status.FsFault.{FsFault}
use Rattle.faultsim_c.specs.declared.status.Refusal.{Refusal}
use Rattle.faultsim_c.specs.declared.status.Refusal.TheVariants as refusal

-- the status
abbrev pub status_number : Refusal → ℕ
status_number refusal.Memory = 2
status_number (refusal.Bench bench.Memory) = 2
status_number (refusal.Tests tests.Memory) = 2
status_number (refusal.Words words.Memory) = 2
status_number refusal.Shared = 5
status_number _ = 3

-- a kind and a place
abbrev fault : ℕ → ℕ → FsFault
fault kind place = record { kind = kind; place = place }

-- the error by a kind and a place; 0 if no file and no words are wrong
abbrev pub error_numbers : Refusal → FsFault
error_numbers (refusal.Bench (bench.TooLarge limit.Bytes)) = fault 1 0
error_numbers (refusal.Bench (bench.TooLarge limit.Signals)) = fault 2 0
error_numbers (refusal.Bench (bench.TooLarge limit.Sinks)) = fault 3 0
error_numbers (refusal.Bench (bench.Syntax line)) = fault 4 line
error_numbers (refusal.Bench (bench.Redefined line)) = fault 5 line
error_numbers (refusal.Bench (bench.Undefined line)) = fault 6 line
error_numbers (refusal.Bench (bench.Cycle line)) = fault 7 line
error_numbers (refusal.Bench bench.Empty) = fault 8 0
error_numbers (refusal.Bench bench.Memory) = fault 0 0
error_numbers (refusal.Tests (tests.BadByte line)) = fault 9 line
error_numbers (refusal.Tests (tests.BadWidth line)) = fault 10 line
error_numbers (refusal.Tests tests.TooMany) = fault 11 0
error_numbers (refusal.Tests tests.Memory) = fault 0 0
error_numbers (refusal.Words words.TooMany) = fault 12 0
error_numbers (refusal.Words words.BadCount) = fault 13 0
error_numbers (refusal.Words (words.IdleBits source)) = fault 14 source
error_numbers (refusal.Words words.Memory) = fault 0 0
error_numbers refusal.Shared = fault 0 0
error_numbers refusal.Memory = fault 0 0

-- the error of a circuit
abbrev pub IsBenchReply : List ℕ → Refusal → Type 0
IsBenchReply netlist (refusal.Bench f) = (f ≡ bench.Memory) ⊎ IsRefused netlist f
IsBenchReply netlist refusal.Memory = ⊤
IsBenchReply netlist _ = ⊥

-- the error of right tests that aren't taken: only memory, if no other handle shares the job
abbrev pub IsUntaken : Bool → Refusal → Type 0
IsUntaken alone refusal.Memory = ⊤
IsUntaken alone refusal.Shared = alone ≡ false
IsUntaken alone _ = ⊥

-- the error of the tests of a file
abbrev pub IsTestsReply : Bool → ℕ → List ℕ → Refusal → Type 0
IsTestsReply alone width text (refusal.Tests f) = (f ≡ tests.Memory) ⊎ IsTestRefusal text width f
IsTestsReply alone width text refusal.Memory = ⊤
IsTestsReply alone width text refusal.Shared = alone ≡ false
IsTestsReply alone width text _ = ⊥

-- the error of tests in words
abbrev pub IsWordsReply : Bool → ℕ → ℕ → List ℕ → Refusal → Type 0
IsWordsReply alone width count ws (refusal.Words f) =
    (f ≡ words.Memory) ⊎ IsWordsRefusal width count ws f
IsWordsReply alone width count ws refusal.Memory = ⊤
IsWordsReply alone width count ws refusal.Shared = alone ≡ false
IsWordsReply alone width count ws _ = ⊥

-- this number of tests is too many after the last of others
abbrev pub AreTooMany : List (List Bool) → ℕ → WordsFault → Type 0
AreTooMany old count f = (f ≡ words.TooMany) × (max_tests < length (last_of old) + count)

-- the error of this number of tests after the last of others
abbrev pub IsNextRefusal : List (List Bool) → ℕ → Refusal → Type 0
IsNextRefusal old count (refusal.Words f) = AreTooMany old count f
IsNextRefusal old count refusal.Memory = ⊤
IsNextRefusal old count _ = ⊥

-- the error of tests in words after the last of others
abbrev pub IsNextReply : Bool → List (List Bool) → ℕ → ℕ → List ℕ → Refusal → Type 0
IsNextReply alone old width count ws (refusal.Words f) =
    (f ≡ words.Memory) ⊎ (IsWordsRefusal width count ws f ⊎ AreTooMany old count f)
IsNextReply alone old width count ws refusal.Memory = ⊤
IsNextReply alone old width count ws refusal.Shared = alone ≡ false
IsNextReply alone old width count ws _ = ⊥

-- the circuit is accepted, and its tests have an error
abbrev pub IsRefusedFor : List ℕ → List ℕ → TestFault → Type 0
IsRefusedFor netlist text f = (c : List Statement) × IsAccepted netlist c
    × IsTestRefusal text (length (sources c)) f

-- the error of a circuit and its tests
abbrev pub IsTextsReply : List ℕ → List ℕ → Refusal → Type 0
IsTextsReply netlist text (refusal.Bench f) = (f ≡ bench.Memory) ⊎ IsRefused netlist f
IsTextsReply netlist text (refusal.Tests f) = (f ≡ tests.Memory) ⊎ IsRefusedFor netlist text f
IsTextsReply netlist text refusal.Memory = ⊤
IsTextsReply netlist text _ = ⊥

-- the circuit or its tests have this error
abbrev pub AreRefusedTexts : List ℕ → List ℕ → FsFault → Type 0
AreRefusedTexts netlist text numbers =
    ((f : BenchFault) × IsRefused netlist f × (numbers ≡ error_numbers (refusal.Bench f)))
    ⊎ ((f : TestFault) × IsRefusedFor netlist text f × (numbers ≡ error_numbers (refusal.Tests f)))
