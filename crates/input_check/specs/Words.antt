-- The words of an error of a file, and the line that it names.
use Rattle.std.specs.Prelude.{ℕ, List, codes, Option, Some, None}
use Rattle.bench_net.specs.declared.Limit.TheVariants.{Bytes, Signals, Sinks}
use Rattle.bench_net.specs.declared.BenchFault.TheVariants as bench
use Rattle.patterns.specs.declared.TestFault.TheVariants as tests
use Rattle.input_check.specs.declared.finding.InputError.{InputError}
use Rattle.input_check.specs.declared.finding.InputError.TheVariants as fault

-- the line, from 1
abbrev pub line_of : InputError → Option ℕ
line_of (fault.Bench (bench.Syntax line)) = Some line
line_of (fault.Bench (bench.Redefined line)) = Some line
line_of (fault.Bench (bench.Undefined line)) = Some line
line_of (fault.Bench (bench.Cycle line)) = Some line
line_of (fault.Tests (tests.BadByte line)) = Some line
line_of (fault.Tests (tests.BadWidth line)) = Some line
line_of _ = None

-- the words, without the file and the line
abbrev pub words : InputError → List ℕ
words (fault.Bench (bench.TooLarge Bytes)) = codes "more than 16777216 bytes"
words (fault.Bench (bench.TooLarge Signals)) = codes "more than 1000000 signals"
words (fault.Bench (bench.TooLarge Sinks)) = codes "more than 4000000 sinks"
words (fault.Bench (bench.Syntax line)) = codes "syntax"
words (fault.Bench (bench.Redefined line)) = codes "name defined before"
words (fault.Bench (bench.Undefined line)) = codes "name not defined"
words (fault.Bench (bench.Cycle line)) = codes "cycle"
words (fault.Bench bench.Empty) = codes "no signal"
words (fault.Bench bench.Memory) = codes "out of memory"
words (fault.Tests (tests.BadByte line)) = codes "not 0 or 1"
words (fault.Tests (tests.BadWidth line)) = codes "wrong width"
words (fault.Tests tests.TooMany) = codes "more than 65536 rows"
words (fault.Tests tests.Memory) = codes "out of memory"
