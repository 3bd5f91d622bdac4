use Rattle.std.proofs.Common.{◌≡◌, ◌++◌, drop, length}
use Rattle.bench_net.{specs.Tables.all_pins, proofs.PinRows.pin_starts}
use Rattle.bench_net.proofs.levels.pin_rows.Given as goal

abbrev pub invariant-loop-line : goal.invariant-loop-line
invariant-loop-line l = record {
  starts : l.starts.items ++ pin_starts (length l.all.items) (drop l.line-index l.lines)
      ≡ pin_starts 0 l.lines;
  pins : l.all.items ++ all_pins (drop l.line-index l.lines) ≡ all_pins l.lines;
}
