use Rattle.std.{proofs.Common.{◌≡◌, ◌+◌, get_or, length}, specs.List.filter}
use Rattle.bench_net.specs.{declared.Kind.Kind, Statement.defines}
use Rattle.input_check.specs.Counts.{gate_count, kind_place, pin_count}
use Rattle.input_check.proofs.GatesAmong.{gates_from, pins_from}
use Rattle.input_check.proofs.gates.count_gates.Given as goal

-- what was counted so far, and what stands from the next signal on, is all
abbrev pub invariant-loop-signal : goal.invariant-loop-signal
invariant-loop-signal l = record {
  length : length l.gates ≡ 8;
  kinds : (k : Kind) → get_or l.gates (kind_place k) 0
      + gates_from k (filter defines l.circuit) l.signal ≡ gate_count l.circuit k;
  pins : l.pins + pins_from (filter defines l.circuit) l.signal ≡ pin_count l.circuit;
}
