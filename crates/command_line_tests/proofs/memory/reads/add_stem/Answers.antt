use Rattle.std.proofs.Common.{◌≡◌, ◌<◌, ◌∙◌, ap, length, sym, ℕ}
use Rattle.bench_net.specs.Scan.{names}
use Rattle.block_sim.specs.Parts.{BelongTogether, Parts}
use Rattle.fault_model.specs.{Fault.{FaultList, faults}, Signals.IsSignalOf}
use Rattle.command_line_tests.proofs.memory.reads.add_stem.Goals as goal

-- the signals of a job are in range of its faults
in_range : (job : Parts) (list : FaultList) (signal : ℕ) → list ≡ job.list → BelongTogether job
    → signal < length (names job.circuit) → IsSignalOf list signal
in_range job list signal part together below = (
  job.circuit,
  ap (λ l. l.list) (part ∙ together.list) ∙ ap (λ l. faults l.model job.circuit) (sym part),
  below,
)

pub stem_fault-requires : goal.stem_fault-requires
stem_fault-requires c =
    in_range c.args.job.now c.faults-faults.result.now c.args.signal c.faults-faults.ensures.part
    c.faults-faults.ensures.together c.requires

pub stem_fault-requires-2 : goal.stem_fault-requires-2
stem_fault-requires-2 c =
    in_range c.args.job.now c.faults-faults.result.now c.args.signal c.faults-faults.ensures.part
    c.faults-faults.ensures.together c.requires
