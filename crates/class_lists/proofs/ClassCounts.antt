-- Counts of the tests that detect the classes of a list, from what a run keeps of them.
use Rattle.std.{proofs.Common.{◌<◌, ℕ, List, All, length}, specs.Prelude.nat_lt}
use Rattle.block_sim.specs.Parts.{BelongTogether, Parts}
use Rattle.region_runs.{proofs.Public.listed_class, specs.Tasks.{AreKept, task_of}}
use Rattle.n_detect.{proofs.Public.{count_kept, fault_count}, specs.HitCounts.IsHitCount}
use Rattle.class_lists.specs.Lists.{AreClassCounts}

-- what a run for counts keeps are the counts of the classes
pub counts_are : (job : Parts) (most : ℕ) (classes counts : List ℕ) → BelongTogether job
    → All (λ class. class < length job.classes.representative) classes
    → AreKept (task_of job 0 (λ n. nat_lt n most) (IsHitCount most)) classes counts
    → AreClassCounts job classes most counts
counts_are job most classes counts b all found = record {
  count = found.count;
  each = λ k class n f at of is.
      fault_count job most class n f b of (count_kept job most classes counts b found k class n
      (listed_class job classes k class all at) at is);
}
