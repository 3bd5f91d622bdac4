use Rattle.std.proofs.Common.{◌≡◌, ◌+◌, ◌<◌, ℕ, List, get_or, length, take}
use Rattle.analysis_reports.specs.Histogram.{faults_with}
use Rattle.analysis_reports.proofs.histogram.histogram_of.Given as goal

-- the table has the counts of the faults so far
pub record AreCounted (most : ℕ) (counts faults : List ℕ) : Type 0 where
  pub count : length faults ≡ most + 1
  pub each : (n : ℕ) → n < most + 1 → get_or faults n 0 ≡ faults_with counts n

abbrev pub invariant-loop-count : goal.invariant-loop-count
invariant-loop-count l = AreCounted l.most (take l.count-index l.counts) l.faults.items
