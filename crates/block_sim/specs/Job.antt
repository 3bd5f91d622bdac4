-- The invariants of a job: its parts, and the fault-free words that it holds.
use Rattle.std.specs.Prelude.{◌≡◌, ℕ, ◌<◌, All, List, length}
use Rattle.bench_net.specs.Statement.{Statement}
use Rattle.flat_circuit.specs.Origins.{HaveRepresentatives}
use Rattle.block_sim.specs.Parts.{Parts, BelongTogether}
use Rattle.flat_circuit.specs.Regions.{HaveStems}
use Rattle.flat_circuit.specs.BlockSpans.{groups}
use Rattle.flat_circuit.specs.declared.words.Stuck.{Stuck}
use Rattle.flat_circuit.specs.GroupRows.{AreFaultFree}

-- The parts belong together. The rows are the fault-free words of all groups, with the signals in
-- the order of their places. Each class has its stem, a next class, and its representative.
pub record IsJob (parts : Parts) (arranged : List Statement) (rows : List (List ℕ))
    (class_stems next : List ℕ) (stucks : List Stuck) : Type 0 where
  pub together : BelongTogether parts
  pub count : length rows ≡ groups (length parts.tests.tests)
  pub fault_free : AreFaultFree arranged parts.tests.tests rows
  pub stem_count : length class_stems ≡ length parts.classes.representative
  pub stems : HaveStems parts.list.model parts.circuit class_stems
  pub nexts : length next ≡ length parts.classes.representative
  pub next_within : All (λ class. class < length parts.classes.representative) next
  pub stuck_count : length stucks ≡ length parts.classes.representative
  pub stucks_are : HaveRepresentatives parts.list.model parts.circuit stucks
