-- The parts of a job, as its box lends them.
use Rattle.std.{proofs.Common.{◌≡◌, ◌∙◌, ℕ, ap, Global, length, subst, sym, Vec}, specs.Prelude.map}
use Rattle.bench_net.specs.Scan.{sources}
use Rattle.patterns.specs.Tests.{IsTestList, TestList}
use Rattle.flat_circuit.specs.{GroupRows.AreFaultFree, BlockSpans.groups}
use Rattle.block_sim.specs.{Job.IsJob, Parts.Parts, declared.job.JobParts.JobParts}

-- the view of a job with these parts
abbrev pub view_of : JobParts → Parts
view_of parts = record {
  circuit = parts.flat.statements;
  list = parts.faults;
  classes = parts.classes;
  tests = parts.tests;
}

-- they are the parts of a job
abbrev pub IsWhole : JobParts → Type 0
IsWhole parts = IsJob (view_of parts) parts.flat.arranged (map (λ row. row.items) parts.rows.items)
    parts.class_stems.items parts.next_in_region.items parts.representatives.items

pub whole : {lent own : JobParts} → lent ≡ own → IsWhole own → IsWhole lent
whole same is = subst IsWhole (sym same) is

pub seen : {lent own : JobParts} {job : Parts} → lent ≡ own → view_of own ≡ job → view_of lent ≡ job
seen same is = ap view_of same ∙ is

-- with other tests and their words they are still the parts of a job
pub taken : (own new : JobParts) (tests : TestList) (rows : Vec (Vec ℕ Global) Global)
    → new ≡ record own { tests = tests; rows = rows } → IsWhole own → IsTestList tests
    → tests.width ≡ length (sources own.flat.statements)
    → length (map (λ row. row.items) rows.items) ≡ groups (length tests.tests)
    → AreFaultFree own.flat.arranged tests.tests (map (λ row. row.items) rows.items) → IsWhole new
taken own new tests rows is was listed width count words = subst IsWhole (sym is) (record {
  together = record {
    circuit = was.together.circuit;
    list = was.together.list;
    classes = was.together.classes;
    tests = listed;
    width = width;
  };
  count = count;
  fault_free = words;
  stem_count = was.stem_count;
  stems = was.stems;
  nexts = was.nexts;
  next_within = was.next_within;
  stuck_count = was.stuck_count;
  stucks_are = was.stucks_are;
})
