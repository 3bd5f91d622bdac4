use Rattle.std.proofs.Common.{◌≡◌, ◌∙◌, [], ap, arith, get_or, length, subst, sym}
use Rattle.std.specs.Prelude.{◌≢◌}
use Rattle.bench_net.specs.Scan.{sources}
use Rattle.fault_model.specs.{Collapse.representatives, declared.Model.TheVariants.Transition}
use Rattle.block_sim.specs.Parts.{Parts, with_tests}
use Rattle.compaction.specs.{Compaction.IsNumbered, Detections.detects_by}
use Rattle.compaction.specs.Steepest.{IsSteepestCompaction, at_places, with_launches}
use Rattle.compaction.proofs.OrderedTests.{few_places, numbered_all, places_within}
use Rattle.compaction.proofs.OrderedTests.{steepest_compaction, steepest_of}
use Rattle.compaction.proofs.ordered.compact_steepest.Goals as goal

pub set_own_tests-requires-clause-width : goal.set_own_tests-requires-clause-width
set_own_tests-requires-clause-width g c = c.in_ok-tests.ensures.width ∙ (c.requires.job.width
    ∙ ap (λ (p : Parts). length (sources p.circuit)) (sym c.in_ok-tests.ensures.job))

pub kept_at-requires-clause-places : goal.kept_at-requires-clause-places
kept_at-requires-clause-places g c = λ k d lt.
    let job = c.job-job.result.now in
    let table = c.in_ok-detections.detections in
    let order = c.in_ok-order.order.items in
    let model : c.model.result ≡ job.list.model = c.model.ensures
    ∙ ap (λ l. l.model) c.faults.ensures.part in
    let places : c.deref-3.result.now ≡ with_launches job.list.model order =
    c.deref-3.ensures.value ∙ (c.in_ok-places.ensures
    ∙ (ap (λ m. with_launches m c.deref.result.now) model
    ∙ ap (with_launches job.list.model) c.deref.ensures.value)) in
    let steep = steepest_of job table order c.tests.ensures.together
    c.in_ok-detections.ensures.classes c.in_ok-detections.ensures.tests c.in_ok-order.ensures in
    let long = ap length places in
    let low = places_within job.list.model (detects_by table)
    (length (representatives job.list.model job.circuit)) (length job.tests.tests) order steep k d
    (omega (arith, lt, long)) in
    let same = ap (λ xs. get_or xs k d) places in
    let tests = ap (λ t. length t.tests) c.tests.ensures.part in
    omega (arith, low, same, tests)

pub kept_at-requires-clause-few : goal.kept_at-requires-clause-few
kept_at-requires-clause-few g c =
    let job = c.job-job.result.now in
    let table = c.in_ok-detections.detections in
    let order = c.in_ok-order.order.items in
    let model : c.model.result ≡ job.list.model = c.model.ensures
    ∙ ap (λ l. l.model) c.faults.ensures.part in
    let places : c.deref-3.result.now ≡ with_launches job.list.model order =
    c.deref-3.ensures.value ∙ (c.in_ok-places.ensures
    ∙ (ap (λ m. with_launches m c.deref.result.now) model
    ∙ ap (with_launches job.list.model) c.deref.ensures.value)) in
    let steep = steepest_of job table order c.tests.ensures.together
    c.in_ok-detections.ensures.classes c.in_ok-detections.ensures.tests c.in_ok-order.ensures in
    let few = few_places job.list.model job.circuit job.tests.tests (detects_by table) order
    c.in_ok-detections.ensures.detects steep in
    let long = ap length places in
    let tests = ap (λ t. length t.tests) c.tests.ensures.part in
    omega (arith, few, long, tests)

pub kept_at-requires-clause-numbers : goal.kept_at-requires-clause-numbers
kept_at-requires-clause-numbers g c =
    let old = c.args.run.now.whole in
    let kept = c.in_ok-tests.field-0 in
    ap length c.deref-2.ensures.value
    ∙ (numbered_all old.list.model old.circuit old.tests.tests kept.tests.tests kept.numbers.items
    c.in_ok-tests.ensures.compacted ∙ (ap (λ (p : Parts). length p.tests.tests)
    (sym (c.job-job.ensures.own c.in_ok-set_own_tests.ensures.own
    ∙ c.in_ok-set_own_tests.ensures.tests)) ∙ sym (ap (λ t. length t.tests) c.tests.ensures.part)))

pub returns-clause-width : goal.returns-clause-width
returns-clause-width g c = c.in_ok-kept_at.ensures.width ∙ (ap (λ t. t.width) c.tests.ensures.part
    ∙ (ap (λ (p : Parts). p.tests.width) (c.job-job.ensures.own c.in_ok-set_own_tests.ensures.own
    ∙ c.in_ok-set_own_tests.ensures.tests) ∙ c.in_ok-tests.ensures.width))

pub returns-clause-compacted : goal.returns-clause-compacted
returns-clause-compacted g c =
    let old = c.args.run.now.whole in
    let given = c.in_ok-tests.field-0 in
    let kept = c.in_ok-kept_at.field-0 in
    let job = c.job-job.result.now in
    let table = c.in_ok-detections.detections in
    let order = c.in_ok-order.order.items in
    let whole : job ≡ with_tests old given.tests =
    c.job-job.ensures.own c.in_ok-set_own_tests.ensures.own ∙ (c.in_ok-set_own_tests.ensures.tests
    ∙ ap (λ p. with_tests p given.tests) c.in_ok-tests.ensures.job) in
    let model : c.model.result ≡ job.list.model = c.model.ensures
    ∙ ap (λ l. l.model) c.faults.ensures.part in
    let places : c.deref-3.result.now ≡ with_launches job.list.model order =
    c.deref-3.ensures.value ∙ (c.in_ok-places.ensures
    ∙ (ap (λ m. with_launches m c.deref.result.now) model
    ∙ ap (with_launches job.list.model) c.deref.ensures.value)) in
    let steep = steepest_of job table order c.tests.ensures.together
    c.in_ok-detections.ensures.classes c.in_ok-detections.ensures.tests c.in_ok-order.ensures in
    let other : job.list.model ≢ Transition =
    subst (λ (p : Parts). p.list.model ≢ Transition) (sym whole) c.requires.model in
    let compacted = subst
    (λ (p : Parts). IsNumbered p.list.model p.circuit old.tests.tests p.tests.tests
    given.numbers.items) (sym whole) c.in_ok-tests.ensures.compacted in
    let rows : kept.tests.tests ≡ at_places [] job.tests.tests (with_launches job.list.model order)
    = c.in_ok-kept_at.ensures.rows
    ∙ (ap (λ t. at_places [] t.tests c.deref-3.result.now) c.tests.ensures.part
    ∙ ap (at_places [] job.tests.tests) places) in
    let numbers : kept.numbers.items
    ≡ at_places 0 given.numbers.items (with_launches job.list.model order) =
    c.in_ok-kept_at.ensures.numbers
    ∙ (ap (λ xs. at_places 0 xs c.deref-3.result.now) c.deref-2.ensures.value
    ∙ ap (at_places 0 given.numbers.items) places) in
    subst (λ (p : Parts). IsSteepestCompaction p.list.model p.circuit old.tests.tests
    kept.tests.tests kept.numbers.items) whole
    (steepest_compaction job old.tests.tests kept.tests.tests given.numbers.items
    kept.numbers.items order (detects_by table) c.tests.ensures.together other compacted
    c.in_ok-detections.ensures.detects steep rows numbers)
