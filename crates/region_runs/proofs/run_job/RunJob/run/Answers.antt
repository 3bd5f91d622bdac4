use Rattle.std.proofs.Common.{◌≡◌, ◌<◌, ◌∙◌, All, List, Option, ap, arith, length, map, subst, sym}
use Rattle.std.proofs.Common.{ℕ}
use Rattle.fault_model.specs.{Collapse.Collapsed, Fault.FaultList}
use Rattle.patterns.specs.Tests.{TestList, blocks}
use Rattle.block_sim.specs.Parts.{BelongTogether, Parts}
use Rattle.workers.specs.Verdict.{AreClassFirsts, AreFirsts}
use Rattle.region_sim.{proofs.Public.all_within, specs.ClassOrder.AreAllByRegion}
use Rattle.region_runs.specs.{FaultFirsts.{first_at, firsts_of_faults}, RunJobs.RunView}
use Rattle.region_runs.specs.Tasks.{AreKept, first_tests}
use Rattle.region_runs.proofs.FirstHits.{first_open, firsts_kept}
use Rattle.region_runs.proofs.FaultFirsts.{faults_first, hits_passed, serves_faults, verdict_found}
use Rattle.region_runs.proofs.run_job.RunJob.run.Goals as goal

-- what is kept of all classes are their first tests
all_firsts : (job : Parts) (classes : List ℕ) (firsts : List (Option ℕ)) → BelongTogether job
    → AreAllByRegion job classes → AreKept (first_tests job) classes firsts
    → AreClassFirsts job.list.model job.circuit job.tests.tests classes firsts
all_firsts job classes firsts together all kept =
    firsts_kept job classes firsts together (all_within job classes all) kept

pub run_goal-requires-clause-wanted : goal.run_goal-requires-clause-wanted
run_goal-requires-clause-wanted g c κs within = first_open c.args.self.now.whole

pub verdicts_in-requires-clause-serves : goal.verdicts_in-requires-clause-serves
verdicts_in-requires-clause-serves g c =
    let job = c.args.self.now.whole in
    let done = c.in_ok-done.done in
    let is = c.in_ok-done.ensures in
    let together = subst (λ (r : RunView). BelongTogether r.whole) is.same
    c.tests-tests.ensures.together in
    let own = serves_faults job done.classes.items done.positions.items done.kept.items together
    is.positions is.count
    (all_firsts job done.classes.items done.kept.items together is.classes is.kept) in
    let same : (c.job-job.result.now).classes ≡ job.classes = c.job-job.ensures.classes
    ∙ ap (λ (r : RunView). r.whole.classes) is.same in
    record {
      classes = subst (λ (x : Collapsed). All (λ class. class < length done.positions.items)
          x.class_of) (sym same) own.classes;
      positions_within = own.positions_within;
    }

pub returns-clause-firsts : goal.returns-clause-firsts
returns-clause-firsts g c =
    let job = c.args.self.now.whole in
    let done = c.in_ok-done.done in
    let is = c.in_ok-done.ensures in
    let together = subst (λ (r : RunView). BelongTogether r.whole) is.same
    c.tests-tests.ensures.together in
    let same : (c.job-job.result.now).classes ≡ job.classes = c.job-job.ensures.classes
    ∙ ap (λ (r : RunView). r.whole.classes) is.same in
    let found = c.in_ok-verdicts.verdicts.firsts in
    let all : found ≡ firsts_of_faults job done.positions.items done.kept.items =
    c.in_ok-verdicts.ensures.firsts
    ∙ ap (λ (x : Collapsed). map (first_at done.positions.items done.kept.items) x.class_of) same in
    faults_first job done.classes.items done.positions.items done.kept.items together is.positions
    is.count (all_firsts job done.classes.items done.kept.items together is.classes is.kept) found
    all

pub verdicts_in-requires-clause-few : goal.verdicts_in-requires-clause-few
verdicts_in-requires-clause-few g c =
    let is = c.in_ok-done.ensures in
    let count = c.count-count.ensures
    ∙ ap (λ (x : Collapsed). length x.representative) (c.classes.ensures.part
    ∙ (c.job-job.ensures.classes ∙ ap (λ (r : RunView). r.whole.classes) is.same)) in
    omega (arith, is.kept.count, is.positions.count, is.count, count)

pub finds-requires : goal.finds-requires
finds-requires g c =
    let job = c.args.self.now.whole in
    let done = c.in_ok-done.done in
    let is = c.in_ok-done.ensures in
    let together = subst (λ (r : RunView). BelongTogether r.whole) is.same
    c.tests-tests.ensures.together in
    let same : (c.job-job.result.now).classes ≡ job.classes = c.job-job.ensures.classes
    ∙ ap (λ (r : RunView). r.whole.classes) is.same in
    let found = c.in_ok-verdicts.verdicts.firsts in
    let all : found ≡ firsts_of_faults job done.positions.items done.kept.items =
    c.in_ok-verdicts.ensures.firsts
    ∙ ap (λ (x : Collapsed). map (first_at done.positions.items done.kept.items) x.class_of) same in
    let firsts = faults_first job done.classes.items done.positions.items done.kept.items together
    is.positions is.count
    (all_firsts job done.classes.items done.kept.items together is.classes is.kept) found all in
    subst (λ (l : FaultList). AreFirsts l.model (c.job-job.result.now).circuit
    c.tests-tests.result.now.tests found) (sym (c.job-job.ensures.list
    ∙ ap (λ (r : RunView). r.whole.list) is.same))
    (subst (λ x. AreFirsts job.list.model x c.tests-tests.result.now.tests found)
    (sym (c.job-job.ensures.circuit ∙ ap (λ (r : RunView). r.whole.circuit) is.same))
    (subst (λ (t : TestList). AreFirsts job.list.model job.circuit t.tests found)
    (sym (c.tests-tests.ensures.tests ∙ ap (λ (r : RunView). r.whole.tests) is.same)) firsts))

pub returns-clause-skipped : goal.returns-clause-skipped
returns-clause-skipped g c =
    let job = c.args.self.now.whole in
    let done = c.in_ok-done.done in
    let is = c.in_ok-done.ensures in
    let together = subst (λ (r : RunView). BelongTogether r.whole) is.same
    c.tests-tests.ensures.together in
    let count : c.blocks-2.result ≡ blocks (length job.tests.tests) = c.blocks-2.ensures
    ∙ ap (λ (t : TestList). blocks (length t.tests)) (c.tests-tests.ensures.tests
    ∙ ap (λ (r : RunView). r.whole.tests) is.same) in
    hits_passed job done.classes.items done.positions.items done.kept.items together is.positions
    is.count (all_firsts job done.classes.items done.kept.items together is.classes is.kept)
    c.blocks-2.result c.in_ok-verdicts.verdicts.skipped count c.in_ok-verdicts.ensures.skipped

pub returns-clause-ledgers : goal.returns-clause-ledgers
returns-clause-ledgers g c =
    let job = c.args.self.now.whole in
    let done = c.in_ok-done.done in
    let is = c.in_ok-done.ensures in
    let together = subst (λ (r : RunView). BelongTogether r.whole) is.same
    c.tests-tests.ensures.together in
    let same : (c.job-job.result.now).classes ≡ job.classes = c.job-job.ensures.classes
    ∙ ap (λ (r : RunView). r.whole.classes) is.same in
    let found = c.in_ok-verdicts.verdicts.firsts in
    let all : found ≡ firsts_of_faults job done.positions.items done.kept.items =
    c.in_ok-verdicts.ensures.firsts
    ∙ ap (λ (x : Collapsed). map (first_at done.positions.items done.kept.items) x.class_of) same in
    record {
      classes = done.classes.items;
      are = is.classes;
      firsts = done.kept.items;
      of = is.ledgers;
      each = verdict_found job done.classes.items done.positions.items done.kept.items together
          is.positions is.count
          (all_firsts job done.classes.items done.kept.items together is.classes is.kept) found all;
    }
