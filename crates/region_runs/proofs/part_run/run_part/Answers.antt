use Rattle.std.proofs.Common.{◌≡◌, ◌<◌, ◌∙◌, All, List, ap, get_or, length, map, subst, sym, ℕ}
use Rattle.std.proofs.lemmas.Result.{err_from_is_err_and}
use Rattle.fault_model.specs.Collapse.{Collapsed}
use Rattle.region_runs.specs.declared.parts.PartVerdict.{PartVerdict, TheVariants.OtherPart}
use Rattle.region_runs.specs.{Part.stretches_for, RunJobs.RunView}
use Rattle.region_runs.proofs.{FirstHits.firsts_kept, RunRefusals.part_fault}
use Rattle.region_runs.proofs.PartsInView.{part_by_ledgers, part_in_view}
use Rattle.region_runs.proofs.PartsOfClasses.{part_verdict_there, part_verdicts, part_within}
use Rattle.region_runs.proofs.PartsOfClasses.{verdicts_under}
use Rattle.region_runs.proofs.part_run.run_part.Goals as goal

pub run_list-requires-clause-within : goal.run_list-requires-clause-within
run_list-requires-clause-within g c κs within =
    let job = c.args.run.now.whole in
    let classes = c.in_ok-own.own.items in
    part_within job c.args.parts c.args.part classes
    (part_in_view c.job.result.now job c.args.parts c.args.part classes
    c.job.ensures.circuit c.job.ensures.list c.job.ensures.classes c.in_ok-own.ensures)

pub returns-in_err-found-clause-refused : goal.returns-in_err-found-clause-refused
returns-in_err-found-clause-refused g c =
    let job = c.args.run.now.whole in
    let classes = c.in_ok-own.own.items in
    let own = part_in_view c.job.result.now job c.args.parts c.args.part classes
    c.job.ensures.circuit c.job.ensures.list c.job.ensures.classes c.in_ok-own.ensures in
    let few = c.count_in-few.ensures.count
    ∙ ap (λ (l : List ℕ). length l) c.as_slice.ensures.value in
    let stretches : c.stretches_for-stretches.result
    ≡ stretches_for (length classes) c.args.workers =
    c.stretches_for-stretches.ensures.count ∙ ap (λ n. stretches_for n c.args.workers) few in
    let p = err_from_is_err_and c.from_residual-in_err-found.result
    c.from_residual-in_err-found.ensures.1 in
    let P = g.G.Gate.passing c.args.gate.now in
    let S = g.G.Gate.stops c.args.gate.now in
    rw (p.1, p.2) (part_fault job c.args.parts c.args.part c.args.workers
    c.stretches_for-stretches.result classes P S _ own stretches c.in_err-found.ensures.refused)

pub by_class-requires-clause-within : goal.by_class-requires-clause-within
by_class-requires-clause-within g c =
    let job = c.args.run.now.whole in
    let classes = c.in_ok-own.own.items in
    let own = part_in_view c.job.result.now job c.args.parts c.args.part classes
    c.job.ensures.circuit c.job.ensures.list c.job.ensures.classes c.in_ok-own.ensures in
    let count : c.count-count.result ≡ length job.classes.representative = c.count-count.ensures
    ∙ ap (λ (x : Collapsed). length x.representative) (c.classes.ensures.part
    ∙ (c.job-job.ensures.classes
    ∙ ap (λ (r : RunView). r.whole.classes) c.in_ok-found.ensures.same)) in
    subst (λ n. All (λ class. class < n) c.as_slice-2.result.now) (sym count)
    (subst (All (λ class. class < length job.classes.representative))
    (sym (c.as_slice-2.ensures.value ∙ c.in_ok-found.ensures.classes))
    (part_within job c.args.parts c.args.part classes own))

pub returns-clause-verdicts : goal.returns-clause-verdicts
returns-clause-verdicts g c =
    let job = c.args.run.now.whole in
    let classes = c.in_ok-own.own.items in
    let firsts = c.in_ok-found.found.kept.items in
    let table = c.in_ok-table.table.items in
    let own = part_in_view c.job.result.now job c.args.parts c.args.part classes
    c.job.ensures.circuit c.job.ensures.list c.job.ensures.classes c.in_ok-own.ensures in
    let same : (c.job-job.result.now).classes ≡ job.classes = c.job-job.ensures.classes
    ∙ ap (λ (r : RunView). r.whole.classes) c.in_ok-found.ensures.same in
    let count : c.count-count.result ≡ length job.classes.representative = c.count-count.ensures
    ∙ ap (λ (x : Collapsed). length x.representative) (c.classes.ensures.part ∙ same) in
    let by = verdicts_under c.count-count.result (length job.classes.representative) _ classes _
    firsts table count (c.as_slice-2.ensures.value ∙ c.in_ok-found.ensures.classes)
    c.as_slice-3.ensures.value c.in_ok-table.ensures in
    let is : c.in_ok-verdicts.verdicts.items ≡ map (λ class. get_or table class OtherPart)
    job.classes.class_of = c.in_ok-verdicts.ensures
    ∙ (ap (λ (l : List PartVerdict). map (λ class. get_or l class OtherPart)
    (c.job-job.result.now).classes.class_of) c.as_slice-4.ensures.value
    ∙ ap (λ (x : Collapsed). map (λ class. get_or table class OtherPart) x.class_of) same) in
    let found = firsts_kept job classes firsts c.tests-tests.ensures.together
    (part_within job c.args.parts c.args.part classes own) c.in_ok-found.ensures.kept in
    part_verdicts job c.args.parts c.args.part classes firsts table c.in_ok-verdicts.verdicts.items
    c.tests-tests.ensures.together own found by is

pub returns-clause-ledgers : goal.returns-clause-ledgers
returns-clause-ledgers g c =
    let job = c.args.run.now.whole in
    let classes = c.in_ok-own.own.items in
    let firsts = c.in_ok-found.found.kept.items in
    let table = c.in_ok-table.table.items in
    let own = part_in_view c.job.result.now job c.args.parts c.args.part classes
    c.job.ensures.circuit c.job.ensures.list c.job.ensures.classes c.in_ok-own.ensures in
    let same : (c.job-job.result.now).classes ≡ job.classes = c.job-job.ensures.classes
    ∙ ap (λ (r : RunView). r.whole.classes) c.in_ok-found.ensures.same in
    let count : c.count-count.result ≡ length job.classes.representative = c.count-count.ensures
    ∙ ap (λ (x : Collapsed). length x.representative) (c.classes.ensures.part ∙ same) in
    let by = verdicts_under c.count-count.result (length job.classes.representative) _ classes _
    firsts table count (c.as_slice-2.ensures.value ∙ c.in_ok-found.ensures.classes)
    c.as_slice-3.ensures.value c.in_ok-table.ensures in
    let is : c.in_ok-verdicts.verdicts.items ≡ map (λ class. get_or table class OtherPart)
    job.classes.class_of = c.in_ok-verdicts.ensures
    ∙ (ap (λ (l : List PartVerdict). map (λ class. get_or l class OtherPart)
    (c.job-job.result.now).classes.class_of) c.as_slice-4.ensures.value
    ∙ ap (λ (x : Collapsed). map (λ class. get_or table class OtherPart) x.class_of) same) in
    let few = c.count_in-few.ensures.count
    ∙ ap (λ (l : List ℕ). length l) c.as_slice.ensures.value in
    let stretches : c.stretches_for-stretches.result
    ≡ stretches_for (length classes) c.args.workers =
    c.stretches_for-stretches.ensures.count ∙ ap (λ n. stretches_for n c.args.workers) few in
    part_by_ledgers job c.args.parts c.args.part c.args.workers c.stretches_for-stretches.result
    classes firsts c.in_ok-verdicts.verdicts.items own stretches
    (λ i class first at v. part_verdict_there job classes firsts table
    c.in_ok-verdicts.verdicts.items c.tests-tests.ensures.together by is i class first at v)
    c.in_ok-found.ensures.ledgers
