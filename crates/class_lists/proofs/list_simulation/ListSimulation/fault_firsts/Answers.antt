use Rattle.std.proofs.Common.{◌<◌, ◌∙◌, ℕ, All, List, None, Option, ap, length, map, subst, sym}
use Rattle.std.specs.Prelude.{slice_index_or}
use Rattle.workers.specs.Verdict.{AreClassFirsts, AreFirsts}
use Rattle.class_lists.proofs.FaultFirsts.{all_below, faults_first}
use Rattle.class_lists.proofs.list_simulation.ListSimulation.fault_firsts.Goals as goal

pub first_tests-requires-clause-classes : goal.first_tests-requires-clause-classes
first_tests-requires-clause-classes c =
    let job = c.args.job.now in
    let all = c.in_ok-all.ensures in
    subst (All (λ class. class < length job.classes.representative)) (sym c.as_slice.ensures.value)
    (all_below job c.in_ok-all.all.items c.classes-classes.ensures.together all.count all.each)

pub returns-clause-firsts : goal.returns-clause-firsts
returns-clause-firsts c =
    let job = c.args.job.now in
    let all = c.in_ok-all.ensures in
    let classes = c.in_ok-all.all.items in
    let found = c.in_ok-found.found.items in
    let known = subst (λ l. AreClassFirsts job.list.model job.circuit job.tests.tests l found)
    c.as_slice.ensures.value c.in_ok-found.ensures.firsts in
    let told = c.in_ok-firsts.ensures.firsts
    ∙ ap (λ (l : List (Option ℕ)). map (λ class. slice_index_or l class None) job.classes.class_of)
    c.as_slice-2.ensures.value in
    subst (AreFirsts job.list.model job.circuit job.tests.tests) (sym told)
    (faults_first job classes c.classes-classes.ensures.together all.count all.each found known)
