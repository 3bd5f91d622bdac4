use Rattle.std.proofs.Common.{List, Option, subst, ℕ}
use Rattle.block_sim.specs.Parts.{BelongTogether}
use Rattle.faultsim_c.{specs.Calls.AreFirstNumbers, proofs.Firsts.classes_told}
use Rattle.faultsim_c.proofs.run.simulate.Goals as goal

pub returns-clause-done : goal.returns-clause-done
returns-clause-done c = classes_told c.args.session.now c.args.classes.now c.in_ok-found.found.items
    c.write_firsts.new.firsts (subst BelongTogether c.job.ensures c.tests-tests.ensures.together)
    c.in_ok-found.ensures.firsts
    (subst (λ (l : List (Option ℕ)). AreFirstNumbers l c.write_firsts.new.firsts)
    c.as_slice.ensures.value c.write_firsts.ensures)
