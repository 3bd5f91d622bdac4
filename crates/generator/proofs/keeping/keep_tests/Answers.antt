use Rattle.std.proofs.{Common.{◌≡◌, ◌∙◌, ◌++◌, ap, subst, sym}, lemmas.Result.on_ok_weaker}
use Rattle.generator.specs.Keeping.{AreAmong, AreKept, AreNeeded, in_pairs}
use Rattle.generator.proofs.{Detected.round_early, KeptTests.none_wanted}
use Rattle.generator.proofs.keeping.keep_tests.Goals as goal

pub returns-clause-none : goal.returns-clause-none
returns-clause-none c =
    let firsts = c.args.firsts.now in
    let marks = c.deref.result.now in
    let needed : AreNeeded firsts marks =
    subst (AreNeeded firsts) (sym c.deref.ensures.value) c.in_ok-marks.ensures in
    on_ok_weaker c.add_wanted.result (λ kept nothing.
    kept.none (none_wanted firsts marks c.in_pairs-pairs.result needed nothing))
    c.add_wanted.ensures.kept

pub returns-clause-early : goal.returns-clause-early
returns-clause-early c =
    let job = c.args.job.now in
    let firsts = c.args.firsts.now in
    let marks = c.deref.result.now in
    let pairs = c.in_pairs-pairs.result in
    let old = c.args.kept.now in
    let new = c.add_wanted.new.kept in
    let needed : AreNeeded firsts marks =
    subst (AreNeeded firsts) (sym c.deref.ensures.value) c.in_ok-marks.ensures in
    let own : pairs ≡ in_pairs job.list.model = c.in_pairs-pairs.ensures
    ∙ ap in_pairs (c.model.ensures ∙ ap (λ l. l.model) c.faults.ensures.part) in
    on_ok_weaker c.add_wanted.result (λ kept none big t has.
    round_early job c.args.classes.now firsts marks pairs c.args.room old.tests new.tests
    c.tests.ensures.together c.requires.classes c.requires.firsts own needed
    (subst (λ l. AreKept l.tests marks pairs c.args.room old.tests new.tests) c.tests.ensures.part
    kept) none big t has) c.add_wanted.ensures.kept

pub returns-clause-among : goal.returns-clause-among
returns-clause-among c = on_ok_weaker c.add_wanted.result
    (λ among. subst (λ l. AreAmong c.add_wanted.new.kept.tests (c.args.kept.now.tests ++ l.tests))
    c.tests.ensures.part among) c.add_wanted.ensures.among
