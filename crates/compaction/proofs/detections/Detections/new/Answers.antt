use Rattle.std.proofs.{Common.{◌≡◌, ◌∙◌, ap, length, subst, sym}, lemmas.List.length-map}
use Rattle.compaction.specs.Detections.{HasGroups, words_of}
use Rattle.compaction.proofs.DetectedClasses.{detects_classes, has_groups}
use Rattle.compaction.proofs.detections.Detections.new.Goals as goal

pub invariant_of-result : goal.invariant_of-result
invariant_of-result g c =
    let job = c.args.job.now in
    let found = c.in_ok-found.found in
    let count : c.count-tests.result ≡ length job.tests.tests =
    c.count-tests.ensures ∙ ap (λ t. length t.tests) c.tests.ensures.part in
    subst (λ n. HasGroups (record {
      words = words_of found.positions.items found.words.items;
      tests = n;
    })) (sym count)
    (has_groups job found.positions.items found.words.items c.in_ok-found.ensures.tests)

pub returns-clause-classes : goal.returns-clause-classes
returns-clause-classes g c =
    length-map c.in_ok-found.found.positions.items _ ∙ c.in_ok-found.ensures.tests.count

pub returns-clause-detects : goal.returns-clause-detects
returns-clause-detects g c =
    let found = c.in_ok-found.found in
    detects_classes c.args.job.now found.positions.items found.words.items
    c.in_ok-found.ensures.tests c.tests.ensures.together
