use Rattle.std.proofs.Common.{◌≡◌, ◌∙◌, ap, arith, length}
use Rattle.patterns.specs.Tests.{TestList, blocks}
use Rattle.flat_circuit.specs.BlockSpans.{groups}
use Rattle.n_detect.proofs.ClassGroups.{tests_of_classes}
use Rattle.n_detect.proofs.detecting.class_tests.Goals as goal

pub returns-clause-tests : goal.returns-clause-tests
returns-clause-tests g c =
    let job = c.args.job.now in
    let n = c.blocks-2.ensures
    ∙ ap (λ (t : TestList). blocks (length t.tests)) c.tests.ensures.part in
    let count : c.div_ceil.result ≡ groups (length job.tests.tests) =
    omega (arith, c.div_ceil.ensures, n) in
    tests_of_classes job c.tests.ensures.together c.div_ceil.result count
    c.in_ok-done.done.classes.items c.in_ok-done.done.positions.items
    c.in_ok-done.done.kept.items c.in_ok-done.ensures.positions c.in_ok-done.ensures.count
    c.in_ok-done.ensures.kept
