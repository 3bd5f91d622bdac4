use Rattle.std.proofs.Common.{◌≡◌, ◌+◌, ◌*◌, ◌∙◌, ℕ, All, List, ap, arith, inl, inr, length, subst}
use Rattle.std.proofs.Common.{sym}
use Rattle.patterns.specs.{Making.{IsMadeOf, IsWordsRefusal}, Tests.blocks}
use Rattle.faultsim_c.specs.Following.{after_last}
use Rattle.faultsim_c.proofs.MovedTests.{all_wide, joined_count, not_refused, same_tests}
use Rattle.faultsim_c.proofs.following.moved.Goals as goal

pub returns-in-Ok-clause-tests : goal.returns-in-Ok-clause-tests
returns-in-Ok-clause-tests c =
    let old = c.args.old.now in
    let new = c.args.new.now in
    let tests = after_last old.tests new.tests in
    let words = c.in_ok-words.words.items in
    let count : length tests ≡ length new.tests + 1 =
    joined_count old.tests new.tests c.requires.some in
    let asked : c.count.result + 1 ≡ length tests = omega (arith, c.count.ensures, count) in
    let long = c.in_ok-words.ensures.count ∙ ap (λ n. new.width * blocks n) (sym count) in
    let made = subst (λ n. IsMadeOf n (length tests) words c.in-Ok.tests) c.width.ensures.width
    (subst (λ n. IsMadeOf c.width.result n words c.in-Ok.tests) asked
    (subst (λ (l : List ℕ). IsMadeOf c.width.result (c.count.result + 1) l c.in-Ok.tests)
    c.as_slice.ensures.value c.in-Ok.ensures.tests)) in
    same_tests tests new.width words long c.in_ok-words.ensures.words c.in-Ok.tests made
    c.in-Ok.ensures.list (all_wide old.tests new.tests c.requires.some new.width
    (subst (λ (n : ℕ). All (λ test. length test ≡ n) old.tests) c.requires.width
    c.width-width.ensures.tests.each) c.width.ensures.tests.each)

pub memory_of-requires : goal.memory_of-requires
memory_of-requires c =
    let old = c.args.old.now in
    let new = c.args.new.now in
    let tests = after_last old.tests new.tests in
    let words = c.in_ok-words.words.items in
    let fault = c.in-Err.fault in
    let count : length tests ≡ length new.tests + 1 =
    joined_count old.tests new.tests c.requires.some in
    let asked : c.count.result + 1 ≡ length tests = omega (arith, c.count.ensures, count) in
    let long = c.in_ok-words.ensures.count ∙ ap (λ n. new.width * blocks n) (sym count) in
    elim c.in-Err.ensures.refused [
      | inl memory ↦ memory
      | inr refused ↦ not_refused tests new.width words long c.in_ok-words.ensures.words fault
          (omega (arith, count, c.requires.room))
          (subst (λ n. IsWordsRefusal n (length tests) words fault) c.width.ensures.width
          (subst (λ n. IsWordsRefusal c.width.result n words fault) asked
          (subst (λ (l : List ℕ). IsWordsRefusal c.width.result (c.count.result + 1) l fault)
          c.as_slice.ensures.value refused)))
    ]
