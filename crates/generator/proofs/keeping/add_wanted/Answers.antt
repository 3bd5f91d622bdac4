use Rattle.std.proofs.Common.{◌≡◌, ◌<◌, ◌+◌, ◌∙◌, ◌++◌, ◌∷◌, [], Some, arith, false, get_or, length}
use Rattle.std.{proofs.Common.{refl, subst, sym, true}, specs.Prelude.slice_get}
use Rattle.std.proofs.lemmas.Option.{slice_get-get_or}
use Rattle.generator.specs.Keeping.{AreAmong, IsWanted}
use Rattle.generator.proofs.AmongTests.{among_back, among_front, pushed_among}
use Rattle.generator.proofs.KeptTests.{IsBegun, begun_full, begun_more, begun_skipped, pushed_stay}
use Rattle.generator.proofs.keeping.add_wanted.Goals as goal

pub loop-test-init : goal.loop-test-init
loop-test-init c = record {
  width = refl;
  few = c.requires.few;
  stay = λ k test e. e;
  among = among_front c.args.kept.now.tests c.args.tests.now.tests;
  none = λ no. refl;
  begun = λ none big s is. record {
    before = λ le. none;
    first = λ lt. absurd (omega (arith, lt));
    one = λ e. absurd (omega (arith, e));
    second = λ lt w. absurd (omega (arith, lt));
  };
}

pub loop-test-preserved-then-not-is_wanted : goal.loop-test-preserved-then-not-is_wanted
loop-test-preserved-then-not-is_wanted c =
    let was = c.loop-test.invariant in
    let not : IsWanted c.args.marks.now c.args.pairs c.loop-test.test → ⊥ = λ w.
    let bad : false ≡ true = c.if-not-is_wanted.ensures.1 w in absurd (cc) in
    record {
      width = was.width;
      few = was.few;
      stay = was.stay;
      among = was.among;
      none = was.none;
      begun = λ none big s is. begun_skipped c.args.tests.now.tests c.args.marks.now c.args.pairs s
          c.loop-test.test c.loop-test.kept.tests is (was.begun none big s is) not;
    }

pub loop-test-preserved-then-count-room : goal.loop-test-preserved-then-count-room
loop-test-preserved-then-count-room c =
    let was = c.loop-test.invariant in
    record {
      width = was.width;
      few = was.few;
      stay = was.stay;
      among = was.among;
      none = was.none;
      begun = λ none big s is. begun_full c.args.tests.now.tests c.args.marks.now c.args.pairs s
          c.loop-test.test c.loop-test.kept.tests is (was.begun none big s is)
          (omega (arith, big, c.if-count-room.true, c.count.ensures));
    }

pub loop-test-preserved : goal.loop-test-preserved
loop-test-preserved c =
    let was = c.loop-test.invariant in
    let tests = c.args.tests.now.tests in
    let t = c.loop-test.test in
    let old = c.loop-test.kept.tests in
    let x = get_or tests t [] in
    let lt : t < length tests = omega (arith, c.loop-test-test.true, c.count-test-end.ensures) in
    let at : slice_get tests t ≡ Some x = slice_get-get_or tests t [] lt in
    let wanted = c.if-not-is_wanted.ensures.0 refl in
    let new : c.add_test.new.kept.tests ≡ old ++ x ∷ [] = c.in_ok-add_test.ensures.added in
    record {
      width = c.in_ok-add_test.ensures.width ∙ was.width;
      few = omega (arith, c.in_ok-add_test.ensures.one, c.if-count-room.false, c.count.ensures);
      stay = λ k test e. subst (λ l. slice_get l k ≡ Some test) (sym new)
          (pushed_stay old x test k (was.stay k test e));
      among =
          let all = c.args.kept.now.tests ++ tests in
          let here = among_back c.args.kept.now.tests tests t x at in
          subst (λ l. AreAmong l all) (sym new) (pushed_among old all x here.0 was.among here.1);
      none = λ no. absurd (no t wanted);
      begun = λ none big s is.
          subst (IsBegun tests c.args.marks.now c.args.pairs s (t + 1)) (sym new)
          (begun_more tests c.args.marks.now c.args.pairs s t old is (was.begun none big s is) x
          wanted at);
    }
