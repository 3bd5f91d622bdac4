use Rattle.std.proofs.Common.{◌≡◌, ◌<◌, ◌≤◌, ◌+◌, ◌*◌, ◌∙◌, ◌++◌, ◌⊎◌, inl, inr, ℕ, List, All}
use Rattle.std.proofs.{Common.{length, refl, sym, ap, subst, arith}, lemmas.Bool.Decides.nat_tests}
use Rattle.std.proofs.lemmas.Option.{slice_get_within}
use Rattle.bench_net.specs.{Scan.sources, Statement.Statement}
use Rattle.fault_model.specs.{Collapse.Collapsed, Fault.FaultList}
use Rattle.patterns.specs.{Making.IsMadeOf, Tests.TestList}
use Rattle.region_sim.proofs.Public.{all_within}
use Rattle.workers.specs.Verdict.{AreClassFirsts}
use Rattle.generator.specs.{Generated.DetectsEarly, Keeping.{AreLeft, HasFirst}, Held.AreAllowed}
use Rattle.generator.specs.RandomTests.{IsRound, after_words, held_words, next_words, numbers}
use Rattle.generator.{specs.RandomTests.seeded, proofs.AmongTests.{allowed_among, allowed_joined}}
use Rattle.generator.proofs.{HeldColumns.{made_allowed, word_count}, LeftClasses.left_within}
use Rattle.generator.proofs.{RandomWords.{round_more, seeded_is}, Searches.searching_none}
use Rattle.generator.proofs.Searches.{enough_rounds, search_over, searching_along, searching_more}
use Rattle.generator.proofs.search.search.Goals.{then-len, else-len}
use Rattle.generator.proofs.search.search.Goals as goal

pub loop-round-init : goal.loop-round-init
loop-round-init g c =
    let none = ap (λ (l : TestList). length l.tests) c.new-kept.ensures.tests in
    let job = c.args.job.now in
    record {
      circuit = refl;
      list = refl;
      classes = refl;
      few = c.in_ok-left.ensures.few;
      within = all_within job c.in_ok-left.left.items c.in_ok-left.ensures;
      width = refl;
      kept = omega (arith, none);
      quiet = omega arith;
      allowed = λ k test e.
          absurd (omega (arith, none, slice_get_within c.new-kept.result.tests k test e));
      rest = ap numbers (c.seed_from_u64-rng.ensures ∙ sym (seeded_is c.args.settings.seed));
      searching = searching_none job.list.model job.circuit c.args.bits.now c.args.settings.seed
          c.min-blocks.result (length job.classes.representative) c.in_ok-left.left.items
          c.new-kept.result.tests none (λ class lt. c.in_ok-left.ensures.all class lt tt);
    }

pub returns-then-is_empty-clause-early : goal.returns-then-is_empty-clause-early
returns-then-is_empty-clause-early g c =
    let was = c.loop-round.invariant in
    let left = c.loop-round.left in
    let kept = c.loop-round.kept.tests in
    let quiet = c.loop-round.quiet in
    let room = c.room_of-room.result in
    let over : (length left.items ≡ 0) ⊎ ((20 ≤ quiet) ⊎ (room ≤ length kept)) =
    elim c.then-is_empty.branch [
      | goal.then-is_empty-via-then-is_empty w ↦
          inl (grind (arith, nat_tests, w.if-is_empty.ensures, left.ok.0))
      | goal.then-is_empty-via-else-is_empty+then-quiet-ge-QUIET_BLOCKS w ↦
          inr (inl (omega (arith, w.if-quiet-ge-QUIET_BLOCKS.true)))
      | goal.then-is_empty-via-else-is_empty+else-quiet-ge-QUIET_BLOCKS+then-count-room w ↦
          inr (inr (omega (arith, w.if-count-room.true, w.count.ensures)))
    ] in
    search_over c.args.job.now left.items kept c.args.bits.now room c.args.settings.seed
    c.min-blocks.result c.loop-round._round quiet c.circuit.ensures.together
    (omega (arith, c.room_of-room.ensures.some)) over was.searching

pub returns-clause-early : goal.returns-clause-early
returns-clause-early g c =
    let start = c.args.job.now in
    enough_rounds start.list.model start.circuit c.args.bits.now c.args.settings.seed
    c.min-blocks.result
    (length start.classes.representative) c.loop-round.left.items c.loop-round.kept.tests
    c.loop-round._round c.loop-round.quiet
    (omega (arith, c.min-blocks.ensures, c.room_of-room.ensures.some))
    (omega (arith, c.loop-round-test.false)) c.loop-round.invariant.searching

pub loop-round-preserved : goal.loop-round-preserved
loop-round-preserved g c =
    let was = c.loop-round.invariant in
    let start = c.args.job.now in
    let job = c.take_random_tests.new.job in
    let seed = c.args.settings.seed in
    let blocks = c.min-blocks.result in
    let round = c.loop-round._round in
    let left = c.loop-round.left.items in
    let old = c.loop-round.kept.tests in
    let new = c.keep_tests.new.kept.tests in
    let firsts = c.in_ok-firsts.firsts.items in
    let still = c.in_ok-still.still.items in
    let room = c.room_of-room.result in
    let circuit : job.circuit ≡ start.circuit = c.take_random_tests.ensures.circuit ∙ was.circuit in
    let list : job.list ≡ start.list = c.take_random_tests.ensures.list ∙ was.list in
    let classes : job.classes ≡ start.classes = c.take_random_tests.ensures.classes ∙ was.classes in
    let model : job.list.model ≡ start.list.model = ap (λ (x : FaultList). x.model) list in
    let number : length job.classes.representative ≡ length start.classes.representative =
    ap (λ (x : Collapsed). length x.representative) classes in
    let before : length job.classes.representative
    ≡ length c.loop-round.job.classes.representative =
    ap (λ (x : Collapsed). length x.representative) c.take_random_tests.ensures.classes in
    let n = length job.classes.representative in
    let within : All (λ x. x < n) left =
    subst (λ (m : ℕ). All (λ (x : ℕ). x < m) left) (sym before) was.within in
    let are : AreClassFirsts job.list.model job.circuit job.tests.tests left firsts =
    subst (λ (l : List ℕ). AreClassFirsts job.list.model job.circuit job.tests.tests l firsts)
    c.deref.ensures.value c.in_ok-firsts.ensures.firsts in
    let left_is : AreLeft left firsts still =
    subst (λ l. AreLeft l firsts still) c.deref-in-loop-round-3.ensures.value
    (subst (λ fs. AreLeft c.deref-in-loop-round-3.result.now fs still)
    c.deref-in-loop-round-4.ensures.value c.in_ok-still.ensures) in
    let none : ((t : ℕ) → HasFirst firsts t → ⊥) → new ≡ old =
    subst (λ fs. ((t : ℕ) → HasFirst fs t → ⊥) → new ≡ old) c.deref-in-loop-round-2.ensures.value
    c.in_ok-keep_tests.ensures.none in
    let early : length old ≡ 0 → 2 ≤ room → (t : ℕ) → HasFirst firsts t
    → DetectsEarly job.list.model job.circuit new = subst
    (λ fs. length old ≡ 0 → 2 ≤ room → (t : ℕ) → HasFirst fs t
    → DetectsEarly job.list.model job.circuit new)
    c.deref-in-loop-round-2.ensures.value c.in_ok-keep_tests.ensures.early in
    let bits = c.args.bits.now in
    let width = length (sources start.circuit) in
    let words = width * blocks in
    let made : IsMadeOf width (64 * blocks)
    (held_words bits (next_words words (numbers c.loop-round.rng))) job.tests = subst
    (λ (x : List Statement). IsMadeOf (length (sources x)) (64 * blocks)
    (held_words bits (next_words (length (sources x) * blocks) (numbers c.loop-round.rng)))
    job.tests) was.circuit c.in_ok-take_random_tests.ensures.made in
    let after : numbers c.take_random_tests.new.rng
    ≡ after_words words (numbers c.loop-round.rng) = subst
    (λ (x : List Statement). numbers c.take_random_tests.new.rng
    ≡ after_words (length (sources x) * blocks) (numbers c.loop-round.rng))
    was.circuit c.in_ok-take_random_tests.ensures.rest in
    let of_start : IsRound seed width blocks bits round job.tests =
    record {
      list = c.tests-tests.ensures.together.tests;
      made = subst
          (λ s. IsMadeOf width (64 * blocks) (held_words bits (next_words words s)) job.tests)
          was.rest made;
    } in
    let is_round : IsRound seed (length (sources job.circuit)) blocks bits round job.tests =
    subst (λ (x : List Statement). IsRound seed (length (sources x)) blocks bits round job.tests)
    (sym circuit) of_start in
    let count : length bits ≡ width = c.requires.bits in
    let allowed : AreAllowed bits job.tests.tests =
    made_allowed bits blocks (next_words words (numbers c.loop-round.rng)) job.tests
    (word_count words (numbers c.loop-round.rng) ∙ ap (λ (n : ℕ). n * blocks) (sym count))
    c.tests-tests.ensures.together.tests (subst (λ (n : ℕ).
    IsMadeOf n (64 * blocks) (held_words bits (next_words words (numbers c.loop-round.rng)))
    job.tests) (sym count) made) in
    let counted : length still ≡ length left → c.if-len.quiet ≡ c.loop-round.quiet + blocks =
    elim c.if-len.branch [
      | then-len w ↦ λ e. absurd (omega (
        arith,
        e,
        w.if-len.true,
        c.len.ensures,
        c.len-in-loop-round.ensures,
        c.in_ok-still.still.ok.0,
        c.loop-round.left.ok.0,
      ))
      | else-len w ↦ λ e. w.quiet-is
    ] in
    let next = searching_more job left firsts still old new bits room seed blocks round
    c.loop-round.quiet c.if-len.quiet c.tests-tests.ensures.together are is_round
    (omega (arith, c.room_of-room.ensures.some)) c.in_ok-keep_tests.ensures.stay none early left_is
    counted
    (searching_along start.list.model job.list.model start.circuit job.circuit bits seed blocks
    (length start.classes.representative) n left old round c.loop-round.quiet (sym model)
    (sym circuit) (sym number) was.searching) in
    record {
      circuit = circuit;
      list = list;
      classes = classes;
      few = omega (arith, before, left_is.few, was.few);
      within = left_within n left firsts still left_is within;
      width = c.keep_tests.ensures.width ∙ was.width;
      kept = c.keep_tests.ensures.few;
      allowed = allowed_among bits new (old ++ job.tests.tests) c.in_ok-keep_tests.ensures.among
          (allowed_joined bits old job.tests.tests was.allowed allowed);
      quiet = elim c.if-len.branch [
        | then-len w ↦ omega (arith, w.quiet-is)
        | else-len w ↦ omega (
          arith,
          w.quiet-is,
          c.if-quiet-ge-QUIET_BLOCKS.false,
          c.min-blocks.ensures,
        )
      ];
      rest = round_more words round (numbers (seeded seed)) (numbers c.loop-round.rng)
          (numbers c.take_random_tests.new.rng) was.rest after;
      searching = searching_along job.list.model start.list.model job.circuit start.circuit
          bits seed
          blocks n (length start.classes.representative) still new (round + 1) c.if-len.quiet model
          circuit number next;
    }
