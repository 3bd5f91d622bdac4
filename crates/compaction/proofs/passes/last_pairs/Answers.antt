use Rattle.std.proofs.Common.{◌≡◌, ◌+◌, ◌∙◌, ap, arith, false, get_or, length, sym}
use Rattle.std.specs.Prelude.{◌||◌}
use Rattle.compaction.specs.{Compaction.at_marks, Marks.{AreWithBefore}}
use Rattle.compaction.proofs.PushedElements.{written_over}
use Rattle.compaction.proofs.passes.last_pairs.Goals as goal

pub returns-clause-last : goal.returns-clause-last
returns-clause-last g c =
    let given = c.args.given in
    let tests = given.tests.tests in
    let last = c.in_ok-last.last.items in
    let inner = c.mark_before.new.marks in
    let before : AreWithBefore last inner = record {
      count = c.mark_before.ensures.count ∙ ap length c.deref_mut.ensures.value;
      each = λ t lt.
          c.mark_before.ensures.each t (omega (arith, lt, ap length c.deref_mut.ensures.value))
          ∙ ap (λ xs. get_or xs t false || get_or xs (t + 1) false) c.deref_mut.ensures.value;
    } in
    let len : c.in_ok-last.last.len ≡ length inner =
    sym (c.mark_before.auto.marks ∙ c.deref_mut.ensures.len) in
    let marks : c.deref-2.result.now ≡ inner = c.deref-2.ensures.value
    ∙ written_over c.in_ok-last.last.len inner _ len in
    let rows : at_marks c.deref-2.result.now tests ≡ at_marks inner tests =
    ap (λ m. at_marks m tests) marks in
    let numbers : at_marks c.deref-2.result.now c.deref.result.now
    ≡ at_marks inner given.numbers.items =
    ap (λ m. at_marks m c.deref.result.now) marks ∙ ap (at_marks inner) c.deref.ensures.value in (
      last,
      inner,
      c.in_ok-last.ensures.marks,
      before,
      c.in_ok-kept_tests.ensures.rows ∙ rows,
      c.in_ok-kept_tests.ensures.numbers ∙ numbers,
    )
