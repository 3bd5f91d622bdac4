use Rattle.std.proofs.Common.{◌≡◌, ◌≤◌, ◌∙◌, ap, arith, inl, inr, length, subst, sym}
use Rattle.std.specs.Prelude.{Some, bit_or, slice_get, slice_set}
use Rattle.std.proofs.lemmas.Bool.{cases_lt, false≢true}
use Rattle.std.proofs.lemmas.Option.{get_or_from_slice_get, slice_get-get_or}
use Rattle.n_detect.{specs.ClassTests.AreGroupsIn, proofs.ClassGroups.{groups_past, groups_taken}}
use Rattle.n_detect.proofs.detecting.GroupTestsGoal.take.Goals as goal

pub returns-in-Some : goal.returns-in-Some
returns-in-Some c = λ hits low from to le tells was.
    let old = c.args.kept.now.items in
    let group = c.args.group in
    let word = c.in-Some.word.now in
    let here : slice_get old group ≡ Some word =
    slice_get-get_or old group word c.in-Some.ensures.item.3.0
    ∙ ap Some (sym c.in-Some.ensures.value) in
    subst (λ w. AreGroupsIn c.args.self.now.groups hits low to
    (slice_set old group (bit_or w c.args.lanes))) (get_or_from_slice_get old group word 0 here)
    (groups_taken c.args.self.now.groups group hits low from to le old c.args.lanes tells was)

pub returns-in_default : goal.returns-in_default
returns-in_default c = λ hits low from to le tells was.
    let old = c.args.kept.now.items in
    let group = c.args.group in
    let past : length old ≤ group = elim (cases_lt group (length old)) [
      | inl lt ↦ absurd (false≢true (c.in_default.ensures.variant.1
          (omega (arith, lt, c.args.kept.now.ok.0))))
      | inr ge ↦ ge
    ] in
    groups_past c.args.self.now.groups group hits low from to le old c.args.lanes past tells was
