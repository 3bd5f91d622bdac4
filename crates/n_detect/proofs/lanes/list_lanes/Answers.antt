use Rattle.std.proofs.Common.{◌≡◌, ◌∙◌, ap, arith, length, rules, subst, sym, true}
use Rattle.std.{specs.Prelude.slice_index_or, proofs.lemmas.List.{get_or-replicate, with_items_is}}
use Rattle.std.proofs.lemmas.Option.{get_or_from_slice_get, slice_get_within}
use Rattle.region_sim.{proofs.Public.successors_open, specs.ClassOrder.AreRowsOf}
use Rattle.region_sim.specs.OpenPlaces.{AreNextOpen}
use Rattle.n_detect.{specs.ListLanes.AreListLanes, proofs.GroupWords.group_lanes}
use Rattle.n_detect.proofs.ListLanes.{list_lanes_are}
use Rattle.region_runs.proofs.Public.{row_listed}
use Rattle.n_detect.proofs.lanes.list_lanes.Goals as goal

pub simulate-requires-clause-next : goal.simulate-requires-clause-next
simulate-requires-clause-next c =
    let before = c.as_mut_slice-kept.result.now in
    let next = c.in_ok-next.next in
    let words = c.in_ok-words.words in
    let same = ap length c.as_mut_slice-kept.ensures.value in
    subst (λ l. AreNextOpen (λ _. true) before l) (sym c.as_slice.ensures.value)
    (successors_open (λ _. true) before next.items
    (omega (arith, c.in_ok-next.ensures.count, c.in_ok-words.ensures.len, words.ok.0, same))
    c.in_ok-next.ensures.next)

pub returns-clause-lanes : goal.returns-clause-lanes
returns-clause-lanes c =
    let job = c.args.job.now in
    let group = c.args.group in
    let classes = c.args.classes.now in
    let rows = c.as_slice-listed.result.now in
    let words = c.in_ok-words.words in
    let before = c.as_mut_slice-kept.result.now in
    let found = c.simulate.new.kept in
    let span = c.span_of-span.ensures in
    let are = subst (AreRowsOf job classes) (sym c.as_slice-listed.ensures.value)
    c.in_ok-rows.ensures in
    let zeros = c.in_ok-words.ensures.items_if_clones_equal (λ y is. search rules) in
    let same = ap length c.as_mut_slice-kept.ensures.value in
    let whole : length found ≡ words.len =
    omega (arith, c.simulate.ensures.places, c.as_mut_slice-kept.ensures.len) in
    let count : length found ≡ length classes = omega (arith, whole, c.in_ok-words.ensures.len) in
    subst (AreListLanes job group classes) (sym (with_items_is words found whole))
    (list_lanes_are job group classes rows found are count
    (group_lanes job c.tests-tests.ensures.together group c.span_of-span.result rows before found
    span.first span.whole (λ place row at. row_listed job rows place row are.each at) (λ place n e.
    let lt = slice_get_within before place n e in
    sym (get_or_from_slice_get before place n 0 e)
    ∙ (ap (λ l. slice_index_or l place 0) (c.as_mut_slice-kept.ensures.value ∙ zeros)
    ∙ get_or-replicate _ place 0 0 (omega (
      arith,
      lt,
      c.in_ok-words.ensures.len,
      words.ok.0,
      same,
    )))) c.simulate.ensures.taken))
