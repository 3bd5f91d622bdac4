use Rattle.std.proofs.{Common.{◌∙◌, ◌+◌, ◌*◌, ap, length, subst, sym}, lemmas.List.with_items_is}
use Rattle.region_sim.specs.{Goals.{HaveTaken, IsFirstHit, is_unknown}, OpenPlaces.AreNextOpen}
use Rattle.region_sim.{specs.RegionHits.ServesRegions, proofs.Public.successors_open}
use Rattle.workers.{specs.Swept.AreSweptFirsts, proofs.SweptBlocks.swept_more}
use Rattle.workers.proofs.swept.Swept.sweep.Goals as goal

pub simulate-requires-clause-next : goal.simulate-requires-clause-next
simulate-requires-clause-next c =
    let s = c.args.self.now in
    let was = c.requires.serves in
    subst (λ l. AreNextOpen is_unknown c.as_mut_slice-firsts.result.now l)
    (sym c.as_slice-next.ensures.value)
    (subst (λ l. AreNextOpen is_unknown l s.next.items) (sym c.as_mut_slice-firsts.ensures.value)
    (successors_open is_unknown s.firsts.items s.next.items (was.nexts ∙ sym was.count) was.next))

pub returns-clause-serves : goal.returns-clause-serves
returns-clause-serves c =
    let job = c.args.job.now in
    let s = c.args.self.now in
    let was = c.requires.serves in
    let after = c.simulate.new.kept in
    let span = c.sweep_from-span.result in
    let step = c.simulate.ensures in
    let items = with_items_is s.firsts after (step.places ∙ c.as_mut_slice-firsts.ensures.len) in
    let rows_is = c.as_slice-rows.ensures.value in
    let taken : HaveTaken IsFirstHit job span s.rows.items 0 (length s.rows.items) s.firsts.items
    after = subst (λ f. HaveTaken IsFirstHit job span s.rows.items 0 (length s.rows.items) f after)
    c.as_mut_slice-firsts.ensures.value
    (subst (λ r. HaveTaken IsFirstHit job span r 0 (length r) c.as_mut_slice-firsts.result.now
    after) rows_is step.taken) in
    record {
      fits = was.fits;
      serves = subst (λ r. ServesRegions c.simulate.new.self job (length r)) rows_is step.serves;
      listed = was.listed;
      count = ap length items ∙ (step.places ∙ (ap length c.as_mut_slice-firsts.ensures.value
          ∙ was.count));
      nexts = was.nexts;
      next = was.next;
      numbers = was.numbers;
      placed = was.placed;
      found = subst (AreSweptFirsts job (64 * (span.last + 1)) s.rows.items) (sym items)
          (swept_more job c.tests-tests.ensures.together span s.rows.items s.firsts.items after
          (subst (λ n. AreSweptFirsts job (64 * n) s.rows.items s.firsts.items)
          (sym c.sweep_from-span.ensures.first) was.found) taken);
    }
