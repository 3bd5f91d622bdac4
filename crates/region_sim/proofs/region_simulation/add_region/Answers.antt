use Rattle.std.proofs.Common.{◌≡◌, ◌⊎◌, ◌<◌, ◌∙◌, ap, arith, length, subst, sym}
use Rattle.std.specs.Prelude.{Option, slice_index_or, unwrap_or}
use Rattle.std.proofs.lemmas.Option.{slice_get-get_or}
use Rattle.bench_net.specs.Scan.{names}
use Rattle.fault_model.specs.{Fault.Fault, Reordered.place}
use Rattle.flat_circuit.specs.{Readers.IsObserved, Regions.{IsStem, IsStemOfLine}}
use Rattle.flat_circuit.proofs.Public.{count_there, reordered, circuit_there}
use Rattle.block_sim.proofs.Public.{same_stems}
use Rattle.region_sim.proofs.PackedRegions.{gathered_more, gathered_over}
use Rattle.region_sim.proofs.RegionHits.{listed_at, settled_from, settled_there}
use Rattle.region_sim.proofs.region_simulation.add_region.Goals as goal

pub returns-then-not-is_open-clause-low : goal.returns-then-not-is_open-clause-low
returns-then-not-is_open-clause-low g c =
    c.requires.next.following c.args.from c.next_open.result c.next_open.ensures

pub returns-then-not-is_open-clause-within : goal.returns-then-not-is_open-clause-within
returns-then-not-is_open-clause-within g c =
    let end = c.requires.next.within c.args.from c.next_open.result c.next_open.ensures in
    omega (arith, end, c.requires.places)

pub returns-then-not-is_open-clause-len : goal.returns-then-not-is_open-clause-len
returns-then-not-is_open-clause-len g c =
    let up = c.requires.next.following c.args.from c.next_open.result c.next_open.ensures in
    omega (arith, up, c.requires.len)

pub returns-then-not-is_open-clause-gathered : goal.returns-then-not-is_open-clause-gathered
returns-then-not-is_open-clause-gathered g c = λ first before le agree was.
    let q = c.next_open.result in
    let next = c.next_open.ensures in
    let from = c.args.from in
    let up = c.requires.next.following from q next in
    let wants = g.G.Goal.wants c.args.goal.now in
    let kept = c.args.kept.now in
    gathered_over wants (g.G.Goal.means c.args.goal.now) c.args.job.now
    c.args.view.circuit.now.arranged c.args.span c.args.rows.now before first from q
    (omega (arith, up)) c.args.stems.now.items c.args.followed.now.items kept
    (settled_there wants from from q before kept (omega arith) agree
    (settled_from wants kept from q (slice_index_or kept from c.index-kept-from.result)
    (slice_get-get_or kept from c.index-kept-from.result
    (omega (arith, c.requires.within, c.requires.places)))
    (sym c.is_open.ensures ∙ c.if-not-is_open.true) (c.requires.next.between from q next))) was

pub place_of-stem-requires : goal.place_of-stem-requires
place_of-stem-requires g c =
    let own = listed_at c.args.job.now c.args.rows.now c.args.from c.row_at-row.result
    c.requires.rows c.row_at-row.ensures in
    subst (λ x. c.row_at-row.result.stem < length (names x)) (sym c.requires.view.part) own.named

pub begin-requires-clause-view : goal.begin-requires-clause-view
begin-requires-clause-view g c =
    let view = c.requires.view in
    record {
      circuit = circuit_there c.args.job.now.circuit c.args.view.circuit.now.arranged
          view.together.circuit view.arranged;
      count = view.count;
    }

pub begin-requires-clause-room : goal.begin-requires-clause-room
begin-requires-clause-room g c =
    let circuit = c.args.job.now.circuit in
    let there = c.args.view.circuit.now.arranged in
    let view = c.requires.view in
    let own = c.requires.regions in
    let same = count_there circuit there view.together.circuit.well_formed view.arranged in
    record {
      known = (let k = own.known in omega (arith, k, same));
      path = (let k = own.path in omega (arith, k, same));
    }

pub begin-requires-clause-stem : goal.begin-requires-clause-stem
begin-requires-clause-stem g c =
    let job = c.args.job.now in
    let circuit = job.circuit in
    let there = c.args.view.circuit.now.arranged in
    let view = c.requires.view in
    let well = view.together.circuit.well_formed in
    let row = c.row_at-row.result in
    let at = listed_at job c.args.rows.now c.args.from row c.requires.rows c.row_at-row.ensures in
    let h = at.stem in
    let o = at.stands in
    let same : h.0 ≡ o.0 = ap (λ (x : Option Fault). unwrap_or x h.0) (sym h.1 ∙ o.1) in
    let own = subst (λ f. IsStemOfLine circuit row.stem f.line) same h.2 in
    let on = ((same_stems circuit there well (reordered circuit there well view.arranged)).of_line
    o.0.model o.0 row.stem o.2.listed).0 own in
    let place_is : c.place_of-stem.result ≡ place circuit there row.stem =
    c.place_of-stem.ensures.place ∙ ap (λ x. place x there row.stem) view.part in
    subst (IsStem there) (sym place_is) on.2.1

pub follow_region-at-requires-clause-begun : goal.follow_region-at-requires-clause-begun
follow_region-at-requires-clause-begun g c =
    let there = c.args.view.circuit.now.arranged in
    let view = c.requires.view in
    let row = c.row_at-row.result in (
      row,
      c.row_at-row.ensures,
      record {
        sensitized = c.begin.ensures.sensitized;
        at = c.begin.ensures.stem ∙ (c.place_of-stem.ensures.place
            ∙ ap (λ x. place x there row.stem) view.part);
        lanes = c.begin.ensures.lanes;
      },
    )

pub returns-clause-low : goal.returns-clause-low
returns-clause-low g c = c.follow_region-at.ensures.end.some

pub returns-clause-within : goal.returns-clause-within
returns-clause-within g c = c.follow_region-at.ensures.end.within

pub returns-clause-gathered : goal.returns-clause-gathered
returns-clause-gathered g c = λ first before le agree was.
    let job = c.args.job.now in
    let there = c.args.view.circuit.now.arranged in
    let row = c.row_at-row.result in
    let stem = c.place_of-stem.result in
    let step = c.follow_region-at.ensures in
    let up = step.end.some in
    let begin = ap length c.as_slice-begin.ensures.value in
    let end = ap length c.as_slice-end.ensures.value in
    let wants = g.G.Goal.wants c.args.goal.now in
    gathered_more wants (g.G.Goal.means c.args.goal.now) job there c.args.span c.args.rows.now
    before first c.args.from c.follow_region-at.result (omega (arith, up)) c.args.stems.now.items
    c.add_slot.new.stems.items c.args.followed.now.items c.follow_region-at.new.followed.items
    c.args.kept.now c.follow_region-at.new.kept row (record {
      stem = stem;
      begin = length c.as_slice-begin.result.now;
      end = length c.as_slice-end.result.now;
    }) le up
    c.row_at-row.ensures (slice_index_or c.args.kept.now c.args.from c.index-kept-from.result)
    (sym (agree c.args.from (omega arith))
    ∙ slice_get-get_or c.args.kept.now c.args.from c.index-kept-from.result
    (omega (arith, c.requires.within, c.requires.places)))
    (sym c.is_open.ensures ∙ c.if-not-is_open.false)
    (c.place_of-stem.ensures.place ∙ ap (λ x. place x there row.stem) c.requires.view.part)
    c.place_of-stem.ensures.within begin end c.add_slot.ensures.some
    c.add_slot.ensures.none (step.added row c.row_at-row.ensures)
    (subst (λ s. (c.follow_region-at.new.followed.items ≡ c.args.followed.now.items)
    ⊎ (IsObserved there s → ⊥)) c.begin.ensures.stem step.hidden)
    (step.taken first before le agree was.taken) (step.at first le was.at)
    (step.ordered first le was.at was.ordered) (step.idle before agree was.idle)
    (step.still first before le agree was.at was.still) was

pub returns-clause-regions : goal.returns-clause-regions
returns-clause-regions g c = record {
  known = c.follow_region-at.ensures.same.known ∙ c.begin.ensures.known;
  path = c.follow_region-at.ensures.same.path ∙ c.begin.ensures.path;
}
