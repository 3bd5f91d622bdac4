use Rattle.std.proofs.{Common.{◌≡◌, true, refl, sym, ◌∙◌, ap, subst, arith}, lemmas.Bool.false≢true}
use Rattle.std.specs.Prelude.{Contains, Option, bit_and, unwrap_or}
use Rattle.fault_model.specs.{Fault.{Fault, faults}, Reordered.{moved_fault, place}}
use Rattle.flat_circuit.specs.{BlockSpans.group_of, Regions.IsStemOfLine, Stuck.stuck_fault}
use Rattle.flat_circuit.specs.{Readers.IsObserved, Words.{lane, test_of}, Origins.IsStuckOf}
use Rattle.flat_circuit.proofs.Public.{lane_zero, reordered, within_there, circuit_there}
use Rattle.flat_circuit.proofs.Public.{listed_there, starts_there, same_readers, lane_of_zero}
use Rattle.flat_circuit.proofs.Public.{lanes_decide}
use Rattle.region_sim.specs.{declared.region.Reach.TheVariants.{Observed, Stem}, Reached.IsReached}
use Rattle.region_sim.proofs.{ArrangedReaches.reached_there, SpanHits.lanes_exact}
use Rattle.block_sim.specs.Flips.{AreLanesFor, HasCome}
use Rattle.block_sim.proofs.Public.{room_there, observed_flip, lanes_both, lanes_first}
use Rattle.block_sim.proofs.Public.{lanes_second, same_flips, same_stems}
use Rattle.region_sim.proofs.region_simulation.follow_listed.Goals as goal

pub follow_within-requires-clause-view : goal.follow_within-requires-clause-view
follow_within-requires-clause-view c =
    let circuit = c.args.job.now.circuit in
    let there = c.args.view.circuit.now.arranged in
    let whole = c.requires.view.together.circuit in
    let arranged = c.requires.view.arranged in
    record { circuit = circuit_there circuit there whole arranged; count = c.requires.view.count }

pub follow_within-requires-clause-listed : goal.follow_within-requires-clause-listed
follow_within-requires-clause-listed c =
    let job = c.args.job.now in
    let circuit = job.circuit in
    let there = c.args.view.circuit.now.arranged in
    let arranged = c.requires.view.arranged in
    let well = c.requires.view.together.circuit.well_formed in
    let fault = c.requires.row.stands.0 in
    let starts = c.requires.row.stands.2 in
    let start = starts_there circuit there c.args.view.circuit.now.statements
    c.args.row.representative
    c.origin_of-origin.result c.requires.view.part c.origin_of-origin.ensures fault starts in
    let is : stuck_fault c.origin_of-origin.result.fault ≡ moved_fault circuit there fault =
    start.moved in
    subst (λ f. Contains (faults f.model there) f) (sym is)
    (listed_there circuit there well arranged fault.model fault starts.listed)

pub follow_within-requires-clause-words : goal.follow_within-requires-clause-words
follow_within-requires-clause-words c = (
  c.args.job.now.tests.tests,
  group_of c.args.span,
  c.requires.view.fault_free,
)

pub follow_within-requires-clause-room : goal.follow_within-requires-clause-room
follow_within-requires-clause-room c =
    room_there c.args.job.now.circuit c.args.view.circuit.now.arranged
    c.requires.view.together.circuit.well_formed c.requires.view.arranged
    c.args.changes.now c.requires.room

pub returns-in-Observed-clause-approach : goal.returns-in-Observed-clause-approach
returns-in-Observed-clause-approach c =
    let o = c.requires.row.stands in
    let job = c.args.job.now in
    let circuit = job.circuit in
    let there = c.args.view.circuit.now.arranged in
    let arranged = c.requires.view.arranged in
    let well = c.requires.view.together.circuit.well_formed in
    let fault = o.0 in
    let starts = o.2 in
    let tests = job.tests.tests in
    let span = c.args.span in
    let group = group_of span in
    let lanes = bit_and c.args.view.lanes c.launch_lanes.result in
    let own = c.requires.view.lanes in
    let decides : AreLanesFor tests span circuit fault lanes =
    λ k lt. lanes_decide c.args.view.lanes c.launch_lanes.result k (own k lt)
    (λ is. c.launch_lanes.ensures fault k starts lt is.listed) in
    let start = starts_there circuit there c.args.view.circuit.now.statements
    c.args.row.representative
    c.origin_of-origin.result c.requires.view.part c.origin_of-origin.ensures fault starts in
    let is : stuck_fault c.origin_of-origin.result.fault ≡ moved_fault circuit there fault =
    start.moved in
    let words = c.requires.view.fault_free in
    let word = c.in-Observed.word in
    let reached = reached_there circuit there well arranged tests group fault lanes word
    (subst (λ f. IsReached there tests group f lanes (Observed word)) is
    (c.in-Observed.ensures.reached tests group words)) in (
      fault,
      o.1,
      lanes_exact circuit tests span fault lanes word decides reached,
    )

pub returns-then-lanes-eq0-clause-approach : goal.returns-then-lanes-eq0-clause-approach
returns-then-lanes-eq0-clause-approach c =
    let o = c.requires.row.stands in
    let job = c.args.job.now in
    let circuit = job.circuit in
    let there = c.args.view.circuit.now.arranged in
    let arranged = c.requires.view.arranged in
    let well = c.requires.view.together.circuit.well_formed in
    let fault = o.0 in
    let starts = o.2 in
    let tests = job.tests.tests in
    let span = c.args.span in
    let group = group_of span in
    let lanes = bit_and c.args.view.lanes c.launch_lanes.result in
    let own = c.requires.view.lanes in
    let decides : AreLanesFor tests span circuit fault lanes =
    λ k lt. lanes_decide c.args.view.lanes c.launch_lanes.result k (own k lt)
    (λ is. c.launch_lanes.ensures fault k starts lt is.listed) in
    let start = starts_there circuit there c.args.view.circuit.now.statements
    c.args.row.representative
    c.origin_of-origin.result c.requires.view.part c.origin_of-origin.ensures fault starts in
    let is : stuck_fault c.origin_of-origin.result.fault ≡ moved_fault circuit there fault =
    start.moved in
    let words = c.requires.view.fault_free in
    let at = c.in-Stem.at in
    let stem : at.signal ≡ place circuit there c.args.row.stem = c.in-Stem.ensures.stem at refl
    ∙ c.requires.begun.at in
    let come : HasCome circuit tests group fault lanes c.args.row.stem at.lanes =
    ((same_flips circuit there well (reordered circuit there well arranged)).come tests group
    fault lanes c.args.row.stem at.lanes).1
    (subst (λ s. HasCome there tests group (moved_fault circuit there fault) lanes s at.lanes) stem
    (subst (λ f. IsReached there tests group f lanes (Stem at)) is
    (c.in-Stem.ensures.reached tests group words))) in (
      fault,
      o.1,
      lanes_exact circuit tests span fault lanes 0 decides (λ k lt. (
        λ e. absurd (false≢true (sym (lane_zero k) ∙ e)),
        λ h. absurd (false≢true (sym (lane_of_zero (bit_and lanes at.lanes) k c.if-lanes-eq0.true)
            ∙ lanes_both lanes at.lanes k h.0 ((come k lt h.0).0 h.1).0)),
      )),
    )

pub returns-else-is_observed-clause-approach : goal.returns-else-is_observed-clause-approach
returns-else-is_observed-clause-approach c =
    let o = c.requires.row.stands in
    let job = c.args.job.now in
    let circuit = job.circuit in
    let there = c.args.view.circuit.now.arranged in
    let arranged = c.requires.view.arranged in
    let well = c.requires.view.together.circuit.well_formed in
    let fault = o.0 in
    let starts = o.2 in
    let tests = job.tests.tests in
    let span = c.args.span in
    let group = group_of span in
    let lanes = bit_and c.args.view.lanes c.launch_lanes.result in
    let own = c.requires.view.lanes in
    let decides : AreLanesFor tests span circuit fault lanes =
    λ k lt. lanes_decide c.args.view.lanes c.launch_lanes.result k (own k lt)
    (λ is. c.launch_lanes.ensures fault k starts lt is.listed) in
    let start = starts_there circuit there c.args.view.circuit.now.statements
    c.args.row.representative
    c.origin_of-origin.result c.requires.view.part c.origin_of-origin.ensures fault starts in
    let is : stuck_fault c.origin_of-origin.result.fault ≡ moved_fault circuit there fault =
    start.moved in
    let words = c.requires.view.fault_free in
    let at = c.in-Stem.at in
    let here = c.args.row.stem in
    let stem : at.signal ≡ place circuit there here = c.in-Stem.ensures.stem at refl
    ∙ c.requires.begun.at in
    let come : HasCome circuit tests group fault lanes here at.lanes =
    ((same_flips circuit there well (reordered circuit there well arranged)).come tests group
    fault lanes here at.lanes).1
    (subst (λ s. HasCome there tests group (moved_fault circuit there fault) lanes s at.lanes) stem
    (subst (λ f. IsReached there tests group f lanes (Stem at)) is
    (c.in-Stem.ensures.reached tests group words))) in (
      c.requires.row.named,
      (fault, lanes, at.lanes, o.1, decides, come, refl),
    )

pub returns-then-is_observed-clause-approach : goal.returns-then-is_observed-clause-approach
returns-then-is_observed-clause-approach c =
    let o = c.requires.row.stands in
    let job = c.args.job.now in
    let circuit = job.circuit in
    let there = c.args.view.circuit.now.arranged in
    let arranged = c.requires.view.arranged in
    let well = c.requires.view.together.circuit.well_formed in
    let fault = o.0 in
    let starts = o.2 in
    let tests = job.tests.tests in
    let span = c.args.span in
    let group = group_of span in
    let lanes = bit_and c.args.view.lanes c.launch_lanes.result in
    let own = c.requires.view.lanes in
    let decides : AreLanesFor tests span circuit fault lanes =
    λ k lt. lanes_decide c.args.view.lanes c.launch_lanes.result k (own k lt)
    (λ is. c.launch_lanes.ensures fault k starts lt is.listed) in
    let start = starts_there circuit there c.args.view.circuit.now.statements
    c.args.row.representative
    c.origin_of-origin.result c.requires.view.part c.origin_of-origin.ensures fault starts in
    let is : stuck_fault c.origin_of-origin.result.fault ≡ moved_fault circuit there fault =
    start.moved in
    let words = c.requires.view.fault_free in
    let at = c.in-Stem.at in
    let here = c.args.row.stem in
    let stem : at.signal ≡ place circuit there here = c.in-Stem.ensures.stem at refl
    ∙ c.requires.begun.at in
    let come : HasCome circuit tests group fault lanes here at.lanes =
    ((same_flips circuit there well (reordered circuit there well arranged)).come tests group
    fault lanes here at.lanes).1
    (subst (λ s. HasCome there tests group (moved_fault circuit there fault) lanes s at.lanes) stem
    (subst (λ f. IsReached there tests group f lanes (Stem at)) is
    (c.in-Stem.ensures.reached tests group words))) in
    let readers = same_readers circuit there well (reordered circuit there well arranged) in
    let observed : IsObserved circuit here = (readers.observed here).1
    (subst (IsObserved there) stem (c.is_observed.ensures.0 c.if-is_observed.true)) in (
      fault,
      o.1,
      lanes_exact circuit tests span fault lanes (bit_and lanes at.lanes) decides (λ k lt. (
        λ e. (
          lanes_first lanes at.lanes k e,
          (come k lt (lanes_first lanes at.lanes k e)).1 (
            lanes_second lanes at.lanes k e,
            observed_flip circuit (test_of tests group k) here well observed,
          ),
        ),
        λ h. lanes_both lanes at.lanes k h.0 ((come k lt h.0).0 h.1).0,
      )),
    )

pub launch_lanes-requires-clause-stuck : goal.launch_lanes-requires-clause-stuck
launch_lanes-requires-clause-stuck c = (c.requires.row.stands.0, c.requires.row.stands.2)

pub origin_of-origin-requires : goal.origin_of-origin-requires
origin_of-origin-requires c =
    let o = c.requires.row.stands in (
      o.0,
      subst (λ x. IsStuckOf x o.0 c.args.row.representative) (sym c.requires.view.part) o.2,
    )

pub follow_within-requires-clause-carried : goal.follow_within-requires-clause-carried
follow_within-requires-clause-carried c =
    (starts_there c.args.job.now.circuit c.args.view.circuit.now.arranged
    c.args.view.circuit.now.statements c.args.row.representative c.origin_of-origin.result
    c.requires.view.part c.origin_of-origin.ensures c.requires.row.stands.0
    c.requires.row.stands.2).carried

pub follow_within-requires-clause-inside : goal.follow_within-requires-clause-inside
follow_within-requires-clause-inside c = λ k lt e.
    subst (λ m. lane m k ≡ true) (sym c.requires.begun.lanes)
    (lanes_first c.args.view.lanes c.launch_lanes.result k e)

pub follow_within-requires-clause-stem : goal.follow_within-requires-clause-stem
follow_within-requires-clause-stem c =
    let circuit = c.args.job.now.circuit in
    let there = c.args.view.circuit.now.arranged in
    let arranged = c.requires.view.arranged in
    let well = c.requires.view.together.circuit.well_formed in
    let o = c.requires.row.stands in
    let fault = o.0 in
    let starts = o.2 in
    let start = starts_there circuit there c.args.view.circuit.now.statements
    c.args.row.representative c.origin_of-origin.result c.requires.view.part
    c.origin_of-origin.ensures fault starts in
    let is : stuck_fault c.origin_of-origin.result.fault ≡ moved_fault circuit there fault =
    start.moved in
    let h = c.requires.row.stem in
    let same : h.0 ≡ fault = ap (λ (x : Option Fault). unwrap_or x h.0) (sym h.1 ∙ o.1) in
    let own = subst (λ f. IsStemOfLine circuit c.args.row.stem f.line) same h.2 in
    let on = ((same_stems circuit there well (reordered circuit there well arranged)).of_line
    fault.model fault c.args.row.stem starts.listed).0 own in
    subst (λ s. IsStemOfLine there s c.origin_of-origin.result.fault.line) (sym c.requires.begun.at)
    (subst (λ f. IsStemOfLine there (place circuit there c.args.row.stem) f.line) (sym is) on)

pub is_observed-requires : goal.is_observed-requires
is_observed-requires c =
    let circuit = c.args.job.now.circuit in
    let there = c.args.view.circuit.now.arranged in
    let stem = c.in-Stem.ensures.stem c.in-Stem.at refl ∙ c.requires.begun.at in
    let lt = within_there circuit there c.requires.view.together.circuit.well_formed
    c.requires.view.arranged c.args.row.stem c.requires.row.named in
    omega (arith, stem, lt)

pub returns-else-is_observed-clause-hidden : goal.returns-else-is_observed-clause-hidden
returns-else-is_observed-clause-hidden c = λ at e observed.
    false≢true (sym c.if-is_observed.false ∙ c.is_observed.ensures.1
    (subst (IsObserved c.args.view.circuit.now.arranged)
    (sym (c.in-Stem.ensures.stem c.in-Stem.at refl)) observed))
