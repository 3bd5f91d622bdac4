use Rattle.std.proofs.Common.{◌≡◌, ◌<◌, ◌∙◌, ◌+◌, ◌*◌, ℕ, ap, arith, refl, subst, sym}
use Rattle.std.specs.{Prelude.{Contains, Option, bit_and, unwrap_or}, Bool.Decides}
use Rattle.std.proofs.lemmas.Bool.{false≢true}
use Rattle.fault_model.specs.{Detection.LooksBack, Fault.{Fault, faults}}
use Rattle.fault_model.specs.Reordered.{moved_fault, place}
use Rattle.wide_words.specs.{Layouts.both_layout, Wide.number}
use Rattle.region_sim.specs.declared.unit_start.WideReach.TheVariants.{Observed}
use Rattle.region_sim.specs.Units.{HaveCome, IsWideReached, group_in}
use Rattle.region_sim.proofs.UnitApproaches.{comes_in_unit, known_in_unit}
use Rattle.flat_circuit.specs.{Readers.IsObserved, Origins.IsStuckOf, Regions.IsStemOfLine}
use Rattle.flat_circuit.specs.{Stuck.stuck_fault, Words.{lane, test_of}}
use Rattle.flat_circuit.proofs.Public.{reordered, within_there, circuit_there, listed_there}
use Rattle.flat_circuit.proofs.Public.{starts_there, lane_zero, same_readers}
use Rattle.block_sim.proofs.Public.{observed_flip, same_stems}
use Rattle.region_sim.proofs.unit_approach.approach.Goals as goal

pub launch_in_unit-launch-requires-clause-stuck : goal.launch_in_unit-launch-requires-clause-stuck
launch_in_unit-launch-requires-clause-stuck c = (c.requires.row.stands.0, c.requires.row.stands.2)

pub origin_of-origin-requires : goal.origin_of-origin-requires
origin_of-origin-requires c =
    let o = c.requires.row.stands in (
      o.0,
      subst (λ x. IsStuckOf x o.0 c.args.row.representative) (sym c.requires.view.part) o.2,
    )

pub follow_to_stem-requires-clause-circuit : goal.follow_to_stem-requires-clause-circuit
follow_to_stem-requires-clause-circuit c =
    circuit_there c.args.job.now.circuit c.args.view.circuit.now.arranged
    c.requires.view.together.circuit c.requires.view.arranged

pub follow_to_stem-requires-clause-listed : goal.follow_to_stem-requires-clause-listed
follow_to_stem-requires-clause-listed c =
    let job = c.args.job.now in
    let circuit = job.circuit in
    let there = c.args.view.circuit.now.arranged in
    let view = c.requires.view in
    let arranged = view.arranged in
    let well = view.together.circuit.well_formed in
    let o = c.requires.row.stands in
    let fault = o.0 in
    let starts = o.2 in
    let start = starts_there circuit there c.args.view.circuit.now.statements
    c.args.row.representative c.origin_of-origin.result view.part c.origin_of-origin.ensures fault
    starts in
    let is : stuck_fault c.origin_of-origin.result.fault ≡ moved_fault circuit there fault =
    start.moved in
    subst (λ f. Contains (faults f.model there) f) (sym is)
    (listed_there circuit there well arranged fault.model fault starts.listed)

pub follow_to_stem-requires-clause-carried : goal.follow_to_stem-requires-clause-carried
follow_to_stem-requires-clause-carried c =
    (starts_there c.args.job.now.circuit c.args.view.circuit.now.arranged
    c.args.view.circuit.now.statements c.args.row.representative c.origin_of-origin.result
    c.requires.view.part c.origin_of-origin.ensures c.requires.row.stands.0
    c.requires.row.stands.2).carried

pub follow_to_stem-requires-clause-stem : goal.follow_to_stem-requires-clause-stem
follow_to_stem-requires-clause-stem c =
    let job = c.args.job.now in
    let circuit = job.circuit in
    let there = c.args.view.circuit.now.arranged in
    let view = c.requires.view in
    let arranged = view.arranged in
    let well = view.together.circuit.well_formed in
    let o = c.requires.row.stands in
    let fault = o.0 in
    let starts = o.2 in
    let start = starts_there circuit there c.args.view.circuit.now.statements
    c.args.row.representative c.origin_of-origin.result view.part c.origin_of-origin.ensures fault
    starts in
    let is : stuck_fault c.origin_of-origin.result.fault ≡ moved_fault circuit there fault =
    start.moved in
    let h = c.requires.row.stem in
    let same : h.0 ≡ fault = ap (λ (x : Option Fault). unwrap_or x h.0) (sym h.1 ∙ o.1) in
    let own = subst (λ f. IsStemOfLine circuit c.args.row.stem f.line) same h.2 in
    let on = ((same_stems circuit there well (reordered circuit there well arranged)).of_line
    fault.model fault c.args.row.stem starts.listed).0 own in
    subst (λ s. IsStemOfLine there s c.origin_of-origin.result.fault.line) (sym c.requires.at)
    (subst (λ f. IsStemOfLine there (place circuit there c.args.row.stem) f.line) (sym is) on)

pub is_observed-requires : goal.is_observed-requires
is_observed-requires c =
    let circuit = c.args.job.now.circuit in
    let there = c.args.view.circuit.now.arranged in
    let stem = c.in-Stem.ensures.stem c.in-Stem.at refl ∙ c.requires.at in
    let lt = within_there circuit there c.requires.view.together.circuit.well_formed
    c.requires.view.arranged c.args.row.stem c.requires.row.named in
    omega (arith, stem, lt)

pub returns-in-Observed-clause-approach : goal.returns-in-Observed-clause-approach
returns-in-Observed-clause-approach c =
    let job = c.args.job.now in
    let circuit = job.circuit in
    let there = c.args.view.circuit.now.arranged in
    let view = c.requires.view in
    let arranged = view.arranged in
    let well = view.together.circuit.well_formed in
    let o = c.requires.row.stands in
    let fault = o.0 in
    let starts = o.2 in
    let start = starts_there circuit there c.args.view.circuit.now.statements
    c.args.row.representative c.origin_of-origin.result view.part c.origin_of-origin.ensures fault
    starts in
    let is : stuck_fault c.origin_of-origin.result.fault ≡ moved_fault circuit there fault =
    start.moved in
    let group = c.args.group in
    let tests = job.tests.tests in
    let launch = number c.launch_in_unit-launch.result in
    let looks : (k : ℕ) → k < 512 → Decides (lane launch k)
    (LooksBack circuit tests fault.model fault.line fault.stuck (128 * group + k)) =
    λ k lt. c.launch_in_unit-launch.ensures fault k starts lt in
    let word = c.in-Observed.word in
    let reached = subst (λ f. IsWideReached there tests both_layout (group_in group) f launch
    (Observed word)) is (c.in-Observed.ensures.reached tests (group_in group) view.fault_free) in (
      fault,
      o.1,
      known_in_unit circuit there well arranged tests group c.requires.full fault launch looks word
          reached,
    )

pub returns-then-is_none-clause-approach : goal.returns-then-is_none-clause-approach
returns-then-is_none-clause-approach c =
    let job = c.args.job.now in
    let circuit = job.circuit in
    let there = c.args.view.circuit.now.arranged in
    let view = c.requires.view in
    let arranged = view.arranged in
    let well = view.together.circuit.well_formed in
    let o = c.requires.row.stands in
    let fault = o.0 in
    let starts = o.2 in
    let start = starts_there circuit there c.args.view.circuit.now.statements
    c.args.row.representative c.origin_of-origin.result view.part c.origin_of-origin.ensures fault
    starts in
    let is : stuck_fault c.origin_of-origin.result.fault ≡ moved_fault circuit there fault =
    start.moved in
    let group = c.args.group in
    let tests = job.tests.tests in
    let launch = number c.launch_in_unit-launch.result in
    let looks : (k : ℕ) → k < 512 → Decides (lane launch k)
    (LooksBack circuit tests fault.model fault.line fault.stuck (128 * group + k)) =
    λ k lt. c.launch_in_unit-launch.ensures fault k starts lt in
    let at = c.in-Stem.at in
    let stem : at.signal ≡ place circuit there c.args.row.stem = c.in-Stem.ensures.stem at refl
    ∙ c.requires.at in
    let come : HaveCome there tests both_layout (group_in group) (moved_fault circuit there fault)
    launch (place circuit there c.args.row.stem) (number at.lanes) =
    subst (λ s. HaveCome there tests both_layout (group_in group) (moved_fault circuit there fault)
    launch s (number at.lanes)) stem
    (subst (λ f. HaveCome there tests both_layout (group_in group) f launch at.signal
    (number at.lanes)) is (c.in-Stem.ensures.reached tests (group_in group) view.fault_free)) in
    let both = comes_in_unit circuit there well arranged tests group c.requires.full fault launch
    looks c.args.row.stem (number at.lanes) come in
    let empty : bit_and launch (number at.lanes) ≡ 0 = sym c.and-lanes.ensures
    ∙ c.is_none.ensures.0 c.if-is_none.true in (
      fault,
      o.1,
      λ k lt. (
        λ e. absurd (false≢true (sym (lane_zero k)
            ∙ (sym (ap (λ w. lane w k) c.none.ensures) ∙ e))),
        λ h. absurd (false≢true (sym (lane_zero k)
            ∙ (sym (ap (λ w. lane w k) empty) ∙ ((both k lt).0 h).0))),
      ),
    )

pub returns-then-is_observed-clause-approach : goal.returns-then-is_observed-clause-approach
returns-then-is_observed-clause-approach c =
    let job = c.args.job.now in
    let circuit = job.circuit in
    let there = c.args.view.circuit.now.arranged in
    let view = c.requires.view in
    let arranged = view.arranged in
    let well = view.together.circuit.well_formed in
    let o = c.requires.row.stands in
    let fault = o.0 in
    let starts = o.2 in
    let start = starts_there circuit there c.args.view.circuit.now.statements
    c.args.row.representative c.origin_of-origin.result view.part c.origin_of-origin.ensures fault
    starts in
    let is : stuck_fault c.origin_of-origin.result.fault ≡ moved_fault circuit there fault =
    start.moved in
    let group = c.args.group in
    let tests = job.tests.tests in
    let launch = number c.launch_in_unit-launch.result in
    let looks : (k : ℕ) → k < 512 → Decides (lane launch k)
    (LooksBack circuit tests fault.model fault.line fault.stuck (128 * group + k)) =
    λ k lt. c.launch_in_unit-launch.ensures fault k starts lt in
    let at = c.in-Stem.at in
    let stem : at.signal ≡ place circuit there c.args.row.stem = c.in-Stem.ensures.stem at refl
    ∙ c.requires.at in
    let come : HaveCome there tests both_layout (group_in group) (moved_fault circuit there fault)
    launch (place circuit there c.args.row.stem) (number at.lanes) =
    subst (λ s. HaveCome there tests both_layout (group_in group) (moved_fault circuit there fault)
    launch s (number at.lanes)) stem
    (subst (λ f. HaveCome there tests both_layout (group_in group) f launch at.signal
    (number at.lanes)) is (c.in-Stem.ensures.reached tests (group_in group) view.fault_free)) in
    let both = comes_in_unit circuit there well arranged tests group c.requires.full fault launch
    looks c.args.row.stem (number at.lanes) come in
    let readers = same_readers circuit there well (reordered circuit there well arranged) in
    let observed : IsObserved circuit c.args.row.stem = (readers.observed c.args.row.stem).1
    (subst (IsObserved there) stem (c.is_observed.ensures.0 c.if-is_observed.true)) in (
      fault,
      o.1,
      λ k lt. (
        λ e. (both k lt).1 (
          sym (ap (λ w. lane w k) c.and-lanes.ensures) ∙ e,
          observed_flip circuit (test_of tests group k) c.args.row.stem well observed,
        ),
        λ h. ap (λ w. lane w k) c.and-lanes.ensures ∙ ((both k lt).0 h).0,
      ),
    )

pub returns-else-is_observed-clause-approach : goal.returns-else-is_observed-clause-approach
returns-else-is_observed-clause-approach c =
    let job = c.args.job.now in
    let circuit = job.circuit in
    let there = c.args.view.circuit.now.arranged in
    let view = c.requires.view in
    let arranged = view.arranged in
    let well = view.together.circuit.well_formed in
    let o = c.requires.row.stands in
    let fault = o.0 in
    let starts = o.2 in
    let start = starts_there circuit there c.args.view.circuit.now.statements
    c.args.row.representative c.origin_of-origin.result view.part c.origin_of-origin.ensures fault
    starts in
    let is : stuck_fault c.origin_of-origin.result.fault ≡ moved_fault circuit there fault =
    start.moved in
    let group = c.args.group in
    let tests = job.tests.tests in
    let launch = number c.launch_in_unit-launch.result in
    let looks : (k : ℕ) → k < 512 → Decides (lane launch k)
    (LooksBack circuit tests fault.model fault.line fault.stuck (128 * group + k)) =
    λ k lt. c.launch_in_unit-launch.ensures fault k starts lt in
    let at = c.in-Stem.at in
    let stem : at.signal ≡ place circuit there c.args.row.stem = c.in-Stem.ensures.stem at refl
    ∙ c.requires.at in
    let come : HaveCome there tests both_layout (group_in group) (moved_fault circuit there fault)
    launch (place circuit there c.args.row.stem) (number at.lanes) =
    subst (λ s. HaveCome there tests both_layout (group_in group) (moved_fault circuit there fault)
    launch s (number at.lanes)) stem
    (subst (λ f. HaveCome there tests both_layout (group_in group) f launch at.signal
    (number at.lanes)) is (c.in-Stem.ensures.reached tests (group_in group) view.fault_free)) in
    let both = comes_in_unit circuit there well arranged tests group c.requires.full fault launch
    looks c.args.row.stem (number at.lanes) come in (
      fault,
      o.1,
      λ k lt. (
        λ h. (ap (λ w. lane w k) c.and-lanes.ensures ∙ ((both k lt).0 h).0, ((both k lt).0 h).1),
        λ p. (both k lt).1 (sym (ap (λ w. lane w k) c.and-lanes.ensures) ∙ p.0, p.1),
      ),
    )

pub returns-else-is_observed-clause-hidden : goal.returns-else-is_observed-clause-hidden
returns-else-is_observed-clause-hidden c = λ lanes e observed.
    false≢true (sym c.if-is_observed.false ∙ c.is_observed.ensures.1
    (subst (IsObserved c.args.view.circuit.now.arranged)
    (sym (c.in-Stem.ensures.stem c.in-Stem.at refl)) observed))
