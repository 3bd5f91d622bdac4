use Rattle.std.proofs.Common.{◌≡◌, ◌<◌, ◌∙◌, ap, arith, inl, inr, length, subst, sym}
use Rattle.std.specs.Prelude.{◌==◌, Contains, Some, slice_get, slice_index_or, unwrap_or}
use Rattle.std.proofs.lemmas.{Option.slice_get-get_or, Bool.false≢true, Bool.Decides.Decides-eqb}
use Rattle.std.proofs.lemmas.List.{nil_from_length}
use Rattle.bench_net.specs.Scan.{names}
use Rattle.fault_model.specs.Reordered.{place}
use Rattle.wide_words.specs.Layouts.{both_layout}
use Rattle.flat_circuit.{specs.Readers.IsObserved, proofs.Public.{count_there, circuit_there}}
use Rattle.region_sim.specs.UnitHits.{AreClassesAt, AreClassesInOrder, AreClassesStill}
use Rattle.region_sim.specs.UnitHits.{HaveArrivedInUnit, HaveTakenBeside, IsClassAt}
use Rattle.region_sim.specs.Units.{unit_rows, unit_span}
use Rattle.region_sim.proofs.RegionHits.{listed_at, settled_from}
use Rattle.region_sim.proofs.UnitFlips.{none_came, settled_taken}
use Rattle.region_sim.proofs.unit_simulation.simulate_unit.Goals as goal

pub returns-then-not-is_open-clause-low : goal.returns-then-not-is_open-clause-low
returns-then-not-is_open-clause-low g c =
    c.requires.next.following c.args.from c.next_open.result c.next_open.ensures

pub returns-then-not-is_open-clause-within : goal.returns-then-not-is_open-clause-within
returns-then-not-is_open-clause-within g c =
    let end = c.requires.next.within c.args.from c.next_open.result c.next_open.ensures in
    omega (arith, end, c.requires.places)

pub returns-then-not-is_open-clause-taken : goal.returns-then-not-is_open-clause-taken
returns-then-not-is_open-clause-taken g c =
    let q = c.next_open.result in
    let wants = g.G.Goal.wants c.args.goal.now in
    let kept = c.args.kept.now in
    settled_taken wants (g.G.Goal.means c.args.goal.now) c.args.job.now (unit_span c.args.group)
    c.args.rows.now c.args.from q kept kept (settled_from wants kept c.args.from q
    (slice_index_or kept c.args.from c.index-kept-from.result)
    (slice_get-get_or kept c.args.from c.index-kept-from.result
    (omega (arith, c.requires.from, c.requires.places)))
    (sym c.is_open.ensures ∙ c.if-not-is_open.true)
    (c.requires.next.between c.args.from q c.next_open.ensures))

pub place_of-stem-requires : goal.place_of-stem-requires
place_of-stem-requires g c =
    let own = listed_at c.args.job.now c.args.rows.now c.args.from c.row_at-number.result
    c.requires.rows c.row_at-number.ensures in
    subst (λ x. c.row_at-number.result.stem < length (names x)) (sym c.unit_view-view.ensures.part)
    own.named

pub begin-requires-clause-circuit : goal.begin-requires-clause-circuit
begin-requires-clause-circuit g c =
    let view = c.unit_view-view.ensures in
    circuit_there c.args.job.now.circuit c.unit_view-view.result.circuit.now.arranged
    view.together.circuit view.arranged

pub begin-requires-clause-room : goal.begin-requires-clause-room
begin-requires-clause-room g c =
    let view = c.unit_view-view.ensures in
    let same = count_there c.args.job.now.circuit c.unit_view-view.result.circuit.now.arranged
    view.together.circuit.well_formed view.arranged in
    let own = c.requires.region in
    record {
      known = (let k = own.known in omega (arith, k, same));
      path = (let k = own.path in omega (arith, k, same));
    }

pub follow_unit-end-requires-clause-region : goal.follow_unit-end-requires-clause-region
follow_unit-end-requires-clause-region g c =
    c.begin.ensures.region both_layout (unit_rows c.unit_view-view.result)

pub follow_unit-end-requires-clause-at : goal.follow_unit-end-requires-clause-at
follow_unit-end-requires-clause-at g c =
    let there = c.unit_view-view.result.circuit.now.arranged in
    let row = c.row_at-number.result in (
      row,
      c.row_at-number.ensures,
      c.begin.ensures.stem ∙ (c.place_of-stem.ensures.place
          ∙ ap (λ x. place x there row.stem) c.unit_view-view.ensures.part),
    )

pub flip_unit-requires-clause-hidden : goal.flip_unit-requires-clause-hidden
flip_unit-requires-clause-hidden g c =
    let there = c.unit_view-view.result.circuit.now.arranged in
    elim c.follow_unit-end.ensures.hidden [
      | inl none ↦ absurd (false≢true (sym c.if-is_empty.false ∙ c.is_empty.ensures
          ∙ ap (λ n. n == 0) (ap length (c.as_slice-came.ensures.value ∙ none))))
      | inr h ↦ subst (λ s. IsObserved there s → ⊥) c.begin.ensures.stem h
    ]

pub flip_unit-requires-clause-few : goal.flip_unit-requires-clause-few
flip_unit-requires-clause-few g c =
    let few = c.follow_unit-end.ensures.few in
    let same = ap length c.as_slice-came.ensures.value in
    omega (arith, few, same)

pub flip_unit-requires-clause-ordered : goal.flip_unit-requires-clause-ordered
flip_unit-requires-clause-ordered g c =
    subst AreClassesInOrder (sym c.as_slice-came.ensures.value) c.follow_unit-end.ensures.ordered

pub flip_unit-requires-clause-places : goal.flip_unit-requires-clause-places
flip_unit-requires-clause-places g c = λ one there.
    let own = c.follow_unit-end.ensures.at one
    (subst (λ l. Contains l one) c.as_slice-came.ensures.value there) in
    let low = own.1 in
    let within = c.follow_unit-end.ensures.within in
    let room = c.requires.places in
    let same = c.follow_unit-end.ensures.places in
    omega (arith, low, within, room, same)

pub returns-then-is_empty-clause-taken : goal.returns-then-is_empty-clause-taken
returns-then-is_empty-clause-taken g c =
    let came = c.as_slice-came.result.now in
    let few : length came ≡ 0 =
    (Decides-eqb (length came) 0).0 (sym c.is_empty.ensures ∙ c.if-is_empty.true) in
    let none = nil_from_length c.follow_unit-end.new.classes.items
    (ap length (sym c.as_slice-came.ensures.value) ∙ few) in
    none_came (g.G.Goal.wants c.args.goal.now) (g.G.Goal.means c.args.goal.now) c.args.job.now
    c.args.group c.args.rows.now c.follow_unit-end.new.classes.items c.args.from
    c.follow_unit-end.result c.args.kept.now c.follow_unit-end.new.kept none
    c.follow_unit-end.ensures.taken

pub returns-clause-taken : goal.returns-clause-taken
returns-clause-taken g c =
    let job = c.args.job.now in
    let there = c.unit_view-view.result.circuit.now.arranged in
    let row = c.row_at-number.result in
    let step = c.follow_unit-end.ensures in
    let rows = c.args.rows.now in
    let end = c.follow_unit-end.result in
    let mid = c.follow_unit-end.new.kept in
    let came = sym c.as_slice-came.ensures.value in
    c.flip_unit.ensures.taken row.stem rows c.args.from end c.args.kept.now
    (c.place_of-stem.ensures.place ∙ ap (λ x. place x there row.stem) c.unit_view-view.ensures.part)
    (subst (HaveArrivedInUnit job c.args.group row.stem) came
    (step.arrived row c.row_at-number.ensures))
    (subst (AreClassesAt rows c.args.from end) came step.at)
    (subst (λ l. HaveTakenBeside (g.G.Goal.wants c.args.goal.now) (g.G.Goal.means c.args.goal.now)
    job c.args.group rows l c.args.from end c.args.kept.now mid) came step.taken)
    (subst (λ l. AreClassesStill l c.args.kept.now mid) came step.still)

pub returns-clause-others : goal.returns-clause-others
returns-clause-others g c = λ place outside.
    let step = c.follow_unit-end.ensures in
    let none : IsClassAt c.as_slice-came.result.now place → ⊥ = λ h.
    let own = step.at h.0 (subst (λ l. Contains l h.0) c.as_slice-came.ensures.value h.1) in
    let from = own.0 in
    let to = own.1 in
    let at = h.2 in
    elim outside [
      | inl x ↦ omega (arith, x, from, at)
      | inr x ↦ omega (arith, x, to, at)
    ] in
    c.flip_unit.ensures.others place none ∙ step.others place outside

pub returns-clause-closed : goal.returns-clause-closed
returns-clause-closed g c = λ place one is off.
    let step = c.follow_unit-end.ensures in
    let wants = g.G.Goal.wants c.args.goal.now in
    let none : IsClassAt c.as_slice-came.result.now place → ⊥ = λ h.
    let idle = step.came_open h.0 (subst (λ l. Contains l h.0) c.as_slice-came.ensures.value h.1) in
    let both : Some one ≡ Some idle.0 = sym is ∙ (ap (slice_get c.args.kept.now) (sym h.2) ∙ idle.1)
    in false≢true (sym off ∙ (ap (λ o. wants (unwrap_or o one)) both ∙ idle.2)) in
    c.flip_unit.ensures.others place none ∙ step.closed place one is off

pub returns-clause-unit : goal.returns-clause-unit
returns-clause-unit g c =
    let same = c.follow_unit-end.ensures.same in
    record {
      known = same.known ∙ c.begin.ensures.known;
      path = same.path ∙ c.begin.ensures.path;
      classes = c.follow_unit-end.ensures.capacity ∙ c.clear.ensures.capacity;
      followed = c.flip_unit.ensures.capacity;
    }
