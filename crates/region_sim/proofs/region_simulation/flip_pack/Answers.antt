use Rattle.std.proofs.Common.{◌≤◌, ◌∙◌, ap, length, subst, sym}
use Rattle.std.specs.Prelude.{All, None, vec_capacity}
use Rattle.wide_words.specs.{Lanes.slots, Wide.number}
use Rattle.flat_circuit.specs.{BlockSpans.group_of, Words.AreWords}
use Rattle.flat_circuit.proofs.Public.{reordered, circuit_there}
use Rattle.region_sim.specs.{Pack.{AreRows, IsWithin}, RegionHits.{AreApart, AreSlotsConcluded}}
use Rattle.region_sim.proofs.{PackedRegions.taken_all, RegionHits.member_at}
use Rattle.region_sim.proofs.region_simulation.flip_pack.Goals.{Start}
use Rattle.region_sim.proofs.region_simulation.flip_pack.Goals as goal

pub propagate-seen-requires-clause-circuit : goal.propagate-seen-requires-clause-circuit
propagate-seen-requires-clause-circuit g c =
    let view = c.requires.view in
    circuit_there c.args.job.now.circuit c.args.view.circuit.now.arranged view.together.circuit
    view.arranged

pub propagate-seen-requires-clause-words : goal.propagate-seen-requires-clause-words
propagate-seen-requires-clause-words g c = λ slot lt.
    ap length (c.requires.rows slot) ∙ c.requires.view.count

-- each slot has the words of the group
slots_free : (g : _) (c : Start g)
    → AreRows c.args.view.circuit.now.arranged c.args.job.now.tests.tests g.C.Copies.layout
    (λ slot. group_of c.args.span) (g.C.Copies.rows c.args.copies)
slots_free g c = λ slot lt.
    subst (AreWords c.args.view.circuit.now.arranged c.args.job.now.tests.tests
    (group_of c.args.span) None) (sym (c.requires.rows slot)) c.requires.view.fault_free

pub propagate-seen-requires-clause-free : goal.propagate-seen-requires-clause-free
propagate-seen-requires-clause-free g c = (
  c.args.job.now.tests.tests,
  λ slot. group_of c.args.span,
  slots_free g (goal.at.propagate-seen-requires-clause-free g c).Start,
)

pub conclude_slots-requires-clause-slots : goal.conclude_slots-requires-clause-slots
conclude_slots-requires-clause-slots g c = subst (λ l. length l ≤ slots g.C.Copies.layout)
    (sym (c.as_slice-stems.ensures.value ∙ ap (λ v. v.items) c.propagate-seen.ensures.slots))
    c.requires.slots.few

pub conclude_slots-requires-clause-within : goal.conclude_slots-requires-clause-within
conclude_slots-requires-clause-within g c = subst (All (IsWithin c.args.followed.now))
    (sym (c.as_slice-stems.ensures.value ∙ ap (λ v. v.items) c.propagate-seen.ensures.slots))
    c.requires.slots.within

pub conclude_slots-requires-clause-apart : goal.conclude_slots-requires-clause-apart
conclude_slots-requires-clause-apart g c = subst AreApart
    (sym (c.as_slice-stems.ensures.value ∙ ap (λ v. v.items) c.propagate-seen.ensures.slots))
    c.requires.apart

pub returns-clause-taken : goal.returns-clause-taken
returns-clause-taken g c = λ rows from to before gathered.
    let job = c.args.job.now in
    let there = c.args.view.circuit.now.arranged in
    let view = c.requires.view in
    let well = view.together.circuit.well_formed in
    let stems = c.args.pack.now.slots.items in
    let followed = c.args.followed.now in
    let layout = g.C.Copies.layout in
    let wide = number c.propagate-seen.result in
    let last = c.conclude_slots.new.kept in
    let goal_is = c.args.goal.now in
    taken_all (g.G.Goal.wants goal_is) g.G.Goal.ALL_LANES (g.G.Goal.means goal_is) job there
    c.args.span rows from to stems followed before c.args.kept.now last layout g.C.Copies.sized wide
    well (reordered job.circuit there well view.arranged) c.requires.span
    c.requires.slots.few c.requires.copied
    (c.propagate-seen.ensures.detected job.tests.tests (λ slot. group_of c.args.span)
    (slots_free g (goal.at.returns-clause-taken g c).Start))
    (subst (λ l. AreSlotsConcluded g.G.Goal.ALL_LANES (g.G.Goal.means goal_is) layout c.args.span
    wide followed l (length l) c.args.kept.now last)
    (c.as_slice-stems.ensures.value ∙ ap (λ v. v.items) c.propagate-seen.ensures.slots)
    c.conclude_slots.ensures.concluded) gathered

pub returns-clause-others : goal.returns-clause-others
returns-clause-others g c = λ place none. c.conclude_slots.ensures.concluded.others place
    (λ h. none (h.one, member_at c.args.followed.now h.at h.one h.listed, h.there))

pub returns-clause-room : goal.returns-clause-room
returns-clause-room g c = record {
  deltas = c.propagate-seen.ensures.room.0;
  waiting = c.propagate-seen.ensures.room.1;
  slots = ap vec_capacity c.propagate-seen.ensures.slots;
}
