use Rattle.std.proofs.Common.{◌≡◌, ◌≢◌, ◌<◌, ◌≤◌, ◌+◌, ℕ, ◌∙◌, List, ap, arith, length, subst, sym}
use Rattle.std.{specs.Prelude.{Some, slice_get, slice_index_or}, proofs.lemmas.Bool.false≢true}
use Rattle.std.proofs.lemmas.List.{length-set}
use Rattle.bench_net.specs.Scan.{names}
use Rattle.list_lemmas.proofs.Places.{within_place}
use Rattle.wide_words.{proofs.Public.some_lane, specs.Wide.number, specs.declared.wide.Wide.Wide}
use Rattle.region_sim.specs.declared.pack.Slot.{Slot}
use Rattle.region_sim.proofs.PackBegins.{HaveBegun, all_begun, begun_idle, begun_more}
use Rattle.region_sim.proofs.pack.begin_stems.Goals.{then-not-is_none, else-not-is_none}
use Rattle.flat_circuit.proofs.Public.{index_of}
use Rattle.region_sim.proofs.pack.begin_stems.Goals as goal

pub loop-slot-preserved : goal.loop-slot-preserved
loop-slot-preserved g c =
    let layout = g.C.Copies.layout in
    let circuit = c.args.circuit.now.arranged in
    let stems = c.args.stems.now in
    let followed = c.args.followed.now in
    let slot = c.loop-slot.slot in
    let last = c.loop-slot.invariant in
    let none : Slot = record { stem = 0; begin = 0; end = 0 } in
    let own = slice_index_or stems slot none in
    let place = within_place stems slot c.loop-slot-test.true in
    let is : slice_get stems slot ≡ Some own =
    (rw (index_of stems slot place.0 none place.1) place.1) in
    let lanes = c.lanes_of_stem-lanes.result in
    let low = c.requires.slots.signals slot none c.loop-slot-test.true in
    let room = c.requires.room.0 in
    let same = last.deltas in
    let in_deltas : own.stem < length c.loop-slot.deltas = omega (arith, low, room, same) in
    let After : List ℕ → List ℕ → Wide → ℕ → Type 0 = λ deltas waiting kept from. record {
      begun : HaveBegun layout circuit stems followed deltas waiting (number kept) from (slot + 1);
      within : from ≤ length (names circuit);
      deltas : length deltas ≡ length c.args.deltas.now;
      waiting : length waiting ≡ length c.args.waiting.now;
    } in
    let Moved : (deltas waiting : List ℕ) (kept : Wide) (from : ℕ)
    → c.if-not-is_none.deltas ≡ deltas → c.if-not-is_none.waiting ≡ waiting
    → c.if-not-is_none.kept ≡ kept → c.if-not-is_none.from ≡ from
    → After deltas waiting kept from → After c.if-not-is_none.deltas
    c.if-not-is_none.waiting c.if-not-is_none.kept c.if-not-is_none.from =
    λ deltas waiting kept from p q r s here.
    subst (λ x. After x c.if-not-is_none.waiting c.if-not-is_none.kept c.if-not-is_none.from)
    (sym p) (subst (λ x. After deltas x c.if-not-is_none.kept c.if-not-is_none.from) (sym q)
    (subst (λ x. After deltas waiting x c.if-not-is_none.from) (sym r)
    (subst (λ x. After deltas waiting kept x) (sym s) here))) in
    elim c.if-not-is_none.branch [
      | then-not-is_none w ↦
          let some : number lanes ≢ 0 =
          λ e. false≢true (sym w.if-not-is_none.true ∙ c.is_none.ensures.1 e) in
          let least = w.min-from.ensures in
          let within = last.within in
          Moved w.begin_stem.new.deltas w.begin_stem.new.waiting w.or-kept.result w.min-from.result
          w.deltas-is w.waiting-is w.kept-is w.from-is (record {
            begun = begun_more layout circuit stems followed c.loop-slot.deltas c.loop-slot.waiting
                (number c.loop-slot.kept) c.loop-slot.from slot last.begun own is (number lanes)
                c.lanes_of_stem-lanes.ensures.own c.lanes_of_stem-lanes.ensures.others
                w.begin_stem.new.deltas w.begin_stem.new.waiting (number w.or-kept.result)
                w.min-from.result in_deltas (some_lane lanes.parts lanes.fits lanes.room some)
                w.begin_stem.ensures.changed w.or-kept.ensures (omega (arith, least))
                (omega (arith, least)) w.begin_stem.ensures.scheduled w.begin_stem.ensures.same;
            within = omega (arith, least, within);
            deltas = ap length w.begin_stem.ensures.changed
                ∙ (length-set c.loop-slot.deltas own.stem _ ∙ last.deltas);
            waiting = w.begin_stem.ensures.gates ∙ last.waiting;
          })
      | else-not-is_none w ↦
          Moved c.loop-slot.deltas c.loop-slot.waiting c.loop-slot.kept c.loop-slot.from
          w.deltas-is w.waiting-is w.kept-is w.from-is (record {
            begun = begun_idle layout circuit stems followed c.loop-slot.deltas c.loop-slot.waiting
                (number c.loop-slot.kept) c.loop-slot.from slot last.begun own is (number lanes)
                c.lanes_of_stem-lanes.ensures.own c.lanes_of_stem-lanes.ensures.others
                (c.is_none.ensures.0 w.if-not-is_none.false);
            within = last.within;
            deltas = last.deltas;
            waiting = last.waiting;
          })
    ]

pub returns-clause-started : goal.returns-clause-started
returns-clause-started g c =
    let past = c.loop-slot-test.false in
    all_begun g.C.Copies.layout c.args.circuit.now.arranged c.args.stems.now c.args.followed.now
    c.loop-slot.deltas c.loop-slot.waiting (number c.loop-slot.kept) c.loop-slot.from
    c.loop-slot.slot (omega (arith, past)) c.loop-slot.invariant.begun
