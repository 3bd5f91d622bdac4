use Rattle.std.proofs.Common.{◌≡◌, ◌*◌, ◌∙◌, ap, false, length, subst, sym, true}
use Rattle.std.proofs.lemmas.List.{with_items_is}
use Rattle.bench_net.specs.Scan.{names}
use Rattle.block_sim.specs.Parts.{Parts}
use Rattle.undetected.specs.Activated.{AreActivatedBelow, AreAdded}
use Rattle.undetected.proofs.AddedWindows.{below_added}
use Rattle.undetected.proofs.activations.ActivationsWordReader.read.Goals as goal

pub returns : goal.returns
returns c = λ all from first end is before.
    let job = c.args.job.now in
    let known = c.args.self.now in
    let wrote = c.add_groups.ensures in
    let circuit : length (names job.circuit) ≡ length (names all.circuit) =
    ap (λ (j : Parts). length (names j.circuit)) is.is in
    let zero_room = before.zero_room ∙ sym circuit in
    let one_room = before.one_room ∙ sym circuit in
    let zeros = with_items_is known.at_zero c.add_groups.new.at_zero (wrote.zero_room
    ∙ (sym (ap length c.deref_mut.ensures.value ∙ zero_room) ∙ c.deref_mut.ensures.len)) in
    let ones = with_items_is known.at_one c.add_groups.new.at_one (wrote.one_room
    ∙ (sym (ap length c.deref_mut-2.ensures.value ∙ one_room) ∙ c.deref_mut-2.ensures.len)) in
    let zero = subst (λ l. AreAdded job false l c.add_groups.new.at_zero)
    c.deref_mut.ensures.value wrote.zero in
    let one = subst (λ l. AreAdded job true l c.add_groups.new.at_one)
    c.deref_mut-2.ensures.value wrote.one in
    record {
      zero_room = ap length zeros ∙ (wrote.zero_room ∙ circuit);
      one_room = ap length ones ∙ (wrote.one_room ∙ circuit);
      at_zero = subst (AreActivatedBelow all false (64 * end)) (sym zeros)
          (below_added all job from first end false known.at_zero.items c.add_groups.new.at_zero is
          (zero_room ∙ sym wrote.zero_room) before.at_zero zero);
      at_one = subst (AreActivatedBelow all true (64 * end)) (sym ones)
          (below_added all job from first end true known.at_one.items c.add_groups.new.at_one is
          (one_room ∙ sym wrote.one_room) before.at_one one);
    }
