use Rattle.std.proofs.{Common.{◌≡◌, ap, arith, length, sym, subst}, lemmas.List.with_items_is}
use Rattle.event_queue.{specs.Overlay.IsOverlay, proofs.ChangedWords.none_listed}
use Rattle.event_queue.proofs.overlay.Overlay.clear.Goals as goal

pub invariant_of-self : goal.invariant_of-self
invariant_of-self c =
    let long : length c.erase.new.words ≡ c.self.inside.words.len =
    omega (arith, c.erase.ensures.room, c.deref_mut.ensures.len) in
    let room : length c.self.inside.changed.items ≡ length c.erase.new.words = omega
    (arith, c.self.invariant.room, c.erase.ensures.room, ap length c.deref_mut.ensures.value) in
    subst (λ words. IsOverlay words c.self.inside.changed.items 0)
    (sym (with_items_is c.self.inside.words c.erase.new.words long))
    (none_listed c.erase.new.words c.self.inside.changed.items room c.erase.ensures.clear)
