use Rattle.std.proofs.Common.{◌≡◌, ◌∙◌, All, ap, arith, length, sym, subst}
use Rattle.std.proofs.lemmas.List.{with_items_is}
use Rattle.wide_words.specs.WideOverlay.{number_at, overlaid}
use Rattle.wide_words.proofs.WideOverlays.{cleared, none_overlaid, number_first}
use Rattle.wide_words.proofs.wide_overlay.WideOverlay.clear.Goals as goal
use Rattle.wide_words.proofs.wide_overlay.WideOverlay.clear.Goals.{After-truncate}

long : (c : After-truncate) → length c.erase.new.places ≡ c.self.inside.index.len
long c = omega (arith, c.erase.ensures.room, c.deref_mut.ensures.len)

same : (c : After-truncate) → length c.erase.new.places ≡ length c.self.inside.index.items
same c = c.erase.ensures.room ∙ ap length c.deref_mut.ensures.value

pub invariant_of-self : goal.invariant_of-self
invariant_of-self c =
    let at = (goal.at.invariant_of-self c).After-truncate in
    rw (
      with_items_is c.self.inside.index c.erase.new.places (long at),
      c.truncate.ensures.items,
      c.truncate.ensures.capacity,
      c.clear.ensures.items,
      c.clear.ensures.capacity,
    ) (cleared c.self.inside.words.items c.self.inside.index.items c.self.inside.changed.items _ _
    c.self.invariant c.erase.new.places (same at) c.erase.ensures.clear)

pub returns-clause-clear : goal.returns-clause-clear
returns-clause-clear c =
    let at = (goal.at.returns-clause-clear c).After-truncate in
    subst (λ ws. All (λ n. n ≡ 0) (overlaid c.truncate.new.self.items ws))
    (sym (with_items_is c.self.inside.index c.erase.new.places (long at)))
    (none_overlaid c.truncate.new.self.items c.erase.new.places
    (ap (λ ws. number_at ws 0) c.truncate.ensures.items
    ∙ (number_first c.self.inside.words.items ∙ c.self.invariant.none)) c.erase.ensures.clear)
