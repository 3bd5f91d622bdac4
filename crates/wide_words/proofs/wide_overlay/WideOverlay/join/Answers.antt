use Rattle.std.proofs.{Common.{◌≡◌, ◌≢◌, ◌<◌, ◌∙◌, ap, arith, length, sym}, lemmas.Nat.le_or_l}
use Rattle.std.specs.Prelude.{bit_or, slice_index_or, slice_set}
use Rattle.std.proofs.lemmas.List.{get_or_default}
use Rattle.wide_words.specs.{Wide.number, WideOverlay.{number_at, overlaid}}
use Rattle.wide_words.proofs.WideOverlays.{at_signal, join_view, joined_place, length_overlaid}
use Rattle.wide_words.proofs.WideOverlays.{number_read, place_some}
use Rattle.wide_words.proofs.wide_overlay.WideOverlay.join.Goals.{After-or-both}
use Rattle.wide_words.proofs.wide_overlay.WideOverlay.join.Goals as goal

within : (c : After-or-both) → c.args.signal < length c.self.inside.index.items
within c =
    let words = c.self.inside.words.items in
    let index = c.self.inside.index.items in
    let is : overlaid words index ≡ c.args.self.now = c.self.view_is in
    let long = length_overlaid words index in
    let same = ap length is in
    omega (arith, long, same, c.requires.signal)

place : (c : After-or-both)
    → c.index.result.now ≡ slice_index_or c.self.inside.index.items c.args.signal 0
place c = c.index.ensures
    ∙ get_or_default c.self.inside.index.items c.args.signal c.index.result.now 0 (within c)

differs : (c : After-or-both) → slice_index_or c.self.inside.index.items c.args.signal 0 ≢ 0
differs c =
    let words = c.self.inside.words.items in
    let index = c.self.inside.index.items in
    let is : overlaid words index ≡ c.args.self.now = c.self.view_is in
    place_some words index c.self.inside.changed.items _ _ c.self.invariant c.args.signal (within c)
    (λ e. c.requires.differs (ap (λ x. slice_index_or x c.args.signal 0) (sym is) ∙ e))

both : (c : After-or-both) → number c.or-both.result ≡ bit_or
    (number_at c.self.inside.words.items (slice_index_or c.self.inside.index.items c.args.signal 0))
    (number c.args.word)
both c =
    let words = c.self.inside.words.items in
    let below = c.self.invariant.within c.args.signal in
    let at = place c in
    c.or-both.ensures ∙ ap (λ x. bit_or x (number c.args.word))
    (number_read words c.index.result.now c.index-2.result.now (omega (arith, below, at))
    c.index-2.ensures ∙ ap (number_at words) at)

some : (c : After-or-both) → number c.or-both.result ≢ 0
some c e =
    let words = c.self.inside.words.items in
    let at = slice_index_or c.self.inside.index.items c.args.signal 0 in
    let up = differs c in
    let more = le_or_l (number_at words at) (number c.args.word) in
    let is = both c in
    c.self.invariant.differs at (omega (arith, up)) (c.self.invariant.within c.args.signal)
    (omega (arith, more, is, e))

pub invariant_of-self : goal.invariant_of-self
invariant_of-self c =
    let at = (goal.at.invariant_of-self c).After-or-both in
    rw (place at) (joined_place c.self.inside.words.items c.self.inside.index.items
    c.self.inside.changed.items _ _ c.self.invariant c.args.signal (within at) (differs at)
    c.or-both.result (some at))

pub returns : goal.returns
returns c =
    let at = (goal.at.returns c).After-or-both in
    let words = c.self.inside.words.items in
    let index = c.self.inside.index.items in
    let is : overlaid words index ≡ c.args.self.now = c.self.view_is in
    let held = at_signal words index c.self.inside.changed.items _ _ c.self.invariant
    c.args.signal (within at) in
    ap (λ p. overlaid (slice_set words p c.or-both.result) index) (place at)
    ∙ (join_view words index c.self.inside.changed.items _ _ c.self.invariant c.args.signal
    (within at) (differs at) c.or-both.result (some at)
    ∙ (ap (slice_set (overlaid words index) c.args.signal) (both at
    ∙ ap (λ x. bit_or x (number c.args.word)) (sym held))
    ∙ ap (λ x. slice_set x c.args.signal (bit_or (slice_index_or x c.args.signal 0)
    (number c.args.word))) is))
