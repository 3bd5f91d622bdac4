use Rattle.std.proofs.Common.{◌≡◌, ◌<◌, ◌≤◌, ◌∙◌, ◌++◌, ◌∷◌, [], ap, arith, length}
use Rattle.std.specs.Prelude.{slice_index_or, slice_set}
use Rattle.wide_words.specs.{Wide.number, WideOverlay.overlaid}
use Rattle.wide_words.proofs.WideOverlays.{change_view, changed_more, length_overlaid, place_none}
use Rattle.wide_words.proofs.WideOverlays.{room_words}
use Rattle.wide_words.proofs.wide_overlay.WideOverlay.change.Goals.{After-len}
use Rattle.wide_words.proofs.wide_overlay.WideOverlay.change.Goals as goal

within : (c : After-len) → c.args.signal < length c.self.inside.index.items
within c =
    let words = c.self.inside.words.items in
    let index = c.self.inside.index.items in
    let is : overlaid words index ≡ c.args.self.now = c.self.view_is in
    let long = length_overlaid words index in
    let same = ap length is in
    omega (arith, long, same, c.requires.signal)

idle : (c : After-len) → slice_index_or c.self.inside.index.items c.args.signal 0 ≡ 0
idle c =
    let words = c.self.inside.words.items in
    let index = c.self.inside.index.items in
    let is : overlaid words index ≡ c.args.self.now = c.self.view_is in
    place_none words index c.self.inside.changed.items _ _ c.self.invariant c.args.signal (within c)
    (ap (λ x. slice_index_or x c.args.signal 0) is ∙ c.requires.same)

few : (c : After-len) → length c.self.inside.words.items ≤ length c.self.inside.index.items
few c = room_words c.self.inside.words.items c.self.inside.index.items c.self.inside.changed.items
    _ _ c.self.invariant c.args.signal (within c) (idle c)

pub overflow_cast-len : goal.overflow_cast-len
overflow_cast-len c =
    let le = few c in
    omega (arith, le, c.len.ensures, c.self.inside.words.ok.0, c.self.invariant.few)

pub push_reserved-requires : goal.push_reserved-requires
push_reserved-requires c =
    let le = few (goal.at.push_reserved-requires c).After-len in
    omega (arith, le, c.self.inside.words.ok.0, c.self.invariant.room)

pub push_reserved-requires-2 : goal.push_reserved-requires-2
push_reserved-requires-2 c =
    let le = few (goal.at.push_reserved-requires-2 c).After-len in
    omega (arith, le, c.self.inside.changed.ok.0, c.self.invariant.many, c.self.invariant.named)

pub invariant_of-self : goal.invariant_of-self
invariant_of-self c =
    let at = (goal.at.invariant_of-self c).After-len in
    let last : c.len.result ≡ length c.self.inside.words.items =
    c.len.ensures ∙ c.self.inside.words.ok.0 in
    rw (
      c.push_reserved.ensures.items,
      c.push_reserved.ensures.capacity,
      c.push_reserved-2.ensures.items,
      c.push_reserved-2.ensures.capacity,
      last,
    ) (changed_more c.self.inside.words.items c.self.inside.index.items
    c.self.inside.changed.items _ _ c.self.invariant c.args.signal (within at) (idle at)
    c.args.word c.requires.word)

pub returns : goal.returns
returns c =
    let at = (goal.at.returns c).After-len in
    let words = c.self.inside.words.items in
    let index = c.self.inside.index.items in
    let is : overlaid words index ≡ c.args.self.now = c.self.view_is in
    let last : c.len.result ≡ length words = c.len.ensures ∙ c.self.inside.words.ok.0 in
    ap (λ ws. overlaid ws (slice_set index c.args.signal c.len.result))
    c.push_reserved.ensures.items
    ∙ (ap (λ p. overlaid (words ++ c.args.word ∷ []) (slice_set index c.args.signal p)) last
    ∙ (change_view words index c.self.inside.changed.items _ _ c.self.invariant c.args.signal
    (within at) (idle at) c.args.word c.requires.word
    ∙ ap (λ x. slice_set x c.args.signal (number c.args.word)) is))
