use Rattle.std.proofs.Common.{◌≡◌, ◌≢◌, ◌<◌, ◌∙◌, ◌++◌, ◌∷◌, [], ap, arith, length, refl}
use Rattle.std.{specs.Prelude.{Some, slice_get, slice_set}, proofs.lemmas.Option.slice_get_read}
use Rattle.region_sim.specs.{KnownWide.known_wide, declared.known_wide.KnownWord.KnownWord}
use Rattle.region_sim.proofs.KnownWideWords.{again_found, again_view, count, more_found, more_room}
use Rattle.region_sim.proofs.KnownWideWords.{more_view, none_here, other_here}
use Rattle.region_sim.proofs.known_wide.KnownWide.keep.Goals.{After-len, After-len-else-place-len}
use Rattle.region_sim.proofs.known_wide.KnownWide.keep.Goals as goal

pub index-requires : goal.index-requires
index-requires c =
    let own = c.self.inside in
    let long = count own.known.items own.places.items in
    let seen = ap length c.self.view_is in
    omega (arith, long, seen, c.requires, own.places.ok.0)

leads : (c : After-len)
    → slice_get c.self.inside.places.items c.args.signal ≡ Some c.index.result.now
leads c =
    let own = c.self.inside in
    let long = count own.known.items own.places.items in
    let seen = ap length c.self.view_is in
    slice_get_read own.places.items (length own.places.items) c.args.signal c.index.result.now refl
    (omega (arith, long, seen, c.requires)) c.index.ensures

unknown : (c : After-len-else-place-len) → (one : KnownWord)
    → slice_get c.self.inside.known.items c.index.result.now ≡ Some one → one.signal ≢ c.args.signal
unknown c =
    let own = c.self.inside in
    let known = own.known.items in
    let place = c.index.result.now in
    elim c.else-place-len.branch [
      | goal.else-place-len-via-then-place-len+else-index-signal w ↦
          other_here known c.args.signal place w.index-then-place-len.result.now
          (slice_get_read known (length known) place w.index-then-place-len.result.now refl
          (omega (arith, w.if-place-len.true, c.len.ensures, own.known.ok.0))
          w.index-then-place-len.ensures) w.if-index-signal.false
      | goal.else-place-len-via-else-place-len w ↦ none_here known c.args.signal place
          (omega (arith, w.if-place-len.false, c.len.ensures, own.known.ok.0))
    ]

last : (c : After-len-else-place-len)
    → c.len-else-place-len.result ≡ length c.self.inside.known.items
last c = c.len-else-place-len.ensures ∙ c.self.inside.known.ok.0

fewer : (c : After-len-else-place-len)
    → slice_get c.self.inside.places.items c.args.signal ≡ Some c.index.result.now
    → length c.self.inside.known.items < length c.self.inside.places.items
fewer c at =
    let own = c.self.inside in
    more_room own.places.items own.known.items _ c.self.invariant c.args.signal
    c.index.result.now at (record { signal = c.args.signal; word = c.args.word }) refl (unknown c)

pub invariant_of-self : goal.invariant_of-self
invariant_of-self c =
    let own = c.self.inside in
    let known = own.known.items in
    again_found own.places.items known _ c.self.invariant c.args.signal c.index.result.now
    (leads (goal.at.invariant_of-self c).After-len) c.index-then-place-len.result.now
    (record { signal = c.args.signal; word = c.args.word })
    (slice_get_read known (length known) c.index.result.now c.index-then-place-len.result.now refl
    (omega (arith, c.if-place-len.true, c.len.ensures, own.known.ok.0))
    c.index-then-place-len.ensures) c.if-index-signal.true refl

pub overflow_cast-len : goal.overflow_cast-len
overflow_cast-len c =
    let at = (goal.at.overflow_cast-len c).After-len-else-place-len in
    let le = fewer at (leads (goal.at.overflow_cast-len c).After-len) in
    let is = last at in
    omega (arith, le, is, c.self.invariant.few)

pub index_mut-requires-else-place-len : goal.index_mut-requires-else-place-len
index_mut-requires-else-place-len c =
    let own = c.self.inside in
    let long = count own.known.items own.places.items in
    let seen = ap length c.self.view_is in
    omega (arith, long, seen, c.requires, own.places.ok.0)

pub push_reserved-requires : goal.push_reserved-requires
push_reserved-requires c =
    let le = fewer (goal.at.push_reserved-requires c).After-len-else-place-len
    (leads (goal.at.push_reserved-requires c).After-len) in
    omega (arith, le, c.self.invariant.roomy, c.self.inside.known.ok.0)

pub invariant_of-self-else-place-len : goal.invariant_of-self-else-place-len
invariant_of-self-else-place-len c =
    let at = (goal.at.invariant_of-self-else-place-len c).After-len-else-place-len in
    let lead = leads (goal.at.invariant_of-self-else-place-len c).After-len in
    let own = c.self.inside in
    rw (c.push_reserved.ensures.items, c.push_reserved.ensures.capacity, last at)
    (more_found own.places.items own.known.items _ c.self.invariant c.args.signal
    c.index.result.now lead
    (record { signal = c.args.signal; word = c.args.word }) refl (unknown at))

pub returns-then-index-signal : goal.returns-then-index-signal
returns-then-index-signal c =
    let own = c.self.inside in
    let known = own.known.items in
    again_view own.places.items known _ c.self.invariant c.args.signal c.index.result.now
    (leads (goal.at.returns-then-index-signal c).After-len) c.index-then-place-len.result.now
    (record { signal = c.args.signal; word = c.args.word })
    (slice_get_read known (length known) c.index.result.now c.index-then-place-len.result.now refl
    (omega (arith, c.if-place-len.true, c.len.ensures, own.known.ok.0))
    c.index-then-place-len.ensures) c.if-index-signal.true refl
    ∙ ap (λ l. slice_set l c.args.signal (Some c.args.word)) c.self.view_is

pub returns-else-place-len : goal.returns-else-place-len
returns-else-place-len c =
    let at = (goal.at.returns-else-place-len c).After-len-else-place-len in
    let lead = leads (goal.at.returns-else-place-len c).After-len in
    let own = c.self.inside in
    let places = own.places.items in
    let new : KnownWord = record { signal = c.args.signal; word = c.args.word } in
    ap (λ l. known_wide l (slice_set places c.args.signal c.len-else-place-len.result))
    c.push_reserved.ensures.items
    ∙ (ap (λ p. known_wide (own.known.items ++ new ∷ []) (slice_set places c.args.signal p))
    (last at) ∙ (more_view own.places.items own.known.items _ c.self.invariant c.args.signal
    c.index.result.now lead
    (record { signal = c.args.signal; word = c.args.word }) refl (unknown at)
    ∙ ap (λ l. slice_set l c.args.signal (Some c.args.word)) c.self.view_is))
