use Rattle.std.proofs.Common.{◌≡◌, ◌<◌, ◌∙◌, ap, arith, length, refl, sym}
use Rattle.std.specs.Prelude.{None, Some, slice_get, slice_index_or}
use Rattle.std.proofs.lemmas.Option.{slice_get_read}
use Rattle.region_sim.proofs.KnownWideWords.{count, known_here, none_here, other_here, same_some}
use Rattle.region_sim.proofs.{KnownWideWords.unknown_here, known_wide.KnownWide.of.Goals.After-len}
use Rattle.region_sim.proofs.known_wide.KnownWide.of.Goals as goal

pub index-requires : goal.index-requires
index-requires c =
    let own = c.self.inside in
    let long = count own.known.items own.places.items in
    let seen = ap length c.self.view_is in
    omega (arith, long, seen, c.requires, own.places.ok.0)

leads : (c : After-len)
    → slice_get c.self.inside.places.items c.args.signal ≡ Some c.index.result.now
leads c =
    let own = c.self.inside in
    let long = count own.known.items own.places.items in
    let seen = ap length c.self.view_is in
    slice_get_read own.places.items (length own.places.items) c.args.signal c.index.result.now refl
    (omega (arith, long, seen, c.requires)) c.index.ensures

pub returns-then-index-signal : goal.returns-then-index-signal
returns-then-index-signal c =
    let at = (goal.at.returns-then-index-signal c).After-len in
    let own = c.self.inside in
    let known = own.known.items in
    let place = c.index.result.now in
    let low : place < length known =
    omega (arith, c.if-place-len.true, c.len.ensures, own.known.ok.0) in
    let one = slice_get_read known (length known) place c.index-then-place-len.result.now refl low
    c.index-then-place-len.ensures in
    let two = slice_get_read known (length known) place c.index-then-index-signal.result.now refl
    low c.index-then-index-signal.ensures in
    let same : c.index-then-index-signal.result.now ≡ c.index-then-place-len.result.now =
    same_some c.index-then-index-signal.result.now c.index-then-place-len.result.now
    (sym two ∙ one) in
    known_here own.places.items known c.args.signal place c.index-then-index-signal.result.now
    (leads at) two (ap (λ x. x.signal) same ∙ c.if-index-signal.true)
    ∙ ap (λ l. slice_index_or l c.args.signal None) c.self.view_is

pub returns-else-place-len : goal.returns-else-place-len
returns-else-place-len c =
    let at = (goal.at.returns-else-place-len c).After-len in
    let own = c.self.inside in
    let known = own.known.items in
    let place = c.index.result.now in
    unknown_here own.places.items known c.args.signal place (leads at)
    (elim c.else-place-len.branch [
      | goal.else-place-len-via-then-place-len+else-index-signal w ↦
          other_here known c.args.signal place w.index-then-place-len.result.now
          (slice_get_read known (length known) place w.index-then-place-len.result.now refl
          (omega (arith, w.if-place-len.true, c.len.ensures, own.known.ok.0))
          w.index-then-place-len.ensures) w.if-index-signal.false
      | goal.else-place-len-via-else-place-len w ↦ none_here known c.args.signal place
          (omega (arith, w.if-place-len.false, c.len.ensures, own.known.ok.0))
    ]) ∙ ap (λ l. slice_index_or l c.args.signal None) c.self.view_is
