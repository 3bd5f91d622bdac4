use Rattle.std.proofs.Common.{◌≡◌, ◌<◌, ◌∙◌, ap, arith, length, refl, inl}
use Rattle.std.{specs.Prelude.{Some, None, slice_get}, proofs.lemmas.List.reverse-append}
use Rattle.std.proofs.lemmas.Option.{slice_get_read, slice_get-get_or, gets}
use Rattle.list_lemmas.proofs.Places.{at_place}
use Rattle.bench_net.specs.Marks.{pins_by, IsLowestStuck}
use Rattle.bench_net.proofs.LevelSearch.{finished, advanced, opened, met}
use Rattle.bench_net.proofs.levels.visit.Goals.{In-Open, In-Some, After-index}
use Rattle.bench_net.proofs.levels.visit.Goals as goal

pub row-pins-requires : goal.row-pins-requires
row-pins-requires c =
    c.requires.graph.have_rows c.args.gate.signal (c.requires.search.opens c.args.gate (inl refl)).0

-- the signal of the next pin
read : (c : In-Some)
    → slice_get (pins_by c.args.rows.now c.loop-pin.gate.signal) c.loop-pin.gate.pin
    ≡ Some c.in-Some.pin.now
read c =
    let found = c.in-Some.ensures.lookup in
    let pins = c.row-pins.result.now in
    let inside : c.loop-pin.gate.pin < length pins = omega arith in
    let here = slice_get-get_or pins c.loop-pin.gate.pin c.in-Some.pin.now inside in
    let same = ap (pins_by c.args.rows.now) c.loop-pin.invariant.signal in
    grind (arith, found, here, same, c.row-pins.ensures)

below : (c : In-Some) → c.in-Some.pin.now < length c.loop-pin.marks.items
below c =
    let reads = at_place _ c.loop-pin.gate.pin _ (read c) in
    omega (arith, c.requires.graph.pins_below _ _ reads, c.loop-pin.invariant.search.count)

pub index-requires : goal.index-requires
index-requires c = omega (arith, below (goal.at.index-requires c).In-Some)

-- the mark of the next pin's signal
mark : (c : After-index)
    → slice_get c.loop-pin.marks.items c.in-Some.pin.now ≡ Some c.index.result.now
mark c = slice_get_read _ _ _ _ refl (below (goal.at.After-index c).In-Some) c.index.ensures

pub overflow_add-lower : goal.overflow_add-lower
overflow_add-lower c =
    let at = mark (goal.at.overflow_add-lower c).After-index ∙ ap Some c.in-Level.is in
    omega (arith, (c.loop-pin.invariant.search.each c.in-Some.pin.now _ at).1, c.requires.graph.few)

pub loop-pin-preserved : goal.loop-pin-preserved
loop-pin-preserved c =
    let more = advanced c.loop-pin.invariant.search (read (goal.at.loop-pin-preserved c).In-Some)
    (mark (goal.at.loop-pin-preserved c).After-index ∙ ap Some c.in-Level.is) in
    rw c.max.ensures (record {
      signal = c.loop-pin.invariant.signal;
      search = more.0;
      fewer = omega (arith, more.1, c.loop-pin.invariant.fewer);
    })

pub index_mut-requires : goal.index_mut-requires
index_mut-requires c = omega (arith, below (goal.at.index_mut-requires c).In-Some)

pub returns-in-Unknown-clause-search : goal.returns-in-Unknown-clause-search
returns-in-Unknown-clause-search c =
    let here = read (goal.at.returns-in-Unknown-clause-search c).In-Some in
    let unknown = mark (goal.at.returns-in-Unknown-clause-search c).After-index
    ∙ ap Some c.in-Unknown.is in
    let reads = at_place _ c.loop-pin.gate.pin _ here in
    let more = opened c.loop-pin.invariant.search _ _ unknown
    (reads, c.loop-pin.invariant.search.path_is) (λ s ne le. le) (c.requires.graph.few_pins _) in
    rw (c.in_ok-push-in-Unknown-2.ensures.items, reverse-append)
    (rw (c.in_ok-push-in-Unknown.ensures.items, reverse-append)
    (more.0, omega (arith, more.1, c.loop-pin.invariant.fewer)))

stuck : (c : In-Open) → IsLowestStuck (pins_by c.args.rows.now) (length c.args.at.now) c.args.start
stuck c = met c.loop-pin.invariant.search c.args.start _ refl c.requires.lower
    (read (goal.at.In-Open c).In-Some) (mark (goal.at.In-Open c).After-index ∙ ap Some c.in-Open.is)

pub bounds-at-start : goal.bounds-at-start
bounds-at-start c = omega (arith, (stuck (goal.at.bounds-at-start c).In-Open).0)

pub returns-in-Open-clause-fault : goal.returns-in-Open-clause-fault
returns-in-Open-clause-fault c =
    let first = stuck (goal.at.returns-in-Open-clause-fault c).In-Open in
    let number = slice_get-get_or c.args.at.now c.args.start 0 first.0 in
    (c.args.start, grind (arith, number), first)

pub returns-clause-search : goal.returns-clause-search
returns-clause-search c =
    let found = c.in_default.ensures.lookup in
    let same = ap (pins_by c.args.rows.now) c.loop-pin.invariant.signal in
    let none : slice_get (pins_by c.args.rows.now c.loop-pin.gate.signal) c.loop-pin.gate.pin
    ≡ None = grind (arith, gets, found, same, c.row-pins.ensures, c.in_default.not-Some) in
    let more = finished c.loop-pin.invariant.search none in
    (more.0, omega (arith, more.1, c.loop-pin.invariant.fewer))
