use Rattle.std.proofs.Common.{◌≡◌, ◌+◌, ◌<◌, ◌≤◌, ◌∙◌, ap, arith, get_or, length, sym, take}
use Rattle.std.proofs.lemmas.List.{get_or-take, length-take-le}
use Rattle.bench_net.specs.reader.Entries.{names_in}
use Rattle.bench_threads.specs.Stretches.{joined}
use Rattle.bench_threads.proofs.StretchLines.{joined_more, names_grown, names_within, counted_at}
use Rattle.bench_threads.proofs.numbering.names_before.Goals as goal
use Rattle.bench_threads.proofs.numbering.names_before.Goals.{After-stretch-item}

-- the number of names of this stretch, and of the stretches up to it
more : (c : After-stretch-item) → (c.stretch-item.result.counts.signals
    ≡ length (names_in c.stretch-item.result.stated.items))
    × (c.loop-stretch.count + c.stretch-item.result.counts.signals ≤ 1000000)
    × (length (names_in (joined (take (c.loop-stretch.stretch-index + 1) c.args.stretches.now)))
    ≡ c.loop-stretch.count + c.stretch-item.result.counts.signals)
more c =
    let xs = c.args.stretches.now in
    let ys = take c.args.place xs in
    let i = c.loop-stretch.stretch-index in
    let own = c.stretch-item.result in
    let count = length-take-le c.args.place xs c.requires.place in
    let below : i < length ys = omega arith in
    let inside : i < length xs = omega (arith, count, c.requires.place) in
    let is : own ≡ get_or xs i own =
    c.stretch-item.is ∙ get_or-take c.args.place xs i own (omega (arith, count)) in
    let signals = (counted_at xs i own c.requires.counted inside is).0 in
    let fits = names_within xs i own inside is in
    let before : c.loop-stretch.count ≡ length (names_in (joined (take i xs))) =
    c.loop-stretch.invariant in
    let grown = ap (λ l. length (names_in l)) (joined_more xs i own inside is)
    ∙ names_grown (joined (take i xs)) own.stated.items in (
      omega (arith, signals, fits, c.requires.few),
      omega (arith, signals, fits, before, c.requires.few),
      omega (arith, grown, signals, fits, before, c.requires.few),
    )

pub overflow_cast-count : goal.overflow_cast-count
overflow_cast-count c =
    let m = more (goal.at.overflow_cast-count c).After-stretch-item in omega (arith, m.1)

pub overflow_add-count : goal.overflow_add-count
overflow_add-count c =
    let m = more (goal.at.overflow_add-count c).After-stretch-item in omega (arith, m.1)

pub loop-stretch-preserved : goal.loop-stretch-preserved
loop-stretch-preserved c =
    let m = more (goal.at.loop-stretch-preserved c).After-stretch-item in sym m.2
