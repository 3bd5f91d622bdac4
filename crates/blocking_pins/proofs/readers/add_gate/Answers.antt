use Rattle.std.proofs.Common.{◌≡◌, ◌<◌, ◌∙◌, ◌++◌, ◌∷◌, [], ap, arith, get_or, length, ◌+◌, set}
use Rattle.std.{proofs.Common.{subst, sym, ℕ, Vec, Global}, specs.Prelude.slice_index_or}
use Rattle.std.proofs.lemmas.{List.length-map, Option.slice_get-get_or}
use Rattle.bench_net.specs.Scan.{names}
use Rattle.flat_circuit.proofs.Public.{pins_few, pins_within}
use Rattle.blocking_pins.proofs.SignalReaders.{HaveReadersIn, readers_all, readers_begin}
use Rattle.blocking_pins.proofs.SignalReaders.{readers_more, readers_source}
use Rattle.blocking_pins.proofs.VecRows.{row_at, rows_of, rows_set}
use Rattle.blocking_pins.proofs.readers.add_gate.Goals as goal

pub offset_bounds-read-items-read-index : goal.offset_bounds-read-items-read-index
offset_bounds-read-items-read-index c =
    let few = pins_few c.args.circuit.now.arranged c.args.place c.in-Some.gate.kind
    c.in-Some.gate.pins.now c.signals-signals.ensures.circuit (sym c.in-Some.ensures.gate) in
    omega (arith, few, c.loop-read-test.true)

pub loop-read-init : goal.loop-read-init
loop-read-init c = readers_begin c.args.circuit.now.arranged c.args.place c.in-Some.gate.kind
    c.in-Some.gate.pins.now c.signals-signals.ensures.circuit.well_formed
    (sym c.in-Some.ensures.gate) (rows_of c.args.readers.now) c.requires.readers

pub loop-read-preserved : goal.loop-read-preserved
loop-read-preserved c =
    let circuit = c.args.circuit.now.arranged in
    let pins = c.in-Some.gate.pins.now in
    let i = c.loop-read.read-index in
    let read = slice_index_or pins i 0 in
    let well = c.signals-signals.ensures.circuit.well_formed in
    let is = sym c.in-Some.ensures.gate in
    let old = c.index-readers-read.result in
    let within = pins_within circuit c.args.place c.in-Some.gate.kind pins well is i 0
    c.loop-read-test.true in
    let there = row_at c.loop-read.readers (length (names circuit)) read old
    c.loop-read.invariant.below.count within c.index-readers-read.is in
    let more = readers_more circuit c.args.place c.in-Some.gate.kind pins well is i read
    (rows_of c.loop-read.readers) old.items
    (slice_get-get_or pins i 0 c.loop-read-test.true) there c.loop-read.invariant in
    let pushed : c.push.new.self.items ≡ old.items ++ c.args.place ∷ [] = c.in_ok-push.ensures.items
    ∙ ap (λ v. v.items ++ c.args.place ∷ []) (sym c.index-readers-read.is) in
    subst (HaveReadersIn circuit c.args.place pins (i + 1))
    (sym (rows_set c.loop-read.readers read c.push.new.self
    ∙ ap (λ l. set (rows_of c.loop-read.readers) read l) pushed)) more

pub bounds-readers-read : goal.bounds-readers-read
bounds-readers-read c =
    let circuit = c.args.circuit.now.arranged in
    let within = pins_within circuit c.args.place c.in-Some.gate.kind c.in-Some.gate.pins.now
    c.signals-signals.ensures.circuit.well_formed (sym c.in-Some.ensures.gate)
    c.loop-read.read-index 0 c.loop-read-test.true in
    let count = c.loop-read.invariant.below.count in
    let long = length-map c.loop-read.readers (λ (row : Vec ℕ Global). row.items) in
    omega (arith, within, count, long)

pub returns-after-loop-read : goal.returns-after-loop-read
returns-after-loop-read c = readers_all c.args.circuit.now.arranged c.args.place c.in-Some.gate.kind
    c.in-Some.gate.pins.now c.signals-signals.ensures.circuit.well_formed
    (sym c.in-Some.ensures.gate) c.loop-read.read-index (rows_of c.loop-read.readers)
    c.loop-read-test.false c.loop-read.invariant

pub returns-in_default : goal.returns-in_default
returns-in_default c =
    readers_source c.args.circuit.now.arranged c.args.place (rows_of c.args.readers.now)
    c.signals-signals.ensures.circuit.well_formed (sym c.in_default.ensures.gate) c.requires.readers
