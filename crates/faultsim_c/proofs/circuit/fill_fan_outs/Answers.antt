use Rattle.std.proofs.{Common.{◌≡◌, ◌∙◌, ◌+◌, ap, arith, length, sym, ℕ}, lemmas.Grind.common_steps}
use Rattle.std.proofs.lemmas.List.{take_all}
use Rattle.bench_net.specs.Scan.{names}
use Rattle.faultsim_c.{specs.Circuits.{fan_out, rows_before}, proofs.FanOuts.fan_outs_count}
use Rattle.faultsim_c.proofs.{CircuitRows.{pins_within, row_long, rows_within}, Tables.next}
use Rattle.faultsim_c.proofs.circuit.fill_fan_outs.Goals as goal

pub overflow_cast-starts : goal.overflow_cast-starts
overflow_cast-starts c =
    let circuit = c.args.circuit.now in
    let is = c.signals-signal-end.ensures.circuit in
    let few = pins_within circuit (length (names circuit)) is in
    let all = fan_outs_count circuit is.well_formed in
    let low = c.loop-signal-test.true in
    let end = c.signals-signal-end.ensures.count in
    let within = rows_within (fan_out circuit) c.loop-signal.signal (length (names circuit))
    (omega (arith, low, end)) in
    let place = c.loop-signal.invariant.place in
    omega (arith, few, all, within, place)

pub put_fan_out-place-requires-clause-room : goal.put_fan_out-place-requires-clause-room
put_fan_out-place-requires-clause-room c =
    let circuit = c.args.circuit.now in
    let signal = c.loop-signal.signal in
    let before = c.loop-signal.invariant in
    let low = c.loop-signal-test.true in
    let end = c.signals-signal-end.ensures.count in
    let all = fan_outs_count circuit c.signals-signal-end.ensures.circuit.well_formed in
    let long = row_long (fan_out circuit) signal in
    let within = rows_within (fan_out circuit) (signal + 1) (length (names circuit))
    (omega (arith, low, end)) in
    let place = before.place in
    let same = before.long in
    let room = c.requires.pins in
    omega (arith, all, long, within, place, same, room)

pub overflow_cast-starts-2 : goal.overflow_cast-starts-2
overflow_cast-starts-2 c =
    let circuit = c.args.circuit.now in
    let is = c.signals-signal-end.ensures.circuit in
    let few = pins_within circuit (length (names circuit)) is in
    let all = fan_outs_count circuit is.well_formed in
    let end = c.signals-signal-end.ensures.count in
    let last = c.loop-signal.auto.signal-end in
    let within = rows_within (fan_out circuit) c.loop-signal.signal (length (names circuit))
    (omega (arith, last, end)) in
    let place = c.loop-signal.invariant.place in
    omega (arith, few, all, within, place)

pub returns : goal.returns
returns c =
    let circuit = c.args.circuit.now in
    let all = fan_outs_count circuit c.signals-signal-end.ensures.circuit.well_formed in
    let n = length (names circuit) in
    let end : c.loop-signal.signal ≡ n = omega arith in
    let place : c.loop-signal.place ≡ length (rows_before (fan_out circuit) n) =
    c.loop-signal.invariant.place ∙ ap (λ (k : ℕ). length (rows_before (fan_out circuit) k)) end in
    let whole : length c.loop-signal.pins ≡ c.loop-signal.place = omega arith in
    let at : c.signals-end.result ≡ n = omega arith in
    record {
      start_count = grind (arith, common_steps);
      each = λ k le. next (λ (j start : ℕ). start ≡ length (rows_before (fan_out circuit) j))
          c.signals-end.result c.loop-signal.place c.loop-signal.starts (omega arith)
          (place ∙ ap (λ (j : ℕ). length (rows_before (fan_out circuit) j)) (sym at))
          (λ j lt. c.loop-signal.invariant.starts j (omega (arith, lt, at, end))) k
          (omega (arith, le, at));
      items_are = sym (take_all c.loop-signal.place c.loop-signal.pins (omega (arith, whole)))
          ∙ (c.loop-signal.invariant.rows ∙ ap (λ (k : ℕ). rows_before (fan_out circuit) k) end);
    }
