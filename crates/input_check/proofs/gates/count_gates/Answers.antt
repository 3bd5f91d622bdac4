use Rattle.std.{proofs.Common.{◌≡◌, ◌∙◌, ◌<◌, ◌≤◌, ap, arith, length, refl, sym}, specs.List.filter}
use Rattle.std.proofs.lemmas.List.{length-map, length-set}
use Rattle.bench_net.specs.{declared.Kind.Kind, declared.Kind.TheVariants.And, Statement.defines}
use Rattle.bench_net.specs.Scan.{cells, names, outputs}
use Rattle.input_check.{specs.Counts.kind_place, proofs.GatesAmong.sinks_at_end}
use Rattle.input_check.proofs.GatesAmong.{all_sinks, at_end, at_start, counted_at, defining}
use Rattle.input_check.proofs.GatesAmong.{few_gates, next_gate, next_source, pins_among, same_self}
use Rattle.input_check.proofs.gates.count_gates.Goals as goal

pub loop-signal-init : goal.loop-signal-init
loop-signal-init c = record {
  length = refl;
  kinds = at_start c.args.circuit.now;
  pins = omega (arith, pins_among c.args.circuit.now);
}

pub loop-signal-preserved-in_default : goal.loop-signal-preserved-in_default
loop-signal-preserved-in_default c =
    let circuit = c.args.circuit.now in
    let ds = filter defines circuit in
    let i = c.loop-signal.signal in
    let lt : i < length ds = omega (arith, defining circuit) in
    let next = λ (k : Kind). next_source circuit ds k i lt (sym c.in_default.ensures) in record {
      length = c.loop-signal.invariant.length;
      kinds = λ k. omega (arith, (next k).0, c.loop-signal.invariant.kinds k);
      pins = omega (arith, (next And).1, c.loop-signal.invariant.pins);
    }

pub overflow_add-pins : goal.overflow_add-pins
overflow_add-pins c =
    let circuit = c.args.circuit.now in
    let gate = c.in-Some.gate.now in
    let ds = filter defines circuit in
    let i = c.loop-signal.signal in
    let lt : i < length ds = omega (arith, defining circuit) in
    let next = (next_gate circuit ds gate.kind gate.kind gate.pins.items i lt
    (sym c.in-Some.ensures)).1 in
    omega (arith, next, all_sinks circuit)

pub overflow_add-gates : goal.overflow_add-gates
overflow_add-gates c =
    let circuit = c.args.circuit.now in
    let gate = c.in-Some.gate.now in
    let ds = filter defines circuit in
    let i = c.loop-signal.signal in
    let lt : i < length ds = omega (arith, defining circuit) in
    let next = (next_gate circuit ds gate.kind gate.kind gate.pins.items i lt
    (sym c.in-Some.ensures)).0 in
    let all = c.loop-signal.invariant.kinds gate.kind in
    rw (c.place_of.ensures.place)
    (omega (arith, next, all, same_self gate.kind, few_gates gate.kind circuit))

pub loop-signal-preserved : goal.loop-signal-preserved
loop-signal-preserved c =
    let circuit = c.args.circuit.now in
    let gates = c.loop-signal.gates in
    let gate = c.in-Some.gate.now in
    let ds = filter defines circuit in
    let i = c.loop-signal.signal in
    let lt : i < length ds = omega (arith, defining circuit) in
    let place : kind_place gate.kind < length gates = omega arith in
    let next = λ (k : Kind). next_gate circuit ds k gate.kind gate.pins.items i lt
    (sym c.in-Some.ensures) in
    rw (c.place_of.ensures.place) record {
      length = length-set gates (kind_place gate.kind) _ ∙ c.loop-signal.invariant.length;
      kinds = λ k. omega (
        arith,
        (next k).0,
        c.loop-signal.invariant.kinds k,
        counted_at gates (kind_place gate.kind) (kind_place k) place,
      );
      pins = omega (arith, (next gate.kind).1, c.loop-signal.invariant.pins);
    }

pub overflow_add-result : goal.overflow_add-result
overflow_add-result c =
    let circuit = c.args.circuit.now in
    let m : length c.scan_cells.result.now ≡ length (cells circuit) = sym (length-map _ _)
    ∙ (ap length c.scan_cells.ensures ∙ length-map _ _) in
    let past : length (names circuit) ≤ c.loop-signal.signal = omega arith in
    let all = sinks_at_end circuit c.loop-signal.signal c.loop-signal.pins _ _ past
    c.loop-signal.invariant.pins m refl in
    omega (arith, all)

pub overflow_add-result-2 : goal.overflow_add-result-2
overflow_add-result-2 c =
    let circuit = c.args.circuit.now in
    let m : length c.scan_cells.result.now ≡ length (cells circuit) = sym (length-map _ _)
    ∙ (ap length c.scan_cells.ensures ∙ length-map _ _) in
    let n : length c.outputs.result.now ≡ length (outputs circuit) =
    ap length c.outputs.ensures ∙ length-map _ _ in
    let past : length (names circuit) ≤ c.loop-signal.signal = omega arith in
    let all = sinks_at_end circuit c.loop-signal.signal c.loop-signal.pins _ _ past
    c.loop-signal.invariant.pins m n in
    omega (arith, all)

pub returns-clause-gates : goal.returns-clause-gates
returns-clause-gates c k =
    let circuit = c.args.circuit.now in
    let past : length (filter defines circuit) ≤ c.loop-signal.signal =
    omega (arith, defining circuit) in
    omega (
      arith,
      (at_end k (filter defines circuit) c.loop-signal.signal past).0,
      c.loop-signal.invariant.kinds k,
    )

pub returns-clause-pins : goal.returns-clause-pins
returns-clause-pins c =
    let circuit = c.args.circuit.now in
    let past : length (filter defines circuit) ≤ c.loop-signal.signal =
    omega (arith, defining circuit) in
    omega (
      arith,
      (at_end And (filter defines circuit) c.loop-signal.signal past).1,
      c.loop-signal.invariant.pins,
    )

pub returns-clause-sinks : goal.returns-clause-sinks
returns-clause-sinks c =
    let circuit = c.args.circuit.now in
    let m : length c.scan_cells.result.now ≡ length (cells circuit) = sym (length-map _ _)
    ∙ (ap length c.scan_cells.ensures ∙ length-map _ _) in
    let n : length c.outputs.result.now ≡ length (outputs circuit) =
    ap length c.outputs.ensures ∙ length-map _ _ in
    let past : length (names circuit) ≤ c.loop-signal.signal = omega arith in
    sinks_at_end circuit c.loop-signal.signal c.loop-signal.pins _ _ past
    c.loop-signal.invariant.pins m n
