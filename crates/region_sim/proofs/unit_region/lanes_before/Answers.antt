use Rattle.std.proofs.{Common.{◌≡◌, ◌∙◌, ap, map, sym}, lemmas.Bool.false≢true}
use Rattle.bench_net.specs.Scan.{signal}
use Rattle.wide_words.specs.Wide.{number}
use Rattle.flat_circuit.{specs.Words.lane, proofs.Public.{lane_zero, pin_law, reader_within}}
use Rattle.block_sim.proofs.Public.{gate_named_of_signal_equations as gate_named}
use Rattle.region_sim.proofs.UnitRegions.{carry_before, passes_back, passes_there}
use Rattle.region_sim.proofs.unit_region.lanes_before.Goals as goal

pub pass-requires-clause-within : goal.pass-requires-clause-within
pass-requires-clause-within g c =
    let circuit = c.args.circuit.now.arranged in
    let read = pin_law circuit c.requires.circuit.well_formed c.args.signal c.args.gate.signal
    c.requires.read in
    reader_within circuit c.args.gate.signal c.args.signal read.reads

pub pass-requires-clause-driven : goal.pass-requires-clause-driven
pass-requires-clause-driven g c =
    let circuit = c.args.circuit.now.arranged in
    let r = (pin_law circuit c.requires.circuit.well_formed c.args.signal c.args.gate.signal
    c.requires.read).reads in (
      (r.kind, map (signal circuit) r.args),
      gate_named circuit r.name r.kind r.args c.args.gate.signal c.requires.circuit.well_formed
          r.number r.gate,
    )

pub returns-then-is_none : goal.returns-then-is_none
returns-then-is_none g c = λ tests group stem rows carried.
    let empty : number c.args.gate.lanes ≡ 0 = c.is_none.ensures.0 c.if-is_none.true in
    carry_before c.args.circuit.now.arranged tests g.C.Copies.layout group stem c.args.signal
    c.args.gate.signal (number c.args.gate.lanes) (number c.none.result)
    c.requires.circuit.well_formed c.requires.read carried
    (λ k e. absurd (false≢true (sym (lane_zero k) ∙ (sym (ap (λ w. lane w k) c.none.ensures) ∙ e))))
    (λ k lt on p. absurd (false≢true (sym (lane_zero k) ∙ (sym (ap (λ w. lane w k) empty) ∙ on))))
    (λ k lt on e. absurd (false≢true (sym (lane_zero k) ∙ (sym (ap (λ w. lane w k) empty) ∙ on))))

pub returns : goal.returns
returns g c = λ tests group stem rows carried.
    let circuit = c.args.circuit.now.arranged in
    let well = c.requires.circuit.well_formed in
    let layout = g.C.Copies.layout in
    let good = g.C.Copies.rows c.args.copies in
    let s = c.args.signal in
    let gate = c.args.gate.signal in
    let word = number c.args.gate.lanes in
    let new = number c.pass.result in
    let read = pin_law circuit well s gate c.requires.read in
    let r = read.reads in
    let pins = map (signal circuit) r.args in
    let named = gate_named circuit r.name r.kind r.args gate well r.number r.gate in
    carry_before circuit tests layout group stem s gate word new well c.requires.read carried
    c.pass.ensures.inside
    (λ k lt on p. passes_there circuit well tests layout g.C.Copies.sized group good rows s gate
    read r.kind pins named word k lt on (lane new k)
    (c.pass.ensures.changed r.kind pins k named lt on) p)
    (λ k lt on e. passes_back circuit well tests layout g.C.Copies.sized group good rows s gate
    read r.kind pins named word k lt on (lane new k)
    (c.pass.ensures.changed r.kind pins k named lt on) e)
