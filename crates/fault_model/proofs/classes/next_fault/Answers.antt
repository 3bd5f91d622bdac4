use Rattle.std.proofs.Common.{◌≡◌, ◌<◌, Bool, Some, None, ap, arith, length, sym, ◌∙◌}
use Rattle.std.specs.Prelude.{Option, slice_get, option_map, option_and_then}
use Rattle.bench_net.specs.{Scan.{names, name_of}, Statement.Name}
use Rattle.list_lemmas.proofs.Places.{place_within}
use Rattle.fault_model.specs.declared.Line.TheVariants as line
use Rattle.fault_model.specs.{Fault.Fault, Collapse.{next, next_stuck, kind_of}}
use Rattle.fault_model.proofs.ListedFaults.{fault_on}
use Rattle.fault_model.proofs.NextFault.{FaultAt, line_at, fault_at, listed_in_circuit}
use Rattle.fault_model.proofs.NextFault.{gate_is_signal, next_at_gate, by_table}
use Rattle.fault_model.proofs.classes.next_fault.Goals.{After-line_of, After-stuck_of, In_ok-gate}
use Rattle.fault_model.proofs.classes.next_fault.Goals as goal

-- the fault of this number, on the line that was read
found : (c : After-line_of) → (b : Bool) × FaultAt c.args.list.now.model c.args.circuit.now
    c.args.fault c.line_of.result b
found c = line_at c.args.list.now.model c.args.circuit.now c.args.fault c.line_of.result
    (rw c.requires.same at c.requires.in_range) (rw c.requires.same at c.line_of.ensures)

pub reading_gate-requires : goal.reading_gate-requires
reading_gate-requires c =
    let m = c.args.list.now.model in
    let p = found (goal.at.reading_gate-requires c).After-line_of in
    listed_in_circuit m c.args.circuit.now (fault_on m c.line_of.result p.0) p.1.listed

-- the gate that is the only reader of the line is a signal
gate_named : (c : In_ok-gate) → (n : Name) × (name_of c.args.circuit.now c.in_ok-gate.gate ≡ Some n)
gate_named c =
    let m = c.args.list.now.model in
    let p = found (goal.at.In_ok-gate c).After-line_of in
    gate_is_signal m c.args.circuit.now (fault_on m c.line_of.result p.0) c.in_ok-gate.gate
    p.1.listed (sym c.in_ok-gate.ensures)

-- so the table of kinds has it
gate_within : (c : In_ok-gate) → c.in_ok-gate.gate < length (names c.args.circuit.now)
gate_within c =
    let n = gate_named c in
    place_within (names c.args.circuit.now) c.in_ok-gate.gate n.0 n.1

pub bounds-kinds-gate : goal.bounds-kinds-gate
bounds-kinds-gate c =
    let lt = gate_within (goal.at.bounds-kinds-gate c).In_ok-gate in
    omega (arith, lt, c.requires.kinds.count)

pub stem_fault-requires : goal.stem_fault-requires
stem_fault-requires c = (
  c.args.circuit.now,
  c.requires.same,
  gate_within (goal.at.stem_fault-requires c).In_ok-gate,
)

-- the next fault, if the table has this row for the gate's kind
follows : (c : After-stuck_of) (row : Option Bool)
    → row ≡ next_stuck c.args.list.now.model c.in_ok-kind.kind c.stuck_of.result
    → option_and_then (next c.args.circuit.now) (slice_get c.args.list.now.list c.args.fault)
    ≡ option_map (λ b. fault_on c.args.list.now.model (line.Stem c.in_ok-gate.gate) b) row
follows c row fixes =
    let circuit = c.args.circuit.now in
    let m = c.args.list.now.model in
    let gate = c.in_ok-gate.gate in
    let f : Fault = fault_on m c.line_of.result c.stuck_of.result in
    let at = fault_at m circuit c.args.fault c.line_of.result c.stuck_of.result
    (rw c.requires.same at c.requires.in_range) (rw c.requires.same at c.line_of.ensures)
    (rw c.requires.same at c.stuck_of.ensures) in
    let lt = gate_within (goal.at.After-stuck_of c).In_ok-gate in
    let kind : kind_of circuit gate ≡ Some c.in_ok-kind.kind =
    sym (c.requires.kinds.each gate lt) ∙ c.in_ok-kind.was in
    let next_is : next circuit f ≡ option_map (λ b. fault_on m (line.Stem gate) b) row =
    next_at_gate circuit f gate (sym c.in_ok-gate.ensures)
    ∙ (ap (by_table m gate c.stuck_of.result) kind
    ∙ ap (option_map (λ b. fault_on m (line.Stem gate) b)) (sym fixes)) in
    ap (λ list. option_and_then (next circuit) (slice_get list c.args.fault)) c.requires.same
    ∙ (ap (option_and_then (next circuit)) at.there ∙ next_is)

pub returns : goal.returns
returns c =
    let from = follows (goal.at.returns c).After-stuck_of (Some c.in_ok-stuck.stuck)
    (rw c.model.ensures at c.in_ok-stuck.ensures) in
    ap Some c.stem_fault.ensures ∙ ap (option_map Some) (sym from)

pub returns-in_err-stuck : goal.returns-in_err-stuck
returns-in_err-stuck c =
    let from = follows (goal.at.returns-in_err-stuck c).After-stuck_of None
    (rw c.model.ensures at c.in_err-stuck.ensures) in
    ap (option_map (slice_get c.args.list.now.list)) c.from_residual-in_err-stuck.ensures
    ∙ ap (option_map Some) (sym from)

pub returns-in_err-kind : goal.returns-in_err-kind
returns-in_err-kind c =
    let circuit = c.args.circuit.now in
    let m = c.args.list.now.model in
    let gate = c.in_ok-gate.gate in
    let p = found (goal.at.returns-in_err-kind c).After-line_of in
    let lt = gate_within (goal.at.returns-in_err-kind c).In_ok-gate in
    let kind : kind_of circuit gate ≡ None =
    sym (c.requires.kinds.each gate lt) ∙ c.in_err-kind.was in
    let next_is : next circuit (fault_on m c.line_of.result p.0) ≡ None =
    next_at_gate circuit (fault_on m c.line_of.result p.0) gate (sym c.in_ok-gate.ensures)
    ∙ ap (by_table m gate p.0) kind in
    let last : option_and_then (next circuit) (slice_get c.args.list.now.list c.args.fault)
    ≡ None =
    ap (λ list. option_and_then (next circuit) (slice_get list c.args.fault)) c.requires.same
    ∙ (ap (option_and_then (next circuit)) p.1.there ∙ next_is) in
    ap (option_map (slice_get c.args.list.now.list)) c.from_residual-in_err-kind.ensures
    ∙ ap (option_map Some) (sym last)
