use Rattle.std.proofs.Common.{◌≡◌, ◌≤◌, ◌+◌, ℕ, List, [], ◌∷◌, ◌++◌, length, map, ap, subst, ◌∙◌}
use Rattle.std.{proofs.Common.arith, specs.Prelude.flat_map}
use Rattle.bench_net.specs.{Statement.Statement, Scan.{names, sinks}}
use Rattle.bench_net.specs.Circuit.{max_signals, max_sinks}
use Rattle.fault_model.specs.{declared.Line.Line, Fault.{branch, branches, both}}
use Rattle.fault_model.proofs.FaultLines.{faults_are}
use Rattle.fault_model.proofs.BuiltLines.{Built, built_more, built_within, built_all, built_stems}
use Rattle.list_lemmas.proofs.Places.{within_place}
use Rattle.fault_model.specs.declared.Line.TheVariants as line
use Rattle.fault_model.proofs.faults.list_faults_in.Goals as goal

pub overflow_cast-len : goal.overflow_cast-len
overflow_cast-len c =
    let within : length c.loop-signal.lines.items ≤ max_signals + max_sinks =
    built_within c.args.circuit.now c.loop-signal.signal c.loop-signal.lines.items
    c.loop-signal.stems.items c.signals-signal-end.ensures.circuit c.loop-signal.invariant in
    omega (arith, within, c.len.ensures, c.loop-signal.lines.ok.0)

pub loop-signal-preserved : goal.loop-signal-preserved
loop-signal-preserved c =
    let circuit = c.args.circuit.now in
    let k = c.loop-signal.signal in
    let ls = c.loop-signal.lines.items in
    let stems = c.loop-signal.stems.items in
    let p = within_place (names circuit) k
    (omega (arith, c.loop-signal-test.true, c.signals-signal-end.ensures.count)) in
    let read : c.sinks_of.result.now ≡ sinks circuit p.0 = c.sinks_of.ensures p.0 p.1 in
    let count : c.len.result ≡ length ls = omega (arith, c.len.ensures, c.loop-signal.lines.ok.0) in
    let lines_are : (ls ++ line.Stem k ∷ []) ++ map branch (branches circuit p.0)
    ≡ c.push_branches.new.lines.items =
    rw (c.in_ok-push_branches.ensures, c.in_ok-push-2.ensures.items, read) in
    let stems_are : stems ++ length ls ∷ [] ≡ c.push.new.self.items =
    rw (c.in_ok-push.ensures.items, count) in
    subst (λ xs. Built circuit (k + 1) xs c.push.new.self.items) lines_are (subst
    (λ xs. Built circuit (k + 1) ((ls ++ line.Stem k ∷ []) ++ map branch (branches circuit p.0)) xs)
    stems_are (built_more circuit k p.0 ls stems p.1 c.loop-signal.invariant))

-- after the last signal the lines and stems are the lines and stems of all signals
built_last : (c : List Statement) (k signals : ℕ) (ls : List Line) (stems : List ℕ) → signals ≤ k
    → k ≤ signals → signals ≡ length (names c) → Built c k ls stems
    → Built c (length (names c)) ls stems
built_last c k signals ls stems past within count built =
    let last : k ≡ length (names c) = omega (arith, past, within, count) in
    subst (λ j. Built c j ls stems) last built

pub invariant_of-result : goal.invariant_of-result
invariant_of-result c =
    let circuit = c.args.circuit.now in
    let ls = c.loop-signal.lines.items in
    let stems = c.loop-signal.stems.items in
    let built = built_last circuit c.loop-signal.signal c.signals-signal-end.result ls stems
    c.loop-signal-test.false c.loop-signal.auto.signal-end c.signals-signal-end.ensures.count
    c.loop-signal.invariant in (
      built_stems circuit ls stems built,
      built_within circuit (length (names circuit)) ls stems c.signals-signal-end.ensures.circuit
          built,
    )

pub returns : goal.returns
returns c =
    let circuit = c.args.circuit.now in
    let m = c.args.model in
    let ls = c.loop-signal.lines.items in
    let stems = c.loop-signal.stems.items in
    let built = built_last circuit c.loop-signal.signal c.signals-signal-end.result ls stems
    c.loop-signal-test.false c.loop-signal.auto.signal-end c.signals-signal-end.ensures.count
    c.loop-signal.invariant in
    ap (λ xs. record { model = m; list = xs })
    (ap (flat_map (both m)) (built_all circuit ls stems built) ∙ faults_are m circuit)
