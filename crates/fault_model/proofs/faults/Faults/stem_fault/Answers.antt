use Rattle.std.proofs.Common.{◌≡◌, ◌<◌, Bool, List, length, arith, ℕ, subst, sym}
use Rattle.std.specs.Prelude.{Contains, Some, flat_map, slice_get}
use Rattle.fault_model.specs.{declared.Line.Line, declared.Model.Model, Fault.{FaultList, both}}
use Rattle.fault_model.{proofs.ListedFaults.{fault_on, stem_listed}, specs.Signals.IsSignalOf}
use Rattle.fault_model.specs.Lines.{AreStemsOf, IsWithinLimits}
use Rattle.fault_model.proofs.FaultTables.{StemAt, stem_at, stem_within, stem_read}
use Rattle.fault_model.proofs.FaultTables.{stem_place_within, stem_at_zero, stem_at_one}
use Rattle.fault_model.proofs.faults.Faults.stem_fault.Goals.{After-index}
use Rattle.fault_model.specs.declared.Line.TheVariants as line
use Rattle.bench_net.specs.Scan.{names}
use Rattle.list_lemmas.proofs.Places.{within_place}
use Rattle.fault_model.proofs.faults.Faults.stem_fault.Goals as goal

-- the list has the faults on the stem of a signal
listed : (now : FaultList) (s : ℕ) (b : Bool) → IsSignalOf now s
    → Contains now.list (fault_on now.model (line.Stem s) b)
listed now s b is =
    let n = within_place (names is.0) s is.2 in
    subst (λ l. Contains l (fault_on now.model (line.Stem s) b)) (sym is.1)
    (stem_listed now.model is.0 s n.0 b n.1)

-- the stem that was looked up, from what the call requires and what the list keeps
looked_up : (m : Model) (now : FaultList) (ls : List Line) (stems : List ℕ) (s : ℕ) (b : Bool)
    → record { model = m; list = flat_map (both m) ls } ≡ now → AreStemsOf ls stems
    → IsSignalOf now s → StemAt ls stems s
looked_up m now ls stems s b same are is = stem_at m ls stems s b are
    (subst (λ x. Contains x.list (fault_on x.model (line.Stem s) b)) (sym same) (listed now s b is))

pub index-requires : goal.index-requires
index-requires c =
    let own = c.self.inside in
    let at = looked_up own.model c.args.self.now own.lines.items own.stems.items c.args.signal
    c.args.stuck c.self.view_is c.self.invariant.0 c.requires in
    omega (arith, stem_within own.lines.items own.stems.items c.args.signal at, own.stems.ok.0)

-- what was read is the place of the stem, a place of the lines
read : (c : After-index)
    → slice_get c.self.inside.lines.items c.index.result.now ≡ Some (line.Stem c.args.signal)
read c =
    let own = c.self.inside in
    let at = looked_up own.model c.args.self.now own.lines.items own.stems.items c.args.signal
    c.args.stuck c.self.view_is c.self.invariant.0 c.requires in
    stem_read own.lines.items own.stems.items c.args.signal c.index.result.now at c.index.ensures

within : (c : After-index) → c.index.result.now < length c.self.inside.lines.items
within c = stem_place_within c.self.inside.lines.items c.args.signal c.index.result.now (read c)

pub overflow_mul-at_zero : goal.overflow_mul-at_zero
overflow_mul-at_zero c =
    let few : IsWithinLimits c.self.inside.lines.items = c.self.invariant.1 in
    omega (arith, within (goal.at.overflow_mul-at_zero c).After-index, few)

pub overflow_add-result : goal.overflow_add-result
overflow_add-result c =
    let few : IsWithinLimits c.self.inside.lines.items = c.self.invariant.1 in
    omega (arith, within (goal.at.overflow_add-result c).After-index, few)

pub returns-then-stuck : goal.returns-then-stuck
returns-then-stuck c =
    let own = c.self.inside in
    rw (← c.self.view_is, c.if-stuck.true) (stem_at_one own.model own.lines.items c.args.signal
    c.index.result.now (read (goal.at.returns-then-stuck c).After-index))

pub returns-else-stuck : goal.returns-else-stuck
returns-else-stuck c =
    let own = c.self.inside in
    rw (← c.self.view_is, c.if-stuck.false) (stem_at_zero own.model own.lines.items c.args.signal
    c.index.result.now (read (goal.at.returns-else-stuck c).After-index))
