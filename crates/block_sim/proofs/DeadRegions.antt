-- Regions whose stem reaches no observer: no test detects a class of one.
use Rattle.std.proofs.Common.{◌≡◌, ◌∙◌, ℕ, List, ap, refl, subst, sym}
use Rattle.std.specs.Prelude.{Contains, None, Option, Some, option_map, unwrap_or}
use Rattle.bench_net.specs.{Statement.Statement, Scan.signal, Circuit.IsWellFormed}
use Rattle.bench_net.specs.declared.Sink.TheVariants as sink
use Rattle.fault_model.specs.{declared.Line.Line, declared.Model.Model, Detection.name_on}
use Rattle.fault_model.specs.{Fault.{Fault, faults}, Reordered.place, Solution.{Detects, Test}}
use Rattle.fault_model.proofs.Public.{carries}
use Rattle.fault_model.specs.declared.Line.TheVariants as line
use Rattle.flat_circuit.specs.{declared.block_span.BlockSpan.BlockSpan, Arranged.IsArranged}
use Rattle.flat_circuit.specs.{declared.origin.ListedClass.ListedClass, Readers.IsLive}
use Rattle.flat_circuit.{specs.Regions.{IsStemOfLine, RunsTo, way_from}, proofs.Public.lead_law}
use Rattle.flat_circuit.proofs.Public.{reordered, circuit_there, data_observed, output_observed}
use Rattle.block_sim.specs.{Listed.IsListed, Parts.{BelongTogether, Parts}, First.IsFirstOn}
use Rattle.block_sim.{specs.Flips.{DetectsFlip, start_of}, proofs.Arrivals.dead_flip}
use Rattle.block_sim.proofs.{ObservedStems.observed_flip, Regions.{fault_law, region_law}}
use Rattle.block_sim.proofs.ReorderedGates.{same_flips}

-- a test that doesn't detect the complemented stem detects no fault of its region
pub dead_fault : (c : List Statement) → IsWellFormed c → (m : Model) (f : Fault) (t : Test)
    → Contains (faults m c) f → (stem : ℕ) → IsStemOfLine c stem f.line
    → (DetectsFlip c t stem → ⊥) → Detects c t f → ⊥
dead_fault c well m f t at stem way dead d = go f.line refl
  where
    runs : RunsTo c way.0 stem
    runs = lead_law c well way.0 stem way.2.0

    over : DetectsFlip c t way.0 → ⊥
    over turned = dead ((region_law c well t way.0 stem runs).0 turned).1

    started : start_of f.line ≡ Some way.0 → ⊥
    started from = over ((fault_law c well m f t way.0 at from).0 d).1

    go : (l : Line) → f.line ≡ l → ⊥
    go (line.Stem s) on = started (ap start_of on ∙ (sym (ap (way_from c) on) ∙ way.1))
    go (line.Pin gate pin) on = started (ap start_of on ∙ (sym (ap (way_from c) on) ∙ way.1))
    go (line.Data i) on =
        let n = carries m c f well at in
        let name : name_on c (line.Data i) ≡ Some n.0 = sym (ap (name_on c) on) ∙ n.1 in
        let same : signal c n.0 ≡ way.0 = ap (λ o. unwrap_or o way.0)
        (sym (ap (option_map (signal c)) name) ∙ (sym (ap (way_from c) on) ∙ way.1)) in
        over (observed_flip c t way.0 well ((sink.Data i, n.0), data_observed c i n.0 name, same))
    go (line.Out i) on =
        let n = carries m c f well at in
        let name : name_on c (line.Out i) ≡ Some n.0 = sym (ap (name_on c) on) ∙ n.1 in
        let same : signal c n.0 ≡ way.0 = ap (λ o. unwrap_or o way.0)
        (sym (ap (option_map (signal c)) name) ∙ (sym (ap (way_from c) on) ∙ way.1)) in
        over (observed_flip c t way.0 well ((sink.Out i, n.0), output_observed c i n.0 name, same))

-- no test detects a class whose stem is dead
pub dead_class : (job : Parts) (c : List Statement) → BelongTogether job
    → IsArranged job.circuit c → (row : ListedClass) → IsListed job row
    → (IsLive c (place job.circuit c row.stem) → ⊥) → (span : BlockSpan)
    → IsFirstOn job span row.class None
dead_class job c together arranged row listed dead span =
    let circuit = job.circuit in
    let well = together.circuit.well_formed in
    let there = (circuit_there circuit c together.circuit arranged).well_formed in
    let o = listed.stands in
    let h = listed.stem in
    let same : h.0 ≡ o.0 = ap (λ (x : Option Fault). unwrap_or x h.0) (sym h.1 ∙ o.1) in
    let own = subst (λ f. IsStemOfLine circuit row.stem f.line) same h.2 in (
      o.0,
      o.1,
      λ t inside detected. dead_fault circuit well o.0.model o.0 detected.0 o.2.listed row.stem own
          (λ turned. dead_flip c there detected.0 (place circuit c row.stem) dead
          (((same_flips circuit c well (reordered circuit c well arranged)).detected detected.0
          row.stem).0 turned)) detected.2,
    )
