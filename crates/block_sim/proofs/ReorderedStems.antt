-- Statements in another order: the same stems.
use Rattle.std.proofs.Common.{◌≡◌, ◌+◌, ℕ, refl, sym, ◌∙◌, ap, subst, List}
use Rattle.std.specs.Prelude.{◌↔◌, Contains, Option, Some, None, option_map, unwrap_or, slice_get}
use Rattle.bench_net.specs.{Statement.{Name, Statement}, Scan.{names, signal}, Circuit.IsWellFormed}
use Rattle.fault_model.specs.{declared.Line.Line, declared.Model.Model, Fault.{Fault, faults}}
use Rattle.fault_model.{specs.Detection.name_on, proofs.Public.{same_signals, carries}}
use Rattle.fault_model.specs.Reordered.{IsReordered, place, moved_line, HasSameSignals}
use Rattle.fault_model.specs.declared.Line.TheVariants as line
use Rattle.flat_circuit.specs.Regions.{lone_reader, IsStem, IsStemOf, IsStemOfLine, LeadsTo, here}
use Rattle.flat_circuit.{specs.Regions.{onward, way_from}, proofs.Public.same_readers}
use Rattle.block_sim.specs.Reordered.{HasSameStems}

module _ (c d : List Statement) (well : IsWellFormed c) (is : IsReordered c d) where
  signals : HasSameSignals c d
  signals = same_signals c d well is

  lone : (s : ℕ) → lone_reader d (place c d s) ≡ option_map (place c d) (lone_reader c s)
  lone = (same_readers c d well is).lone

  -- ---- stems

  leads_there : (s r : ℕ) → LeadsTo c s r → LeadsTo d (place c d s) (place c d r)
  leads_there s r here = here
  leads_there s r (onward {g = g} e more) =
      onward (lone s ∙ ap (option_map (place c d)) e) (leads_there g r more)

  gate_back : (s g : ℕ) → lone_reader d (place c d s) ≡ Some g
      → (h : ℕ) × (g ≡ place c d h) × (lone_reader c s ≡ Some h)
  gate_back s g e = go (lone_reader c s) refl
    where
      go : (o : Option ℕ) → lone_reader c s ≡ o
          → (h : ℕ) × (g ≡ place c d h) × (lone_reader c s ≡ Some h)
      go None at =
          let bad : Some g ≡ None = sym e ∙ (lone s ∙ ap (option_map (place c d)) at) in
          cc
      go (Some h) at =
          let same : Some g ≡ Some (place c d h) =
          sym e ∙ (lone s ∙ ap (option_map (place c d)) at) in
          (h, ap (λ o. unwrap_or o g) same, at)

  leads_back : (q r : ℕ) → LeadsTo d q r → (s : ℕ) → q ≡ place c d s
      → (t : ℕ) × (r ≡ place c d t) × LeadsTo c s t
  leads_back q r here s e = (s, e, here)
  leads_back q r (onward {g = g} step more) s e =
      let own = gate_back s g (subst (λ x. lone_reader d x ≡ Some g) e step) in
      let rest = leads_back g r more own.0 own.1 in
      (rest.0, rest.1, onward own.2 rest.2)

  stem_there : (r : ℕ) → IsStem c r → IsStem d (place c d r)
  stem_there r none = lone r ∙ ap (option_map (place c d)) none

  stem_back : (r : ℕ) → IsStem d (place c d r) → IsStem c r
  stem_back r none = go (lone_reader c r) refl
    where
      go : (o : Option ℕ) → lone_reader c r ≡ o → IsStem c r
      go None at = at
      go (Some h) at =
          let bad : None ≡ Some (place c d h) =
          sym none ∙ (lone r ∙ ap (option_map (place c d)) at) in
          cc

  of_signal : (r s : ℕ) → IsStemOf c r s ↔ IsStemOf d (place c d r) (place c d s)
  of_signal r s = (λ h. (leads_there s r h.0, stem_there r h.1), from)
    where
      from : IsStemOf d (place c d r) (place c d s) → IsStemOf c r s
      from h =
          let own = leads_back (place c d s) (place c d r) h.0 s refl in
          (subst (LeadsTo c s) (sym (signals.apart r own.0 own.1)) own.2, stem_back r h.1)

  -- ---- faults of the list

  way_moved : (l : Line) (n : Name) → name_on c l ≡ Some n → Contains (names c) n
      → way_from d (moved_line c d l) ≡ option_map (place c d) (way_from c l)
  way_moved (line.Stem s) n e at = refl
  way_moved (line.Pin gate pin) n e at = refl
  way_moved (line.Data cell) n e at =
      ap (λ all. option_map (signal d) (option_map (λ (qd : Name × Name). qd.1)
      (slice_get all cell))) is.same_cells ∙ (ap (option_map (signal d)) e
      ∙ (ap Some (signals.numbered n at)
      ∙ sym (ap (λ o. option_map (place c d) (option_map (signal c) o)) e)))
  way_moved (line.Out output) n e at =
      ap (λ all. option_map (signal d) (slice_get all output)) is.same_outputs
      ∙ (ap (option_map (signal d)) e ∙ (ap Some (signals.numbered n at)
      ∙ sym (ap (λ o. option_map (place c d) (option_map (signal c) o)) e)))

  of_line : (m : Model) (f : Fault) (r : ℕ) → Contains (faults m c) f
      → IsStemOfLine c r f.line ↔ IsStemOfLine d (place c d r) (moved_line c d f.line)
  of_line m f r listed = (
    λ h. (place c d h.0, moves ∙ ap (option_map (place c d)) h.1, (of_signal r h.0).0 h.2),
    λ h. from h.0 h.1 h.2 (way_from c f.line) refl,
  )
    where
      moves : way_from d (moved_line c d f.line) ≡ option_map (place c d) (way_from c f.line)
      moves = let n = carries m c f well listed in way_moved f.line n.0 n.1 n.2

      from : (q : ℕ) → way_from d (moved_line c d f.line) ≡ Some q → IsStemOf d (place c d r) q
          → (o : Option ℕ) → way_from c f.line ≡ o → IsStemOfLine c r f.line
      from q e stem None at =
          let bad : Some q ≡ None = sym e ∙ (moves ∙ ap (option_map (place c d)) at) in
          cc
      from q e stem (Some s) at =
          let same : Some q ≡ Some (place c d s) =
          sym e ∙ (moves ∙ ap (option_map (place c d)) at) in
          let there : q ≡ place c d s = ap (λ o. unwrap_or o q) same in
          (s, at, (of_signal r s).1 (subst (IsStemOf d (place c d r)) there stem))

  pub same_stems : HasSameStems c d
  same_stems = record { of_signal = of_signal; of_line = of_line }
