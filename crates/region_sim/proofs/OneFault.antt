-- A fault under one test: what its line, complemented or not, tells of its detection.
use Rattle.std.proofs.Common.{◌≡◌, ◌≢◌, ℕ, sym, ◌∙◌, ap, subst, Bool, true, not, List, inl}
use Rattle.std.specs.{Prelude.{◌↔◌, Contains, Some, None, unwrap_or}, Bool.Decides}
use Rattle.bench_net.specs.{Statement.{Name, Statement, Gate}, Scan.{names, signal, name_of}}
use Rattle.bench_net.{specs.Circuit.IsWellFormed, proofs.Public.{name_of-signal, signal-name_of}}
use Rattle.list_lemmas.proofs.{Members.{Among, contained}, Places.at_place}
use Rattle.fault_model.specs.declared.Line.TheVariants as line
use Rattle.fault_model.specs.{declared.Model.Model, Fault.{Fault, faults}}
use Rattle.fault_model.specs.Solution.{Test, Solves, Detects, value, pins_see}
use Rattle.fault_model.{specs.Detection.{HasBit, name_on}, proofs.Public.under_other}
use Rattle.fault_model.proofs.Public.{agree, carries as carries_named, has_solutions, pins_agree}
use Rattle.block_sim.specs.Flips.{Alters, DetectsFlip, start_of}
use Rattle.block_sim.proofs.Public.{Enters, arg_named, gate_named_of_entered_gates as gate_named}
use Rattle.block_sim.proofs.Public.{outside, altered, entered_back, entered_there, not_itself}
use Rattle.block_sim.proofs.Public.{stem_back, stem_stuck, stem_there, turned_of, observer_law}
use Rattle.flat_circuit.proofs.Public.{unlike}
use Rattle.region_sim.proofs.FaultLanes.{unlike_differs, unlike_turns}

module _ (c : List Statement) (well : IsWellFormed c) (t : Test) (f : Fault) (u : Name → Bool)
    (solves : Solves c t None u) where
  -- a fault on a stem is detected if the stem has the other bit and is detected complemented
  module _ (s : ℕ) (n : Name) (at : name_of c s ≡ Some n) (on : f.line ≡ line.Stem s) (b : Bool)
      (is : Decides b (u n ≢ f.stuck)) where
    a : Among n (names c)
    a = at_place (names c) s n at

    number : signal c n ≡ s
    number = signal-name_of c s n well.once at (contained (names c) n a)

    own : f.line ≡ line.Stem (signal c n)
    own = on ∙ ap line.Stem (sym number)

    there : Detects c t f → (b ≡ true) × DetectsFlip c t s
    there d =
        let h = stem_there c well t f n a own d in
        let v = altered c well t f n u h.0.faulty a h.0 solves h.0.solves_faulty in
        let stuck = stem_stuck c well t f h.0.faulty n h.0.solves_faulty a own in (
          is.1 (λ e. not_itself (u n) (e ∙ (sym stuck ∙ v))),
          subst (DetectsFlip c t) number h.1,
        )

    back : b ≡ true → DetectsFlip c t s → Detects c t f
    back e d =
        let w = has_solutions c well t (Some f) in
        let alters : Alters c t f (signal c n) = record {
          fault_free = u;
          faulty = w.0;
          name = n;
          solves = solves;
          solves_faulty = w.1;
          named = name_of-signal c n (contained (names c) n a);
          differs = λ same. (is.0 e) (same ∙ stem_stuck c well t f w.0 n w.1 a own);
        } in
        stem_back c well t f n a own alters (subst (DetectsFlip c t) (sym number) d)

    pub stem_reached : Detects c t f ↔ ((b ≡ true) × DetectsFlip c t s)
    stem_reached = (there, λ p. back p.0 p.1)

  -- one on a pin is detected if the gate gives another bit and is detected complemented
  module _ (gate pin : ℕ) (on : f.line ≡ line.Pin gate pin) (e : Enters c f.line)
      (number : signal c e.name ≡ gate) (b : Bool)
      (valued : unlike (u e.name) b ≡ value e.kind (pins_see (Some f) u gate e.args)) where
    named : Among e.name (names c)
    named = gate_named c well f.line e

    -- the gate's bit under the fault
    faulty_is : (v : Name → Bool) → Solves c t (Some f) v → unlike (u e.name) b ≡ v e.name
    faulty_is v q =
        let off : f.line ≢ line.Stem (signal c e.name) =
        λ stems. (let bad : line.Pin gate pin ≡ line.Stem (signal c e.name) = sym on
        ∙ stems in cc) in
        valued ∙ (ap (λ g. value e.kind (pins_see (Some f) u g e.args)) (sym number)
        ∙ (ap (value e.kind) (pins_agree (Some f) u v (signal c e.name) 0 e.args same)
        ∙ sym (q.gate e.name e.kind e.args (contained c (Gate e.name e.kind e.args) e.stands)
        ∙ under_other f (line.Stem (signal c e.name)) _ off)))
      where
        same : (x : Name) → Among x e.args → u x ≡ v x
        same x h =
            let low = well.acyclic.1 e.name x (
              e.kind,
              e.args,
              contained c (Gate e.name e.kind e.args) e.stands,
              contained e.args x h,
            ) in
            sym (outside c t f None v u well e q solves (λ y z ne. tt) x
            (arg_named c well f.line e x h)
            (λ stems. (let bad : line.Pin gate pin ≡ line.Stem (signal c x) = sym on ∙ stems in
            cc)) (inl low))

    pin_there : Detects c t f → (b ≡ true) × DetectsFlip c t gate
    pin_there d =
        let h = entered_there c well t f e d in
        let v = altered c well t f e.name u h.0.faulty named h.0 solves h.0.solves_faulty in (
          unlike_differs (u e.name) b (h.0.faulty e.name)
              (faulty_is h.0.faulty h.0.solves_faulty) (λ same. not_itself (u e.name) (same ∙ v)),
          subst (DetectsFlip c t) number h.1,
        )

    pin_back : b ≡ true → DetectsFlip c t gate → Detects c t f
    pin_back excited d =
        let w = has_solutions c well t (Some f) in
        let alters : Alters c t f (signal c e.name) = record {
          fault_free = u;
          faulty = w.0;
          name = e.name;
          solves = solves;
          solves_faulty = w.1;
          named = name_of-signal c e.name (contained (names c) e.name named);
          differs = unlike_turns (u e.name) b (w.0 e.name) (faulty_is w.0 w.1) excited;
        } in
        entered_back c well t f e alters (subst (DetectsFlip c t) (sym number) d)

    pub pin_reached : Detects c t f ↔ ((b ≡ true) × DetectsFlip c t gate)
    pin_reached = (pin_there, λ p. pin_back p.0 p.1)

  -- one on an observer's line is detected if the line has the other bit
  pub observer_reached : (m : Model) (n : Name) → Contains (faults m c) f
      → start_of f.line ≡ None → name_on c f.line ≡ Some n
      → (b : Bool) → Decides b (u n ≢ f.stuck) → Decides b (Detects c t f)
  observer_reached m n at none carries b is = (
    λ e. law.1 (u, n, solves, carries, turned_of f.stuck (u n) (λ same. (is.0 e) (sym same))),
    λ d. is.1 (other (law.0 d)),
  )
    where
      law : (Detects c t f → HasBit c t f.line (not f.stuck))
          × (HasBit c t f.line (not f.stuck) → Detects c t f)
      law = observer_law c well m f t at none

      other : HasBit c t f.line (not f.stuck) → u n ≢ f.stuck
      other h same =
          let one : h.1 ≡ n = ap (λ o. unwrap_or o n) (sym h.3 ∙ carries) in
          let bits = agree c t None u h.0 well solves h.2 n named in
          not_itself f.stuck (sym same ∙ (bits ∙ (ap h.0 (sym one) ∙ h.4)))
        where
          named : Contains (names c) n
          named = let p = carries_named m c f well at in
              subst (Contains (names c)) (ap (λ o. unwrap_or o n) (sym p.1 ∙ carries)) p.2
