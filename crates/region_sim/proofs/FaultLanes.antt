-- The lanes in which a fault starts, and the lanes in which it is detected.
use Rattle.std.proofs.Common.{◌≡◌, ◌<◌, ℕ, refl, sym, ◌∙◌, ap, subst, Bool, true, false, not, List}
use Rattle.std.{proofs.Common.{map, inl}, specs.Prelude.unwrap_or, specs.Bool.Decides}
use Rattle.std.specs.Prelude.{◌≢◌, All, Contains, Option, Some, None, slice_index_or, bit_xor}
use Rattle.std.proofs.lemmas.Bool.{false≢true}
use Rattle.bench_net.specs.{declared.Kind.Kind, Statement.{Name, Statement, Gate}}
use Rattle.bench_net.specs.{Scan.{names, signal, name_of, gate_of}, Circuit.IsWellFormed}
use Rattle.bench_net.proofs.Public.{name_of-signal, signal-name_of}
use Rattle.list_lemmas.proofs.{Members.{Among, contained}, Places.at_place}
use Rattle.fault_model.specs.declared.Line.TheVariants as line
use Rattle.fault_model.specs.{declared.Model.Model, Fault.{Fault, faults}}
use Rattle.fault_model.specs.Solution.{Test, Solves, Detects, value, pins_see}
use Rattle.fault_model.specs.Detection.{HasBit, name_on}
use Rattle.fault_model.proofs.Public.{agree, carries as carries_named, detection_is_of_any_solution}
use Rattle.fault_model.proofs.Public.{has_solutions, pins_agree, under_other}
use Rattle.event_queue.proofs.Public.{index_zero}
use Rattle.block_sim.specs.{Flips.{Alters, DetectsFlip, HasCome, start_of}, Propagation.AreShown}
use Rattle.block_sim.proofs.Public.{Enters, arg_named, stem_stuck, stem_there, turned_of}
use Rattle.block_sim.proofs.Public.{gate_named_of_entered_gates as gate_named, outside}
use Rattle.block_sim.proofs.Public.{gate_named_of_signal_equations as equated_gate_named, altered}
use Rattle.block_sim.proofs.Public.{entered_back, entered_there, not_itself, pin_enters, stem_back}
use Rattle.block_sim.proofs.Public.{observer_law}
use Rattle.flat_circuit.specs.Words.{lane, lane_bits, pin_bits, test_of, AreWords}
use Rattle.flat_circuit.proofs.Public.{pins_named, lane_xor, lane_zero, unlike}

pub unlike_differs : (a b x : Bool) → unlike a b ≡ x → a ≢ x → b ≡ true
unlike_differs true true x e ne = refl
unlike_differs true false x e ne = absurd (ne e)
unlike_differs false true x e ne = refl
unlike_differs false false x e ne = absurd (ne e)

pub unlike_turns : (a b x : Bool) → unlike a b ≡ x → b ≡ true → a ≢ x
unlike_turns true b x e is h = let n : true ≡ not b = h ∙ sym e in
    false≢true (sym (ap not is) ∙ sym n)
unlike_turns false b x e is h = let n : false ≡ b = h ∙ sym e in false≢true (n ∙ is)

module _ (c : List Statement) (well : IsWellFormed c) (tests : List Test) (group : ℕ) (f : Fault)
    (good : List ℕ) (words : AreWords c tests group None good) (lanes : ℕ) where
  -- a fault on a stem has reached its signal in the lanes in which it is excited
  pub stem_come : (s excited : ℕ) (n : Name) → name_of c s ≡ Some n → f.line ≡ line.Stem s
      → ((k : ℕ) → k < 128 → Decides (lane excited k) ((lane lanes k ≡ true)
      × (lane_bits c good k n ≢ f.stuck))) → HasCome c tests group f lanes s excited
  stem_come s excited n at on is k lt in_lanes = (there, λ p. back p.0 p.1)
    where
      a : Among n (names c)
      a = at_place (names c) s n at

      number : signal c n ≡ s
      number = signal-name_of c s n well.once at (contained (names c) n a)

      own : f.line ≡ line.Stem (signal c n)
      own = on ∙ ap line.Stem (sym number)

      there : Detects c (test_of tests group k) f → (lane excited k ≡ true)
          × DetectsFlip c (test_of tests group k) s
      there d =
          let h = stem_there c well (test_of tests group k) f n a own d in
          let v = altered c well (test_of tests group k) f n (lane_bits c good k) h.0.faulty a h.0
          (words k lt) h.0.solves_faulty in
          let stuck = stem_stuck c well (test_of tests group k) f h.0.faulty n h.0.solves_faulty a
          own in (
            (is k lt).1 (in_lanes, λ e. not_itself (lane_bits c good k n) (e ∙ (sym stuck ∙ v))),
            subst (DetectsFlip c (test_of tests group k)) number h.1,
          )

      back : lane excited k ≡ true → DetectsFlip c (test_of tests group k) s
          → Detects c (test_of tests group k) f
      back e d =
          let w = has_solutions c well (test_of tests group k) (Some f) in
          let alters : Alters c (test_of tests group k) f (signal c n) = record {
            fault_free = lane_bits c good k;
            faulty = w.0;
            name = n;
            solves = words k lt;
            solves_faulty = w.1;
            named = name_of-signal c n (contained (names c) n a);
            differs = λ same. ((is k lt).0 e).1 (same
                ∙ stem_stuck c well (test_of tests group k) f w.0 n w.1 a own);
          } in
          stem_back c well (test_of tests group k) f n a own alters
          (subst (DetectsFlip c (test_of tests group k)) (sym number) d)

  -- and one on a pin has reached the gate in the lanes in which the gate's word differs
  module _ (m : Model) (at : Contains (faults m c) f) (gate pin : ℕ)
      (on : f.line ≡ line.Pin gate pin) (kind : Kind) (pins delta : List ℕ) (diff : ℕ)
      (is_gate : gate_of c gate ≡ Some (kind, pins)) (clear : All (λ x. x ≡ 0) delta)
      (valued : (k : ℕ) → k < 128 → lane lanes k ≡ true
      → lane (bit_xor (slice_index_or good gate 0) diff) k ≡ value kind
      (pin_bits (Some f) gate pins good delta k)) where
    module _ (e : Enters c f.line) (number : signal c e.name ≡ gate) (k : ℕ) (lt : k < 128)
        (in_lanes : lane lanes k ≡ true) where
      named : Among e.name (names c)
      named = gate_named c well f.line e

      -- the gate's bit under the fault
      faulty_is : (v : Name → Bool) → Solves c (test_of tests group k) (Some f) v
          → unlike (lane_bits c good k e.name) (lane diff k) ≡ v e.name
      faulty_is v q =
          let off : f.line ≢ line.Stem (signal c e.name) =
          λ stems. (let bad : line.Pin gate pin ≡ line.Stem (signal c e.name) = sym on
          ∙ stems in cc) in
          let pair : (kind, pins) ≡ (e.kind, map (signal c) e.args) =
          ap (λ (o : Option (Kind × List ℕ)). unwrap_or o (kind, pins)) (sym is_gate
          ∙ equated_gate_named c e.name e.kind e.args gate well number
          (contained c (Gate e.name e.kind e.args) e.stands)) in
          ap (λ x. unlike (lane (slice_index_or good x 0) k) (lane diff k)) number
          ∙ (sym (lane_xor (slice_index_or good gate 0) diff k) ∙ (valued k lt in_lanes
          ∙ (ap (λ p. value p.0 (pin_bits (Some f) gate p.1 good delta k)) pair
          ∙ (ap (value e.kind) (pins_named c (Some f) good delta gate k e.args
          (λ x. index_zero delta x clear))
          ∙ (ap (λ g. value e.kind (pins_see (Some f) (lane_bits c good k) g e.args)) (sym number)
          ∙ (ap (value e.kind) (pins_agree (Some f) (lane_bits c good k) v
          (signal c e.name) 0 e.args same)
          ∙ sym (q.gate e.name e.kind e.args (contained c (Gate e.name e.kind e.args) e.stands)
          ∙ under_other f (line.Stem (signal c e.name)) _ off)))))))
        where
          same : (a : Name) → Among a e.args → lane_bits c good k a ≡ v a
          same a h =
              let low = well.acyclic.1 e.name a (
                e.kind,
                e.args,
                contained c (Gate e.name e.kind e.args) e.stands,
                contained e.args a h,
              ) in
              sym (outside c (test_of tests group k) f None v (lane_bits c good k) well e q
              (words k lt) (λ x b ne. tt) a (arg_named c well f.line e a h)
              (λ stems. (let bad : line.Pin gate pin ≡ line.Stem (signal c a) = sym on ∙ stems in
              cc)) (inl low))

      there : Detects c (test_of tests group k) f
          → (lane diff k ≡ true) × DetectsFlip c (test_of tests group k) gate
      there d =
          let h = entered_there c well (test_of tests group k) f e d in
          let v = altered c well (test_of tests group k) f e.name (lane_bits c good k) h.0.faulty
          named h.0 (words k lt) h.0.solves_faulty in (
            unlike_differs (lane_bits c good k e.name) (lane diff k) (h.0.faulty e.name)
                (faulty_is h.0.faulty h.0.solves_faulty)
                (λ same. not_itself (lane_bits c good k e.name) (same ∙ v)),
            subst (DetectsFlip c (test_of tests group k)) number h.1,
          )

      back : lane diff k ≡ true → DetectsFlip c (test_of tests group k) gate
          → Detects c (test_of tests group k) f
      back excited d =
          let w = has_solutions c well (test_of tests group k) (Some f) in
          let alters : Alters c (test_of tests group k) f (signal c e.name) = record {
            fault_free = lane_bits c good k;
            faulty = w.0;
            name = e.name;
            solves = words k lt;
            solves_faulty = w.1;
            named = name_of-signal c e.name (contained (names c) e.name named);
            differs = unlike_turns (lane_bits c good k e.name) (lane diff k) (w.0 e.name)
                (faulty_is w.0 w.1) excited;
          } in
          entered_back c well (test_of tests group k) f e alters
          (subst (DetectsFlip c (test_of tests group k)) (sym number) d)

    pub pin_come : HasCome c tests group f lanes gate diff
    pin_come k lt in_lanes =
        let e = pin_enters m c f gate pin at on in
        (there e.0 e.1 k lt in_lanes, λ p. back e.0 e.1 k lt in_lanes p.0 p.1)

  -- a fault that is excited at an observer is detected
  pub observer_told : (m : Model) (excited : ℕ) (n : Name) → Contains (faults m c) f
      → start_of f.line ≡ None → name_on c f.line ≡ Some n
      → ((k : ℕ) → k < 128 → Decides (lane excited k) ((lane lanes k ≡ true)
      × (lane_bits c good k n ≢ f.stuck))) → (k : ℕ) → k < 128
      → Decides (lane excited k) ((lane lanes k ≡ true) × Detects c (test_of tests group k) f)
  observer_told m excited n at none carries is k lt = (
    λ e. (let d = (is k lt).0 e in (
      d.0,
      law.1 (
        lane_bits c good k,
        n,
        words k lt,
        carries,
        turned_of f.stuck (lane_bits c good k n) (λ same. d.1 (sym same)),
      ),
    )),
    λ h. (is k lt).1 (h.0, other (law.0 h.1)),
  )
    where
      law : (Detects c (test_of tests group k) f
          → HasBit c (test_of tests group k) f.line (not f.stuck))
          × (HasBit c (test_of tests group k) f.line (not f.stuck)
          → Detects c (test_of tests group k) f)
      law = observer_law c well m f (test_of tests group k) at none

      other : HasBit c (test_of tests group k) f.line (not f.stuck) → lane_bits c good k n ≢ f.stuck
      other b same =
          let one : b.1 ≡ n = ap (λ o. unwrap_or o n) (sym b.3 ∙ carries) in
          let bits = agree c (test_of tests group k) None (lane_bits c good k) b.0 well
          (words k lt) b.2 n named in
          not_itself f.stuck (sym same ∙ (bits ∙ (ap b.0 (sym one) ∙ b.4)))
        where
          named : Contains (names c) n
          named = let p = carries_named m c f well at in
              subst (Contains (names c)) (ap (λ o. unwrap_or o n) (sym p.1 ∙ carries)) p.2

  -- if nothing is shown, nothing is detected
  pub none_told : AreShown c tests group (λ _. f) good lanes (λ _. ⊥) 0 → (k : ℕ) → k < 128
      → Decides (lane 0 k) ((lane lanes k ≡ true) × Detects c (test_of tests group k) f)
  none_told shown k lt = (
    λ e. absurd (false≢true (sym (lane_zero k) ∙ e)),
    λ h. (let v = shown.clear k lt h.0 (lane_zero k) (λ bad. bad) in
        absurd (v.2 ((detection_is_of_any_solution c well f (test_of tests group k)
        (lane_bits c good k) v.0 (words k lt) v.1).0 h.1))),
  )
