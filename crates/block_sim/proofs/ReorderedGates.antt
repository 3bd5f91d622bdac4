-- Statements in another order: the same active gates, and the same tests that detect complemented
-- signals.
use Rattle.std.proofs.Common.{◌≡◌, ℕ, refl, sym, ◌∙◌, ap, subst, List, map}
use Rattle.std.specs.Prelude.{◌↔◌, Contains, Some, None}
use Rattle.bench_net.specs.{Statement.{Statement, Gate}, Scan.{names, signal}, Circuit.IsWellFormed}
use Rattle.list_lemmas.proofs.Members.{among, contained, among_map}
use Rattle.fault_model.specs.declared.Line.TheVariants as line
use Rattle.fault_model.specs.{Fault.Fault, Solution.{Test, sees, under}}
use Rattle.fault_model.specs.Reordered.{IsReordered, place, moved_fault, HasSameSignals}
use Rattle.fault_model.proofs.Public.{same_signals, stands_back, defined_among, solved_same}
use Rattle.fault_model.proofs.Public.{under_moved, same_bits, detected_same}
use Rattle.block_sim.specs.ActiveGates.{IsActiveBy, HasActive, HasActiveIn}
use Rattle.block_sim.specs.Flips.{flip, DetectsFlip, HasCome, TellsFirstFlips}
use Rattle.block_sim.specs.Reordered.{HasSameActive, HasSameFlips}
use Rattle.flat_circuit.specs.Words.{test_of}

module _ (c d : List Statement) (well : IsWellFormed c) (is : IsReordered c d) where
  signals : HasSameSignals c d
  signals = same_signals c d well is

  active_back : (t : Test) (f : Fault) (gate : ℕ) → IsActiveBy d t (moved_fault c d f) gate
      → (g : ℕ) × (gate ≡ place c d g) × IsActiveBy c t f g
  active_back t f gate a = (
    signal c a.name,
    number,
    record {
      fault_free = a.fault_free;
      faulty = a.faulty;
      name = a.name;
      kind = a.kind;
      args = a.args;
      pin = a.pin;
      read = a.read;
      solves = (solved_same c d well is t None a.fault_free).1 a.solves;
      solves_faulty = (solved_same c d well is t (Some f) a.faulty).1 a.solves_faulty;
      stands = stands;
      number = refl;
      at = a.at;
      differs = λ same. a.differs (same ∙ sym seen);
    },
  )
    where
      stands : Contains c (Gate a.name a.kind a.args)
      stands = stands_back c d well is (Gate a.name a.kind a.args) a.stands

      number : gate ≡ place c d (signal c a.name)
      number = sym a.number ∙ signals.numbered a.name (contained (names c) a.name
          (defined_among c (Gate a.name a.kind a.args) a.name
          (among c (Gate a.name a.kind a.args) stands) refl))

      seen : sees (Some (moved_fault c d f)) a.faulty (line.Pin gate a.pin) a.read
          ≡ sees (Some f) a.faulty (line.Pin (signal c a.name) a.pin) a.read
      seen = ap (λ g. under (Some (moved_fault c d f)) (line.Pin g a.pin) (a.faulty a.read)) number
          ∙ under_moved c d well is (Some f) (line.Pin (signal c a.name) a.pin) (a.faulty a.read)

  named_there : (gates : List ℕ) (gate g : ℕ) → gate ≡ place c d g → Contains gates g
      → Contains (map (place c d) gates) gate
  named_there gates gate g e at = subst (Contains (map (place c d) gates)) (sym e)
      (contained (map (place c d) gates) (place c d g)
      (among_map (place c d) gates g (among gates g at)))

  on_block : (tests : List Test) (block : ℕ) (f : Fault) (gates : List ℕ)
      → HasActive c tests block f gates
      → HasActive d tests block (moved_fault c d f) (map (place c d) gates)
  on_block tests block f gates has gate a =
      let own = active_back a.1 f gate a.4 in
      named_there gates gate own.0 own.1 (has own.0 (a.0, a.1, a.2, a.3, own.2))

  in_lanes : (tests : List Test) (group lanes : ℕ) (f : ℕ → Fault) (gates : List ℕ)
      → HasActiveIn c tests group lanes f gates
      → HasActiveIn d tests group lanes (λ k. moved_fault c d (f k)) (map (place c d) gates)
  in_lanes tests group lanes f gates has gate a =
      let own = active_back a.1 (f a.0) gate a.5 in
      named_there gates gate own.0 own.1 (has own.0 (a.0, a.1, a.2, a.3, a.4, own.2))

  pub same_active : HasSameActive c d
  same_active = record { on_block = on_block; in_lanes = in_lanes }

  -- ---- complemented signals

  detected : (t : Test) (s : ℕ) → DetectsFlip c t s ↔ DetectsFlip d t (place c d s)
  detected t s = (
    λ h. (
      h.0,
      (same_bits c d well is t (line.Stem s) h.0).0 h.1,
      (detected_same c d well is t (flip s h.0)).0 h.2,
    ),
    λ h. (
      h.0,
      (same_bits c d well is t (line.Stem s) h.0).1 h.1,
      (detected_same c d well is t (flip s h.0)).1 h.2,
    ),
  )

  come : (tests : List Test) (group : ℕ) (f : Fault) (mask s word : ℕ)
      → HasCome c tests group f mask s word
      ↔ HasCome d tests group (moved_fault c d f) mask (place c d s) word
  come tests group f mask s word = (
    λ h k lt on. (
      λ x. let y = (h k lt on).0 ((detected_same c d well is (test_of tests group k) f).1 x) in
          (y.0, (detected (test_of tests group k) s).0 y.1),
      λ y. (detected_same c d well is (test_of tests group k) f).0
          ((h k lt on).1 (y.0, (detected (test_of tests group k) s).1 y.1)),
    ),
    λ h k lt on. (
      λ x. let y = (h k lt on).0 ((detected_same c d well is (test_of tests group k) f).0 x) in
          (y.0, (detected (test_of tests group k) s).1 y.1),
      λ y. (detected_same c d well is (test_of tests group k) f).1
          ((h k lt on).1 (y.0, (detected (test_of tests group k) s).0 y.1)),
    ),
  )

  detection : (tests : List Test) (group mask s word : ℕ)
      → TellsFirstFlips c tests group mask s word
      ↔ TellsFirstFlips d tests group mask (place c d s) word
  detection tests group mask s word = (
    λ h. record {
      found = λ k lt on one. (detected (test_of tests group k) s).0 (h.found k lt on one);
      clear = λ k lt on none x. h.clear k lt on none ((detected (test_of tests group k) s).1 x);
    },
    λ h. record {
      found = λ k lt on one. (detected (test_of tests group k) s).1 (h.found k lt on one);
      clear = λ k lt on none x. h.clear k lt on none ((detected (test_of tests group k) s).0 x);
    },
  )

  pub same_flips : HasSameFlips c d
  same_flips = record { detected = detected; come = come; detection = detection }
