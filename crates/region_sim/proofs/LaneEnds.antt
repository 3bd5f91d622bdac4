-- One lane of a simulation by events: what is seen of it, and which gates it makes active.
use Rattle.std.proofs.Common.{◌≡◌, ◌≢◌, ℕ, refl, sym, ◌∙◌, ap, Bool, true, false, List, arith, inl}
use Rattle.std.specs.Prelude.{Contains, Some, None, slice_index_or}
use Rattle.bench_net.specs.{declared.Sink.Sink, Statement.{Name, Statement}, Circuit.IsWellFormed}
use Rattle.bench_net.specs.Scan.{names, signal, observers}
use Rattle.list_lemmas.proofs.Members.{among}
use Rattle.fault_model.specs.{Fault.{Fault, branch}, Solution.{Test, Solves, Detects, shows}}
use Rattle.fault_model.proofs.Public.{detection_is_of_any_solution, has_solutions, observes}
use Rattle.fault_model.proofs.Public.{under_other}
use Rattle.flat_circuit.{specs.Readers.{IsObserved, IsRising, observed}, proofs.Public.unlike}
use Rattle.block_sim.specs.Events.{IsElsewhere}
use Rattle.region_sim.proofs.OneLane.{IsLane, differing, kept_bit, right_by_now, turned_back}

module _ (c : List Statement) (well : IsWellFormed c) (rising : IsRising c) (t : Test) (f : Fault)
    (start : ℕ) (v : Name → Bool) (elsewhere : (s : ℕ) → s ≢ start → IsElsewhere f s)
    (free : Solves c t None v)
    (unobserved : (o : Sink × Name) → Contains (observers c) o → f.line ≢ branch o.0)
    (at : List ℕ) (level : ℕ) (kept : Bool) (d : ℕ → Bool)
    (h : IsLane c t f start v at level kept d) where
  -- an observed signal that differs is seen
  pub lane_detects : (s : ℕ) → IsObserved c s → d s ≡ true → Detects c t f
  lane_detects s o on =
      let u = has_solutions c well t (Some f) in
      let is : differing c v d o.0.1 ≡ u.0 o.0.1 =
      h.right s on o.0.1 u.0 (observes c o.0 well o.1).named o.2 u.1 in (
        v,
        u.0,
        o.0,
        free,
        u.1,
        o.1,
        λ e. turned_back (v o.0.1) (d (signal c o.0.1)) (ap d o.2 ∙ on)
            (e ∙ (under_other f (branch o.0.0) (u.0 o.0.1) (unobserved o.0 o.1) ∙ sym is)),
      )

  -- where no gate waits and no observed signal differs, nothing is seen of a lane that is followed
  pub lane_misses : kept ≡ true → ((s : ℕ) → slice_index_or at s 0 ≡ 0)
      → ((s : ℕ) → IsObserved c s → d s ≡ false) → Detects c t f → ⊥
  lane_misses on idle clear detects =
      let u = has_solutions c well t (Some f) in
      let seen = (detection_is_of_any_solution c well f t v u.0 free u.1).0 detects in
      apart u.0 u.1 seen.0 seen.1 seen.2
    where
      apart : (w : Name → Bool) → Solves c t (Some f) w → (o : Sink × Name)
          → Contains (observers c) o → shows None v o ≢ shows (Some f) w o → ⊥
      apart w solves o there differ =
          let named = (observes c o well there).named in
          let is : differing c v d o.1 ≡ w o.1 =
          right_by_now c well rising t f start v elsewhere free at d (signal c o.1)
          (h.balanced on) (λ g ne. absurd (ne (idle g))) w solves o.1 (among (names c) o.1 named)
          (inl (observed (o, there, refl))) (omega arith) (idle (signal c o.1)) in
          let still : v o.1 ≡ differing c v d o.1 =
          sym (ap (unlike (v o.1)) (clear (signal c o.1) (o, there, refl)) ∙ kept_bit (v o.1)) in
          differ (still ∙ (is ∙ sym (under_other f (branch o.0) (w o.1) (unobserved o there))))
