-- The lanes in which a complemented signal is detected, if each of some lanes is followed to the
-- end.
use Rattle.std.proofs.Common.{◌≡◌, ◌<◌, ℕ, refl, sym, ◌∙◌, ap, subst, Bool, true, false, List}
use Rattle.std.{proofs.Common.length, specs.Prelude.{Some, None, slice_index_or}}
use Rattle.std.specs.Bool.{Decides}
use Rattle.bench_net.specs.{Statement.{Name, Statement}, Scan.{names, signal, name_of}}
use Rattle.bench_net.{specs.Circuit.IsWellFormed, proofs.Public.signal-name_of}
use Rattle.list_lemmas.proofs.{Members.{Among, contained}, Places.{at_place, within_place}}
use Rattle.fault_model.specs.declared.Line.TheVariants as line
use Rattle.fault_model.specs.{Solution.{Test, Detects}, Detection.HasBit}
use Rattle.fault_model.proofs.Public.{detection_is_of_any_solution, has_solutions}
use Rattle.block_sim.specs.{Flips.{DetectsFlip, flip}, Propagation.AreShown}
use Rattle.block_sim.proofs.{FlipLanes.{flips, has_bit}, Flips.bit_is}
use Rattle.flat_circuit.specs.Words.{lane, lane_bits, test_of, AreWords}

module _ (c : List Statement) (well : IsWellFormed c) (tests : List Test) (group : ℕ)
    (good : List ℕ)
    (words : AreWords c tests group None good) (s : ℕ) (low : s < length (names c)) where
  name : (n : Name) × (name_of c s ≡ Some n)
  name = within_place (names c) s low

  here : Among name.0 (names c)
  here = at_place (names c) s name.0 name.1

  number : signal c name.0 ≡ s
  number = signal-name_of c s name.0 well.once name.1 (contained (names c) name.0 here)

  pub flip_decided : (lanes seen : ℕ) (settled : ℕ → Type 0)
      → AreShown c tests group (flips good s) good lanes settled seen
      → ((k : ℕ) → settled k → ⊥) → (k : ℕ) → k < 128 → lane lanes k ≡ true
      → Decides (lane seen k) (DetectsFlip c (test_of tests group k) s)
  flip_decided lanes seen settled shown never k lt in_lanes = (there, λ d. by (lane seen k) refl d)
    where
      there : lane seen k ≡ true → DetectsFlip c (test_of tests group k) s
      there e =
          let f = shown.found k lt e in
          let t = test_of tests group k in
          let u = has_solutions c well t (Some (flips good s k)) in
          let is : Detects c t (flips good s k) =
          (detection_is_of_any_solution c well (flips good s k) t (lane_bits c good k) u.0
          (words k lt) u.1).1 (f.1 u.0 u.1) in (
            lane (slice_index_or good s 0) k,
            has_bit c well tests group good words s low k lt,
            is,
          )

      clear : lane seen k ≡ false → DetectsFlip c (test_of tests group k) s → ⊥
      clear e d =
          let t = test_of tests group k in
          let v = shown.clear k lt in_lanes e (never k) in
          let first : lane_bits c good k name.0 ≡ d.0 =
          bit_is c well t name.0 d.0 (lane_bits c good k) here
          (subst (λ x. HasBit c t (line.Stem x) d.0) (sym number) d.1) (words k lt) in
          let same : d.0 ≡ lane (slice_index_or good s 0) k =
          sym first ∙ ap (λ x. lane (slice_index_or good x 0) k) number in
          v.2 ((detection_is_of_any_solution c well (flips good s k) t (lane_bits c good k) v.0
          (words k lt) v.1).0 (subst (λ b. Detects c t (flip s b)) same d.2))

      by : (b : Bool) → lane seen k ≡ b → DetectsFlip c (test_of tests group k) s
          → lane seen k ≡ true
      by true e d = e
      by false e d = absurd (clear e d)
