-- The lanes of a wide word in which a complemented signal complements the stem: the lanes of the
-- only gate that reads it, if the gate passes the change on.
use Rattle.std.proofs.Common.{◌≡◌, ◌≢◌, ◌<◌, ◌≤◌, ◌⊎◌, ◌==◌, ◌&&◌, ℕ, refl, sym, ◌∙◌, ap, subst}
use Rattle.std.proofs.Common.{Bool, true, false, not, List, [], ◌∷◌, suc, ◌+◌, inl, inr, length}
use Rattle.std.proofs.{Common.{map, set, arith, eq-eqb, eqb-true}, lemmas.Bool.false≢true}
use Rattle.std.specs.Prelude.{◌↔◌, Option, Some, None, slice_index_or, unwrap_or}
use Rattle.std.proofs.lemmas.List.{get_or-set_same, get_or-set_other, length-set}
use Rattle.bench_net.specs.{declared.Kind.Kind, Statement.{Name, Statement}, Circuit.IsWellFormed}
use Rattle.bench_net.specs.Scan.{gate_of, names, signal}
use Rattle.fault_model.specs.Solution.{Test, value}
use Rattle.patterns.specs.Least.{below, from_up}
use Rattle.wide_words.specs.{Lanes.{IsLayout, Layout, lane_in, slot_of}, Wide.number}
use Rattle.wide_words.specs.declared.wide.Wide.{Wide}
use Rattle.region_sim.specs.{declared.unit_gate.Turned.TheVariants.Signal, Pack.AreRows}
use Rattle.region_sim.specs.Units.{AreKnownInUnit, CarryFlip, lane_test, turned_bits}
use Rattle.region_sim.proofs.{PackGates.{in_group, slot_low}, PackRuns.over}
use Rattle.flat_circuit.specs.{Readers.IsLive, GateForms.inverted_if, Words.{lane, lane_bits}}
use Rattle.flat_circuit.{specs.Regions.{IsReadBy, lone_reader}, proofs.Public.pin_law}
use Rattle.flat_circuit.specs.SlotWords.{copied_bit}
use Rattle.block_sim.specs.Flips.{DetectsFlip, Passes, complemented_at}
use Rattle.block_sim.proofs.Public.{dead_flip, passes_is, step_law}
use Rattle.block_sim.proofs.Public.{gate_named_of_signal_equations as gate_named}

-- the stem itself
pub carry_live : (c : List Statement) (tests : List Test) (l : Layout) (group : ℕ → ℕ)
    (stem word : ℕ) → ((k : ℕ) → k < 512 → lane word k ≡ true)
    → CarryFlip c tests l group stem stem word
carry_live c tests l group stem word all k lt = (λ d. (all k lt, d), λ p. p.1)

pub carry_dead : (c : List Statement) (tests : List Test) (l : Layout) (group : ℕ → ℕ)
    (stem word : ℕ) → IsWellFormed c → (IsLive c stem → ⊥)
    → CarryFlip c tests l group stem stem word
carry_dead c tests l group stem word well dead k lt = (
  λ d. absurd (dead_flip c well (lane_test tests l group k) stem dead d),
  λ p. p.1,
)

-- ---- what a gate passes on
by_place : {X : Type 0} (f : ℕ → X) (xs : List ℕ)
    → map (λ i. f (slice_index_or xs i 0)) (below (length xs)) ≡ map f xs
by_place f xs = go 0 xs (λ i lt. ap (λ n. slice_index_or xs n 0) (omega arith))
  where
    go : (from : ℕ) (rest : List ℕ)
        → ((i : ℕ) → i < length rest → slice_index_or rest i 0 ≡ slice_index_or xs (from + i) 0)
        → map (λ i. f (slice_index_or xs i 0)) (from_up from (length rest)) ≡ map f rest
    go from [] same = refl
    go from (x ∷ rest) same =
        let here : x ≡ slice_index_or xs from 0 = same 0 (omega arith)
        ∙ ap (λ n. slice_index_or xs n 0) (omega arith) in
        ap (λ y. y ∷ map (λ i. f (slice_index_or xs i 0)) (from_up (from + 1) (length rest)))
        (ap f (sym here))
        ∙ ap (λ more. f x ∷ more) (go (from + 1) rest (λ i lt. same (suc i) (omega (arith, lt))
        ∙ ap (λ n. slice_index_or xs n 0) (omega arith)))

and_true : (b : Bool) → (b && true) ≡ b
and_true true = refl
and_true false = refl

is_turned : (d b v : Bool) → inverted_if d b ≡ v → v ≢ b → d ≡ true
is_turned true b v e ne = refl
is_turned false b v e ne = absurd (ne (sym e))

not_same : (b : Bool) → not b ≢ b
not_same true e = false≢true e
not_same false e = false≢true (sym e)

turned_off : (d b v : Bool) → inverted_if d b ≡ v → d ≡ true → v ≢ b
turned_off true b v e on same = not_same b (e ∙ same)
turned_off false b v e on same = false≢true on

module _ (c : List Statement) (well : IsWellFormed c) (tests : List Test) (l : Layout)
    (sized : IsLayout l) (group : ℕ → ℕ) (good : ℕ → List ℕ) (words : AreRows c tests l group good)
    (s g : ℕ) (h : IsReadBy c g s) (kind : Kind) (pins : List ℕ)
    (gate : gate_of c g ≡ Some (kind, pins)) (lanes k : ℕ) (lt : k < 512)
    (on : lane lanes k ≡ true) (d : Bool) (valued : inverted_if d (copied_bit l good k g)
    ≡ value kind (turned_bits l good (Signal s) lanes pins k)) where
  abbrev bits : Name → Bool
  bits = lane_bits c (good (slot_of l k)) (lane_in l k)

  abbrev seen : ℕ → Bool
  seen p = inverted_if (p == s && lane lanes k) (copied_bit l good k p)

  abbrev turned : ℕ → Bool
  turned p = inverted_if (p == s) (copied_bit l good k p)

  alike : (ps : List ℕ) → map seen ps ≡ map turned ps
  alike [] = refl
  alike (p ∷ ps) =
      ap (λ b. b ∷ map seen ps) (ap (λ b. inverted_if (p == s && b) (copied_bit l good k p)) on
      ∙ ap (λ b. inverted_if b (copied_bit l good k p)) (and_true (p == s)))
      ∙ ap (λ bs. turned p ∷ bs) (alike ps)

  pair : ◌≡◌ {A = Kind × List ℕ} (kind, pins) (h.reads.kind, map (signal c) h.reads.args)
  pair = ap (λ (o : Option (Kind × List ℕ)). unwrap_or o (kind, pins)) (sym gate
      ∙ gate_named c h.reads.name h.reads.kind h.reads.args g well h.reads.number h.reads.gate)

  now : value kind (turned_bits l good (Signal s) lanes pins k)
      ≡ value h.reads.kind (map (complemented_at c s bits) h.reads.args)
  now = ap (value kind) (by_place seen pins ∙ alike pins)
      ∙ (ap (λ p. value p.0 (map turned p.1)) pair
      ∙ sym (ap (value h.reads.kind) (over turned (signal c) h.reads.args)))

  here : copied_bit l good k g ≡ bits h.reads.name
  here = ap (copied_bit l good k) (sym h.reads.number)

  law : Passes c (lane_test tests l group k) s (signal c h.reads.name)
      ↔ (value h.reads.kind (map (complemented_at c s bits) h.reads.args) ≢ bits h.reads.name)
  law = passes_is c (lane_test tests l group k) s bits h.reads.name h.reads.kind h.reads.args well
      (words (slot_of l k) (slot_low l sized k lt) (lane_in l k) (in_group l sized k)) h.reads.gate

  pub passes_there : Passes c (lane_test tests l group k) s g → d ≡ true
  passes_there p = is_turned d (copied_bit l good k g) _ valued
      (λ same. law.0 (subst (Passes c (lane_test tests l group k) s) (sym h.reads.number) p)
      (sym now ∙ (same ∙ here)))

  pub passes_back : d ≡ true → Passes c (lane_test tests l group k) s g
  passes_back e = subst (Passes c (lane_test tests l group k) s) h.reads.number
      (law.1 (λ same. turned_off d (copied_bit l good k g) _ valued e (now ∙ (same ∙ sym here))))

-- a signal that only one gate reads
pub carry_before : (c : List Statement) (tests : List Test) (l : Layout) (group : ℕ → ℕ)
    (stem s g word new : ℕ) → IsWellFormed c → lone_reader c s ≡ Some g
    → CarryFlip c tests l group g stem word → ((k : ℕ) → lane new k ≡ true → lane word k ≡ true)
    → ((k : ℕ) → k < 512 → lane word k ≡ true
    → Passes c (lane_test tests l group k) s g → lane new k ≡ true)
    → ((k : ℕ) → k < 512 → lane word k ≡ true → lane new k ≡ true
    → Passes c (lane_test tests l group k) s g) → CarryFlip c tests l group s stem new
carry_before c tests l group stem s g word new well alone carried inside on off k lt = (
  λ d. there d,
  λ p. back p.0 p.1,
)
  where
    read : IsReadBy c g s
    read = pin_law c well s g alone

    there : DetectsFlip c (lane_test tests l group k) s
        → (lane new k ≡ true) × DetectsFlip c (lane_test tests l group k) stem
    there d =
        let pass = (step_law c well (lane_test tests l group k) s g read).0 d in
        let at = (carried k lt).0 pass.1 in (on k lt at.0 pass.0, at.1)

    back : lane new k ≡ true → DetectsFlip c (lane_test tests l group k) stem
        → DetectsFlip c (lane_test tests l group k) s
    back e d =
        let was = inside k e in
        (step_law c well (lane_test tests l group k) s g read).1 (
          off k lt was e,
          (carried k lt).1 (was, d),
        )

-- ---- one signal more is known
module _ (known : List (Option Wide)) (s : ℕ) (word : Wide) (within : s < length known) where
  here_now : slice_index_or (set known s (Some word)) s None ≡ Some word
  here_now = get_or-set_same known s (Some word) None within

  now_known : (t : ℕ) (w : Wide) → slice_index_or (set known s (Some word)) t None ≡ Some w
      → ((t ≡ s) × (w ≡ word)) ⊎ (slice_index_or known t None ≡ Some w)
  now_known t w e = go (t == s) refl
    where
      go : (b : Bool) → (t == s) ≡ b
          → ((t ≡ s) × (w ≡ word)) ⊎ (slice_index_or known t None ≡ Some w)
      go true is =
          let same : t ≡ s = eqb-true t s is in
          let both : Some w ≡ Some word = sym e
          ∙ (ap (λ x. slice_index_or (set known s (Some word)) x None) same ∙ here_now) in
          inl (same, ap (λ (o : Option Wide). unwrap_or o w) both)
      go false is = inr (sym (get_or-set_other known s t (Some word) None
          (λ same. false≢true (sym is ∙ eq-eqb t s same))) ∙ e)

  still_known : (t : ℕ) (w : Wide) → slice_index_or known t None ≡ Some w
      → (v : Wide) × (slice_index_or (set known s (Some word)) t None ≡ Some v)
  still_known t w e = go (t == s) refl
    where
      go : (b : Bool) → (t == s) ≡ b
          → (v : Wide) × (slice_index_or (set known s (Some word)) t None ≡ Some v)
      go true is = (
        word,
        ap (λ x. slice_index_or (set known s (Some word)) x None) (eqb-true t s is) ∙ here_now,
      )
      go false is = (
        w,
        get_or-set_other known s t (Some word) None (λ same. false≢true (sym is ∙ eq-eqb t s same))
            ∙ e,
      )

  pub known_more : (c : List Statement) (l : Layout) (good : ℕ → List ℕ) (stem : ℕ)
      → AreKnownInUnit c l good stem known
      → ((tests : List Test) (group : ℕ → ℕ) → AreRows c tests l group good
      → CarryFlip c tests l group s stem (number word))
      → AreKnownInUnit c l good stem (set known s (Some word))
  known_more c l good stem before own = record {
    room = subst (λ n. length (names c) ≤ n) (sym (length-set known s (Some word))) before.room;
    begun = still_known stem before.begun.0 before.begun.1;
    each = λ t w e tests group rows. elim (now_known t w e) [
      | inl h ↦ subst (λ x. CarryFlip c tests l group t stem (number x)) (sym h.1)
          (subst (λ x. CarryFlip c tests l group x stem (number word)) (sym h.0)
          (own tests group rows))
      | inr h ↦ before.each t w h tests group rows
    ];
  }

  -- and if none was known, with only the stem
  pub known_begun : (c : List Statement) (l : Layout) (good : ℕ → List ℕ)
      → length (names c) ≤ length known → ((t : ℕ) → slice_index_or known t None ≡ None)
      → ((tests : List Test) (group : ℕ → ℕ) → AreRows c tests l group good
      → CarryFlip c tests l group s s (number word))
      → AreKnownInUnit c l good s (set known s (Some word))
  known_begun c l good room none own = record {
    room = subst (λ n. length (names c) ≤ n) (sym (length-set known s (Some word))) room;
    begun = (word, here_now);
    each = λ t w e tests group rows. elim (now_known t w e) [
      | inl h ↦ subst (λ x. CarryFlip c tests l group t s (number x)) (sym h.1)
          (subst (λ x. CarryFlip c tests l group x s (number word)) (sym h.0)
          (own tests group rows))
      | inr h ↦ (let bad : None ≡ Some w = sym (none t) ∙ h in cc)
    ];
  }
