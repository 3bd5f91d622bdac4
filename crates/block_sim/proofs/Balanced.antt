-- Event-driven simulation: the equation of each signal that counts and does not wait holds, and one
-- evaluation keeps this.
use Rattle.std.proofs.Common.{◌≡◌, ◌≢◌, ◌<◌, ℕ, refl, sym, ◌∙◌, ap, subst, true, List, length}
use Rattle.std.proofs.{Common.{arith, set, inl, inr, ◌⊎◌}, lemmas.Bool.cases_eq}
use Rattle.std.specs.Prelude.{Some, None, slice_index_or, bit_xor}
use Rattle.std.proofs.lemmas.List.{get_or-set_same, get_or-set_other}
use Rattle.bench_net.specs.{declared.Kind.Kind, Statement.{Name, Statement}, Scan.{signal, gate_of}}
use Rattle.bench_net.specs.Circuit.{IsWellFormed}
use Rattle.fault_model.specs.{Fault.Fault, Solution.{Test, Solves, value}}
use Rattle.flat_circuit.specs.Words.{lane, lane_bits, pin_bits, test_of, AreWords}
use Rattle.flat_circuit.{specs.Readers.{Reads, IsLive}, proofs.Public.lane_same}
use Rattle.block_sim.specs.Events.{bits_of, HasEquation, IsElsewhere, AreScheduled}
use Rattle.block_sim.{specs.Propagation.IsBalanced, proofs.SignalEquations.word_other}
use Rattle.block_sim.proofs.SignalEquations.{each_equation, all_equations, equation_same}
use Rattle.block_sim.proofs.SignalEquations.{equation_elsewhere, equation_kept, equation_here}

module _ (c : List Statement) (counts : ℕ → Type 0) (tests : List Test) (group : ℕ) (f : ℕ
    → Fault) (good : List ℕ) (mask : ℕ) where
  -- if none waits and all count, each lane of the mask solves the circuit
  pub balanced_solves : (delta at : List ℕ) (k : ℕ) → IsWellFormed c → ((s : ℕ) → counts s)
      → ((s : ℕ) → slice_index_or at s 0 ≡ 0) → IsBalanced c counts tests group f good mask delta at
      → k < 128 → lane mask k ≡ true
      → Solves c (test_of tests group k) (Some (f k)) (bits_of c good delta k)
  balanced_solves delta at k well all idle balanced lt in_mask =
      all_equations c (test_of tests group k) (Some (f k)) (bits_of c good delta k) well
      (λ s within. balanced s k (all s) (idle s) lt in_mask)

  module _ (lv : ℕ → ℕ) (well : IsWellFormed c) (rises : (g s : ℕ) → Reads c g s
      → lv s < lv g) (delta at : List ℕ) (g : ℕ)
      (balanced : IsBalanced c counts tests group f good mask delta at)
      (off : (k : ℕ) → IsElsewhere (f k) g) (kind : Kind) (pins : List ℕ)
      (is : gate_of c g ≡ Some (kind, pins)) (word : ℕ)
      (valued : (k : ℕ) → k < 128 → lane word k ≡ value kind (pin_bits None g pins good delta k))
    where
      loop : Reads c g g → ⊥
      loop r = let lt : lv g < lv g = rises g g r in omega (arith, lt)

      -- a gate that was evaluated, and whose word is as before
      pub balanced_same : slice_index_or delta g 0 ≡ 0 → ((k : ℕ) → k < 128 → lane mask k ≡ true
          → lane (slice_index_or good g 0) k ≡ lane word k)
          → IsBalanced c counts tests group f good mask delta (set at g 0)
      balanced_same clear same s k is_counted idle lt in_mask = go (cases_eq s g)
        where
          go : (s ≡ g) ⊎ (s ≢ g) → HasEquation c (test_of tests group k) (Some (f k))
              (bits_of c good delta k) s
          go (inl e) = subst (HasEquation c (test_of tests group k) (Some (f k))
              (bits_of c good delta k)) (sym e)
              (equation_here c (test_of tests group k) (f k) good delta delta g k kind pins well
              (off k) loop is (λ t ne. refl)
              (lane_same (slice_index_or good g 0) k (slice_index_or delta g 0) clear
              ∙ (same k lt in_mask ∙ valued k lt)))
          go (inr ne) = balanced s k is_counted (sym (get_or-set_other at g s 0 0 ne)
              ∙ idle) lt in_mask

      -- a gate that was evaluated, and whose word changed: its readers wait
      pub balanced_changed : (diff : ℕ) (after : List ℕ) → g < length delta
          → ((s : ℕ) → counts s → Reads c s g → IsLive c s)
          → ((k : ℕ) → k < 128 → lane mask k ≡ true
          → lane (bit_xor (slice_index_or good g 0) diff) k ≡ lane word k)
          → AreScheduled c g (set at g 0) after
          → IsBalanced c counts tests group f good mask (set delta g diff) after
      balanced_changed diff after within live changed scheduled s k is_counted idle lt in_mask =
          go (cases_eq s g)
        where
          here : HasEquation c (test_of tests group k) (Some (f k))
              (bits_of c good (set delta g diff) k) g
          here = equation_here c (test_of tests group k) (f k) good delta (set delta g diff) g k
              kind pins well (off k) loop is (λ t ne. word_other good delta g diff t k ne)
              (ap (λ d. lane (bit_xor (slice_index_or good g 0) d) k)
              (get_or-set_same delta g diff 0 within) ∙ (changed k lt in_mask ∙ valued k lt))

          before : s ≢ g → slice_index_or at s 0 ≡ 0
          before ne = by (scheduled.only s)
            where
              by : (slice_index_or after s 0 ≡ slice_index_or (set at g 0) s 0)
                  ⊎ ((Reads c s g × IsLive c s) × (slice_index_or after s 0 ≢ 0))
                  → slice_index_or at s 0 ≡ 0
              by (inl e) = sym (get_or-set_other at g s 0 0 ne) ∙ (sym e ∙ idle)
              by (inr h) = absurd (h.1 idle)

          go : (s ≡ g) ⊎ (s ≢ g) → HasEquation c (test_of tests group k) (Some (f k))
              (bits_of c good (set delta g diff) k) s
          go (inl e) = subst (HasEquation c (test_of tests group k) (Some (f k))
              (bits_of c good (set delta g diff) k)) (sym e) here
          go (inr ne) = equation_kept c (test_of tests group k) (Some (f k)) good delta g diff s k
              ne (λ r. scheduled.readers s r (live s is_counted r) idle)
              (balanced s k is_counted (before ne) lt in_mask)

  -- ---- the line of the fault
  -- The fault-free words satisfy the equations of all signals that the fault is not on.
  pub fault_free_holds : (delta : List ℕ) (s k : ℕ) → AreWords c tests group None good
      → ((t : ℕ) → slice_index_or delta t 0 ≡ 0) → IsElsewhere (f k) s → k < 128
      → HasEquation c (test_of tests group k) (Some (f k)) (bits_of c good delta k) s
  fault_free_holds delta s k words clear off lt =
      equation_elsewhere c (test_of tests group k) (f k) (bits_of c good delta k) s off
      (equation_same c (test_of tests group k) None (lane_bits c good k) (bits_of c good delta k) s
      (λ n e. same n) (λ n a kind args e at h. same a)
      (each_equation c (test_of tests group k) None (lane_bits c good k) (words k lt) s))
    where
      same : (n : Name) → lane_bits c good k n ≡ bits_of c good delta k n
      same n = sym (lane_same (slice_index_or good (signal c n) 0) k
          (slice_index_or delta (signal c n) 0) (clear (signal c n)))

  -- the first change: the signal whose equation the fault is in
  pub balanced_first : (delta at after : List ℕ) (s diff : ℕ)
      → AreWords c tests group None good → ((t : ℕ) → slice_index_or delta t 0 ≡ 0)
      → ((t k : ℕ) → t ≢ s → IsElsewhere (f k) t) → ((t : ℕ) → counts t → Reads c t s → IsLive c t)
      → AreScheduled c s at after → ((k : ℕ) → k < 128 → lane mask k ≡ true
      → HasEquation c (test_of tests group k) (Some (f k)) (bits_of c good (set delta s diff) k) s)
      → IsBalanced c counts tests group f good mask (set delta s diff) after
  balanced_first delta at after s diff words clear off live scheduled holds t k is_counted idle lt
      in_mask = go (cases_eq t s)
    where
      go : (t ≡ s) ⊎ (t ≢ s) → HasEquation c (test_of tests group k) (Some (f k))
          (bits_of c good (set delta s diff) k) t
      go (inl e) = subst (HasEquation c (test_of tests group k) (Some (f k))
          (bits_of c good (set delta s diff) k)) (sym e) (holds k lt in_mask)
      go (inr ne) = equation_kept c (test_of tests group k) (Some (f k)) good delta s diff t k ne
          (λ r. scheduled.readers t r (live t is_counted r) idle)
          (fault_free_holds delta t k words clear (off t k ne) lt)
