-- The invariant of an event-driven simulation: one evaluation keeps it.
use Rattle.std.proofs.Common.{◌≡◌, ◌≢◌, ◌<◌, ◌≤◌, ℕ, ◌+◌, sym, ◌∙◌, ap, subst, true, List, length}
use Rattle.std.proofs.{Common.{arith, set, inl, inr, ◌⊎◌}, lemmas.Bool.{cases_eq, false≢true}}
use Rattle.std.specs.Prelude.{Some, None, slice_index_or, bit_xor}
use Rattle.std.proofs.lemmas.List.{get_or-set_same, get_or-set_other}
use Rattle.bench_net.specs.{declared.Kind.Kind, Statement.Statement, Scan.{names, signal, gate_of}}
use Rattle.bench_net.specs.Circuit.{IsWellFormed}
use Rattle.list_lemmas.proofs.Members.{among}
use Rattle.fault_model.specs.{Fault.Fault, Solution.{Test, value}}
use Rattle.flat_circuit.specs.{Words.{lane, pin_bits, test_of}, Readers.{Reads, IsLive}}
use Rattle.flat_circuit.proofs.Public.{lane_of_zero}
use Rattle.block_sim.specs.Events.{bits_of, HasEquation, IsElsewhere, AreScheduled}
use Rattle.block_sim.specs.Propagation.{IsPropagating, IsBalanced, Counts, IsRightIn, HasTouched}
use Rattle.block_sim.{specs.Propagation.pending_gates, proofs.SignalEquations.word_other}
use Rattle.block_sim.proofs.Balanced.{balanced_same, balanced_changed}
use Rattle.block_sim.proofs.CountedSignals.{counts_closed, reader_live}
use Rattle.block_sim.proofs.TrueBelowLevel.{right_by_now}
use Rattle.block_sim.proofs.PendingGates.{pending_taken, pending_scheduled}

module _ (c : List Statement) (tests : List Test) (group : ℕ) (f : ℕ
    → Fault) (good : List ℕ) (lanes : ℕ) (lv : ℕ → ℕ) (start mask : ℕ) where
  -- ---- a level higher, if no gate waits below
  pub level_done : (delta at : List ℕ) (level next : ℕ) → level ≤ next
      → ((g : ℕ) → slice_index_or at g 0 ≢ 0 → next ≤ lv g)
      → IsPropagating c tests group f good lanes lv start mask delta at level
      → IsPropagating c tests group f good lanes lv start mask delta at next
  level_done delta at level next le above h = record {
    balanced = h.balanced;
    not_below = above;
    live = h.live;
    touched = h.touched;
    waits_clear = h.waits_clear;
    above_clear = λ g lt. h.above_clear g (omega (arith, lt, le));
    after_start = h.after_start;
    narrow = h.narrow;
    inside = h.inside;
    some = h.some;
    right = h.right;
  }

  -- ---- one evaluation
  module _ (well : IsWellFormed c) (rises : (g s : ℕ) → Reads c g s
      → lv s < lv g) (elsewhere : (t k : ℕ) → t ≢ start → IsElsewhere (f k) t)
      (delta at : List ℕ) (level g : ℕ)
      (h : IsPropagating c tests group f good lanes lv start mask delta at level)
      (waits : slice_index_or at g 0 ≢ 0) (here : lv g ≡ level) (in_at : g < length at)
      (in_delta : g < length delta)
      (kind : Kind) (pins : List ℕ) (is : gate_of c g ≡ Some (kind, pins)) (word : ℕ)
      (valued : (k : ℕ) → k < 128
      → lane word k ≡ value kind (pin_bits None g pins good delta k)) where
    clear : slice_index_or delta g 0 ≡ 0
    clear = h.waits_clear g waits

    from_start : lv start ≤ lv g
    from_start = let by = h.touched g waits in let up = rises g by.0 by.1 in
        let from = h.after_start by.0 by.2 in omega (arith, up, from)

    not_start : g ≢ start
    not_start e =
        let by = h.touched g waits in let up = rises g by.0 by.1 in
        let from = h.after_start by.0 by.2 in
        let same : lv g ≡ lv start = ap lv e in omega (arith, up, from, same)

    still_waits : (t : ℕ) → slice_index_or (set at g 0) t 0 ≢ 0
        → (t ≢ g) × (slice_index_or at t 0 ≢ 0)
    still_waits t ne = (other, λ e. ne (get_or-set_other at g t 0 0 other ∙ e))
      where
        other : t ≢ g
        other e = ne (ap (λ x. slice_index_or (set at g 0) x 0) e ∙ get_or-set_same at g 0 0 in_at)

    pub evaluated_same : ((k : ℕ) → k < 128 → lane mask k ≡ true
        → lane (slice_index_or good g 0) k ≡ lane word k)
        → IsPropagating c tests group f good lanes lv start mask delta (set at g 0) level
    evaluated_same same = record {
      balanced = balanced_same c (Counts c lv start) tests group f good mask lv well rises delta at
          g h.balanced (λ k. elsewhere g k not_start) kind pins is word valued clear same;
      not_below = λ t ne. h.not_below t (still_waits t ne).1;
      live = λ t ne. h.live t (still_waits t ne).1;
      touched = λ t ne. h.touched t (still_waits t ne).1;
      waits_clear = λ t ne. h.waits_clear t (still_waits t ne).1;
      above_clear = h.above_clear;
      after_start = h.after_start;
      narrow = h.narrow;
      inside = h.inside;
      some = h.some;
      right = h.right;
    }

    -- it was pending, and is not any more
    pub pending_same : (gates : List ℕ) → HasTouched c delta gates
        → pending_gates lv (set at g 0) level gates + 1 ≤ pending_gates lv at level gates
    pending_same gates all = let by = h.touched g waits in
        pending_taken lv at level g gates in_at here waits (all g by.0 by.1 by.2)

    module _ (diff : ℕ) (after : List ℕ) (differs : diff ≢ 0) (a_lane : (k : ℕ) × (k < 128)
        × (lane diff k ≡ true)) (in_mask : (k : ℕ) → k < 128 → lane diff k ≡ true
        → lane mask k ≡ true) (changed : (k : ℕ) → k < 128 → lane mask k ≡ true
        → lane (bit_xor (slice_index_or good g 0) diff) k ≡ lane word k)
        (scheduled : AreScheduled c g (set at g 0) after) where
      new_at : slice_index_or (set delta g diff) g 0 ≡ diff
      new_at = get_or-set_same delta g diff 0 in_delta

      kept_at : (s : ℕ) → s ≢ g → slice_index_or (set delta g diff) s 0 ≡ slice_index_or delta s 0
      kept_at s ne = get_or-set_other delta g s diff 0 ne

      -- signals that differed still differ
      grown : (s : ℕ) → slice_index_or delta s 0 ≢ 0 → slice_index_or (set delta g diff) s 0 ≢ 0
      grown s ne e =
          ne (sym (kept_at s (λ same. ne (ap (λ x. slice_index_or delta x 0) same ∙ clear))) ∙ e)

      pub pending_changed : (gates : List ℕ) → HasTouched c (set delta g diff) gates
          → pending_gates lv after level gates + 1 ≤ pending_gates lv at level gates
      pending_changed gates all =
          let less = pending_same gates (λ r s reads ne. all r s reads (grown s ne)) in
          let no_more = pending_scheduled c lv (set at g 0) after level g gates (λ r reads. let up =
          rises r g reads in let l = here in omega (arith, up, l)) scheduled in
          omega (arith, less, no_more)

      -- a gate that waits did so before, or reads the gate
      abbrev Waits : ℕ → Type 0
      Waits t = ((t ≢ g) × (slice_index_or at t 0 ≢ 0)
          × (slice_index_or after t 0 ≡ slice_index_or at t 0))
          ⊎ ((Reads c t g × IsLive c t) × (slice_index_or after t 0 ≢ 0))

      which : (t : ℕ) → slice_index_or after t 0 ≢ 0 → Waits t
      which t ne = go (scheduled.only t)
        where
          go : (slice_index_or after t 0 ≡ slice_index_or (set at g 0) t 0)
              ⊎ ((Reads c t g × IsLive c t) × (slice_index_or after t 0 ≢ 0)) → Waits t
          go (inl e) = let w = still_waits t (λ z. ne (e ∙ z)) in
              inl (w.0, w.1, e ∙ get_or-set_other at g t 0 0 w.0)
          go (inr r) = inr r

      pub evaluated_changed : IsPropagating c tests group f good lanes lv start mask
          (set delta g diff) after level
      evaluated_changed = record {
        balanced = balanced_now;
        narrow = h.narrow;
        not_below = not_below;
        live = live;
        touched = touched;
        waits_clear = waits_clear;
        above_clear = λ t lt. kept_at t (λ e. let same : lv t ≡ lv g = ap lv e in let l = here in
            omega (arith, lt, same, l)) ∙ h.above_clear t lt;
        after_start = λ s ne. after_start s ne (cases_eq s g);
        inside = λ s k lt e. inside s k lt e (cases_eq s g);
        some = λ s ne. some s ne (cases_eq s g);
        right = λ s k lt e. right s k lt e (cases_eq s g);
      }
        where
          balanced_now : IsBalanced c (Counts c lv start) tests group f good mask
              (set delta g diff) after
          balanced_now = balanced_changed c (Counts c lv start) tests group f good mask lv well
              rises delta at g h.balanced (λ k. elsewhere g k not_start) kind pins is word valued
              diff after in_delta
              (λ t is_counted reads. reader_live c lv start rises g t from_start is_counted reads)
              changed scheduled

          not_below : (t : ℕ) → slice_index_or after t 0 ≢ 0 → level ≤ lv t
          not_below t ne = go (which t ne)
            where
              go : Waits t → level ≤ lv t
              go (inl w) = h.not_below t w.1
              go (inr r) = let up = rises t g r.0.0 in let l = here in omega (arith, up, l)

          live : (t : ℕ) → slice_index_or after t 0 ≢ 0 → IsLive c t
          live t ne = go (which t ne)
            where
              go : Waits t → IsLive c t
              go (inl w) = h.live t w.1
              go (inr r) = r.0.1

          touched : (t : ℕ) → slice_index_or after t 0 ≢ 0 → (s : ℕ) × Reads c t s
              × (slice_index_or (set delta g diff) s 0 ≢ 0)
          touched t ne = go (which t ne)
            where
              go : Waits t → (s : ℕ) × Reads c t s × (slice_index_or (set delta g diff) s 0 ≢ 0)
              go (inl w) = let by = h.touched t w.1 in (by.0, by.1, grown by.0 by.2)
              go (inr r) = (g, r.0.0, λ e. differs (sym new_at ∙ e))

          waits_clear : (t : ℕ) → slice_index_or after t 0 ≢ 0
              → slice_index_or (set delta g diff) t 0 ≡ 0
          waits_clear t ne = go (which t ne)
            where
              go : Waits t → slice_index_or (set delta g diff) t 0 ≡ 0
              go (inl w) = kept_at t w.0 ∙ h.waits_clear t w.1
              go (inr r) =
                  let up = rises t g r.0.0 in let l = here in
                  kept_at t (λ e. let same : lv t ≡ lv g = ap lv e in omega (arith, up, same))
                  ∙ h.above_clear t (omega (arith, up, l))

          after_start : (s : ℕ) → slice_index_or (set delta g diff) s 0 ≢ 0 → (s ≡ g) ⊎ (s ≢ g)
              → lv start ≤ lv s
          after_start s ne (inl e) =
              let by = h.touched g waits in let up = rises g by.0 by.1 in
              let from = h.after_start by.0 by.2 in
              let same : lv s ≡ lv g = ap lv e in omega (arith, up, from, same)
          after_start s ne (inr other) = h.after_start s (λ e. ne (kept_at s other ∙ e))

          here_diff : (s k : ℕ) → s ≡ g → lane (slice_index_or (set delta g diff) s 0) k ≡ true
              → lane diff k ≡ true
          here_diff s k same e = ap (λ d. lane d k) (sym new_at)
              ∙ (ap (λ x. lane (slice_index_or (set delta g diff) x 0) k) (sym same) ∙ e)

          inside : (s k : ℕ) → k < 128 → lane (slice_index_or (set delta g diff) s 0) k ≡ true
              → (s ≡ g) ⊎ (s ≢ g) → lane lanes k ≡ true
          inside s k lt e (inl same) = h.narrow k lt (in_mask k lt (here_diff s k same e))
          inside s k lt e (inr other) = h.inside s k lt (ap (λ d. lane d k) (sym (kept_at s other))
              ∙ e)

          some : (s : ℕ) → slice_index_or (set delta g diff) s 0 ≢ 0 → (s ≡ g) ⊎ (s ≢ g)
              → (k : ℕ) × (k < 128) × (lane (slice_index_or (set delta g diff) s 0) k ≡ true)
          some s ne (inl same) = (
            a_lane.0,
            a_lane.1,
            ap (λ x. lane (slice_index_or (set delta g diff) x 0) a_lane.0) same
                ∙ (ap (λ d. lane d a_lane.0) new_at ∙ a_lane.2),
          )
          some s ne (inr other) = let k = h.some s (λ e. ne (kept_at s other ∙ e)) in
              (k.0, k.1, ap (λ d. lane d k.0) (kept_at s other) ∙ k.2)

          idle_here : slice_index_or after g 0 ≡ 0
          idle_here = go (scheduled.only g)
            where
              go : (slice_index_or after g 0 ≡ slice_index_or (set at g 0) g 0)
                  ⊎ ((Reads c g g × IsLive c g) × (slice_index_or after g 0 ≢ 0))
                  → slice_index_or after g 0 ≡ 0
              go (inl e) = e ∙ get_or-set_same at g 0 0 in_at
              go (inr r) = let up = rises g g r.0.0 in absurd (omega (arith, up))

          right : (s k : ℕ) → k < 128 → lane (slice_index_or (set delta g diff) s 0) k ≡ true
              → (s ≡ g) ⊎ (s ≢ g) → IsRightIn c tests group f good (set delta g diff) s k
          right s k lt e (inl same) n v named number solves =
              let is : signal c n ≡ g = number ∙ same in
              let low : lv (signal c n) ≡ lv g = ap lv is in
              let at_level : lv (signal c n) ≤ level = (let l = here in omega (arith, low, l)) in
              right_by_now c (Counts c lv start) (counts_closed c lv start rises) tests group f good
              mask (set delta g diff) after balanced_now lv level well rises not_below k lt
              (in_mask k lt (here_diff s k same e)) v solves n (among (names c) n named)
              (inl (subst (IsLive c) (sym is) (h.live g waits))) at_level
              (ap (λ x. slice_index_or after x 0) is ∙ idle_here)
          right s k lt e (inr other) n v named number solves =
              sym (word_other good delta g diff (signal c n) k (λ x. other (sym number ∙ x)))
              ∙ h.right s k lt (ap (λ d. lane d k) (sym (kept_at s other))
              ∙ e) n v named number solves

-- fewer lanes are followed
pub spreading_narrower : (c : List Statement) (tests : List Test) (group : ℕ) (f : ℕ
    → Fault) (good : List ℕ) (lanes : ℕ) (lv : ℕ → ℕ) (start mask : ℕ) (delta at : List ℕ)
    (level narrow : ℕ) → ((k : ℕ) → k < 128 → lane narrow k ≡ true → lane mask k ≡ true)
    → IsPropagating c tests group f good lanes lv start mask delta at level
    → IsPropagating c tests group f good lanes lv start narrow delta at level
spreading_narrower c tests group f good lanes lv start mask delta at level narrow within h =
    record {
      balanced = λ s k is_counted idle lt e. h.balanced s k is_counted idle lt (within k lt e);
      narrow = λ k lt e. h.narrow k lt (within k lt e);
      not_below = h.not_below;
      live = h.live;
      touched = h.touched;
      waits_clear = h.waits_clear;
      above_clear = h.above_clear;
      after_start = h.after_start;
      inside = h.inside;
      some = h.some;
      right = h.right;
    }

-- if no lane is followed or no gate waits, the waiting gates are cleared
pub spreading_cleared : (c : List Statement) (tests : List Test) (group : ℕ) (f : ℕ
    → Fault) (good : List ℕ) (lanes : ℕ) (lv : ℕ → ℕ) (start mask : ℕ) (delta at idle : List ℕ)
    (level : ℕ) → ((g : ℕ) → slice_index_or idle g 0 ≡ 0)
    → (mask ≡ 0) ⊎ ((g : ℕ) → slice_index_or at g 0 ≡ 0)
    → IsPropagating c tests group f good lanes lv start mask delta at level
    → IsPropagating c tests group f good lanes lv start mask delta idle level
spreading_cleared c tests group f good lanes lv start mask delta at idle level clear stop h =
    record {
      balanced = λ s k is_counted rest lt e. balanced s k is_counted lt e stop;
      narrow = h.narrow;
      not_below = λ t ne. absurd (ne (clear t));
      live = λ t ne. absurd (ne (clear t));
      touched = λ t ne. absurd (ne (clear t));
      waits_clear = λ t ne. absurd (ne (clear t));
      above_clear = h.above_clear;
      after_start = h.after_start;
      inside = h.inside;
      some = h.some;
      right = h.right;
    }
  where
    balanced : (s k : ℕ) → Counts c lv start s → k < 128 → lane mask k ≡ true
        → (mask ≡ 0) ⊎ ((g : ℕ) → slice_index_or at g 0 ≡ 0)
        → HasEquation c (test_of tests group k) (Some (f k)) (bits_of c good delta k) s
    balanced s k is_counted lt e (inl none) =
        absurd (false≢true (sym (lane_of_zero mask k none) ∙ e))
    balanced s k is_counted lt e (inr none) = h.balanced s k is_counted (none s) lt e
