-- The start of an event-driven simulation: after the first change, with its readers waiting, the
-- invariant holds.
use Rattle.std.proofs.Common.{◌≡◌, ◌≢◌, ◌<◌, ◌≤◌, ℕ, ◌+◌, refl, sym, ◌∙◌, ap, Bool, true, false}
use Rattle.std.proofs.Common.{cond, List, [], ◌∷◌, length, arith, set, inl, inr, ◌⊎◌}
use Rattle.std.specs.Prelude.{Some, None, count_by, slice_index_or, ◌==◌}
use Rattle.std.proofs.lemmas.List.{get_or-set_same, get_or-set_other, Sums.sum_by-cons}
use Rattle.std.proofs.lemmas.Bool.{cases_eq, false≢true, eqb-true}
use Rattle.bench_net.specs.{Statement.Statement, Scan.{names, signal}, Circuit.IsWellFormed}
use Rattle.list_lemmas.proofs.Members.{among}
use Rattle.fault_model.specs.{Fault.Fault, Solution.Test}
use Rattle.flat_circuit.specs.{Words.{lane, test_of, AreWords}, Readers.{Reads, IsLive}}
use Rattle.flat_circuit.proofs.Public.{lane_zero}
use Rattle.block_sim.specs.Events.{bits_of, HasEquation, IsElsewhere, AreScheduled}
use Rattle.block_sim.specs.Propagation.{IsPropagating, IsBalanced, Counts, IsRightIn, pending_gates}
use Rattle.block_sim.{specs.Propagation.is_pending, proofs.Balanced.balanced_first}
use Rattle.block_sim.proofs.{PendingGates.pending_cases, TrueBelowLevel.right_by_now}
use Rattle.block_sim.proofs.CountedSignals.{counts_closed, reader_live}

abbrev weight : Bool → ℕ
weight b = cond b 1 0

apart : (a b : Bool) → (a ≡ true → b ≡ true → ⊥) → weight a + weight b ≤ 1
apart true true h = absurd (h refl refl)
apart true false h = omega arith
apart false true h = omega arith
apart false false h = omega arith

count_apart : (p q : ℕ → Bool) (xs : List ℕ) → ((x : ℕ) → p x ≡ true → q x ≡ true → ⊥)
    → count_by p xs + count_by q xs ≤ length xs
count_apart p q [] h = omega arith
count_apart p q (x ∷ xs) h =
    let a = sum_by-cons (λ y. weight (p y)) x xs in let b = sum_by-cons (λ y. weight (q y)) x xs in
    let w = apart (p x) (q x) (h x) in let rest = count_apart p q xs h in
    omega (arith, a, b, w, rest)

module _ (c : List Statement) (tests : List Test) (group : ℕ) (f : ℕ
    → Fault) (good : List ℕ) (lanes : ℕ) (lv : ℕ → ℕ) (start : ℕ) (well : IsWellFormed c)
    (rises : (g s : ℕ) → Reads c g s → lv s < lv g) (delta at after : List ℕ) (idle : (t : ℕ)
    → slice_index_or at t 0 ≡ 0) (scheduled : AreScheduled c start at after) where
  which : (r : ℕ) → slice_index_or after r 0 ≢ 0 → Reads c r start × IsLive c r
  which r ne = go (scheduled.only r)
    where
      go : (slice_index_or after r 0 ≡ slice_index_or at r 0)
          ⊎ ((Reads c r start × IsLive c r) × (slice_index_or after r 0 ≢ 0))
          → Reads c r start × IsLive c r
      go (inl e) = absurd (ne (e ∙ idle r))
      go (inr h) = h.0

  pub count_first : (gates : List ℕ)
      → pending_gates lv after (lv start) gates + count_by (λ g. g == start) gates ≤ length gates
  count_first gates = count_apart (is_pending lv after (lv start)) (λ g. g == start) gates
      (λ x a e. go x (eqb-true x start e) (pending_cases lv after (lv start) x a))
    where
      go : (x : ℕ) → x ≡ start → (lv start < lv x) ⊎ (slice_index_or after x 0 ≢ 0) → ⊥
      go x e (inl lt) = let same : lv x ≡ lv start = ap lv e in omega (arith, lt, same)
      go x e (inr ne) = let up = rises x start (which x ne).0 in
          let same : lv x ≡ lv start = ap lv e in omega (arith, up, same)

  pub spreading_first : (diff : ℕ) → AreWords c tests group None good
      → ((t : ℕ) → slice_index_or delta t 0 ≡ 0) → ((t k : ℕ) → t ≢ start → IsElsewhere (f k) t)
      → ((k : ℕ) → k < 128 → lane lanes k ≡ true
      → HasEquation c (test_of tests group k) (Some (f k))
      (bits_of c good (set delta start diff) k) start)
      → start < length delta → diff ≢ 0 → (k : ℕ) × (k < 128) × (lane diff k ≡ true)
      → ((k : ℕ) → k < 128 → lane diff k ≡ true → lane lanes k ≡ true)
      → IsPropagating c tests group f good lanes lv start lanes (set delta start diff) after
      (lv start)
  spreading_first diff words clear off holds within differs a_lane in_lanes = record {
    balanced = balanced_now;
    narrow = λ k lt e. e;
    not_below = not_below;
    live = λ g ne. (which g ne).1;
    touched = λ g ne. (start, (which g ne).0, λ e. differs (sym new_at ∙ e));
    waits_clear = λ g ne. kept g (λ e. let up = rises g start (which g ne).0 in
        let same : lv g ≡ lv start = ap lv e in omega (arith, up, same));
    above_clear = λ g lt. kept g (λ e. let same : lv g ≡ lv start = ap lv e in
        omega (arith, lt, same));
    after_start = λ s ne. from s ne (cases_eq s start);
    inside = λ s k lt e. in_lanes k lt (at_start s k e (cases_eq s start)).1;
    some = λ s ne. some s ne (cases_eq s start);
    right = λ s k lt e. right s k lt (at_start s k e (cases_eq s start));
  }
    where
      balanced_now : IsBalanced c (Counts c lv start) tests group f good lanes
          (set delta start diff) after
      balanced_now = balanced_first c (Counts c lv start) tests group f good lanes delta at after
          start diff words clear off (λ t is_counted reads. reader_live c lv start rises start t
          (omega arith) is_counted reads) scheduled holds

      not_below : (g : ℕ) → slice_index_or after g 0 ≢ 0 → lv start ≤ lv g
      not_below g ne = let up = rises g start (which g ne).0 in omega (arith, up)

      new_at : slice_index_or (set delta start diff) start 0 ≡ diff
      new_at = get_or-set_same delta start diff 0 within

      kept : (s : ℕ) → s ≢ start → slice_index_or (set delta start diff) s 0 ≡ 0
      kept s ne = get_or-set_other delta start s diff 0 ne ∙ clear s

      from : (s : ℕ) → slice_index_or (set delta start diff) s 0 ≢ 0 → (s ≡ start) ⊎ (s ≢ start)
          → lv start ≤ lv s
      from s ne (inl e) = let same : lv s ≡ lv start = ap lv e in omega (arith, same)
      from s ne (inr other) = absurd (ne (kept s other))

      at_start : (s k : ℕ) → lane (slice_index_or (set delta start diff) s 0) k ≡ true
          → (s ≡ start) ⊎ (s ≢ start) → (s ≡ start) × (lane diff k ≡ true)
      at_start s k e (inl same) = (
        same,
        ap (λ d. lane d k) (sym new_at)
            ∙ (ap (λ x. lane (slice_index_or (set delta start diff) x 0) k) (sym same) ∙ e),
      )
      at_start s k e (inr other) = absurd
          (false≢true (sym (lane_zero k) ∙ (ap (λ d. lane d k) (sym (kept s other)) ∙ e)))

      some : (s : ℕ) → slice_index_or (set delta start diff) s 0 ≢ 0 → (s ≡ start) ⊎ (s ≢ start)
          → (k : ℕ) × (k < 128) × (lane (slice_index_or (set delta start diff) s 0) k ≡ true)
      some s ne (inl same) = (
        a_lane.0,
        a_lane.1,
        ap (λ x. lane (slice_index_or (set delta start diff) x 0) a_lane.0) same
            ∙ (ap (λ d. lane d a_lane.0) new_at ∙ a_lane.2),
      )
      some s ne (inr other) = absurd (ne (kept s other))

      idle_here : slice_index_or after start 0 ≡ 0
      idle_here = go (scheduled.only start)
        where
          go : (slice_index_or after start 0 ≡ slice_index_or at start 0)
              ⊎ ((Reads c start start × IsLive c start) × (slice_index_or after start 0 ≢ 0))
              → slice_index_or after start 0 ≡ 0
          go (inl e) = e ∙ idle start
          go (inr r) = let up = rises start start r.0.0 in absurd (omega (arith, up))

      right : (s k : ℕ) → k < 128 → (s ≡ start) × (lane diff k ≡ true)
          → IsRightIn c tests group f good (set delta start diff) s k
      right s k lt e n v named number solves =
          let is : signal c n ≡ start = number ∙ e.0 in
          let low : lv (signal c n) ≡ lv start = ap lv is in
          right_by_now c (Counts c lv start) (counts_closed c lv start rises) tests group f good
          lanes (set delta start diff) after balanced_now lv (lv start) well rises not_below k
          lt (in_lanes k lt e.1) v solves n (among (names c) n named)
          (inr (omega (arith, low))) (omega (arith, low)) (ap (λ x. slice_index_or after x 0) is
          ∙ idle_here)
