-- The lanes that are seen, as signals change and as fewer lanes are followed.
use Rattle.std.proofs.Common.{◌≡◌, ◌≢◌, ◌<◌, ℕ, refl, sym, ◌∙◌, ap, subst, Bool, true, false, ◌||◌}
use Rattle.std.{proofs.Common.{List, length, set, inl, inr, ◌⊎◌}, specs.Bool.Decides}
use Rattle.std.specs.Prelude.{slice_index_or, bit_or}
use Rattle.std.proofs.lemmas.List.{get_or-set_same, get_or-set_other}
use Rattle.std.proofs.lemmas.Bool.{cases_eq, false≢true, or_left, or_right, or_cases}
use Rattle.bench_net.specs.Statement.{Statement}
use Rattle.flat_circuit.specs.{Words.lane, Readers.IsObserved}
use Rattle.flat_circuit.proofs.Public.{lane_or, lane_zero}
use Rattle.block_sim.specs.Propagation.{AreSeen}

none_in_zero : (d k : ℕ) → d ≡ 0 → lane d k ≡ true → ⊥
none_in_zero d k e h = false≢true (sym (lane_zero k) ∙ (ap (λ x. lane x k) (sym e) ∙ h))

-- at the start none is seen
pub seen_first : (c : List Statement) (delta : List ℕ) (mask : ℕ)
    → ((s : ℕ) → slice_index_or delta s 0 ≡ 0) → AreSeen c delta mask 0
seen_first c delta mask clear = record {
  found = λ k lt e. absurd (none_in_zero 0 k refl e);
  shown = λ s k lt m o e. absurd (none_in_zero (slice_index_or delta s 0) k (clear s) e);
}

-- a changed signal is seen if it is observed
pub seen_changed : (c : List Statement) (delta : List ℕ) (mask seen g diff shown : ℕ)
    → slice_index_or delta g 0 ≡ 0 → g < length delta
    → ((k : ℕ) → k < 128 → Decides (lane shown k) (IsObserved c g × (lane diff k ≡ true)))
    → AreSeen c delta mask seen → AreSeen c (set delta g diff) mask (bit_or seen shown)
seen_changed c delta mask seen g diff shown clear within is h = record {
  found = λ k lt e. found k lt (or_cases (lane seen k) (lane shown k) (sym (lane_or seen shown k)
      ∙ e));
  shown = λ s k lt m o e. lane_or seen shown k ∙ seen_now s k lt m o e (cases_eq s g);
}
  where
    at : slice_index_or (set delta g diff) g 0 ≡ diff
    at = get_or-set_same delta g diff 0 within

    kept : (s : ℕ) → s ≢ g → slice_index_or (set delta g diff) s 0 ≡ slice_index_or delta s 0
    kept s ne = get_or-set_other delta g s diff 0 ne

    found : (k : ℕ) → k < 128 → (lane seen k ≡ true) ⊎ (lane shown k ≡ true)
        → (s : ℕ) × IsObserved c s × (lane (slice_index_or (set delta g diff) s 0) k ≡ true)
    found k lt (inl e) =
        let s = h.found k lt e in (
          s.0,
          s.1,
          ap (λ d. lane d k) (kept s.0 (λ same. none_in_zero (slice_index_or delta s.0 0) k
              (ap (λ x. slice_index_or delta x 0) same ∙ clear) s.2)) ∙ s.2,
        )
    found k lt (inr e) = let d = (is k lt).0 e in (g, d.0, ap (λ x. lane x k) at ∙ d.1)

    seen_now : (s k : ℕ) → k < 128 → lane mask k ≡ true → IsObserved c s
        → lane (slice_index_or (set delta g diff) s 0) k ≡ true → (s ≡ g) ⊎ (s ≢ g)
        → (lane seen k || lane shown k) ≡ true
    seen_now s k lt m o e (inl same) =
        let here : lane diff k ≡ true = ap (λ d. lane d k) (sym at)
        ∙ (ap (λ x. lane (slice_index_or (set delta g diff) x 0) k) (sym same) ∙ e) in
        or_right (lane seen k) (lane shown k) ((is k lt).1 (subst (IsObserved c) same o, here))
    seen_now s k lt m o e (inr other) = or_left (lane seen k) (lane shown k)
        (h.shown s k lt m o (ap (λ d. lane d k) (sym (kept s other)) ∙ e))

-- fewer lanes are followed
pub seen_narrower : (c : List Statement) (delta : List ℕ) (mask seen narrow : ℕ)
    → ((k : ℕ) → k < 128 → lane narrow k ≡ true → lane mask k ≡ true) → AreSeen c delta mask seen
    → AreSeen c delta narrow seen
seen_narrower c delta mask seen narrow within h = record {
  found = h.found;
  shown = λ s k lt m o e. h.shown s k lt (within k lt m) o e;
}

-- the same lanes in another form
pub seen_like : (c : List Statement) (delta : List ℕ) (mask seen now : ℕ)
    → ((k : ℕ) → lane now k ≡ lane seen k) → AreSeen c delta mask seen → AreSeen c delta mask now
seen_like c delta mask seen now same h = record {
  found = λ k lt e. h.found k lt (sym (same k) ∙ e);
  shown = λ s k lt m o e. same k ∙ h.shown s k lt m o e;
}

or_none : (a : Bool) → (a || false) ≡ a
or_none true = refl
or_none false = refl

pub with_none : (seen k : ℕ) → lane (bit_or seen 0) k ≡ lane seen k
with_none seen k = lane_or seen 0 k ∙ (ap (λ b. lane seen k || b) (lane_zero k)
    ∙ or_none (lane seen k))

pub from_none : (seen k : ℕ) → lane seen k ≡ lane (bit_or 0 seen) k
from_none seen k = sym (lane_or 0 seen k ∙ ap (λ b. b || lane seen k) (lane_zero k))
