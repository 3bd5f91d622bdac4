-- A pass in a topological order: once a signal is passed its word is right, and stays so.
use Rattle.std.proofs.Common.{◌≡◌, ◌<◌, ◌≤◌, ℕ, ◌+◌, sym, ◌∙◌, subst, List, length, set, arith, inl}
use Rattle.std.{proofs.Common.{inr, ◌⊎◌}, specs.Prelude.{Option, slice_index_or}}
use Rattle.std.proofs.lemmas.{Bool.cases_lt, List.{get_or_default, get_or-set_same}}
use Rattle.bench_net.specs.{Statement.Statement, Scan.names, Circuit.IsWellFormed}
use Rattle.patterns.{specs.Least.below, proofs.Public.{get_or-below, length-below}}
use Rattle.fault_model.specs.{Fault.Fault, Solution.Test}
use Rattle.flat_circuit.specs.{Arranged.IsFlowOrder, Words.{AreWords, IsSignalWord}}
use Rattle.flat_circuit.proofs.WordsToSolutions.{IsRight, right_by_equation, right_in_lanes}
use Rattle.flat_circuit.proofs.{WordsToSolutions.right_kept, FlowOrder.{flow_within, pins_first}}

-- the words of the first signals of the order are right
abbrev pub ArePassed : List Statement → List Test → ℕ → Option Fault → List ℕ → List ℕ → ℕ → Type 0
ArePassed c tests group f order words i = (j : ℕ) → j < i
    → IsRight c tests group f (slice_index_or order j 0)
    (slice_index_or words (slice_index_or order j 0) 0)

module _ (c : List Statement) (tests : List Test) (group : ℕ) (f : Option Fault) (order : List ℕ)
    (well : IsWellFormed c) (ordered : IsFlowOrder c order) where
  -- one signal more
  pub passed_more : (words : List ℕ) (i word : ℕ) → length (names c) ≤ length words
      → i < length order → ArePassed c tests group f order words i
      → IsSignalWord c tests group f words (slice_index_or order i 0) word
      → ArePassed c tests group f order (set words (slice_index_or order i 0) word) (i + 1)
  passed_more words i word room lt passed equation j within = go (cases_lt j i)
    where
      inside : slice_index_or order i 0 < length words
      inside = let h : slice_index_or order i 0 < length (names c) =
          flow_within c order i ordered lt in omega (arith, h, room)

      right : IsRight c tests group f (slice_index_or order i 0) word
      right = right_by_equation c tests group f words (slice_index_or order i 0) word well equation
          (λ n a kind args number gate reads.
          let p = pins_first c well order i n a kind args ordered lt (sym number) gate reads in
          subst (λ s. IsRight c tests group f s (slice_index_or words s 0)) p.2 (passed p.0 p.1))

      go : (j < i) ⊎ (i ≤ j) → IsRight c tests group f (slice_index_or order j 0)
          (slice_index_or (set words (slice_index_or order i 0) word) (slice_index_or order j 0) 0)
      go (inl before) = right_kept c tests group f words (slice_index_or order i 0)
          (slice_index_or order j 0) word inside right (passed j before)
      go (inr after) =
          let same : i ≡ j = omega (arith, within, after) in
          let here : IsRight c tests group f (slice_index_or order i 0)
          (slice_index_or (set words (slice_index_or order i 0) word) (slice_index_or order i 0)
          0) = subst (IsRight c tests group f (slice_index_or order i 0))
          (sym (get_or-set_same words (slice_index_or order i 0) word 0 inside)) right in
          subst (λ m. IsRight c tests group f (slice_index_or order m 0)
          (slice_index_or (set words (slice_index_or order i 0) word) (slice_index_or order m 0)
          0)) same here

  -- all signals
  pub passed_all : (words : List ℕ) (i : ℕ) → length order ≤ i
      → ArePassed c tests group f order words i → AreWords c tests group f words
  passed_all words i le passed = right_in_lanes c tests group f words well (λ s lt.
      let at = ordered.signals.all s lt in
      let there : slice_index_or order at.0 0 ≡ s = get_or_default order at.0 0 s at.1 ∙ at.2 in
      subst (λ m. IsRight c tests group f m (slice_index_or words m 0)) there
      (passed at.0 (omega (arith, at.1, le))))

-- one signal more, if the numbers are the order
pub natural_more : (c : List Statement) (tests : List Test) (group : ℕ) (f : Option Fault)
    (words : List ℕ) (i word : ℕ) → IsWellFormed c → IsFlowOrder c (below (length (names c)))
    → length (names c) ≤ length words → i < length (names c)
    → ArePassed c tests group f (below (length (names c))) words i
    → IsSignalWord c tests group f words i word
    → ArePassed c tests group f (below (length (names c))) (set words i word) (i + 1)
natural_more c tests group f words i word well ordered room lt passed equation =
    let order = below (length (names c)) in
    let here : slice_index_or order i 0 ≡ i = get_or-below (length (names c)) i 0 lt in
    let long : length order ≡ length (names c) = length-below (length (names c)) in
    subst (λ s. ArePassed c tests group f order (set words s word) (i + 1)) here
    (passed_more c tests group f order well ordered words i word room (omega (arith, lt, long))
    passed (subst (λ s. IsSignalWord c tests group f words s word) (sym here) equation))
