-- The bits of a gate's pins if one signal is complemented in some lanes, and no other differs.
use Rattle.std.proofs.Common.{◌≡◌, ◌≢◌, ◌<◌, ◌+◌, ◌∙◌, ◌⊎◌, ◌∷◌, [], ℕ, List, ap, inl, inr, length}
use Rattle.std.{proofs.Common.{refl, set, sym}, specs.List.enumerate_from}
use Rattle.std.specs.Prelude.{◌==◌, All, None, bit_xor, map, slice_index_or}
use Rattle.std.proofs.lemmas.Bool.{cases_eq, cond-false, cond-true, eq-eqb, ne_eqb}
use Rattle.std.proofs.lemmas.List.{get_or-set_other, get_or-set_same}
use Rattle.event_queue.proofs.Public.{index_zero}
use Rattle.fault_model.specs.declared.Line.TheVariants as line
use Rattle.fault_model.specs.Solution.{under}
use Rattle.flat_circuit.specs.Words.{lane, pin_bits, turned_word, word_over}
use Rattle.flat_circuit.proofs.GateLanes.{plain_word}

module _ (good before : List ℕ) (s diff k : ℕ) (clear : All (λ x. x ≡ 0) before)
    (within : s < length before) where
  -- a word, as it is over the differences
  over : (x : ℕ)
      → lane (turned_word good s diff x) k ≡ lane (word_over good (set before s diff) x) k
  over x = go (cases_eq x s)
    where
      go : (x ≡ s) ⊎ (x ≢ s)
          → lane (turned_word good s diff x) k ≡ lane (word_over good (set before s diff) x) k
      go (inl same) =
          let is : turned_word good s diff x ≡ bit_xor (slice_index_or good x 0) diff =
          cond-true (x == s) _ _ (eq-eqb x s same) in
          let there : slice_index_or (set before s diff) x 0 ≡ diff =
          ap (λ n. slice_index_or (set before s diff) n 0) same
          ∙ get_or-set_same before s diff 0 within in
          ap (λ w. lane w k) (is ∙ ap (bit_xor (slice_index_or good x 0)) (sym there))
      go (inr other) =
          let is : turned_word good s diff x ≡ slice_index_or good x 0 =
          cond-false (x == s) _ _ (ne_eqb x s other) in
          let there : slice_index_or (set before s diff) x 0 ≡ 0 =
          get_or-set_other before s x diff 0 other ∙ index_zero before x clear in
          ap (λ w. lane w k) is ∙ (plain_word good x k
          ∙ ap (λ d. lane (bit_xor (slice_index_or good x 0) d) k) (sym there))

  -- the bits that the pins see
  pub turned_pins : (gate : ℕ) (pins : List ℕ) → map (λ x. lane (turned_word good s diff x) k) pins
      ≡ pin_bits None gate pins good (set before s diff) k
  turned_pins gate pins = go 0 pins
    where
      go : (from : ℕ) (rest : List ℕ) → map (λ x. lane (turned_word good s diff x) k) rest
          ≡ map (λ at. under None (line.Pin gate at.0)
          (lane (word_over good (set before s diff) at.1) k)) (enumerate_from from rest)
      go from [] = refl
      go from (x ∷ rest) = rw (over x, go (from + 1) rest) refl
