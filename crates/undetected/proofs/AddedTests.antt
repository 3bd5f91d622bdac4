-- The flags of signals, while tests are added group by group.
use Rattle.std.proofs.Common.{◌≡◌, ◌≢◌, ◌<◌, ◌≤◌, ◌+◌, ◌*◌, ◌∙◌, ◌⊎◌, ℕ, Bool, true, false, List}
use Rattle.std.proofs.Common.{ap, arith, inl, inr, length, set, subst, sym}
use Rattle.std.specs.Prelude.{◌↔◌, IsTrue, Some, slice_get, slice_index_or, if◌then◌else◌}
use Rattle.std.proofs.lemmas.Bool.{cases_eq, cases_lt, false≢true, le-ltb, lt-ltb}
use Rattle.std.proofs.lemmas.List.{get_or-set_other, get_or-set_same, length-set}
use Rattle.std.proofs.lemmas.Option.{get_or_from_slice_get, slice_get-get_or, slice_get_within}
use Rattle.block_sim.specs.Parts.{Parts}
use Rattle.undetected.specs.Activated.{AreAddedBefore, IsActivatedInGroup, end_at, stem_fault}
use Rattle.undetected.specs.Activation.{ActivatesAt}

-- where a signal's tests end: those of the signals before a number were added
added_end : (group signal s : ℕ) → s < signal → end_at group signal s ≡ 128 * (group + 1)
added_end group signal s lt =
    ap (λ b. if b then 128 * (group + 1) else 128 * group) (lt-ltb s signal lt)

open_end : (group signal s : ℕ) → signal ≤ s → end_at group signal s ≡ 128 * group
open_end group signal s le =
    ap (λ b. if b then 128 * (group + 1) else 128 * group) (le-ltb s signal le)

-- of other signals nothing changes
same_end : (group signal s : ℕ) → s ≢ signal → end_at group (signal + 1) s ≡ end_at group signal s
same_end group signal s other = go (cases_lt s signal)
  where
    go : (s < signal) ⊎ (signal ≤ s) → end_at group (signal + 1) s ≡ end_at group signal s
    go (inl lt) = added_end group (signal + 1) s (omega (arith, lt))
        ∙ sym (added_end group signal s lt)
    go (inr le) = open_end group (signal + 1) s (omega (arith, le, other))
        ∙ sym (open_end group signal s le)

module _ (job : Parts) (bit : Bool) (start : List Bool) where
  -- some test before a number activates the fault on the stem
  abbrev Before : ℕ → ℕ → Type 0
  Before s end = (t : ℕ) × (t < end)
      × ActivatesAt job.circuit job.tests.tests (stem_fault job.list.model s bit) t

  ends : (s end other : ℕ) (old flag : Bool) → end ≡ other
      → IsTrue flag ↔ (IsTrue old ⊎ Before s end) → IsTrue flag ↔ (IsTrue old ⊎ Before s other)
  ends s end other old flag same h = subst (λ e. IsTrue flag ↔ (IsTrue old ⊎ Before s e)) same h

  -- a flag that is not set takes the answer of the group
  pub added : (group signal : ℕ) (flags : List Bool) (answer : Bool)
      → AreAddedBefore job bit start (end_at group signal) flags → signal < length flags
      → slice_index_or flags signal false ≡ false
      → IsTrue answer ↔ IsActivatedInGroup job.circuit job.tests.tests
      (stem_fault job.list.model signal bit) group
      → AreAddedBefore job bit start (end_at group (signal + 1)) (set flags signal answer)
  added group signal flags answer before within clear tells s old flag was at =
      go (cases_eq s signal)
    where
      none : (o : Bool) → slice_get start signal ≡ Some o
          → IsTrue o ⊎ Before signal (128 * group) → ⊥
      none o there h =
          let own = ends signal (end_at group signal signal) (128 * group) o false
          (open_end group signal signal (omega arith))
          (before signal o false there (slice_get-get_or flags signal false within
          ∙ ap Some clear)) in
          false≢true (own.1 h)

      here : (o : Bool) → slice_get start signal ≡ Some o
          → IsTrue answer ↔ (IsTrue o ⊎ Before signal (128 * (group + 1)))
      here o there = (λ e. let h = tells.0 e in inr (h.0, h.2, h.3), λ h. first h)
        where
          last : (h : Before signal (128 * (group + 1)))
              → (h.0 < 128 * group) ⊎ (128 * group ≤ h.0) → IsTrue answer
          last h (inl lt) = absurd (none o there (inr (h.0, lt, h.2)))
          last h (inr le) = tells.1 (h.0, le, h.1, h.2)

          first : IsTrue o ⊎ Before signal (128 * (group + 1)) → IsTrue answer
          first (inl e) = absurd (none o there (inl e))
          first (inr h) = last h (cases_lt h.0 (128 * group))

      go : (s ≡ signal) ⊎ (s ≢ signal)
          → IsTrue flag ↔ (IsTrue old ⊎ Before s (end_at group (signal + 1) s))
      go (inl e) =
          let got : answer ≡ flag = sym (get_or-set_same flags signal answer false within)
          ∙ (ap (λ i. slice_index_or (set flags signal answer) i false) (sym e)
          ∙ get_or_from_slice_get (set flags signal answer) s flag false at) in
          let end : 128 * (group + 1) ≡ end_at group (signal + 1) s =
          sym (added_end group (signal + 1) s (omega (arith, e))) in
          let there : slice_get start signal ≡ Some old = ap (slice_get start) (sym e) ∙ was in
          ends s (128 * (group + 1)) (end_at group (signal + 1) s) old flag end
          (subst (λ i. IsTrue flag ↔ (IsTrue old ⊎ Before i (128 * (group + 1)))) (sym e)
          (subst (λ b. IsTrue b ↔ (IsTrue old ⊎ Before signal (128 * (group + 1)))) got
          (here old there)))
      go (inr other) =
          let low = slice_get_within (set flags signal answer) s flag at in
          let kept : slice_get flags s ≡ Some flag =
          slice_get-get_or flags s false (omega (arith, low, length-set flags signal answer))
          ∙ ap Some (sym (get_or-set_other flags signal s answer false other)
          ∙ get_or_from_slice_get (set flags signal answer) s flag false at) in
          ends s (end_at group signal s) (end_at group (signal + 1) s) old flag
          (sym (same_end group signal s other)) (before s old flag was kept)

  -- and one that is set stays so
  pub still_set : (group signal : ℕ) (flags : List Bool)
      → AreAddedBefore job bit start (end_at group signal) flags
      → slice_index_or flags signal false ≡ true
      → AreAddedBefore job bit start (end_at group (signal + 1)) flags
  still_set group signal flags before is s old flag was at = go (cases_eq s signal)
    where
      go : (s ≡ signal) ⊎ (s ≢ signal)
          → IsTrue flag ↔ (IsTrue old ⊎ Before s (end_at group (signal + 1) s))
      go (inl e) = (λ h. more ((before s old flag was at).0 got), λ h. got)
        where
          got : flag ≡ true
          got = sym (get_or_from_slice_get flags s flag false at)
              ∙ (ap (λ i. slice_index_or flags i false) e ∙ is)

          more : IsTrue old ⊎ Before s (end_at group signal s)
              → IsTrue old ⊎ Before s (end_at group (signal + 1) s)
          more (inl h) = inl h
          more (inr h) =
              let low : h.0 < 128 * group = subst (λ x. h.0 < x)
              (open_end group signal s (omega (arith, e))) h.1 in
              let lt : h.0 < end_at group (signal + 1) s = subst (λ x. h.0 < x)
              (sym (added_end group (signal + 1) s (omega (arith, e)))) (omega (arith, low)) in
              inr (h.0, lt, h.2)
      go (inr other) = ends s (end_at group signal s) (end_at group (signal + 1) s) old flag
          (sym (same_end group signal s other)) (before s old flag was at)

  -- once those of all signals were added, the next group begins
  pub group_added : (group signals : ℕ) (flags : List Bool) → length flags ≤ signals
      → AreAddedBefore job bit start (end_at group signals) flags
      → AreAddedBefore job bit start (end_at (group + 1) 0) flags
  group_added group signals flags all before s old flag was at =
      let low = slice_get_within flags s flag at in
      ends s (end_at group signals s) (end_at (group + 1) 0 s) old flag
      (added_end group signals s (omega (arith, low, all))
      ∙ sym (open_end (group + 1) 0 s (omega arith))) (before s old flag was at)
