-- The fault-free words of a signal say which bits its stem has under the tests of a block.
use Rattle.std.proofs.Common.{◌≡◌, ◌<◌, ◌+◌, ◌*◌, ◌∙◌, ◌&&◌, ℕ, zero, suc, Bool, true, false, List}
use Rattle.std.{proofs.Common.{ap, arith, length, not, refl, subst, sym}, specs.Bool.Decides}
use Rattle.std.specs.Prelude.{◌↔◌, [], None, bit_and, slice_index_or}
use Rattle.std.proofs.lemmas.{Bool.false≢true, Option.get_or_from_slice_get}
use Rattle.bench_net.specs.{Circuit.IsWellFormed, Scan.names, Statement.Statement}
use Rattle.list_lemmas.proofs.Places.{within_place}
use Rattle.fault_model.specs.{declared.Line.Line, Detection.{HasBit, IsInitialized, LooksBack}}
use Rattle.fault_model.{specs.Fault.Fault, specs.Solution.Test, proofs.Public.has_solutions}
use Rattle.fault_model.specs.declared.Line.TheVariants as line
use Rattle.undetected.specs.Activation.{ActivatesAt}
use Rattle.undetected.proofs.WordLanes.{lane_and, lane_ones, later_ones}
use Rattle.flat_circuit.specs.Words.{IsFaultFreeWord, lane}

-- a lane has the bit of the stem under the lane's test
pub word_bit : (c : List Statement) (tests : List Test) (block s word k : ℕ) (bit : Bool)
    → IsWellFormed c → s < length (names c) → IsFaultFreeWord c tests block s word → k < 64
    → (lane word k ≡ bit) ↔ HasBit c (slice_index_or tests (64 * block + k) []) (line.Stem s) bit
word_bit c tests block s word k bit well within free lt = (there, back)
  where
    test : Test
    test = slice_index_or tests (64 * block + k) []

    there : lane word k ≡ bit → HasBit c test (line.Stem s) bit
    there e =
        let at = within_place (names c) s within in
        let u = has_solutions c well test None in
        (u.0, at.0, u.1, at.1, sym (free k at.0 u.0 lt at.1 u.1) ∙ e)

    back : HasBit c test (line.Stem s) bit → lane word k ≡ bit
    back h = free k h.1 h.0 lt h.3 h.2 ∙ h.4

-- the word of a signal one test earlier
pub bits_before : (c : List Statement) (tests : List Test) (block k t s here last up : ℕ)
    (bit : Bool) → IsWellFormed c → s < length (names c) → k < 64 → suc t ≡ 64 * block + k
    → IsFaultFreeWord c tests block s here
    → ((j : ℕ) → j < 63 → lane up (suc j) ≡ lane here j) → lane up 0 ≡ lane last 63
    → ((b : ℕ) → suc b ≡ block → IsFaultFreeWord c tests b s last)
    → (lane up k ≡ bit) ↔ HasBit c (slice_index_or tests t []) (line.Stem s) bit
bits_before c tests block (suc j) t s here last up bit well within lt e free later first before =
    let there : 64 * block + j ≡ t = omega (arith, e) in
    let same = later j (omega (arith, lt)) in
    let bits = word_bit c tests block s here j bit well within free (omega (arith, lt)) in
    subst (λ x. (lane up (suc j) ≡ bit) ↔ HasBit c (slice_index_or tests x []) (line.Stem s) bit)
    there (λ h. bits.0 (sym same ∙ h), λ h. same ∙ bits.1 h)
bits_before c tests zero zero t s here last up bit well within lt e free later first before =
    absurd (omega (arith, e))
bits_before c tests (suc b) zero t s here last up bit well within lt e free later first before =
    let there : 64 * b + 63 ≡ t = omega (arith, e) in
    let bits = word_bit c tests b s last 63 bit well within (before b refl) (omega arith) in
    subst (λ x. (lane up 0 ≡ bit) ↔ HasBit c (slice_index_or tests x []) (line.Stem s) bit) there
    (λ h. bits.0 (sym first ∙ h), λ h. first ∙ bits.1 h)

and_false : (b : Bool) → (b && false) ≡ false
and_false true = refl
and_false false = refl

and_true : (b : Bool) → (b && true) ≡ b
and_true true = refl
and_true false = refl

-- the test before the one of a number, if there is one
looks_at : (c : List Statement) (tests : List Test) (l : Line) (bit : Bool) (t j : ℕ)
    → suc t ≡ j → t < length tests
    → HasBit c (slice_index_or tests t []) l bit ↔ IsInitialized c tests l bit j
looks_at c tests l bit t j e lt =
    subst (λ i. HasBit c (slice_index_or tests t []) l bit ↔ IsInitialized c tests l bit i) e
    (there, back)
  where
    there : HasBit c (slice_index_or tests t []) l bit → IsInitialized c tests l bit (suc t)
    there h = let at = within_place tests t lt in
        (at.0, at.1, subst (λ x. HasBit c x l bit) (get_or_from_slice_get tests t at.0 [] at.1) h)

    back : IsInitialized c tests l bit (suc t) → HasBit c (slice_index_or tests t []) l bit
    back h = subst (λ x. HasBit c x l bit) (sym (get_or_from_slice_get tests t h.0 [] h.1)) h.2

module _ (c : List Statement) (tests : List Test) (block k before fits : ℕ) (l : Line) (bit : Bool)
    (lt : k < 64) (listed : 64 * block + k < length tests) (bits : (t : ℕ) → suc t ≡ 64 * block + k
    → (lane before k ≡ bit) ↔ HasBit c (slice_index_or tests t []) l bit)
    (fit : (lane fits k ≡ true) ↔ (lane before k ≡ bit)) where
  -- if there is a test before
  fits_back : 0 < 64 * block + k
      → Decides (lane fits k) (IsInitialized c tests l bit (64 * block + k))
  fits_back some = go (64 * block + k) refl some
    where
      go : (j : ℕ) → 64 * block + k ≡ j → 0 < j
          → Decides (lane fits k) (IsInitialized c tests l bit (64 * block + k))
      go zero e up = absurd (omega (arith, up))
      go (suc t) e up =
          let own = bits t (sym e) in
          let looks = looks_at c tests l bit t (64 * block + k) (sym e) (omega (
            arith,
            listed,
            e,
          )) in
          (λ h. looks.0 (own.0 (fit.0 h)), λ h. fit.1 (own.1 (looks.1 h)))

  -- in the first block lane 0 has none
  pub fits_back_first : block ≡ 0 → Decides (lane (bit_and fits 18446744073709551614) k)
      (IsInitialized c tests l bit (64 * block + k))
  fits_back_first none = go k refl
    where
      masked : (b : Bool) → lane 18446744073709551614 k ≡ b
          → lane (bit_and fits 18446744073709551614) k ≡ (lane fits k && b)
      masked b e = lane_and fits 18446744073709551614 k ∙ ap (λ x. lane fits k && x) e

      go : (i : ℕ) → k ≡ i → Decides (lane (bit_and fits 18446744073709551614) k)
          (IsInitialized c tests l bit (64 * block + k))
      go zero e =
          let first : 64 * block + k ≡ 0 = omega (arith, none, e) in
          let clear : lane (bit_and fits 18446744073709551614) k ≡ false =
          masked false (ap (lane 18446744073709551614) e) ∙ and_false (lane fits k) in (
            λ h. absurd (false≢true (sym clear ∙ h)),
            λ h. absurd (subst (IsInitialized c tests l bit) first h),
          )
      go (suc j) e =
          let same : lane (bit_and fits 18446744073709551614) k ≡ lane fits k =
          masked true (ap (lane 18446744073709551614) e ∙ later_ones j (omega (arith, lt, e)))
          ∙ and_true (lane fits k) in
          subst (λ b. Decides b (IsInitialized c tests l bit (64 * block + k))) (sym same)
          (fits_back (omega (arith, e)))

  -- and in a later one each lane has one
  pub fits_back_later : 0 < block → Decides (lane (bit_and fits 18446744073709551615) k)
      (IsInitialized c tests l bit (64 * block + k))
  fits_back_later some =
      let same : lane (bit_and fits 18446744073709551615) k ≡ lane fits k =
      lane_and fits 18446744073709551615 k
      ∙ (ap (λ x. lane fits k && x) (lane_ones 64 k lt) ∙ and_true (lane fits k)) in
      subst (λ b. Decides b (IsInitialized c tests l bit (64 * block + k))) (sym same)
      (fits_back (omega (arith, some)))

-- the test of a lane activates a fault if it gives the line the other bit, and the test before fits
pub activating_lane : (c : List Statement) (tests : List Test) (f : Fault) (block k word : ℕ)
    → 64 * block + k < length tests → Decides (lane word k)
    (HasBit c (slice_index_or tests (64 * block + k) []) f.line (not f.stuck)
    × LooksBack c tests f.model f.line f.stuck (64 * block + k))
    → Decides (lane word k) (ActivatesAt c tests f (64 * block + k))
activating_lane c tests f block k word listed decides = (there, back)
  where
    t : ℕ
    t = 64 * block + k

    there : lane word k ≡ true → ActivatesAt c tests f t
    there e =
        let h = decides.0 e in
        let at = within_place tests t listed in
        let same = get_or_from_slice_get tests t at.0 [] at.1 in
        (at.0, at.1, subst (λ x. HasBit c x f.line (not f.stuck)) same h.0, h.1)

    back : ActivatesAt c tests f t → lane word k ≡ true
    back h =
        let same = get_or_from_slice_get tests t h.0 [] h.1 in
        decides.1 (subst (λ x. HasBit c x f.line (not f.stuck)) (sym same) h.2, h.3)
