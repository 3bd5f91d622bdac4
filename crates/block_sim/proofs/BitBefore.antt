-- The fault-free words have the bit of a line under each test of their group.
use Rattle.std.proofs.Common.{◌≡◌, ◌<◌, ◌+◌, ◌*◌, ◌-◌, ◌/◌, ◌^◌, ◌&&◌, ◌⊎◌, inl, inr, not, ℕ, zero}
use Rattle.std.proofs.Common.{suc, arith, length, refl, false, true, sym, ◌∙◌, ap, subst, Bool}
use Rattle.std.{proofs.Common.List, specs.Prelude.bit_and, specs.Int.{bit_not, w128}}
use Rattle.std.specs.Prelude.{◌↔◌, ◌==◌, Contains, [], Some, None, unwrap_or, slice_index_or}
use Rattle.std.{specs.Bool.Decides, proofs.lemmas.Bool.false≢true}
use Rattle.std.proofs.lemmas.Nat.Bits.{bit_at-suc}
use Rattle.bench_net.specs.{Statement.{Name, Statement}, Scan.{names, signal, name_of}}
use Rattle.bench_net.{specs.Circuit.IsWellFormed, proofs.Public.signal-name_of}
use Rattle.fault_model.specs.{declared.Line.Line, Solution.{Test, Solves}}
use Rattle.fault_model.{specs.Detection.{name_on, HasBit, IsInitialized}, proofs.Public.agree}
use Rattle.list_lemmas.proofs.{Members.contained, Places.{at_place, within_place}}
use Rattle.flat_circuit.proofs.Public.{index_of, lane_and, lane_not, lane_ones}
use Rattle.flat_circuit.specs.Words.{lane, lane_bits, test_of, AreWords, IsFaultFreeWord}

pub lane_has_bit : (c : List Statement) (tests : List Test) (group k : ℕ) (row : List ℕ) (l : Line)
    (n : Name) (bit : Bool) → IsWellFormed c → AreWords c tests group None row → k < 128
    → name_on c l ≡ Some n → Contains (names c) n
    → (lane (slice_index_or row (signal c n) 0) k ≡ bit) ↔ HasBit c (test_of tests group k) l bit
lane_has_bit c tests group k row l n bit well words lt at named = (there, back)
  where
    there : lane (slice_index_or row (signal c n) 0) k ≡ bit
        → HasBit c (test_of tests group k) l bit
    there e = (lane_bits c row k, n, words k lt, at, e)

    back : HasBit c (test_of tests group k) l bit → lane (slice_index_or row (signal c n) 0) k ≡ bit
    back h =
        let same : h.1 ≡ n = ap (λ o. unwrap_or o n) (sym h.3 ∙ at) in
        let own : h.0 n ≡ bit = subst (λ x. h.0 x ≡ bit) same h.4 in
        agree c (test_of tests group k) None (lane_bits c row k) h.0 well (words k lt) h.2 n named
        ∙ own

-- a fault-free word of a group is the word of its signal
pub fault_free_word : (c : List Statement) (tests : List Test) (group s : ℕ) (row : List ℕ)
    → IsWellFormed c → AreWords c tests group None row
    → (k : ℕ) (n : Name) (v : Name → Bool) → k < 128 → name_of c s ≡ Some n
    → Solves c (test_of tests group k) None v → lane (slice_index_or row s 0) k ≡ v n
fault_free_word c tests group s row well words k n v lt at solves =
    let named = contained (names c) n (at_place (names c) s n at) in
    let number = signal-name_of c s n well.once at named in
    ap (λ x. lane (slice_index_or row x 0) k) (sym number)
    ∙ agree c (test_of tests group k) None (lane_bits c row k) v well (words k lt) solves n named

-- the same for a block, whose word is half of the group's
pub fault_free_lane : (c : List Statement) (tests : List Test) (block s : ℕ) (row : List ℕ)
    (word : ℕ) → IsWellFormed c → AreWords c tests (block / 2) None row
    → ((k j : ℕ) → k < 64 → 64 * block + k ≡ 128 * (block / 2) + j
    → lane word k ≡ lane (slice_index_or row s 0) j) → IsFaultFreeWord c tests block s word
fault_free_lane c tests block s row word well words half k n v lt at solves =
    let j = 64 * block + k - 128 * (block / 2) in
    let place : 64 * block + k ≡ 128 * (block / 2) + j = omega arith in
    half k j lt place
    ∙ fault_free_word c tests (block / 2) s row well words j n v (omega (arith, lt)) at
    (subst (λ t. Solves c (slice_index_or tests t []) None v) place solves)

and_false : (b : Bool) → (b && false) ≡ false
and_false true = refl
and_false false = refl

and_true : (b : Bool) → (b && true) ≡ b
and_true true = refl
and_true false = refl

-- all lanes but the first
later_ones : (j : ℕ) → j < 127 → lane 340282366920938463463374607431768211454 (suc j) ≡ true
later_ones j lt = ap (λ x. x == 1) (bit_at-suc 340282366920938463463374607431768211454 j)
    ∙ lane_ones 127 j lt

-- the test before the one of a number, if there is one
pub looks_at : (c : List Statement) (tests : List Test) (l : Line) (bit : Bool) (t j : ℕ)
    → suc t ≡ j → t < length tests
    → HasBit c (slice_index_or tests t []) l bit ↔ IsInitialized c tests l bit j
looks_at c tests l bit t j e lt =
    subst (λ i. HasBit c (slice_index_or tests t []) l bit ↔ IsInitialized c tests l bit i) e
    (there, back)
  where
    there : HasBit c (slice_index_or tests t []) l bit → IsInitialized c tests l bit (suc t)
    there h = let at = within_place tests t lt in
        (at.0, at.1, subst (λ x. HasBit c x l bit) (index_of tests t at.0 [] at.1) h)

    back : IsInitialized c tests l bit (suc t) → HasBit c (slice_index_or tests t []) l bit
    back h = subst (λ x. HasBit c x l bit) (sym (index_of tests t h.0 [] h.1)) h.2

-- the word of a signal one test earlier has the bits of a line that carries it: lane k + 1 is lane
-- k of the group, and lane 0 is the last lane of the group before
pub bits_before : (c : List Statement) (tests : List Test) (group k t number up : ℕ) (l : Line)
    (n : Name) (bit : Bool) → IsWellFormed c → k < 128 → suc t ≡ 128 * group + k
    → name_on c l ≡ Some n → Contains (names c) n → number ≡ signal c n
    → (here : List ℕ) → AreWords c tests group None here
    → ((j : ℕ) → j < 127 → lane up (suc j) ≡ lane (slice_index_or here number 0) j)
    → ((b : ℕ) → suc b ≡ group → (row : List ℕ) × AreWords c tests b None row
    × (lane up 0 ≡ lane (slice_index_or row number 0) 127))
    → (lane up k ≡ bit) ↔ HasBit c (slice_index_or tests t []) l bit
bits_before c tests group (suc j) t number up l n bit well lt e at named is here words later first =
    let lower : j < 127 = omega (arith, lt) in
    let there : 128 * group + j ≡ t = omega (arith, e) in
    let same : lane up (suc j) ≡ lane (slice_index_or here (signal c n) 0) j = later j lower
    ∙ ap (λ s. lane (slice_index_or here s 0) j) is in
    let bits = lane_has_bit c tests group j here l n bit well words (omega (arith, lt)) at named in
    subst (λ x. (lane up (suc j) ≡ bit) ↔ HasBit c (slice_index_or tests x []) l bit) there
    (λ h. bits.0 (sym same ∙ h), λ h. same ∙ bits.1 h)
bits_before c tests zero zero t number up l n bit well lt e at named is here words later first =
    absurd (omega (arith, e))
bits_before c tests (suc b) zero t number up l n bit well lt e at named is here words later first =
    let last = first b refl in
    let there : 128 * b + 127 ≡ t = omega (arith, e) in
    let same : lane up 0 ≡ lane (slice_index_or last.0 (signal c n) 0) 127 = last.2
    ∙ ap (λ s. lane (slice_index_or last.0 s 0) 127) is in
    let bits = lane_has_bit c tests b 127 last.0 l n bit well last.1 (omega arith) at named in
    subst (λ x. (lane up 0 ≡ bit) ↔ HasBit c (slice_index_or tests x []) l bit) there
    (λ h. bits.0 (sym same ∙ h), λ h. same ∙ bits.1 h)

-- the lanes that fit are the lanes with the bit that the line is slow to leave
pub fits_where : (bit : Bool) (before fits k : ℕ) → before < 2 ^ 128 → k < 128
    → ((bit ≡ true) × (fits ≡ before)) ⊎ ((bit ≡ false) × (fits ≡ bit_not w128 before))
    → (lane fits k ≡ true) ↔ (lane before k ≡ bit)
fits_where bit before fits k few lt (inl h) = (
  λ e. ap (λ x. lane x k) (sym h.1) ∙ (e ∙ sym h.0),
  λ e. ap (λ x. lane x k) h.1 ∙ (e ∙ h.0),
)
fits_where bit before fits k few lt (inr h) = (
  λ e. turned (lane before k) (sym turn ∙ e) ∙ sym h.0,
  λ e. turn ∙ ap not (e ∙ h.0),
)
  where
    turn : lane fits k ≡ not (lane before k)
    turn = ap (λ x. lane x k) h.1 ∙ lane_not before k few lt

    turned : (b : Bool) → not b ≡ true → b ≡ false
    turned false e = refl
    turned true e = sym e

module _ (c : List Statement) (tests : List Test) (group k before fits : ℕ) (l : Line) (bit : Bool)
    (lt : k < 128) (listed : 128 * group + k < length tests)
    (detection : (t : ℕ) → suc t ≡ 128 * group + k
    → (lane before k ≡ bit) ↔ HasBit c (slice_index_or tests t []) l bit)
    (fit : (lane fits k ≡ true) ↔ (lane before k ≡ bit)) where
  -- if there is a test before
  fits_look_back : 0 < 128 * group + k
      → Decides (lane fits k) (IsInitialized c tests l bit (128 * group + k))
  fits_look_back some = go (128 * group + k) refl some
    where
      go : (j : ℕ) → 128 * group + k ≡ j → 0 < j
          → Decides (lane fits k) (IsInitialized c tests l bit (128 * group + k))
      go zero e up = absurd (omega (arith, up))
      go (suc t) e up =
          let bits = detection t (sym e) in
          let looks = looks_at c tests l bit t (128 * group + k) (sym e) (omega (
            arith,
            listed,
            e,
          )) in
          (λ h. looks.0 (bits.0 (fit.0 h)), λ h. fit.1 (bits.1 (looks.1 h)))

  -- in the first group lane 0 has none
  fits_look_back_first : group ≡ 0
      → Decides (lane (bit_and fits 340282366920938463463374607431768211454) k)
      (IsInitialized c tests l bit (128 * group + k))
  fits_look_back_first none = go k refl
    where
      masked : (b : Bool) → lane 340282366920938463463374607431768211454 k ≡ b
          → lane (bit_and fits 340282366920938463463374607431768211454) k ≡ (lane fits k && b)
      masked b e = lane_and fits 340282366920938463463374607431768211454 k
          ∙ ap (λ x. lane fits k && x) e

      go : (i : ℕ) → k ≡ i → Decides (lane (bit_and fits 340282366920938463463374607431768211454) k)
          (IsInitialized c tests l bit (128 * group + k))
      go zero e =
          let first : 128 * group + k ≡ 0 = omega (arith, none, e) in
          let clear : lane (bit_and fits 340282366920938463463374607431768211454) k ≡ false =
          masked false (ap (lane 340282366920938463463374607431768211454) e)
          ∙ and_false (lane fits k) in (
            λ h. absurd (false≢true (sym clear ∙ h)),
            λ h. absurd (subst (IsInitialized c tests l bit) first h),
          )
      go (suc j) e =
          let same : lane (bit_and fits 340282366920938463463374607431768211454) k ≡ lane fits k =
          masked true (ap (lane 340282366920938463463374607431768211454) e
          ∙ later_ones j (omega (arith, lt, e))) ∙ and_true (lane fits k) in
          subst (λ b. Decides b (IsInitialized c tests l bit (128 * group + k))) (sym same)
          (fits_look_back (omega (arith, e)))

  -- and the mask leaves out only this one
  pub masked_look_back : (mask : ℕ)
      → ((group ≡ 0) × (mask ≡ 340282366920938463463374607431768211454))
      ⊎ ((0 < group) × (mask ≡ 340282366920938463463374607431768211455))
      → Decides (lane (bit_and fits mask) k) (IsInitialized c tests l bit (128 * group + k))
  masked_look_back mask (inl h) =
      subst (λ x. Decides (lane (bit_and fits x) k) (IsInitialized c tests l bit (128 * group + k)))
      (sym h.1) (fits_look_back_first h.0)
  masked_look_back mask (inr h) =
      let same : lane (bit_and fits mask) k ≡ lane fits k =
      lane_and fits mask k ∙ (ap (λ x. lane fits k && lane x k) h.1
      ∙ (ap (λ x. lane fits k && x) (lane_ones 128 k lt) ∙ and_true (lane fits k))) in
      subst (λ b. Decides b (IsInitialized c tests l bit (128 * group + k))) (sym same)
      (fits_look_back (omega (arith, h.0)))
