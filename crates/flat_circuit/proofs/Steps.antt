-- One evaluation, in the steps of the code.
use Rattle.std.proofs.Common.{◌≡◌, ◌≢◌, ◌<◌, ◌≤◌, ℕ, ◌+◌, ◌^◌, refl, sym, ◌∙◌, ap, Bool, true}
use Rattle.std.{proofs.Common.{false, ◌&&◌, List, set, arith, inl, inr, ◌⊎◌}, specs.Bool.Decides}
use Rattle.std.specs.Prelude.{slice_index_or, bit_and, bit_xor, nat_lt, ◌==◌}
use Rattle.std.proofs.lemmas.{List.{set-set, set-get_or}, Nat.Bits.bit_at-trailing_zeros}
use Rattle.std.proofs.lemmas.Bool.{cases_eq, cases_lt, false≢true, le-ltb, lt-ltb}
use Rattle.std.specs.Int.{w128, trailing_zeros}
use Rattle.flat_circuit.{specs.Words.lane, proofs.Lanes.{lane_and, lane_xor, lane_zero, unlike}}
use lib.Count.{trailing_of_zero}

-- a gate that was taken, and did not wait any more
pub restored : (at : List ℕ) (g level : ℕ) → slice_index_or at g 0 ≡ 0
    → set (set at g (level + 1)) g 0 ≡ at
restored at g level idle = set-set at g (level + 1) 0
    ∙ (ap (set at g) (sym idle) ∙ set-get_or at g 0)

equal : (a b m : Bool) → (unlike a b && m) ≡ false → m ≡ true → b ≡ a
equal true true true e h = refl
equal true false true e h = absurd (false≢true (sym e))
equal false true true e h = absurd (false≢true (sym e))
equal false false true e h = refl
equal a b false e h = absurd (false≢true h)

-- no lane of the mask differs
pub no_change : (word good lanes k : ℕ) → bit_and (bit_xor word good) lanes ≡ 0
    → lane lanes k ≡ true → lane good k ≡ lane word k
no_change word good lanes k e in_lanes = equal (lane word k) (lane good k) (lane lanes k)
    (ap (λ b. b && lane lanes k) (sym (lane_xor word good k))
    ∙ (sym (lane_and (bit_xor word good) lanes k) ∙ (ap (λ d. lane d k) e ∙ lane_zero k))) in_lanes

pub left_of : (a b : Bool) → (a && b) ≡ true → a ≡ true
left_of true b e = refl
left_of false b e = absurd (false≢true e)

pub right_of : (a b : Bool) → (a && b) ≡ true → b ≡ true
right_of true b e = e
right_of false b e = absurd (false≢true e)

pub only_lanes : (x lanes k : ℕ) → lane (bit_and x lanes) k ≡ true → lane lanes k ≡ true
only_lanes x lanes k e = right_of (lane x k) (lane lanes k) (sym (lane_and x lanes k) ∙ e)

turned : (a b m : Bool) → m ≡ true → unlike b (unlike a b && m) ≡ a
turned true true true h = refl
turned true false true h = refl
turned false true true h = refl
turned false false true h = refl
turned a b false h = absurd (false≢true h)

-- complemented in the lanes in which it differs, it is the word
pub changed_to : (word good lanes k : ℕ) → lane lanes k ≡ true
    → lane (bit_xor good (bit_and (bit_xor word good) lanes)) k ≡ lane word k
changed_to word good lanes k in_lanes = lane_xor good (bit_and (bit_xor word good) lanes) k
    ∙ (ap (unlike (lane good k)) (lane_and (bit_xor word good) lanes k
    ∙ ap (λ b. b && lane lanes k) (lane_xor word good k))
    ∙ turned (lane word k) (lane good k) (lane lanes k) in_lanes)

-- a word that is not 0 has a lane
pub some_lane : (word : ℕ) → word < 2 ^ 128 → word ≢ 0 → (k : ℕ) × (k < 128) × (lane word k ≡ true)
some_lane word within ne = let found = bit_at-trailing_zeros w128 word (omega (arith, ne)) within in
    (_, found.0, ap (λ x. x == 1) found.1)

-- if lanes below the first lane of another word are kept, a lane that is left out is not below that
-- first lane
pub left_out : (lanes seen low k : ℕ) → seen < 2 ^ 128 → k < 128
    → ((j : ℕ) → j < 128 → lane low j ≡ nat_lt j (trailing_zeros w128 seen)) → lane lanes k ≡ true
    → lane (bit_and lanes low) k ≡ false → (j : ℕ) × (j ≤ k) × (lane seen j ≡ true)
left_out lanes seen low k within lt is in_lanes out = go (cases_lt k (trailing_zeros w128 seen))
    (cases_eq seen 0)
  where
    go : (k < trailing_zeros w128 seen) ⊎ (trailing_zeros w128 seen ≤ k) → (seen ≡ 0) ⊎ (seen ≢ 0)
        → (j : ℕ) × (j ≤ k) × (lane seen j ≡ true)
    go (inl below) z =
        let kept : lane (bit_and lanes low) k ≡ true = lane_and lanes low k
        ∙ both (lane lanes k) (lane low k) in_lanes (is k lt
        ∙ lt-ltb k (trailing_zeros w128 seen) below) in
        absurd (false≢true (sym out ∙ kept))
      where
        both : (a b : Bool) → a ≡ true → b ≡ true → (a && b) ≡ true
        both true b p q = q
        both false b p q = p
    go (inr above) (inl zero_is) = let all : trailing_zeros w128 seen ≡ 128 =
        ap (trailing_zeros w128) zero_is ∙ trailing_of_zero 128 in
        absurd (omega (arith, above, all, lt))
    go (inr above) (inr ne) = let found = bit_at-trailing_zeros w128 seen (omega (
      arith,
      ne,
    )) within in (trailing_zeros w128 seen, above, ap (λ x. x == 1) found.1)

-- the requested lanes in which a word does not have one bit
pub turned_lanes : (word good lanes k : ℕ) (b : Bool) → lane word k ≡ b
    → Decides (lane (bit_and (bit_xor word good) lanes) k) ((lane lanes k ≡ true)
    × (lane good k ≢ b))
turned_lanes word good lanes k b is = (
  λ e. let h = there (lane good k) (lane lanes k) b (sym seen ∙ e) in h,
  λ h. seen ∙ back (lane good k) (lane lanes k) b h.0 h.1,
)
  where
    seen : lane (bit_and (bit_xor word good) lanes) k ≡ (unlike b (lane good k) && lane lanes k)
    seen = lane_and (bit_xor word good) lanes k ∙ ap (λ x. x && lane lanes k) (lane_xor word good k
        ∙ ap (λ x. unlike x (lane good k)) is)

    there : (g m a : Bool) → (unlike a g && m) ≡ true → (m ≡ true) × (g ≢ a)
    there true m true e = absurd (false≢true e)
    there false m true e = (e, false≢true)
    there true m false e = (e, λ h. false≢true (sym h))
    there false m false e = absurd (false≢true e)

    back : (g m a : Bool) → m ≡ true → g ≢ a → (unlike a g && m) ≡ true
    back true m true e ne = absurd (ne refl)
    back false m true e ne = e
    back true m false e ne = e
    back false m false e ne = absurd (ne refl)

-- the lanes that two words decide, one after the other
pub lanes_decide : {A B : Type 0} (low fit k : ℕ) → Decides (lane low k) A
    → (A → Decides (lane fit k) B) → Decides (lane (bit_and low fit) k) (A × B)
lanes_decide {A} {B} low fit k is by = (there, back)
  where
    there : lane (bit_and low fit) k ≡ true → A × B
    there e =
        let both = sym (lane_and low fit k) ∙ e in
        let own = is.0 (left_of (lane low k) (lane fit k) both) in
        (own, (by own).0 (right_of (lane low k) (lane fit k) both))

    both_true : (a b : Bool) → a ≡ true → b ≡ true → (a && b) ≡ true
    both_true true b p q = q
    both_true false b p q = p

    back : A × B → lane (bit_and low fit) k ≡ true
    back h = lane_and low fit k ∙ both_true (lane low k) (lane fit k) (is.1 h.0) ((by h.0).1 h.1)

pub lane_of_zero : (word k : ℕ) → word ≡ 0 → lane word k ≡ false
lane_of_zero word k e = ap (λ x. lane x k) e ∙ lane_zero k

-- and no kept lane lies at or above a lane of that word
pub left_behind : (lanes seen low j k : ℕ) → seen < 2 ^ 128 → k < 128
    → ((i : ℕ) → i < 128 → lane low i ≡ nat_lt i (trailing_zeros w128 seen)) → j ≤ k
    → lane seen j ≡ true → lane (bit_and lanes low) k ≡ false
left_behind lanes seen low j k within lt is le at = go (cases_eq seen 0)
  where
    none : (a b : Bool) → b ≡ false → (a && b) ≡ false
    none true b e = e
    none false b e = refl

    go : (seen ≡ 0) ⊎ (seen ≢ 0) → lane (bit_and lanes low) k ≡ false
    go (inl e) = absurd (false≢true (sym (lane_of_zero seen j e) ∙ at))
    go (inr ne) = by (cases_lt j (trailing_zeros w128 seen))
      where
        by : (j < trailing_zeros w128 seen) ⊎ (trailing_zeros w128 seen ≤ j)
            → lane (bit_and lanes low) k ≡ false
        by (inl below) =
            let found = bit_at-trailing_zeros w128 seen (omega (arith, ne)) within in
            absurd (false≢true (sym (ap (λ x. x == 1) (found.2 j below)) ∙ at))
        by (inr above) = lane_and lanes low k ∙ none (lane lanes k) (lane low k) (is k lt
            ∙ le-ltb k (trailing_zeros w128 seen) (omega (arith, above, le)))
