-- The words of two blocks, side by side, and the lanes of some of their tests.
use Rattle.std.proofs.Common.{◌≡◌, ◌<◌, ◌≤◌, ◌+◌, ◌*◌, ◌-◌, ◌^◌, ◌&&◌, ℕ, Bool, true, false, not}
use Rattle.std.{proofs.Common.{sym, ◌∙◌, ap, arith, List, inl, inr, ◌⊎◌}, specs.Bool.Decides}
use Rattle.std.specs.{Prelude.{bit_and, nat_lt}, Int.{bit_at, bit_not, w128}}
use Rattle.std.proofs.lemmas.Bool.{cases_lt, false≢true, lt-ltb, le-ltb, ltb-true}
use Rattle.fault_model.specs.Solution.{Test}
use Rattle.patterns.specs.Tests.{as_number, bit, IsWord}
use Rattle.flat_circuit.{specs.Words.{lane, IsGroupWord}, proofs.Lanes.{lane_and, lane_not}}
use Rattle.flat_circuit.proofs.Steps.{left_of, right_of}

pub joined_words : (tests : List Test) (group source low high word : ℕ)
    → IsWord tests (2 * group) source low → IsWord tests (2 * group + 1) source high
    → ((k : ℕ) → k < 64 → bit_at word k ≡ bit_at low k)
    → ((k : ℕ) → k < 64 → bit_at word (64 + k) ≡ bit_at high k)
    → IsGroupWord tests group source word
joined_words tests group source low high word first second is_low is_high k lt = go (cases_lt k 64)
  where
    go : (k < 64) ⊎ (64 ≤ k) → bit_at word k ≡ as_number (bit tests (128 * group + k) source)
    go (inl few) =
        let place : 64 * (2 * group) + k ≡ 128 * group + k = omega arith in
        is_low k few ∙ (first k few ∙ ap (λ t. as_number (bit tests t source)) place)
    go (inr up) =
        let few : k - 64 < 64 = omega (arith, lt, up) in
        let back : k ≡ 64 + (k - 64) = omega (arith, up) in
        let place : 64 * (2 * group + 1) + (k - 64) ≡ 128 * group + k = omega (arith, up) in
        ap (bit_at word) back ∙ (is_high (k - 64) few
        ∙ (second (k - 64) few ∙ ap (λ t. as_number (bit tests t source)) place))

-- lanes below a number, without those below another
pub lanes_between : (low high from to k : ℕ) → high < 2 ^ 128 → k < 128 → lane low k ≡ nat_lt k to
    → lane high k ≡ nat_lt k from
    → Decides (lane (bit_and low (bit_not w128 high)) k) ((from ≤ k) × (k < to))
lanes_between low high from to k fits lt is_low is_high = (there, back)
  where
    turned : lane (bit_not w128 high) k ≡ not (nat_lt k from)
    turned = lane_not high k fits lt ∙ ap not is_high

    both : (a b : Bool) → a ≡ true → b ≡ true → (a && b) ≡ true
    both true b p q = q
    both false b p q = p

    there : lane (bit_and low (bit_not w128 high)) k ≡ true → (from ≤ k) × (k < to)
    there e =
        let all = sym (lane_and low (bit_not w128 high) k) ∙ e in (
          up (cases_lt k from) (sym turned
              ∙ right_of (lane low k) (lane (bit_not w128 high) k) all),
          ltb-true k to (sym is_low ∙ left_of (lane low k) (lane (bit_not w128 high) k) all),
        )
      where
        up : (k < from) ⊎ (from ≤ k) → not (nat_lt k from) ≡ true → from ≤ k
        up (inl below) e = absurd (false≢true (sym (ap not (lt-ltb k from below)) ∙ e))
        up (inr above) e = above

    back : (from ≤ k) × (k < to) → lane (bit_and low (bit_not w128 high)) k ≡ true
    back h = lane_and low (bit_not w128 high) k ∙ both (lane low k) (lane (bit_not w128 high) k)
        (is_low ∙ lt-ltb k to h.1) (turned ∙ ap not (le-ltb k from h.0))
