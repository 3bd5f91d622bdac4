-- Lanes of a unit.
use Rattle.std.proofs.Common.{◌≡◌, ℕ, refl, ◌∙◌, ap, Bool, true, false, ◌&&◌}
use Rattle.std.specs.Prelude.{bit_and}
use Rattle.flat_circuit.specs.{GateForms.inverted_if, Words.lane}
use Rattle.flat_circuit.proofs.Public.{lane_and, unlike}

and_true : (b : Bool) → (b && true) ≡ b
and_true true = refl
and_true false = refl

unlike_back : (word bit : Bool) → inverted_if (unlike word bit) bit ≡ word
unlike_back true true = refl
unlike_back true false = refl
unlike_back false true = refl
unlike_back false false = refl

-- the lanes of a mask in which a word differs from a bit
pub passed_to : (diff lanes k : ℕ) → lane lanes k ≡ true → (word bit : Bool)
    → lane diff k ≡ unlike word bit → inverted_if (lane (bit_and diff lanes) k) bit ≡ word
passed_to diff lanes k on word bit is =
    ap (λ b. inverted_if b bit) (lane_and diff lanes k ∙ (ap (λ b. lane diff k && b) on
    ∙ (and_true (lane diff k) ∙ is))) ∙ unlike_back word bit
