-- The lanes in which two words have a value.
use Rattle.std.proofs.Common.{◌≡◌, ◌∙◌, ℕ, refl, sym, ap, Bool, true, false, not}
use Rattle.std.specs.{Prelude.{◌&&◌, bit_and, bit_xor}, Bool.Decides}
use Rattle.std.proofs.lemmas.Bool.{false≢true}
use Rattle.flat_circuit.specs.Words.{lane}
use Rattle.flat_circuit.proofs.Public.{lane_and, lane_xor, left_of, right_of, unlike}

value_of : (x v : Bool) → unlike x (not v) ≡ true → x ≡ v
value_of true true e = refl
value_of true false e = absurd (false≢true e)
value_of false true e = absurd (false≢true e)
value_of false false e = refl

of_value : (x v : Bool) → x ≡ v → unlike x (not v) ≡ true
of_value true true e = refl
of_value true false e = absurd (false≢true (sym e))
of_value false true e = absurd (false≢true e)
of_value false false e = refl

pub both : (a b : Bool) → a ≡ true → b ≡ true → (a && b) ≡ true
both true b e h = h
both false b e h = absurd (false≢true e)

pub steady_lanes : (lanes good seen other k : ℕ) (value bit : Bool) → lane other k ≡ not value
    → lane seen k ≡ bit → Decides (lane (bit_and (bit_and lanes (bit_xor good other))
    (bit_xor seen other)) k) ((lane lanes k ≡ true) × (lane good k ≡ value) × (bit ≡ value))
steady_lanes lanes good seen other k value bit is saw = (
  λ on. (
    left_of (lane lanes k) (lane (bit_xor good other) k) (first on),
    value_of (lane good k) value (sym (turned good)
        ∙ right_of (lane lanes k) (lane (bit_xor good other) k) (first on)),
    sym saw ∙ value_of (lane seen k) value (sym (turned seen)
        ∙ right_of (lane (bit_and lanes (bit_xor good other)) k) (lane (bit_xor seen other) k)
        (sym (lane_and (bit_and lanes (bit_xor good other)) (bit_xor seen other) k) ∙ on)),
  ),
  λ h. lane_and (bit_and lanes (bit_xor good other)) (bit_xor seen other) k
      ∙ both (lane (bit_and lanes (bit_xor good other)) k) (lane (bit_xor seen other) k)
      (lane_and lanes (bit_xor good other) k ∙ both (lane lanes k) (lane (bit_xor good other) k)
      h.0 (turned good ∙ of_value (lane good k) value h.1))
      (turned seen ∙ of_value (lane seen k) value (saw ∙ h.2)),
)
  where
    turned : (w : ℕ) → lane (bit_xor w other) k ≡ unlike (lane w k) (not value)
    turned w = lane_xor w other k ∙ ap (unlike (lane w k)) is

    first : lane (bit_and (bit_and lanes (bit_xor good other)) (bit_xor seen other)) k ≡ true
        → (lane lanes k && lane (bit_xor good other) k) ≡ true
    first on = sym (lane_and lanes (bit_xor good other) k)
        ∙ left_of (lane (bit_and lanes (bit_xor good other)) k) (lane (bit_xor seen other) k)
        (sym (lane_and (bit_and lanes (bit_xor good other)) (bit_xor seen other) k) ∙ on)
