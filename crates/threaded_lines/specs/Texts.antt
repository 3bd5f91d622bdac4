-- Texts, one after another.
use Rattle.std.specs.Prelude.{ℕ, List}
use Rattle.std.specs.List.{flat_map, slice_range}

-- the texts, one after another
abbrev pub joined : List (List ℕ) → List ℕ
joined texts = flat_map (λ text. text) texts

-- those from one number up to another
abbrev pub text_between : List (List ℕ) → ℕ → ℕ → List ℕ
text_between texts start end = joined (slice_range texts start end)
