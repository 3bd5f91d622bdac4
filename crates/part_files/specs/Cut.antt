-- Files that are cut at a byte.
use Rattle.std.specs.Prelude.{◌≡◌, ◌≢◌, ℕ, List, [], ◌∷◌, ◌++◌}

-- the byte is not in the text
abbrev pub Lacks : ℕ → List ℕ → Type 0
Lacks byte [] = Unit {0}
Lacks byte (b ∷ text) = (b ≢ byte) × Lacks byte text

-- the text is cut at the first such byte
pub record IsCutFirst (byte : ℕ) (text before after : List ℕ) : Type 0 where
  pub whole : text ≡ before ++ byte ∷ after
  pub first : Lacks byte before

-- the text is cut at the last such byte
pub record IsCutLast (byte : ℕ) (text before after : List ℕ) : Type 0 where
  pub whole : text ≡ before ++ byte ∷ after
  pub last : Lacks byte after
