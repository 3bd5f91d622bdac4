-- Sums of the bytes of files.
use Rattle.std.specs.Prelude.{◌≡◌, ◌-◌, ℕ, List, ◌++◌, Option, Some, IsSome, length, take}
use Rattle.hex.specs.Hex.{encode_lower}
use Rattle.sha2.specs.Hashers.{Holds256}
use Rattle.sha2.specs.Sha256.{sha256}
use Rattle.sha2.specs.declared.Sha256.{Sha256}

-- the sum of a text: its SHA-256 in lower-case hex digits
abbrev pub sum_text : List ℕ → List ℕ
sum_text text = encode_lower (sha256 text)

-- the bytes of a text before those that are left
abbrev pub read_of : List ℕ → List ℕ → List ℕ
read_of text left = take (length text - length left) text

-- These bytes of a text are left, and a hasher, if there is one, holds those before.
pub record IsSummedAt (text left : List ℕ) (hasher : Option Sha256) : Type 0 where
  pub split : text ≡ read_of text left ++ left
  pub holds : (h : Sha256) → hasher ≡ Some h → ∥ Holds256 h (read_of text left) ∥₁

-- the same, if the text is known
pub record IsSummed (known left : Option (List ℕ)) (hasher : Option Sha256) : Type 0 where
  pub some : (text : List ℕ) → known ≡ Some text → IsSome left
  pub at : (text rest : List ℕ) → known ≡ Some text → left ≡ Some rest
      → IsSummedAt text rest hasher
