-- The bytes that an output has taken, and the number of its failures.
use Rattle.std.specs.Prelude.{◌≡◌, ◌⊎◌, ℕ, ◌+◌, ◌-◌, ◌^◌, ◌<◌, min, Bool, true, false, not, ◌==◌}
use Rattle.std.specs.Prelude.{List, ◌++◌, length, Option, Result, Ok, Err, if◌then◌else◌}
use Rattle.std.specs.Io.KnownBytes.{Appends}

-- whether a call took nothing though it was handed something
abbrev pub is_refusal : {E : Type 0} → Result ℕ E → List ℕ → Bool
is_refusal (Ok n) piece = if n == 0 then not (length piece == 0) else false
is_refusal (Err e) piece = true

-- the count of failures after a call, which stays at the greatest u64
abbrev pub fails_after : ℕ → Bool → ℕ
fails_after fails failed = if failed then min (fails + 1) (2 ^ 64 - 1) else fails

-- an output as contracts see it: the bytes that it has taken, if it records them, and the number of
-- its failed calls
pub record Output : Type 0 where
  pub bytes : Option (List ℕ)
  pub fails : ℕ

-- the count grew, or stands at the greatest u64
abbrev pub HasFailed : ℕ → ℕ → Type 0
HasFailed old new = (old < new) ⊎ (new ≡ 2 ^ 64 - 1)

-- the whole text was taken, and no failure was counted
abbrev pub TakesAll : Output → Output → List ℕ → Type 0
TakesAll old new text = Appends old.bytes new.bytes text × (new.fails ≡ old.fails)

-- a beginning of the text was taken, and a failure was counted
abbrev pub TakesFront : Output → Output → List ℕ → Type 0
TakesFront old new text = (front rest : List ℕ) × (text ≡ front ++ rest)
    × Appends old.bytes new.bytes front × HasFailed old.fails new.fails

-- a call that writes a text: an Ok took all of it, an Err a beginning
abbrev pub Writes : {T E : Type 0} → Result T E → Output → Output → List ℕ → Type 0
Writes (Ok x) old new text = TakesAll old new text
Writes (Err e) old new text = TakesFront old new text
