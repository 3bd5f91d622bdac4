-- The last test that detects a class.
use Rattle.std.specs.Prelude.{◌≡◌, ◌<◌, ◌≤◌, ℕ, Bool, Option, None, Some, true, false}

-- the last hit from one test on, and before another
abbrev pub IsLastHit : (ℕ → Bool) → ℕ → ℕ → Option ℕ → Type 0
IsLastHit hits low high None = (t : ℕ) → low ≤ t → t < high → hits t ≡ false
IsLastHit hits low high (Some t) = (low ≤ t) × (t < high) × (hits t ≡ true)
    × ((later : ℕ) → t < later → later < high → hits later ≡ false)
