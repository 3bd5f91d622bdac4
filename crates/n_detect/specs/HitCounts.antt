-- The number of hits among tests.
use Rattle.std.specs.Prelude.{◌≡◌, ◌-◌, ℕ, Bool, None, Option, Some, count_by, min}
use Rattle.patterns.specs.Least.{from_up}

-- the number of hits from one test on, and before another, counted up to `most`
abbrev pub IsHitCount : ℕ → (ℕ → Bool) → ℕ → ℕ → ℕ → Type 0
IsHitCount most hits low high n = n ≡ min most (count_by hits (from_up low (high - low)))

-- the number of hits, counted up to 1, if this is the first one or there is none
abbrev pub one_of : Option ℕ → ℕ
one_of None = 0
one_of (Some t) = 1
