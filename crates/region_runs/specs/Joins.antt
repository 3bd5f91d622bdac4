-- What a goal keeps of the tests before a window and of those of the window, joined.
use Rattle.std.specs.Prelude.{◌≡◌, ◌⊎◌, ◌+◌, ◌≤◌, ◌<◌, ℕ, Bool, List, Some, count_by, false}
use Rattle.std.specs.Prelude.{length, slice_get, take, true}

-- What was kept of tests up to one, and of a window's tests from there on, is kept of both
-- together. The window numbers its tests from 0: its first one is test `start` of all.
abbrev pub Joins : {K : Type 0} → ((ℕ → Bool) → ℕ → ℕ → K → Type 0) → ℕ → K → K → K → Type 0
Joins means start old later new = (hits own : ℕ → Bool) (low mid high : ℕ)
    → low ≤ start + mid → mid ≤ high → start + high ≤ 65536
    → ((t : ℕ) → mid ≤ t → t < high → own t ≡ hits (start + t))
    → means hits low (start + mid) old → means own mid high later
    → means hits low (start + high) new

-- what is kept at a place of a list was joined with what was found of a window
abbrev pub HasJoinedAt : {K : Type 0} → ((ℕ → Bool) → ℕ → ℕ → K → Type 0) → ℕ → K → List K
    → List K → ℕ → Type 0
HasJoinedAt {K} means start later before after place = (old : K) × (new : K)
    × (slice_get before place ≡ Some old) × (slice_get after place ≡ Some new)
    × Joins means start old later new

-- What is kept at a place after a window: if more tests could change it, it is joined with what was
-- found there. The finds stand for these places alone, in order.
abbrev pub IsJoinedAt : {K : Type 0} → (K → Bool) → ((ℕ → Bool) → ℕ → ℕ → K → Type 0) → ℕ
    → List K → List K → ℕ → K → K → Type 0
IsJoinedAt {K} wants means start before found k old new = ((wants old ≡ false) × (new ≡ old))
    ⊎ ((wants old ≡ true) × (one : K)
    × (slice_get found (count_by wants (take k before)) ≡ Some one)
    × Joins means start old one new)

-- so it is at each place
pub record AreJoined {K : Type 0} (wants : K → Bool) (means : (ℕ → Bool) → ℕ → ℕ → K → Type 0)
    (start : ℕ) (before found after : List K) : Type 0 where
  pub count : length after ≡ length before
  pub each : (k : ℕ) (old new : K) → slice_get before k ≡ Some old → slice_get after k ≡ Some new
      → IsJoinedAt wants means start before found k old new
