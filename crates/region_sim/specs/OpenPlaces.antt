-- The places of a list whose classes may be open.
use Rattle.std.specs.Prelude.{◌≡◌, ◌+◌, ◌<◌, ◌≤◌, ℕ, Bool, List, Some, false, length, slice_get}

-- at each place from one up to another stands what is no longer open
abbrev pub AreSettled : {K : Type 0} → (K → Bool) → List K → ℕ → ℕ → Type 0
AreSettled {K} is_open kept from to = (k : ℕ) → from ≤ k → k < to
    → (one : K) × (slice_get kept k ≡ Some one) × (is_open one ≡ false)

-- for each place a next one, so that nothing between them is open
pub record AreNextOpen {K : Type 0} (is_open : K → Bool) (kept : List K) (next : List ℕ) :
    Type 0 where
  pub count : length next ≡ length kept
  pub following : (p q : ℕ) → slice_get next p ≡ Some q → p < q
  pub within : (p q : ℕ) → slice_get next p ≡ Some q → q ≤ length kept
  pub between : (p q : ℕ) → slice_get next p ≡ Some q → AreSettled is_open kept (p + 1) q

-- from a place on, two lists have the same
abbrev pub AgreeFrom : {K : Type 0} → ℕ → List K → List K → Type 0
AgreeFrom from before now = (k : ℕ) → from ≤ k → slice_get now k ≡ slice_get before k

-- what is no longer open stays as it was
abbrev pub KeepsClosed : {K : Type 0} → (K → Bool) → List K → List K → Type 0
KeepsClosed {K} is_open before after = (place : ℕ) (one : K) → slice_get before place ≡ Some one
    → is_open one ≡ false → slice_get after place ≡ slice_get before place

-- the next place of each place is the one after it
abbrev pub AreSuccessors : List ℕ → Type 0
AreSuccessors next = (p q : ℕ) → slice_get next p ≡ Some q → q ≡ p + 1
