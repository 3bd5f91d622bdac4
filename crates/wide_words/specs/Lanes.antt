-- Lanes of a number, and how the lanes of a group of 128 stand in a wide word.
use Rattle.std.specs.Prelude.{◌≡◌, ◌⊎◌, ℕ, ◌+◌, ◌/◌, ◌%◌, ◌≤◌, ◌==◌, Bool}
use Rattle.std.specs.Int.{bit_at}

-- the bit of a number's lane
abbrev pub lane : ℕ → ℕ → Bool
lane word k = bit_at word k == 1

-- A slot is a copy of as many lanes of a group as the size, from the base on.
pub record Layout : Type 0 where
  pub base : ℕ
  pub size : ℕ

-- a slot has the lanes of one block of the group or of both
pub record IsLayout (layout : Layout) : Type 0 where
  pub whole : (layout.size ≡ 64) ⊎ (layout.size ≡ 128)
  pub within : layout.base + layout.size ≤ 128

-- how many slots a wide word has
abbrev pub slots : Layout → ℕ
slots layout = 512 / layout.size

-- the slot that has a lane of a wide word
abbrev pub slot_of : Layout → ℕ → ℕ
slot_of layout k = k / layout.size

-- the lane of a group that a lane of a wide word copies
abbrev pub lane_in : Layout → ℕ → ℕ
lane_in layout k = layout.base + k % layout.size
