-- Fault-free words of the groups in the slots of a wide word.
use Rattle.std.specs.Prelude.{ℕ, ◌<◌, Bool, List}
use Rattle.std.specs.Prelude.{length, slice_index_or}
use Rattle.wide_words.specs.Lanes.{Layout, lane_in, slot_of, slots}
use Rattle.flat_circuit.specs.Words.{lane}

-- the fault-free bit of a signal in a lane of a wide word
abbrev pub copied_bit : Layout → (ℕ → List ℕ) → ℕ → ℕ → Bool
copied_bit layout good k s =
    lane (slice_index_or (good (slot_of layout k)) s 0) (lane_in layout k)

-- in each slot there is a word for the signal
abbrev pub AreWithin : Layout → (ℕ → List ℕ) → ℕ → Type 0
AreWithin layout good s = (slot : ℕ) → slot < slots layout → s < length (good slot)
