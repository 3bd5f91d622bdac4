-- The wide words that are known for some signals, and the places by which they are found.
use Rattle.std.specs.Prelude.{◌≡◌, ◌==◌, ℕ, ◌<◌, ◌≤◌, ◌^◌, List, Option, Some, None, length, map}
use Rattle.std.specs.Prelude.{if◌then◌else◌, slice_get}
use Rattle.std.specs.List.{enumerate_from}
use Rattle.wide_words.specs.declared.wide.Wide.{Wide}
use Rattle.region_sim.specs.declared.known_wide.KnownWord.{KnownWord}

-- a word counts only if it is that of the signal
abbrev pub word_of : ℕ → Option KnownWord → Option Wide
word_of signal None = None
word_of signal (Some known) = if known.signal == signal then Some known.word else None

-- the word at the place to which a signal leads
abbrev pub word_at : List KnownWord → ℕ × ℕ → Option Wide
word_at known (signal, place) = word_of signal (slice_get known place)

-- the words of signals by number
abbrev pub known_wide : List KnownWord → List ℕ → List (Option Wide)
known_wide known places = map (word_at known) (enumerate_from 0 places)

-- The signal of each word leads to the place of the word, so no signal has two. There is room for
-- a word of each signal.
pub record AreKnownAt (places : List ℕ) (known : List KnownWord) (room : ℕ) : Type 0 where
  pub few : length places < 2 ^ 32
  pub found : (place : ℕ) (one : KnownWord) → slice_get known place ≡ Some one
      → slice_get places one.signal ≡ Some place
  pub roomy : length places ≤ room
