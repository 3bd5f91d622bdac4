-- The random tests of a seed, round by round.
use Rattle.std.specs.Prelude.{ℕ, zero, suc, ◌*◌, ◌-◌, ◌^◌, ◌%◌, Bool, true, false, List, [], ◌∷◌}
use Rattle.std.specs.Prelude.{Option, Some, None, length, map, slice_index_or}
use Rattle.std.specs.List.{enumerate_from}
use Rattle.patterns.specs.Making.{IsMadeOf}
use Rattle.patterns.specs.Tests.{IsTestList, TestList}
use Rattle.rand_core.specs.Steps.{steps_u64_high, stream_of}
use Rattle.rand_core.specs.Stream.{Stream, next_u64}
use Rattle.rand_xoshiro.specs.SplitMix64.{splitmix_seed}
use Rattle.rand_xoshiro.specs.Xoshiro256.{of_seed, plus_plus}

-- the numbers of xoshiro256++ from a state on
abbrev pub numbers : List ℕ → Stream
numbers state = stream_of (steps_u64_high plus_plus) state

-- the state that SplitMix64 makes from a seed
unfoldable pub seeded : ℕ → List ℕ
seeded seed = of_seed (splitmix_seed 32 seed)

-- the next words of 64 bits, in order
abbrev pub next_words : ℕ → Stream → List ℕ
next_words zero s = []
next_words (suc n) s = (next_u64 s).0 ∷ next_words n (next_u64 s).1

-- the numbers after this number of words
abbrev pub after_words : ℕ → Stream → Stream
after_words zero s = s
after_words (suc n) s = after_words n (next_u64 s).1

-- the numbers after rounds, each of this number of words
abbrev pub after_rounds : ℕ → ℕ → Stream → Stream
after_rounds words zero s = s
after_rounds words (suc k) s = after_words words (after_rounds words k s)

-- a word of 64 tests, all of which have this bit, if there is one
abbrev pub held_word : Option Bool → ℕ → ℕ
held_word None word = word
held_word (Some true) word = 2 ^ 64 - 1
held_word (Some false) word = 0

-- the words of blocks, of which those of the columns with a bit have it in each test
abbrev pub held_words : List (Option Bool) → List ℕ → List ℕ
held_words bits words =
    map (λ at. held_word (slice_index_or bits (at.0 % length bits) None) at.1)
    (enumerate_from 0 words)

-- The tests of round k, from 0, of a seed, given the bits of the columns that are held. A round has
-- whole blocks of tests of the same width, and takes the next words: for each block one word for
-- each bit of the width. A held column has its bit in place of those of its words.
pub record IsRound (seed width blocks : ℕ) (bits : List (Option Bool)) (k : ℕ) (tests : TestList)
    : Type 0 where
  pub list : IsTestList tests
  pub made : IsMadeOf width (64 * blocks) (held_words bits
      (next_words (width * blocks) (after_rounds (width * blocks) k (numbers (seeded seed))))) tests
