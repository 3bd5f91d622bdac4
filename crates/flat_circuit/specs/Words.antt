-- Words of 128 lanes: the bits of a group, two blocks side by side, one word for each signal.
use Rattle.std.specs.Prelude.{◌≡◌, ℕ, ◌+◌, ◌*◌, ◌<◌, ◌==◌, Bool, true, false, List, [], length, map}
use Rattle.std.specs.Prelude.{Contains, Option, Some, None, slice_get, slice_index_or, bit_xor}
use Rattle.std.specs.Prelude.{if◌then◌else◌}
use Rattle.std.specs.Int.{bit_at}
use Rattle.std.specs.List.{enumerate_from}
use Rattle.bench_net.specs.declared.Kind.{Kind}
use Rattle.bench_net.specs.Statement.{Name, Statement, Gate}
use Rattle.bench_net.specs.Scan.{names, signal, name_of, sources}
use Rattle.bench_net.specs.Circuit.{IsCircuit}
use Rattle.fault_model.specs.declared.Line.TheVariants as line
use Rattle.fault_model.specs.Fault.{Fault}
use Rattle.fault_model.specs.Solution.{Test, Solves, under, value, pins_see}
use Rattle.patterns.specs.declared.Outcome.{Outcome}
use Rattle.patterns.specs.declared.Outcome.TheVariants.{Clear, Hit}
use Rattle.patterns.specs.Tests.{as_number, bit}

-- the bit of a word's lane
abbrev pub lane : ℕ → ℕ → Bool
lane word k = bit_at word k == 1

-- the bit that words, one for each signal, give a name in a lane
abbrev pub lane_bits : List Statement → List ℕ → ℕ → Name → Bool
lane_bits c words k n = lane (slice_index_or words (signal c n) 0) k

-- the test of a lane: test 128 g + k, or a test of zeros past the last
abbrev pub test_of : List Test → ℕ → ℕ → Test
test_of tests group k = slice_index_or tests (128 * group + k) []

-- The words are the words of a group under a fault, or under none: in each lane they solve the
-- circuit under the lane's test.
abbrev pub AreWords : List Statement → List Test → ℕ → Option Fault → List ℕ → Type 0
AreWords c tests group f words = (k : ℕ) → k < 128
    → Solves c (test_of tests group k) f (lane_bits c words k)

-- The fault-free word of one signal on a block, by its number: bit k is the bit that the solution
-- under test 64 b + k gives it.
abbrev pub IsFaultFreeWord : List Statement → List Test → ℕ → ℕ → ℕ → Type 0
IsFaultFreeWord c tests block s word = (k : ℕ) (n : Name) (v : Name → Bool) → k < 64
    → name_of c s ≡ Some n → Solves c (slice_index_or tests (64 * block + k) []) None v
    → lane word k ≡ v n

-- a circuit, and a word for each of its signals
pub record HasWords (c : List Statement) (words : List ℕ) : Type 0 where
  pub circuit : IsCircuit c
  pub count : length words ≡ length (names c)

-- The equation of one signal on words. In each lane a source has the bit of the lane's test. A
-- gate's signal has the bit that its kind gives for the bits of its pins in that lane. A fault on
-- its stem is an exception.
pub record IsSignalWord (c : List Statement) (tests : List Test) (group : ℕ) (f : Option Fault)
    (words : List ℕ) (s word : ℕ) : Type 0 where
  pub source : (i : ℕ) (n : Name) (k : ℕ) → k < 128 → name_of c s ≡ Some n
      → slice_get (sources c) i ≡ Some n
      → lane word k ≡ under f (line.Stem s) (bit tests (128 * group + k) i)
  pub gate : (n : Name) (kind : Kind) (args : List Name) (k : ℕ) → k < 128 → signal c n ≡ s
      → Contains c (Gate n kind args)
      → lane word k ≡ under f (line.Stem s) (value kind (pins_see f (lane_bits c words k) s args))

-- the word of a signal: its known word, complemented in the lanes in which the signal differs
abbrev pub word_over : List ℕ → List ℕ → ℕ → ℕ
word_over words delta s = bit_xor (slice_index_or words s 0) (slice_index_or delta s 0)

-- the word of a signal if one signal is complemented in some lanes, and no other differs
abbrev pub turned_word : List ℕ → ℕ → ℕ → ℕ → ℕ
turned_word words turned lanes s =
    if s == turned then bit_xor (slice_index_or words s 0) lanes else slice_index_or words s 0

-- the bits that the pins of a gate, given by the signals that they read, see in a lane
abbrev pub pin_bits : Option Fault → ℕ → List ℕ → List ℕ → List ℕ → ℕ → List Bool
pin_bits f gate pins words delta k =
    map (λ at. under f (line.Pin gate at.0) (lane (word_over words delta at.1) k))
    (enumerate_from 0 pins)

-- the outcome has the least lane of a block's word that is 1
abbrev pub IsLeastLane : ℕ → Outcome → Type 0
IsLeastLane word (Hit k) = (k < 64) × (lane word k ≡ true)
    × ((lower : ℕ) → lower < k → lane word lower ≡ false)
IsLeastLane word Clear = (k : ℕ) → k < 64 → lane word k ≡ false

-- the word of a group at a source: bit k is the bit of test 128 g + k, and 0 past the last test
abbrev pub IsGroupWord : List Test → ℕ → ℕ → ℕ → Type 0
IsGroupWord tests group source word = (k : ℕ) → k < 128
    → bit_at word k ≡ as_number (bit tests (128 * group + k) source)
