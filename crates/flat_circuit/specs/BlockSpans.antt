-- Blocks that are simulated at once: one block, or the two blocks of a group.
use Rattle.std.specs.Prelude.{◌≡◌, ℕ, ◌+◌, ◌-◌, ◌*◌, ◌/◌, ◌<◌, ◌≤◌, List, length, min, nat_lt}
use Rattle.std.specs.Prelude.{◌%◌, ◌⊎◌, ◌==◌, ◌&&◌, Bool, true, if◌then◌else◌}
use Rattle.fault_model.specs.Solution.{Test}
use Rattle.patterns.specs.Tests.{blocks}
use Rattle.flat_circuit.specs.declared.block_span.BlockSpan.{BlockSpan}
use Rattle.flat_circuit.specs.Words.{lane}

-- the number of groups: group g has the blocks 2 g and 2 g + 1; the last group may have only one
abbrev pub groups : ℕ → ℕ
groups tests = (tests + 127) / 128

-- the group of a span
abbrev pub group_of : BlockSpan → ℕ
group_of span = span.first / 2

-- the span has blocks of one group, of a list of this many tests
pub record IsSpan (tests : ℕ) (span : BlockSpan) : Type 0 where
  pub ordered : span.first ≤ span.last
  pub one_group : span.last / 2 ≡ span.first / 2
  pub within : span.last < blocks tests

-- of this many tests, this one is in a block of the span
pub record IsInSpan (tests : ℕ) (span : BlockSpan) (test : ℕ) : Type 0 where
  pub from : 64 * span.first ≤ test
  pub to : test < 64 * span.last + 64
  pub listed : test < tests

-- each of the lanes has a test of the span
abbrev pub AreInSpan : List Test → BlockSpan → ℕ → Type 0
AreInSpan tests span lanes = (k : ℕ) → k < 128 → lane lanes k ≡ true
    → IsInSpan (length tests) span (128 * group_of span + k)

-- a single block
abbrev pub one_block : ℕ → BlockSpan
one_block block = record { first = block; last = block }

-- the blocks that are simulated together with a block at most: from the third block on the block
-- and the next one of its group of two, before that only the block
abbrev pub span_from : ℕ → BlockSpan
span_from block = record {
  first = block;
  last = if nat_lt block 2 then block else block / 2 * 2 + 1;
}

-- the block is one of the span's
abbrev pub HasBlock : BlockSpan → ℕ → Type 0
HasBlock span block = (span.first ≤ block) × (block ≤ span.last)

-- If there are this many tests, the other block is the block, or comes after it in its group of
-- two. The first group's blocks are taken one by one.
pub record IsPaired (tests block other : ℕ) : Type 0 where
  pub ordered : block ≤ other
  pub one_group : other / 2 ≡ block / 2
  pub within : other < blocks tests
  pub alone : block < 2 → other ≡ block

-- If there are this many tests, the eight blocks from the block on are a unit: all of its 512 tests
-- are there.
pub record IsUnit (tests block : ℕ) : Type 0 where
  pub whole : block % 8 ≡ 0
  pub full : 64 * block + 512 ≤ tests

-- If there are this many tests, the other block is simulated together with the block: it is one of
-- the eight blocks of the unit that begins with the block, which isn't the first unit, or it is the
-- block, or comes after it in its group of two. The first group's blocks are simulated one by one.
abbrev pub IsTogether : ℕ → ℕ → ℕ → Type 0
IsTogether tests block other =
    ((8 ≤ block) × IsUnit tests block × (block ≤ other) × (other < block + 8))
    ⊎ IsPaired tests block other

-- the blocks that are simulated together with a block, if there are this many tests: the blocks of
-- span_from that have a test
abbrev pub span_of : ℕ → ℕ → BlockSpan
span_of tests block = record {
  first = block;
  last = min (span_from block).last (blocks tests - 1);
}

-- whether the eight blocks from the block on are a unit
abbrev pub begins_unit : ℕ → ℕ → Bool
begins_unit tests block = (block % 8 == 0) && nat_lt 511 (tests - 64 * block)

-- the blocks that are simulated at once from a block on, if there are this many tests: those of the
-- unit that begins with it, unless that is the first, or those of span_of
abbrev pub unit_of : ℕ → ℕ → BlockSpan
unit_of tests block =
    if nat_lt 7 block && begins_unit tests block
    then (record { first = block; last = block + 7 }) else span_of tests block
