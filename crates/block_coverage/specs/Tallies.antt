-- The blocks of the first names of a list.
use Rattle.std.specs.Prelude.{◌≡◌, ◌-◌, ℕ, Bool, List, AllPairs, Some, map, slice_get}
use Rattle.std.specs.Borrow.{Bor}
use Rattle.bench_net.specs.Statement.{Name}
use Rattle.counting_sort.specs.SortedPlaces.{AreSortedPlaces}
use Rattle.block_coverage.specs.declared.rows.BlockRow.{BlockRow}
use Rattle.block_coverage.specs.declared.tally.Tally.{Tally}
use Rattle.block_coverage.specs.Blocks.{AreBlocks, BlockCells, ComesBefore, block_cells, cells_in}

-- the names that references point to
abbrev pub names_at : List (Bor Name) → List Name
names_at keys = map (λ key. key.now) keys

-- all blocks of some names, in the order in which they come
pub record AreListed (separator : ℕ) (names blocks : List Name) : Type 0 where
  pub are : AreBlocks separator names blocks
  pub ordered : AllPairs (ComesBefore separator names) blocks

-- the same in a tally, with the row of each, for the name of each fault and whether it is detected
pub record IsTally (separator : ℕ) (names : List Name) (flags : List Bool) (tally : Tally) : Type 0
  where
    pub listed : AreListed separator names (names_at tally.names.keys)
    pub rows : map cells_in tally.rows.items
        ≡ map (block_cells separator names flags) (names_at tally.names.keys)

-- the rows are those of all blocks, in the order in which they come
pub record AreListedRows (separator : ℕ) (names : List Name) (flags : List Bool)
    (rows : List BlockCells) : Type 0 where
  pub blocks : List Name
  pub listed : AreListed separator names blocks
  pub rows_are : rows ≡ map (block_cells separator names flags) blocks

-- a number that is the less, the more undetected faults a row has, of this many faults
abbrev pub key_of : ℕ → BlockRow → ℕ
key_of faults row = faults - (row.faults - row.detected)

-- the sorted rows are these, in the order of their keys
abbrev pub AreSortedRows : ℕ → List BlockRow → List BlockRow → Type 0
AreSortedRows faults rows sorted = (places : List ℕ)
    × AreSortedPlaces (map (key_of faults) rows) places
    × (map Some sorted ≡ map (slice_get rows) places)
