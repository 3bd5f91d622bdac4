-- The blocks of a design, by the names of its faults, and how many faults of each are detected.
use Rattle.std.specs.Prelude.{◌≡◌, ◌≢◌, ◌↔◌, ◌⊎◌, ◌<◌, ◌-◌, ◌==◌, ◌&&◌, ℕ, Bool, true, false, List}
use Rattle.std.specs.Prelude.{[], ◌∷◌, ◌++◌, All, AllPairs, Contains, Option, count_by, length}
use Rattle.std.specs.Prelude.{map, slice_get, unwrap_or, zip}
use Rattle.std.specs.List.{position_or_len}
use Rattle.bench_net.specs.Statement.{Name, Statement}
use Rattle.bench_net.specs.Scan.{cells, name_of, outputs}
use Rattle.fault_model.specs.declared.Line.{Line}
use Rattle.fault_model.specs.declared.Line.TheVariants.{Stem, Pin, Data, Out}
use Rattle.fault_model.specs.Fault.{Fault}
use Rattle.block_coverage.specs.declared.rows.BlockRow.{BlockRow}
use Rattle.block_coverage.specs.declared.separator.Separator.{Separator}

-- the name of a line: that of the stem, of the gate that has the pin, of the flip-flop, or of the
-- observed signal
abbrev pub owner : List Statement → Line → Option Name
owner c (Stem s) = name_of c s
owner c (Pin gate pin) = name_of c gate
owner c (Data cell) = slice_get (map (λ qd. qd.0) (cells c)) cell
owner c (Out output) = slice_get (outputs c) output

-- the name of each fault of a list: that of its line
abbrev pub fault_name : List Statement → Fault → Name
fault_name c f = unwrap_or (owner c f.line) []

abbrev pub fault_names : List Statement → List Fault → List Name
fault_names c list = map (fault_name c) list

-- a block of a name is what stands before some place of the separator in it
abbrev pub IsBlockOf : ℕ → Name → Name → Type 0
IsBlockOf separator name block = (rest : List ℕ) × (name ≡ block ++ separator ∷ rest)

-- whether a fault with this name is in a block
abbrev pub is_in_block : ℕ → Name → Name → Bool
is_in_block separator [] [] = false
is_in_block separator [] (b ∷ name) = b == separator
is_in_block separator (x ∷ block) [] = false
is_in_block separator (x ∷ block) (b ∷ name) = x == b && is_in_block separator block name

-- it is if that is a block of its name
abbrev pub HoldsByName : ℕ → Type 0
HoldsByName separator = (name block : Name)
    → (is_in_block separator block name ≡ true) ↔ IsBlockOf separator name block

-- a fault of a block is in each block of that block's name
abbrev pub HoldsInner : ℕ → Type 0
HoldsInner separator = (name inner outer : Name) → IsBlockOf separator name inner
    → IsBlockOf separator inner outer → IsBlockOf separator name outer

-- a block with the number of its faults and of those that are detected
pub record BlockCells : Type 0 where
  pub name : Name
  pub detected : ℕ
  pub faults : ℕ

-- the numbers of a block, from the name of each fault and whether it is detected
abbrev pub block_cells : ℕ → List Name → List Bool → Name → BlockCells
block_cells separator names flags block = record {
  name = block;
  detected = count_by (λ at. is_in_block separator block at.0 && at.1) (zip names flags);
  faults = count_by (is_in_block separator block) names;
}

-- how many faults of a block no test detects
abbrev pub undetected : ℕ → List Name → List Bool → Name → ℕ
undetected separator names flags block =
    let row = block_cells separator names flags block in
    row.faults - row.detected

-- the number of a block's first fault
abbrev pub first_fault : ℕ → List Name → Name → ℕ
first_fault separator names block = position_or_len (is_in_block separator block) names

-- one block comes before another in the list of faults: its first fault does, or both have the same
-- first fault and its name is shorter
abbrev pub ComesBefore : ℕ → List Name → Name → Name → Type 0
ComesBefore separator names a b =
    (first_fault separator names a < first_fault separator names b)
    ⊎ ((first_fault separator names a ≡ first_fault separator names b)
    × (length a < length b))

-- one block stands above another: it has more undetected faults, or as many and it comes before
abbrev pub StandsAbove : ℕ → List Name → List Bool → Name → Name → Type 0
StandsAbove separator names flags a b =
    (undetected separator names flags b < undetected separator names flags a)
    ⊎ ((undetected separator names flags a ≡ undetected separator names flags b)
    × ComesBefore separator names a b)

-- these are all blocks of some names, each once
pub record AreBlocks (separator : ℕ) (names blocks : List Name) : Type 0 where
  pub some : All (λ block. (name : Name) × Contains names name × IsBlockOf separator name block)
      blocks
  pub all : (name block : Name) → Contains names name → IsBlockOf separator name block
      → Contains blocks block
  pub once : AllPairs (λ a b. a ≢ b) blocks

-- The rows of all blocks, from the name of each fault and whether it is detected. The blocks with
-- most undetected faults stand first, and equal ones as they come in the list of faults.
pub record AreBlockRows (separator : ℕ) (names : List Name) (flags : List Bool)
    (rows : List BlockCells) : Type 0 where
  pub blocks : List Name
  pub are : AreBlocks separator names blocks
  pub ordered : AllPairs (StandsAbove separator names flags) blocks
  pub rows_are : rows ≡ map (block_cells separator names flags) blocks

-- the byte of a separator from the form of the program, and a row
abbrev pub byte_of : Separator → ℕ
byte_of separator = separator.byte

abbrev pub cells_in : BlockRow → BlockCells
cells_in row = record { name = row.name.now; detected = row.detected; faults = row.faults }
