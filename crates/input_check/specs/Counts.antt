-- The sizes of a circuit and its tests.
use Rattle.std.specs.Prelude.{◌≡◌, ◌<◌, ◌≤◌, ◌*◌, ◌/◌, ◌==◌, ℕ, max, min, Bool, false}
use Rattle.std.specs.Prelude.{⊤, List, [], filter, length, slice_index, Option, Some, None}
use Rattle.std.specs.List.{flat_map}
use Rattle.bench_net.specs.declared.Kind.{Kind}
use Rattle.bench_net.specs.declared.Kind.TheVariants.{And, Nand, Or, Nor, Xor, Xnor, Not, Buff}
use Rattle.bench_net.specs.Circuit.{sink_count}
use Rattle.bench_net.specs.Level.{HasDepth}
use Rattle.bench_net.specs.Scan.{cells, inputs, names, outputs}
use Rattle.bench_net.specs.Statement.{Name, Statement, Gate}
use Rattle.fault_model.specs.declared.Model.{Model}
use Rattle.fault_model.specs.Collapse.{Collapsed, AreClassesOf}
use Rattle.fault_model.specs.Fault.{faults}
use Rattle.patterns.specs.Tests.{TestList, blocks, max_pieces, max_tests}
use Rattle.block_sim.specs.Parts.{Parts, piece_count}
use Rattle.input_check.specs.declared.sizes.Sizes.{Sizes}
use Rattle.input_check.specs.declared.summary.Counts.{Counts}
use Rattle.input_check.specs.declared.summary.Excess.{Excess}
use Rattle.input_check.specs.declared.summary.TestCounts.{TestCounts}

-- the place of a kind in a list of the numbers of gates
abbrev pub kind_place : Kind → ℕ
kind_place And = 0
kind_place Nand = 1
kind_place Or = 2
kind_place Nor = 3
kind_place Xor = 4
kind_place Xnor = 5
kind_place Not = 6
kind_place Buff = 7

-- a gate line of this kind
abbrev pub is_gate_of : Kind → Statement → Bool
is_gate_of kind (Gate n other args) = kind_place kind == kind_place other
is_gate_of kind _ = false

-- the number of gates of a kind
abbrev pub gate_count : List Statement → Kind → ℕ
gate_count c kind = length (filter (is_gate_of kind) c)

-- the list has the number of gates of each kind
abbrev pub AreGateCountsOf : List Statement → List ℕ → Type 0
AreGateCountsOf c counts = (kind : Kind) → slice_index counts (kind_place kind) ≡ gate_count c kind

-- the arguments of a gate line, and their number in all
abbrev pub gate_args : Statement → List Name
gate_args (Gate n kind args) = args
gate_args _ = []

abbrev pub pin_count : List Statement → ℕ
pin_count c = length (flat_map gate_args c)

-- the numbers of inputs, outputs, flip-flops, gates of each kind, pins, sinks, signals, faults and
-- classes, and the depth, are the circuit's under the named model
pub record AreCountsOf (m : Model) (c : List Statement) (counts : Counts) : Type 0 where
  pub model : counts.model ≡ m
  pub inputs : counts.inputs ≡ length (inputs c)
  pub outputs : counts.outputs ≡ length (outputs c)
  pub cells : counts.cells ≡ length (cells c)
  pub gates : AreGateCountsOf c counts.gates
  pub pins : counts.pins ≡ pin_count c
  pub sinks : counts.sinks ≡ sink_count c
  pub signals : counts.signals ≡ length (names c)
  pub depth : HasDepth c counts.depth
  pub faults : counts.faults ≡ length (faults m c)
  pub classes : (classes : Collapsed) × AreClassesOf m c classes
      × (counts.classes ≡ length classes.representative)

-- the list has these numbers of tests and of blocks, and each class makes a piece with each
-- block
pub record AreTestCountsOf (classes : ℕ) (list : TestList) (taken : TestCounts) : Type 0 where
  pub tests : taken.tests ≡ length list.tests
  pub blocks : taken.blocks ≡ blocks (length list.tests)
  pub pieces : taken.pieces ≡ classes * taken.blocks

-- the most tests of one run: 64 for each block of which all pieces are within the limit, and at
-- most as many as a test file may have
abbrev pub tests_a_run : ℕ → ℕ
tests_a_run classes = min (64 * (max_pieces / max classes 1)) max_tests

-- the size of a run of the tests, if there are any
abbrev pub IsRunOf : ℕ → Option TestList → Option TestCounts → Type 0
IsRunOf classes None None = ⊤
IsRunOf classes (Some list) (Some taken) = AreTestCountsOf classes list taken
IsRunOf classes _ _ = ⊥

-- the sizes are those of the circuit under the model, and of tests for it, if there are any
pub record AreSizesOf (m : Model) (c : List Statement) (list : Option TestList) (sizes : Sizes)
    : Type 0 where
  pub counts : AreCountsOf m c sizes.counts
  pub most : sizes.tests_a_run ≡ tests_a_run sizes.counts.classes
  pub tests : IsRunOf sizes.counts.classes list sizes.tests

-- The pieces of a job are past the limit, and this many.
pub record IsExcessOf (job : Parts) (excess : Excess) : Type 0 where
  pub past : max_pieces < piece_count job
  pub classes : excess.classes ≡ length job.classes.representative
  pub blocks : excess.blocks ≡ blocks (length job.tests.tests)
  pub pieces : excess.pieces ≡ piece_count job
