-- The lanes in which complementing a signal of a region complements its stem.
use Rattle.std.specs.Prelude.{◌≡◌, ◌↔◌, ℕ, ◌<◌, ◌≤◌, true, List, [], ◌∷◌, Some, None, length}
use Rattle.std.specs.Prelude.{◌+◌, ◌*◌, Option, slice_index_or, vec_capacity}
use Rattle.std.specs.Bool.{Decides}
use Rattle.bench_net.specs.Statement.{Statement}
use Rattle.bench_net.specs.Scan.{names}
use Rattle.fault_model.specs.Solution.{Test}
use Rattle.fault_model.specs.Reordered.{place}
use Rattle.block_sim.specs.declared.propagation_state.PropagationState.{PropagationState}
use Rattle.region_sim.specs.declared.sensitized.Sensitized.{Sensitized}
use Rattle.flat_circuit.specs.declared.block_span.BlockSpan.{BlockSpan}
use Rattle.flat_circuit.specs.declared.block_view.BlockView.{BlockView}
use Rattle.flat_circuit.specs.Arranged.{IsArranged}
use Rattle.block_sim.specs.PropagationState.{IsAtRest}
use Rattle.block_sim.specs.Parts.{Parts, BelongTogether}
use Rattle.flat_circuit.specs.Regions.{lone_reader}
use Rattle.block_sim.specs.Flips.{DetectsFlip}
use Rattle.flat_circuit.specs.BlockSpans.{IsInSpan, group_of}
use Rattle.flat_circuit.specs.Words.{lane, test_of, AreWords}

-- For each lane of a mask: the test detects the complemented signal exactly if the word has a 1 and
-- the test detects the complemented stem.
abbrev pub CarriesFlip : List Statement → List Test → ℕ → ℕ → ℕ → ℕ → ℕ → Type 0
CarriesFlip c tests group mask s stem word = (k : ℕ) → k < 128 → lane mask k ≡ true
    → DetectsFlip c (test_of tests group k) s
    ↔ ((lane word k ≡ true) × DetectsFlip c (test_of tests group k) stem)

-- each known word is the word of its signal, and the word of the stem is known
pub record AreKnownFlips (c : List Statement) (good : List ℕ) (mask stem : ℕ)
    (known : List (Option ℕ)) :
    Type 0 where
  pub room : length (names c) ≤ length known
  pub begun : (word : ℕ) × (slice_index_or known stem None ≡ Some word)
  pub each : (s word : ℕ) → slice_index_or known s None ≡ Some word
      → (tests : List Test) (group : ℕ)
      → AreWords c tests group None good → CarriesFlip c tests group mask s stem word

-- the words of a region are known in this sense, and there is room for each way to the stem
pub record AreSensitized (c : List Statement) (good : List ℕ) (region : Sensitized) :
    Type 0 where
  pub known : AreKnownFlips c good region.lanes region.stem region.known
  pub path : length (names c) ≤ vec_capacity region.path

-- there is room for the regions of a circuit of this many signals
pub record HasRoomForRegions (signals : ℕ) (region : Sensitized) : Type 0 where
  pub known : signals ≤ length region.known
  pub path : signals ≤ vec_capacity region.path

-- it is the same region, on the same lanes, with as much room
pub record IsSameRegion (before after : Sensitized) : Type 0 where
  pub stem : after.stem ≡ before.stem
  pub lanes : after.lanes ≡ before.lanes
  pub known : length after.known ≡ length before.known
  pub path : vec_capacity after.path ≡ vec_capacity before.path

-- the first signal of a path to a signal
abbrev pub on_from : List ℕ → ℕ → ℕ
on_from [] s = s
on_from (t ∷ path) s = t

-- the signals of a path to a signal: none of them is a stem, and each fans out to the next
abbrev pub IsPathTo : List Statement → List ℕ → ℕ → Type 0
IsPathTo c [] s = Unit {0}
IsPathTo c (t ∷ path) s = (lone_reader c t ≡ Some (on_from path s)) × IsPathTo c path s

-- the circuit in the form that a job's simulation reads, with the words of a span's group and the
-- lanes of the span's tests
pub record IsViewOf (job : Parts) (span : BlockSpan) (view : BlockView) : Type 0 where
  pub part : view.circuit.now.statements ≡ job.circuit
  pub arranged : IsArranged job.circuit view.circuit.now.arranged
  pub together : BelongTogether job
  pub count : length view.good.now ≡ length (names view.circuit.now.arranged)
  pub fault_free : AreWords view.circuit.now.arranged job.tests.tests (group_of span) None
      view.good.now
  pub lanes : (k : ℕ) → k < 128 → Decides (lane view.lanes k)
      (IsInSpan (length job.tests.tests) span (128 * group_of span + k))

-- the region of a stem of the job, on all lanes of a view
pub record HasBegun (job : Parts) (view : BlockView) (stem : ℕ) (region : Sensitized) :
    Type 0 where
  pub sensitized : AreSensitized view.circuit.now.arranged view.good.now region
  pub at : region.stem ≡ place job.circuit view.circuit.now.arranged stem
  pub lanes : region.lanes ≡ view.lanes

-- Between two calls no word differs and no gate waits, and there is room for the regions of the
-- same number of signals.
pub record IsReady (changes : PropagationState) (region : Sensitized) : Type 0 where
  pub rest : IsAtRest changes
  pub room : HasRoomForRegions (length changes.overlay) region
