-- The effect of a complemented signal at the stem of its fanout-free region.
use Rattle.std.specs.Prelude.{◌≡◌, ◌≢◌, ◌↔◌, ◌==◌, ◌<◌, ◌≤◌, ◌+◌, ◌*◌, ℕ, Bool, true, false, not}
use Rattle.std.specs.Prelude.{List, length, map, bit_and}
use Rattle.std.specs.Prelude.{Contains, Option, Some, None, if◌then◌else◌, slice_get}
use Rattle.std.specs.Bool.{Decides}
use Rattle.bench_net.specs.declared.Kind.{Kind}
use Rattle.bench_net.specs.Statement.{Name, Statement, Gate}
use Rattle.bench_net.specs.Scan.{signal, name_of}
use Rattle.fault_model.specs.declared.Line.{Line}
use Rattle.fault_model.specs.declared.Line.TheVariants as line
use Rattle.fault_model.specs.declared.Model.{Model}
use Rattle.fault_model.specs.declared.Model.TheVariants.{StuckAt}
use Rattle.fault_model.specs.Fault.{Fault, faults}
use Rattle.fault_model.specs.Solution.{Test, Solves, Detects, value}
use Rattle.fault_model.specs.Detection.{HasBit, LooksBack}
use Rattle.block_sim.specs.First.{TellsFirst}
use Rattle.flat_circuit.specs.BlockSpans.{IsInSpan, group_of}
use Rattle.flat_circuit.specs.Words.{lane, test_of}
use Rattle.flat_circuit.specs.declared.block_span.BlockSpan.{BlockSpan}
use Rattle.flat_circuit.specs.Regions.{IsReadBy, RunsTo}

-- the stuck-at fault that complements a signal with this bit
abbrev pub flip : ℕ → Bool → Fault
flip s bit = record { model = StuckAt; line = line.Stem s; stuck = not bit }

-- The test detects the complemented signal: the signal stuck at the complement of its fault-free
-- bit.
abbrev pub DetectsFlip : List Statement → Test → ℕ → Type 0
DetectsFlip c t s = (bit : Bool) × HasBit c t (line.Stem s) bit × Detects c t (flip s bit)

-- the test of this number detects the complemented signal
abbrev pub DetectsFlipAt : List Statement → List Test → ℕ → ℕ → Type 0
DetectsFlipAt c tests s t = (test : Test) × (slice_get tests t ≡ Some test) × DetectsFlip c test s

-- the lanes of a word that are 1 are the lanes whose test of the block detects the complemented
-- signal
abbrev pub AreObserving : List Statement → List Test → ℕ → ℕ → ℕ → Type 0
AreObserving c tests s block word = (k : ℕ) → k < 64
    → Decides (lane word k) (DetectsFlipAt c tests s (64 * block + k))

-- the bits of a valuation, with one signal complemented
abbrev pub complemented_at : List Statement → ℕ → (Name → Bool) → Name → Bool
complemented_at c s v n = if signal c n == s then not (v n) else v n

-- The gate gives another bit if one signal is complemented and all others have their fault-free
-- bits.
pub record Passes (c : List Statement) (t : Test) (s g : ℕ) : Type 0 where
  pub bits : Name → Bool
  pub name : Name
  pub kind : Kind
  pub args : List Name
  pub solves : Solves c t None bits
  pub stands : Contains c (Gate name kind args)
  pub number : signal c name ≡ g
  pub differs : value kind (map (complemented_at c s bits) args) ≢ bits name

-- complementing a signal complements the next, and so on up to this one
pub data Arrives (c : List Statement) (t : Test) : ℕ → ℕ → Type 0 where
  there : {s : ℕ} → Arrives c t s s
  over : {s g r : ℕ} → IsReadBy c g s → Passes c t s g → Arrives c t g r → Arrives c t s r

-- with the fault the signal has another bit than without it
pub record Alters (c : List Statement) (t : Test) (f : Fault) (s : ℕ) : Type 0 where
  pub fault_free : Name → Bool
  pub faulty : Name → Bool
  pub name : Name
  pub solves : Solves c t None fault_free
  pub solves_faulty : Solves c t (Some f) faulty
  pub named : name_of c s ≡ Some name
  pub differs : fault_free name ≢ faulty name

-- the first signal that a fault on a line can alter; none for the line of an observer
abbrev pub start_of : Line → Option ℕ
start_of (line.Stem s) = Some s
start_of (line.Pin gate pin) = Some gate
start_of _ = None

-- one step, for a signal that only one gate reads: the complemented signal is detected exactly if
-- the gate passes the change on and the complemented gate is detected
abbrev pub StepLaw : List Statement → Type 0
StepLaw c = (t : Test) (s g : ℕ) → IsReadBy c g s
    → DetectsFlip c t s ↔ (Passes c t s g × DetectsFlip c t g)

-- all steps of a region
abbrev pub RegionLaw : List Statement → Type 0
RegionLaw c = (t : Test) (s r : ℕ) → RunsTo c s r
    → DetectsFlip c t s ↔ (Arrives c t s r × DetectsFlip c t r)

-- a fault on a stem or a gate's pin is detected exactly if it alters its first signal and that
-- signal, complemented, is detected
abbrev pub FaultLaw : List Statement → Type 0
FaultLaw c = (m : Model) (f : Fault) (t : Test) (s : ℕ) → Contains (faults m c) f
    → start_of f.line ≡ Some s → Detects c t f ↔ (Alters c t f s × DetectsFlip c t s)

-- a fault on a stem alters its signal if the signal has the other bit without the fault
abbrev pub StemLaw : List Statement → Type 0
StemLaw c = (m : Model) (f : Fault) (t : Test) (s : ℕ) → Contains (faults m c) f
    → f.line ≡ line.Stem s → Alters c t f s ↔ HasBit c t f.line (not f.stuck)

-- a fault on an observer's line is detected if the line has the other bit without the fault
abbrev pub ObserverLaw : List Statement → Type 0
ObserverLaw c = (m : Model) (f : Fault) (t : Test) → Contains (faults m c) f
    → start_of f.line ≡ None → Detects c t f ↔ HasBit c t f.line (not f.stuck)

-- In the lanes of a mask, each lane of the word that is 1 has a test that detects the complemented
-- signal. Take the least of these lanes: no lane of the mask below it has such a test.
pub record TellsFirstFlips (c : List Statement) (tests : List Test) (group mask s word : ℕ) :
    Type 0 where
  pub found : (k : ℕ) → k < 128 → lane mask k ≡ true → lane word k ≡ true
      → DetectsFlip c (test_of tests group k) s
  pub clear : (k : ℕ) → k < 128 → lane mask k ≡ true
      → ((j : ℕ) → j ≤ k → lane mask j ≡ true → lane word j ≡ false)
      → ¬ DetectsFlip c (test_of tests group k) s

-- In the lanes of a mask a fault has reached a signal: a test detects the fault exactly if the word
-- has a 1 and the test detects the complemented signal.
abbrev pub HasCome : List Statement → List Test → ℕ → Fault → ℕ → ℕ → ℕ → Type 0
HasCome c tests group f mask s word = (k : ℕ) → k < 128 → lane mask k ≡ true
    → Detects c (test_of tests group k) f
    ↔ ((lane word k ≡ true) × DetectsFlip c (test_of tests group k) s)

-- the lanes of the tests of a span whose test before meets the condition of the fault
abbrev pub AreLanesFor : List Test → BlockSpan → List Statement → Fault → ℕ → Type 0
AreLanesFor tests span c f lanes = (k : ℕ) → k < 128 → Decides (lane lanes k)
    (IsInSpan (length tests) span (128 * group_of span + k)
    × LooksBack c tests f.model f.line f.stuck (128 * group_of span + k))

-- On words: take the lanes in which a fault has reached a signal and in which a word has a 1 for
-- the complemented signal. The least of them has the first test of the span that detects the fault,
-- whatever the word has in other lanes.
abbrev pub LanesLaw : List Statement → Type 0
LanesLaw c = (tests : List Test) (span : BlockSpan) (f : Fault) (s lanes arrived seen : ℕ)
    → AreLanesFor tests span c f lanes → HasCome c tests (group_of span) f lanes s arrived
    → TellsFirstFlips c tests (group_of span) (bit_and lanes arrived) s seen
    → TellsFirst c tests span f (bit_and (bit_and lanes arrived) seen)
