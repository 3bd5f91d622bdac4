-- Inputs that have the same bit in each test.
use Rattle.std.specs.Prelude.{◌≡◌, ◌≢◌, ℕ, ◌<◌, Bool, List, length, Option, Some, slice_get}
use Rattle.std.specs.Prelude.{slice_set}
use Rattle.bench_net.specs.Scan.{inputs, names, sources}
use Rattle.bench_net.specs.Statement.{Name, Statement}
use Rattle.generator.specs.declared.held.Held.{Held}
use Rattle.generator.specs.declared.held.HeldFault.{HeldFault}
use Rattle.generator.specs.declared.held.HeldReason.{HeldReason}
use Rattle.generator.specs.declared.held.HeldReason.TheVariants.{Undefined, Gate, FlipFlop, Twice}

-- the column of a name: the first place at which it stands among the sources
pub record IsColumn (c : List Statement) (name : Name) (place : ℕ) : Type 0 where
  pub here : slice_get (sources c) place ≡ Some name
  pub first : (k : ℕ) → k < place → slice_get (sources c) k ≢ Some name

-- the column of an input
abbrev pub IsInputColumn : List Statement → Name → ℕ → Type 0
IsInputColumn c name place = IsColumn c name place × (place < length (inputs c))

-- The bit of each column, if it has one: the columns of the held inputs have theirs, and the others
-- have none.
pub record AreHeldBits (c : List Statement) (held : List Held) (bits : List (Option Bool)) : Type 0
  where
    pub count : length bits ≡ length (sources c)
    pub inputs : (k : ℕ) (h : Held) → slice_get held k ≡ Some h
        → (place : ℕ) × IsInputColumn c h.name.now place
    pub each : (k place : ℕ) (h : Held) → slice_get held k ≡ Some h → IsColumn c h.name.now place
        → slice_get bits place ≡ Some (Some h.bit)
    pub only : (place : ℕ) (b : Bool) → slice_get bits place ≡ Some (Some b)
        → (k : ℕ) × (h : Held) × (slice_get held k ≡ Some h) × IsColumn c h.name.now place

-- a test is allowed if each column that has a bit has it in the test
abbrev pub IsAllowed : List (Option Bool) → List Bool → Type 0
IsAllowed bits test = (place : ℕ) (b : Bool) → slice_get bits place ≡ Some (Some b)
    → slice_get test place ≡ Some b

abbrev pub AreAllowed : List (Option Bool) → List (List Bool) → Type 0
AreAllowed bits tests = (k : ℕ) (test : List Bool) → slice_get tests k ≡ Some test
    → IsAllowed bits test

-- each held input is an input of the circuit, and has its bit in each test, at its column
abbrev pub AreHolding : List Statement → List Held → List (List Bool) → Type 0
AreHolding c held tests = (k : ℕ) (h : Held) → slice_get held k ≡ Some h
    → (place : ℕ) × IsInputColumn c h.name.now place
    × ((t : ℕ) (test : List Bool) → slice_get tests t ≡ Some test
    → slice_get test place ≡ Some h.bit)

-- the name stands in a list
abbrev pub Stands : Name → List Name → Type 0
Stands name ns = (k : ℕ) × (slice_get ns k ≡ Some name)

-- the reason why a name is none of an input
abbrev pub IsNoInput : List Statement → Name → HeldReason → Type 0
IsNoInput c name Undefined = ¬ Stands name (names c)
IsNoInput c name Gate = Stands name (names c) × ¬ Stands name (sources c)
IsNoInput c name FlipFlop = Stands name (sources c) × ¬ Stands name (inputs c)
IsNoInput c name Twice = ⊥

-- the error of the name at this place of the list: it is none of an input, or an earlier one
abbrev pub IsWrong : List Statement → List Held → ℕ → Name → HeldReason → Type 0
IsWrong c held place name Undefined = IsNoInput c name Undefined
IsWrong c held place name Gate = IsNoInput c name Gate
IsWrong c held place name FlipFlop = IsNoInput c name FlipFlop
IsWrong c held place name Twice = Stands name (inputs c)
    × (k : ℕ) × (h : Held) × (k < place) × (slice_get held k ≡ Some h) × (h.name.now ≡ name)

-- the error of the first held input that has one
abbrev pub IsHeldFault : List Statement → List Held → HeldFault → Type 0
IsHeldFault c held fault = (h : Held) × (slice_get held fault.place ≡ Some h)
    × IsWrong c held fault.place h.name.now fault.reason
    × ((k : ℕ) (g : Held) (reason : HeldReason) → k < fault.place → slice_get held k ≡ Some g
    → ¬ IsWrong c held k g.name.now reason)

-- ---- one held input

-- the bit is set at the column of an input, which had none
abbrev pub IsHeldAt : List Statement → Held → List (Option Bool) → List (Option Bool) → Type 0
IsHeldAt c h old new = (place : ℕ) × IsInputColumn c h.name.now place
    × ((b : Bool) → ¬ (slice_get old place ≡ Some (Some b)))
    × (place < length old) × (new ≡ slice_set old place (Some h.bit))

-- the reason why it isn't: the name is none of an input, or its column has a bit
abbrev pub IsUnfit : List Statement → Name → List (Option Bool) → HeldReason → Type 0
IsUnfit c name old Undefined = IsNoInput c name Undefined
IsUnfit c name old Gate = IsNoInput c name Gate
IsUnfit c name old FlipFlop = IsNoInput c name FlipFlop
IsUnfit c name old Twice = (place : ℕ) × (b : Bool) × IsInputColumn c name place
    × (slice_get old place ≡ Some (Some b))
