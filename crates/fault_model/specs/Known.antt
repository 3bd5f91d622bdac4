-- The results of the parts of collapsing.
use Rattle.std.specs.Prelude.{◌≡◌, ℕ, ◌<◌, Bool, List, [], ◌∷◌, length, Option, Some, None}
use Rattle.std.specs.Prelude.{option_and_then, option_map, slice_get, slice_index_or}
use Rattle.bench_net.specs.declared.Kind.{Kind}
use Rattle.bench_net.specs.declared.Sink.{Sink}
use Rattle.bench_net.specs.declared.Sink.TheVariants as sink
use Rattle.bench_net.specs.Statement.{Statement}
use Rattle.bench_net.specs.Scan.{names}
use Rattle.fault_model.specs.declared.Line.{Line}
use Rattle.fault_model.specs.declared.Line.TheVariants as line
use Rattle.fault_model.specs.declared.Model.{Model}
use Rattle.fault_model.specs.Fault.{Fault, faults}
use Rattle.fault_model.specs.Collapse.{kind_of, next, IsClassOf}

-- the gate whose pin is the only one of these sinks
abbrev pub only_gate : List Sink → Option ℕ
only_gate (sink.Pin gate pin ∷ []) = Some gate
only_gate _ = None

-- a stem is a signal's
abbrev pub IsInCircuit : List Statement → Line → Type 0
IsInCircuit c (line.Stem s) = s < length (names c)
IsInCircuit c _ = Unit {0}

-- a table of classes has the class of the fault at this place
abbrev pub HasClassAt : Model → List Statement → List ℕ → ℕ → Type 0
HasClassAt m c class_of i = (f : Fault) → slice_get (faults m c) i ≡ Some f → (k : ℕ)
    × (slice_get class_of i ≡ Some k) × IsClassOf m c f k

-- it has the class of each fault without a next
abbrev pub HasEnds : Model → List Statement → List ℕ → Type 0
HasEnds m c class_of = (i : ℕ) (f : Fault) → slice_get (faults m c) i ≡ Some f → next c f ≡ None
    → HasClassAt m c class_of i

-- it has the class of the next fault of the fault at this place
abbrev pub HasNext : Model → List Statement → List ℕ → ℕ → Type 0
HasNext m c class_of i = (j : ℕ) (f g : Fault) → slice_get (faults m c) i ≡ Some f
    → next c f ≡ Some g → slice_get (faults m c) j ≡ Some g → HasClassAt m c class_of j

-- it has the class of each fault on a stem
abbrev pub HasStems : Model → List Statement → List ℕ → Type 0
HasStems m c class_of = (i s : ℕ) (b : Bool) → slice_get (faults m c) i ≡ Some
    (record { model = m; line = line.Stem s; stuck = b }) → HasClassAt m c class_of i

-- a table has the kind of the gate that drives each of the first n signals
pub record HaveKinds (c : List Statement) (n : ℕ) (kinds : List (Option Kind)) : Type 0 where
  pub count : length kinds ≡ n
  pub each : (i : ℕ) → i < n → slice_index_or kinds i None ≡ kind_of c i

-- a table has the number of the next fault of each of the first n faults
pub record HaveNexts (m : Model) (c : List Statement) (n : ℕ) (nexts : List (Option ℕ)) : Type 0
  where
    pub count : length nexts ≡ n
    pub each : (i : ℕ) → i < n → option_map (slice_get (faults m c)) (slice_index_or nexts i None)
        ≡ option_map Some (option_and_then (next c) (slice_get (faults m c) i))

-- the second table has all classes that the first has
abbrev pub KeepsClasses : Model → List Statement → List ℕ → List ℕ → Type 0
KeepsClasses m c before after = (i : ℕ) → HasClassAt m c before i → HasClassAt m c after i
