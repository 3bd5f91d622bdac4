-- Fanout-free regions: signals that only one gate reads, and the stem of each signal's region.
use Rattle.std.specs.Prelude.{◌≡◌, ◌<◌, ℕ}
use Rattle.std.specs.Prelude.{List, length, slice_get, option_map}
use Rattle.std.specs.Prelude.{slice_index_or, Option, Some, None}
use Rattle.bench_net.specs.Statement.{Statement}
use Rattle.bench_net.specs.Scan.{names, signal}
use Rattle.fault_model.specs.declared.Line.{Line}
use Rattle.fault_model.specs.declared.Line.TheVariants as line
use Rattle.fault_model.specs.declared.Model.{Model}
use Rattle.fault_model.specs.Fault.{Fault}
use Rattle.fault_model.specs.Collapse.{readers, representatives}
use Rattle.fault_model.specs.Known.{only_gate}
use Rattle.fault_model.specs.Detection.{name_on}
use Rattle.flat_circuit.specs.Readers.{Reads, IsObserved}

-- only one gate reads the signal, by one or more pins, and no observer observes it
pub record IsReadBy (c : List Statement) (g s : ℕ) : Type 0 where
  pub reads : Reads c g s
  pub alone : (h : ℕ) → Reads c h s → h ≡ g
  pub unobserved : ¬ IsObserved c s

-- the gate of the pin that is the whole fanout of a signal, if the fanout is one pin of one gate
abbrev pub lone_reader : List Statement → ℕ → Option ℕ
lone_reader c s = only_gate (readers c (line.Stem s))

-- only such a gate reads the signal
abbrev pub PinLaw : List Statement → Type 0
PinLaw c = (s g : ℕ) → lone_reader c s ≡ Some g → IsReadBy c g s

-- A signal is a stem if its fanout is not one pin of one gate. So no pin or several pins read it,
-- be they of one gate; or it is observed, at an output or a cell's data pin.
abbrev pub IsStem : List Statement → ℕ → Type 0
IsStem c s = lone_reader c s ≡ None

-- from one signal to another by steps of a relation
pub data Chain (step : ℕ → ℕ → Type 0) : ℕ → ℕ → Type 0 where
  here : {s : ℕ} → Chain step s s
  onward : {s g r : ℕ} → step s g → Chain step g r → Chain step s r

-- a signal runs to another: through gates each of which is the only reader of the signal before it
abbrev pub RunsTo : List Statement → ℕ → ℕ → Type 0
RunsTo c s r = Chain (λ t g. IsReadBy c g t) s r

-- a signal leads to another: through signals that are no stems, each to the gate of its fanout
abbrev pub LeadsTo : List Statement → ℕ → ℕ → Type 0
LeadsTo c s r = Chain (λ t g. lone_reader c t ≡ Some g) s r

-- the stem of a signal's fanout-free region: the first stem to which the signal leads
abbrev pub IsStemOf : List Statement → ℕ → ℕ → Type 0
IsStemOf c r s = LeadsTo c s r × IsStem c r

-- each signal's region has exactly one stem
abbrev pub OneStemLaw : List Statement → Type 0
OneStemLaw c = (s r q : ℕ) → IsStemOf c r s → IsStemOf c q s → r ≡ q

abbrev pub SomeStemLaw : List Statement → Type 0
SomeStemLaw c = (s : ℕ) → s < length (names c)
    → (r : ℕ) × (r < length (names c)) × IsStemOf c r s

-- a signal that leads to another runs to it
abbrev pub LeadLaw : List Statement → Type 0
LeadLaw c = (s r : ℕ) → LeadsTo c s r → RunsTo c s r

-- the signal at which a line's way to its stem begins: the gate's signal for a pin, and for any
-- other line the signal that it carries
abbrev pub way_from : List Statement → Line → Option ℕ
way_from c (line.Stem s) = Some s
way_from c (line.Pin gate pin) = Some gate
way_from c (line.Data cell) = option_map (signal c) (name_on c (line.Data cell))
way_from c (line.Out output) = option_map (signal c) (name_on c (line.Out output))

-- the stem of a line's region
abbrev pub IsStemOfLine : List Statement → ℕ → Line → Type 0
IsStemOfLine c r l = (s : ℕ) × (way_from c l ≡ Some s) × IsStemOf c r s

-- the stem of a class: the stem of its representative's line
abbrev pub IsStemOfClass : Model → List Statement → ℕ → ℕ → Type 0
IsStemOfClass m c class r =
    (f : Fault) × (slice_get (representatives m c) class ≡ Some f) × IsStemOfLine c r f.line

-- each class has exactly one stem
abbrev pub OneClassStemLaw : Model → List Statement → Type 0
OneClassStemLaw m c = (class r q : ℕ) → IsStemOfClass m c class r → IsStemOfClass m c class q
    → r ≡ q

abbrev pub SomeClassStemLaw : Model → List Statement → Type 0
SomeClassStemLaw m c = (class : ℕ) → class < length (representatives m c)
    → (r : ℕ) × (r < length (names c)) × IsStemOfClass m c class r

-- the table has at a signal's number the stem of the signal
abbrev pub HasStem : List Statement → List ℕ → ℕ → Type 0
HasStem c stems s = (slice_index_or stems s 0 < length (names c))
    × IsStemOf c (slice_index_or stems s 0) s

-- the table has the stems of the first classes, each the number of a signal
abbrev pub HaveStems : Model → List Statement → List ℕ → Type 0
HaveStems m c stems = (class r : ℕ) → slice_get stems class ≡ Some r
    → (r < length (names c)) × IsStemOfClass m c class r
