-- A plain program for each definition that doesn't compute: representatives, classes, solutions and
-- detection.
use Rattle.std.proofs.Common.{◌≡◌, ℕ, zero, suc, Bool, true, false, not, ◌&&◌, List, [], ◌∷◌}
use Rattle.std.specs.Prelude.{Option, Some, None, option_map, length, slice_index_or, if◌then◌else◌}
use Rattle.std.specs.{Prelude.bytes_eq, Option.option_map_or, List.{list_any, position_or_len}}
use Rattle.bench_net.specs.Statement.{Name, Statement, Gate}
use Rattle.bench_net.specs.Scan.{signal, sources, definition, observers}
use Rattle.fault_model.specs.declared.Line.TheVariants as line
use Rattle.fault_model.specs.{declared.Model.Model, Fault.{Fault, same_line}, Detection.name_on}
use Rattle.fault_model.specs.declared.Model.TheVariants.{StuckAt, Transition, TransitionPairs}
use Rattle.fault_model.specs.Solution.{Test, value, under, pins_see, shows}
use Rattle.fault_model.specs.Collapse.{next, representatives}

-- the fault after at most this many next faults
abbrev pub rep_within : ℕ → List Statement → Fault → Fault
rep_within zero c f = f
rep_within (suc n) c f = option_map_or (rep_within n c) (next c f) f

-- the representative: no chain is longer than the circuit
abbrev pub rep : List Statement → Fault → Fault
rep c f = rep_within (length c) c f

abbrev same_fault : Fault → Fault → Bool
same_fault f g = same_line f.line g.line && (if f.stuck then g.stuck else not g.stuck)

abbrev pub class_of : List Statement → Fault → ℕ
class_of c f = position_or_len (same_fault (rep c f)) (representatives f.model c)

-- the bit that a name's definition gives it, if v gives the bits of its arguments
abbrev pub driven : List Statement → Test → Option Fault → (Name → Bool) → Name → Option Statement
    → Bool
driven c t f v n (Some (Gate g kind args)) = value kind (pins_see f v (signal c n) args)
driven c t f v n _ = slice_index_or t (position_or_len (bytes_eq n) (sources c)) false

-- the bit of a name, following at most this many gates back
abbrev pub bit_within : ℕ → List Statement → Test → Option Fault → Name → Bool
bit_within zero c t f n = false
bit_within (suc k) c t f n = under f (line.Stem (signal c n))
    (driven c t f (bit_within k c t f) n (definition c (signal c n)))

-- whether the test detects the fault
abbrev pub differs : Bool → Bool → Bool
differs a b = if a then not b else b

abbrev pub detects_within : ℕ → List Statement → Test → Fault → Bool
detects_within k c t f = list_any (λ o. differs (shows None (bit_within k c t None) o)
    (shows (Some f) (bit_within k c t (Some f)) o)) (observers c)

-- whether a test gives the line of the fault its bit
abbrev pub has_bit_within : ℕ → List Statement → Test → Fault → Bool
has_bit_within k c t f =
    option_map_or (λ n. not (differs (bit_within k c t None n) f.stuck)) (name_on c f.line) false

-- whether the test before fits, if there is one, for a test that is the second of its pair or not
abbrev fits_within : ℕ → List Statement → Fault → Model → Bool → Option Test → Bool
fits_within k c f StuckAt second before = true
fits_within k c f Transition second before =
    option_map_or (λ t. has_bit_within k c t f) before false
fits_within k c f TransitionPairs second before =
    second && option_map_or (λ t. has_bit_within k c t f) before false

-- the first test that detects the fault, if this test goes before the list, whose first is the
-- second of its pair or not
abbrev first_from : ℕ → List Statement → Fault → Bool → Option Test → List Test → Option ℕ
first_from k c f second before [] = None
first_from k c f second before (t ∷ tests) = if fits_within k c f f.model second before
    && detects_within k c t f then Some 0 else option_map suc
    (first_from k c f (not second) (Some t) tests)

abbrev pub first_within : ℕ → List Statement → List Test → Fault → Option ℕ
first_within k c tests f = first_from k c f false None tests
