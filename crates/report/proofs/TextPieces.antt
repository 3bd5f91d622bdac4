-- The pieces of a text make the text.
use Rattle.std.proofs.Common.{◌≡◌, ◌<◌, ◌*◌, ◌/◌, ◌%◌, ℕ, List, [], ◌++◌, append_assoc, arith, refl}
use Rattle.std.specs.Prelude.{codes, decimal, Bool, true, false, IfSome, Option, Some, slice_get}
use Rattle.std.proofs.lemmas.Fmt.{decimal_digit}
use Rattle.bench_net.specs.Statement.{Statement}
use Rattle.fault_model.specs.{declared.Line.Line, declared.Model.Model, Fault.{Fault, faults}}
use Rattle.report.specs.{declared.contents.Lines.Lines, Report.{has_line, wanted_line, class_line}}
use Rattle.report.specs.Report.{line_text, defect_text, fault_text, coverage_of, first_text}
use Rattle.report.specs.{declared.curve.CurvePoint.CurvePoint, Curve.point_line}
use Rattle.report.proofs.LinesOfFaults.{model_known}

-- a fault of the list by its line, its bit and the model of the list
fault_by_parts : (m : Model) (c : List Statement) (fs : List Fault) (i : ℕ) (f : Fault)
    (l : Line) (bit : Bool) → fs ≡ faults m c → slice_get fs i ≡ Some f
    → IfSome (slice_get fs i) (λ f. l ≡ f.line) → IfSome (slice_get fs i) (λ f. bit ≡ f.stuck)
    → line_text c l ++ defect_text m bit ≡ fault_text c f
fault_by_parts m c fs i f l bit list at line_is bit_is =
    let own_line : l ≡ f.line = rw at at line_is in
    let own_bit : bit ≡ f.stuck = rw at at bit_is in
    let own_model : f.model ≡ m = model_known m c fs i f list at in
    rw (own_line, own_bit, ← own_model) refl

-- a fault of the list from its pieces: its line and its defect
pub fault_pieces : (m : Model) (c : List Statement) (fs : List Fault) (i : ℕ) (f : Fault)
    (l : Line) (bit : Bool) (front defect whole : List ℕ)
    → fs ≡ faults m c → slice_get fs i ≡ Some f → IfSome (slice_get fs i) (λ f. l ≡ f.line)
    → IfSome (slice_get fs i) (λ f. bit ≡ f.stuck)
    → line_text c l ≡ front → defect ≡ defect_text m bit → whole ≡ front ++ defect
    → whole ≡ fault_text c f
fault_pieces m c fs i f l bit front defect whole list at line_is bit_is front_is defect_is is =
    let own = fault_by_parts m c fs i f l bit list at line_is bit_is in
    rw (is, ← own, front_is, defect_is) refl

-- the line of a fault with this first test, if it is requested, and if it isn't
pub is_first_line : (lines : Lines) (c : List Statement) (f : Fault) (first : Option ℕ)
    (said : List ℕ) → has_line lines first ≡ true → said ≡ first_text first
    → fault_text c f ++ (codes " " ++ said ++ codes "\n") ≡ wanted_line lines c (f, first)
is_first_line lines c f first said has is = rw (is, has) refl

pub has_no_line : (lines : Lines) (c : List Statement) (f : Fault) (first : Option ℕ)
    → has_line lines first ≡ false → wanted_line lines c (f, first) ≡ []
has_no_line lines c f first has = rw has refl

-- the line of a fault with its class
pub is_class_line : (c : List Statement) (f : Fault) (class : ℕ) (said : List ℕ)
    → said ≡ decimal class → fault_text c f ++ (codes " " ++ codes "class " ++ said ++ codes "\n")
    ≡ class_line c (f, class)
is_class_line c f class said is = rw is refl

-- a coverage line from its numbers, given as texts
pub coverage_text : (found total : ℕ) (counted a b whole tens ones : List ℕ) → a ≡ decimal found
    → b ≡ decimal total → whole ≡ decimal (10000 * found / total / 100)
    → tens ≡ decimal (10000 * found / total % 100 / 10)
    → ones ≡ decimal (10000 * found / total % 100 % 10) → a ++ (codes " of " ++ (b ++ (counted
    ++ (codes " (" ++ (whole ++ (codes "." ++ (tens ++ (ones ++ (codes "%)\n" ++ [])))))))))
    ≡ coverage_of counted found total
coverage_text found total counted a b whole tens ones e f g h i =
    let small : 10000 * found / total % 100 / 10 < 10 = omega arith in
    let last : 10000 * found / total % 100 % 10 < 10 = omega arith in
    rw (e, f, g, h, i, decimal_digit _ small, decimal_digit _ last) (simp append_assoc)

-- the line of a point from its numbers, given as texts
pub point_text : (total : ℕ) (point : CurvePoint) (a b whole tens ones : List ℕ)
    → a ≡ decimal point.test → b ≡ decimal point.detected
    → whole ≡ decimal (10000 * point.detected / total / 100)
    → tens ≡ decimal (10000 * point.detected / total % 100 / 10)
    → ones ≡ decimal (10000 * point.detected / total % 100 % 10) → a
    ++ (codes " " ++ (b ++ (codes " "
    ++ (whole ++ (codes "." ++ (tens ++ (ones ++ (codes "\n" ++ [])))))))) ≡ point_line total point
point_text total point a b whole tens ones e f g h i =
    let small : 10000 * point.detected / total % 100 / 10 < 10 = omega arith in
    let last : 10000 * point.detected / total % 100 % 10 < 10 = omega arith in
    rw (e, f, g, h, i, decimal_digit _ small, decimal_digit _ last) (simp append_assoc)

-- the last line of the listing from its numbers, given as texts
pub counts_text : (faults classes : ℕ) (a b : List ℕ) → a ≡ decimal faults → b ≡ decimal classes
    → a ++ (codes " faults in " ++ (b ++ (codes " classes\n" ++ []))) ≡ decimal faults
    ++ codes " faults in " ++ decimal classes ++ codes " classes\n"
counts_text faults classes a b e f = rw (e, f) (simp append_assoc)
