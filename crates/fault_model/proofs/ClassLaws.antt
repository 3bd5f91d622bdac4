-- The laws on classes: two faults of one class show the same, and are detected by the same tests.
use Rattle.std.proofs.Common.{◌≡◌, ℕ, sym, ◌∙◌, ap, subst, Bool, true, false, List, refl}
use Rattle.std.specs.Prelude.{Contains, Option, Some, None, unwrap_or, is_none, slice_get}
use Rattle.bench_net.specs.{declared.Sink.Sink, Statement.{Name, Statement}, Scan.observers}
use Rattle.bench_net.specs.Circuit.{IsWellFormed, HaveArities}
use Rattle.list_lemmas.proofs.{Members.{contained, filtered_from}, Places.at_place}
use Rattle.fault_model.specs.{declared.Model.Model, Fault.{Fault, faults, branch}}
use Rattle.fault_model.specs.Solution.{Test, Solves, Detects, under, shows, ShowSame}
use Rattle.fault_model.specs.Collapse.{next, Reaches, here, onward, representatives, IsClassOf}
use Rattle.fault_model.{specs.Collapse.ClassesShowSame, proofs.OneSolution.agree}
use Rattle.fault_model.specs.Laws.{HasSolutions, HasOneSolution, ClassesDetectSame}
use Rattle.fault_model.specs.Laws.{RepresentativesDetectSame, DetectionIsOfAnySolution}
use Rattle.fault_model.proofs.{SomeSolution.{solution, solution_solves}, ListedFaults.next_listed}
use Rattle.fault_model.proofs.ShownAlike.{observes, step_shows_same}

pub has_solutions : (c : List Statement) → IsWellFormed c → HasSolutions c
has_solutions c well t f = (solution c t f well, solution_solves c t f well)

pub has_one_solution : (c : List Statement) → IsWellFormed c → HasOneSolution c
has_one_solution c well t f v w n p q at = agree c t f v w well p q n at

-- two solutions under one fault show the same
one_shows : (c : List Statement) (t : Test) (f : Option Fault) (v w : Name → Bool) (o : Sink × Name)
    → IsWellFormed c → Solves c t f v → Solves c t f w
    → Contains (observers c) o → shows f v o ≡ shows f w o
one_shows c t f v w o well p q at =
    ap (under f (branch o.0)) (agree c t f v w well p q o.1 (observes c o well at).named)

same_itself : (c : List Statement) (f : Fault) → IsWellFormed c → ShowSame c f f
same_itself c f well t v w o p q at = one_shows c t (Some f) v w o well p q at

same_turned : (c : List Statement) (f g : Fault) → ShowSame c f g → ShowSame c g f
same_turned c f g same t v w o p q at = sym (same t w v o q p at)

same_through : (c : List Statement) (f g h : Fault) → IsWellFormed c → ShowSame c f g
    → ShowSame c g h → ShowSame c f h
same_through c f g h well first then t v w o p q at =
    let u = has_solutions c well t (Some g) in
    first t v u.0 o p u.1 at ∙ then t u.0 w o u.1 q at

-- a fault shows the same as each fault that is reached from it
along : (m : Model) {c : List Statement} {f r : Fault} → IsWellFormed c → HaveArities c
    → Contains (faults m c) f → Reaches c f r → ShowSame c f r
along m {c} {f} well arities at here = same_itself c f well
along m {c} {f} {r} well arities at (onward {g = g} e p) =
    same_through c f g r well (step_shows_same m c f g well arities at e)
    (along m well arities (next_listed m c f g well at e) p)

pub classes_show_same : (c : List Statement) → IsWellFormed c → HaveArities c → ClassesShowSame c
classes_show_same c well arities f g both =
    let p : IsClassOf both.0 c f both.1 = both.2 in
    let q : IsClassOf both.0 c g both.1 = both.3 in
    let same : Some p.0 ≡ Some q.0 = sym p.3 ∙ q.3 in
    let one : p.0 ≡ q.0 = ap (λ o. unwrap_or o q.0) same in
    let from : ShowSame c f q.0 = subst (ShowSame c f) one (along both.0 well arities p.1 p.2.0) in
    same_through c f q.0 g well from (same_turned c g q.0 (along both.0 well arities q.1 q.2.0))

-- faults that show the same are detected by the same tests
detects_too : (c : List Statement) (f g : Fault) (t : Test) → IsWellFormed c → ShowSame c f g
    → Detects c t f → Detects c t g
detects_too c f g t well same d =
    let u = has_solutions c well t (Some g) in
    (d.0, u.0, d.2, d.3, u.1, d.5, λ e. d.6 (e ∙ sym (same t d.1 u.0 d.2 d.4 u.1 d.5)))

pub classes_detect_same : (c : List Statement) → IsWellFormed c → HaveArities c
    → ClassesDetectSame c
classes_detect_same c well arities f g t both =
    let same : ShowSame c f g = classes_show_same c well arities f g both in
    (detects_too c f g t well same, detects_too c g f t well (same_turned c f g same))

pub detection_is_of_any_solution : (c : List Statement) → IsWellFormed c
    → DetectionIsOfAnySolution c
detection_is_of_any_solution c well f t v w p q = (
  λ d. (
    d.2,
    d.5,
    λ e. d.6 (one_shows c t None d.0 v d.2 well d.3 p d.5
        ∙ (e ∙ one_shows c t (Some f) w d.1 d.2 well q d.4 d.5)),
  ),
  λ h. (v, w, h.0, p, q, h.1, h.2),
)

-- a representative is of its own class
pub own_class : (m : Model) (c : List Statement) (r : Fault) (class : ℕ)
    → slice_get (representatives m c) class ≡ Some r → IsClassOf m c r class
own_class m c r class at =
    let p = filtered_from (λ f. is_none (next c f)) (faults m c) r
    (at_place (representatives m c) class r at) in
    (r, contained (faults m c) r p.0, (here, none_is (next c r) p.1), at)
  where
    none_is : (o : Option Fault) → is_none o ≡ true → o ≡ None
    none_is None e = refl
    none_is (Some f) e = let bad : false ≡ true = e in cc

pub representatives_detect_same : (c : List Statement) → IsWellFormed c → HaveArities c
    → RepresentativesDetectSame c
representatives_detect_same c well arities m f r class t is at =
    classes_detect_same c well arities f r t (m, class, is, own_class m c r class at)
