-- The classes of a circuit: there is one, and its faults share their first test.
use Rattle.std.proofs.Common.{◌≡◌, ◌<◌, ◌+◌, ◌∙◌, ℕ, List, length, map, take, get_or, ap, sym}
use Rattle.std.{proofs.Common.{arith, true, false}, specs.Prelude.{slice_get, unwrap_or}}
use Rattle.std.specs.Prelude.{Contains, Option, Some, None, count_by, is_some, option_map}
use Rattle.std.proofs.lemmas.List.{get_or-map, length-map}
use Rattle.std.proofs.lemmas.List.Sums.{count_by_more_no, count_by_more_yes}
use Rattle.std.proofs.lemmas.Option.{get_or_from_slice_get, slice_get-get_or, slice_get-map}
use Rattle.list_lemmas.proofs.Places.{from_mapped, place_within, within_place}
use Rattle.bench_net.specs.{Statement.Statement, Circuit.IsCircuit}
use Rattle.fault_model.specs.{declared.Model.Model, Fault.{Fault, faults}, Solution.Test}
use Rattle.fault_model.specs.Collapse.{AreClassesOf, Collapsed, IsClassOf, representatives}
use Rattle.fault_model.{specs.Detection.DetectsAt, proofs.Public.{classes_detected_same, own_class}}
use Rattle.block_sim.specs.First.{IsFirst}
use Rattle.workers.specs.Verdict.{AreFirsts}
use Rattle.report.specs.Report.{class_firsts, first_at}

-- if there is a fault, there is a class
pub some_class : (m : Model) (c : List Statement) (classes : Collapsed) (f : Fault)
    → Contains (faults m c) f → AreClassesOf m c classes → 0 < length classes.representative
some_class m c classes f has are =
    let some : 0 < length (faults m c) = omega (arith, has.1) in
    let at = within_place (faults m c) 0 some in
    let lt : 0 < length classes.class_of = omega (arith, some, are.count) in
    let own = within_place classes.class_of 0 lt in
    let p : IsClassOf m c at.0 own.0 = are.class 0 at.0 own.0 at.1 own.1 in
    let within : own.0 < length (representatives m c) =
    place_within (representatives m c) own.0 p.0 p.3 in
    let same : length classes.representative ≡ length (representatives m c) =
    sym (length-map classes.representative (slice_get (faults m c)))
    ∙ (ap length are.representative ∙ length-map (representatives m c) Some) in
    omega (arith, within, same)

-- the step of a count over the classes
pub counted_class : (first : ℕ → Option ℕ) (rs : List ℕ) (i r : ℕ) → slice_get rs i ≡ Some r
    → is_some (first r) ≡ true
    → count_by is_some (take (i + 1) (map first rs)) ≡ count_by is_some (take i (map first rs)) + 1
counted_class first rs i r at e =
    let lt : i < length rs = place_within rs i r at in
    let same : get_or (map first rs) i None ≡ first r = get_or-map first rs i r None lt
    ∙ ap first (get_or_from_slice_get rs i r r at) in
    count_by_more_yes is_some (map first rs) i None (omega (arith, lt, length-map rs first))
    (rw (same) e)

pub uncounted_class : (first : ℕ → Option ℕ) (rs : List ℕ) (i r : ℕ) → slice_get rs i ≡ Some r
    → is_some (first r) ≡ false
    → count_by is_some (take (i + 1) (map first rs)) ≡ count_by is_some (take i (map first rs))
uncounted_class first rs i r at e =
    let lt : i < length rs = place_within rs i r at in
    let same : get_or (map first rs) i None ≡ first r = get_or-map first rs i r None lt
    ∙ ap first (get_or_from_slice_get rs i r r at) in
    count_by_more_no is_some (map first rs) i None (omega (arith, lt, length-map rs first))
    (rw (same) e)

-- two faults that the same tests detect have the same first test
first_moves : (c : List Statement) (tests : List Test) (f g : Fault) (first : Option ℕ)
    → ((t : ℕ) → DetectsAt c tests f t → DetectsAt c tests g t)
    → ((t : ℕ) → DetectsAt c tests g t → DetectsAt c tests f t) → IsFirst c tests g first
    → IsFirst c tests f first
first_moves c tests f g (Some t) to from is = (
  from t is.0,
  λ earlier low has. is.1 earlier low (to earlier has),
)
first_moves c tests f g None to from is = λ t has. is t (to t has)

-- the first test of a class is the first test of each of its faults
pub first_of_class : (m : Model) (c : List Statement) (tests : List Test) (classes : Collapsed)
    (firsts : List (Option ℕ)) (f : Fault) (class : ℕ) (first : Option ℕ)
    → IsCircuit c → AreClassesOf m c classes → AreFirsts m c tests firsts → IsClassOf m c f class
    → slice_get (class_firsts classes firsts) class ≡ Some first → IsFirst c tests f first
first_of_class m c tests classes firsts f class first is are firsts_are of at =
    let r = from_mapped (first_at firsts) classes.representative class first at in
    let own : IsClassOf m c of.0 class = own_class m c of.0 class of.3 in
    let listed : slice_get (faults m c) r.0 ≡ Some of.0 = same_fault r.0 r.1 in
    let within : r.0 < length firsts = omega (
      arith,
      place_within (faults m c) r.0 of.0 listed,
      firsts_are.count,
    ) in
    let has : slice_get firsts r.0 ≡ Some first = slice_get-get_or firsts r.0 None within
    ∙ ap Some r.2 in
    let same = λ (t : ℕ). classes_detected_same c is.well_formed is.arities f of.0 tests t (
      m,
      class,
      of,
      own,
    ) in
    first_moves c tests f of.0 first (λ t. (same t).0) (λ t. (same t).1)
    (firsts_are.first r.0 of.0 first listed has)
  where
    same_fault : (r : ℕ) → slice_get classes.representative class ≡ Some r
        → slice_get (faults m c) r ≡ Some of.0
    same_fault r e =
        let left : slice_get (map (slice_get (faults m c)) classes.representative) class
        ≡ Some (slice_get (faults m c) r) =
        slice_get-map (slice_get (faults m c)) classes.representative class
        ∙ ap (option_map (slice_get (faults m c))) e in
        let right : slice_get (map Some (representatives m c)) class ≡ Some (Some of.0) =
        slice_get-map Some (representatives m c) class ∙ ap (option_map Some) of.3 in
        ap (λ o. unwrap_or o None) (sym left ∙ (ap (λ l. slice_get l class) are.representative
        ∙ right))
