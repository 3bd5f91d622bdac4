-- A fault has the class of its next fault, and a table with that class written.
use Rattle.std.proofs.Common.{◌≡◌, ◌<◌, ℕ, zero, suc, refl, sym, ◌∙◌, ap, subst, List, [], ◌∷◌}
use Rattle.std.proofs.Common.{length, set, get_or, arith, inl, inr, ◌⊎◌}
use Rattle.std.specs.Prelude.{Contains, Some, slice_get, map, option_map, option_and_then}
use Rattle.std.proofs.lemmas.Option.{slice_get-get_or}
use Rattle.bench_net.specs.Statement.{Statement}
use Rattle.list_lemmas.proofs.{Members.contained, Places.{at_place, place_within}}
use Rattle.fault_model.specs.{declared.Model.Model, Fault.{Fault, faults}}
use Rattle.fault_model.specs.Collapse.{next, onward, representatives, IsClassOf, AreClassesOf}
use Rattle.fault_model.specs.Known.{HasClassAt, HasEnds, HasNext, KeepsClasses}
use Rattle.fault_model.proofs.RepresentativeNumbers.{answer_some}

-- the class of a next fault is the class of the fault
class_onward : (m : Model) (c : List Statement) (f g : Fault) (k : ℕ) → Contains (faults m c) f
    → next c f ≡ Some g → IsClassOf m c g k → IsClassOf m c f k
class_onward m c f g k at e p = (p.0, at, (onward e p.2.0, p.2.1), p.3)

-- reading a list at another place than was written, and at the place
get_other : (xs : List ℕ) (i j x : ℕ) → (i ≡ j → ⊥) → slice_get (set xs j x) i ≡ slice_get xs i
get_other [] i j x other = refl
get_other (y ∷ xs) zero zero x other = absurd (other refl)
get_other (y ∷ xs) zero (suc j) x other = refl
get_other (y ∷ xs) (suc i) zero x other = refl
get_other (y ∷ xs) (suc i) (suc j) x other = get_other xs i j x (λ e. other (ap suc e))

get_written : (xs : List ℕ) (j x : ℕ) → j < length xs → slice_get (set xs j x) j ≡ Some x
get_written [] j x lt = absurd (omega (arith, lt))
get_written (y ∷ xs) zero x lt = refl
get_written (y ∷ xs) (suc j) x lt = get_written xs j x (omega (arith, lt))

same_or_other : (i j : ℕ) → (i ≡ j) ⊎ (i ≡ j → ⊥)
same_or_other zero zero = inl refl
same_or_other zero (suc j) = inr (λ e. absurd (omega (arith, e)))
same_or_other (suc i) zero = inr (λ e. absurd (omega (arith, e)))
same_or_other (suc i) (suc j) = go (same_or_other i j)
  where
    go : (i ≡ j) ⊎ (i ≡ j → ⊥) → (suc i ≡ suc j) ⊎ (suc i ≡ suc j → ⊥)
    go (inl e) = inl (ap suc e)
    go (inr n) = inr (λ e. n (omega (arith, e)))

-- the table after the class at the next fault's place is written for a fault
pub record Followed (m : Model) (c : List Statement) (before after : List ℕ) (i : ℕ) : Type 0 where
  pub known : HasClassAt m c after i
  pub kept : KeepsClasses m c before after

pub follow_some : (m : Model) (c : List Statement) (class_of : List ℕ) (i j x : ℕ) (f : Fault)
    → length class_of ≡ length (faults m c) → slice_get (faults m c) i ≡ Some f
    → HasNext m c class_of i → option_map (slice_get (faults m c)) (Some j)
    ≡ option_map Some (option_and_then (next c) (slice_get (faults m c) i))
    → x ≡ get_or class_of j 0 → Followed m c class_of (set class_of i x) i
follow_some m c class_of i j x f count at has found read = record { known = known; kept = kept }
  where
    to : (g : Fault) × (next c f ≡ Some g) × (slice_get (faults m c) j ≡ Some g)
    to = answer_some m c i j f at found

    inside : i < length class_of
    inside =
        let lt : i < length (faults m c) = place_within (faults m c) i f at in
        omega (arith, lt, count)

    within : j < length class_of
    within =
        let lt : j < length (faults m c) = place_within (faults m c) j to.0 to.2 in
        omega (arith, lt, count)

    class_x : IsClassOf m c f x
    class_x =
        let known : (k : ℕ) × (slice_get class_of j ≡ Some k) × IsClassOf m c to.0 k =
        has j f to.0 at to.1 to.2 to.0 to.2 in
        let same : Some x ≡ Some known.0 =
        ap Some read ∙ (sym (slice_get-get_or class_of j 0 within) ∙ known.1) in
        let one : known.0 ≡ x = cc in
        class_onward m c f to.0 x (contained (faults m c) f (at_place (faults m c) i f at)) to.1
        (subst (IsClassOf m c to.0) one known.2)

    known : HasClassAt m c (set class_of i x) i
    known g other =
        let same : Some f ≡ Some g = sym at ∙ other in
        let one : f ≡ g = cc in
        (x, get_written class_of i x inside, subst (λ h. IsClassOf m c h x) one class_x)

    kept : KeepsClasses m c class_of (set class_of i x)
    kept p has_p g there = go (same_or_other p i)
      where
        go : (p ≡ i) ⊎ (p ≡ i → ⊥)
            → (k : ℕ) × (slice_get (set class_of i x) p ≡ Some k) × IsClassOf m c g k
        go (inl e) =
            let here : slice_get (faults m c) i ≡ Some g =
            subst (λ q. slice_get (faults m c) q ≡ Some g) e there in
            let k = known g here in
            (k.0, subst (λ q. slice_get (set class_of i x) q ≡ Some k.0) (sym e) k.1, k.2)
        go (inr n) = let k = has_p g there in (k.0, get_other class_of p i x n ∙ k.1, k.2)

pub ends_kept : (m : Model) (c : List Statement) (before after : List ℕ) → HasEnds m c before
    → KeepsClasses m c before after → HasEnds m c after
ends_kept m c before after ends kept i f at e = kept i (ends i f at e)

-- the table of all classes
pub classes_are : (m : Model) (c : List Statement) (class_of reps : List ℕ)
    → length class_of ≡ length (faults m c)
    → ((i : ℕ) → i < length (faults m c) → HasClassAt m c class_of i)
    → map (slice_get (faults m c)) reps ≡ map Some (representatives m c)
    → AreClassesOf m c (record { class_of = class_of; representative = reps })
classes_are m c class_of reps counted each reps_are = record {
  count = counted;
  class = λ i f k at read. class i f k at read (each i (place_within (faults m c) i f at) f at);
  representative = reps_are;
}
  where
    class : (i : ℕ) (f : Fault) (k : ℕ) → slice_get (faults m c) i ≡ Some f
        → slice_get class_of i ≡ Some k
        → (j : ℕ) × (slice_get class_of i ≡ Some j) × IsClassOf m c f j → IsClassOf m c f k
    class i f k at read has =
        let same : Some has.0 ≡ Some k = sym has.1 ∙ read in
        let one : has.0 ≡ k = cc in
        subst (IsClassOf m c f) one has.2
