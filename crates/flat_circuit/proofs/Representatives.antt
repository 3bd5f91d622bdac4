-- The number that a class keeps of its representative is the representative's number in the fault
-- list.
use Rattle.std.proofs.Common.{◌≡◌, ◌<◌, ℕ, zero, suc, refl, sym, ◌∙◌, ap, subst, Bool, List, []}
use Rattle.std.proofs.Common.{◌∷◌, ◌++◌, ◌⊎◌, inl, inr, length}
use Rattle.std.specs.Prelude.{Contains, Option, Some, None, IfSome, map, slice_get, unwrap_or}
use Rattle.bench_net.specs.Statement.{Statement}
use Rattle.list_lemmas.proofs.{Members.contained, Places.{at_place, place_within}}
use Rattle.fault_model.specs.declared.{Line.Line, Model.Model}
use Rattle.fault_model.specs.Fault.{Fault, FaultList, fault_list, faults}
use Rattle.fault_model.specs.Collapse.{Collapsed, AreClassesOf, representatives}
use Rattle.fault_model.proofs.Public.{listed_model}
use Rattle.flat_circuit.{specs.declared.words.Stuck.Stuck, proofs.Rows.pushed_get}
use Rattle.flat_circuit.specs.Origins.{HaveRepresentatives, IsRepresentativeIn}

-- if each element of one list is found at its place in another, the element at a place is found
found_at : {X : Type 0} (find : ℕ → Option X) (xs : List ℕ) (ys : List X) (i k : ℕ)
    → map find xs ≡ map Some ys → slice_get xs i ≡ Some k
    → (y : X) × (find k ≡ Some y) × (slice_get ys i ≡ Some y)
found_at find [] ys i k e at = let bad : None ≡ Some k = at in cc
found_at find (x ∷ xs) [] i k e at = let bad : find x ∷ map find xs ≡ [] = e in cc
found_at find (x ∷ xs) (y ∷ ys) zero k e at =
    let both : find x ∷ map find xs ≡ Some y ∷ map Some ys = e in
    let first : find x ≡ Some y = cc in
    let same : x ≡ k = ap (λ o. unwrap_or o k) at in
    (y, ap find (sym same) ∙ first, refl)
found_at find (x ∷ xs) (y ∷ ys) (suc i) k e at =
    let both : find x ∷ map find xs ≡ Some y ∷ map Some ys = e in
    let rest : map find xs ≡ map Some ys = cc in
    found_at find xs ys i k rest at

pub representative_at : (m : Model) (c : List Statement) (classes : Collapsed) (class k : ℕ)
    → AreClassesOf m c classes → slice_get classes.representative class ≡ Some k
    → (r : Fault) × (slice_get (faults m c) k ≡ Some r)
    × (slice_get (representatives m c) class ≡ Some r)
representative_at m c classes class k are at =
    found_at (slice_get (faults m c)) classes.representative (representatives m c) class k
    are.representative at

pub representative_within : (m : Model) (c : List Statement) (list : FaultList)
    (classes : Collapsed) (class k : ℕ) → AreClassesOf m c classes → list ≡ fault_list m c
    → slice_get classes.representative class ≡ Some k → k < length list.list
representative_within m c list classes class k are e at =
    let found = representative_at m c classes class k are at in
    place_within list.list k found.0 (ap (λ l. slice_get l.list k) e ∙ found.1)

-- a line and a bit of the fault make the fault
fault_read : (m : Model) (o : Option Fault) (l : Line) (bit : Bool) (r : Fault) → o ≡ Some r
    → m ≡ r.model → IfSome o (λ f. l ≡ f.line) → IfSome o (λ f. bit ≡ f.stuck)
    → Some r ≡ Some (record { model = m; line = l; stuck = bit })
fault_read m o l bit r e of p q =
    let on : l ≡ r.line = subst (λ x. IfSome x (λ f. l ≡ f.line)) e p in
    let stuck : bit ≡ r.stuck = subst (λ x. IfSome x (λ f. bit ≡ f.stuck)) e q in
    rw (of, on, stuck) refl

-- the fault that they make is the representative, and it is in the list
pub fault_is : (m : Model) (c : List Statement) (list : FaultList) (classes : Collapsed)
    (class k : ℕ) (own : Model) (l : Line) (bit : Bool) → AreClassesOf m c classes
    → list ≡ fault_list m c → slice_get classes.representative class ≡ Some k → own ≡ m
    → IfSome (slice_get list.list k) (λ f. l ≡ f.line)
    → IfSome (slice_get list.list k) (λ f. bit ≡ f.stuck)
    → (slice_get (representatives m c) class ≡ Some (record { model = own; line = l; stuck = bit }))
    × Contains (faults own c) (record { model = own; line = l; stuck = bit })
fault_is m c list classes class k own l bit are e at same p q =
    let found = representative_at m c classes class k are at in
    let here : Contains (faults m c) found.0 =
    contained (faults m c) found.0 (at_place (faults m c) k found.0 found.1) in
    let read : Some found.0 ≡ Some (record { model = own; line = l; stuck = bit }) =
    fault_read own (slice_get list.list k) l bit found.0 (ap (λ x. slice_get x.list k) e ∙ found.1)
    (same ∙ sym (listed_model m c found.0 here)) p q in
    let one : found.0 ≡ record { model = own; line = l; stuck = bit } =
    ap (λ o. unwrap_or o found.0) read in (
      found.2 ∙ read,
      subst (λ x. Contains (faults x c) (record {
        model = own;
        line = l;
        stuck = bit;
      })) (sym same) (subst (Contains (faults m c)) one here),
    )

-- the list of representatives of the first classes, with the next representative
pub representatives_more : (m : Model) (c : List Statement) (stucks : List Stuck) (stuck : Stuck)
    (class : ℕ) → length stucks ≡ class → HaveRepresentatives m c stucks
    → IsRepresentativeIn m c class stuck → HaveRepresentatives m c (stucks ++ stuck ∷ [])
representatives_more m c stucks stuck class count before is k own at =
    go (pushed_get stucks stuck own k at)
  where
    go : (slice_get stucks k ≡ Some own) ⊎ ((k ≡ length stucks) × (stuck ≡ own))
        → IsRepresentativeIn m c k own
    go (inl h) = before k own h
    go (inr h) =
        let same : class ≡ k = sym count ∙ sym h.0 in
        subst (λ n. IsRepresentativeIn m c n own) same (subst (IsRepresentativeIn m c class) h.1 is)
