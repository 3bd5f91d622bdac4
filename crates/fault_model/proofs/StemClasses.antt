-- The classes of the faults on stems, from the highest level down.
use Rattle.std.proofs.Common.{◌≡◌, ◌<◌, ◌≤◌, ℕ, zero, suc, ◌+◌, refl, sym, ◌∙◌, ap, subst, Bool}
use Rattle.std.proofs.Common.{true, false, List, length, arith, inl, inr, ◌⊎◌}
use Rattle.std.specs.Prelude.{Some, slice_get}
use Rattle.bench_net.specs.{Statement.Statement, Scan.{names, signal}, Circuit.IsWellFormed}
use Rattle.bench_net.{specs.Level.IsLevelOrder, proofs.Public.name_of-signal}
use Rattle.list_lemmas.proofs.{Members.{among, contained}, Places.{at_place, placed, place_within}}
use Rattle.fault_model.specs.declared.Line.TheVariants as line
use Rattle.fault_model.specs.{declared.Model.Model, Fault.{Fault, faults}}
use Rattle.fault_model.specs.Known.{HasClassAt, HasEnds, HasNext, HasStems, KeepsClasses}
use Rattle.fault_model.proofs.ListedFaults.{IsReadBy, fault_on, listed_model, Step, step_of}
use Rattle.fault_model.proofs.{ListedFaults.next_on_stem, NextFaultChains.gate_defined}
use Rattle.fault_model.proofs.{FrontParts.below_or_at, FaultLines.one_fault_place}
use Rattle.fault_model.proofs.{NextFault.listed_in_circuit, NextFaultLevels.later}
use Rattle.fault_model.proofs.FollowedClasses.{ends_kept}

-- the table has the classes of the stems of the signals from a place of the order on
pub record StemsFrom (m : Model) (c : List Statement) (order : List ℕ) (place : ℕ)
    (before after : List ℕ) : Type 0 where
  pub ends : HasEnds m c after
  pub stems : (p s i : ℕ) (b : Bool) → place ≤ p → slice_get order p ≡ Some s
      → slice_get (faults m c) i ≡ Some (fault_on m (line.Stem s) b) → HasClassAt m c after i
  pub kept : KeepsClasses m c before after

pub stems_kept : (m : Model) (c : List Statement) (order : List ℕ) (place : ℕ)
    (before after last : List ℕ) → StemsFrom m c order place before after
    → KeepsClasses m c after last → StemsFrom m c order place before last
stems_kept m c order place before after last from kept = record {
  ends = ends_kept m c after last from.ends kept;
  stems = λ p s i b le at there. kept i (from.stems p s i b le at there);
  kept = λ i h. kept i (from.kept i h);
}

-- a stem of the signal before that place has its next fault in the table
pub stem_next : (m : Model) (c : List Statement) (order : List ℕ) (place : ℕ)
    (before after : List ℕ) (s i : ℕ) (b : Bool) → IsWellFormed c → IsLevelOrder c order
    → StemsFrom m c order (place + 1) before after → slice_get order place ≡ Some s
    → slice_get (faults m c) i ≡ Some (fault_on m (line.Stem s) b) → HasNext m c after i
stem_next m c order place before after s i b well is from at there j f g here e target =
    let same : Some (fault_on m (line.Stem s) b) ≡ Some f = sym there ∙ here in
    let one : fault_on m (line.Stem s) b ≡ f = cc in
    go (step_of m c f g well (contained (faults m c) f (at_place (faults m c) i f here)) e)
    (ap (λ x. x.line) (sym one)) (ap (λ x. x.model) (sym one))
  where
    go : (st : Step c f g) → f.line ≡ line.Stem s → f.model ≡ m → HasClassAt m c after j
    go st on of = by_line st.on
      where
        by_line : IsReadBy c f.line st.read (signal c st.name) st.pin → HasClassAt m c after j
        by_line (inr bad) =
            let no_stem : line.Stem s ≡ line.Pin (signal c st.name) st.pin = sym on ∙ bad in cc
        by_line (inl own) =
            let line_is : line.Stem s ≡ line.Stem (signal c st.read) = sym on ∙ own.0 in
            let number : s ≡ signal c st.read = cc in
            let named =
            name_of-signal c st.name (contained (names c) st.name (gate_defined c well f g st)) in
            let q = placed order (signal c st.name) (among order (signal c st.name)
            (is.all (signal c st.name)
            (place_within (names c) (signal c st.name) st.name named))) in
            let after_it : place < q.0 =
            later c f g order place q.0 well is st (at ∙ ap Some number) q.1 in
            from.stems q.0 (signal c st.name) j st.bit (omega (arith, after_it)) q.1 (target
            ∙ ap Some
            (sym st.gives ∙ ap (λ x. fault_on x (line.Stem (signal c st.name)) st.bit) of))

-- with both faults of that stem the table has one signal more
pub stems_more : (m : Model) (c : List Statement) (order : List ℕ) (place : ℕ)
    (before after : List ℕ) (s i j : ℕ) → IsWellFormed c
    → StemsFrom m c order (place + 1) before after → slice_get order place ≡ Some s
    → slice_get (faults m c) i ≡ Some (fault_on m (line.Stem s) false)
    → slice_get (faults m c) j ≡ Some (fault_on m (line.Stem s) true)
    → HasClassAt m c after i → HasClassAt m c after j → StemsFrom m c order place before after
stems_more m c order place before after s i j well from at zero_at one_at zero_known one_known =
    record { ends = from.ends; stems = stems; kept = from.kept }
  where
    own : (s' k : ℕ) (b : Bool) → s ≡ s'
        → slice_get (faults m c) k ≡ Some (fault_on m (line.Stem s') b) → HasClassAt m c after k
    own s' k false e there =
        let it : slice_get (faults m c) k ≡ Some (fault_on m (line.Stem s) false) =
        there ∙ ap (λ x. Some (fault_on m (line.Stem x) false)) (sym e) in
        subst (HasClassAt m c after)
        (one_fault_place m c (fault_on m (line.Stem s) false) i k well zero_at it) zero_known
    own s' k true e there =
        let it : slice_get (faults m c) k ≡ Some (fault_on m (line.Stem s) true) =
        there ∙ ap (λ x. Some (fault_on m (line.Stem x) true)) (sym e) in
        subst (HasClassAt m c after)
        (one_fault_place m c (fault_on m (line.Stem s) true) j k well one_at it) one_known

    split : (m n : ℕ) → m ≤ n → (m ≡ n) ⊎ (m + 1 ≤ n)
    split zero zero le = inl refl
    split zero (suc n) le = inr (omega arith)
    split (suc m) zero le = absurd (omega (arith, le))
    split (suc m) (suc n) le = more (split m n (omega (arith, le)))
      where
        more : (m ≡ n) ⊎ (m + 1 ≤ n) → (suc m ≡ suc n) ⊎ (suc m + 1 ≤ suc n)
        more (inl e) = inl (ap suc e)
        more (inr h) = inr (omega (arith, h))

    stems : (p t k : ℕ) (b : Bool) → place ≤ p → slice_get order p ≡ Some t
        → slice_get (faults m c) k ≡ Some (fault_on m (line.Stem t) b) → HasClassAt m c after k
    stems p t k b le there at_k = go (split place p le)
      where
        go : (place ≡ p) ⊎ (place + 1 ≤ p) → HasClassAt m c after k
        go (inl e) =
            let same : Some s ≡ Some t = sym at ∙ (ap (slice_get order) e ∙ there) in
            let one : s ≡ t = cc in
            own t k b one at_k
        go (inr h) = from.stems p t k b h there at_k

-- from the first place on these are all stems
pub stems_all : (m : Model) (c : List Statement) (order : List ℕ) (before after : List ℕ)
    → IsLevelOrder c order → StemsFrom m c order 0 before after → HasStems m c after
stems_all m c order before after is from i s b at =
    let f : Fault = fault_on m (line.Stem s) b in
    let inside : s < length (names c) =
    listed_in_circuit m c f (contained (faults m c) f (at_place (faults m c) i f at)) in
    let q = placed order s (among order s (is.all s inside)) in
    from.stems q.0 s i b (omega arith) q.1 at

-- every next fault is on a stem
pub all_next : (m : Model) (c : List Statement) (class_of : List ℕ) (i : ℕ) → HasStems m c class_of
    → HasNext m c class_of i
all_next m c class_of i stems j f g here e target =
    let p = next_on_stem c f g e in
    let of : f.model ≡ m =
    listed_model m c f (contained (faults m c) f (at_place (faults m c) i f here)) in
    stems j p.0 p.1 (target ∙ ap Some (sym p.2 ∙ ap (λ x. fault_on x (line.Stem p.0) p.1) of))

-- the table of all faults under way
pub record FollowedBelow (m : Model) (c : List Statement) (k : ℕ) (class_of : List ℕ) : Type 0 where
  pub ends : HasEnds m c class_of
  pub stems : HasStems m c class_of
  pub known : (i : ℕ) → i < k → HasClassAt m c class_of i

pub followed_more : (m : Model) (c : List Statement) (k : ℕ) (before after : List ℕ)
    → FollowedBelow m c k before → KeepsClasses m c before after → HasClassAt m c after k
    → FollowedBelow m c (k + 1) after
followed_more m c k before after b kept own = record {
  ends = ends_kept m c before after b.ends kept;
  stems = λ i s bit at. kept i (b.stems i s bit at);
  known = λ i lt. go i (below_or_at i k lt);
}
  where
    go : (i : ℕ) → (i < k) ⊎ (i ≡ k) → HasClassAt m c after i
    go i (inl h) = kept i (b.known i h)
    go i (inr e) = subst (HasClassAt m c after) (sym e) own
