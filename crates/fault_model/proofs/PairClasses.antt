-- The classes of launch and capture pairs are the classes of transition faults: if the table has
-- the same rows for two models, exchanging the model keeps the fault list, next faults and classes.
use Rattle.std.proofs.Common.{◌≡◌, ℕ, refl, sym, ◌∙◌, ap, subst, Bool, true, false, List, [], ◌∷◌}
use Rattle.std.{proofs.Common.{◌++◌, length, inl, inr}, specs.List.enumerate_from}
use Rattle.std.specs.Prelude.{Contains, Option, Some, None, slice_get, flat_map, option_map, map}
use Rattle.std.specs.Prelude.{option_and_then, filter, is_none, if◌then◌else◌}
use Rattle.std.proofs.lemmas.{List.{length-map, map-append}, Option.slice_get-map}
use Rattle.bench_net.specs.{declared.Kind.Kind, declared.Sink.Sink, Statement.{Name, Statement}}
use Rattle.bench_net.specs.declared.Kind.TheVariants.{And, Nand, Or, Nor, Xor, Xnor, Not, Buff}
use Rattle.bench_net.specs.Scan.{names}
use Rattle.bench_net.specs.declared.Sink.TheVariants as sink
use Rattle.list_lemmas.proofs.{Members.{Among, among, among_map, contained}, Places.at_place}
use Rattle.fault_model.specs.declared.Line.TheVariants as line
use Rattle.fault_model.specs.declared.Model.{Model, TheVariants.{Transition, TransitionPairs}}
use Rattle.fault_model.specs.Fault.{Fault, branch, branches, both, faults, faults_of}
use Rattle.fault_model.specs.Collapse.{next, next_over, next_stuck, readers, kind_of, Reaches, here}
use Rattle.fault_model.specs.Collapse.{onward, representatives, IsClassOf, Collapsed, AreClassesOf}
use Rattle.fault_model.specs.Laws.{HavePairsClassOfTransitions, HavePairsClassesOfTransitions}
use Rattle.fault_model.proofs.ListedFaults.{fault_on, listed_model, next_on_stem}

-- a fault with the model exchanged
abbrev with_model : Model → Fault → Fault
with_model m f = fault_on m f.line f.stuck

own_model : (m : Model) (f : Fault) → f.model ≡ m → with_model m f ≡ f
own_model m f e = ap (λ x. with_model x f) (sym e)

-- the fault list
branches_with : (m n : Model) (ks : List Sink)
    → map (with_model n) (flat_map (λ k. both m (branch k)) ks)
    ≡ flat_map (λ k. both n (branch k)) ks
branches_with m n [] = refl
branches_with m n (k ∷ ks) = ap (λ fs. both n (branch k) ++ fs) (branches_with m n ks)

signals_with : (m n : Model) (c : List Statement) (xs : List (ℕ × Name))
    → map (with_model n) (flat_map (faults_of m c) xs) ≡ flat_map (faults_of n c) xs
signals_with m n c [] = refl
signals_with m n c (x ∷ xs) =
    let own : map (with_model n) (faults_of m c x) ≡ faults_of n c x =
    ap (λ fs. both n (line.Stem x.0) ++ fs) (branches_with m n (branches c x.1)) in
    map-append (with_model n) (faults_of m c x) (flat_map (faults_of m c) xs)
    ∙ (ap (λ fs. fs ++ map (with_model n) (flat_map (faults_of m c) xs)) own
    ∙ ap (λ fs. faults_of n c x ++ fs) (signals_with m n c xs))

faults_with : (m n : Model) (c : List Statement) → map (with_model n) (faults m c) ≡ faults n c
faults_with m n c = signals_with m n c (enumerate_from 0 (names c))

-- the table has the same rows for two models
abbrev HaveSameRows : Model → Model → Type 0
HaveSameRows m n = (kind : Kind) (b : Bool) → next_stuck n kind b ≡ next_stuck m kind b

none_of_none : (n : Model) (o : Option Fault) → is_none (option_map (with_model n) o) ≡ is_none o
none_of_none n None = refl
none_of_none n (Some f) = refl

module _ (m n : Model) (c : List Statement) (rows : HaveSameRows m n) where
  over_with : (b : Bool) (rs : List Sink)
      → next_over c n b rs ≡ option_map (with_model n) (next_over c m b rs)
  over_with b [] = refl
  over_with b (sink.Data i ∷ rs) = refl
  over_with b (sink.Out i ∷ rs) = refl
  over_with b (sink.Pin gate pin ∷ r ∷ rs) = refl
  over_with b (sink.Pin gate pin ∷ []) = by_kind (kind_of c gate)
    where
      by_bit : (o : Option Bool) → option_map (λ d. fault_on n (line.Stem gate) d) o
          ≡ option_map (with_model n) (option_map (λ d. fault_on m (line.Stem gate) d) o)
      by_bit None = refl
      by_bit (Some d) = refl

      by_kind : (k : Option Kind) → option_map (λ d. fault_on n (line.Stem gate) d)
          (option_and_then (λ kind. next_stuck n kind b) k)
          ≡ option_map (with_model n) (option_map (λ d. fault_on m (line.Stem gate) d)
          (option_and_then (λ kind. next_stuck m kind b) k))
      by_kind None = refl
      by_kind (Some kind) = ap (option_map (λ d. fault_on n (line.Stem gate) d)) (rows kind b)
          ∙ by_bit (next_stuck m kind b)

  next_with : (f : Fault) → f.model ≡ m
      → next c (with_model n f) ≡ option_map (with_model n) (next c f)
  next_with f of = over_with f.stuck (readers c f.line)
      ∙ ap (λ x. option_map (with_model n) (next_over c x f.stuck (readers c f.line))) (sym of)

  -- the faults that are reached
  reached_with : {f r : Fault} → f.model ≡ m → Reaches c f r
      → Reaches c (with_model n f) (with_model n r) × (r.model ≡ m)
  reached_with of here = (here, of)
  reached_with {f} {r} of (onward {g = g} e p) =
      let stem = next_on_stem c f g e in
      let own : g.model ≡ m = sym (ap (λ x. x.model) stem.2) ∙ of in
      let later = reached_with own p in
      (onward (next_with f of ∙ ap (option_map (with_model n)) e) later.0, later.1)

  -- the representatives
  ends_with : (fs : List Fault) → ((f : Fault) → Among f fs → f.model ≡ m)
      → filter (λ f. is_none (next c f)) (map (with_model n) fs)
      ≡ map (with_model n) (filter (λ f. is_none (next c f)) fs)
  ends_with [] each = refl
  ends_with (f ∷ fs) each = go (is_none (next c (with_model n f))) (is_none (next c f))
      (ap is_none (next_with f (each f (inl refl))) ∙ none_of_none n (next c f))
      (ends_with fs (λ g a. each g (inr a)))
    where
      go : (b d : Bool) → b ≡ d → filter (λ f. is_none (next c f)) (map (with_model n) fs)
          ≡ map (with_model n) (filter (λ f. is_none (next c f)) fs)
          → (if b then with_model n f ∷ filter (λ f. is_none (next c f)) (map (with_model n) fs)
          else filter (λ f. is_none (next c f)) (map (with_model n) fs))
          ≡ map (with_model n) (if d then f ∷ filter (λ f. is_none (next c f)) fs
          else filter (λ f. is_none (next c f)) fs)
      go true true e later = ap (λ gs. with_model n f ∷ gs) later
      go false false e later = later
      go true false e later = cc
      go false true e later = cc

  representatives_with : representatives n c ≡ map (with_model n) (representatives m c)
  representatives_with = ap (filter (λ f. is_none (next c f))) (sym (faults_with m n c))
      ∙ ends_with (faults m c) (λ f a. listed_model m c f (contained (faults m c) f a))

  listed_with : (f : Fault) → Contains (faults m c) f → Contains (faults n c) (with_model n f)
  listed_with f at = subst (λ fs. Contains fs (with_model n f)) (faults_with m n c)
      (contained (map (with_model n) (faults m c)) (with_model n f)
      (among_map (with_model n) (faults m c) f (among (faults m c) f at)))

  pub class_with : (f : Fault) (class : ℕ) → IsClassOf m c f class
      → IsClassOf n c (with_model n f) class
  class_with f class is =
      let r = is.0 in
      let reached = reached_with (listed_model m c f is.1) is.2.0 in (
        with_model n r,
        listed_with f is.1,
        (reached.0, next_with r reached.1 ∙ ap (option_map (with_model n)) is.2.1),
        ap (λ fs. slice_get fs class) representatives_with
            ∙ (slice_get-map (with_model n) (representatives m c) class
            ∙ ap (option_map (with_model n)) is.3),
      )

  -- the classes
  places_with : (places : List ℕ) → map (slice_get (faults n c)) places
      ≡ map (option_map (with_model n)) (map (slice_get (faults m c)) places)
  places_with [] = refl
  places_with (i ∷ is) =
      let one : slice_get (faults n c) i ≡ option_map (with_model n) (slice_get (faults m c) i) =
      ap (λ fs. slice_get fs i) (sym (faults_with m n c))
      ∙ slice_get-map (with_model n) (faults m c) i in
      ap (λ o. o ∷ map (slice_get (faults n c)) is) one
      ∙ ap (λ os. option_map (with_model n) (slice_get (faults m c) i) ∷ os) (places_with is)

  all_with : (fs : List Fault)
      → map (option_map (with_model n)) (map Some fs) ≡ map Some (map (with_model n) fs)
  all_with [] = refl
  all_with (f ∷ fs) = ap (λ os. Some (with_model n f) ∷ os) (all_with fs)

  pub classes_with : (classes : Collapsed) → AreClassesOf m c classes → AreClassesOf n c classes
  classes_with classes are = record {
    count = are.count ∙ (sym (length-map (faults m c) (with_model n))
        ∙ ap length (faults_with m n c));
    class = λ i f k at number.
        let listed = contained (faults n c) f (at_place (faults n c) i f at) in
        let own : with_model n f ≡ f = own_model n f (listed_model n c f listed) in
        let there : slice_get (faults m c) i ≡ Some (with_model m f) =
        ap (λ fs. slice_get fs i) (sym (faults_with n m c))
        ∙ (slice_get-map (with_model m) (faults n c) i ∙ ap (option_map (with_model m)) at) in
        subst (λ g. IsClassOf n c g k) own
        (class_with (with_model m f) k (are.class i (with_model m f) k there number));
    representative = places_with classes.representative
        ∙ (ap (map (option_map (with_model n))) are.representative
        ∙ (all_with (representatives m c) ∙ ap (map Some) (sym representatives_with)));
  }

-- pairs and tests in a row
in_pairs : HaveSameRows Transition TransitionPairs
in_pairs And b = refl
in_pairs Nand b = refl
in_pairs Or b = refl
in_pairs Nor b = refl
in_pairs Xor b = refl
in_pairs Xnor b = refl
in_pairs Not b = refl
in_pairs Buff b = refl

pub pairs_have_class : (c : List Statement) → HavePairsClassOfTransitions c
pairs_have_class c l b class = (
  class_with Transition TransitionPairs c in_pairs (fault_on Transition l b) class,
  class_with TransitionPairs Transition c (λ kind d. sym (in_pairs kind d))
      (fault_on TransitionPairs l b) class,
)

pub pairs_have_classes : (c : List Statement) → HavePairsClassesOfTransitions c
pairs_have_classes c classes = (
  classes_with Transition TransitionPairs c in_pairs classes,
  classes_with TransitionPairs Transition c (λ kind d. sym (in_pairs kind d)) classes,
)
