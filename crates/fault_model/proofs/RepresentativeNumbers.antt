-- Numbering the faults without a next, in the order of the list.
use Rattle.std.proofs.Common.{◌≡◌, ◌<◌, ◌≤◌, ℕ, ◌+◌, refl, sym, ◌∙◌, ap, subst, Bool, true, false}
use Rattle.std.proofs.Common.{List, [], ◌∷◌, ◌++◌, length, take, arith, inl, inr, ◌⊎◌}
use Rattle.std.{proofs.Common.length-append, specs.Prelude.{option_and_then, if◌then◌else◌}}
use Rattle.std.specs.Prelude.{Option, Some, None, slice_get, map, filter, is_none, option_map}
use Rattle.std.proofs.lemmas.List.{length-map, append-nil}
use Rattle.bench_net.specs.Statement.{Statement}
use Rattle.list_lemmas.proofs.{Members.contained, Places.{at_place, place_within}}
use Rattle.fault_model.specs.{declared.Model.Model, Fault.{Fault, faults}, Known.HasEnds}
use Rattle.fault_model.specs.Collapse.{next, here, representatives, IsClassOf}
use Rattle.fault_model.proofs.FrontParts.{take_next, take_all, at_front, at_end, below_or_at}

-- the representatives among the first faults
abbrev pub ends_below : Model → List Statement → ℕ → List Fault
ends_below m c k = filter (λ f. is_none (next c f)) (take k (faults m c))

-- the table has for a place the number of this fault among the first representatives
abbrev HasNumber : Model → List Statement → ℕ → List ℕ → ℕ → Fault → Type 0
HasNumber m c k class_of i f =
    (n : ℕ) × (slice_get class_of i ≡ Some n) × (slice_get (ends_below m c k) n ≡ Some f)

-- each of the first faults that has no next has the number of its place among these
abbrev HaveNumbers : Model → List Statement → ℕ → List ℕ → Type 0
HaveNumbers m c k class_of = (i : ℕ) (f : Fault) → i < k → slice_get (faults m c) i ≡ Some f
    → next c f ≡ None → HasNumber m c k class_of i f

pub record Numbered (m : Model) (c : List Statement) (k : ℕ) (class_of reps : List ℕ) : Type 0 where
  pub counted : length class_of ≡ k
  pub few : length reps ≤ k
  pub reps_are : map (slice_get (faults m c)) reps ≡ map Some (ends_below m c k)
  pub each_end : HaveNumbers m c k class_of

filter_push : {X : Type 0} (test : X → Bool) (xs : List X) (x : X)
    → filter test (xs ++ x ∷ []) ≡ filter test xs ++ (if test x then x ∷ [] else [])
filter_push test [] x = refl
filter_push test (y ∷ xs) x = go (test y) (filter_push test xs x)
  where
    go : (b : Bool) → filter test (xs ++ x ∷ []) ≡ filter test xs ++ (if test x then x ∷ [] else [])
        → (if b then y ∷ filter test (xs ++ x ∷ []) else filter test (xs ++ x ∷ []))
        ≡ (if b then y ∷ filter test xs else filter test xs) ++ (if test x then x ∷ [] else [])
    go true e = ap (λ zs. y ∷ zs) e
    go false e = e

map_push : {X Y : Type 0} (f : X → Y) (xs : List X) (x : X)
    → map f (xs ++ x ∷ []) ≡ map f xs ++ f x ∷ []
map_push f [] x = refl
map_push f (y ∷ xs) x = ap (λ zs. f y ∷ zs) (map_push f xs x)

module _ (m : Model) (c : List Statement) (k : ℕ) (f : Fault) (class_of reps : List ℕ)
    (there : slice_get (faults m c) k ≡ Some f) (b : Numbered m c k class_of reps) where
  below_more : ends_below m c (k + 1)
      ≡ ends_below m c k ++ (if is_none (next c f) then f ∷ [] else [])
  below_more = ap (filter (λ g. is_none (next c g))) (take_next (faults m c) k f there)
      ∙ filter_push (λ g. is_none (next c g)) (take k (faults m c)) f

  count_more : length (class_of ++ length reps ∷ []) ≡ k + 1
  count_more =
      let h : length (class_of ++ length reps ∷ []) ≡ length class_of + 1 =
      length-append class_of (length reps ∷ []) in
      omega (arith, h, b.counted)

  same_count : length (ends_below m c k) ≡ length reps
  same_count =
      let p : length (map Some (ends_below m c k)) ≡ length (ends_below m c k) =
      length-map (ends_below m c k) Some in
      let q : length (map (slice_get (faults m c)) reps) ≡ length reps =
      length-map reps (slice_get (faults m c)) in
      let r : length (map (slice_get (faults m c)) reps) ≡ length (map Some (ends_below m c k)) =
      ap length b.reps_are in
      omega (arith, p, q, r)

  -- the fault has no next: it is one more representative
  pub numbered_end : next c f ≡ None
      → Numbered m c (k + 1) (class_of ++ length reps ∷ []) (reps ++ k ∷ [])
  numbered_end none = record {
    counted = count_more;
    few = few_more;
    reps_are = are;
    each_end = each;
  }
    where
      more : ends_below m c (k + 1) ≡ ends_below m c k ++ f ∷ []
      more = below_more ∙ ap (λ o. ends_below m c k ++ (if is_none o then f ∷ [] else [])) none

      few_more : length (reps ++ k ∷ []) ≤ k + 1
      few_more =
          let h : length (reps ++ k ∷ []) ≡ length reps + 1 = length-append reps (k ∷ []) in
          omega (arith, h, b.few)

      are : map (slice_get (faults m c)) (reps ++ k ∷ []) ≡ map Some (ends_below m c (k + 1))
      are = map_push (slice_get (faults m c)) reps k
          ∙ (ap (λ x. map (slice_get (faults m c)) reps ++ x ∷ []) there
          ∙ (ap (λ xs. xs ++ Some f ∷ []) b.reps_are ∙ (sym (map_push Some (ends_below m c k) f)
          ∙ ap (map Some) (sym more))))

      each : HaveNumbers m c (k + 1) (class_of ++ length reps ∷ [])
      each i g lt at ends = go (below_or_at i k lt)
        where
          go : (i < k) ⊎ (i ≡ k) → HasNumber m c (k + 1) (class_of ++ length reps ∷ []) i g
          go (inl h) =
              let p = b.each_end i g h at ends in (
                p.0,
                at_front class_of (length reps ∷ []) i p.0 p.1,
                rw more (at_front (ends_below m c k) (f ∷ []) p.0 g p.2),
              )
          go (inr h) =
              let one : Some f ≡ Some g = sym there ∙ (ap (slice_get (faults m c)) (sym h) ∙ at) in
              let place : slice_get (class_of ++ length reps ∷ []) i ≡ Some (length reps) =
              subst (λ j. slice_get (class_of ++ length reps ∷ []) j ≡ Some (length reps))
              (b.counted ∙ sym h) (at_end class_of [] (length reps)) in
              let last : slice_get (ends_below m c k ++ f ∷ []) (length reps) ≡ Some f =
              subst (λ j. slice_get (ends_below m c k ++ f ∷ []) j ≡ Some f) same_count
              (at_end (ends_below m c k) [] f) in
              (length reps, place, ap (λ xs. slice_get xs (length reps)) more ∙ (last ∙ one))

  -- the fault has a next
  pub numbered_other : (g : Fault) → next c f ≡ Some g
      → Numbered m c (k + 1) (class_of ++ length reps ∷ []) reps
  numbered_other h some = record {
    counted = count_more;
    few = few_more;
    reps_are = b.reps_are ∙ ap (map Some) (sym more);
    each_end = each;
  }
    where
      more : ends_below m c (k + 1) ≡ ends_below m c k
      more = below_more ∙ (ap (λ o. ends_below m c k ++ (if is_none o then f ∷ [] else [])) some
          ∙ append-nil (ends_below m c k))

      few_more : length reps ≤ k + 1
      few_more = omega (arith, b.few)

      each : HaveNumbers m c (k + 1) (class_of ++ length reps ∷ [])
      each i g lt at ends = go (below_or_at i k lt)
        where
          go : (i < k) ⊎ (i ≡ k) → HasNumber m c (k + 1) (class_of ++ length reps ∷ []) i g
          go (inl j) =
              let p = b.each_end i g j at ends in
              (p.0, at_front class_of (length reps ∷ []) i p.0 p.1, rw more p.2)
          go (inr j) =
              let one : Some f ≡ Some g = sym there ∙ (ap (slice_get (faults m c)) (sym j) ∙ at) in
              let same : f ≡ g = cc in
              let bad : Some h ≡ None = sym some ∙ (ap (next c) same ∙ ends) in cc

-- the result: the place of the next fault, or none
pub answer_none : (m : Model) (c : List Statement) (k : ℕ) (f : Fault) (r : Option ℕ)
    → slice_get (faults m c) k ≡ Some f → option_map (slice_get (faults m c)) r
    ≡ option_map Some (option_and_then (next c) (slice_get (faults m c) k)) → is_none r ≡ true
    → next c f ≡ None
answer_none m c k f None there e answer =
    let h : None ≡ option_map Some (next c f) =
    e ∙ ap (λ o. option_map Some (option_and_then (next c) o)) there in
    go (next c f) h
  where
    go : (o : Option Fault) → None ≡ option_map {T = Fault} {U = Option Fault} Some o → o ≡ None
    go None h = refl
    go (Some g) h = let bad : None ≡ Some (Some g) = h in cc
answer_none m c k f (Some j) there e answer = let bad : false ≡ true = answer in cc

pub answer_some : (m : Model) (c : List Statement) (k j : ℕ) (f : Fault)
    → slice_get (faults m c) k ≡ Some f → option_map (slice_get (faults m c)) (Some j)
    ≡ option_map Some (option_and_then (next c) (slice_get (faults m c) k))
    → (g : Fault) × (next c f ≡ Some g) × (slice_get (faults m c) j ≡ Some g)
answer_some m c k j f there e =
    let h : Some (slice_get (faults m c) j) ≡ option_map Some (next c f) =
    e ∙ ap (λ o. option_map Some (option_and_then (next c) o)) there in
    go (next c f) refl h
  where
    go : (o : Option Fault) → next c f ≡ o
        → Some (slice_get (faults m c) j) ≡ option_map {T = Fault} {U = Option Fault} Some o
        → (g : Fault) × (next c f ≡ Some g) × (slice_get (faults m c) j ≡ Some g)
    go None is h = let bad : Some (slice_get (faults m c) j) ≡ None = h in cc
    go (Some g) is h =
        let it : Some (slice_get (faults m c) j) ≡ Some (Some g) = h in
        let same : slice_get (faults m c) j ≡ Some g = cc in
        (g, is, same)

pub answer_is_some : (m : Model) (c : List Statement) (k : ℕ) (f : Fault) (r : Option ℕ)
    → slice_get (faults m c) k ≡ Some f → option_map (slice_get (faults m c)) r
    ≡ option_map Some (option_and_then (next c) (slice_get (faults m c) k)) → is_none r ≡ false
    → (g : Fault) × (next c f ≡ Some g)
answer_is_some m c k f None there e answer = let bad : true ≡ false = answer in cc
answer_is_some m c k f (Some j) there e answer = let p = answer_some m c k j f there e in (p.0, p.1)

all_ends : (m : Model) (c : List Statement)
    → ends_below m c (length (faults m c)) ≡ representatives m c
all_ends m c = ap (filter (λ f. is_none (next c f))) (take_all (faults m c))

pub numbered_ends : (m : Model) (c : List Statement) (class_of reps : List ℕ)
    → Numbered m c (length (faults m c)) class_of reps → HasEnds m c class_of
numbered_ends m c class_of reps b i f at ends g other =
    let one : Some f ≡ Some g = sym at ∙ other in
    let same : f ≡ g = cc in
    let p = b.each_end i f (place_within (faults m c) i f at) at ends in
    let class : IsClassOf m c f p.0 = (
      f,
      contained (faults m c) f (at_place (faults m c) i f at),
      (here, ends),
      ap (λ xs. slice_get xs p.0) (sym (all_ends m c)) ∙ p.2,
    ) in
    (p.0, p.1, subst (λ x. IsClassOf m c x p.0) same class)
