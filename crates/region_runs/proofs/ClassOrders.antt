-- The classes of a part, in the order of all classes.
use Rattle.std.proofs.Common.{◌≡◌, ◌<◌, ◌≤◌, ◌+◌, ◌⊎◌, inl, inr, ℕ, List, [], ◌∷◌, ◌++◌, length}
use Rattle.std.proofs.Common.{Some, sym, ap, ◌∙◌, subst, arith, length-append}
use Rattle.std.{specs.Prelude.slice_get, proofs.lemmas.Bool.cases_lt}
use Rattle.std.proofs.lemmas.Option.{slice_get_within}
use Rattle.block_sim.specs.Parts.{Parts}
use Rattle.region_sim.specs.ClassOrder.{AreAllByRegion}
use Rattle.region_runs.specs.Part.{ArePartOf, IsOfPart}
use Rattle.region_runs.proofs.PushedLists.{kept, last_of, pushed}

-- the classes of a part among the first n of a list
pub record AreOwnUpTo (job : Parts) (parts part : ℕ) (classes : List ℕ) (n : ℕ)
    (own : List ℕ) : Type 0 where
  pub each : (k class : ℕ) → slice_get own k ≡ Some class
      → (j : ℕ) × (j < n) × (slice_get classes j ≡ Some class) × IsOfPart job parts part class
  pub all : (j class : ℕ) → j < n → slice_get classes j ≡ Some class
      → IsOfPart job parts part class → (k : ℕ) × (slice_get own k ≡ Some class)
  pub ordered : (i k first second : ℕ) → i < k → slice_get own i ≡ Some first
      → slice_get own k ≡ Some second → (a b : ℕ) × (a < b) × (slice_get classes a ≡ Some first)
      × (slice_get classes b ≡ Some second)
  pub few : length own ≤ n

-- one class more, which is of the part
pub own_more : (job : Parts) (parts part : ℕ) (classes : List ℕ) (n class : ℕ) (own : List ℕ)
    → AreOwnUpTo job parts part classes n own → slice_get classes n ≡ Some class
    → IsOfPart job parts part class → AreOwnUpTo job parts part classes (n + 1) (own ++ class ∷ [])
own_more job parts part classes n class own was here of = record {
  each = λ k c at. each k c (pushed own class c k at);
  all = λ j c lt at is. all j c lt at is (cases_lt j n);
  ordered = λ i k first second lt ea eb.
      ordered i k first second lt (pushed own class first i ea) (pushed own class second k eb);
  few = omega (arith, was.few, length-append own (class ∷ []));
}
  where
    each : (k c : ℕ) → (slice_get own k ≡ Some c) ⊎ ((k ≡ length own) × (class ≡ c))
        → (j : ℕ) × (j < n + 1) × (slice_get classes j ≡ Some c) × IsOfPart job parts part c
    each k c (inl h) = let x = was.each k c h in (x.0, omega (arith, x.1), x.2, x.3)
    each k c (inr h) = (n, omega arith, here ∙ ap Some h.1, subst (IsOfPart job parts part) h.1 of)

    all : (j c : ℕ) → j < n + 1 → slice_get classes j ≡ Some c → IsOfPart job parts part c
        → (j < n) ⊎ (n ≤ j) → (k : ℕ) × (slice_get (own ++ class ∷ []) k ≡ Some c)
    all j c lt at is (inl low) =
        let x = was.all j c low at is in (x.0, kept own (class ∷ []) x.0 c x.1)
    all j c lt at is (inr high) =
        let last : n ≡ j = omega (arith, lt, high) in
        let same : Some class ≡ Some c = sym here ∙ ap (λ k. slice_get classes k) last ∙ at in
        (length own, last_of own class ∙ same)

    ordered : (i k first second : ℕ) → i < k
        → (slice_get own i ≡ Some first) ⊎ ((i ≡ length own) × (class ≡ first))
        → (slice_get own k ≡ Some second) ⊎ ((k ≡ length own) × (class ≡ second))
        → (a b : ℕ) × (a < b) × (slice_get classes a ≡ Some first)
        × (slice_get classes b ≡ Some second)
    ordered i k first second lt (inl h) (inl m) = was.ordered i k first second lt h m
    ordered i k first second lt (inl h) (inr m) = let x = was.each i first h in
        (x.0, n, x.1, x.2, here ∙ ap Some m.1)
    ordered i k first second lt (inr h) (inl m) =
        absurd (omega (arith, lt, h.0, slice_get_within own k second m))
    ordered i k first second lt (inr h) (inr m) = absurd (omega (arith, lt, h.0, m.0))

-- one class more, which is not
pub own_past : (job : Parts) (parts part : ℕ) (classes : List ℕ) (n class : ℕ) (own : List ℕ)
    → AreOwnUpTo job parts part classes n own → slice_get classes n ≡ Some class
    → (IsOfPart job parts part class → ⊥) → AreOwnUpTo job parts part classes (n + 1) own
own_past job parts part classes n class own was here not = record {
  each = λ k c at. let x = was.each k c at in (x.0, omega (arith, x.1), x.2, x.3);
  all = λ j c lt at is. all j c lt at is (cases_lt j n);
  ordered = was.ordered;
  few = omega (arith, was.few);
}
  where
    all : (j c : ℕ) → j < n + 1 → slice_get classes j ≡ Some c → IsOfPart job parts part c
        → (j < n) ⊎ (n ≤ j) → (k : ℕ) × (slice_get own k ≡ Some c)
    all j c lt at is (inl low) = was.all j c low at is
    all j c lt at is (inr high) =
        let last : j ≡ n = omega (arith, lt, high) in
        let same : Some c ≡ Some class = sym at ∙ ap (λ k. slice_get classes k) last ∙ here in
        let one : c ≡ class = cc in
        absurd (not (subst (IsOfPart job parts part) one is))

-- those of all classes are the classes of the part
pub part_in_order : (job : Parts) (parts part : ℕ) (classes own : List ℕ)
    → AreAllByRegion job classes → AreOwnUpTo job parts part classes (length classes) own
    → ArePartOf job parts part own
part_in_order job parts part classes own all up = record {
  visits = all.visits;
  each = λ k class at. let x = up.each k class at in ((all.each x.0 class x.2).0, x.3);
  all = λ class lt of.
      let x = all.all class lt tt in
      up.all x.0 class (slice_get_within classes x.0 class x.1) x.1 of;
  ordered = λ i k first second lt ea eb.
      let x = up.ordered i k first second lt ea eb in
      all.ordered x.0 x.1 first second x.2 x.3 x.4;
  few = omega (arith, up.few, all.few);
}
