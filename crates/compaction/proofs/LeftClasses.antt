-- The classes of a list that have no last test, one class after another.
use Rattle.std.proofs.Common.{◌≡◌, ◌<◌, ◌≤◌, ◌+◌, ◌++◌, ◌∷◌, ◌∙◌, ◌⊎◌, [], ℕ, zero, suc, Bool, true}
use Rattle.std.proofs.Common.{false, List, ap, arith, inl, inr, length, not, refl, subst, sym}
use Rattle.std.specs.Prelude.{None, Option, Some, is_some, slice_get}
use Rattle.std.proofs.lemmas.{Bool.{cases_lt, false≢true}, List.length-append}
use Rattle.region_runs.proofs.Public.{pushed}
use Rattle.compaction.specs.Turns.{AreLeftOpen}

kept : {X : Type 0} (xs ys : List X) (k : ℕ) (x : X) → slice_get xs k ≡ Some x
    → slice_get (xs ++ ys) k ≡ Some x
kept [] ys k x e = let bad : None ≡ Some x = e in absurd (cc)
kept (z ∷ xs) ys zero x e = e
kept (z ∷ xs) ys (suc k) x e = kept xs ys k x e

last_of : {X : Type 0} (xs : List X) (x : X) → slice_get (xs ++ x ∷ []) (length xs) ≡ Some x
last_of [] x = refl
last_of (z ∷ xs) x = last_of xs x

module _ (classes : List ℕ) (lasts : List (Option ℕ)) (n : ℕ) (left : List ℕ)
    (was : AreLeftOpen classes lasts n left) where
  -- a class without a last test is left
  pub left_one : (class : ℕ) → slice_get classes n ≡ Some class → slice_get lasts n ≡ Some None
      → AreLeftOpen classes lasts (n + 1) (left ++ class ∷ [])
  left_one class here none = record {
    few = let f = was.few in let more = length-append left (class ∷ []) in omega (arith, f, more);
    each = λ k other at. each k other (pushed left class other k at);
    all = λ j other lt at last. all j other at last lt (cases_lt j n);
  }
    where
      each : (k other : ℕ) → (slice_get left k ≡ Some other) ⊎ ((k ≡ length left) × (class ≡ other))
          → (j : ℕ) × (slice_get classes j ≡ Some other) × (slice_get lasts j ≡ Some None)
      each k other (inl e) = was.each k other e
      each k other (inr e) = (n, here ∙ ap Some e.1, none)

      all : (j other : ℕ) → slice_get classes j ≡ Some other → slice_get lasts j ≡ Some None
          → j < n + 1 → (j < n) ⊎ (n ≤ j)
          → (k : ℕ) × (slice_get (left ++ class ∷ []) k ≡ Some other)
      all j other at last lt (inl low) =
          let x = was.all j other low at last in
          (x.0, kept left (class ∷ []) x.0 other x.1)
      all j other at last lt (inr past) =
          let same : j ≡ n = omega (arith, lt, past) in
          let own = sym here ∙ subst (λ k. slice_get classes k ≡ Some other) same at in
          (length left, last_of left class ∙ own)

  -- a class that has one is not
  pub left_none : (k : ℕ) → slice_get lasts n ≡ Some (Some k)
      → AreLeftOpen classes lasts (n + 1) left
  left_none k some = record {
    few = let f = was.few in omega (arith, f);
    each = was.each;
    all = λ j other lt at last. all j other at last lt (cases_lt j n);
  }
    where
      all : (j other : ℕ) → slice_get classes j ≡ Some other → slice_get lasts j ≡ Some None
          → j < n + 1 → (j < n) ⊎ (n ≤ j) → (k : ℕ) × (slice_get left k ≡ Some other)
      all j other at last lt (inl low) = was.all j other low at last
      all j other at last lt (inr past) =
          let same : j ≡ n = omega (arith, lt, past) in
          let bad : Some None ≡ Some (Some k) =
          sym (subst (λ i. slice_get lasts i ≡ Some None) same last) ∙ some in absurd (cc)

-- whether a class has a last test
pub as_none : (o : Option ℕ) (b : Bool) → is_some o ≡ not b → b ≡ true → o ≡ None
as_none None b e on = refl
as_none (Some k) b e on = absurd (false≢true (sym (e ∙ ap not on)))

pub as_some : (o : Option ℕ) (b : Bool) → is_some o ≡ not b → b ≡ false
    → (k : ℕ) × (o ≡ Some k)
as_some None b e off = absurd (false≢true (e ∙ ap not off))
as_some (Some k) b e off = (k, refl)
