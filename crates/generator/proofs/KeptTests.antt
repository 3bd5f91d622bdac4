-- Wanted tests, and the beginning of the kept tests.
use Rattle.std.proofs.Common.{◌≡◌, ◌<◌, ◌≤◌, ◌+◌, ◌∙◌, ◌⊎◌, inl, inr, ℕ, zero, suc, Bool, true}
use Rattle.std.proofs.Common.{false, List, [], ◌∷◌, ◌++◌, length, set, Some, None, refl, sym, ap}
use Rattle.std.{proofs.Common.{Option, subst, arith}, specs.Prelude.slice_get}
use Rattle.std.proofs.lemmas.{Bool.cases_lt, List.length-append, Option.slice_get_within}
use Rattle.list_lemmas.proofs.Places.{within_place}
use Rattle.generator.specs.Keeping.{AreNeeded, HasFirst, HasMark, IsFirstWanted, IsMarked, IsWanted}

-- an element of a list is also an element of the list with one more
pub pushed_stay : {X : Type 0} (xs : List X) (y x : X) (k : ℕ) → slice_get xs k ≡ Some x
    → slice_get (xs ++ y ∷ []) k ≡ Some x
pushed_stay [] y x k e = let bad : None ≡ Some x = e in absurd (cc)
pushed_stay (z ∷ xs) y x zero e = e
pushed_stay (z ∷ xs) y x (suc k) e = pushed_stay xs y x k e

pub pushed_last : {X : Type 0} (xs : List X) (y : X) → slice_get (xs ++ y ∷ []) (length xs) ≡ Some y
pushed_last [] y = refl
pushed_last (z ∷ xs) y = pushed_last xs y

-- ---- the first wanted test

-- of marks one is the first
pub first_mark : (marks : List Bool) → HasMark marks
    → (t : ℕ) × IsMarked marks t × ((j : ℕ) → j < t → IsMarked marks j → ⊥)
first_mark [] h = let bad : None ≡ Some true = h.1 in absurd (cc)
first_mark (true ∷ marks) h = (0, refl, λ j lt x. omega (arith, lt))
first_mark (false ∷ marks) (zero, e) = let bad : Some false ≡ Some true = e in absurd (cc)
first_mark (false ∷ marks) (suc t, e) =
    let h = first_mark marks (t, e) in (suc h.0, h.1, λ j lt x. go h.0 h.2 j lt x)
  where
    go : (n : ℕ) → ((j : ℕ) → j < n → IsMarked marks j → ⊥) → (j : ℕ) → j < suc n
        → IsMarked (false ∷ marks) j → ⊥
    go n none zero lt x = let bad : Some false ≡ Some true = x in absurd (cc)
    go n none (suc j) lt x = none j (omega (arith, lt)) x

-- if each test counts by itself, it is the first marked test
pub wanted_alone : (marks : List Bool) (t : ℕ) → IsMarked marks t
    → ((j : ℕ) → j < t → IsMarked marks j → ⊥) → IsFirstWanted marks false t
wanted_alone marks t e none = record { wanted = inl e; first = λ j lt w. go j lt w }
  where
    go : (j : ℕ) → j < t → IsWanted marks false j → ⊥
    go j lt (inl x) = none j lt x
    go j lt (inr x) = let bad : false ≡ true = x.0 in absurd (cc)

-- in pairs it is the test before that
pub wanted_before : (marks : List Bool) (t : ℕ) → IsMarked marks (suc t)
    → ((j : ℕ) → j < suc t → IsMarked marks j → ⊥) → IsFirstWanted marks true t
wanted_before marks t e none = record { wanted = inr (refl, next); first = λ j lt w. go j lt w }
  where
    next : IsMarked marks (t + 1)
    next = let same : suc t ≡ t + 1 = omega arith in subst (IsMarked marks) same e

    go : (j : ℕ) → j < t → IsWanted marks true j → ⊥
    go j lt (inl x) = none j (omega (arith, lt)) x
    go j lt (inr x) = none (j + 1) (omega (arith, lt)) x.1

pub wanted_behind : (marks : List Bool) (pairs : Bool) (t : ℕ) → IsMarked marks (suc t)
    → IsWanted marks pairs (t + 1)
wanted_behind marks pairs t e =
    let same : suc t ≡ t + 1 = omega arith in inl (subst (IsMarked marks) same e)

-- ---- the beginning of the kept tests

-- The wanted tests of a list are kept. This many tests were visited, none was kept before, and the
-- first wanted test is this one.
pub record IsBegun (tests : List (List Bool)) (marks : List Bool) (pairs : Bool) (s test : ℕ)
    (kept : List (List Bool)) : Type 0 where
  pub before : test ≤ s → length kept ≡ 0
  pub first : s < test → slice_get kept 0 ≡ slice_get tests s
  pub one : test ≡ s + 1 → length kept ≡ 1
  pub second : s + 1 < test → IsWanted marks pairs (s + 1)
      → slice_get kept 1 ≡ slice_get tests (s + 1)

module _ (tests : List (List Bool)) (marks : List Bool) (pairs : Bool) (s test : ℕ)
    (kept : List (List Bool)) (is : IsFirstWanted marks pairs s)
    (was : IsBegun tests marks pairs s test kept) where
  -- one test more, which isn't wanted
  pub begun_skipped : (IsWanted marks pairs test → ⊥) → IsBegun tests marks pairs s (test + 1) kept
  begun_skipped not = record {
    before = λ le. was.before (omega (arith, le));
    first = λ lt. go (cases_lt s test) lt;
    one = λ e.
        let same : s ≡ test = omega (arith, e) in
        absurd (not (subst (IsWanted marks pairs) same is.wanted));
    second = λ lt w. two (cases_lt (s + 1) test) lt w;
  }
    where
      go : (s < test) ⊎ (test ≤ s) → s < test + 1 → slice_get kept 0 ≡ slice_get tests s
      go (inl l) lt = was.first l
      go (inr l) lt =
          let same : s ≡ test = omega (arith, l, lt) in
          absurd (not (subst (IsWanted marks pairs) same is.wanted))

      two : (s + 1 < test) ⊎ (test ≤ s + 1) → s + 1 < test + 1 → IsWanted marks pairs (s + 1)
          → slice_get kept 1 ≡ slice_get tests (s + 1)
      two (inl l) lt w = was.second l w
      two (inr l) lt w =
          let same : s + 1 ≡ test = omega (arith, l, lt) in
          absurd (not (subst (IsWanted marks pairs) same w))

  -- or for which there is no room
  pub begun_full : 2 ≤ length kept → IsBegun tests marks pairs s (test + 1) kept
  begun_full full = record {
    before = λ le. was.before (omega (arith, le));
    first = λ lt. go (cases_lt s test) lt;
    one = λ e.
        let none = was.before (omega (arith, e)) in absurd (omega (arith, none, full));
    second = λ lt w. two (cases_lt (s + 1) test) lt w;
  }
    where
      go : (s < test) ⊎ (test ≤ s) → s < test + 1 → slice_get kept 0 ≡ slice_get tests s
      go (inl l) lt = was.first l
      go (inr l) lt = let none = was.before l in absurd (omega (arith, none, full))

      two : (s + 1 < test) ⊎ (test ≤ s + 1) → s + 1 < test + 1 → IsWanted marks pairs (s + 1)
          → slice_get kept 1 ≡ slice_get tests (s + 1)
      two (inl l) lt w = was.second l w
      two (inr l) lt w =
          let one = was.one (omega (arith, l, lt)) in absurd (omega (arith, one, full))

  -- or which is kept
  pub begun_more : (x : List Bool) → IsWanted marks pairs test → slice_get tests test ≡ Some x
      → IsBegun tests marks pairs s (test + 1) (kept ++ x ∷ [])
  begun_more x wanted at = record {
    before = λ le. absurd (is.first test (omega (arith, le)) wanted);
    first = λ lt. go (cases_lt s test) lt;
    one = λ e.
        let none = was.before (omega (arith, e)) in
        let more = length-append kept (x ∷ []) in omega (arith, none, more);
    second = λ lt w. two (cases_lt (s + 1) test) lt w;
  }
    where
      low : test < length tests
      low = slice_get_within tests test x at

      go : (s < test) ⊎ (test ≤ s) → s < test + 1 → slice_get (kept ++ x ∷ []) 0 ≡ slice_get tests s
      go (inl l) lt =
          let v = within_place tests s (omega (arith, l, low)) in
          pushed_stay kept x v.0 0 (was.first l ∙ v.1) ∙ sym v.1
      go (inr l) lt =
          let same : test ≡ s = omega (arith, l, lt) in
          ap (slice_get (kept ++ x ∷ [])) (sym (was.before l))
          ∙ (pushed_last kept x ∙ (sym at ∙ ap (slice_get tests) same))

      two : (s + 1 < test) ⊎ (test ≤ s + 1) → s + 1 < test + 1 → IsWanted marks pairs (s + 1)
          → slice_get (kept ++ x ∷ []) 1 ≡ slice_get tests (s + 1)
      two (inl l) lt w =
          let v = within_place tests (s + 1) (omega (arith, l, low)) in
          pushed_stay kept x v.0 1 (was.second l w ∙ v.1) ∙ sym v.1
      two (inr l) lt w =
          let same : test ≡ s + 1 = omega (arith, l, lt) in
          ap (slice_get (kept ++ x ∷ [])) (sym (was.one same))
          ∙ (pushed_last kept x ∙ (sym at ∙ ap (slice_get tests) same))

-- ---- one mark more

pub set_mark : (marks : List Bool) (t : ℕ) → t < length marks → IsMarked (set marks t true) t
set_mark [] t lt = absurd (omega (arith, lt))
set_mark (m ∷ marks) zero lt = refl
set_mark (m ∷ marks) (suc t) lt = set_mark marks t (omega (arith, lt))

pub set_only : (marks : List Bool) (t k : ℕ) → IsMarked (set marks t true) k
    → IsMarked marks k ⊎ (k ≡ t)
set_only [] t k e = inl e
set_only (m ∷ marks) zero zero e = inr refl
set_only (m ∷ marks) zero (suc k) e = inl e
set_only (m ∷ marks) (suc t) zero e = inl e
set_only (m ∷ marks) (suc t) (suc k) e = go (set_only marks t k e)
  where
    go : IsMarked marks k ⊎ (k ≡ t) → IsMarked (m ∷ marks) (suc k) ⊎ (suc k ≡ suc t)
    go (inl x) = inl x
    go (inr x) = inr (ap suc x)

-- ---- at first no test is marked

-- no test is wanted if no class has a first test
pub none_wanted : (firsts : List (Option ℕ)) (marks : List Bool) (pairs : Bool)
    → AreNeeded firsts marks → ((t : ℕ) → HasFirst firsts t → ⊥) → (t : ℕ)
    → IsWanted marks pairs t → ⊥
none_wanted firsts marks pairs are none t (inl e) = none t (are.first t e)
none_wanted firsts marks pairs are none t (inr e) = none (t + 1) (are.first (t + 1) e.1)
