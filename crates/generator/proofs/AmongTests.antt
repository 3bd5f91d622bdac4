-- Tests that are among others, and tests that are allowed.
use Rattle.std.proofs.Common.{◌≡◌, ◌∙◌, ◌⊎◌, ◌++◌, inl, inr, ℕ, Bool, true, false, List, [], ◌∷◌}
use Rattle.std.{proofs.Common.{Option, Some, None, ap, zero, suc}, specs.Prelude.slice_get}
use Rattle.list_lemmas.proofs.Members.{Among, among_append, among_left, among_right}
use Rattle.list_lemmas.proofs.Places.{at_place, placed}
use Rattle.compaction.specs.Compaction.{at_marks}
use Rattle.generator.specs.{Held.AreAllowed, Keeping.AreAmong}

-- one test more
pub pushed_among : (some tests : List (List Bool)) (x : List Bool) (j : ℕ) → AreAmong some tests
    → slice_get tests j ≡ Some x → AreAmong (some ++ x ∷ []) tests
pushed_among some tests x j was at k test e =
    go (among_append some (x ∷ []) test (at_place (some ++ x ∷ []) k test e))
  where
    go : Among test some ⊎ Among test (x ∷ []) → (i : ℕ) × (slice_get tests i ≡ Some test)
    go (inl a) = let p = placed some test a in was p.0 test p.1
    go (inr (inl same)) = (j, at ∙ ap (λ t. Some t) same)
    go (inr (inr none)) = absurd none

pub among_more : (some more tests : List (List Bool)) → AreAmong some more → AreAmong more tests
    → AreAmong some tests
among_more some more tests are also k test e =
    let at = are k test e in also at.0 test at.1

pub among_front : (tests more : List (List Bool)) → AreAmong tests (tests ++ more)
among_front tests more k test e =
    placed (tests ++ more) test (among_left tests more test (at_place tests k test e))

pub among_back : (tests more : List (List Bool)) → AreAmong more (tests ++ more)
among_back tests more k test e =
    placed (tests ++ more) test (among_right tests more test (at_place more k test e))

-- the marked tests of a list
pub marked_among : (marks : List Bool) (tests : List (List Bool))
    → AreAmong (at_marks marks tests) tests
marked_among [] tests k test e = let bad : None ≡ Some test = e in absurd (cc)
marked_among (mark ∷ marks) [] k test e = let bad : None ≡ Some test = e in absurd (cc)
marked_among (true ∷ marks) (x ∷ tests) zero test e = (0, e)
marked_among (true ∷ marks) (x ∷ tests) (suc k) test e =
    let at = marked_among marks tests k test e in (suc at.0, at.1)
marked_among (false ∷ marks) (x ∷ tests) k test e =
    let at = marked_among marks tests k test e in (suc at.0, at.1)

-- ---- tests that are allowed

pub allowed_among : (bits : List (Option Bool)) (some tests : List (List Bool))
    → AreAmong some tests → AreAllowed bits tests → AreAllowed bits some
allowed_among bits some tests are allowed k test e =
    let at = are k test e in allowed at.0 test at.1

pub allowed_joined : (bits : List (Option Bool)) (tests more : List (List Bool))
    → AreAllowed bits tests → AreAllowed bits more → AreAllowed bits (tests ++ more)
allowed_joined bits tests more are also k test e =
    go (among_append tests more test (at_place (tests ++ more) k test e))
  where
    go : Among test tests ⊎ Among test more → (place : ℕ) (b : Bool)
        → slice_get bits place ≡ Some (Some b) → slice_get test place ≡ Some b
    go (inl a) = let p = placed tests test a in are p.0 test p.1
    go (inr a) = let p = placed more test a in also p.0 test p.1
