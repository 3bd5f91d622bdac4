-- The tests of a window, and which of them detect a fault.
use Rattle.std.proofs.Common.{◌≡◌, ◌⊎◌, ◌<◌, ◌+◌, ◌*◌, ◌-◌, ◌∙◌, inl, inr, ℕ, zero, suc, List, Some}
use Rattle.std.{proofs.Common.{refl, sym, subst, arith, length, true, false}, specs.Prelude.Bool}
use Rattle.std.proofs.lemmas.{Bool.false≢true, Option.slice_get_within}
use Rattle.bench_net.specs.Statement.{Statement}
use Rattle.fault_model.specs.{declared.Line.Line, declared.Model.Model, Fault.Fault, Solution.Test}
use Rattle.fault_model.specs.declared.Model.TheVariants.{StuckAt, Transition, TransitionPairs}
use Rattle.fault_model.specs.Detection.{DetectsAt, IsInitialized, LooksBack}
use Rattle.patterns.specs.Tests.{TestList}
use Rattle.block_sim.specs.Parts.{Parts, with_tests}
use Rattle.region_sim.specs.Goals.{AreHits}
use Rattle.region_runs.specs.Windows.{IsWindowOf}

-- a test of the window initializes a line if the test of the list does
initialized_up : (c : List Statement) (tests window : List Test) (from end : ℕ) (l : Line)
    (b : Bool) (k : ℕ) → IsWindowOf tests from end window → k < length window
    → IsInitialized c window l b k → IsInitialized c tests l b (from + k)
initialized_up c tests window from end l b zero of lt i = absurd i
initialized_up c tests window from end l b (suc k) of lt i =
    let next : suc (from + k) ≡ from + suc k = omega arith in
    subst (IsInitialized c tests l b) next (i.0, sym (of.each k (omega (arith, lt))) ∙ i.1, i.2)

-- and the other way round, unless the test before isn't in the window
initialized_down : (c : List Statement) (tests window : List Test) (from end : ℕ) (l : Line)
    (b : Bool) (k : ℕ) → IsWindowOf tests from end window → k < length window
    → (from ≡ 0) ⊎ (0 < k) → IsInitialized c tests l b (from + k) → IsInitialized c window l b k
initialized_down c tests window from end l b zero of lt (inl e) i =
    let none : from + zero ≡ zero = omega (arith, e) in
    subst (IsInitialized c tests l b) none i
initialized_down c tests window from end l b zero of lt (inr low) i = absurd (omega (arith, low))
initialized_down c tests window from end l b (suc k) of lt after i =
    let next : from + suc k ≡ suc (from + k) = omega arith in
    let j = subst (IsInitialized c tests l b) next i in
    (j.0, of.each k (omega (arith, lt)) ∙ j.1, j.2)

-- a test of the window meets the condition of a model if the test of the list does
pub looks_up : (c : List Statement) (tests window : List Test) (from end : ℕ) (m : Model) (l : Line)
    (b : Bool) (h k : ℕ) → IsWindowOf tests from end window → from ≡ 2 * h → k < length window
    → LooksBack c window m l b k → LooksBack c tests m l b (from + k)
looks_up c tests window from end StuckAt l b h k of even lt back = tt
looks_up c tests window from end Transition l b h k of even lt back =
    initialized_up c tests window from end l b k of lt back
looks_up c tests window from end TransitionPairs l b h k of even lt back = (
  (h + back.0.0, omega (arith, even, back.0.1)),
  initialized_up c tests window from end l b k of lt back.1,
)

-- and the other way round, unless the test before isn't in the window
pub looks_down : (c : List Statement) (tests window : List Test) (from end : ℕ) (m : Model)
    (l : Line) (b : Bool) (h k : ℕ) → IsWindowOf tests from end window → from ≡ 2 * h
    → k < length window → (from ≡ 0) ⊎ (0 < k) → LooksBack c tests m l b (from + k)
    → LooksBack c window m l b k
looks_down c tests window from end StuckAt l b h k of even lt after back = tt
looks_down c tests window from end Transition l b h k of even lt after back =
    initialized_down c tests window from end l b k of lt after back
looks_down c tests window from end TransitionPairs l b h k of even lt after back = (
  (back.0.0 - h, omega (arith, even, back.0.1)),
  initialized_down c tests window from end l b k of lt after back.1,
)

-- what a test of the window detects, the test of the list detects
detects_up : (c : List Statement) (tests window : List Test) (from end : ℕ) (f : Fault) (h k : ℕ)
    → IsWindowOf tests from end window → from ≡ 2 * h → DetectsAt c window f k
    → DetectsAt c tests f (from + k)
detects_up c tests window from end f h k of even d =
    let lt = slice_get_within window k d.0 d.1 in (
      d.0,
      sym (of.each k lt) ∙ d.1,
      d.2,
      looks_up c tests window from end f.model f.line f.stuck h k of even lt d.3,
    )

detects_down : (c : List Statement) (tests window : List Test) (from end : ℕ) (f : Fault) (h k : ℕ)
    → IsWindowOf tests from end window → from ≡ 2 * h → k < length window
    → (from ≡ 0) ⊎ (0 < k) → DetectsAt c tests f (from + k) → DetectsAt c window f k
detects_down c tests window from end f h k of even lt after d = (
  d.0,
  of.each k lt ∙ d.1,
  d.2,
  looks_down c tests window from end f.model f.line f.stuck h k of even lt after d.3,
)

-- a test of the window is a hit if it is one of the list, unless it is the first of the window and
-- the test before isn't there
pub same_hits : (job : Parts) (some : TestList) (from end h class t : ℕ) (hits own : ℕ → Bool)
    → IsWindowOf job.tests.tests from end some.tests → from ≡ 2 * h → (from ≡ 0) ⊎ (0 < t)
    → from + t < end → AreHits job class hits → AreHits (with_tests job some) class own
    → own t ≡ hits (from + t)
same_hits job some from end h class t hits own of even after lt all mine =
    go (own t) (hits (from + t)) refl refl
  where
    same : mine.0 ≡ all.0
    same =
        let both : Some mine.0 ≡ Some all.0 = sym mine.1 ∙ all.1 in
        cc

    go : (a b : Bool) → own t ≡ a → hits (from + t) ≡ b → own t ≡ hits (from + t)
    go true true e f = e ∙ sym f
    go false false e f = e ∙ sym f
    go true false e f =
        let up = detects_up job.circuit job.tests.tests some.tests from end mine.0 h t of even
        ((mine.2 t).0 e) in
        let hit = (all.2 (from + t)).1
        (subst (λ r. DetectsAt job.circuit job.tests.tests r (from + t)) same up) in
        absurd (false≢true (sym f ∙ hit))
    go false true e f =
        let d = (all.2 (from + t)).0 f in
        let within = of.all (from + t) d.0 lt d.1 in
        let down = detects_down job.circuit job.tests.tests some.tests from end all.0 h t of even
        (omega (arith, within)) after d in
        let hit = (mine.2 t).1
        (subst (λ r. DetectsAt job.circuit some.tests r t) (sym same) down) in
        absurd (false≢true (sym e ∙ hit))
