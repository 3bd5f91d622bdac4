-- The flags of signals, while the tests of windows are added.
use Rattle.std.proofs.Common.{◌≡◌, ◌<◌, ◌≤◌, ◌+◌, ◌*◌, ◌-◌, ◌∙◌, ◌⊎◌, ℕ, suc, Bool, false, List, ap}
use Rattle.std.proofs.Common.{arith, inl, inr, length, replicate, subst, sym}
use Rattle.std.specs.Prelude.{IsTrue, Some, slice_get, slice_index_or}
use Rattle.std.proofs.lemmas.Bool.{cases_lt, false≢true}
use Rattle.std.proofs.lemmas.List.{get_or-replicate, length-replicate}
use Rattle.std.proofs.lemmas.Option.{get_or_from_slice_get, slice_get_within}
use Rattle.list_lemmas.proofs.Places.{place_within, within_place}
use Rattle.bench_net.specs.Statement.{Statement}
use Rattle.fault_model.specs.{Fault.Fault, Solution.Test}
use Rattle.patterns.specs.Tests.{blocks}
use Rattle.block_sim.specs.Parts.{Parts}
use Rattle.region_runs.specs.Windows.{IsWindowFor, IsWindowOf}
use Rattle.region_runs.proofs.Public.{looks_down, looks_up}
use Rattle.undetected.specs.Activated.{AreActivated, AreActivatedBelow, AreAdded, stem_fault}
use Rattle.undetected.specs.Activation.{ActivatesAt, IsActivated}

-- what a test of the window activates, the test of the list activates
activates_up : (c : List Statement) (tests window : List Test) (from end : ℕ) (f : Fault) (k : ℕ)
    → IsWindowOf tests (64 * from) end window → ActivatesAt c window f k
    → ActivatesAt c tests f (64 * from + k)
activates_up c tests window from end f k of a =
    let lt = slice_get_within window k a.0 a.1 in (
      a.0,
      sym (of.each k lt) ∙ a.1,
      a.2,
      looks_up c tests window (64 * from) end f.model f.line f.stuck (32 * from) k of (omega arith)
          lt a.3,
    )

-- and the other way round, unless the test before isn't in the window
activates_down : (c : List Statement) (tests window : List Test) (from end : ℕ) (f : Fault) (k : ℕ)
    → IsWindowOf tests (64 * from) end window → k < length window → (from ≡ 0) ⊎ (0 < k)
    → ActivatesAt c tests f (64 * from + k) → ActivatesAt c window f k
activates_down c tests window from end f k of lt after a = (
  a.0,
  of.each k lt ∙ a.1,
  a.2,
  looks_down c tests window (64 * from) end f.model f.line f.stuck (32 * from) k of (omega arith)
      lt (go after) a.3,
)
  where
    go : (from ≡ 0) ⊎ (0 < k) → (64 * from ≡ 0) ⊎ (0 < k)
    go (inl e) = inl (omega (arith, e))
    go (inr low) = inr low

-- so a test of the window activates a fault if one of the list does, from the first new one on
window_activates : (all window : Parts) (from first end : ℕ) (s : ℕ) (bit : Bool)
    → IsWindowFor all from first end window
    → IsActivated window.circuit window.tests.tests (stem_fault window.list.model s bit)
    → (t : ℕ) × (t < 64 * end)
    × ActivatesAt all.circuit all.tests.tests (stem_fault all.list.model s bit) t
window_activates all window from first end s bit is a =
    let own = subst (λ (j : Parts). ActivatesAt j.circuit window.tests.tests
    (stem_fault j.list.model s bit) a.0) is.is a.1 in
    let lt = slice_get_within window.tests.tests a.0 own.0 own.1 in (
      64 * from + a.0,
      omega (arith, lt, is.of.within),
      activates_up all.circuit all.tests.tests window.tests.tests from (64 * end)
          (stem_fault all.list.model s bit) a.0 is.of own,
    )

list_activates : (all window : Parts) (from first end : ℕ) (s t : ℕ) (bit : Bool)
    → IsWindowFor all from first end window → 64 * first ≤ t → t < 64 * end
    → ActivatesAt all.circuit all.tests.tests (stem_fault all.list.model s bit) t
    → IsActivated window.circuit window.tests.tests (stem_fault window.list.model s bit)
list_activates all window from first end s t bit is low high a =
    let k = t - 64 * from in
    let within = is.of.all t a.0 high a.1 in
    let same : 64 * from + k ≡ t = omega (arith, from_first is.before, low) in
    let there = activates_down all.circuit all.tests.tests window.tests.tests from (64 * end)
    (stem_fault all.list.model s bit) k is.of (omega (arith, within, same)) (after is.before)
    (subst (ActivatesAt all.circuit all.tests.tests (stem_fault all.list.model s bit)) (sym same)
    a) in (
      k,
      subst (λ (j : Parts). ActivatesAt j.circuit window.tests.tests
          (stem_fault j.list.model s bit) k) (sym is.is) there,
    )
  where
    from_first : ((from ≡ 0) × (first ≡ 0)) ⊎ (suc from ≡ first) → from ≤ first
    from_first (inl e) = omega (arith, e.0)
    from_first (inr e) = omega (arith, e)

    after : ((from ≡ 0) × (first ≡ 0)) ⊎ (suc from ≡ first) → (from ≡ 0) ⊎ (0 < t - 64 * from)
    after (inl e) = inl e.0
    after (inr e) = inr (omega (arith, e, low))

-- flags of the tests before a window, with those of the window added, are those of both
pub below_added : (all window : Parts) (from first end : ℕ) (bit : Bool) (old flags : List Bool)
    → IsWindowFor all from first end window → length old ≡ length flags
    → AreActivatedBelow all bit (64 * first) old → AreAdded window bit old flags
    → AreActivatedBelow all bit (64 * end) flags
below_added all window from first end bit old flags is same below added s flag at =
    (λ e. there ((added s was.0 flag was.1 at).0 e), λ h. (added s was.0 flag was.1 at).1 (back h))
  where
    was : (o : Bool) × (slice_get old s ≡ Some o)
    was = within_place old s (omega (arith, slice_get_within flags s flag at, same))

    there : IsTrue was.0
        ⊎ IsActivated window.circuit window.tests.tests (stem_fault window.list.model s bit)
        → (t : ℕ) × (t < 64 * end)
        × ActivatesAt all.circuit all.tests.tests (stem_fault all.list.model s bit) t
    there (inl e) =
        let h = (below s was.0 was.1).0 e in
        (h.0, omega (arith, h.1, is.order), h.2)
    there (inr a) = window_activates all window from first end s bit is a

    go : (h : (t : ℕ) × (t < 64 * end)
        × ActivatesAt all.circuit all.tests.tests (stem_fault all.list.model s bit) t)
        → (h.0 < 64 * first) ⊎ (64 * first ≤ h.0) → IsTrue was.0
        ⊎ IsActivated window.circuit window.tests.tests (stem_fault window.list.model s bit)
    go h (inl lt) = inl ((below s was.0 was.1).1 (h.0, lt, h.2))
    go h (inr le) = inr (list_activates all window from first end s h.0 bit is le h.1 h.2)

    back : (t : ℕ) × (t < 64 * end)
        × ActivatesAt all.circuit all.tests.tests (stem_fault all.list.model s bit) t → IsTrue was.0
        ⊎ IsActivated window.circuit window.tests.tests (stem_fault window.list.model s bit)
    back h = go h (cases_lt h.0 (64 * first))

-- the flags of all blocks are those of all tests
pub all_below : (job : Parts) (bit : Bool) (flags : List Bool)
    → AreActivatedBelow job bit (64 * blocks (length job.tests.tests)) flags
    → AreActivated job bit flags
all_below job bit flags below s flag at =
    let own = below s flag at in (
      λ e. let h = own.0 e in (h.0, h.2),
      λ h. let lt = place_within job.tests.tests h.0 h.1.0 h.1.1 in
          own.1 (h.0, omega (arith, lt), h.1),
    )

-- no flag is set of no test
pub none_below : (job : Parts) (bit : Bool) (n : ℕ) (flags : List Bool)
    → flags ≡ replicate n false → AreActivatedBelow job bit 0 flags
none_below job bit n flags is s flag at =
    let low = slice_get_within flags s flag at in
    let long : length flags ≡ n = ap length is ∙ length-replicate n false in
    let clear : flag ≡ false = sym (get_or_from_slice_get flags s flag false at)
    ∙ (ap (λ l. slice_index_or l s false) is
    ∙ get_or-replicate n s false false (omega (arith, low, long))) in (
      λ e. absurd (false≢true (sym clear ∙ e)),
      λ h. absurd (omega (arith, h.1)),
    )
