-- The results of a search, round by round.
use Rattle.std.proofs.Common.{◌≡◌, ◌<◌, ◌≤◌, ◌+◌, ◌*◌, ◌∙◌, ◌⊎◌, inl, inr, ℕ, zero, suc, Bool, List}
use Rattle.std.proofs.Common.{Option, Some, length, refl, sym, ap, subst, arith}
use Rattle.std.{specs.Prelude.slice_get, proofs.Math.Nat.{mul-le-mul_left, suc-mul}}
use Rattle.std.proofs.lemmas.{Bool.cases_lt, Option.slice_get_within}
use Rattle.bench_net.specs.{Scan.sources, Statement.Statement}
use Rattle.fault_model.specs.declared.Model.{Model}
use Rattle.block_sim.specs.Parts.{BelongTogether, Parts}
use Rattle.compaction.specs.Compaction.{IsCompaction}
use Rattle.workers.specs.Verdict.{AreClassFirsts}
use Rattle.generator.specs.Generated.{DetectsEarly, DetectsSome, FindsNone, IsInVain}
use Rattle.generator.specs.{Keeping.{AreLeft, HasFirst}, RandomTests.IsRound}
use Rattle.generator.proofs.Detected.{early_along, no_class, none_detects, some_first}

-- nothing is kept: all of n classes are left, and all rounds so far were in vain
pub record IsEmptyHanded (m : Model) (c : List Statement) (bits : List (Option Bool))
    (seed blocks n : ℕ) (left : List ℕ)
    (kept : List (List Bool)) (round quiet : ℕ) : Type 0 where
  pub none : length kept ≡ 0
  pub all : (class : ℕ) → class < n → (k : ℕ) × (slice_get left k ≡ Some class)
  pub tried : (k : ℕ) → k < round → IsInVain m c bits seed blocks k
  pub count : quiet ≡ round * blocks

-- so far the kept tests detect a fault early, or nothing is kept
abbrev pub IsSearching : Model → List Statement → List (Option Bool) → ℕ → ℕ → ℕ → List ℕ
    → List (List Bool) → ℕ → ℕ → Type 0
IsSearching m c bits seed blocks n left kept round quiet =
    DetectsEarly m c kept ⊎ IsEmptyHanded m c bits seed blocks n left kept round quiet

-- at first nothing is kept
pub searching_none : (m : Model) (c : List Statement) (bits : List (Option Bool))
    (seed blocks n : ℕ) (left : List ℕ) (kept : List (List Bool)) → length kept ≡ 0
    → ((class : ℕ) → class < n → (k : ℕ) × (slice_get left k ≡ Some class))
    → IsSearching m c bits seed blocks n left kept 0 0
searching_none m c bits seed blocks n left kept none all = inr (record {
  none = none;
  all = all;
  tried = λ k lt. absurd (omega (arith, lt));
  count = omega arith;
})

-- one round more
pub searching_more : (job : Parts) (left : List ℕ) (firsts : List (Option ℕ)) (still : List ℕ)
    (old new : List (List Bool)) (bits : List (Option Bool))
    (room seed blocks round quiet next : ℕ) → BelongTogether job
    → AreClassFirsts job.list.model job.circuit job.tests.tests left firsts
    → IsRound seed (length (sources job.circuit)) blocks bits round job.tests → 2 ≤ room
    → ((k : ℕ) (test : List Bool) → slice_get old k ≡ Some test → slice_get new k ≡ Some test)
    → (((t : ℕ) → HasFirst firsts t → ⊥) → new ≡ old)
    → (length old ≡ 0 → 2 ≤ room → (t : ℕ) → HasFirst firsts t
    → DetectsEarly job.list.model job.circuit new)
    → AreLeft left firsts still → (length still ≡ length left → next ≡ quiet + blocks)
    → IsSearching job.list.model job.circuit bits seed blocks
    (length job.classes.representative) left old round quiet
    → IsSearching job.list.model job.circuit bits seed blocks
    (length job.classes.representative) still new (round + 1) next
searching_more job left firsts still old new bits room seed blocks round quiet next b are
    is_round big
    stay none early left_is counted was = go was
  where
    n : ℕ
    n = length job.classes.representative

    more : round * blocks + blocks ≡ (round + 1) * blocks
    more =
        let one : suc round ≡ round + 1 = omega arith in
        sym (suc-mul round blocks) ∙ ap (λ (r : ℕ). r * blocks) one

    go : IsSearching job.list.model job.circuit bits seed blocks n left old round quiet
        → IsSearching job.list.model job.circuit bits seed blocks n still new (round + 1) next
    go (inl d) =
        inl (early_along job.list.model job.circuit old new (λ k row low e. stay k row e) d)
    go (inr e) = pick (some_first firsts)
      where
        vain : ((t : ℕ) → HasFirst firsts t → ⊥)
            → IsInVain job.list.model job.circuit bits seed blocks round
        vain nothing =
            (job.tests, is_round, λ d. none_detects job left firsts b e.all are nothing d)

        each : ((t : ℕ) → HasFirst firsts t → ⊥) → (k : ℕ) → k < round + 1
            → IsInVain job.list.model job.circuit bits seed blocks k
        each nothing k lt = by (cases_lt k round)
          where
            by : (k < round) ⊎ (round ≤ k) → IsInVain job.list.model job.circuit bits seed blocks k
            by (inl l) = e.tried k l
            by (inr l) =
                let same : round ≡ k = omega (arith, l, lt) in
                subst (IsInVain job.list.model job.circuit bits seed blocks) same (vain nothing)

        pick : ((t : ℕ) × HasFirst firsts t) ⊎ ((t : ℕ) → HasFirst firsts t → ⊥)
            → IsSearching job.list.model job.circuit bits seed blocks n still new (round + 1) next
        pick (inl h) = inl (early e.none big h.0 h.1)
        pick (inr nothing) =
            let same : still ≡ left = left_is.same are.count nothing in
            inr (record {
              none = ap (λ (l : List (List Bool)). length l) (none nothing) ∙ e.none;
              all = subst (λ (l : List ℕ).
                  (class : ℕ) → class < n → (k : ℕ) × (slice_get l k ≡ Some class))
                  (sym same) e.all;
              tried = each nothing;
              count = counted (ap (λ (l : List ℕ). length l) same)
                  ∙ (ap (λ (q : ℕ). q + blocks) e.count ∙ more);
            })

-- the same under other names of the model, the circuit and the number of classes
pub searching_along : (m o : Model) (c d : List Statement) (bits : List (Option Bool))
    (seed blocks n p : ℕ) (left : List ℕ)
    (kept : List (List Bool)) (round quiet : ℕ) → m ≡ o → c ≡ d → n ≡ p
    → IsSearching m c bits seed blocks n left kept round quiet
    → IsSearching o d bits seed blocks p left kept round quiet
searching_along m o c d bits seed blocks n p left kept round quiet model circuit number is =
    subst (λ x. IsSearching o d bits seed blocks x left kept round quiet) number
    (subst (λ x. IsSearching o x bits seed blocks n left kept round quiet) circuit
    (subst (λ x. IsSearching x c bits seed blocks n left kept round quiet) model is))

-- a finished search
pub search_over : (job : Parts) (left : List ℕ) (kept : List (List Bool))
    (bits : List (Option Bool)) (room seed blocks round quiet : ℕ) → BelongTogether job → 1 ≤ room
    → (length left ≡ 0) ⊎ ((20 ≤ quiet) ⊎ (room ≤ length kept))
    → IsSearching job.list.model job.circuit bits seed blocks
    (length job.classes.representative) left kept round quiet
    → DetectsEarly job.list.model job.circuit kept ⊎ FindsNone job.list.model job.circuit bits seed
search_over job left kept bits room seed blocks round quiet b some over (inl d) = inl d
search_over job left kept bits room seed blocks round quiet b some over (inr e) = inr (go over)
  where
    none : length left ≡ 0 → length job.classes.representative ≡ 0
    none empty = pick (length job.classes.representative) refl
      where
        pick : (n : ℕ) → length job.classes.representative ≡ n
            → length job.classes.representative ≡ 0
        pick zero is = is
        pick (suc n) is =
            let at = e.all 0 (omega (arith, is)) in
            let low = slice_get_within left at.0 0 at.1 in absurd (omega (arith, low, empty))

    go : (length left ≡ 0) ⊎ ((20 ≤ quiet) ⊎ (room ≤ length kept))
        → FindsNone job.list.model job.circuit bits seed
    go (inl empty) = inl (no_class job b (none empty))
    go (inr (inl long)) =
        let enough : 20 ≤ round * blocks = omega (arith, long, e.count) in
        inr (blocks, round, enough, e.tried)
    go (inr (inr full)) = absurd (omega (arith, full, some, e.none))

-- rounds of at least one block are no fewer than their blocks
pub enough_rounds : (m : Model) (c : List Statement) (bits : List (Option Bool)) (seed blocks n : ℕ)
    (left : List ℕ) (kept : List (List Bool)) (round quiet : ℕ) → 1 ≤ blocks → 20 ≤ round
    → IsSearching m c bits seed blocks n left kept round quiet
    → DetectsEarly m c kept ⊎ FindsNone m c bits seed
enough_rounds m c bits seed blocks n left kept round quiet some long (inl d) = inl d
enough_rounds m c bits seed blocks n left kept round quiet some long (inr e) =
    let product = mul-le-mul_left round some in
    let enough : 20 ≤ round * blocks = omega (arith, product, long) in
    inr (inr (blocks, round, enough, e.tried))

-- the tests that a compaction of the best tests keeps
pub compacted_some : (m : Model) (c : List Statement) (bits : List (Option Bool)) (seed : ℕ)
    (found best kept : List (List Bool))
    → (DetectsEarly m c found → DetectsSome m c best) → IsCompaction m c best kept
    → DetectsEarly m c found ⊎ FindsNone m c bits seed → DetectsSome m c kept
    ⊎ FindsNone m c bits seed
compacted_some m c bits seed found best kept of_best is (inl d) =
    let s = of_best d in
    let k = is.covers s.0 s.1 s.2 s.3 in inl (s.0, k.0, s.2, k.1)
compacted_some m c bits seed found best kept of_best is (inr none) = inr none
