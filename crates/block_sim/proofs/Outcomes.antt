-- The first test of a span that detects a fault, from a word of lanes in which it is detected: the
-- test of the least lane, whatever the word leaves out above it. And the outcome on each block.
use Rattle.std.proofs.Common.{◌≡◌, ◌<◌, ◌≤◌, ℕ, ◌+◌, ◌*◌, ◌-◌, min, sym, subst, true, false, List}
use Rattle.std.proofs.Common.{[], length, arith}
use Rattle.list_lemmas.proofs.Places.{within_place}
use Rattle.bench_net.specs.Statement.{Statement}
use Rattle.fault_model.specs.{Fault.Fault, Solution.{Test, Detects}, Detection.DetectsAt}
use Rattle.patterns.specs.declared.Outcome.TheVariants.{Clear, Hit}
use Rattle.flat_circuit.specs.{declared.block_span.BlockSpan.BlockSpan, Words.{lane, test_of}}
use Rattle.flat_circuit.{specs.BlockSpans.{IsSpan, group_of}, proofs.Public.index_of}
use Rattle.block_sim.specs.{First.{IsOutcome, TellsFirst}, Flips.AreLanesFor}

module _ (c : List Statement) (tests : List Test) (span : BlockSpan) (f : Fault) (lanes word : ℕ)
    (decides : AreLanesFor tests span c f lanes) (found : (k : ℕ) → k < 128 → lane word k ≡ true
    → (lane lanes k ≡ true) × Detects c (test_of tests (group_of span) k) f)
    (clear : (k : ℕ) → k < 128 → lane lanes k ≡ true → ((j : ℕ) → j ≤ k → lane word j ≡ false)
    → Detects c (test_of tests (group_of span) k) f → ⊥) where
  pub first_of_told : TellsFirst c tests span f word
  first_of_told = record {
    found = λ k lt e.
        let h = found k lt e in
        let d = (decides k lt).0 h.0 in
        let at = within_place tests (128 * group_of span + k) d.0.listed in
        let same : test_of tests (group_of span) k ≡ at.0 =
        index_of tests (128 * group_of span + k) at.0 [] at.1 in
        (d.0, (at.0, at.1, subst (λ t. Detects c t f) same h.1, d.1));
    clear = λ k lt own none d.
        let same : test_of tests (group_of span) k ≡ d.0 =
        index_of tests (128 * group_of span + k) d.0 [] d.1 in
        clear k lt ((decides k lt).1 (own, d.3)) none (subst (λ t. Detects c t f) (sym same) d.2);
  }

module _ (c : List Statement) (tests : List Test) (span : BlockSpan) (f : Fault) (word : ℕ)
    (is_span : IsSpan (length tests) span) (first : TellsFirst c tests span f word) where
  -- if no lane of a block or before it is 1, no test of the block detects the fault
  pub clear_before : (block : ℕ) → span.first ≤ block → block ≤ span.last
      → ((j : ℕ) → 128 * group_of span + j < 64 * block + 64 → lane word j ≡ false)
      → IsOutcome c tests f block Clear
  clear_before block from to none k few d =
      let le : k < min 64 (length tests - 64 * block) = few in
      let one = is_span.one_group in
      let place : 128 * group_of span + (64 * block + k - 128 * group_of span) ≡ 64 * block + k =
      omega (arith, from) in
      first.clear (64 * block + k - 128 * group_of span) (omega (arith, from, to, le, one))
      (record {
        from = omega (arith, from, place);
        to = omega (arith, to, le, place);
        listed = omega (arith, le, place);
      }) (λ j low. none j (omega (arith, low, le, place)))
      (subst (DetectsAt c tests f) (sym place) d)

  -- the block of the least lane that is 1
  pub hit_at : (k block test : ℕ) → k < 128 → lane word k ≡ true
      → ((j : ℕ) → j < k → lane word j ≡ false)
      → 128 * group_of span + k ≡ 64 * block + test → test < 64
      → (span.first ≤ block) × (block ≤ span.last) × IsOutcome c tests f block (Hit test)
  hit_at k block test lt e least place few =
      let h = first.found k lt e in
      let from = h.0.from in
      let to = h.0.to in
      let listed = h.0.listed in
      let one = is_span.one_group in (
        omega (arith, from, place, few),
        omega (arith, to, place, few),
        (
          omega (arith, listed, place, few),
          subst (DetectsAt c tests f) place h.1,
          λ lower low d.
              let there : 128 * group_of span + (k - (test - lower)) ≡ 64 * block + lower =
              omega (arith, place, low, few, from) in
              first.clear (k - (test - lower)) (omega (arith, lt)) (record {
                from = omega (arith, from, place, there, low, few);
                to = omega (arith, to, place, there, low);
                listed = omega (arith, listed, place, there, low);
              }) (λ j le. least j (omega (arith, le, low, place, there)))
              (subst (DetectsAt c tests f) (sym there) d),
        ),
      )
