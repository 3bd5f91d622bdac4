use Rattle.std.proofs.Common.{◌≡◌, ◌∙◌, ◌≤◌, ◌+◌, ◌*◌, ◌/◌, ◌%◌, List, ap, arith, length, refl}
use Rattle.std.{proofs.Common.subst, specs.Prelude.slice_index, proofs.Math.Nat.mul-le-mul_left}
use Rattle.std.proofs.lemmas.{List.length-set, Nat.{div-mul-add, mod-mul-add}}
use Rattle.bench_net.specs.Statement.{Statement}
use Rattle.patterns.specs.Tests.{blocks}
use Rattle.flat_circuit.specs.Words.{IsFaultFreeWord}
use Rattle.faultsim_c.{specs.Calls.observed, proofs.Tables.next}
use Rattle.faultsim_c.proofs.observed.responses_in.Goals as goal

pub loop-place-preserved : goal.loop-place-preserved
loop-place-preserved c =
    let job = c.args.job.now in
    let words = c.loop-place.words in
    let place = c.loop-place.place in
    let count = c.observer_count-count.result in
    let same = c.loop-place.invariant.0 in
    let low = c.loop-place-test.true in
    let signal = c.observer_at-signal.ensures.signal
    ∙ ap (λ (s : List Statement). slice_index (observed s) (place % count))
    c.circuit-circuit.ensures.part in (
      length-set words place c.word.result ∙ same,
      next (λ k n. IsFaultFreeWord job.circuit job.tests.tests (k / count)
          (slice_index (observed job.circuit) (k % count)) n) place c.word.result words
          (omega (arith, same, low, c.loop-place.auto))
          (subst (λ s. IsFaultFreeWord job.circuit job.tests.tests (place / count) s c.word.result)
          signal c.word.ensures) c.loop-place.invariant.1,
    )

pub returns-clause-done : goal.returns-clause-done
returns-clause-done c = λ fits.
    let job = c.args.job.now in
    let n = length (observed job.circuit) in
    let count : c.observer_count-count.result ≡ n = c.observer_count-count.ensures
    ∙ ap (λ (s : List Statement). length (observed s)) c.circuit-circuit.ensures.part in
    let same = c.loop-place.invariant.0 in
    let high = c.loop-place-test.false in (
      refl,
      record {
        count = same ∙ fits;
        each = λ block place lt low.
            let many = mul-le-mul_left n (let le : block + 1 ≤ blocks (length job.tests.tests)
            = omega (arith, lt) in le) in
            let here = c.loop-place.invariant.1 (block * n + place)
            (omega (arith, many, low, fits, high, same, c.loop-place.auto)) in
            subst (λ s. IsFaultFreeWord job.circuit job.tests.tests block (slice_index
            (observed job.circuit) s) (slice_index c.loop-place.words (block * n + place)))
            (ap (λ m. (block * n + place) % m) count ∙ mod-mul-add block n place low)
            (subst (λ b. IsFaultFreeWord job.circuit job.tests.tests b (slice_index
            (observed job.circuit) ((block * n + place) % c.observer_count-count.result))
            (slice_index c.loop-place.words (block * n + place)))
            (ap (λ m. (block * n + place) / m) count ∙ div-mul-add block n place low) here);
      },
    )
