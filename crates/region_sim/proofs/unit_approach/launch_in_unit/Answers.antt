use Rattle.std.proofs.Common.{◌≡◌, ◌<◌, ◌+◌, ◌*◌, ◌/◌, ◌%◌, ℕ, arith, subst, sym}
use Rattle.std.specs.Bool.{Decides}
use Rattle.fault_model.specs.Detection.{LooksBack}
use Rattle.wide_words.specs.Layouts.{one_of}
use Rattle.flat_circuit.{specs.Words.lane, proofs.Public.of_four}
use Rattle.region_sim.proofs.unit_approach.launch_in_unit.Goals as goal

pub returns : goal.returns
returns c = λ f k starts lt.
    let job = c.args.job.now in
    let tests = job.tests.tests in
    let group = c.args.group in
    let Looks : ℕ → Type 0 = λ n. LooksBack job.circuit tests f.model f.line f.stuck n in
    let P : ℕ → ℕ → Type 0 = λ slot word. (j : ℕ) → j < 128 → slot < 4
    → Decides (lane word j) (Looks (128 * (group + slot) + j)) in
    let full = c.requires.full in
    let at = of_four P c.launch_lanes.result c.launch_lanes-2.result c.launch_lanes-3.result
    c.launch_lanes-4.result
    (λ j low s. (let same : 128 * group + j ≡ 128 * (group + 0) + j = omega arith in
    subst (λ n. Decides (lane c.launch_lanes.result j) (Looks n)) same
    (c.launch_lanes.ensures f j starts low (omega (arith, full, low)))))
    (λ j low s. c.launch_lanes-2.ensures f j starts low (omega (arith, full, low)))
    (λ j low s. c.launch_lanes-3.ensures f j starts low (omega (arith, full, low)))
    (λ j low s. c.launch_lanes-4.ensures f j starts low (omega (arith, full, low))) in
    let part : k / 128 < 4 = omega (arith, lt) in
    let below : k % 128 < 128 = omega arith in
    let number_is : 128 * (group + k / 128) + k % 128 ≡ 128 * group + k = omega arith in
    subst (λ b. Decides b (Looks (128 * group + k))) (sym (c.side_by_side.ensures k lt))
    (subst (λ n. Decides (lane (one_of c.launch_lanes.result c.launch_lanes-2.result
    c.launch_lanes-3.result c.launch_lanes-4.result (k / 128)) (k % 128)) (Looks n)) number_is
    (at (k / 128) part (k % 128) below part))
