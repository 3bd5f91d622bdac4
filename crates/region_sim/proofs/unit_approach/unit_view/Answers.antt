use Rattle.std.{proofs.Common.{◌≡◌, ◌+◌, ℕ, List, arith, length, subst}, specs.Prelude.None}
use Rattle.bench_net.specs.Scan.{names}
use Rattle.flat_circuit.{specs.Words.AreWords, proofs.Public.of_four}
use Rattle.region_sim.proofs.unit_approach.unit_view.Goals as goal

pub returns : goal.returns
returns c =
    let job = c.args.job.now in
    let circuit = c.words-words.result.circuit.now.arranged in
    let P : ℕ → List ℕ → Type 0 = λ slot row. (length row ≡ length (names circuit))
    × AreWords circuit job.tests.tests (c.args.group + slot) None row in
    let free = c.words-words.ensures.fault_free in
    let all = of_four P c.of.result.now c.of-2.result.now c.of-3.result.now c.of-4.result.now
    (let same : c.args.group ≡ c.args.group + 0 = omega arith in
    let first = free c.args.group c.of.result.now c.of.ensures in
    (first.0, subst (λ n. AreWords circuit job.tests.tests n None c.of.result.now) same first.1))
    (free (c.args.group + 1) c.of-2.result.now c.of-2.ensures)
    (free (c.args.group + 2) c.of-3.result.now c.of-3.ensures)
    (free (c.args.group + 3) c.of-4.result.now c.of-4.ensures) in
    record {
      part = c.words-words.ensures.part;
      arranged = c.words-words.ensures.arranged;
      together = c.words-words.ensures.together;
      count = λ slot lt. (all slot lt).0;
      fault_free = λ slot lt. (all slot lt).1;
    }
