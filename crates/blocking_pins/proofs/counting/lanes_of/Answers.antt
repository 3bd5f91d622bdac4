use Rattle.std.proofs.Common.{◌≡◌, ◌<◌, ◌+◌, ◌*◌, ◌-◌, ◌∙◌, ℕ, ap, arith, length, sym, true}
use Rattle.std.specs.{Prelude.{min, nat_lt}, Bool.Decides}
use Rattle.std.proofs.lemmas.Bool.{lt-ltb, ltb-true}
use Rattle.patterns.specs.Tests.{TestList}
use Rattle.flat_circuit.{specs.Words.lane, proofs.Public.lanes_decide}
use Rattle.blocking_pins.proofs.counting.lanes_of.Goals as goal

pub returns : goal.returns
returns c = λ f k starts lt.
    let group = c.args.group in
    let tests = c.args.job.now.tests.tests in
    let size = c.min-size.result in
    let count : c.count.result ≡ length tests =
    c.count.ensures ∙ ap (λ (t : TestList). length t.tests) c.tests.ensures.part in
    let is : size ≡ min (c.count.result - 128 * group) 128 = c.min-size.ensures in
    let own : Decides (lane c.lanes_below.result k) (128 * group + k < length tests) = (
      λ on. let low : k < size = ltb-true k size (sym (c.lanes_below.ensures k lt) ∙ on) in
          grind (arith, low, is, count, lt),
      λ h. c.lanes_below.ensures k lt
          ∙ lt-ltb k size (let low : k < size = grind (arith, h, is, count, lt) in low),
    ) in
    lanes_decide c.lanes_below.result c.launch_lanes.result k own
    (λ h. c.launch_lanes.ensures f k starts lt h)
