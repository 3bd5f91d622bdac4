use Rattle.std.proofs.Common.{◌≡◌, ◌+◌, ◌*◌, ◌-◌, ◌%◌, min, length, arith}
use Rattle.flat_circuit.proofs.Groups.{lanes_between}
use Rattle.flat_circuit.proofs.block_span.BlockSpan.test_lanes.Goals as goal

pub returns : goal.returns
returns c = λ k lt.
    let tests = length c.args.tests.now.tests in
    let first = c.args.self.first in
    let last = c.args.self.last in
    let one = c.requires.one_group in
    let size : c.size_of.result ≡ min 64 (tests - 64 * last) = c.size_of.ensures in
    let d = lanes_between c.lanes_below.result c.lanes_below-2.result (first % 2 * 64)
    (last % 2 * 64 + c.size_of.result) k (omega arith) lt (c.lanes_below.ensures k lt)
    (c.lanes_below-2.ensures k lt) in (
      λ e.
          let h = d.0 e in
          let up = h.0 in
          let low = h.1 in
          record {
            from = omega (arith, up);
            to = omega (arith, low, size, one);
            listed = omega (arith, low, size, one);
          },
      λ i.
          let from = i.from in
          let to = i.to in
          let listed = i.listed in
          d.1 (omega (arith, from), omega (arith, to, listed, size, one)),
    )
