use Rattle.std.proofs.Common.{◌≡◌, arith, length, subst}
use Rattle.bench_net.specs.Scan.{names}
use Rattle.blocking_pins.{specs.Effects.HaveReadersBelow, proofs.VecRows.rows_of}
use Rattle.blocking_pins.proofs.readers.readers_of.Goals as goal

pub returns : goal.returns
returns c =
    let circuit = c.args.circuit.now.arranged in
    let full : c.loop-place.place ≡ length (names circuit) = omega (
      arith,
      c.loop-place-test.false,
      c.loop-place.auto.place-end,
      c.signals-place-end.ensures.count,
    ) in
    subst (λ n. HaveReadersBelow circuit n (rows_of c.loop-place.readers.items)) full
    c.loop-place.invariant
