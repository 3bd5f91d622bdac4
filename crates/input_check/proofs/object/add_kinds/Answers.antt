use Rattle.std.proofs.Common.{arith}
use Rattle.input_check.proofs.Eight.{eight}
use Rattle.input_check.proofs.object.add_kinds.Goals as goal

pub returns : goal.returns
returns c =
    let gates = c.args.gates.now in
    rw (eight gates (omega arith)) (rw (
      c.numbered.ensures.name,
      c.numbered.ensures.number,
      c.from.ensures,
      c.numbered-2.ensures.name,
      c.numbered-2.ensures.number,
      c.from-2.ensures,
      c.numbered-3.ensures.name,
      c.numbered-3.ensures.number,
      c.from-3.ensures,
      c.numbered-4.ensures.name,
      c.numbered-4.ensures.number,
      c.from-4.ensures,
      c.numbered-5.ensures.name,
      c.numbered-5.ensures.number,
      c.from-5.ensures,
      c.numbered-6.ensures.name,
      c.numbered-6.ensures.number,
      c.from-6.ensures,
      c.numbered-7.ensures.name,
      c.numbered-7.ensures.number,
      c.from-7.ensures,
      c.numbered-8.ensures.name,
      c.numbered-8.ensures.number,
      c.from-8.ensures,
    ) at c.add_members.ensures)
