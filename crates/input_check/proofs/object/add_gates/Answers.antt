use Rattle.std.{proofs.Common.append-nil, specs.Prelude.{decimal, sum}}
use Rattle.input_check.proofs.Parts.{three_parts}
use Rattle.input_check.proofs.object.add_gates.Goals as goal

pub returns : goal.returns
returns c =
    let begun = rw (
      c.format.ensures.text,
      c.all_gates.ensures,
      append-nil (decimal (sum c.args.counts.now.gates)),
    ) at c.in_ok-add_pieces.ensures in
    three_parts _ _ _ _ _ _ _ _ begun c.in_ok-add_kinds.ensures c.add_pieces-2.ensures
