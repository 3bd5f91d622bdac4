use Rattle.tables.proofs.Texts.{added_same, inputs_pieces}
use Rattle.tables.proofs.summary.add_inputs.Goals as goal

pub returns : goal.returns
returns c =
    added_same _ _ _ _ _ (inputs_pieces c.args.version.now c.args.proved.now c.args.model.now
    c.args.bench.now c.args.tests.now c.args.count.now) c.add_pieces.ensures
