use Rattle.tables.proofs.Texts.{five_parts}
use Rattle.tables.proofs.summary.summary_text.Goals as goal

pub returns : goal.returns
returns c =
    let begun = rw (
      c.new-text.ensures.items,
      c.truth_text.ensures,
      c.model_name.ensures,
      c.format.ensures.text,
    ) at c.in_ok-add_inputs.ensures in
    five_parts _ _ _ _ _ _ _ _ _ _ begun c.in_ok-add_counts.ensures c.in_ok-add_pieces.ensures
    c.in_ok-add_reasons.ensures c.in_ok-add_effort.ensures
