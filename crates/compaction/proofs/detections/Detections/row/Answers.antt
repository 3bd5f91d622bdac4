use Rattle.std.proofs.Common.{◌∙◌, [], ap, get_or, length, subst}
use Rattle.compaction.specs.Detections.{HasGroups, words_of}
use Rattle.compaction.proofs.detections.Detections.row.Goals as goal

pub returns-clause-words : goal.returns-clause-words
returns-clause-words c =
    let inside = c.self.inside in
    c.row_of.ensures
    ∙ (ap (λ l. get_or (words_of c.as_slice.result.now l) c.args.class [])
    c.as_slice-2.ensures.value
    ∙ (ap (λ l. get_or (words_of l inside.rows.items) c.args.class []) c.as_slice.ensures.value
    ∙ ap (λ t. get_or t.words c.args.class []) c.self.view_is))

pub returns-clause-count : goal.returns-clause-count
returns-clause-count c = λ low.
    ap length (returns-clause-words c)
    ∙ (subst (λ t. HasGroups t) c.self.view_is c.self.invariant) c.args.class [] low
