use Rattle.std.proofs.{Common.{sym, ◌∙◌}, lemmas.List.append_cancel_left}
use Rattle.byte_output.proofs.Public.{flat_map_cut}
use Rattle.part_files.proofs.cut.is_joined.Goals as goal

pub returns-in-None-clause-no : goal.returns-in-None-clause-no
returns-in-None-clause-no c = λ _ e. c.in-None.ensures _
    (append_cancel_left _ _ _ (sym c.loop-piece.invariant
    ∙ (e ∙ flat_map_cut (λ p. p.now) c.args.pieces.now c.loop-piece.piece-index _ _
    c.loop-piece-test.true c.as_bytes.ensures.value)))
