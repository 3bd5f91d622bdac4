use Rattle.std.proofs.{Common.{◌∙◌, Global, Vec, ap, ℕ}, lemmas.Result.err_from_is_err_and}
use Rattle.byte_output.proofs.Public.{takes_more, stopped, flat_map_cut, flat_map_taken}
use Rattle.table_rows.proofs.table.put_texts.Goals as goal

pub returns-in_err-put_all : goal.returns-in_err-put_all
returns-in_err-put_all g c =
    let p = err_from_is_err_and c.from_residual.result c.from_residual.ensures.1 in
    rw (p.1) (stopped _ c.deref.result.now _ _ _ _ _ c.loop-text.invariant c.in_err-put_all.ensures
    (flat_map_cut (λ text. text.items) c.args.texts.now c.loop-text.text-index
    c.text-item.result _ c.loop-text-test.true
    (c.deref.ensures.value ∙ ap (λ (text : Vec ℕ Global). text.items) c.text-item.is)))

pub loop-text-preserved : goal.loop-text-preserved
loop-text-preserved g c =
    rw (flat_map_taken (λ text. text.items) c.args.texts.now c.loop-text.text-index
    c.text-item.result _ c.loop-text-test.true
    (c.deref.ensures.value ∙ ap (λ (text : Vec ℕ Global). text.items) c.text-item.is))
    (takes_more _ _ _ _ _ c.loop-text.invariant c.in_ok-put_all.ensures)
