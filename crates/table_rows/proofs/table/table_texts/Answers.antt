use Rattle.std.proofs.Common.{◌∙◌, ◌++◌, ◌∷◌, Global, Vec, [], ap, append-nil, arith, sym, ℕ}
use Rattle.std.{proofs.lemmas.List.Concat.flat_map-append, specs.Prelude.flat_map}
use Rattle.threaded_lines.specs.Texts.{text_between}
use Rattle.table_rows.specs.Table.{row_texts}
use Rattle.table_rows.proofs.Stretches.{all_between, both_between, none_between, texts_counted}
use Rattle.table_rows.proofs.table.table_texts.Goals as goal

pub loop-start-init : goal.loop-start-init
loop-start-init g c = record {
  within = omega arith;
  texts = rw (c.new-texts.ensures.items)
      (sym (none_between (row_texts c.args.format (g.T.Rows.table c.args.rows.now)) 0));
}

pub loop-start-preserved : goal.loop-start-preserved
loop-start-preserved g c =
    let ts = row_texts c.args.format (g.T.Rows.table c.args.rows.now) in
    let start = c.loop-start.start in
    let was = c.loop-start.invariant in
    let own = c.in_ok-stretch_text.field-0 in
    record {
      within = omega (arith, c.min.ensures);
      texts = ap (flat_map (λ (text : Vec ℕ Global). text.items)) c.in_ok-push.ensures.items
          ∙ (flat_map-append (λ (text : Vec ℕ Global). text.items) c.loop-start.texts.items
          (own ∷ [])
          ∙ (ap (λ t. t ++ flat_map (λ (text : Vec ℕ Global). text.items) (own ∷ [])) was.texts
          ∙ (ap (λ t. text_between ts 0 start ++ t)
          (append-nil own.items ∙ c.in_ok-stretch_text.ensures)
          ∙ sym (both_between ts 0 start _ (omega arith) (omega arith)))));
    }

pub whole_table-requires : goal.whole_table-requires
whole_table-requires g c =
    let t = g.T.Rows.table c.args.rows.now in
    let was = c.loop-start.invariant in
    let long = texts_counted c.args.format t in
    was.texts ∙ all_between (row_texts c.args.format t) c.loop-start.start
    (omega (arith, long, c.count-count.ensures, was.within, c.loop-start-test.false))
