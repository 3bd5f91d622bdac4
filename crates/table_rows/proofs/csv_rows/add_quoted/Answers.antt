use Rattle.std.proofs.Common.{◌∙◌, ◌++◌, ◌∷◌, [], ap, append_assoc, arith, get_or, take, take_all}
use Rattle.csv.{specs.Writing.{default_writer, escaped}, proofs.WriteFacts.quoted-step}
use Rattle.table_rows.proofs.csv_rows.add_quoted.Goals as goal

pub loop-byte-init : goal.loop-byte-init
unfolding escaped
loop-byte-init c = c.in_ok-push.ensures.items

pub loop-byte-preserved : goal.loop-byte-preserved
loop-byte-preserved c =
    let field = c.args.field.now in
    let i = c.loop-byte.byte-index in
    let own = escaped default_writer (get_or field i 0 ∷ []) in
    let some = 34 ∷ escaped default_writer (take i field) in
    c.in_ok-add_byte.ensures ∙ (ap (λ t. t ++ own) c.loop-byte.invariant
    ∙ (append_assoc c.args.text.now.items some own ∙ ap (λ t. c.args.text.now.items ++ t)
    (quoted-step default_writer 34 field i (omega arith))))

pub returns : goal.returns
returns c =
    let field = c.args.field.now in
    c.in_ok-push-2.ensures.items ∙ (ap (λ t. t ++ 34 ∷ []) (c.loop-byte.invariant
    ∙ ap (λ f. c.args.text.now.items ++ (34 ∷ escaped default_writer f))
    (take_all c.loop-byte.byte-index field c.loop-byte-test.false))
    ∙ append_assoc c.args.text.now.items (34 ∷ escaped default_writer field) (34 ∷ []))
