use Rattle.std.proofs.Common.{◌∙◌, ◌++◌, [], ◌∷◌, ap, append-nil}
use Rattle.json.specs.{Print.{print_from, quoted}, Token.string}
use Rattle.table_rows.proofs.json_rows.add_escaped.Goals as goal

pub returns : goal.returns
unfolding print_from
returns c =
    let words = c.args.words.now in
    let before = c.string.ensures.room.0 ∙ (c.new-writer.ensures.before
    ∙ ap (λ v. v.items) c.replace.ensures.value) in
    let tokens = c.in_ok-string.ensures.ok
    ∙ ap (λ ts. ts ++ string words ∷ []) c.new-writer.ensures.tokens in
    c.into_inner.ensures.items
    ∙ rw (before, tokens) (ap (λ t. c.args.text.now.items ++ t) (append-nil (quoted words)))
