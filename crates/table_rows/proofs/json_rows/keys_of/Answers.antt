use Rattle.std.proofs.Common.{◌≡◌, ◌<◌, ◌∙◌, ◌++◌, ◌∷◌, [], ap, Global, Vec, arith, get_or, length}
use Rattle.std.{proofs.Common.{map, ℕ, sym, take, take_all}, specs.List.enumerate_from}
use Rattle.std.proofs.lemmas.List.{get_or-map, length-map, map-append, take_more}
use Rattle.std.proofs.lemmas.List.FromFn.{get_or-enumerate_from, length-enumerate_from}
use Rattle.table_rows.{specs.Table.key, proofs.Texts.now_at}
use Rattle.table_rows.proofs.json_rows.keys_of.Goals as goal

pub loop-place-preserved : goal.loop-place-preserved
loop-place-preserved c =
    let names = map (λ name. name.now) c.args.names.now in
    let pairs = enumerate_from 0 names in
    let all = map key pairs in
    let i = c.loop-place.place in
    let l : i < length c.args.names.now = c.loop-place-test.true in
    let count = length-map c.args.names.now (λ name. name.now) in
    let long = length-enumerate_from 0 names in
    let many = length-map pairs key in
    let name = now_at c.args.names.now i (record { ref_ptr = (0, 0); now = [] }) l in
    let at : get_or pairs i (i, []) ≡ (i, get_or names i []) =
    get_or-enumerate_from 0 names i (i, []) (omega (arith, l, count))
    ∙ ap (λ k. (k, get_or names i [])) (omega arith) in
    let own : get_or all i [] ≡ key (i, get_or names i []) =
    get_or-map key pairs i (i, []) [] (omega (arith, l, count, long)) ∙ ap key at in
    let made : c.add_pieces.new.text.items ≡ key (i, get_or names i []) =
    rw (c.in_ok-add_separator.ensures, c.new-key.ensures.items, name) at
    c.in_ok-add_pieces.ensures in
    let old = c.loop-place.keys.items in
    let new = c.add_pieces.new.text in
    ap (map (λ (k : Vec ℕ Global). k.items)) c.in_ok-push.ensures.items
    ∙ (map-append (λ (k : Vec ℕ Global). k.items) old (new ∷ [])
    ∙ (ap (λ ks. ks ++ new.items ∷ []) c.loop-place.invariant
    ∙ (ap (λ k. take i all ++ k ∷ []) (made ∙ sym own)
    ∙ sym (take_more all i [] (omega (arith, l, count, long, many))))))

pub returns : goal.returns
returns c =
    let names = map (λ name. name.now) c.args.names.now in
    let count = length-map c.args.names.now (λ name. name.now) in
    let long = length-enumerate_from 0 names in
    let many = length-map (enumerate_from 0 names) key in
    c.loop-place.invariant ∙ take_all c.loop-place.place (map key (enumerate_from 0 names))
    (omega (arith, count, long, many, c.loop-place-test.false))
