use Rattle.std.proofs.Common.{◌≡◌, ◌<◌, ◌≤◌, ◌∙◌, ◌++◌, ap, append_assoc, Global, Vec, arith}
use Rattle.std.proofs.Common.{get_or, length, map, ℕ, [], sym, take, take_all}
use Rattle.std.proofs.lemmas.{List.{get_or-map, length-map}, Slice.Zip.length-zip}
use Rattle.std.specs.{Prelude.{codes, zip}, List.flat_map}
use Rattle.table_rows.specs.declared.cell.Cell.TheVariants as cell
use Rattle.table_rows.specs.{Cells.{Empty, cell_in, json_cell}, Table.member}
use Rattle.table_rows.proofs.Texts.{member_added}
use Rattle.table_rows.proofs.json_rows.add_members.Goals as goal

pub loop-place-preserved : goal.loop-place-preserved
loop-place-preserved c =
    let keys = map (λ (key : Vec ℕ Global). key.items) c.args.keys.now in
    let cells = map cell_in c.args.cells.now in
    let i = c.loop-place.place in
    let l : i < length c.args.keys.now =
    omega (arith, c.loop-place-test.true, c.min-place-end.ensures) in
    let m : i < length c.args.cells.now =
    omega (arith, c.loop-place-test.true, c.min-place-end.ensures) in
    let all_keys = length-map c.args.keys.now (λ key. key.items) in
    let all_cells = length-map c.args.cells.now cell_in in
    let key : c.deref.result.now ≡ get_or keys i [] =
    c.deref.ensures.value ∙ (ap (λ (key : Vec ℕ Global). key.items) c.index-keys-place.is
    ∙ sym (get_or-map (λ key. key.items) c.args.keys.now i c.index-keys-place.result [] l)) in
    let own = get_or-map cell_in c.args.cells.now i cell.Empty Empty m in
    let some = flat_map member (take i (zip keys cells)) in
    let value = json_cell (get_or cells i Empty) in
    let keyed = rw (key) at c.in_ok-extend_from_slice.ensures.items in
    let added = rw (← own) at c.in_ok-add_cell.ensures in
    added ∙ (ap (λ t. t ++ value) (keyed ∙ ap (λ t. t ++ get_or keys i []) c.loop-place.invariant)
    ∙ (append_assoc (c.args.text.now.items ++ (codes "{" ++ some)) (get_or keys i []) value
    ∙ (append_assoc c.args.text.now.items (codes "{" ++ some) (get_or keys i [] ++ value)
    ∙ ap (λ t. c.args.text.now.items ++ (codes "{" ++ t))
    (sym (member_added keys cells i [] Empty (omega (arith, l, all_keys))
    (omega (arith, m, all_cells)))))))

pub returns : goal.returns
returns c =
    let keys = map (λ (key : Vec ℕ Global). key.items) c.args.keys.now in
    let cells = map cell_in c.args.cells.now in
    let pairs = zip keys cells in
    let all_keys = length-map c.args.keys.now (λ key. key.items) in
    let all_cells = length-map c.args.cells.now cell_in in
    let both = length-zip keys cells in
    let le : length pairs ≤ c.loop-place.place =
    omega (arith, all_keys, all_cells, both, c.loop-place-test.false, c.min-place-end.ensures) in
    c.in_ok-push-2.ensures.items ∙ (ap (λ t. t ++ codes "}") (c.loop-place.invariant
    ∙ ap (λ ps. c.args.text.now.items ++ (codes "{" ++ flat_map member ps))
    (take_all c.loop-place.place pairs le))
    ∙ append_assoc c.args.text.now.items (codes "{" ++ flat_map member pairs) (codes "}"))
