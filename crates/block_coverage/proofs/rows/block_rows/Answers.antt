use Rattle.std.proofs.Common.{◌≡◌, ◌<◌, ◌≤◌, ◌∙◌, ℕ, List, ap, sym, subst, length, get_or, map}
use Rattle.std.{proofs.Common.arith, specs.Prelude.{All, Result, Ok, Err, IfOk}}
use Rattle.std.proofs.lemmas.List.{length-map}
use Rattle.block_coverage.specs.{declared.rows.BlockRow.BlockRow, Tallies.AreSortedRows}
use Rattle.block_coverage.specs.Blocks.{AreBlockRows, cells_in, fault_name, fault_names}
use Rattle.block_coverage.proofs.SortedBlocks.{listed_within, rows_some, sorted_rows}
use Rattle.block_coverage.proofs.rows.block_rows.Goals.{After-count, After-sorted}
use Rattle.block_coverage.proofs.rows.block_rows.Goals as goal

-- the listed rows, as they are lent
lent : (c : After-count) → (k : ℕ) (d : BlockRow) → k < length c.deref.result.now
    → ((get_or c.deref.result.now k d).faults ≤ c.count.result)
    × ((get_or c.deref.result.now k d).detected ≤ (get_or c.deref.result.now k d).faults)
lent c k d lt =
    let list = c.args.list.now.list in
    let names = fault_names c.args.circuit.now list in
    let is = c.deref.ensures.value in
    let within = listed_within c.byte.result names c.args.detected.now c.in_ok-rows.rows.items
    c.in_ok-rows.ensures.rows k d (subst (λ (l : List BlockRow). k < length l) is lt) in
    let row = ap (λ (l : List BlockRow). get_or l k d) is in
    let faults = ap (λ (r : BlockRow). r.faults) row in
    let detected = ap (λ (r : BlockRow). r.detected) row in
    let count = length-map list (fault_name c.args.circuit.now) in
    let all = c.count.ensures in
    let low = within.0 in
    let few = within.1 in
    (omega (arith, low, faults, count, all), omega (arith, few, faults, detected))

pub sorted-requires-clause-within : goal.sorted-requires-clause-within
sorted-requires-clause-within c = λ k d lt.
    (lent (goal.at.sorted-requires-clause-within c).After-count k d lt).0

pub sorted-requires-clause-detected : goal.sorted-requires-clause-detected
sorted-requires-clause-detected c = λ k d lt.
    (lent (goal.at.sorted-requires-clause-detected c).After-count k d lt).1

ok_as : {T E : Type 0} (A B : T → Type 0) (r : Result T E) → ((x : T) → A x → B x) → IfOk r A
    → IfOk r B
ok_as A B (Ok x) then h = then x h
ok_as A B (Err e) then h = h

-- the sorted rows are those of all blocks
sorted_are : (c : After-sorted) → IfOk c.sorted.result (λ rows. AreBlockRows c.byte.result
    (fault_names c.args.circuit.now c.args.list.now.list) c.args.detected.now
    (map cells_in rows.items))
sorted_are c =
    let list = c.args.list.now.list in
    let names = fault_names c.args.circuit.now list in
    let rows = c.in_ok-rows.rows.items in
    let count : c.count.result ≡ length names =
    c.count.ensures ∙ sym (length-map list (fault_name c.args.circuit.now)) in
    ok_as (λ sorted. AreSortedRows c.count.result c.deref.result.now sorted.items)
    (λ sorted. AreBlockRows c.byte.result names c.args.detected.now (map cells_in sorted.items))
    c.sorted.result
    (λ sorted by. sorted_rows c.byte.result names c.args.detected.now rows sorted.items
    c.in_ok-rows.ensures.rows (subst (λ n. AreSortedRows n rows sorted.items) count
    (subst (λ l. AreSortedRows c.count.result l sorted.items) c.deref.ensures.value by)))
    c.sorted.ensures

pub returns-clause-rows : goal.returns-clause-rows
returns-clause-rows c =
    let names = fault_names c.args.circuit.now c.args.list.now.list in
    subst (λ byte. IfOk c.sorted.result (λ rows. AreBlockRows byte names c.args.detected.now
    (map cells_in rows.items))) c.byte.ensures.byte
    (sorted_are (goal.at.returns-clause-rows c).After-sorted)

pub returns-clause-some : goal.returns-clause-some
returns-clause-some c =
    let names = fault_names c.args.circuit.now c.args.list.now.list in
    ok_as (λ rows. AreBlockRows c.byte.result names c.args.detected.now
    (map cells_in rows.items)) (λ rows. All (λ row. 0 < row.faults) rows.items) c.sorted.result
    (λ rows are. rows_some c.byte.result names c.args.detected.now rows.items are)
    (sorted_are (goal.at.returns-clause-some c).After-sorted)
