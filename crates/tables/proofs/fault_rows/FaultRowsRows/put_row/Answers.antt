use Rattle.std.proofs.Common.{◌≡◌, ◌<◌, ◌∙◌, ◌++◌, [], ap, append_assoc, arith, get_or, length, map}
use Rattle.std.proofs.{Common.{List, refl, subst, sym, ℕ}, lemmas.Option.slice_get_within}
use Rattle.std.proofs.lemmas.List.{get_or-map, get_or_read, length-map}
use Rattle.std.specs.Prelude.{OnOk, Option, Some, slice_get, unwrap_or}
use Rattle.fault_model.specs.Fault.{Fault}
use Rattle.report.specs.declared.contents.Lines.{Lines}
use Rattle.list_lemmas.proofs.Places.{within_place}
use Rattle.table_rows.specs.Cells.{cell_in}
use Rattle.tables.specs.FurtherColumns.{FurtherColumn, cell_at, further_in}
use Rattle.tables.specs.Rows.{fault_cells, row_cells, row_in}
use Rattle.tables.specs.Tables.{fault_row, has_row, listed, values_in}
use Rattle.tables.proofs.FurtherCells.{cells_within, mapped_twice}
use Rattle.tables.proofs.RowsByPairs.{get_or_same, listed_at}
use Rattle.tables.proofs.fault_rows.FaultRowsRows.put_row.Goals as goal

-- the number that was read is that of a row
row_there : (fs : List Fault) (xs : List (Option ℕ)) (lines : Lines) (vs : List ℕ) (i n k : ℕ)
    → length xs ≡ length fs → vs ≡ map (λ at. at.0) (listed fs xs lines) → i < n
    → n ≡ length (listed fs xs lines) → k ≡ get_or vs i k
    → (f : Fault) × (x : Option ℕ) × (slice_get fs k ≡ Some f) × (slice_get xs k ≡ Some x)
    × ((d : ℕ × (Fault × Option ℕ)) → get_or (listed fs xs lines) i d ≡ (k, (f, x)))
row_there fs xs lines vs i n k same is lt long read =
    let rows = listed fs xs lines in
    let less : i < length rows = omega (arith, lt, long) in
    let d = (within_place rows i less).0 in
    let at = listed_at fs xs (has_row lines) vs i d same is less in
    let all : length vs ≡ length rows = ap length is ∙ length-map rows (λ at. at.0) in
    let own : k ≡ get_or vs i 0 = get_or_read vs i k (omega (arith, less, all)) read 0 in (
      at.0,
      at.1,
      rw (own) at.2,
      rw (own) at.3,
      λ e. get_or_same rows i d e less ∙ (at.4 ∙ ap (λ m. (m, (at.0, at.1))) (sym own)),
    )

pub value-value-requires : goal.value-value-requires
value-value-requires c =
    let own = c.args.self.now in
    let at = row_there own.list.now.list (values_in own.column).values own.lines
    own.numbers.items c.args.row _ c.index-fault.result.now own.counted own.chosen c.requires
    (length-map (listed own.list.now.list (values_in own.column).values own.lines)
    (fault_row own.circuit.now (map further_in own.further.now))) c.index-fault.ensures in
    slice_get_within (values_in own.column).values c.index-fault.result.now at.1 at.3

pub row_of-requires-clause-in_range : goal.row_of-requires-clause-in_range
row_of-requires-clause-in_range c =
    let own = c.args.self.now in
    omega (
      arith,
      own.counted,
      slice_get_within (values_in own.column).values
          c.index-fault.result.now c.value-value.result c.value-value.ensures,
    )

pub put_further-requires : goal.put_further-requires
put_further-requires c =
    let own = c.args.self.now in
    cells_within own.further.now (map further_in own.further.now) (length own.list.now.list)
    c.index-fault.result.now refl own.filled (omega (
      arith,
      own.counted,
      slice_get_within (values_in own.column).values
          c.index-fault.result.now c.value-value.result c.value-value.ensures,
    ))

pub returns : goal.returns
returns c =
    let own = c.args.self.now in
    let circuit = own.circuit.now in
    let further = map further_in own.further.now in
    let k = c.index-fault.result.now in
    let old = map cell_in c.args.cells.now.items in
    let rows = listed own.list.now.list (values_in own.column).values own.lines in
    let all = length-map rows (fault_row circuit further) in
    let at = row_there own.list.now.list (values_in own.column).values own.lines
    own.numbers.items c.args.row _ k own.counted own.chosen c.requires all c.index-fault.ensures in
    let value : c.value-value.result ≡ at.1 = ap (λ o. unwrap_or o c.value-value.result)
    (sym c.value-value.ensures ∙ at.3) in
    let row : row_in c.row_of.result ≡ row_cells circuit at.0 = c.row_of.ensures at.0 at.2 in
    let cells : get_or (map (fault_row circuit further) rows) c.args.row []
    ≡ fault_row circuit further (k, (at.0, at.1)) =
    get_or-map (fault_row circuit further) rows c.args.row (k, (at.0, at.1)) []
    (omega (arith, all)) ∙ ap (fault_row circuit further) (at.4 (k, (at.0, at.1))) in
    let last = mapped_twice (λ (column : FurtherColumn). cell_at column k) further_in
    own.further.now in
    let first = c.in_ok-put_fault.ensures ∙ (ap (λ r. old ++ fault_cells r c.value-value.result) row
    ∙ ap (λ v. old ++ fault_cells (row_cells circuit at.0) v) value) in
    subst (λ t. OnOk c.put_further.result (map cell_in c.put_further.new.cells.items ≡ t))
    (ap (λ t. t ++ map (λ f. cell_at (further_in f) k) own.further.now) first
    ∙ (append_assoc old (fault_cells (row_cells circuit at.0) at.1)
    (map (λ f. cell_at (further_in f) k) own.further.now)
    ∙ (ap (λ t. old ++ (fault_cells (row_cells circuit at.0) at.1 ++ t)) last
    ∙ ap (λ t. old ++ t) (sym cells)))) c.put_further.ensures
