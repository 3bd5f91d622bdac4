-- The cells of further columns in the form of the program.
use Rattle.std.proofs.Common.{◌≡◌, ◌<◌, ◌∙◌, ◌++◌, [], ◌∷◌, ℕ, List, ap, arith, length, map, refl}
use Rattle.std.proofs.{Common.{subst, sym}, lemmas.List.length-map, lemmas.List.Elements.All-weaker}
use Rattle.std.specs.Prelude.{All, Bool, true, false, Option, Some, None}
use Rattle.std.proofs.lemmas.List.Elements.{All-append, All-cons, All-head, All-nil, All-tail}
use Rattle.fault_model.specs.Fault.{faults}
use Rattle.block_sim.specs.Parts.{Parts}
use Rattle.tables.specs.declared.further.{Further.Further, FurtherColumns.FurtherColumns}
use Rattle.tables.specs.FurtherColumns.{AreFurtherColumns, FurtherColumn, HasClasses, HasCounts}
use Rattle.tables.specs.FurtherColumns.{HasReasons, HaveCells, class_cells, count_cells, further_in}
use Rattle.tables.specs.FurtherColumns.{reason_cell, reason_cells}
use Rattle.table_rows.specs.Cells.{Number}

-- a map of a map
pub mapped_twice : {A B C : Type 0} (g : B → C) (f : A → B) (xs : List A)
    → map (λ x. g (f x)) xs ≡ map g (map f xs)
mapped_twice g f [] = refl
mapped_twice g f (x ∷ xs) = ap (λ l. g (f x) ∷ l) (mapped_twice g f xs)

cells_of : (count : ℕ) (fs : List Further) → HaveCells count (map further_in fs)
    → All (λ f. length (further_in f).cells ≡ count) fs
cells_of count [] h = All-nil (λ f. length (further_in f).cells ≡ count)
cells_of count (f ∷ fs) h = All-cons (λ f. length (further_in f).cells ≡ count) f fs
    (All-head (λ column. length column.cells ≡ count) (further_in f) (map further_in fs) h)
    (cells_of count fs
    (All-tail (λ column. length column.cells ≡ count) (further_in f) (map further_in fs) h))

-- each column has a cell for a fault of the list
pub cells_within : (fs : List Further) (columns : List FurtherColumn) (count i : ℕ)
    → map further_in fs ≡ columns → HaveCells count columns → i < count
    → All (λ f. i < length (further_in f).cells) fs
cells_within fs columns count i same have lt = All-weaker (λ f. length (further_in f).cells ≡ count)
    (λ f. i < length (further_in f).cells) (λ f e. omega (arith, e, lt)) fs
    (cells_of count fs (subst (HaveCells count) (sym same) have))

one_column : (count : ℕ) (column : FurtherColumn) → length column.cells ≡ count
    → HaveCells count (column ∷ [])
one_column count column long = All-cons (λ column. length column.cells ≡ count) column [] long
    (All-nil (λ column. length column.cells ≡ count))

reasons_have : (job : Parts) (firsts : List (Option ℕ)) (wanted : Bool)
    (columns : List FurtherColumn) → HasReasons job firsts wanted columns
    → HaveCells (length (faults job.list.model job.circuit)) columns
reasons_have job firsts false columns none = rw (none) (All-nil _)
reasons_have job firsts true columns (reasons, are, is) =
    rw (is) (one_column _ (reason_cells reasons) (length-map reasons reason_cell ∙ are.count))

counts_have : (job : Parts) (wanted : Option ℕ) (columns : List FurtherColumn)
    → HasCounts job wanted columns → HaveCells (length (faults job.list.model job.circuit)) columns
counts_have job None columns none = rw (none) (All-nil _)
counts_have job (Some most) columns (counts, are, is) =
    rw (is) (one_column _ (count_cells counts) (length-map counts Number ∙ are.count))

classes_have : (job : Parts) (wanted : Bool) (columns : List FurtherColumn)
    → HasClasses job wanted columns → HaveCells (length (faults job.list.model job.circuit)) columns
classes_have job false columns none = rw (none) (All-nil _)
classes_have job true columns (classes, are, is) = rw (is) (one_column _
    (class_cells classes.class_of) (length-map classes.class_of Number ∙ are.count))

-- the further columns of a job have a cell for each fault
pub columns_have : (job : Parts) (firsts : List (Option ℕ)) (wanted : FurtherColumns)
    (columns : List FurtherColumn) → AreFurtherColumns job firsts wanted columns
    → HaveCells (length (faults job.list.model job.circuit)) columns
columns_have job firsts wanted columns (reasons, counts, classes, r, n, k, is) =
    let P = λ (column : FurtherColumn).
    length column.cells ≡ length (faults job.list.model job.circuit) in
    rw (is) (All-append P reasons (counts ++ classes)
    (reasons_have job firsts wanted.reasons reasons r)
    (All-append P counts classes (counts_have job wanted.detections counts n)
    (classes_have job wanted.classes classes k)))

-- the classes of a job with the same faults and circuit
classes_same : (one job : Parts) (wanted : Bool) (columns : List FurtherColumn)
    → one.list ≡ job.list → one.circuit ≡ job.circuit → HasClasses one wanted columns
    → HasClasses job wanted columns
classes_same one job false columns e f none = none
classes_same one job true columns e f (classes, are, is) = (classes, rw (e, f) at are, is)

-- the further columns of a job, from those that were found one after another
pub columns_found : (job one : Parts) (firsts : List (Option ℕ)) (wanted : FurtherColumns)
    (reasons counts classes columns : List FurtherColumn) → one.list ≡ job.list
    → one.circuit ≡ job.circuit → HasReasons job firsts wanted.reasons reasons
    → HasCounts job wanted.detections counts → HasClasses one wanted.classes classes
    → columns ≡ reasons ++ (counts ++ classes) → AreFurtherColumns job firsts wanted columns
columns_found job one firsts wanted reasons counts classes columns e f r n k is =
    (reasons, counts, classes, r, n, classes_same one job wanted.classes classes e f k, is)
