-- The rows with an error among the rows of a text, given by the error of each row at its place.
use Rattle.std.proofs.Common.{◌≡◌, ℕ, ◌+◌, ◌<◌, zero, suc, List, [], ◌∷◌, length, get_or}
use Rattle.std.proofs.Common.{Option, Some, None, sym, refl, ap, ◌∙◌, arith}
use Rattle.std.specs.List.{filter_map, cons_option, enumerate_from}
use Rattle.std.proofs.lemmas.List.FromFn.{length-enumerate_from, get_or-enumerate_from}
use Rattle.text_lines.specs.Rows.{Row, rows}

-- ---- the result of `filter_map` if it is empty, and its first element

nothing_first : {Y : Type 0} (o : Option Y) (rest : List Y) → cons_option o rest ≡ []
    → (o ≡ None) × (rest ≡ [])
nothing_first None rest e = (refl, e)
nothing_first (Some y) rest e = absurd (cc)

none_at : {X Y : Type 0} (h : X → Option Y) (xs : List X) → filter_map h xs ≡ []
    → (i : ℕ) (d : X) → i < length xs → h (get_or xs i d) ≡ None
none_at h [] e i d within = absurd (omega arith)
none_at h (x ∷ xs) e zero d within = (nothing_first (h x) (filter_map h xs) e).0
none_at h (x ∷ xs) e (suc i) d within =
    none_at h xs (nothing_first (h x) (filter_map h xs) e).1 i d (omega arith)

first_or_later : {X Y : Type 0} (h : X → Option Y) (x : X) (y : Y) (o : Option Y)
    (rest ys : List Y) → h x ≡ o → cons_option o rest ≡ y ∷ ys
    → (rest ≡ y ∷ ys → (z : X) × (h z ≡ Some y)) → (z : X) × (h z ≡ Some y)
first_or_later h x y None rest ys is e later = later e
first_or_later h x y (Some w) rest ys is e later =
    let same : w ≡ y = cc in (x, is ∙ ap Some same)

first_some : {X Y : Type 0} (h : X → Option Y) (xs : List X) (y : Y) (ys : List Y)
    → filter_map h xs ≡ y ∷ ys → (z : X) × (h z ≡ Some y)
first_some h [] y ys e = absurd (cc)
first_some h (x ∷ xs) y ys e =
    first_or_later h x y (h x) (filter_map h xs) ys refl e (λ later. first_some h xs y ys later)

-- ---- of rows

-- the first error is some row's
pub first_fault : {F : Type 0} (fault : ℕ × Row → Option F) (text : List ℕ) (f : F) (more : List F)
    → filter_map fault (enumerate_from 0 (rows text)) ≡ f ∷ more
    → (at : ℕ × Row) × (fault at ≡ Some f)
first_fault fault text f more e = first_some fault (enumerate_from 0 (rows text)) f more e

-- if there is no error, no row has one
pub no_fault_at : {F : Type 0} (fault : ℕ × Row → Option F) (text : List ℕ)
    → filter_map fault (enumerate_from 0 (rows text)) ≡ [] → (i : ℕ) (d : Row)
    → i < length (rows text) → fault (i, get_or (rows text) i d) ≡ None
no_fault_at fault text none i d within =
    let places = enumerate_from 0 (rows text) in
    let at = get_or-enumerate_from 0 (rows text) i (0, d) within in
    let number : i ≡ 0 + i = omega arith in
    ap (λ n. fault (n, get_or (rows text) i d)) number ∙ ap fault (sym at)
    ∙ none_at fault places none i (0, d) (omega (arith, length-enumerate_from 0 (rows text)))
