-- Lists in a list.
use Rattle.std.proofs.Common.{◌≡◌, ◌<◌, ◌∙◌, ℕ, ap, subst, sym, arith, List, length, map, set, Vec}
use Rattle.std.{proofs.Common.{Global, drop, get_or, [], ◌∷◌, ◌++◌}, specs.Vec.with_items}
use Rattle.std.specs.Prelude.{All, Contains, Some, option_map, slice_get}
use Rattle.std.proofs.lemmas.List.{length-map, map-set, map_push, take-append-le, take_all}
use Rattle.std.proofs.lemmas.{List.Elements.All-append, Option.{slice_get_read, slice_get-map}}

abbrev pub rows_of : List (Vec ℕ Global) → List (List ℕ)
rows_of rows = map (λ row. row.items) rows

pub row_at : (rows : List (Vec ℕ Global)) (n i : ℕ) (v : Vec ℕ Global) → length (rows_of rows) ≡ n
    → i < n → v ≡ get_or rows i v → slice_get (rows_of rows) i ≡ Some v.items
row_at rows n i v count lt e =
    let long = length-map rows (λ (row : Vec ℕ Global). row.items) in
    slice_get-map (λ (row : Vec ℕ Global). row.items) rows i
    ∙ ap (option_map (λ (row : Vec ℕ Global). row.items)) (slice_get_read rows n i v
    (let same : n ≡ length rows = omega (arith, long, count) in same) lt e)

-- what is true of all elements is true of one
pub all_at : {X : Type 0} (P : X → Type 0) (xs : List X) (x : X) → All P xs → Contains xs x → P x
all_at P xs x all at = subst P at.2 (all at.0 x at.1)

-- one list more at the end
pub all_pushed : (P : List ℕ → Type 0) (rows : List (Vec ℕ Global)) (v : Vec ℕ Global)
    → All P (rows_of rows) → P v.items → All P (rows_of (rows ++ v ∷ []))
all_pushed P rows v all own =
    subst (All P) (sym (map_push (λ (row : Vec ℕ Global). row.items) rows v))
    (All-append P (rows_of rows) (v.items ∷ []) all (λ k d lt. last k d lt))
  where
    last : (k : ℕ) (d : List ℕ) → k < length (v.items ∷ []) → P (get_or (v.items ∷ []) k d)
    last k d lt = let first : k ≡ 0 = omega (arith, lt) in
        subst (λ x. P (get_or (v.items ∷ []) x d)) (sym first) own

pub rows_set : (rows : List (Vec ℕ Global)) (i : ℕ) (v : Vec ℕ Global)
    → rows_of (set rows i v) ≡ set (rows_of rows) i v.items
rows_set rows i v = map-set (λ (row : Vec ℕ Global). row.items) rows i v

-- items that were written back
pub with_items_is : {X : Type 0} (v : Vec X Global) (items : List X)
    → length items ≡ length v.items → (with_items v items).items ≡ items
with_items_is v items long =
    let size = v.ok.0 in
    take-append-le v.len items (drop (length items) v.items) (omega (arith, long, size))
    ∙ take_all v.len items (omega (arith, long, size))
