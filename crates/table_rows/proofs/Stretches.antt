-- The texts of rows, stretch by stretch.
use Rattle.std.proofs.Common.{◌≡◌, ◌≤◌, ◌<◌, ◌∙◌, ◌+◌, ◌-◌, ℕ, List, [], ◌∷◌, ◌++◌, ap, append-nil}
use Rattle.std.proofs.Common.{append_assoc, take_all, arith, drop, drop-cons, get_or, length, map}
use Rattle.std.proofs.Common.{refl, sym, subst, take, ◌*◌, Global, Vec, suc, zero}
use Rattle.std.proofs.lemmas.List.{append_cancel_left, drop-take, get_or-map, length-map}
use Rattle.std.proofs.lemmas.List.{take-append-drop, take-take, Concat.flat_map-append}
use Rattle.std.proofs.lemmas.List.FromFn.{get_or-enumerate_from, length-enumerate_from}
use Rattle.std.{proofs.Math.Nat.add-mul, specs.Prelude.{IfOk, Ok, Result, min}}
use Rattle.std.specs.declared.alloc.AllocError.{AllocError}
use Rattle.std.specs.List.{enumerate_from, flat_map, slice_range}
use Rattle.threaded_lines.specs.Texts.{joined, text_between}
use Rattle.table_rows.specs.declared.rows.Format.{Format, TheVariants.{Csv, Json}}
use Rattle.table_rows.specs.Table.{Table, csv_row, json_row, row_at, row_texts}

before_by : (ts : List (List ℕ)) (a b : ℕ) → a ≤ b
    → joined (take b ts) ≡ joined (take a ts) ++ text_between ts a b
before_by ts a b le =
    let whole = take-append-drop a (take b ts) in
    let n : a + (b - a) ≡ b = omega (arith, le) in
    let behind : drop a (take b ts) ≡ take (b - a) (drop a ts) =
    subst (λ m. drop a (take m ts) ≡ take (b - a) (drop a ts)) n (drop-take a (b - a) ts) in
    let cut : take b ts ≡ take a ts ++ slice_range ts a b =
    sym whole ∙ rw (take-take a b ts le, behind) refl in
    ap joined cut ∙ flat_map-append (λ t. t) (take a ts) (slice_range ts a b)

-- the texts of two stretches, one after the other
pub both_between : (ts : List (List ℕ)) (a b c : ℕ) → a ≤ b → b ≤ c
    → text_between ts a c ≡ text_between ts a b ++ text_between ts b c
both_between ts a b c ab bc =
    let first = text_between ts a b in
    let second = text_between ts b c in
    append_cancel_left (joined (take a ts)) (text_between ts a c) (first ++ second)
    (sym (before_by ts a c (omega (arith, ab, bc))) ∙ (before_by ts b c bc
    ∙ (ap (λ l. l ++ second) (before_by ts a b ab)
    ∙ append_assoc (joined (take a ts)) first second)))

-- all texts
pub all_between : (ts : List (List ℕ)) (n : ℕ) → n ≡ length ts → text_between ts 0 n ≡ joined ts
all_between ts n is =
    sym (before_by ts 0 n (omega arith)) ∙ ap joined (take_all n ts (omega (arith, is)))

one_between : (ts : List (List ℕ)) (i : ℕ) (d : List ℕ) → i < length ts
    → text_between ts i (i + 1) ≡ get_or ts i d
one_between ts i d lt =
    let n : 1 ≡ i + 1 - i = omega arith in
    subst (λ m. joined (take m (drop i ts)) ≡ get_or ts i d) n
    (rw (drop-cons ts i d lt) (append-nil (get_or ts i d)))

-- no text before the first
pub none_between : (ts : List (List ℕ)) (i : ℕ) → text_between ts i i ≡ []
none_between ts i = let n : 0 ≡ i - i = omega arith in
    subst (λ m. joined (take m (drop i ts)) ≡ []) n refl

-- the text of the next row
more_between : (ts : List (List ℕ)) (a i : ℕ) (y : List ℕ) → a ≤ i → i < length ts
    → get_or ts i y ≡ y → text_between ts a (i + 1) ≡ text_between ts a i ++ y
more_between ts a i y le lt is = both_between ts a i (i + 1) le (omega arith)
    ∙ ap (λ t. text_between ts a i ++ t) (one_between ts i y lt ∙ is)

pub texts_counted : (format : Format) (t : Table) → length (row_texts format t) ≡ length t.rows
texts_counted Csv t = length-map t.rows csv_row
texts_counted Json t = length-map (enumerate_from 0 t.rows) (json_row t.head.columns)
    ∙ length-enumerate_from 0 t.rows

pub record_added : (t : Table) (a i : ℕ) → a ≤ i → i < length t.rows
    → text_between (row_texts Csv t) a (i + 1)
    ≡ text_between (row_texts Csv t) a i ++ csv_row (row_at t i)
record_added t a i le lt =
    let n = texts_counted Csv t in
    more_between (row_texts Csv t) a i (csv_row (row_at t i)) le (omega (arith, n, lt))
    (get_or-map csv_row t.rows i [] _ lt)

pub object_added : (t : Table) (a i : ℕ) → a ≤ i → i < length t.rows
    → text_between (row_texts Json t) a (i + 1)
    ≡ text_between (row_texts Json t) a i ++ json_row t.head.columns (i, row_at t i)
object_added t a i le lt =
    let n = texts_counted Json t in
    let all = length-enumerate_from 0 t.rows in
    let at : get_or (enumerate_from 0 t.rows) i (i, []) ≡ (i, row_at t i) =
    get_or-enumerate_from 0 t.rows i (i, []) lt ∙ ap (λ k. (k, row_at t i)) (omega arith) in
    more_between (row_texts Json t) a i (json_row t.head.columns (i, row_at t i)) le
    (omega (arith, n, lt))
    (get_or-map (json_row t.head.columns) (enumerate_from 0 t.rows) i (i, []) _
    (omega (arith, all, lt)) ∙ ap (json_row t.head.columns) at)

-- what holds of each item of a list and of one more, by their places
pub each_pushed : {X : Type 0} (P : ℕ → X → Type 0) (xs : List X) (y : X)
    → ((i : ℕ) (d : X) → i < length xs → P i (get_or xs i d)) → P (length xs) y
    → (i : ℕ) (d : X) → i < length xs + 1 → P i (get_or (xs ++ y ∷ []) i d)
each_pushed P [] y each own zero d lt = own
each_pushed P [] y each own (suc i) d lt = absurd (omega (arith, lt))
each_pushed P (z ∷ xs) y each own zero d lt = each 0 d (omega arith)
each_pushed P (z ∷ xs) y each own (suc i) d lt =
    each_pushed (λ k. P (suc k)) xs y (λ k e less. each (suc k) e (omega (arith, less))) own i d
    (omega (arith, lt))

-- each stretch begins where the one before it ends
pub next_cut : (size count k : ℕ) → min (k * size) count ≤ min ((k + 1) * size) count
next_cut size count k = omega (arith, add-mul k 1 size)

-- the text that a thread returns, by another name of its stretch
pub same_stretch : (r : Result (Vec ℕ Global) AllocError) (ts us : List (List ℕ)) (a b m n : ℕ)
    → ts ≡ us → a ≡ m → b ≡ n → IfOk r (λ text. text.items ≡ text_between ts a b)
    → IfOk r (λ text. text.items ≡ text_between us m n)
same_stretch r ts us a b m n e f g h = rw (← e, ← f, ← g) h

-- the texts of stretches, and of the rest, are the texts of all
pub stretches_joined : (ts : List (List ℕ)) (cut : ℕ → ℕ) → ((k : ℕ) → cut k ≤ cut (k + 1))
    → (parts : List (Result (Vec ℕ Global) AllocError)) (own : Vec ℕ Global)
    (texts : List (Vec ℕ Global)) (k n : ℕ)
    → ((i m : ℕ) (d : Result (Vec ℕ Global) AllocError) → i < length parts → m ≡ k + i
    → IfOk (get_or parts i d) (λ text. text.items ≡ text_between ts (cut m) (cut (m + 1))))
    → own.items ≡ text_between ts (cut (k + length parts)) n → cut (k + length parts) ≤ n
    → map Ok texts ≡ parts ++ Ok own ∷ []
    → (flat_map (λ text. text.items) texts ≡ text_between ts (cut k) n) × (cut k ≤ n)
stretches_joined ts cut up [] own [] k n each is le same =
    let bad : [] ≡ Ok own ∷ [] = same in cc
stretches_joined ts cut up [] own (t ∷ u ∷ us) k n each is le same =
    let bad : Ok t ∷ Ok u ∷ map Ok us ≡ Ok own ∷ [] = same in cc
stretches_joined ts cut up [] own (t ∷ []) k n each is le same =
    let e : t ≡ own = cc in
    let z : k + 0 ≡ k = omega arith in
    (append-nil t.items ∙ (ap (λ v. v.items) e ∙ rw z at is), rw z at le)
stretches_joined ts cut up (p ∷ ps) own [] k n each is le same =
    let bad : [] ≡ p ∷ (ps ++ Ok own ∷ []) = same in cc
stretches_joined ts cut up (p ∷ ps) own (t ∷ us) k n each is le same =
    let e : Ok t ≡ p = cc in
    let rest : map Ok us ≡ ps ++ Ok own ∷ [] = cc in
    let z : k + suc (length ps) ≡ k + 1 + length ps = omega arith in
    let here : t.items ≡ text_between ts (cut k) (cut (k + 1)) =
    subst (λ r. IfOk r (λ text. text.items ≡ text_between ts (cut k) (cut (k + 1)))) (sym e)
    (each 0 k p (omega arith) (omega arith)) in
    let more = stretches_joined ts cut up ps own us (k + 1) n
    (λ i m d lt at. each (suc i) m d (omega (arith, lt)) (omega (arith, at))) (rw z at is)
    (rw z at le) rest in (
      ap (λ l. l ++ flat_map (λ text. text.items) us) here
          ∙ (ap (λ l. text_between ts (cut k) (cut (k + 1)) ++ l) more.0
          ∙ sym (both_between ts (cut k) (cut (k + 1)) n (up k) more.1)),
      omega (arith, up k, more.1),
    )
