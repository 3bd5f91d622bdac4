-- The lines of stretches of a list, one stretch after another.
use Rattle.std.proofs.Common.{◌≡◌, ◌≤◌, ◌<◌, ℕ, zero, suc, ◌+◌, ◌-◌, List, [], ◌∷◌, ◌++◌, length}
use Rattle.std.proofs.Common.{take, drop, take_all, ap, get_or, arith, refl, sym, subst, ◌∙◌}
use Rattle.std.proofs.{Common.{append-nil, append_assoc}, lemmas.List.{drop-map, take-map}}
use Rattle.std.proofs.lemmas.List.{take-append-drop, take-take, drop-take, append_cancel_left}
use Rattle.std.proofs.lemmas.List.{Concat.flat_map-append, Folds.flat_map-map}
use Rattle.std.specs.Prelude.{Some, None, slice_get, map, zip, unwrap_or}
use Rattle.std.specs.List.{flat_map, slice_range}
use Rattle.list_lemmas.proofs.Places.{place_within, within_place}
use Rattle.byte_output.specs.Output.{Output, TakesAll, TakesFront}
use Rattle.byte_output.proofs.Public.{takes_more, stopped, flat_map_taken}
use Rattle.threaded_lines.specs.Texts.{joined, text_between}
use Rattle.threaded_lines.proofs.LinesByPairs.{zipped_by, all_zipped}

-- what is before a place, and then up to another
before_by : {X : Type 0} (xs : List X) (a b : ℕ) → a ≤ b
    → take b xs ≡ take a xs ++ slice_range xs a b
before_by xs a b le =
    let whole = take-append-drop a (take b xs) in
    let n : a + (b - a) ≡ b = omega (arith, le) in
    let behind : drop a (take b xs) ≡ take (b - a) (drop a xs) =
    subst (λ m. drop a (take m xs) ≡ take (b - a) (drop a xs)) n (drop-take a (b - a) xs) in
    sym whole ∙ rw (take-take a b xs le, behind) refl

lines_by : {X : Type 0} (f : X → List ℕ) (xs : List X) (a b : ℕ) → a ≤ b
    → flat_map f (take b xs) ≡ flat_map f (take a xs) ++ flat_map f (slice_range xs a b)
lines_by f xs a b le = ap (λ l. flat_map f l) (before_by xs a b le)
    ∙ flat_map-append f (take a xs) (slice_range xs a b)

-- the lines of two stretches, one after the other
pub both_stretches : {X : Type 0} (f : X → List ℕ) (xs : List X) (a b c : ℕ) → a ≤ b → b ≤ c
    → flat_map f (slice_range xs a c)
    ≡ flat_map f (slice_range xs a b) ++ flat_map f (slice_range xs b c)
both_stretches f xs a b c ab bc =
    let first = flat_map f (slice_range xs a b) in
    let second = flat_map f (slice_range xs b c) in
    append_cancel_left (flat_map f (take a xs)) (flat_map f (slice_range xs a c)) (first ++ second)
    (sym (lines_by f xs a c (omega (arith, ab, bc))) ∙ (lines_by f xs b c bc
    ∙ (ap (λ l. l ++ second) (lines_by f xs a b ab)
    ∙ append_assoc (flat_map f (take a xs)) first second)))

-- the lines of a stretch of one
one_line : {X : Type 0} (f : X → List ℕ) (xs : List X) (i : ℕ) (d : X) (y : List ℕ)
    → i < length xs → y ≡ f (get_or xs i d) → flat_map f (slice_range xs i (i + 1)) ≡ y
one_line f xs i d y lt is =
    append_cancel_left (flat_map f (take i xs)) (flat_map f (slice_range xs i (i + 1))) y
    (sym (lines_by f xs i (i + 1) (omega arith)) ∙ flat_map_taken f xs i d y lt is)

-- the lines of a stretch, and the line that comes after it
line_more : {X : Type 0} (f : X → List ℕ) (xs : List X) (a i : ℕ) (d : X) (y : List ℕ) → a ≤ i
    → i < length xs → y ≡ f (get_or xs i d)
    → flat_map f (slice_range xs a (i + 1)) ≡ flat_map f (slice_range xs a i) ++ y
line_more f xs a i d y le lt is = both_stretches f xs a i (i + 1) le (omega arith)
    ∙ ap (λ l. flat_map f (slice_range xs a i) ++ l) (one_line f xs i d y lt is)

-- the lines of a stretch round the line at a place
line_within : {X : Type 0} (f : X → List ℕ) (xs : List X) (a i b : ℕ) (d : X) (y : List ℕ) → a ≤ i
    → i < b → i < length xs → y ≡ f (get_or xs i d) → flat_map f (slice_range xs a b)
    ≡ flat_map f (slice_range xs a i) ++ (y ++ flat_map f (slice_range xs (i + 1) b))
line_within f xs a i b d y le before lt is =
    both_stretches f xs a (i + 1) b (omega (arith, le)) (omega (arith, before))
    ∙ (ap (λ l. l ++ flat_map f (slice_range xs (i + 1) b)) (line_more f xs a i d y le lt is)
    ∙ append_assoc (flat_map f (slice_range xs a i)) y (flat_map f (slice_range xs (i + 1) b)))

-- the line of the pair at a place was taken whole, after those of the pairs of a stretch before it
pub line_put : {F X : Type 0} (line : F × X → List ℕ) (fs : List F) (xs : List X) (a i : ℕ) (x : X)
    (text : F → List ℕ) (p q r : Output) → a ≤ i → i < length fs → slice_get xs i ≡ Some x
    → ((f : F) → text f ≡ line (f, x)) → TakesAll p q (flat_map line (slice_range (zip fs xs) a i))
    → ((f : F) → slice_get fs i ≡ Some f → TakesAll q r (text f))
    → TakesAll p r (flat_map line (slice_range (zip fs xs) a (i + 1)))
line_put line fs xs a i x text p q r le lt has is before wrote =
    let at = within_place fs i lt in
    let pair = zipped_by fs xs i at.0 x (at.0, x) at.1 has in
    rw (line_more line (zip fs xs) a i (at.0, x) (text at.0) le pair.0 (is at.0 ∙ ap line pair.1))
    (takes_more p q r _ _ before (wrote at.0 at.1))

-- a beginning of it was taken
pub line_cut : {F X : Type 0} (line : F × X → List ℕ) (fs : List F) (xs : List X) (a i b : ℕ)
    (x : X) (text : F → List ℕ) (p q r : Output) → a ≤ i → i < b → i < length fs
    → slice_get xs i ≡ Some x → ((f : F) → text f ≡ line (f, x))
    → TakesAll p q (flat_map line (slice_range (zip fs xs) a i))
    → ((f : F) → slice_get fs i ≡ Some f → TakesFront q r (text f))
    → TakesFront p r (flat_map line (slice_range (zip fs xs) a b))
line_cut line fs xs a i b x text p q r le before lt has is taken wrote =
    let at = within_place fs i lt in
    let pair = zipped_by fs xs i at.0 x (at.0, x) at.1 has in
    stopped _ (text at.0) _ _ p q r taken (wrote at.0 at.1)
    (line_within line (zip fs xs) a i b (at.0, x) (text at.0) le before pair.0
    (is at.0 ∙ ap line pair.1))

-- it is empty, so nothing had to be taken
pub line_left : {F X : Type 0} (line : F × X → List ℕ) (fs : List F) (xs : List X) (a i : ℕ) (x : X)
    (p q : Output) → a ≤ i → i < length fs → slice_get xs i ≡ Some x
    → ((f : F) → line (f, x) ≡ []) → TakesAll p q (flat_map line (slice_range (zip fs xs) a i))
    → TakesAll p q (flat_map line (slice_range (zip fs xs) a (i + 1)))
line_left line fs xs a i x p q le lt has none before =
    let at = within_place fs i lt in
    let pair = zipped_by fs xs i at.0 x (at.0, x) at.1 has in
    rw (
      line_more line (zip fs xs) a i (at.0, x) [] le pair.0 (sym (none at.0) ∙ ap line pair.1),
      append-nil,
    ) before

-- the lines of all pairs are those of one stretch
pub whole_stretch : {F X : Type 0} (line : F × X → List ℕ) (fs : List F) (xs : List X) (n : ℕ)
    → length xs ≡ length fs → n ≡ length fs
    → flat_map line (slice_range (zip fs xs) 0 n) ≡ flat_map line (zip fs xs)
whole_stretch line fs xs n same is =
    let all : take n (zip fs xs) ≡ zip fs xs = all_zipped fs xs n same (omega (arith, is)) in
    sym (lines_by line (zip fs xs) 0 n (omega arith)) ∙ ap (λ l. flat_map line l) all

-- the lines of a stretch were taken whole, and then those of the next one
pub stretch_put : {X : Type 0} (f : X → List ℕ) (xs : List X) (a b c : ℕ) (p q r : Output) → a ≤ b
    → b ≤ c → TakesAll p q (flat_map f (slice_range xs a b))
    → TakesAll q r (flat_map f (slice_range xs b c))
    → TakesAll p r (flat_map f (slice_range xs a c))
stretch_put f xs a b c p q r ab bc first second =
    rw (both_stretches f xs a b c ab bc) (takes_more p q r _ _ first second)

-- of the next one a beginning was taken
pub stretch_cut : {X : Type 0} (f : X → List ℕ) (xs : List X) (a b c n : ℕ) (p q r : Output)
    → a ≤ b → b ≤ c → c ≤ n → TakesAll p q (flat_map f (slice_range xs a b))
    → TakesFront q r (flat_map f (slice_range xs b c))
    → TakesFront p r (flat_map f (slice_range xs a n))
stretch_cut f xs a b c n p q r ab bc cn first second =
    stopped (flat_map f (slice_range xs a b)) (flat_map f (slice_range xs b c))
    (flat_map f (slice_range xs c n)) _ p q r first second
    (both_stretches f xs a b n ab (omega (arith, bc, cn))
    ∙ ap (λ l. flat_map f (slice_range xs a b) ++ l) (both_stretches f xs b c n bc cn))

-- what holds of each item of a list and of one more holds of both
pub each_and_one : {X : Type 0} (P : X → Type 0) (xs : List X) (y : X)
    → ((i : ℕ) (x : X) → slice_get xs i ≡ Some x → P x) → P y
    → (i : ℕ) (x : X) → slice_get (xs ++ y ∷ []) i ≡ Some x → P x
each_and_one P [] y each own zero x at = subst P (ap (λ o. unwrap_or o y) at) own
each_and_one P [] y each own (suc i) x at = let bad : None ≡ Some x = at in cc
each_and_one P (z ∷ xs) y each own zero x at = each 0 x at
each_and_one P (z ∷ xs) y each own (suc i) x at =
    each_and_one P xs y (λ k w is. each (suc k) w is) own i x at

at_index : {X : Type 0} (xs : List X) (i : ℕ) (x d : X) → slice_get xs i ≡ Some x
    → get_or xs i d ≡ x
at_index [] i x d at = let bad : None ≡ Some x = at in cc
at_index (z ∷ xs) zero x d at = ap (λ o. unwrap_or o x) at
at_index (z ∷ xs) (suc i) x d at = at_index xs i x d at

-- what holds at each place holds of each item
pub of_each : {X : Type 0} (P : X → Type 0) (xs : List X)
    → ((i : ℕ) (d : X) → i < length xs → P (get_or xs i d))
    → (i : ℕ) (x : X) → slice_get xs i ≡ Some x → P x
of_each P xs each i x at = subst P (at_index xs i x x at) (each i x (place_within xs i x at))

each_pushed : {X : Type 0} (P : X → Type 0) (xs : List X) (y : X)
    → ((i : ℕ) (d : X) → i < length xs → P (get_or xs i d)) → P y
    → (i : ℕ) (d : X) → i < length xs + 1 → P (get_or (xs ++ y ∷ []) i d)
each_pushed P [] y each own zero d lt = own
each_pushed P [] y each own (suc i) d lt = absurd (omega (arith, lt))
each_pushed P (z ∷ xs) y each own zero d lt = each 0 d (omega arith)
each_pushed P (z ∷ xs) y each own (suc i) d lt =
    each_pushed P xs y (λ k e less. each (suc k) e (omega (arith, less))) own i d
    (omega (arith, lt))

-- and of each item of a list to which one more was pushed
pub each_of_pushed : {X : Type 0} (P : X → Type 0) (xs ys : List X) (y : X) → ys ≡ xs ++ y ∷ []
    → ((i : ℕ) (d : X) → i < length xs → P (get_or xs i d)) → P y
    → (i : ℕ) (d : X) → i < length xs + 1 → P (get_or ys i d)
each_of_pushed P xs ys y is each own i d lt =
    subst (λ l. P (get_or l i d)) (sym is) (each_pushed P xs y each own i d lt)

-- the lines of a whole list are those of one stretch
pub all_lines : {X : Type 0} (f : X → List ℕ) (xs : List X) (n : ℕ) → n ≡ length xs
    → flat_map f (slice_range xs 0 n) ≡ flat_map f xs
all_lines f xs n is =
    let all : take n xs ≡ xs = take_all n xs (omega (arith, is)) in
    sym (lines_by f xs 0 n (omega arith)) ∙ ap (λ l. flat_map f l) all

-- texts that are made of the items of a list, one after another
pub all_mapped : {X : Type 0} (f : X → List ℕ) (xs : List X) → joined (map f xs) ≡ flat_map f xs
all_mapped f xs = flat_map-map (λ text. text) f xs

-- those of a stretch
pub mapped_between : {X : Type 0} (f : X → List ℕ) (xs : List X) (a b : ℕ)
    → text_between (map f xs) a b ≡ flat_map f (slice_range xs a b)
mapped_between f xs a b =
    rw (drop-map f a xs, take-map f (b - a) (drop a xs)) (all_mapped f (slice_range xs a b))

-- as many as there are pairs
pub mapped_count : {F X : Type 0} (line : F × X → List ℕ) (fs : List F) (xs : List X)
    → length xs ≡ length fs → length (map line (zip fs xs)) ≡ length fs
mapped_count line [] xs same = refl
mapped_count line (f ∷ fs) [] same = absurd (omega (arith, same))
mapped_count line (f ∷ fs) (x ∷ xs) same = ap suc (mapped_count line fs xs (omega (arith, same)))

-- they were taken, as those of one stretch
pub all_put : {X : Type 0} (f : X → List ℕ) (xs : List X) (n : ℕ) (p q : Output) → n ≡ length xs
    → TakesAll p q (flat_map f (slice_range xs 0 n)) → TakesAll p q (flat_map f xs)
all_put f xs n p q is put = subst (λ text. TakesAll p q text) (all_lines f xs n is) put

-- those of a stretch were taken, and then a beginning of the rest
pub all_cut : {X : Type 0} (f : X → List ℕ) (xs : List X) (i : ℕ) (p q r : Output)
    → i ≤ length xs → TakesAll p q (flat_map f (slice_range xs 0 i))
    → TakesFront q r (flat_map f (slice_range xs i (length xs))) → TakesFront p r (flat_map f xs)
all_cut f xs i p q r le first second =
    subst (λ text. TakesFront p r text) (all_lines f xs (length xs) refl)
    (stretch_cut f xs 0 i (length xs) (length xs) p q r (omega arith) le (omega arith) first second)

-- the text of a stretch was taken after those before it
pub text_put : {X : Type 0} (f : X → List ℕ) (xs : List X) (a b s c : ℕ) (text : List ℕ)
    (p q r : Output) → s ≡ b → text ≡ flat_map f (slice_range xs s c) → a ≤ b → s ≤ c
    → TakesAll p q (flat_map f (slice_range xs a b)) → TakesAll q r text
    → TakesAll p r (flat_map f (slice_range xs a c))
text_put f xs a b s c text p q r here is ab sc first second =
    stretch_put f xs a b c p q r ab (subst (λ k. k ≤ c) here sc) first
    (subst (λ k. TakesAll q r (flat_map f (slice_range xs k c))) here
    (subst (λ t. TakesAll q r t) is second))

-- or a beginning of it
pub text_cut : {X : Type 0} (f : X → List ℕ) (xs : List X) (a b s c n : ℕ) (text : List ℕ)
    (p q r : Output) → s ≡ b → text ≡ flat_map f (slice_range xs s c) → a ≤ b → s ≤ c → c ≤ n
    → TakesAll p q (flat_map f (slice_range xs a b)) → TakesFront q r text
    → TakesFront p r (flat_map f (slice_range xs a n))
text_cut f xs a b s c n text p q r here is ab sc cn first second =
    stretch_cut f xs a b c n p q r ab (subst (λ k. k ≤ c) here sc) cn first
    (subst (λ k. TakesFront q r (flat_map f (slice_range xs k c))) here
    (subst (λ t. TakesFront q r t) is second))
