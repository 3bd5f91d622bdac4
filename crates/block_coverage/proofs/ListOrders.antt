-- Lists whose elements stand in an order, tests that some element passes, and counts.
use Rattle.std.proofs.Common.{◌≡◌, ◌<◌, ◌≤◌, ◌+◌, ◌∙◌, ℕ, zero, suc, Bool, true, false, cond, ◌&&◌}
use Rattle.std.proofs.Common.{◌||◌, refl, sym, ap, subst, List, [], ◌∷◌, ◌++◌, length, arith, inl}
use Rattle.std.proofs.{Common.{inr, get_or, map, set, not, drop}, lemmas.Bool.or_parts}
use Rattle.std.specs.Prelude.{AllPairs, Option, Some, None, count_by, slice_get, unwrap_or, zip}
use Rattle.std.{specs.List.{list_any, position_or_len}, proofs.lemmas.List.Elements.Contains-get_or}
use Rattle.std.proofs.lemmas.List.{Kept.AllPairs-cons, Sums.sum_by-cons}
use Rattle.list_lemmas.proofs.{Distinct.Distinct, Members.{Among, among, contained}}
use Rattle.list_lemmas.proofs.Places.{at_place}

-- ---- orders

-- each element stands before all later ones
abbrev pub Ordered : {X : Type 0} → (X → X → Type 0) → List X → Type 0
Ordered R [] = Unit {0}
Ordered {X} R (x ∷ xs) = ((y : X) → Among y xs → R x y) × Ordered R xs

pub ordered_from : {X : Type 0} (R : X → X → Type 0) (xs : List X) → AllPairs R xs → Ordered R xs
ordered_from R [] pairs = tt
ordered_from {X} R (x ∷ xs) pairs = (
  first,
  ordered_from R xs
      (λ i j d lt len. pairs (suc i) (suc j) d (omega (arith, lt)) (omega (arith, len))),
)
  where
    first : (y : X) → Among y xs → R x y
    first y a =
        let c = contained xs y a in
        subst (R x) c.2 (pairs 0 (suc c.0) y (omega arith) (omega (arith, c.1)))

pub pairs_from : {X : Type 0} (R : X → X → Type 0) (xs : List X) → Ordered R xs → AllPairs R xs
pairs_from R [] order = λ i j d lt len. absurd (omega (arith, len))
pairs_from R (x ∷ xs) order = AllPairs-cons R x xs
    (λ k d h. order.0 (get_or xs k d) (among xs (get_or xs k d) (Contains-get_or xs k d h)))
    (pairs_from R xs order.1)

-- an order of fewer pairs, for elements of the list
pub reordered : {X : Type 0} (R Q : X → X → Type 0) (xs : List X)
    → ((x y : X) → Among x xs → Among y xs → R x y → Q x y) → Ordered R xs → Ordered Q xs
reordered R Q [] then order = tt
reordered R Q (x ∷ xs) then order = (
  λ y a. then x y (inl refl) (inr a) (order.0 y a),
  reordered R Q xs (λ v w a b r. then v w (inr a) (inr b) r) order.1,
)

-- one more element, after all others
pub ordered_push : {X : Type 0} (R : X → X → Type 0) (xs : List X) (y : X) → Ordered R xs
    → ((x : X) → Among x xs → R x y) → Ordered R (xs ++ y ∷ [])
ordered_push R [] y order before = ((λ z a. absurd a), tt)
ordered_push {X} R (x ∷ xs) y order before =
    (first, ordered_push R xs y order.1 (λ z a. before z (inr a)))
  where
    first : (z : X) → Among z (xs ++ y ∷ []) → R x z
    first z a = go xs (λ w h. order.0 w h) a
      where
        go : (ws : List X) → ((w : X) → Among w ws → R x w) → Among z (ws ++ y ∷ []) → R x z
        go [] each (inl e) = subst (R x) e (before x (inl refl))
        go [] each (inr a) = absurd a
        go (w ∷ ws) each (inl e) = subst (R x) e (each w (inl refl))
        go (w ∷ ws) each (inr a) = go ws (λ v h. each v (inr h)) a

-- no element stands twice in a list whose order has none before itself
pub ordered_distinct : {X : Type 0} (R : X → X → Type 0) → ((x : X) → R x x → ⊥) → (xs : List X)
    → Ordered R xs → Distinct xs
ordered_distinct R never [] order = tt
ordered_distinct R never (x ∷ xs) order =
    (λ a. never x (order.0 x a), ordered_distinct R never xs order.1)

-- ---- tests

pub any_of : {X : Type 0} (t : X → Bool) (xs : List X) (x : X) → Among x xs → t x ≡ true
    → list_any t xs ≡ true
any_of t [] x a e = absurd a
any_of t (y ∷ xs) x (inl h) e = ap (λ b. b || list_any t xs) (ap t h ∙ e)
any_of t (y ∷ xs) x (inr a) e = go (t y) (any_of t xs x a e)
  where
    go : (b : Bool) → list_any t xs ≡ true → (b || list_any t xs) ≡ true
    go true h = refl
    go false h = h

or_of : (a b c : Bool) → (a || (b || c)) ≡ ((a || b) || c)
or_of true b c = refl
or_of false b c = refl

or_nothing : (t : Bool) → (t || false) ≡ t
or_nothing true = refl
or_nothing false = refl

pub any_push : {X : Type 0} (t : X → Bool) (xs : List X) (y : X)
    → list_any t (xs ++ y ∷ []) ≡ (list_any t xs || t y)
any_push t [] y = or_nothing (t y)
any_push t (x ∷ xs) y = ap (λ b. t x || b) (any_push t xs y) ∙ or_of (t x) (list_any t xs) (t y)

-- the first element that passes, when one more follows
pub first_kept : {X : Type 0} (t : X → Bool) (xs : List X) (y : X) → list_any t xs ≡ true
    → position_or_len t (xs ++ y ∷ []) ≡ position_or_len t xs
first_kept t [] y e = cc
first_kept {X} t (x ∷ xs) y e = go (t x) e (first_kept t xs y)
  where
    go : (b : Bool) → (b || list_any t xs) ≡ true
        → (list_any t xs ≡ true → position_or_len t (xs ++ y ∷ []) ≡ position_or_len t xs)
        → cond (not b) (1 + position_or_len t (xs ++ y ∷ [])) 0
        ≡ cond (not b) (1 + position_or_len t xs) 0
    go true h rest = refl
    go false h rest = ap (λ n. 1 + n) (rest h)

pub first_within : {X : Type 0} (t : X → Bool) (xs : List X) → list_any t xs ≡ true
    → position_or_len t xs < length xs
first_within t [] e = cc
first_within {X} t (x ∷ xs) e = go (t x) e (first_within t xs)
  where
    go : (b : Bool) → (b || list_any t xs) ≡ true
        → (list_any t xs ≡ true → position_or_len t xs < length xs)
        → cond (not b) (1 + position_or_len t xs) 0 < length (x ∷ xs)
    go true h rest = omega arith
    go false h rest = let lt = rest h in omega (arith, lt)

pub first_last : {X : Type 0} (t : X → Bool) (xs : List X) (y : X) → list_any t xs ≡ false
    → t y ≡ true → position_or_len t (xs ++ y ∷ []) ≡ length xs
first_last t [] y e h = rw h refl
first_last {X} t (x ∷ xs) y e h =
    let parts = or_parts (t x) (list_any t xs) e in
    rw parts.0 (let rest = first_last t xs y parts.1 h in omega (arith, rest))

pub first_same : {X : Type 0} (t : X → Bool) (xs : List X) (y z : X) → t y ≡ t z
    → position_or_len t (xs ++ y ∷ []) ≡ position_or_len t (xs ++ z ∷ [])
first_same t [] y z e = ap (λ b. cond (not b) (1 + 0) 0) e
first_same t (x ∷ xs) y z e = ap (λ n. cond (not (t x)) (1 + n) 0) (first_same t xs y z e)

-- ---- counts

pub zip_push : {X Y : Type 0} (xs : List X) (ys : List Y) (x : X) (y : Y) → length ys ≡ length xs
    → zip (xs ++ x ∷ []) (ys ++ y ∷ []) ≡ zip xs ys ++ (x, y) ∷ []
zip_push [] [] x y e = refl
zip_push [] (b ∷ ys) x y e = absurd (omega (arith, e))
zip_push (a ∷ xs) [] x y e = absurd (omega (arith, e))
zip_push (a ∷ xs) (b ∷ ys) x y e = ap (λ l. (a, b) ∷ l) (zip_push xs ys x y (omega (arith, e)))

pub none_counted : {X : Type 0} (t : X → Bool) (xs : List X) → list_any t xs ≡ false
    → count_by t xs ≡ 0
none_counted t [] e = refl
none_counted t (x ∷ xs) e =
    let parts = or_parts (t x) (list_any t xs) e in
    let one : cond (t x) 1 0 ≡ 0 = ap (λ (b : Bool). cond {A = ℕ} b 1 0) parts.0 in
    let rest = none_counted t xs parts.1 in
    sum_by-cons (λ z. cond (t z) 1 0) x xs ∙ omega (arith, one, rest)

pub some_counted : {X : Type 0} (t : X → Bool) (xs : List X) → list_any t xs ≡ true
    → 0 < count_by t xs
some_counted t [] e = cc
some_counted {X} t (x ∷ xs) e =
    let all = sum_by-cons (λ z. cond (t z) 1 0) x xs in
    let more = go (t x) e (some_counted t xs) in
    omega (arith, all, more)
  where
    go : (b : Bool) → (b || list_any t xs) ≡ true → (list_any t xs ≡ true → 0 < count_by t xs)
        → 0 < cond b 1 0 + count_by t xs
    go true h rest = omega arith
    go false h rest = let lt = rest h in omega (arith, lt)

-- elements of a list that pass a test and have a flag are no more than those that pass it
pub flagged_within : {X : Type 0} (t : X → Bool) (xs : List X) (fs : List Bool)
    → count_by (λ at. t at.0 && at.1) (zip xs fs) ≤ count_by t xs
flagged_within t [] fs = omega arith
flagged_within t (x ∷ xs) [] = omega arith
flagged_within {X} t (x ∷ xs) (f ∷ fs) =
    let one = sum_by-cons (λ (at : X × Bool). cond (t at.0 && at.1) 1 0) (x, f) (zip xs fs) in
    let all = sum_by-cons (λ z. cond (t z) 1 0) x xs in
    let rest = flagged_within t xs fs in
    let own = go (t x) f in
    omega (arith, one, all, rest, own)
  where
    go : (a b : Bool) → cond (a && b) 1 0 ≤ cond a 1 0
    go true true = omega arith
    go true false = omega arith
    go false b = omega arith

-- ---- mapped lists

pub mapped_same : {X Y : Type 0} (f g : X → Y) (xs : List X)
    → ((x : X) → Among x xs → f x ≡ g x) → map f xs ≡ map g xs
mapped_same f g [] same = refl
mapped_same f g (x ∷ xs) same = ap (λ y. y ∷ map f xs) (same x (inl refl))
    ∙ ap (λ ys. g x ∷ ys) (mapped_same f g xs (λ z a. same z (inr a)))

-- a write at the place of the one element at which two functions differ
pub mapped_set : {X Y : Type 0} (f g : X → Y) (xs : List X) (i : ℕ) (p : X) → Distinct xs
    → slice_get xs i ≡ Some p
    → ((x : X) → Among x xs → (x ≡ p → ⊥) → f x ≡ g x) → set (map f xs) i (g p) ≡ map g xs
mapped_set f g [] i p d e same = let bad : None ≡ Some p = e in cc
mapped_set f g (x ∷ xs) zero p d e same =
    let own : x ≡ p = ap (λ o. unwrap_or o p) e in
    ap (λ z. g z ∷ map f xs) (sym own)
    ∙ ap (λ ys. g x ∷ ys) (mapped_same f g xs (λ z a. same z (inr a)
    (λ h. d.0 (subst (λ w. Among w xs) (h ∙ sym own) a))))
mapped_set f g (x ∷ xs) (suc i) p d e same = ap (λ y. y ∷ set (map f xs) i (g p)) (same x (inl refl)
    (λ h. d.0 (subst (λ w. Among w xs) (sym h) (at_place xs i p e))))
    ∙ ap (λ ys. g x ∷ ys) (mapped_set f g xs i p d.1 e (λ z a. same z (inr a)))

pub map_twice : {X Y Z : Type 0} (g : Y → Z) (f : X → Y) (xs : List X)
    → map g (map f xs) ≡ map (λ x. g (f x)) xs
map_twice g f [] = refl
map_twice g f (x ∷ xs) = ap (λ zs. g (f x) ∷ zs) (map_twice g f xs)

pub some_same : {X : Type 0} (xs ys : List X) → map Some xs ≡ map Some ys → xs ≡ ys
some_same [] [] e = refl
some_same [] (y ∷ ys) e = cc
some_same (x ∷ xs) [] e = cc
some_same {X} (x ∷ xs) (y ∷ ys) e =
    let first : x ≡ y = ap (λ (l : List (Option X)). unwrap_or (get_or l 0 None) x) e in
    let rest = some_same xs ys (ap (λ (l : List (Option X)). drop 1 l) e) in
    ap (λ z. z ∷ xs) first ∙ ap (λ zs. y ∷ zs) rest
