-- The rule of the shared words at the start, and when a token is parted in two or two are joined.
use Rattle.std.proofs.Common.{◌≡◌, ℕ, zero, suc, ◌+◌, ◌*◌, ◌%◌, ◌^◌, ◌<◌, ◌≤◌, ⊎_elim, min, Bool}
use Rattle.std.proofs.Common.{true, false, true≢false, if◌then◌else◌, eqb, List, [], ◌∷◌, ◌++◌, set}
use Rattle.std.proofs.Common.{length, slice_index, None, refl, sym, ap, ◌∙◌, subst, arith, ne_eqb}
use Rattle.std.proofs.{Common.length-append, Math.Nat.{min-eq_left, zero-div}}
use mathlib.Core.{Option.{some, some-injective, some-ne-none}, Logic.dite}
use native.Mathlib.Decide.{ℕ_discrete}
use lib.ListN.{get_elem?}
use Rattle.atomic_table.{specs.Table.{Splits, Joins, opening}, proofs.Lists.{at_snoc, set_else}}
use Rattle.fault_ledger.specs.declared.{Shape.Shape, words.Post.Post, words.View.View}
use Rattle.fault_ledger.specs.{History.piece_count, Face.shape_fault}
use Rattle.fault_ledger.specs.Words.{field, word_with, word_count, total, times, exhausted_of}
use Rattle.fault_ledger.specs.Words.{ForEach, Knows, IsKept, newcomer_posts, everybody, front}
use Rattle.fault_ledger.specs.Words.{others, front_of, others_of, both_of, nobody}
use Rattle.fault_ledger.proofs.SumsOverViews.{total-set, for_append, set_known}

off : false ≡ true → ⊥
off e = true≢false (sym e)

length-newcomers : (w n : ℕ) → length (newcomer_posts w n) ≡ n
length-newcomers w zero = refl
length-newcomers w (suc n) = ap suc (length-newcomers (suc w) n)

exhausted-newcomers : (w n : ℕ) → exhausted_of (newcomer_posts w n) ≡ 0
exhausted-newcomers w zero = refl
exhausted-newcomers w (suc n) = let i = exhausted-newcomers (suc w) n in omega arith

times-before : (x w n : ℕ) → x < w → times x (newcomer_posts w n) ≡ 0
times-before x w zero l = refl
times-before x w (suc n) l =
    let i = times-before x (suc w) n (omega arith) in
    let e : eqb w x ≡ false = ne_eqb w x (λ q. omega arith) in
    rw e (omega arith)

times-newcomers : (x w n : ℕ) → times x (newcomer_posts w n) ≤ 1
times-newcomers x w zero = omega arith
times-newcomers x w (suc n) = dite (ℕ_discrete w x)
    (λ e. let i = times-before x (suc w) n (omega arith) in at_most (eqb w x) (omega arith))
    (λ n'. let e : eqb w x ≡ false = ne_eqb w x n' in let i = times-newcomers x (suc w) n in
    rw e (omega arith))
  where
    at_most : (b : Bool) → times x (newcomer_posts (suc w) n) ≤ 0
        → (if b then 1 else 0) + times x (newcomer_posts (suc w) n) ≤ 1
    at_most true l = omega arith
    at_most false l = omega arith

knows-newcomers : (s : Shape) (w n : ℕ) → w + n ≤ s.workers
    → ForEach (Knows s [] s) (newcomer_posts w n)
knows-newcomers s w zero l = tt
knows-newcomers s w (suc n) l = (
  record { same = refl; among = (omega arith); newer = ([], refl, tt); done = λ e. absurd (off e) },
  knows-newcomers s (suc w) n (omega arith),
)

-- each field of 0 is 0
zero_field : (j : ℕ) → field 0 j ≡ 0
zero_field j = ap (λ n. n % 2 ^ 8) (zero-div (2 ^ (8 * j)))

-- the rule holds at the start
pub opens : (s : Shape) (ws : List ℕ) → shape_fault s ≡ None → length ws ≡ word_count s
    → ((i : ℕ) → slice_index ws i ≡ 0) → IsKept s (opening {S = ℕ} ws [] (everybody s))
opens s ws limits len zeros = (
  [],
  record {
    limits = limits;
    legal = tt;
    sized = len;
    marked = λ p l. ap (λ n. field n (p % 8)) (zeros (word_with p)) ∙ zero_field (p % 8);
    counted = sym (ap (λ n. min n (piece_count s)) (zeros 0) ∙ min-eq_left (omega arith));
    bounded = (let z = zeros 0 in omega arith);
    staffed = (let l = length-newcomers 0 s.workers in omega arith);
    apart = (λ w. let l = times-newcomers w 0 s.workers in omega arith);
    known = first;
  },
)
  where
    first : (id : ℕ) (v : View) → get_elem? (everybody s ∷ []) id ≡ some v
        → ForEach (Knows s [] v.shape) v.posts
    first zero v e = subst (λ (x : View). ForEach (Knows s [] x.shape) x.posts)
        (some-injective _ _ e) (knows-newcomers s 0 s.workers (omega arith))
    first (suc id) v e = absurd (some-ne-none v (sym e))

total-snoc : (f : View → ℕ) (vs : List View) (v : View) → total f (vs ++ v ∷ []) ≡ total f vs + f v
total-snoc f [] v = omega arith
total-snoc f (x ∷ xs) v = let i = total-snoc f xs v in omega arith

-- a sum over views stays if a view is parted in two
part_total : (f : View → ℕ) (vs : List View) (id : ℕ) (v l r : View) → get_elem? vs id ≡ some v
    → f l + f r ≡ f v → total f (set vs id l ++ r ∷ []) ≡ total f vs
part_total f vs id v l r at e = let a = total-set f vs id v l at in
    let b = total-snoc f (set vs id l) r in omega arith

part_length : (ps : List Post) → length (front ps) + length (others ps) ≡ length ps
part_length [] = refl
part_length (p ∷ ps) = omega arith

part_exhausted : (ps : List Post) → exhausted_of (front ps) + exhausted_of (others ps)
    ≡ exhausted_of ps
part_exhausted [] = refl
part_exhausted (p ∷ ps) = omega arith

part_times : (x : ℕ) (ps : List Post) → times x (front ps) + times x (others ps) ≡ times x ps
part_times x [] = refl
part_times x (p ∷ ps) = omega arith

-- the rule stays if the first worker of a view is parted from the others
pub splits : {S : Type 0} (s : Shape) (id : ℕ) (v : View)
    → Splits (IsKept {S = S} s) id v (front_of v) (others_of v)
splits s id v t kept at =
    let h = kept.0 in
    let k = kept.1 in
    let mine = k.known id v at in (
      h,
      record {
        limits = k.limits;
        legal = k.legal;
        sized = k.sized;
        marked = k.marked;
        counted = k.counted;
        bounded = (let b = k.bounded in let e = part_total (λ v. exhausted_of v.posts) t.views id v
            (front_of v) (others_of v) at (part_exhausted v.posts) in omega arith);
        staffed = (let b = k.staffed in let e = part_total (λ v. length v.posts) t.views id v
            (front_of v) (others_of v) at (part_length v.posts) in omega arith);
        apart = (λ x. let b = k.apart x in let e = part_total (λ v. times x v.posts) t.views id v
            (front_of v) (others_of v) at (part_times x v.posts) in omega arith);
        known = (λ j u e. ⊎_elim
            (λ was. set_known s h t.views id (front_of v) (λ j u n there. k.known j u there)
            (in_front (Knows s h v.shape) v.posts mine) j u was)
            (λ (same : others_of v ≡ u). subst (λ (x : View). ForEach
            (Knows s h x.shape) x.posts) same (in_others (Knows s h v.shape) v.posts mine))
            (at_snoc (set t.views id (front_of v)) (others_of v) u j e));
      },
    )
  where
    in_front : (P : Post → Type 0) (ps : List Post) → ForEach P ps → ForEach P (front ps)
    in_front P [] k = tt
    in_front P (p ∷ ps) k = (k.0, tt)

    in_others : (P : Post → Type 0) (ps : List Post) → ForEach P ps → ForEach P (others ps)
    in_others P [] k = tt
    in_others P (p ∷ ps) k = k.1

exhausted-append : (ps qs : List Post) → exhausted_of (ps ++ qs) ≡ exhausted_of ps + exhausted_of qs
exhausted-append [] qs = omega arith
exhausted-append (p ∷ ps) qs = let i = exhausted-append ps qs in omega arith

times-append : (x : ℕ) (ps qs : List Post) → times x (ps ++ qs) ≡ times x ps + times x qs
times-append x [] qs = omega arith
times-append x (p ∷ ps) qs = let i = times-append x ps qs in omega arith

-- a sum over views stays if two views become one
join_total : (f : View → ℕ) (vs : List View) (id other : ℕ) (v w b n : View)
    → get_elem? vs id ≡ some v → get_elem? (set vs id b) other ≡ some w → f b ≡ f w + f v → f n ≡ 0
    → total f (set (set vs id b) other n) ≡ total f vs
join_total f vs id other v w b n at there e z = let x = total-set f vs id v b at in
    let y = total-set f (set vs id b) other w n there in omega arith

-- the rule stays if two views of one ledger are joined
pub joins : {S : Type 0} (s : Shape) (id other : ℕ) (v w : View) → v.shape ≡ w.shape
    → Joins (IsKept {S = S} s) id v other w (both_of v w) nobody
joins s id other v w same t kept at apart there =
    let h = kept.0 in
    let k = kept.1 in
    let b = both_of v w in
    let mine = k.known id v at in
    let was : get_elem? t.views other ≡ some w = sym (set_else t.views id other b apart) ∙ there in
    let theirs = subst (λ x. ForEach (Knows s h x) w.posts) (sym same) (k.known other w was) in (
      h,
      record {
        limits = k.limits;
        legal = k.legal;
        sized = k.sized;
        marked = k.marked;
        counted = k.counted;
        bounded = (let q = k.bounded in let e = join_total (λ v. exhausted_of v.posts) t.views id
            other v w b nobody at there (exhausted-append w.posts v.posts) refl in omega arith);
        staffed = (let q = k.staffed in let e = join_total (λ v. length v.posts) t.views id other v
            w b nobody at there (length-append w.posts v.posts) refl in omega arith);
        apart = (λ x. let q = k.apart x in let e = join_total (λ v. times x v.posts) t.views id
            other v w b nobody at there (times-append x w.posts v.posts) refl in omega arith);
        known = set_known s h (set t.views id b) other nobody
            (λ j u n e. set_known s h t.views id b (λ i y m f. k.known i y f)
            (for_append (Knows s h v.shape) w.posts v.posts theirs mine) j u e) tt;
      },
    )
