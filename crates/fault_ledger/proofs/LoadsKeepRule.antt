-- A load keeps the rule, and shows a seat the whole history.
use Rattle.std.proofs.Common.{◌≡◌, ℕ, suc, ◌+◌, ◌%◌, ◌<◌, ◌≤◌, min, if◌then◌else◌, eqb, List, []}
use Rattle.std.proofs.Common.{◌∷◌, ◌++◌, set, length, slice_index, refl, sym, ap, ◌∙◌, subst, arith}
use Rattle.std.proofs.Math.Nat.{min-le_right}
use mathlib.Core.Option.{some, none}
use lib.ListN.{get_elem?}
use Rattle.atomic_table.specs.Table.{Me, step, keeps, Allows}
use Rattle.fault_ledger.specs.declared.{Shape.Shape, words.Post.Post, words.View.View}
use Rattle.fault_ledger.specs.History.{History, piece_count, claims, entry, ContinuesWithout}
use Rattle.fault_ledger.specs.{Answer.IsLegal, Words.{Knows, IsKeptBy, IsKept, see, Looks}}
use Rattle.fault_ledger.specs.Words.{code_of, field_in, field, total, times, exhausted_of, ForEach}
use Rattle.fault_ledger.proofs.Histories.{held_goes_on, claims_past, goes_on_same}
use Rattle.fault_ledger.proofs.ListsByPlace.{set_same}
use Rattle.fault_ledger.proofs.SumsOverViews.{total-set, for_all, set_known}

-- a sum over views stays if one view changes and adds as much as before
pub same_total : (f : View → ℕ) (views : List View) (id : ℕ) (v w : View)
    → get_elem? views id ≡ some v → f w ≡ f v → total f (set views id w) ≡ total f views
same_total f views id v w at e = let t = total-set f views id v w at in omega arith

-- the rule after a step with no event, at which the posts of one view change
pub look_keeps : (s : Shape) (h : History) (words : List ℕ) (views : List View)
    (kept : IsKeptBy s h words views) (id : ℕ) (v : View) (at : get_elem? views id ≡ some v)
    → (ps : List Post) (now : List ℕ) → length now ≡ length words
    → ((p : ℕ) → p < piece_count s → field_in now p ≡ code_of (entry p h))
    → claims h ≡ min (slice_index now 0) (piece_count s)
    → slice_index now 0 + exhausted_of v.posts ≤ piece_count s + total
    (λ v. exhausted_of v.posts) views + exhausted_of ps
    → length ps ≡ length v.posts → ((x : ℕ) → times x ps ≡ times x v.posts)
    → ForEach (Knows s h v.shape) ps
    → IsKeptBy s h now (set views id (record { shape = v.shape; posts = ps }))
look_keeps s h words views kept id v at ps now len marked counted bounded long times_same own =
    let w' : View = record { shape = v.shape; posts = ps } in
    record {
      limits = kept.limits;
      legal = kept.legal;
      sized = len ∙ kept.sized;
      marked = marked;
      counted = counted;
      bounded = (let t = total-set (λ v. exhausted_of v.posts) views id v w' at in omega arith);
      staffed = (let t = same_total (λ v. length v.posts) views id v w' at long in
          let k = kept.staffed in omega arith);
      apart = (λ x. let t = same_total (λ v. times x v.posts) views id v w' at (times_same x) in
          let k = kept.apart x in omega arith);
      known = set_known s h views id w' (λ j u n there. kept.known j u there) own;
    }

-- the knowledge of a view's posts when they see the whole history
see_knows : (s : Shape) (h : History) (words : List ℕ) (views : List View)
    → IsKeptBy s h words views → (shape : Shape) (ps : List Post) → ForEach (Knows s h shape) ps
    → ForEach (Knows s h shape) (see h ps)
see_knows s h words views kept shape [] k = tt
see_knows s h words views kept shape (p ∷ ps) k = (
  record {
    same = k.0.same;
    among = k.0.among;
    newer = goes_on_same p.worker h;
    done = λ t. (
      held_goes_on p.worker h p.seen k.0.newer ∙ (k.0.done t).0,
      (let a = claims_past k.0.newer.0 p.seen in let b : claims h ≡ claims (k.0.newer.0 ++ p.seen) =
          ap claims k.0.newer.1 in let c = (k.0.done t).1 in let d = kept.counted in
          let f = min-le_right (slice_index words 0) (piece_count s) in omega arith),
    );
  },
  see_knows s h words views kept shape ps k.1,
)

see_same : (h : History) (ps : List Post) → (length (see h ps) ≡ length ps)
    × (exhausted_of (see h ps) ≡ exhausted_of ps) × ((x : ℕ) → times x (see h ps) ≡ times x ps)
see_same h [] = (refl, refl, λ x. refl)
see_same h (p ∷ ps) = let i = see_same h ps in (
  ap suc i.0,
  ap (λ n. (if p.exhausted then 1 else 0) + n) i.1,
  λ x. ap (λ n. (if eqb p.worker x then 1 else 0) + n) (i.2 x),
)

-- a load of any word by a seat of one worker or more
pub looks_allowed : {S : Type 0} (s : Shape) (slots id i : ℕ) (shape : Shape) (p : Post)
    (ps : List Post) (out : List (ℕ × S))
    → let me : Me S View = (record { shape = shape; posts = p ∷ ps }, out) in
    Allows (IsKept s) slots id me i (λ n. n) (Looks (step slots i 0 0 none) me)
looks_allowed s slots id i shape p ps out t kept homes at lt =
    let h = kept.0 in
    let k = kept.1 in
    let v : View = record { shape = shape; posts = p ∷ ps } in
    let mine : ForEach (Knows s h shape) (p ∷ ps) = k.known id v at in
    let same : set t.words i (slice_index t.words i) ≡ t.words = set_same t.words i in
    let w : View = record { shape = shape; posts = see h (p ∷ ps) } in
    let exhausted = (see_same h (p ∷ ps)).1 in
    let k' : IsKeptBy s h t.words (set t.views id w) =
    look_keeps s h t.words t.views k id v at (see h (p ∷ ps)) t.words refl k.marked k.counted
    (let b = k.bounded in omega arith) (see_same h (p ∷ ps)).0 (see_same h (p ∷ ps)).2
    (see_knows s h t.words t.views k shape (p ∷ ps) mine) in (
      w,
      keeps,
      tt,
      (h, subst (λ ws. IsKeptBy s h ws (set t.views id w)) (sym same) k'),
      (
        refl,
        (
          h,
          (λ q e l. ap (λ j. field (slice_index t.words j) (q % 8)) e
              ∙ k.marked q (subst (λ x. q < piece_count x) mine.0.same l)),
          subst (λ x. IsLegal x h) (sym mine.0.same) k.legal,
          for_all (Knows s h shape) (λ p. ContinuesWithout p.worker h p.seen) (p ∷ ps)
              (λ p k. k.newer) mine,
          refl,
        ),
      ),
    )
