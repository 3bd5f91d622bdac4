-- Sums over views, and facts about posts.
use Rattle.std.proofs.Common.{◌≡◌, ℕ, ⊎_elim, subst, zero, suc, ◌+◌, ◌≤◌, ◌≢◌, Bool, true, false}
use Rattle.std.proofs.Common.{if◌then◌else◌, eqb, List, [], ◌∷◌, ◌++◌, set, length, refl, sym, ap}
use Rattle.std.proofs.Common.{arith, eq-eqb}
use mathlib.Core.Option.{some, some-injective, some-ne-none}
use lib.ListN.{get_elem?}
use Rattle.atomic_table.proofs.Lists.{at_set}
use Rattle.fault_ledger.specs.declared.{Shape.Shape, words.Post.Post, words.View.View}
use Rattle.fault_ledger.specs.{History.History, Words.{total, times, exhausted_of, ForEach, Knows}}

pub total-set : (f : View → ℕ) (vs : List View) (i : ℕ) (v w : View) → get_elem? vs i ≡ some v
    → total f (set vs i w) + f v ≡ total f vs + f w
total-set f [] i v w e = absurd (some-ne-none v (sym e))
total-set f (x ∷ xs) zero v w e = let q : f x ≡ f v = ap f (some-injective x v e) in omega arith
total-set f (x ∷ xs) (suc i) v w e = let i = total-set f xs i v w e in omega arith

pub total-at : (f : View → ℕ) (vs : List View) (i : ℕ) (v : View) → get_elem? vs i ≡ some v
    → f v ≤ total f vs
total-at f [] i v e = absurd (some-ne-none v (sym e))
total-at f (x ∷ xs) zero v e = let q : f x ≡ f v = ap f (some-injective x v e) in omega arith
total-at f (x ∷ xs) (suc i) v e = let i = total-at f xs i v e in omega arith

pub total-two : (f : View → ℕ) (vs : List View) (i j : ℕ) (v w : View) → i ≢ j
    → get_elem? vs i ≡ some v → get_elem? vs j ≡ some w → f v + f w ≤ total f vs
total-two f [] i j v w n e g = absurd (some-ne-none v (sym e))
total-two f (x ∷ xs) zero zero v w n e g = absurd (n refl)
total-two f (x ∷ xs) zero (suc j) v w n e g = let q : f x ≡ f v = ap f (some-injective x v e) in
    let i = total-at f xs j w g in omega arith
total-two f (x ∷ xs) (suc i) zero v w n e g = let q : f x ≡ f w = ap f (some-injective x w g) in
    let i = total-at f xs i v e in omega arith
total-two f (x ∷ xs) (suc i) (suc j) v w n e g = let i =
    total-two f xs i j v w (λ q. n (ap suc q)) e g in omega arith

pub total-mono : (f g : View → ℕ) (vs : List View) → ((v : View) → f v ≤ g v)
    → total f vs ≤ total g vs
total-mono f g [] h = omega arith
total-mono f g (x ∷ xs) h = let a = h x in let b = total-mono f g xs h in omega arith

pub exhausted-length : (ps : List Post) → exhausted_of ps ≤ length ps
exhausted-length [] = omega arith
exhausted-length (p ∷ ps) = let i = exhausted-length ps in go p.exhausted i
  where
    go : (b : Bool) → exhausted_of ps ≤ length ps → (if b then 1 else 0) + exhausted_of ps ≤ length
        (p ∷ ps)
    go true i = omega arith
    go false i = omega arith

pub times-none : (w : ℕ) (ps : List Post) → times w ps ≡ 0 → ForEach (λ p. p.worker ≢ w) ps
times-none w [] e = tt
times-none w (p ∷ ps) e = go (eqb p.worker w) (times-none w ps) refl e
  where
    go : (b : Bool) → (times w ps ≡ 0 → ForEach (λ p. p.worker ≢ w) ps) → eqb p.worker w ≡ b
        → (if b then 1 else 0) + times w ps ≡ 0 → ForEach (λ p. p.worker ≢ w) (p ∷ ps)
    go true i x e = absurd (omega arith)
    go false i x e = ((λ q. let r = eq-eqb p.worker w q in absurd (cc)), i (omega arith))

pub for_each : (P Q R : Post → Type 0) (ps : List Post) → ((p : Post) → P p → Q p → R p)
    → ForEach P ps → ForEach Q ps → ForEach R ps
for_each P Q R [] f a b = tt
for_each P Q R (p ∷ ps) f a b = (f p a.0 b.0, for_each P Q R ps f a.1 b.1)

pub for_all : (P Q : Post → Type 0) (ps : List Post) → ((p : Post) → P p → Q p) → ForEach P ps
    → ForEach Q ps
for_all P Q [] f a = tt
for_all P Q (p ∷ ps) f a = (f p a.0, for_all P Q ps f a.1)

pub for_append : (P : Post → Type 0) (ps qs : List Post) → ForEach P ps → ForEach P qs
    → ForEach P (ps ++ qs)
for_append P [] qs a b = b
for_append P (p ∷ ps) qs a b = (a.0, for_append P ps qs a.1 b)

-- a property of each view, after one has changed
pub set_known : (s : Shape) (h : History) (views : List View) (id : ℕ) (w : View)
    → ((j : ℕ) (u : View) → j ≢ id → get_elem? views j ≡ some u
    → ForEach (Knows s h u.shape) u.posts) → ForEach (Knows s h w.shape) w.posts
    → (j : ℕ) (u : View) → get_elem? (set views id w) j ≡ some u
    → ForEach (Knows s h u.shape) u.posts
set_known s h views id w others mine j u e = ⊎_elim
    (λ (x : (j ≡ id) × (w ≡ u)). subst (λ (v : View). ForEach (Knows s h v.shape) v.posts) x.1 mine)
    (λ (x : (j ≢ id) × (get_elem? views j ≡ some u)). others j u x.0 x.1) (at_set views id j w u e)
