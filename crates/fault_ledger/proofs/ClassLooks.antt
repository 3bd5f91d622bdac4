-- The meaning of looks at the pieces of a class for the class.
use Rattle.std.proofs.Common.{◌≡◌, ◌≢◌, ℕ, ◌+◌, ◌*◌, ◌<◌, ◌≤◌, Bool, nat_lt, true, false}
use Rattle.std.proofs.Common.{true≢false, List, [], ◌∷◌, map, Option, refl, sym, ap, ◌∙◌, subst}
use Rattle.std.proofs.Common.{arith}
use borrow.Author.Tests.{ltb-true, ltb-false}
use Rattle.patterns.specs.Least.{below}
use Rattle.fault_ledger.specs.declared.{Shape.Shape, PieceState.PieceState}
use Rattle.fault_ledger.specs.{declared.Status.TheVariants.Settled, History.ContinuesWithout}
use Rattle.fault_ledger.specs.History.{History, entry, block_count, class_of, block_of, piece_at}
use Rattle.fault_ledger.specs.{Answer.{is_hit, has_earlier_hit, IsLegal}, Seats.{Sitter, Sees}}
use Rattle.fault_ledger.specs.Settled.{status_from, AreClear, IsSettledAt}
use Rattle.fault_ledger.proofs.ListsByPlace.{any_at-below, any_none-below}
use Rattle.fault_ledger.proofs.{Histories.entry_goes_on, LegalHistories.never_first}
use Rattle.fault_ledger.proofs.SeatSteps.{clear_goes_on, sees_twice}
use Rattle.fault_ledger.specs.declared.PieceState.TheVariants as state

pub not_hit : (x : PieceState) → ((k : ℕ) → x ≡ state.Hit k → ⊥) → is_hit x ≡ false
not_hit state.Open n = refl
not_hit state.Clear n = refl
not_hit state.Skipped n = refl
not_hit (state.Hit k) n = absurd (n k refl)

-- a piece that is no hit was none before
pub no_hit_before : (w p : ℕ) (later earlier : History) → ContinuesWithout w later earlier
    → is_hit (entry p later) ≡ false → is_hit (entry p earlier) ≡ false
no_hit_before w p later earlier c e = go (is_hit (entry p earlier)) refl
  where
    go : (b : Bool) → is_hit (entry p earlier) ≡ b → is_hit (entry p earlier) ≡ false
    go false x = x
    go true x =
        let same = entry_goes_on w p later earlier c (λ o. true≢false (sym x ∙ ap is_hit o)) in
        absurd (true≢false (sym x ∙ ap is_hit (sym same) ∙ e))

-- the first blocks of a class are clear
abbrev pub ClearBelow : Shape → ℕ → ℕ → History → Type 0
ClearBelow s class n h = (k : ℕ) → k < n → entry (piece_at s class k) h ≡ state.Clear

-- whether one of the earlier blocks of a piece's class is a hit
pub none_found : (s : Shape) (h : History) (p n : ℕ) → AreClear s h (class_of s p) n
    → ((k : ℕ) → n ≤ k → k < block_of s p → is_hit (entry (piece_at s (class_of s p) k) h) ≡ false)
    → has_earlier_hit s h p ≡ false
none_found s h p n clear none = any_none-below (λ b. is_hit (entry (piece_at s (class_of s p) b) h))
    (block_of s p) (λ k l. go k l (nat_lt k n) refl)
  where
    go : (k : ℕ) → k < block_of s p → (b : Bool) → nat_lt k n ≡ b
        → is_hit (entry (piece_at s (class_of s p) k) h) ≡ false
    go k l true e = ap is_hit (clear k (ltb-true k n e))
    go k l false e = none k (ltb-false k n e) l

-- from the next on, and so from here on
pub none_from : (f : ℕ → Bool) (n m : ℕ) → f n ≡ false → ((k : ℕ) → n + 1 ≤ k → k < m → f k ≡ false)
    → (k : ℕ) → n ≤ k → k < m → f k ≡ false
none_from f n m here later k l o = go (nat_lt n k) refl
  where
    go : (b : Bool) → nat_lt n k ≡ b → f k ≡ false
    go true e = let a = ltb-true n k e in later k (omega arith) o
    go false e = let a = ltb-false n k e in let q : n ≡ k = omega arith in ap f (sym q) ∙ here

pub hit_found : (s : Shape) (h : History) (p n : ℕ) → n < block_of s p
    → is_hit (entry (piece_at s (class_of s p) n) h) ≡ true → has_earlier_hit s h p ≡ true
hit_found s h p n l hit =
    any_at-below (λ b. is_hit (entry (piece_at s (class_of s p) b) h)) (block_of s p) n l hit

-- the result of a look at the next block of a class, if the blocks before it were clear
pub record LooksAt (s : Shape) (class n : ℕ) (a d : Sitter) (x : PieceState) : Type 0 where
  pub within : n < block_count s
  pub sees : Sees a a.exhausted d
  pub clear : AreClear s d.seen class n
  pub found : entry (piece_at s class n) d.seen ≡ x

pub looks_at : (own s : Shape) (class n count : ℕ) (a b d : Sitter) (x : PieceState) → own ≡ s
    → count ≡ block_count own → n < count → Sees a a.exhausted b → AreClear s b.seen class n
    → Sees b b.exhausted d → x ≡ entry (class + own.classes * n) d.seen → LooksAt s class n a d x
looks_at own s class n count a b d x is many l before clear sees e = record {
  within = subst (λ (y : Shape). n < block_count y) is (omega arith);
  sees = sees_twice a b d before sees;
  clear = clear_goes_on s b.worker class n d.seen b.seen sees.newer clear;
  found = sym (subst (λ (y : Shape). x ≡ entry (piece_at y class n) d.seen) is e);
}

-- after only clear pieces there is no skipped one
pub skipped_not_first : (s : Shape) (class n : ℕ) (h : History) → IsLegal s h → class < s.classes
    → n < block_count s → AreClear s h class n → entry (piece_at s class n) h ≡ state.Skipped → ⊥
skipped_not_first s class n h legal l m clear e = let r = never_first s h legal class n l m e in
    r.2 (clear r.0 r.1)

settles : (f g : ℕ → PieceState) (b : ℕ) (xs : List ℕ) (at : Option ℕ) → ((k : ℕ) → f k ≢ state.Open
    → g k ≡ f k) → status_from b (map f xs) ≡ Settled at → status_from b (map g xs) ≡ Settled at
settles f g b [] at same e = e
settles f g b (x ∷ xs) at same e = go (f x) refl e (settles f g (b + 1) xs at same)
  where
    go : (y : PieceState) → f x ≡ y → status_from b (y ∷ map f xs) ≡ Settled at
        → (status_from (b + 1) (map f xs) ≡ Settled at
        → status_from (b + 1) (map g xs) ≡ Settled at) → status_from b (g x ∷ map g xs) ≡ Settled at
    go state.Clear y e i = ap (λ z. status_from b (z ∷ map g xs)) (same x (λ o. absurd (cc)) ∙ y)
        ∙ i e
    go (state.Hit k) y e i = ap (λ z. status_from b (z ∷ map g xs)) (same x (λ o. absurd (cc)) ∙ y)
        ∙ e
    go state.Open y e i = absurd (cc)
    go state.Skipped y e i = absurd (cc)

-- a class that is settled stays settled at the same test
pub settled_stays : (s : Shape) (class w : ℕ) (at : Option ℕ) (later earlier : History)
    → ContinuesWithout w later earlier → IsSettledAt s earlier class at
    → IsSettledAt s later class at
settled_stays s class w at later earlier c e =
    settles (λ b. entry (piece_at s class b) earlier) (λ b. entry (piece_at s class b) later) 0
    (below (block_count s)) at (λ k n. entry_goes_on w (piece_at s class k) later earlier c n) e
