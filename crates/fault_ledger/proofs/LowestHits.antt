-- The lowest hits of the classes: of a new ledger, and after a report or a drop.
use Rattle.std.proofs.Common.{◌≡◌, ◌≢◌, ℕ, zero, suc, ◌%◌, ◌<◌, ◌≤◌, min, Bool, true, false}
use Rattle.std.proofs.Common.{true≢false, ◌||◌, if◌then◌else◌, eqb, nat_lt, List, [], ◌∷◌, set}
use Rattle.std.proofs.Common.{length, replicate, get_or, slice_get, slice_index, Some, refl, sym}
use Rattle.std.proofs.Common.{ap, ◌∙◌, subst, arith, lt-ltb, le-ltb, eqb-true, eq-eqb, length-set}
use Rattle.std.proofs.lemmas.List.{get_or-set_same, get_or-set_other}
use borrow.Author.Tests.{ltb-true, ltb-false}
use Rattle.fault_ledger.specs.{declared.Shape.Shape, declared.PieceState.PieceState, Answer.is_hit}
use Rattle.fault_ledger.specs.History.{block_count, piece_count, class_of, block_of, piece_at}
use Rattle.fault_ledger.specs.{Face.{Face, IsLedger}, Lowest.{hit_below, AreLowestHits}}
use Rattle.fault_ledger.proofs.ListsByPlace.{set_same, any-below, any_at-below, any_none-below}
use Rattle.fault_ledger.proofs.PieceNumbers.{some_class, class_of-at, block_of-at, block_of-below}
use Rattle.fault_ledger.proofs.{PieceNumbers.{class-below, at-of}, Histories.held_open}
use Rattle.fault_ledger.proofs.CallReplies.{state-entry, found-held, found-piece, ledger-states}
use Rattle.fault_ledger.proofs.CallReplies.{shows_hit}
use Rattle.fault_ledger.specs.declared.PieceState.TheVariants as state

-- tests of numbers
or_false : (b : Bool) → (b || false) ≡ b
or_false true = refl
or_false false = refl

or_true : (b : Bool) → (b || true) ≡ true
or_true true = refl
or_true false = refl

lt_min : (a b n : ℕ) → nat_lt (min a b) n ≡ (nat_lt a n || nat_lt b n)
lt_min a b n = go (nat_lt a n) (nat_lt b n) refl refl
  where
    go : (x y : Bool) → nat_lt a n ≡ x → nat_lt b n ≡ y → nat_lt (min a b) n ≡ (x || y)
    go true y e f = let l = ltb-true a n e in lt-ltb (min a b) n (omega arith)
    go false true e f = let l = ltb-true b n f in lt-ltb (min a b) n (omega arith)
    go false false e f = let l = ltb-false a n e in let m = ltb-false b n f in
        le-ltb (min a b) n (omega arith)

-- a piece that changes, and is a hit exactly if it was one
changed_at : (states : List PieceState) (p q : ℕ) (x : PieceState) → p < length states
    → is_hit x ≡ is_hit (get_or states p state.Open)
    → is_hit (get_or (set states p x) q state.Open) ≡ is_hit (get_or states q state.Open)
changed_at states p q x l same = go (eqb q p) refl
  where
    go : (b : Bool) → eqb q p ≡ b
        → is_hit (get_or (set states p x) q state.Open) ≡ is_hit (get_or states q state.Open)
    go true e =
        let i : q ≡ p = eqb-true q p e in
        ap (λ j. is_hit (get_or (set states p x) j state.Open)) i
        ∙ ap is_hit (get_or-set_same states p x state.Open l) ∙ same
        ∙ ap (λ j. is_hit (get_or states j state.Open)) (sym i)
    go false e = ap is_hit
        (get_or-set_other states p q x state.Open (λ i. true≢false (sym (eq-eqb q p i) ∙ e)))

pub lowest-same : (s : Shape) (states : List PieceState) (hits : List ℕ) (p : ℕ) (x : PieceState)
    → AreLowestHits s states hits → p < length states
    → is_hit x ≡ is_hit (get_or states p state.Open) → AreLowestHits s (set states p x) hits
lowest-same s states hits p x i l same = record {
  long = i.long;
  each = λ class n m few. i.each class n m few
      ∙ sym (any-below (λ k. is_hit (get_or (set states p x) (piece_at s class k) state.Open))
      (λ k. is_hit (get_or states (piece_at s class k) state.Open)) n
      (λ k o. changed_at states p (piece_at s class k) x l same));
}

-- the first n blocks of a class, one of whose pieces becomes a hit
hit_set : (s : Shape) (states : List PieceState) (class block n : ℕ) (x : PieceState)
    → class < s.classes → piece_at s class block < length states → is_hit x ≡ true
    → hit_below s (set states (piece_at s class block) x) class n
    ≡ (hit_below s states class n || nat_lt block n)
hit_set s states class block n x l m hit = go (nat_lt block n) refl
  where
    P : ℕ → Bool
    P k = is_hit (get_or (set states (piece_at s class block) x) (piece_at s class k) state.Open)

    go : (b : Bool) → nat_lt block n ≡ b → hit_below s
        (set states (piece_at s class block) x) class n ≡ (hit_below s states class n || b)
    go true e = any_at-below P n block (ltb-true block n e)
        (ap is_hit (get_or-set_same states (piece_at s class block) x state.Open m) ∙ hit)
        ∙ sym (or_true (hit_below s states class n))
    go false e =
        let few = ltb-false block n e in
        any-below P (λ k. is_hit (get_or states (piece_at s class k) state.Open)) n
        (λ k o. ap is_hit
        (get_or-set_other states (piece_at s class block) (piece_at s class k) x state.Open
        (λ i. let j : k ≡ block = sym (block_of-at s class k l) ∙ ap (block_of s) i
        ∙ block_of-at s class block l in absurd (omega arith))))
        ∙ sym (or_false (hit_below s states class n))

-- the numbers of another class
hit_other : (s : Shape) (states : List PieceState) (class block other n : ℕ) (x : PieceState)
    → class < s.classes → other < s.classes → other ≢ class
    → hit_below s (set states (piece_at s class block) x) other n ≡ hit_below s states other n
hit_other s states class block other n x l m differ =
    any-below (λ k. is_hit (get_or (set states (piece_at s class block) x) (piece_at s other k)
    state.Open)) (λ k. is_hit (get_or states (piece_at s other k) state.Open)) n (λ k o. ap is_hit
    (get_or-set_other states (piece_at s class block) (piece_at s other k) x state.Open
    (λ i. differ (sym (class_of-at s other k m) ∙ ap (class_of s) i
    ∙ class_of-at s class block l))))

hits_at : (s : Shape) (states : List PieceState) (hits : List ℕ) (class block : ℕ) (x : PieceState)
    → AreLowestHits s states hits → class < s.classes → class < length hits
    → piece_at s class block < length states → is_hit x ≡ true → AreLowestHits s (set states
    (piece_at s class block) x) (set hits class (min (slice_index hits class) block))
hits_at s states hits class block x i l m o hit = record {
  long = length-set hits class (min (slice_index hits class) block) ∙ i.long;
  each = λ other n u few. go other n u few (eqb other class) refl;
}
  where
    now : ℕ
    now = min (slice_index hits class) block

    go : (other n : ℕ) → other < s.classes → n ≤ block_count s → (b : Bool) → eqb other class ≡ b
        → nat_lt (slice_index (set hits class now) other) n ≡ hit_below s
        (set states (piece_at s class block) x) other n
    go other n u few true e =
        let same : class ≡ other = sym (eqb-true other class e) in
        subst (λ c. nat_lt (slice_index (set hits class now) c) n ≡ hit_below s
        (set states (piece_at s class block) x) c n) same
        (ap (λ y. nat_lt y n) (get_or-set_same hits class now 0 m)
        ∙ lt_min (slice_index hits class) block n
        ∙ ap (λ b. b || nat_lt block n) (i.each class n l few)
        ∙ sym (hit_set s states class block n x l o hit))
    go other n u few false e =
        let differ : other ≢ class = (λ q. true≢false (sym (eq-eqb other class q) ∙ e)) in
        ap (λ y. nat_lt y n) (get_or-set_other hits class other now 0 differ) ∙ i.each other n u few
        ∙ sym (hit_other s states class block other n x l u differ)

-- the class of a piece has a number
pub hit_of : (s : Shape) (states : List PieceState) (hits : List ℕ) (p : ℕ)
    → AreLowestHits s states hits → p < piece_count s → class_of s p < length hits
hit_of s states hits p i l =
    let some = some_class s p l in
    let a = i.long in
    let b : p % s.classes ≤ p = omega arith in
    omega arith

-- a number that was read
pub number_at : (l : List ℕ) (i x : ℕ) → i < length l → x ≡ get_or l i x → get_or l i 0 ≡ x
number_at [] i x l e = absurd (omega arith)
number_at (y ∷ ys) zero x l e = sym e
number_at (y ∷ ys) (suc i) x l e = number_at ys i x (omega arith) e

abbrev pub lowest_with : ℕ → ℕ → PieceState → ℕ
lowest_with lowest block x = (if is_hit x then min lowest block else lowest)

-- after a piece that was no hit has changed
lowest_set : (s : Shape) (states : List PieceState) (hits : List ℕ) (p : ℕ) (x : PieceState)
    → AreLowestHits s states hits → p < piece_count s → length states ≡ piece_count s
    → is_hit (get_or states p state.Open) ≡ false → AreLowestHits s (set states p x)
    (set hits (class_of s p) (lowest_with (slice_index hits (class_of s p)) (block_of s p) x))
lowest_set s states hits p x i l long none = go (is_hit x) refl
  where
    c : ℕ
    c = class_of s p

    b : ℕ
    b = block_of s p

    go : (y : Bool) → is_hit x ≡ y → AreLowestHits s (set states p x)
        (set hits c (if y then min (slice_index hits c) b else slice_index hits c))
    go true e =
        let some = some_class s p l in
        let at = at-of s p in
        let within : c < s.classes = omega arith in
        subst (λ q. AreLowestHits s (set states q x) (set hits c (min (slice_index hits c) b))) at
        (hits_at s states hits c b x i within (hit_of s states hits p i l)
        (subst (λ q. q < length states) (sym at) (omega arith)) e)
    go false e = subst (AreLowestHits s (set states p x)) (sym (set_same hits c))
        (lowest-same s states hits p x i (omega arith) (e ∙ sym none))

-- a piece that is held is no hit
held_no_hit : (f : Face) (w p : ℕ) → IsLedger f → slice_get f.holding w ≡ Some (Some p)
    → is_hit (get_or f.states p state.Open) ≡ false
held_no_hit f w p i g =
    let h = i.history.0 in
    let e = i.history.2 in
    ap is_hit (state-entry f h p e (found-piece f w p i g)
    ∙ held_open w p h (found-held f h w (Some p) e g))

pub lowest-reported : (f : Face) (w p : ℕ) (x : PieceState) (hits : List ℕ) → IsLedger f
    → slice_get f.holding w ≡ Some (Some p) → AreLowestHits f.shape f.states hits
    → AreLowestHits f.shape (set f.states p x) (set hits (class_of f.shape p)
    (lowest_with (slice_index hits (class_of f.shape p)) (block_of f.shape p) x))
lowest-reported f w p x hits i g low = lowest_set f.shape f.states hits p x low
    (found-piece f w p i g) (ledger-states f i) (held_no_hit f w p i g)

pub lowest-dropped : (f : Face) (w p : ℕ) (hits : List ℕ) → IsLedger f
    → slice_get f.holding w ≡ Some (Some p) → AreLowestHits f.shape f.states hits
    → AreLowestHits f.shape (set f.states p state.Skipped) hits
lowest-dropped f w p hits i g low =
    let l = found-piece f w p i g in
    let long = ledger-states f i in
    lowest-same f.shape f.states hits p state.Skipped low (omega arith)
    (sym (held_no_hit f w p i g))

-- whether the states show an earlier hit of a piece's class
pub lowest-shows : (f : Face) (p : ℕ) (hits : List ℕ)
    → AreLowestHits f.shape f.states hits → p < piece_count f.shape
    → shows_hit f p ≡ nat_lt (slice_index hits (class_of f.shape p)) (block_of f.shape p)
lowest-shows f p hits low l =
    let some = some_class f.shape p l in
    let within = block_of-below f.shape p l in
    sym (low.each (class_of f.shape p) (block_of f.shape p) (omega arith) (omega arith))

-- the numbers of a new ledger
get-replicate : {X : Type 0} (n i : ℕ) (x : X) → get_or (replicate n x) i x ≡ x
get-replicate zero i x = refl
get-replicate (suc n) zero x = refl
get-replicate (suc n) (suc i) x = get-replicate n i x

get-repeated : (n i x : ℕ) → i < n → get_or (replicate n x) i 0 ≡ x
get-repeated zero i x l = absurd (omega arith)
get-repeated (suc n) zero x l = refl
get-repeated (suc n) (suc i) x l = get-repeated n i x (omega arith)

length-replicated : (n x : ℕ) → length (replicate n x) ≡ n
length-replicated zero x = refl
length-replicated (suc n) x = ap suc (length-replicated n x)

pub lowest-new : (s : Shape) (n m : ℕ) → n ≡ min s.classes (piece_count s)
    → AreLowestHits s (replicate m state.Open) (replicate n (block_count s))
lowest-new s n m e = record {
  long = length-replicated n (block_count s) ∙ e;
  each = λ class k l few. no_number class k l few
      ∙ sym (any_none-below (λ b. is_hit (get_or (replicate m state.Open) (piece_at s class b)
      state.Open)) k (λ b o. ap is_hit (get-replicate m (piece_at s class b) state.Open)));
}
  where
    no_number : (class k : ℕ) → class < s.classes → k ≤ block_count s
        → nat_lt (get_or (replicate n (block_count s)) class 0) k ≡ false
    no_number class zero l few =
        le-ltb (get_or (replicate n (block_count s)) class 0) 0 (omega arith)
    no_number class (suc k) l few =
        let has = class-below s class k l (omega arith) in
        let at = get-repeated n class (block_count s) (omega arith) in
        le-ltb (get_or (replicate n (block_count s)) class 0) (suc k) (omega arith)
