-- A next fault is on the stem of a signal that stands later in the level order.
use Rattle.std.proofs.Common.{◌≡◌, ◌<◌, ◌≤◌, ℕ, zero, suc, ◌+◌, refl, sym, ◌∙◌, ap, subst, List, []}
use Rattle.std.proofs.Common.{◌∷◌, length, max, map, arith, inl, inr, ◌⊎◌}
use Rattle.std.specs.Prelude.{Contains, Some, None, slice_get, slice_index_or, fold, unwrap_or}
use Rattle.bench_net.specs.{Statement.{Name, Statement, Gate}, Circuit.IsWellFormed}
use Rattle.bench_net.specs.Scan.{names, signal, name_of, inputs, cells, sources}
use Rattle.bench_net.specs.Level.{greatest, AreLevels, HasLevel, GoesBefore, IsLevelOrder}
use Rattle.bench_net.proofs.Public.{name_of-signal, read_named}
use Rattle.list_lemmas.proofs.Members.{Among, among, contained, among_left, among_right, among_map}
use Rattle.list_lemmas.proofs.Places.{at_place, place_within, within_place}
use Rattle.fault_model.{proofs.SignalsDefined.signal_apart, specs.Fault.Fault}
use Rattle.fault_model.proofs.{OneSolution.{Driven, driven}, ListedFaults.Step}
use Rattle.fault_model.proofs.ShownAlike.{map_agree}
use Rattle.fault_model.proofs.NextFaultChains.{read_defined, gate_defined, read_below}

-- the greatest of some numbers isn't below any of them
fold_grows : (ns : List ℕ) (a b : ℕ) → b ≤ a → b ≤ fold max a ns
fold_grows [] a b h = h
fold_grows (n ∷ ns) a b h = fold_grows ns (max a n) b (omega (arith, h))

pub below_fold : (ns : List ℕ) (a n : ℕ) → Among n ns → n ≤ fold max a ns
below_fold [] a n h = absurd h
below_fold (m ∷ ns) a n (inl e) = fold_grows ns (max a m) n (omega (arith, e))
below_fold (m ∷ ns) a n (inr h) = below_fold ns (max a m) n h

pub below_greatest : (ns : List ℕ) (n : ℕ) → Among n ns → n ≤ greatest ns
below_greatest ns n h = below_fold ns 0 n h

module _ (c : List Statement) (well : IsWellFormed c) (l k : Name → ℕ) (p : AreLevels c l)
    (q : AreLevels c k) where
  below_same : (bound : ℕ) (n : Name) → well.acyclic.0 n < bound → Among n (names c) → l n ≡ k n
  below_same zero n lt a = absurd (omega (arith, lt))
  below_same (suc bound) n lt a = go (below_same bound) (driven c n a)
    where
      by_source : Among n (sources c) → l n ≡ k n
      by_source h = let at = contained (sources c) n h in p.source n at ∙ sym (q.source n at)

      go : ((m : Name) → well.acyclic.0 m < bound → Among m (names c) → l m ≡ k m) → Driven c n
          → l n ≡ k n
      go ih (inl h) = by_source (among_left (inputs c) (map (λ cell. cell.0) (cells c)) n h)
      go ih (inr (inl h)) = by_source (among_right (inputs c) (map (λ cell. cell.0) (cells c)) n h)
      go ih (inr (inr h)) =
          let at : Contains c (Gate n h.0 h.1) = contained c (Gate n h.0 h.1) h.2 in
          p.gate n h.0 h.1 at
          ∙ (ap (λ ns. 1 + greatest ns) (map_agree l k h.1 same) ∙ sym (q.gate n h.0 h.1 at))
        where
          same : (a : Name) → Among a h.1 → l a ≡ k a
          same a b =
              let lower : well.acyclic.0 a < well.acyclic.0 n =
              well.acyclic.1 n a (h.0, h.1, contained c (Gate n h.0 h.1) h.2, contained h.1 a b) in
              ih a (omega (arith, lt, lower))
              (among (names c) a (read_named c (Gate n h.0 h.1) a well h.2 b))

  -- a signal has one level
  pub one_level : (n : Name) → Among n (names c) → l n ≡ k n
  one_level n a = below_same (suc (well.acyclic.0 n)) n (omega arith) a

-- the name that a step's pin reads has a lower level than its gate
step_rises : (c : List Statement) (f g : Fault) (s : Step c f g) (level : Name → ℕ)
    → AreLevels c level → level s.read < level s.name
step_rises c f g s level p =
    let at : Contains c (Gate s.name s.kind s.args) =
    contained c (Gate s.name s.kind s.args) s.stands in
    let most : level s.read ≤ greatest (map level s.args) =
    below_greatest (map level s.args) (level s.read)
    (among_map level s.args s.read (at_place s.args s.pin s.read s.reads)) in
    let is : level s.name ≡ 1 + greatest (map level s.args) = p.gate s.name s.kind s.args at in
    omega (arith, most, is)

-- the gate of a step doesn't go before the name that its pin reads, nor is it that name
not_before : (c : List Statement) (f g : Fault) → IsWellFormed c → (s : Step c f g)
    → GoesBefore c (signal c s.name) (signal c s.read) → ⊥
not_before c f g well s b = go b.2 b.3 b.4
  where
    named : (m n : Name) → Among m (names c) → name_of c (signal c m) ≡ Some n → n ≡ m
    named m n a e =
        let same : Some m ≡ Some n = sym (name_of-signal c m (contained (names c) m a)) ∙ e in cc

    go : HasLevel c (signal c s.name) b.0 → HasLevel c (signal c s.read) b.1
        → (b.0 < b.1) ⊎ ((b.0 ≡ b.1) × (signal c s.name < signal c s.read)) → ⊥
    go gate read order =
        let m : gate.1 ≡ s.name = named s.name gate.1 (gate_defined c well f g s) gate.3 in
        let n : read.1 ≡ s.read = named s.read read.1 (read_defined c well f g s) read.3 in
        let rises : gate.0 s.read < gate.0 s.name = step_rises c f g s gate.0 gate.2 in
        let one : gate.0 s.read ≡ read.0 s.read =
        one_level c well gate.0 read.0 gate.2 read.2 s.read (read_defined c well f g s) in
        let high : gate.0 s.name ≡ b.0 = ap gate.0 (sym m) ∙ gate.4 in
        let low : read.0 s.read ≡ b.1 = ap read.0 (sym n) ∙ read.4 in
        wrong order (omega (arith, rises, one, high, low))
      where
        wrong : (b.0 < b.1) ⊎ ((b.0 ≡ b.1) × (signal c s.name < signal c s.read)) → b.1 < b.0 → ⊥
        wrong (inl h) k = absurd (omega (arith, h, k))
        wrong (inr h) k = absurd (omega (arith, h.0, k))

-- a place in a list, by index
at_index : (xs : List ℕ) (i x d : ℕ) → slice_get xs i ≡ Some x → slice_index_or xs i d ≡ x
at_index [] i x d e = let bad : None ≡ Some x = e in cc
at_index (y ∷ xs) zero x d e = ap (λ o. unwrap_or o x) e
at_index (y ∷ xs) (suc i) x d e = at_index xs i x d e

-- so in the level order the gate stands later
pub later : (c : List Statement) (f g : Fault) (order : List ℕ) (i j : ℕ) → IsWellFormed c
    → IsLevelOrder c order → (s : Step c f g)
    → slice_get order i ≡ Some (signal c s.read) → slice_get order j ≡ Some (signal c s.name)
    → i < j
later c f g order i j well is s at there = go (split i j)
  where
    split : (m n : ℕ) → (m < n) ⊎ ((m ≡ n) ⊎ (n < m))
    split zero zero = inr (inl refl)
    split zero (suc n) = inl (omega arith)
    split (suc m) zero = inr (inr (omega arith))
    split (suc m) (suc n) = more (split m n)
      where
        more : (m < n) ⊎ ((m ≡ n) ⊎ (n < m)) → (suc m < suc n) ⊎ ((suc m ≡ suc n) ⊎ (suc n < suc m))
        more (inl h) = inl (omega (arith, h))
        more (inr (inl h)) = inr (inl (ap suc h))
        more (inr (inr h)) = inr (inr (omega (arith, h)))

    go : (i < j) ⊎ ((i ≡ j) ⊎ (j < i)) → i < j
    go (inl h) = h
    go (inr (inl e)) =
        let same : Some (signal c s.read) ≡ Some (signal c s.name) =
        sym at ∙ (ap (slice_get order) e ∙ there) in
        let number : signal c s.read ≡ signal c s.name = cc in
        let one : s.read ≡ s.name =
        signal_apart c s.read s.name (contained (names c) s.read (read_defined c well f g s))
        (contained (names c) s.name (gate_defined c well f g s)) number in
        let lt : well.acyclic.0 s.read < well.acyclic.0 s.name = read_below c well f g s in
        let equal : well.acyclic.0 s.read ≡ well.acyclic.0 s.name = ap well.acyclic.0 one in
        absurd (omega (arith, lt, equal))
    go (inr (inr h)) =
        let before : GoesBefore c (slice_index_or order j 0) (slice_index_or order i 0) =
        is.ordered j i 0 h (place_within order i (signal c s.read) at) in
        let moved : GoesBefore c (signal c s.name) (slice_index_or order i 0) =
        subst (λ x. GoesBefore c x (slice_index_or order i 0))
        (at_index order j (signal c s.name) 0 there) before in
        let both : GoesBefore c (signal c s.name) (signal c s.read) =
        subst (GoesBefore c (signal c s.name)) (at_index order i (signal c s.read) 0 at) moved in
        absurd (not_before c f g well s both)

-- each number of the level order is a signal's
pub in_order_named : (c : List Statement) (order : List ℕ) (i s : ℕ) → IsLevelOrder c order
    → slice_get order i ≡ Some s → (n : Name) × (name_of c s ≡ Some n)
in_order_named c order zero s is at = go (split (length order))
  where
    split : (m : ℕ) → (2 ≤ m) ⊎ (m ≤ 1)
    split zero = inr (omega arith)
    split (suc zero) = inr (omega arith)
    split (suc (suc m)) = inl (omega arith)

    go : (2 ≤ length order) ⊎ (length order ≤ 1) → (n : Name) × (name_of c s ≡ Some n)
    go (inl h) =
        let before : GoesBefore c (slice_index_or order 0 0) (slice_index_or order 1 0) =
        is.ordered 0 1 0 (omega arith) (omega (arith, h)) in
        let has : HasLevel c s before.0 =
        subst (λ x. HasLevel c x before.0) (at_index order 0 s 0 at) before.2 in
        (has.1, has.3)
    go (inr h) =
        let inside : 0 < length order = place_within order 0 s at in
        let some : 0 < length (names c) = omega (arith, inside, is.count) in
        let there : Contains order 0 = is.all 0 some in
        let place : there.0 ≡ 0 = omega (arith, there.1, h) in
        let read : slice_index_or order 0 0 ≡ 0 =
        subst (λ k. slice_index_or order k 0 ≡ 0) place there.2 in
        let zero_is : s ≡ 0 = sym (at_index order 0 s 0 at) ∙ read in
        let p = within_place (names c) 0 some in
        (p.0, ap (name_of c) zero_is ∙ p.1)
in_order_named c order (suc i) s is at =
    let before : GoesBefore c (slice_index_or order 0 0) (slice_index_or order (suc i) 0) =
    is.ordered 0 (suc i) 0 (omega arith) (place_within order (suc i) s at) in
    let has : HasLevel c s before.1 =
    subst (λ x. HasLevel c x before.1) (at_index order (suc i) s 0 at) before.3 in
    (has.1, has.3)
