-- The blocks of names, as one more name comes and grows byte by byte.
use Rattle.std.proofs.Common.{◌≡◌, ◌∙◌, ℕ, Bool, true, false, ◌||◌, refl, sym, ap, subst, List, []}
use Rattle.std.{proofs.Common.{◌∷◌, ◌++◌, length, arith, inl, inr, get_or}, specs.List.list_any}
use Rattle.std.{specs.Prelude.{◌==◌, AllPairs, Contains, bytes_eq}, proofs.lemmas.Bool.cases_Bool}
use Rattle.std.proofs.lemmas.List.Elements.{All-contains, Contains-get_or}
use Rattle.bench_net.{specs.Statement.Name, proofs.Public.{bytes_refl, same_bytes}}
use Rattle.list_lemmas.proofs.{Distinct.Distinct, Members.{among_right, among_append}}
use Rattle.list_lemmas.proofs.Members.{Among, among, contained, some_passes, among_left}
use Rattle.block_coverage.specs.Blocks.{AreBlocks, ComesBefore, IsBlockOf, first_fault, is_in_block}
use Rattle.block_coverage.specs.Tallies.{AreListed}
use Rattle.block_coverage.proofs.InBlock.{block_from, in_block, in_ended, in_nothing, in_other}
use Rattle.block_coverage.proofs.InBlock.{not_itself, or_nothing, shorter}
use Rattle.block_coverage.proofs.ListOrders.{Ordered, any_of, any_push, first_kept, first_last}
use Rattle.block_coverage.proofs.ListOrders.{first_same, first_within, ordered_distinct}
use Rattle.block_coverage.proofs.ListOrders.{ordered_from, ordered_push, pairs_from, reordered}

-- whether some name has the block
abbrev pub in_some : ℕ → List Name → Name → Bool
in_some s names b = list_any (is_in_block s b) names

-- all blocks of some names in the order in which they come, by recursion on the list
pub record Listed (s : ℕ) (names blocks : List Name) : Type 0 where
  pub has : (b : Name) → Among b blocks → in_some s names b ≡ true
  pub all : (b : Name) → in_some s names b ≡ true → Among b blocks
  pub order : Ordered (ComesBefore s names) blocks

pub never_before_itself : (s : ℕ) (names : List Name) (b : Name) → ComesBefore s names b b → ⊥
never_before_itself s names b (inl lt) = omega (arith, lt)
never_before_itself s names b (inr both) = let lt = both.1 in omega (arith, lt)

pub distinct_blocks : (s : ℕ) (names blocks : List Name) → Listed s names blocks → Distinct blocks
distinct_blocks s names blocks listed =
    ordered_distinct (ComesBefore s names) (never_before_itself s names) blocks listed.order

-- ---- between both forms

pub listed_from : (s : ℕ) (names blocks : List Name) → AreListed s names blocks
    → Listed s names blocks
listed_from s names blocks are = record {
  has = λ b a.
      let x = All-contains (λ block. (name : Name) × Contains names name × IsBlockOf s name block)
      blocks b are.are.some (contained blocks b a) in
      any_of (is_in_block s b) names x.0 (among names x.0 x.1) (in_block s x.0 b x.2);
  all = λ b e.
      let x = some_passes (is_in_block s b) names e in
      among blocks b (are.are.all x.0 b x.1 (block_from s x.0 b x.2));
  order = ordered_from (ComesBefore s names) blocks are.ordered;
}

pub blocks_are : (s : ℕ) (names blocks : List Name)
    → ((b : Name) → Among b blocks → in_some s names b ≡ true)
    → ((b : Name) → in_some s names b ≡ true → Among b blocks)
    → (R : Name → Name → Type 0) → ((b : Name) → R b b → ⊥) → AllPairs R blocks
    → AreBlocks s names blocks
blocks_are s names blocks has all R never pairs = record {
  some = λ k d lt.
      let b = get_or blocks k d in
      let x = some_passes (is_in_block s b) names
      (has b (among blocks b (Contains-get_or blocks k d lt))) in
      (x.0, x.1, block_from s x.0 b x.2);
  all = λ name b at is. contained blocks b (all b (any_of (is_in_block s b) names name
      (among names name at) (in_block s name b is)));
  once = λ i j d lt len e. never (get_or blocks j d)
      (subst (λ b. R b (get_or blocks j d)) e (pairs i j d lt len));
}

pub listed_are : (s : ℕ) (names blocks : List Name) → Listed s names blocks
    → AreListed s names blocks
listed_are s names blocks listed =
    let pairs = pairs_from (ComesBefore s names) blocks listed.order in record {
      are = blocks_are s names blocks listed.has listed.all (ComesBefore s names)
          (never_before_itself s names) pairs;
      ordered = pairs;
    }

-- ---- other names with the same blocks

earlier : (s : ℕ) (names others : List Name) (a b : Name)
    → first_fault s others a ≡ first_fault s names a
    → first_fault s others b ≡ first_fault s names b
    → ComesBefore s names a b → ComesBefore s others a b
earlier s names others a b same other before = rw (same, other) before

listed_same : (s : ℕ) (names others blocks : List Name)
    → ((b : Name) → in_some s others b ≡ in_some s names b)
    → ((b : Name) → in_some s names b ≡ true → first_fault s others b ≡ first_fault s names b)
    → Listed s names blocks → Listed s others blocks
listed_same s names others blocks same first listed = record {
  has = λ b a. same b ∙ listed.has b a;
  all = λ b e. listed.all b (sym (same b) ∙ e);
  order = reordered (ComesBefore s names) (ComesBefore s others) blocks
      (λ a b x y before. earlier s names others a b (first a (listed.has a x))
      (first b (listed.has b y)) before) listed.order;
}

-- one more name, of no bytes so far
pub listed_next : (s : ℕ) (names blocks : List Name) → Listed s names blocks
    → Listed s (names ++ [] ∷ []) blocks
listed_next s names blocks listed = listed_same s names (names ++ [] ∷ []) blocks
    (λ b. any_push (is_in_block s b) names []
    ∙ (ap (λ t. in_some s names b || t) (in_nothing s b) ∙ or_nothing (in_some s names b)))
    (λ b e. first_kept (is_in_block s b) names [] e) listed

-- its next byte is no separator
pub listed_other : (s c : ℕ) (names blocks : List Name) (p : Name) → (c == s) ≡ false
    → Listed s (names ++ p ∷ []) blocks → Listed s (names ++ (p ++ c ∷ []) ∷ []) blocks
listed_other s c names blocks p ne listed =
    listed_same s (names ++ p ∷ []) (names ++ (p ++ c ∷ []) ∷ []) blocks
    (λ b. any_push (is_in_block s b) names (p ++ c ∷ [])
    ∙ (ap (λ t. in_some s names b || t) (in_other s c b p ne)
    ∙ sym (any_push (is_in_block s b) names p)))
    (λ b e. first_same (is_in_block s b) names (p ++ c ∷ []) p (in_other s c b p ne)) listed

-- ---- its next byte is a separator

module _ (s : ℕ) (names blocks : List Name) (p : Name)
    (listed : Listed s (names ++ p ∷ []) blocks) where
  abbrev ended : Name
  ended = p ++ s ∷ []

  -- the name so far is a block of an earlier name or of none
  earlier_only : (t : Bool) → in_some s (names ++ p ∷ []) p ≡ t → in_some s names p ≡ t
  earlier_only t e = sym (or_nothing (in_some s names p))
      ∙ (ap (λ u. in_some s names p || u) (sym (not_itself s p))
      ∙ (sym (any_push (is_in_block s p) names p) ∙ e))

  pub in_ended_other : (b : Name) → bytes_eq b p ≡ false → is_in_block s b ended ≡ is_in_block s b p
  in_ended_other b ne =
      in_ended s b p ∙ (ap (λ t. is_in_block s b p || t) ne ∙ or_nothing (is_in_block s b p))

  pub in_ended_own : is_in_block s p ended ≡ true
  in_ended_own = in_ended s p p ∙ (ap (λ t. t || bytes_eq p p) (not_itself s p) ∙ bytes_refl p)

  some_other : (b : Name) → bytes_eq b p ≡ false
      → in_some s (names ++ ended ∷ []) b ≡ in_some s (names ++ p ∷ []) b
  some_other b ne = any_push (is_in_block s b) names ended
      ∙ (ap (λ t. in_some s names b || t) (in_ended_other b ne)
      ∙ sym (any_push (is_in_block s b) names p))

  or_true : (t : Bool) → (t || true) ≡ true
  or_true true = refl
  or_true false = refl

  some_own : in_some s (names ++ ended ∷ []) p ≡ true
  some_own = any_push (is_in_block s p) names ended
      ∙ (ap (λ t. in_some s names p || t) in_ended_own ∙ or_true (in_some s names p))

  first_other : (b : Name) → bytes_eq b p ≡ false
      → first_fault s (names ++ ended ∷ []) b ≡ first_fault s (names ++ p ∷ []) b
  first_other b ne = first_same (is_in_block s b) names ended p (in_ended_other b ne)

  first_own : in_some s names p ≡ true
      → first_fault s (names ++ ended ∷ []) p ≡ first_fault s (names ++ p ∷ []) p
  first_own e = first_kept (is_in_block s p) names ended e
      ∙ sym (first_kept (is_in_block s p) names p e)

  -- it has a row
  pub listed_again : Among p blocks → Listed s (names ++ ended ∷ []) blocks
  listed_again a =
      let there = earlier_only true (listed.has p a) in
      listed_same s (names ++ p ∷ []) (names ++ ended ∷ []) blocks
      (λ b. elim (cases_Bool (bytes_eq b p)) [
        | inl on ↦ subst (λ q. in_some s (names ++ ended ∷ []) q ≡ in_some s (names ++ p ∷ []) q)
            (sym (same_bytes b p on)) (some_own ∙ sym (listed.has p a))
        | inr off ↦ some_other b off
      ]) (λ b e. elim (cases_Bool (bytes_eq b p)) [
        | inl on ↦ subst (λ q. first_fault s (names ++ ended ∷ []) q
            ≡ first_fault s (names ++ p ∷ []) q) (sym (same_bytes b p on)) (first_own there)
        | inr off ↦ first_other b off
      ]) listed

  module _ (new : Among p blocks → ⊥) where
    apart : (b : Name) → Among b blocks → bytes_eq b p ≡ false
    apart b a = elim (cases_Bool (bytes_eq b p)) [
      | inl on ↦ absurd (new (subst (λ q. Among q blocks) (same_bytes b p on) a))
      | inr off ↦ off
    ]

    pub fresh : in_some s names p ≡ false
    fresh = elim (cases_Bool (in_some s names p)) [
      | inl on ↦ absurd (new (listed.all p (any_push (is_in_block s p) names p
          ∙ ap (λ t. t || is_in_block s p p) on)))
      | inr off ↦ off
    ]

    -- it comes after all others
    last : (b : Name) → Among b blocks → ComesBefore s (names ++ ended ∷ []) b p
    last b a =
        let own : first_fault s (names ++ ended ∷ []) p ≡ length names =
        first_last (is_in_block s p) names ended fresh in_ended_own in
        let same = first_other b (apart b a) in
        elim (cases_Bool (in_some s names b)) [
          | inl on ↦ (let kept = first_kept (is_in_block s b) names ended on in
              let within = first_within (is_in_block s b) names on in
              inl (omega (arith, own, kept, within)))
          | inr off ↦ (let has = sym (any_push (is_in_block s b) names p) ∙ listed.has b a in
              let in_last : is_in_block s b p ≡ true =
              ap (λ t. t || is_in_block s b p) (sym off) ∙ has in
              let first = first_last (is_in_block s b) names p off in_last in
              inr (same ∙ (first ∙ sym own), shorter s p b in_last))
        ]

    has_new : (b : Name) → Among b (blocks ++ p ∷ []) → in_some s (names ++ ended ∷ []) b ≡ true
    has_new b a = elim (among_append blocks (p ∷ []) b a) [
      | inl old ↦ some_other b (apart b old) ∙ listed.has b old
      | inr (inl e) ↦ subst (λ q. in_some s (names ++ ended ∷ []) q ≡ true) e some_own
      | inr (inr none) ↦ absurd none
    ]

    all_new : (b : Name) → in_some s (names ++ ended ∷ []) b ≡ true → Among b (blocks ++ p ∷ [])
    all_new b e = elim (cases_Bool (bytes_eq b p)) [
      | inl on ↦ among_right blocks (p ∷ []) b (inl (sym (same_bytes b p on)))
      | inr off ↦ among_left blocks (p ∷ []) b (listed.all b (sym (some_other b off) ∙ e))
    ]

    -- it gets a row
    pub listed_new : Listed s (names ++ ended ∷ []) (blocks ++ p ∷ [])
    listed_new = record {
      has = has_new;
      all = all_new;
      order = ordered_push (ComesBefore s (names ++ ended ∷ [])) blocks p
          (reordered (ComesBefore s (names ++ p ∷ [])) (ComesBefore s (names ++ ended ∷ [])) blocks
          (λ a b x y before. earlier s (names ++ p ∷ []) (names ++ ended ∷ []) a b
          (first_other a (apart a x)) (first_other b (apart b y)) before) listed.order) last;
    }
