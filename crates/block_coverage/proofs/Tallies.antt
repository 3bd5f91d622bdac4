-- A tally, as one more name comes and grows byte by byte.
use Rattle.std.proofs.Common.{◌≡◌, ◌≤◌, ◌+◌, ◌∙◌, ℕ, Bool, true, false, cond, ◌&&◌, ◌||◌, refl, sym}
use Rattle.std.proofs.Common.{ap, subst, List, [], ◌∷◌, ◌++◌, length, arith, map, set}
use Rattle.std.specs.Prelude.{◌==◌, Some, bytes_eq, count_by, option_map, slice_get, zip}
use Rattle.std.{specs.Borrow.Bor, specs.List.list_any, proofs.lemmas.List.map_push}
use Rattle.std.proofs.lemmas.{Bool.{both_ways, false_from_ne_true}, Option.slice_get-map}
use Rattle.std.proofs.lemmas.List.Sums.{count_by-le-length, sum_by_push}
use Rattle.bench_net.{specs.Statement.Name, proofs.Public.{bytes_refl, same_bytes}}
use Rattle.list_lemmas.proofs.{Members.{Among, among, some_passes}, Places.from_mapped}
use Rattle.block_coverage.specs.Blocks.{BlockCells, block_cells, is_in_block}
use Rattle.block_coverage.specs.{declared.tally.Tally.Tally, Tallies.{IsTally, names_at}}
use Rattle.block_coverage.proofs.InBlock.{in_nothing, in_other, not_itself}
use Rattle.block_coverage.proofs.ListOrders.{any_of, flagged_within, mapped_same, mapped_set}
use Rattle.block_coverage.proofs.ListOrders.{none_counted, zip_push}
use Rattle.block_coverage.proofs.ListedBlocks.{Listed, distinct_blocks, in_ended_other}
use Rattle.block_coverage.proofs.ListedBlocks.{in_ended_own, in_some, listed_are, listed_from}
use Rattle.block_coverage.proofs.ListedBlocks.{fresh, listed_next, listed_other}

-- ---- the keys of a set of names

pub key_in : (keys : List (Bor Name)) (n : Name)
    → list_any (λ k. bytes_eq n k.now) keys ≡ list_any (bytes_eq n) (names_at keys)
key_in [] n = refl
key_in (k ∷ keys) n = ap (λ more. bytes_eq n k.now || more) (key_in keys n)

pub is_there : (blocks : List Name) (n : Name) → list_any (bytes_eq n) blocks ≡ true
    → Among n blocks
is_there blocks n e =
    let x = some_passes (bytes_eq n) blocks e in
    subst (λ m. Among m blocks) (sym (same_bytes n x.0 x.2)) (among blocks x.0 x.1)

pub isnt_there : (blocks : List Name) (n : Name) → list_any (bytes_eq n) blocks ≡ false
    → Among n blocks → ⊥
isnt_there blocks n e a =
    both_ways (list_any (bytes_eq n) blocks) e (any_of (bytes_eq n) blocks n a (bytes_refl n))

-- ---- the numbers of a block, as one more name comes

abbrev pub made : Name → ℕ → ℕ → BlockCells
made b detected faults = record { name = b; detected = detected; faults = faults }

module _ (s : ℕ) (names : List Name) (flags : List Bool) (f : Bool)
    (even : length flags ≡ length names) where
  abbrev with_name : Name → Name → BlockCells
  with_name p b = block_cells s (names ++ p ∷ []) (flags ++ f ∷ []) b

  pub cells_push : (p b : Name) → with_name p b
      ≡ made b ((block_cells s names flags b).detected + cond (is_in_block s b p && f) 1 0)
      ((block_cells s names flags b).faults + cond (is_in_block s b p) 1 0)
  cells_push p b =
      let d : (with_name p b).detected
      ≡ (block_cells s names flags b).detected + cond (is_in_block s b p && f) 1 0 =
      ap (count_by (λ at. is_in_block s b at.0 && at.1)) (zip_push names flags p f even)
      ∙ sum_by_push (λ (at : Name × Bool). cond (is_in_block s b at.0 && at.1) 1 0)
      (zip names flags) (p, f) in
      let n : (with_name p b).faults
      ≡ (block_cells s names flags b).faults + cond (is_in_block s b p) 1 0 =
      sum_by_push (λ (name : Name). cond (is_in_block s b name) 1 0) names p in
      ap (λ k. made b k (with_name p b).faults) d
      ∙ ap (made b ((block_cells s names flags b).detected + cond (is_in_block s b p && f) 1 0)) n

  -- a block of neither of two names has the same numbers after each
  pub cells_same : (p q b : Name) → is_in_block s b p ≡ is_in_block s b q
      → with_name p b ≡ with_name q b
  cells_same p q b same = cells_push p b
      ∙ (ap (λ t. made b ((block_cells s names flags b).detected + cond (t && f) 1 0)
      ((block_cells s names flags b).faults + cond t 1 0)) same ∙ sym (cells_push q b))

  -- a name of no bytes is in no block
  pub cells_next : (b : Name) → with_name [] b ≡ block_cells s names flags b
  cells_next b = cells_push [] b
      ∙ (ap (λ t. made b ((block_cells s names flags b).detected + cond (t && f) 1 0)
      ((block_cells s names flags b).faults + cond t 1 0)) (in_nothing s b)
      ∙ plain (block_cells s names flags b).detected (block_cells s names flags b).faults)
    where
      plain : (d n : ℕ) → made b (d + 0) (n + 0) ≡ made b d n
      plain d n =
          let same : d + 0 ≡ d = omega arith in
          let alike : n + 0 ≡ n = omega arith in
          ap (λ k. made b k (n + 0)) same ∙ ap (made b d) alike

  -- the name so far isn't in the block of its own name
  pub cells_before : (p : Name) → with_name p p ≡ block_cells s names flags p
  cells_before p = cells_same p [] p (not_itself s p ∙ sym (in_nothing s p)) ∙ cells_next p

  -- a block that ends there has one more fault
  pub cells_ended : (p : Name) → is_in_block s p (p ++ s ∷ []) ≡ true
      → with_name (p ++ s ∷ []) p ≡ made p ((with_name p p).detected + cond f 1 0)
      ((with_name p p).faults + 1)
  cells_ended p is = cells_push (p ++ s ∷ []) p
      ∙ (ap (λ t. made p ((block_cells s names flags p).detected + cond (t && f) 1 0)
      ((block_cells s names flags p).faults + cond t 1 0)) is
      ∙ ap (λ (was : BlockCells). made p (was.detected + cond f 1 0) (was.faults + 1))
      (sym (cells_before p)))

  -- so it has this one, if no name was in it
  pub cells_fresh : (p : Name) → is_in_block s p (p ++ s ∷ []) ≡ true
      → in_some s names p ≡ false → with_name (p ++ s ∷ []) p ≡ made p (cond f 1 0) 1
  cells_fresh p is none =
      let all : (block_cells s names flags p).faults ≡ 0 =
      none_counted (is_in_block s p) names none in
      let few = flagged_within (is_in_block s p) names flags in
      let found : (block_cells s names flags p).detected ≡ 0 = omega (arith, all, few) in
      cells_push (p ++ s ∷ []) p
      ∙ (ap (λ t. made p ((block_cells s names flags p).detected + cond (t && f) 1 0)
      ((block_cells s names flags p).faults + cond t 1 0)) is
      ∙ (ap (λ k. made p (k + cond f 1 0) ((block_cells s names flags p).faults + 1)) found
      ∙ (ap (λ k. made p (0 + cond f 1 0) (k + 1)) all ∙ plain (cond f 1 0))))
    where
      plain : (d : ℕ) → made p (0 + d) (0 + 1) ≡ made p d 1
      plain d = let same : 0 + d ≡ d = omega arith in ap (λ k. made p k 1) same

  -- and few enough to count one more
  pub few_before : (p : Name) → ((with_name p p).faults ≤ length names)
      × ((with_name p p).detected ≤ length names)
  few_before p =
      let same = cells_before p in
      let all : (with_name p p).faults ≡ (block_cells s names flags p).faults =
      ap (λ (cells : BlockCells). cells.faults) same in
      let found : (with_name p p).detected ≡ (block_cells s names flags p).detected =
      ap (λ (cells : BlockCells). cells.detected) same in
      let few = count_by-le-length (is_in_block s p) names in
      let within = flagged_within (is_in_block s p) names flags in
      (omega (arith, all, few), omega (arith, found, within, few))

  -- ---- the rows

  module _ (blocks : List Name) where
    pub rows_next : map (block_cells s names flags) blocks ≡ map (with_name []) blocks
    rows_next = mapped_same (block_cells s names flags) (with_name []) blocks
        (λ b a. sym (cells_next b))

    pub rows_other : (c : ℕ) (p : Name) → (c == s) ≡ false
        → map (with_name p) blocks ≡ map (with_name (p ++ c ∷ [])) blocks
    rows_other c p ne = mapped_same (with_name p) (with_name (p ++ c ∷ [])) blocks
        (λ b a. cells_same p (p ++ c ∷ []) b (sym (in_other s c b p ne)))

    module _ (p : Name) (listed : Listed s (names ++ p ∷ []) blocks) where
      differ : (b : Name) → (b ≡ p → ⊥) → bytes_eq b p ≡ false
      differ b ne = false_from_ne_true (bytes_eq b p) (λ e. ne (same_bytes b p e))

      ended_same : (b : Name) → Among b blocks → (b ≡ p → ⊥)
          → with_name p b ≡ with_name (p ++ s ∷ []) b
      ended_same b a ne = cells_same p (p ++ s ∷ []) b
          (sym (in_ended_other s names blocks p listed b (differ b ne)))

      -- the row of a block that has one
      pub rows_again : (i : ℕ) → slice_get blocks i ≡ Some p → set (map (with_name p) blocks) i
          (made p ((with_name p p).detected + cond f 1 0) ((with_name p p).faults + 1))
          ≡ map (with_name (p ++ s ∷ [])) blocks
      rows_again i at = ap (set (map (with_name p) blocks) i)
          (sym (cells_ended p (in_ended_own s names blocks p listed)))
          ∙ mapped_set (with_name p) (with_name (p ++ s ∷ [])) blocks i p
          (distinct_blocks s (names ++ p ∷ []) blocks listed) at ended_same

      -- a new row
      pub rows_new : (Among p blocks → ⊥) → map (with_name p) blocks ++ made p (cond f 1 0) 1 ∷ []
          ≡ map (with_name (p ++ s ∷ [])) (blocks ++ p ∷ [])
      rows_new new = ap (λ l. map (with_name p) blocks ++ l ∷ [])
          (sym (cells_fresh p (in_ended_own s names blocks p listed)
          (fresh s names blocks p listed new))) ∙ (ap (λ l. l ++ with_name (p ++ s ∷ []) p ∷ [])
          (mapped_same (with_name p) (with_name (p ++ s ∷ [])) blocks
          (λ b a. ended_same b a (λ e. new (subst (λ q. Among q blocks) e a))))
          ∙ sym (map_push (with_name (p ++ s ∷ [])) blocks p))

-- the row at the place of a block
pub row_at : {R : Type 0} (cells_of : R → BlockCells) (rows : List R) (g : Name → BlockCells)
    (blocks : List Name) (i : ℕ) (p : Name) → map cells_of rows ≡ map g blocks
    → slice_get blocks i ≡ Some p → (r : R) × (slice_get rows i ≡ Some r) × (cells_of r ≡ g p)
row_at cells_of rows g blocks i p same at =
    from_mapped cells_of rows i (g p) (ap (λ l. slice_get l i) same
    ∙ (slice_get-map g blocks i ∙ ap (option_map g) at))

-- ---- a tally

module _ (s : ℕ) (names : List Name) (flags : List Bool) (f : Bool)
    (even : length flags ≡ length names) (t : Tally) where
  pub tally_next : IsTally s names flags t → IsTally s (names ++ [] ∷ []) (flags ++ f ∷ []) t
  tally_next tally =
      let blocks = names_at t.names.keys in
      record {
        listed = listed_are s (names ++ [] ∷ []) blocks
            (listed_next s names blocks (listed_from s names blocks tally.listed));
        rows = tally.rows ∙ rows_next s names flags f even blocks;
      }

  pub tally_other : (p : Name) (c : ℕ) → (c == s) ≡ false
      → IsTally s (names ++ p ∷ []) (flags ++ f ∷ []) t
      → IsTally s (names ++ (p ++ c ∷ []) ∷ []) (flags ++ f ∷ []) t
  tally_other p c ne tally =
      let blocks = names_at t.names.keys in
      record {
        listed = listed_are s (names ++ (p ++ c ∷ []) ∷ []) blocks
            (listed_other s c names blocks p ne
            (listed_from s (names ++ p ∷ []) blocks tally.listed));
        rows = tally.rows ∙ rows_other s names flags f even blocks c p ne;
      }
