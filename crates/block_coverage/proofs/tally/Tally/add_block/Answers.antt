use Rattle.std.proofs.Common.{◌≡◌, ◌≤◌, ◌∙◌, ◌+◌, ◌++◌, ◌∷◌, [], ℕ, List, Bool, false, true, cond}
use Rattle.std.{proofs.Common.{sym, ap, subst, map, set, arith}, specs.Borrow.Bor}
use Rattle.std.specs.{Prelude.{Some, bytes_eq, option_map, slice_get}, List.list_any}
use Rattle.std.proofs.lemmas.{Bool.{not-false, not-true}, List.{map-set, map_push}}
use Rattle.std.proofs.lemmas.Option.{get_or_from_slice_get, slice_get-map}
use Rattle.bench_net.{specs.Statement.Name, proofs.Public.same_bytes}
use Rattle.block_coverage.specs.declared.rows.BlockRow.{BlockRow}
use Rattle.block_coverage.specs.Blocks.{BlockCells, block_cells, cells_in}
use Rattle.block_coverage.specs.Tallies.{AreListed, IsTally, names_at}
use Rattle.block_coverage.proofs.ListedBlocks.{listed_again, listed_are, listed_from, listed_new}
use Rattle.block_coverage.proofs.Tallies.{few_before, is_there, isnt_there, key_in, made, row_at}
use Rattle.block_coverage.proofs.Tallies.{rows_again, rows_new}
use Rattle.block_coverage.proofs.tally.Tally.add_block.Goals.{After-index_mut-row}
use Rattle.block_coverage.proofs.tally.Tally.add_block.Goals as goal

-- the block stands at its place among the keys
key_at : (keys new : List (Bor Name)) (k key : Bor Name) (i : ℕ) (t : Bool) → t ≡ true
    → new ≡ cond t keys (keys ++ k ∷ []) → slice_get new i ≡ Some key
    → bytes_eq k.now key.now ≡ true → slice_get (names_at keys) i ≡ Some k.now
key_at keys new k key i t on is at same = slice_get-map (λ b. b.now) keys i
    ∙ (ap (option_map (λ b. b.now)) (ap (λ l. slice_get l i)
    (sym (is ∙ ap (λ u. cond u keys (keys ++ k ∷ [])) on)) ∙ at)
    ∙ ap Some (sym (same_bytes k.now key.now same)))

bit : (b : Bool) → cond b 1 0 ≤ 1
bit true = omega arith
bit false = omega arith

-- the row at the place of a block that is there
there : (c : After-index_mut-row) → (s : ℕ) (names : List Name) (flags : List Bool)
    → IsTally s (names ++ c.args.block.now ∷ []) (flags ++ c.args.detected ∷ []) c.args.self.now
    → (slice_get (names_at c.args.self.now.names.keys) c.in_ok-place.place ≡ Some c.args.block.now)
    × (cells_in c.index_mut-row.result.now ≡ block_cells s (names ++ c.args.block.now ∷ [])
    (flags ++ c.args.detected ∷ []) c.args.block.now)
there c s names flags tally =
    let keys = c.args.self.now.names.keys in
    let p = c.args.block.now in
    let rows = c.args.self.now.rows.items in
    let on : list_any (λ k. bytes_eq p k.now) keys ≡ true =
    not-false (list_any (λ k. bytes_eq p k.now) keys)
    (sym c.in_ok-place.ensures.added ∙ c.if-added.false) in
    let stored = c.in_ok-place.ensures.stored in
    let at = key_at keys c.insert_full.new.self.keys c.args.block stored.0 c.in_ok-place.place
    (list_any (λ k. bytes_eq p k.now) keys) on c.in_ok-place.ensures.keys stored.1 stored.2 in
    let row = row_at cells_in rows (block_cells s (names ++ p ∷ []) (flags ++ c.args.detected ∷ []))
    (names_at keys) c.in_ok-place.place p tally.rows at in
    let same : c.index_mut-row.result.now ≡ row.0 = c.index_mut-row.ensures.value
    ∙ get_or_from_slice_get rows c.in_ok-place.place row.0 c.index_mut-row.result.now row.1 in
    (at, ap cells_in same ∙ row.2)

pub overflow_add-row : goal.overflow_add-row
overflow_add-row c =
    let h = c.requires in
    let row = there (goal.at.overflow_add-row c).After-index_mut-row h.0 h.1 h.2 h.5 in
    let few = (few_before h.0 h.1 h.2 c.args.detected h.4 c.args.block.now).0 in
    let same = ap (λ (cells : BlockCells). cells.faults) row.1 in
    let room = h.3 in
    omega (arith, few, same, room)

pub overflow_add-row-else-added : goal.overflow_add-row-else-added
overflow_add-row-else-added c =
    let h = c.requires in
    let row = there (goal.at.overflow_add-row-else-added c).After-index_mut-row h.0 h.1 h.2 h.5 in
    let few = (few_before h.0 h.1 h.2 c.args.detected h.4 c.args.block.now).1 in
    let same = ap (λ (cells : BlockCells). cells.detected) row.1 in
    let room = h.3 in
    let one = bit c.args.detected in
    let is = c.bit_of-else-added.ensures in
    omega (arith, few, same, room, one, is)

pub returns-in_ok-push : goal.returns-in_ok-push
returns-in_ok-push c = λ s names flags even tally.
    let keys = c.args.self.now.names.keys in
    let p = c.args.block.now in
    let blocks = names_at keys in
    let listed = listed_from s (names ++ p ∷ []) blocks tally.listed in
    let off : list_any (bytes_eq p) blocks ≡ false =
    sym (key_in keys p) ∙ not-true (list_any (λ k. bytes_eq p k.now) keys)
    (sym c.in_ok-place.ensures.added ∙ c.if-added.true) in
    let new = isnt_there blocks p off in
    let names_are : names_at c.insert_full.new.self.keys ≡ blocks ++ p ∷ [] =
    ap names_at (c.in_ok-place.ensures.keys
    ∙ ap (λ t. cond t keys (keys ++ c.args.block ∷ [])) (key_in keys p ∙ off))
    ∙ map_push (λ k. k.now) keys c.args.block in
    record {
      listed = subst (λ bs. AreListed s (names ++ (p ++ s ∷ []) ∷ []) bs) (sym names_are)
          (listed_are s (names ++ (p ++ s ∷ []) ∷ []) (blocks ++ p ∷ [])
          (listed_new s names blocks p listed new));
      rows = ap (map cells_in) c.in_ok-push.ensures.items
          ∙ (map_push cells_in c.args.self.now.rows.items
          (record { name = c.args.block; detected = c.bit_of.result; faults = 1 })
          ∙ (ap (λ k. map cells_in c.args.self.now.rows.items ++ made p k 1 ∷ []) c.bit_of.ensures
          ∙ (ap (λ l. l ++ made p (cond c.args.detected 1 0) 1 ∷ []) tally.rows
          ∙ (rows_new s names flags c.args.detected even blocks p listed new
          ∙ ap (map (block_cells s (names ++ (p ++ s ∷ []) ∷ []) (flags ++ c.args.detected ∷ [])))
          (sym names_are)))));
    }

pub returns-else-added : goal.returns-else-added
returns-else-added c = λ s names flags even tally.
    let keys = c.args.self.now.names.keys in
    let p = c.args.block.now in
    let f = c.args.detected in
    let place = c.in_ok-place.place in
    let rows = c.args.self.now.rows.items in
    let old = c.index_mut-row.result.now in
    let blocks = names_at keys in
    let new : BlockRow = record {
      name = old.name;
      detected = old.detected + c.bit_of-else-added.result;
      faults = old.faults + 1;
    } in
    let row = there (goal.at.returns-else-added c).After-index_mut-row s names flags tally in
    let listed = listed_from s (names ++ p ∷ []) blocks tally.listed in
    let on : list_any (bytes_eq p) blocks ≡ true = sym (key_in keys p)
    ∙ not-false (list_any (λ k. bytes_eq p k.now) keys)
    (sym c.in_ok-place.ensures.added ∙ c.if-added.false) in
    let names_are : names_at c.insert_full.new.self.keys ≡ blocks =
    ap names_at (c.in_ok-place.ensures.keys
    ∙ ap (λ t. cond t keys (keys ++ c.args.block ∷ [])) (key_in keys p ∙ on)) in
    let was = block_cells s (names ++ p ∷ []) (flags ++ f ∷ []) p in
    let more = made p (was.detected + cond f 1 0) (was.faults + 1) in
    let cells : cells_in new ≡ more =
    ap (λ k. made old.name.now (old.detected + k) (old.faults + 1)) c.bit_of-else-added.ensures
    ∙ ap (λ (was : BlockCells). made was.name (was.detected + cond f 1 0) (was.faults + 1)) row.1 in
    record {
      listed = subst (λ bs. AreListed s (names ++ (p ++ s ∷ []) ∷ []) bs) (sym names_are)
          (listed_are s (names ++ (p ++ s ∷ []) ∷ []) blocks
          (listed_again s names blocks p listed (is_there blocks p on)));
      rows = map-set cells_in rows place new ∙ (ap (set (map cells_in rows) place) cells
          ∙ (ap (λ l. set l place more) tally.rows
          ∙ (rows_again s names flags f even blocks p listed place row.0
          ∙ ap (map (block_cells s (names ++ (p ++ s ∷ []) ∷ []) (flags ++ f ∷ [])))
          (sym names_are))));
    }
