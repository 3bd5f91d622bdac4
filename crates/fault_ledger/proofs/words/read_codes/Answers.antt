use Rattle.std.proofs.Common.{◌≡◌, ◌<◌, ◌%◌, length, slice_index, sym, ap, ◌∙◌, arith, below_more}
use Rattle.std.{proofs.Common.{get_or-set_same, get_or-set_other}, specs.Mem.Slots.slots_items}
use Rattle.std.proofs.{Math.ListN.length-set, lemmas.List.same_lists}
use Rattle.std.proofs.lemmas.Grind.{get_or_default_zero}
use Rattle.patterns.proofs.Public.{get_or-map-below, length-map-below}
use Rattle.fault_ledger.{specs.Words.{field, field_in}, proofs.WordGroups.index_at}
use Rattle.fault_ledger.proofs.words.read_codes.Goals as goal

pub loop-piece-preserved : goal.loop-piece-preserved
loop-piece-preserved c =
    let n = c.loop-piece.piece in
    let codes = c.loop-piece.codes.items in
    let words = slots_items c.args.closed.now.words in
    let count = c.loop-piece.invariant.count in
    let within : n < length codes = omega (arith, count, c.loop-piece-test.true) in
    let is : c.field_of.result ≡ field_in words n = c.field_of.ensures ∙ ap (λ w. field w (n % 8))
    (sym (index_at words c.word_with.result c.word.result c.word.ensures)
    ∙ ap (slice_index words) c.word_with.ensures)
    in
    record {
      count = length-set codes n c.field_of.result ∙ count;
      read = below_more _ _ (λ k h.
          get_or-set_other codes n k c.field_of.result 0 (λ (e : k ≡ n). omega (arith, e, h))
          ∙ c.loop-piece.invariant.read k h)
          (get_or-set_same codes n c.field_of.result 0 within ∙ is);
    }

pub returns : goal.returns
returns c =
    let codes = c.loop-piece.codes.items in
    let words = slots_items c.args.closed.now.words in
    let count = c.loop-piece.invariant.count in
    same_lists _ _ (count ∙ sym (length-map-below (field_in words) c.args.pieces)) (λ k d h.
    let below_count : k < c.args.pieces = omega (arith, h, count) in
    get_or_default_zero codes k d h
    ∙ c.loop-piece.invariant.read k (omega (arith, below_count, c.loop-piece-test.false))
    ∙ sym (get_or-map-below (field_in words) c.args.pieces k d below_count))
