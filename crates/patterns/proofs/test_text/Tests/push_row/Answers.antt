use Rattle.std.proofs.Common.{◌≡◌, ℕ, ◌+◌, ◌/◌, ◌%◌, ◌==◌, ◌++◌, [], false, length, get_or, take}
use Rattle.std.proofs.Common.{drop, map, sym, ap, ◌∙◌, subst, inl, inr, arith, rules}
use Rattle.std.{specs.Int.bit_at, proofs.Math.Seq.take-append_seam}
use Rattle.patterns.specs.{Least.below, Making.{digit, row_text}, Words.bit_of}
use Rattle.patterns.proofs.{NumbersBelow.length-map-below, TestWords.seen-count}
use Rattle.patterns.proofs.MadeTests.{row_pushed, test_from_words, bit_from_words}
use Rattle.patterns.proofs.TestWords.{word_lists, word_lists-read, block_width, block_within}
use Rattle.patterns.proofs.test_text.Tests.push_row.Goals as goal

pub index-requires : goal.index-requires
index-requires c =
    let fields = c.self.inside in
    let block = block_within fields.width fields.count fields.words.items c.args.self.now
    (c.args.test / 64) c.self.view_is c.self.invariant (omega arith) in
    omega (arith, block, fields.words.ok.0)

pub write_digits-requires-clause-place : goal.write_digits-requires-clause-place
write_digits-requires-clause-place c =
    let fields = c.self.inside in
    let block = block_within fields.width fields.count fields.words.items c.args.self.now
    (c.args.test / 64) c.self.view_is c.self.invariant (omega arith) in
    let width = block_width fields.width fields.count fields.words.items
    (c.args.test / 64) c.index.result.now c.self.invariant block c.index.ensures in
    omega (
      arith,
      width,
      ap length c.as_slice-words.ensures.value,
      c.deref_mut.ensures.len,
      c.in_ok-resize.ensures.len,
    )

pub returns-clause-row : goal.returns-clause-row
returns-clause-row c =
    let fields = c.self.inside in
    let words = word_lists fields.words.items in
    let old = c.args.text.now.items in
    let new = c.write_digits.new.text in
    let row = map (bit_of words c.args.test) (below fields.width) in
    let count =
    seen-count fields.width fields.count fields.words.items c.args.self.now c.self.view_is in
    let block = block_within fields.width fields.count fields.words.items c.args.self.now
    (c.args.test / 64) c.self.view_is c.self.invariant (omega arith) in
    let width = block_width fields.width fields.count fields.words.items
    (c.args.test / 64) c.index.result.now c.self.invariant block c.index.ensures in
    let row_len : length row ≡ fields.width = length-map-below _ fields.width in
    let words_len : length c.as_slice-words.result.now ≡ fields.width =
    ap length c.as_slice-words.ensures.value ∙ width in
    let same_words : c.as_slice-words.result.now ≡ get_or words (c.args.test / 64) [] =
    c.as_slice-words.ensures.value ∙ sym (word_lists-read fields.words.items
    (c.args.test / 64) c.index.result.now block c.index.ensures)
    in
    let len : c.resize.new.self.len ≡ length new =
    sym (c.write_digits.auto.text ∙ c.deref_mut.ensures.len) in
    let start : c.len-start.result ≡ length old =
    omega (arith, c.len-start.ensures, c.args.text.now.ok.0) in
    let total : length new ≡ length old + length row + 1 =
    omega (arith, len, start, row_len, c.in_ok-resize.ensures.len) in
    let resized : (k d : ℕ)
    → get_or c.deref_mut.result.now k d ≡ get_or c.resize.new.self.items k d =
    λ k d. ap (λ l. get_or l k d) c.deref_mut.ensures.value in
    ap (λ n. take n (new ++ drop (length new) c.resize.new.self.items)) len
    ∙ take-append_seam new (drop (length new) c.resize.new.self.items)
    ∙ row_pushed old new row total
    (λ k d h. c.write_digits.ensures.others k d (inl (omega (arith, h, start)))
    ∙ resized k d ∙ c.in_ok-resize.ensures.by_index.0 k d (omega (arith, h, start))
    (omega (arith, h, start, c.args.text.now.ok.0))) (λ k d h.
    subst (λ n. get_or new (n + k) d ≡ digit (get_or row k false)) start
    (c.write_digits.ensures.digits k d (omega (arith, h, row_len, words_len))
    ∙ ap (λ l. digit (bit_at (get_or l k 0) (c.args.test % 64) == 1)) same_words
    ∙ sym (ap digit (bit_from_words fields.width words c.args.test k (omega (arith, h, row_len))))))
    (λ d.
    let last : c.len-start.result + length c.as_slice-words.result.now ≡ length old + length row =
    omega (arith, start, words_len, row_len) in
    subst (λ n. get_or new n d ≡ 10) last
    (c.write_digits.ensures.others _ d (inr (omega arith)) ∙ resized _ d
    ∙ c.in_ok-resize.ensures.by_index.1 _ d (search rules)
    (omega (arith, start, c.args.text.now.ok.0)) (omega (arith, start, words_len))))
    ∙ ap (λ test. old ++ row_text test)
    (sym (ap (λ t. get_or t.tests c.args.test []) (sym c.self.view_is)
    ∙ test_from_words fields.width fields.count words c.args.test (omega (arith, count))))
