use Rattle.std.proofs.Common.{◌≡◌, ◌+◌, ◌/◌, ◌++◌, length, get_or, ap, sym, subst, ◌∙◌, All, arith}
use Rattle.std.specs.Int.{bit_at}
use Rattle.patterns.{specs.Words.{AreWords, tests_of}, proofs.TestWords.{word_lists, seen-count}}
use Rattle.patterns.proofs.{AddedTest.{room_block, room_width}, Octets.word_lists-set}
use Rattle.patterns.proofs.Octets.{AreWords-moved, Moved, room_lanes, tests_of-moved}
use Rattle.patterns.proofs.test_text.Tests.take.Goals.{After-merge_bytes}
use Rattle.patterns.proofs.test_text.Tests.take.Goals as goal

pub merge_bytes-requires-clause-sources : goal.merge_bytes-requires-clause-sources
merge_bytes-requires-clause-sources c =
    let fields = c.self.inside in
    ap length c.deref_mut.ensures.value ∙ room_width fields.width fields.count
    (word_lists fields.words.items) c.make_room.new.rows.items c.index_mut.result.now
    c.in_ok-make_room.ensures.room c.index_mut.ensures.value
    ∙ ap (λ t. t.width) c.self.view_is ∙ sym c.requires.width ∙ sym c.bytes.ensures.count

pub merge_bytes-requires-clause-clear : goal.merge_bytes-requires-clause-clear
merge_bytes-requires-clause-clear c = λ source k late in_word.
    let fields = c.self.inside in
    ap (λ row. bit_at (get_or row source 0) k) c.deref_mut.ensures.value
    ∙ room_lanes fields.width fields.count (word_lists fields.words.items)
    c.make_room.new.rows.items c.index_mut.result.now c.in_ok-make_room.ensures.room
    c.index_mut.ensures.value c.self.invariant source k late in_word

len : (c : After-merge_bytes) → length c.merge_bytes.new.words ≡ length c.index_mut.result.now.items
len c = c.merge_bytes.auto.words ∙ ap length c.deref_mut.ensures.value

own_width : (c : After-merge_bytes) → c.args.octet.now.width ≡ c.self.inside.width
own_width c = c.requires.width ∙ sym (ap (λ t. t.width) c.self.view_is)

moved : (c : After-merge_bytes) → Moved c.self.inside.width c.self.inside.count c.count-moved.result
    (word_lists c.self.inside.words.items) (word_lists c.make_room.new.rows.items)
    c.args.octet.now.tests c.bytes.result.now c.merge_bytes.new.words
moved c =
    let fields = c.self.inside in
    let count = seen-count fields.width fields.count fields.words.items c.args.self.now
    c.self.view_is in
    let block = room_block fields.width fields.count (word_lists fields.words.items)
    c.make_room.new.rows.items c.index_mut.result.now c.in_ok-make_room.ensures.room
    c.index_mut.ensures.value in
    record {
      are = c.self.invariant;
      room = c.in_ok-make_room.ensures.room;
      count = sym c.count-moved.ensures.count;
      each = subst (λ w. All (λ test. length test ≡ w) c.args.octet.now.tests) (own_width c)
          c.bytes.ensures.list.each;
      some = omega arith;
      fits = omega (arith, count, c.requires.fits, c.count-moved.ensures.count);
      limit = omega (arith, count, c.requires.room, c.count-moved.ensures.count);
      is = λ source h. c.bytes.ensures.bytes source (omega (arith, h, own_width c));
      len = len c ∙ room_width fields.width fields.count
          (word_lists fields.words.items) c.make_room.new.rows.items c.index_mut.result.now
          c.in_ok-make_room.ensures.room c.index_mut.ensures.value;
      low = λ source k h. c.merge_bytes.ensures.low source k h
          ∙ ap (λ row. bit_at (get_or row source 0) k) (c.deref_mut.ensures.value ∙ sym block);
      high = λ source k h in_word. c.merge_bytes.ensures.merged source k
          (omega (arith, h, own_width c, c.bytes.ensures.count)) in_word;
    }

pub invariant_of-self-2 : goal.invariant_of-self-2
invariant_of-self-2 c =
    let fields = c.self.inside in
    let at = (goal.at.invariant_of-self-2 c).After-merge_bytes in
    let rows = c.make_room.new.rows.items in
    subst (AreWords fields.width (fields.count + c.count-moved.result))
    (sym (word_lists-set rows (fields.count / 64) c.index_mut.result.now c.merge_bytes.new.words
    (len at))) (AreWords-moved fields.width fields.count c.count-moved.result
    (word_lists fields.words.items) (word_lists rows) c.args.octet.now.tests c.bytes.result.now
    c.merge_bytes.new.words (moved at))

pub returns-clause-taken : goal.returns-clause-taken
returns-clause-taken c =
    let fields = c.self.inside in
    let at = (goal.at.returns-clause-taken c).After-merge_bytes in
    let rows = c.make_room.new.rows.items in
    let more = c.args.octet.now.tests in
    ap (λ tests. record { width = fields.width; tests = tests })
    (ap (tests_of fields.width (fields.count + c.count-moved.result))
    (word_lists-set rows (fields.count / 64) c.index_mut.result.now c.merge_bytes.new.words
    (len at)) ∙ tests_of-moved fields.width fields.count c.count-moved.result
    (word_lists fields.words.items) (word_lists rows) more c.bytes.result.now
    c.merge_bytes.new.words (moved at))
    ∙ ap (λ t. record { width = t.width; tests = t.tests ++ more }) c.self.view_is
