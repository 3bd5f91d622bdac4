use Rattle.std.proofs.Common.{◌≡◌, ◌≢◌, ℕ, ◌%◌, length, get_or, ap, sym, ◌∙◌, arith}
use Rattle.std.specs.Int.{bit_at}
use Rattle.patterns.proofs.TestWords.{word_lists, seen-count}
use Rattle.patterns.proofs.AddedTest.{room_width, room_clear, AreWords-written, tests_of-written}
use Rattle.patterns.proofs.test_text.Tests.add.Goals as goal
use Rattle.patterns.proofs.test_text.Tests.add.Goals.{After-set_lane}

pub set_lane-requires-clause-sources : goal.set_lane-requires-clause-sources
set_lane-requires-clause-sources c =
    let fields = c.self.inside in
    ap length c.deref_mut.ensures.value ∙ room_width fields.width fields.count
    (word_lists fields.words.items) c.make_room.new.rows.items c.index_mut.result.now
    c.in_ok-make_room.ensures.room c.index_mut.ensures.value
    ∙ ap (λ t. t.width) c.self.view_is ∙ sym c.requires.width

pub set_lane-requires-clause-clear : goal.set_lane-requires-clause-clear
set_lane-requires-clause-clear c = λ source.
    let fields = c.self.inside in
    ap (λ row. bit_at (get_or row source 0) (fields.count % 64)) c.deref_mut.ensures.value
    ∙ room_clear fields.width fields.count
    (word_lists fields.words.items) c.make_room.new.rows.items c.index_mut.result.now
    c.in_ok-make_room.ensures.room c.index_mut.ensures.value c.self.invariant source

-- setting a lane leaves the others, and the number of words
other_lanes : (c : After-set_lane) → (source k : ℕ) → k ≢ c.self.inside.count % 64
    → bit_at (get_or c.set_lane.new.words source 0) k
    ≡ bit_at (get_or c.index_mut.result.now.items source 0) k
other_lanes c source k other = c.set_lane.ensures.others source k other
    ∙ ap (λ row. bit_at (get_or row source 0) k) c.deref_mut.ensures.value

same_length : (c : After-set_lane)
    → length c.set_lane.new.words ≡ length c.index_mut.result.now.items
same_length c = c.set_lane.auto.words ∙ ap length c.deref_mut.ensures.value

row_width : (c : After-set_lane) → length c.args.row.now ≡ c.self.inside.width
row_width c = c.requires.width ∙ sym (ap (λ t. t.width) c.self.view_is)

pub invariant_of-self-2 : goal.invariant_of-self-2
invariant_of-self-2 c =
    let fields = c.self.inside in
    let at = (goal.at.invariant_of-self-2 c).After-set_lane in
    let count =
    seen-count fields.width fields.count fields.words.items c.args.self.now c.self.view_is in
    AreWords-written fields.width fields.count
    (word_lists fields.words.items) c.make_room.new.rows.items c.index_mut.result.now
    c.in_ok-make_room.ensures.room c.index_mut.ensures.value c.args.row.now c.set_lane.new.words
    (same_length at) c.set_lane.ensures.set (other_lanes at) c.self.invariant (row_width at)
    (omega arith)

pub returns-clause-pushed : goal.returns-clause-pushed
returns-clause-pushed c =
    let fields = c.self.inside in
    let at = (goal.at.returns-clause-pushed c).After-set_lane in
    let count =
    seen-count fields.width fields.count fields.words.items c.args.self.now c.self.view_is in
    rw (← c.self.view_is) (ap (λ tests. record { width = fields.width; tests = tests })
    (tests_of-written fields.width fields.count
    (word_lists fields.words.items) c.make_room.new.rows.items c.index_mut.result.now
    c.in_ok-make_room.ensures.room c.index_mut.ensures.value c.args.row.now c.set_lane.new.words
    (same_length at) c.set_lane.ensures.set (other_lanes at) c.self.invariant (row_width at)
    (omega arith)))
