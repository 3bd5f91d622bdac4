use Rattle.std.proofs.Common.{◌≡◌, ◌∙◌, ap, arith, drop, length, subst, sym}
use Rattle.std.specs.Prelude.{None, slice_index_or}
use Rattle.region_sim.specs.KnownWords.{AreMarked, known_words}
use Rattle.region_sim.proofs.KnownWords.{known_count, none_known, written}
use Rattle.region_sim.proofs.known_words.KnownWords.forget.Goals as goal

pub invariant_of-self : goal.invariant_of-self
invariant_of-self c =
    let own = c.self.inside in
    let marks = c.next_unit-self-inside.new.marks in
    let count : length marks ≡ length own.words.items =
    c.next_unit-self-inside.ensures.room ∙ (ap length c.deref_mut.ensures.value
    ∙ c.self.invariant.count) in
    let whole = written own.marks.len marks (drop (length marks) own.marks.items)
    (count ∙ (sym c.self.invariant.count ∙ sym own.marks.ok.0)) in
    subst (λ l. AreMarked c.next_unit-self-inside.result l own.words.items) (sym whole) (record {
      count = count;
      some = (let low = c.next_unit-self-inside.ensures.later 0 in omega (arith, low));
      none_later = λ s. (let low = c.next_unit-self-inside.ensures.later s in omega (arith, low));
    })

pub returns-clause-room : goal.returns-clause-room
returns-clause-room c =
    let own = c.self.inside in
    let unit = c.next_unit-self-inside.result in
    let marks = c.next_unit-self-inside.new.marks in
    let count : length marks ≡ length own.words.items =
    c.next_unit-self-inside.ensures.room ∙ (ap length c.deref_mut.ensures.value
    ∙ c.self.invariant.count) in
    let whole = written own.marks.len marks (drop (length marks) own.marks.items)
    (count ∙ (sym c.self.invariant.count ∙ sym own.marks.ok.0)) in
    ap (λ l. length (known_words unit l own.words.items)) whole
    ∙ (known_count unit marks own.words.items count
    ∙ (sym (known_count own.unit own.marks.items own.words.items c.self.invariant.count)
    ∙ ap length c.self.view_is))

pub returns-clause-none : goal.returns-clause-none
returns-clause-none c = λ signal.
    let own = c.self.inside in
    let unit = c.next_unit-self-inside.result in
    let marks = c.next_unit-self-inside.new.marks in
    let count : length marks ≡ length own.words.items =
    c.next_unit-self-inside.ensures.room ∙ (ap length c.deref_mut.ensures.value
    ∙ c.self.invariant.count) in
    let whole = written own.marks.len marks (drop (length marks) own.marks.items)
    (count ∙ (sym c.self.invariant.count ∙ sym own.marks.ok.0)) in
    ap (λ l. slice_index_or (known_words unit l own.words.items) signal None) whole
    ∙ none_known unit marks own.words.items signal
    (λ t lt same. (let later = c.next_unit-self-inside.ensures.later t in
    omega (arith, same, later)))
