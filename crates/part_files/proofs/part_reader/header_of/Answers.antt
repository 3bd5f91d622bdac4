use Rattle.std.{proofs.Common.arith, specs.Prelude.codes}
use Rattle.part_files.proofs.{PartWords.field_lacks, PartHeads.{second_field, words_in_head}}
use Rattle.part_files.proofs.PartHeads.{are_words, first_field, head_read, no_first, no_second}
use Rattle.part_files.proofs.part_reader.header_of.Goals as goal

pub returns-in_err-part : goal.returns-in_err-part
returns-in_err-part c = rw c.from_residual.ensures (λ h ok. no_first h _ ok c.in_err-part.ensures)

pub returns-in_err-parts : goal.returns-in_err-parts
returns-in_err-parts c = rw c.from_residual-in_err-parts.ensures (λ h ok e.
    no_second h _ ok c.in_err-parts.ensures
    (first_field h _ _ _ ok e c.in_ok-part.ensures.1 c.in_ok-part.ensures.2).1)

pub words_of-requires : goal.words_of-requires
words_of-requires c =
    let behind = field_lacks 10 (codes "part ") c.in_ok-part.part.now c.in_ok-part.rest.now _
    c.requires c.in_ok-part.ensures.2 in
    (field_lacks 10 (codes "of ") c.in_ok-parts.parts.now c.in_ok-parts.rest.now _ behind.1
    c.in_ok-parts.ensures.2).1

pub returns-in_err-words : goal.returns-in_err-words
returns-in_err-words c = rw c.from_residual-in_err-words.ensures (λ h ok e.
    let first = first_field h _ _ _ ok e c.in_ok-part.ensures.1 c.in_ok-part.ensures.2 in
    let second = second_field h _ _ _ ok first.1 c.in_ok-parts.ensures.1 c.in_ok-parts.ensures.2 in
    c.in_err-words.ensures (words_in_head h) (are_words h ok) second.1)

pub returns-in_err-part-2 : goal.returns-in_err-part-2
returns-in_err-part-2 c = rw c.from_residual-in_err-part-2.ensures (λ h ok e.
    let first = first_field h _ _ _ ok e c.in_ok-part.ensures.1 c.in_ok-part.ensures.2 in
    let second = second_field h _ _ _ ok first.1 c.in_ok-parts.ensures.1 c.in_ok-parts.ensures.2 in
    c.in_err-part-2.ensures h.part h.parts ok.below ok.few first.0 second.0)

pub returns : goal.returns
returns c =
    let place = c.in_ok-part-2.ensures in
    head_read (record {
      part = c.in_ok-part-2.part;
      parts = c.in_ok-part-2.parts;
      model = c.in_ok-words.words.model.now;
      rule = c.in_ok-words.words.rule.now;
      bench = c.in_ok-words.words.bench.now;
      tests = c.in_ok-words.words.tests.now;
    }) _ _ _ _ _ place.0 (omega arith) c.in_ok-words.ensures.0 c.in_ok-part.ensures.2
    c.in_ok-parts.ensures.2 c.in_ok-words.ensures.1 place.1 place.2
