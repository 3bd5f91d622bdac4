use Rattle.std.proofs.{Common.{◌+◌, ◌*◌, ◌∙◌, ap, sym, arith}, lemmas.List.get_or_past}
use Rattle.std.{specs.Prelude.{[], false, slice_index_or}, proofs.lemmas.Nat.Bits.bit_at-zero}
use Rattle.patterns.specs.Tests.{as_number}
use Rattle.flat_circuit.proofs.words.word_at.Goals as goal

pub returns-else-block-count : goal.returns-else-block-count
returns-else-block-count c = λ k lt.
    let tests = c.args.tests.now.tests in
    let past = c.if-block-count.false in
    let is = c.requires.count in
    let none = get_or_past tests (64 * c.args.block + k) [] (omega (arith, past, is)) in
    bit_at-zero k ∙ sym (ap (λ t. as_number (slice_index_or t c.args.source false)) none)
