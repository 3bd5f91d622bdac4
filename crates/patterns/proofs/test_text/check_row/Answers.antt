use Rattle.std.proofs.Common.{rules}
use Rattle.patterns.proofs.test_text.check_row.Goals as goal

pub returns-then-not-are_bits-clause-refused : goal.returns-then-not-are_bits-clause-refused
returns-then-not-are_bits-clause-refused c = search rules

pub returns-then-row-width-clause-refused : goal.returns-then-row-width-clause-refused
returns-then-row-width-clause-refused c = search rules
