-- Lemmas on numbers below a bound, as the numbers of tests and blocks. Proofs of the crates above
-- cite only these.
pub use Rattle.patterns.proofs.NumbersBelow.{get_or-below, get_or-map-below, length-below}
pub use Rattle.patterns.proofs.NumbersBelow.{length-map-below, map-below_same}
-- the tests of rows after others
pub use Rattle.patterns.proofs.CutTests.{HasTests-behind, HasTests-none, bits, count_is}
pub use Rattle.patterns.proofs.CutTests.{refused-behind}
pub use Rattle.patterns.proofs.OneAnswer.{has_tests_list}
