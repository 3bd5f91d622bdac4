use Rattle.std.proofs.Common.{◌≡◌, ◌≤◌, ◌++◌, ℕ, Bool, List, Some, length}
use Rattle.std.specs.Prelude.{slice_get}
use Rattle.generator.{specs.Keeping.{AreAmong, IsFirstWanted, IsWanted}, proofs.KeptTests.IsBegun}
use Rattle.generator.proofs.keeping.add_wanted.Given as goal

abbrev pub invariant-loop-test : goal.invariant-loop-test
invariant-loop-test l = record {
  width : l.kept.width ≡ l.fn.kept.width;
  few : length l.kept.tests ≤ l.room;
  stay : (k : ℕ) (test : List Bool) → slice_get l.fn.kept.tests k ≡ Some test
      → slice_get l.kept.tests k ≡ Some test;
  among : AreAmong l.kept.tests (l.fn.kept.tests ++ l.tests.tests);
  none : ((t : ℕ) → IsWanted l.marks l.pairs t → ⊥) → l.kept.tests ≡ l.fn.kept.tests;
  begun : length l.fn.kept.tests ≡ 0 → 2 ≤ l.room → (s : ℕ) → IsFirstWanted l.marks l.pairs s
      → IsBegun l.tests.tests l.marks l.pairs s l.test l.kept.tests;
}
