use Rattle.std.proofs.Common.{◌≡◌, ◌+◌, ◌%◌, ◌<◌, ◌≤◌, ◌++◌, length}
use Rattle.std.specs.List.{filter_map, enumerate_from}
use Rattle.patterns.specs.{Tests.{max_tests, test_fault}, LaterRows.{errors_after, tests_of_rows}}
use Rattle.text_lines.specs.Reading.{rows_left}
use Rattle.patterns.proofs.test_text.read_rows.Given as goal

abbrev pub invariant-loop-row : goal.invariant-loop-row
invariant-loop-row l = record {
  faults : errors_after l.fn.before (rows_left l.fn.rows) ≡ filter_map (test_fault l.width)
      (enumerate_from (length l.tests.tests + length l.octet.tests) (rows_left l.row-iterator));
  width : l.tests.width ≡ l.width;
  same : l.width ≡ l.fn.before.width;
  octet : l.octet.width ≡ l.width;
  few : length l.tests.tests % 8 + length l.octet.tests < 8;
  limit : length l.tests.tests + length l.octet.tests ≤ max_tests;
  tests : (l.tests.tests ++ l.octet.tests) ++ tests_of_rows (rows_left l.row-iterator)
      ≡ l.fn.before.tests ++ tests_of_rows (rows_left l.fn.rows);
}
