use Rattle.std.{proofs.Common.{◌≡◌, ◌≤◌, take}, specs.Prelude.count_by}
use Rattle.text_lines.specs.Lines.{ends_line}
use Rattle.text_lines.proofs.rows.count_line_feeds.Given as goal

abbrev pub invariant-loop-byte : goal.invariant-loop-byte
invariant-loop-byte l = record {
  count : l.count ≡ count_by ends_line (take l.byte-index l.bytes);
  few : l.count ≤ l.byte-index;
}
