use Rattle.std.{proofs.Common.{◌≡◌, take}, specs.List.list_all}
use Rattle.text_lines.specs.Rows.{is_bit}
use Rattle.text_lines.proofs.rows.are_bits.Given as goal

abbrev pub invariant-loop-byte : goal.invariant-loop-byte
invariant-loop-byte l = l.all ≡ list_all is_bit (take l.byte-index l.bytes)
