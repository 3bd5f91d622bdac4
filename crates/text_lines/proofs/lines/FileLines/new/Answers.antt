use Rattle.std.proofs.Common.{◌≡◌, ◌+◌, ◌≤◌, length, arith}
use Rattle.text_lines.proofs.FirstLine.{few_lines}
use Rattle.text_lines.proofs.lines.FileLines.new.Goals as goal

pub returns-clause-few : goal.returns-clause-few
returns-clause-few c = few_lines c.args.text.now
