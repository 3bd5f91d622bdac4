use Rattle.std.{proofs.Common.{◌≡◌, map, take}, specs.List.flat_map}
use Rattle.input_check.specs.Objects.{error_of, error_text}
use Rattle.input_check.proofs.errors.error_elements.Given as goal

-- the objects of the rows so far were added
abbrev pub invariant-loop-row : goal.invariant-loop-row
invariant-loop-row l = l.text.items ≡ flat_map error_text (map error_of (take l.row-index l.rows))
