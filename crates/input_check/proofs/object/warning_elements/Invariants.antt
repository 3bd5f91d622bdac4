use Rattle.std.{proofs.Common.{◌≡◌, map, string_bytes, take}, specs.List.flat_map}
use Rattle.input_check.specs.Objects.{warning_text}
use Rattle.input_check.proofs.object.warning_elements.Given as goal

-- the strings of the warnings so far were added
abbrev pub invariant-loop-warning : goal.invariant-loop-warning
invariant-loop-warning l = l.text.items
    ≡ flat_map warning_text (map string_bytes (take l.warning-index l.warnings))
