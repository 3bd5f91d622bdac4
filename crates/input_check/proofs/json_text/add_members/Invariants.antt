use Rattle.std.{proofs.Common.{◌≡◌, ◌++◌, take}, specs.List.flat_map}
use Rattle.input_check.specs.Objects.{member_text}
use Rattle.input_check.proofs.json_text.add_members.Given as goal

-- the members so far were added
abbrev pub invariant-loop-member : goal.invariant-loop-member
invariant-loop-member l = l.text.items ≡ l.fn.text.items
    ++ flat_map (λ m. member_text l.before (m.name.now, m.number)) (take l.member-index l.members)
