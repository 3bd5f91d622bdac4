use Rattle.std.proofs.Common.{◌≡◌, List, ◌++◌, map, length}
use Rattle.fault_ledger.specs.{Seats.Sitter, Words.post_of}
use Rattle.fault_ledger.proofs.shared.group_of.Given as goal

abbrev pub invariant-loop-seat : goal.invariant-loop-seat
invariant-loop-seat l = (joined : List Sitter) × (l.fn.seats.items ≡ l.seats.items ++ joined)
    × (l.group.place ≡ l.words) × (l.group.posts ≡ map post_of joined)

abbrev pub decreases-loop-seat : goal.decreases-loop-seat
decreases-loop-seat l = length l.seats.items
