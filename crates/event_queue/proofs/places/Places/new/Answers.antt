use Rattle.std.{proofs.Common.{◌≡◌, ◌/◌, ◌+◌, arith, refl, sym, subst}, specs.Prelude.All}
use Rattle.std.proofs.lemmas.List.Elements.{All-replicate}
use Rattle.event_queue.proofs.{Flags.flags_count, PlacesTaken.none_set}
use Rattle.event_queue.proofs.places.Places.new.Goals as goal

pub returns-clause-room : goal.returns-clause-room
returns-clause-room c =
    let count = flags_count c.in_ok-words.words.items in
    omega (arith, count, c.in_ok-words.ensures.len)

pub returns-clause-empty : goal.returns-clause-empty
returns-clause-empty c = none_set c.in_ok-words.words.items
    (subst (All (λ a. a ≡ 0)) (sym (c.in_ok-words.ensures.items_if_clones_equal (λ y e. e)))
    (All-replicate (λ a. a ≡ 0) (c.args.places / 64 + 1) 0 refl))
