use Rattle.std.proofs.Common.{[], ◌∷◌, ◌++◌, ap, ◌∙◌, append_assoc, rules}
use Rattle.fault_ledger.{specs.Seats.Sitter, proofs.AllSeats.seat_place}
use Rattle.fault_ledger.proofs.shared.group_of.Goals as goal

pub join-group-requires : goal.join-group-requires
join-group-requires c =
    let i = c.loop-seat.invariant in
    let left = c.pop-in-loop-seat.new.self.items in
    let a = c.in-Some-pop.seat in
    let e = i.1 ∙ ap (λ xs. xs ++ i.0) c.in-Some-pop.ensures.items
    ∙ append_assoc left (a ∷ []) i.0 in (
      i.2,
      ap (λ (x : Sitter). x.place) c.token_of-in-Some-pop.ensures
          ∙ seat_place c.args.words.now c.args.seats.items left i.0 a c.requires.places e,
    )

pub loop-seat-preserved : goal.loop-seat-preserved
loop-seat-preserved c =
    let i = c.loop-seat.invariant in
    let left = c.pop-in-loop-seat.new.self.items in
    let a = c.in-Some-pop.seat in
    let e = i.1 ∙ ap (λ xs. xs ++ i.0) c.in-Some-pop.ensures.items
    ∙ append_assoc left (a ∷ []) i.0 in (a ∷ i.0, e, search rules, search rules)
