use Rattle.std.proofs.Common.{◌≡◌, map, ap, sym, ◌∙◌, subst}
use Rattle.fault_ledger.specs.{declared.Shape.Shape, declared.words.Post.Post, Answer.IsLegal}
use Rattle.fault_ledger.specs.{History.{ContinuesWithout, states_of}, Seats.{Place, closed_of}}
use Rattle.fault_ledger.{specs.Words.{ForEach, state_at}, proofs.AllSeats.of_each}
use Rattle.fault_ledger.proofs.shared.SharedLedger.close.Goals as goal

pub returns-clause-closed : goal.returns-clause-closed
returns-clause-closed c =
    let s = c.args.self.shape in
    let e = c.in_ok-codes.ensures in
    let h = e.0 in
    let same : c.self.inside.words.shape ≡ s = ap (λ (x : Place). x.shape) c.self.view_is in
    let P : Post → Type 0 = λ p. ContinuesWithout p.worker h p.seen in (
      h,
      subst (λ (x : Shape). IsLegal x h) same e.1,
      of_each P c.args.seats.items (subst (ForEach P) c.group_of-group.ensures.1 e.2),
      c.in_ok-closed.ensures ∙ ap (λ (x : Shape).
          closed_of x (map state_at c.in_ok-codes.codes.items)) (sym c.self.invariant ∙ same)
          ∙ ap (closed_of s) (e.3 ∙ ap (λ (x : Shape). states_of x h) same),
    )
