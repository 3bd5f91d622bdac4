use Rattle.std.proofs.Common.{sym, ap, ◌∙◌, ℕ, arith}
use Rattle.atomic_table.specs.Table.{Me}
use Rattle.fault_ledger.{specs.declared.words.View.View, proofs.JoinAndPart.joins}
use Rattle.fault_ledger.proofs.{WordGroups.group_place, TokenAsSeat.taken}
use Rattle.fault_ledger.proofs.words.Words.join.Goals as goal

pub join_seat-requires : goal.join_seat-requires
join_seat-requires c =
    let w = c.self.inside.table.shared in
    let seat = c.into_seat.result in
    let at = group_place _ _ _ _ _ _ c.group.view_is c.requires.0 c.self.view_is in
    let t = taken seat.me c.token.view_is c.token.invariant c.requires.1 c.self.view_is
    c.into_seat.ensures.0 (c.into_seat.ensures.2, c.into_seat.ensures.3) in (
      at.0,
      t.table_is,
      c.into_seat.ensures.3,
      (let n = c.self.invariant.0 in omega arith),
      joins w.key _ _ _ _ (at.1 ∙ sym (ap (λ (m : Me ℕ View). m.0.shape) t.me_is)),
    )
