use Rattle.std.proofs.Common.{ℕ, sym, ap, ◌∙◌, arith}
use Rattle.atomic_table.specs.Table.{Me}
use Rattle.fault_ledger.{specs.declared.words.View.View, proofs.JoinAndPart.{splits, joins}}
use Rattle.fault_ledger.proofs.{TokenAsSeat.taken, JoinedLooks.both_allowed}
use Rattle.fault_ledger.proofs.words.Words.meet.Goals as goal

pub join_seat-requires : goal.join_seat-requires
join_seat-requires c =
    let w = c.self.inside.table.shared in
    let x = c.take_seat-joining.result in
    let y = c.take_seat-both.result in
    let first = taken x.me c.first.view_is c.first.invariant c.requires.0 c.self.view_is
    c.take_seat-joining.ensures.place.0 c.take_seat-joining.ensures.view in
    let second = taken y.me c.second.view_is c.second.invariant c.requires.1 c.self.view_is
    c.take_seat-both.ensures.place.0 c.take_seat-both.ensures.view in (
      second.table_is,
      first.table_is,
      c.take_seat-joining.ensures.view.1,
      (let n = c.self.invariant.0 in omega arith),
      joins w.key _ _ _ _ (ap (λ (m : Me ℕ View). m.0.shape) second.me_is
          ∙ sym (ap (λ (m : Me ℕ View). m.0.shape) first.me_is)),
    )

pub load-requires : goal.load-requires
load-requires c =
    let w = c.self.inside.table.shared in
    let x = c.take_seat-joining.result in
    let y = c.take_seat-both.result in
    let first = taken x.me c.first.view_is c.first.invariant c.requires.0 c.self.view_is
    c.take_seat-joining.ensures.place.0 c.take_seat-joining.ensures.view in
    let second = taken y.me c.second.view_is c.second.invariant c.requires.1 c.self.view_is
    c.take_seat-both.ensures.place.0 c.take_seat-both.ensures.view in (
      c.join_seat.ensures.0 ∙ second.table_is,
      (let n = c.self.invariant.0 in omega arith),
      both_allowed w.key w.table_id c.args.first.now c.args.second.now x.table_id y.table_id
          x.me y.me c.join_seat.new.seat.me first second c.join_seat.ensures.2 w.table_id.slots
          c.join_seat.new.seat.id,
    )

pub split_seat-parted-requires : goal.split_seat-parted-requires
split_seat-parted-requires c =
    let w = c.self.inside.table.shared in
    let y = c.take_seat-both.result in
    let second = taken y.me c.second.view_is c.second.invariant c.requires.1 c.self.view_is
    c.take_seat-both.ensures.place.0 c.take_seat-both.ensures.view in (
      c.load.ensures.0 ∙ c.join_seat.ensures.0 ∙ second.table_is,
      (let n = c.self.invariant.0 in omega arith),
      splits w.key _ _,
    )
