use Rattle.std.proofs.Common.{◌≡◌, sym, ap, ◌∙◌, subst}
use Rattle.fault_ledger.specs.declared.PieceState.TheVariants as state
use Rattle.fault_ledger.specs.{declared.shared.Remembered.Remembered, Answer.is_hit}
use Rattle.fault_ledger.specs.Seats.{Place, Sitter, IsSeated, EndsClear, Recalls}
use Rattle.fault_ledger.proofs.SeatSteps.{seated_sees, remembers_set}
use Rattle.fault_ledger.proofs.shared.SharedLedger.passes_clear.Goals as goal

pub invariant_of-seat : goal.invariant_of-seat
invariant_of-seat c =
    let i = c.seat.inside in
    let now = c.passes_clear_from-head.new.token in
    let f = c.passes_clear_from-head.ensures in
    let n = c.passes_clear_from-head.result.clear in
    let at : now.place ≡ c.args.self.now = ap (λ (a : Sitter). a.place) f.sees.seat
    ∙ ap (λ (a : Sitter). a.place) c.seat.view_is ∙ c.requires.place in
    let known : Remembered = record { clear = n; hit = c.ends_in_hit-hit.result } in
    let head = subst (λ (p : Place). EndsClear p.shape now.seen c.args.class c.args.end n
    c.passes_clear_from-head.result.next) (sym at) f.head in
    let recalls : Recalls now.place.shape now.seen c.args.class known = record {
      clear = head.clear;
      hit = λ t. let e = c.ends_in_hit-hit.ensures t in let x = head.some (state.Hit e.0) e.1 in
          ap is_hit x.2;
    } in
    let seated = seated_sees i.token now i.worker i.exhausted i.row i.piece i.remembered.items
    c.seat.invariant f.sees in
    subst (IsSeated now i.worker i.exhausted i.row i.piece) (sym c.remember.ensures) (record {
      sitter = seated.sitter;
      worker_is = seated.worker_is;
      exhausted_is = seated.exhausted_is;
      classes_is = seated.classes_is;
      piece_is = seated.piece_is;
      remembers = remembers_set now i.remembered.items c.args.class known seated.remembers recalls;
    })
