use Rattle.std.proofs.Common.{◌∙◌, ap, sym, subst, Ok, ◌<◌, ℕ, Option, arith, length}
use Rattle.fault_model.specs.Collapse.{Collapsed}
use Rattle.fault_ledger.specs.declared.{Event.Event, Reply.TheVariants.Claimed}
use Rattle.fault_ledger.specs.{Seats.{Makes, Place}, History.block_count, Settled.IsSettledAt}
use Rattle.fault_ledger.proofs.Public.{held_sees, sees_kept}
use Rattle.workers.proofs.SeatCalls.{claimed, exhausted, fewer, given, stopped_holding, works_twice}
use Rattle.workers.proofs.SeatCalls.{settled_works, sees_works}
use Rattle.workers.proofs.piece_worker.work.Goals as goal

pub returns-then-not-pass-clause-works : goal.returns-then-not-pass-clause-works
returns-then-not-pass-clause-works g c =
    let m = c.in-Ok-Piece.ensures.piece c.in-Ok-Piece.class c.in-Ok-Piece.block
    (ap Ok c.in-Ok-Piece.field-0-is) in
    works_twice c.args.job.now c.args.seat.now c.claims.seat c.claim.new.seat
    c.claims.invariant.works (claimed c.args.job.now c.claims.seat c.claim.new.seat _ m.1)

pub returns-then-not-pass-clause-ends : goal.returns-then-not-pass-clause-ends
returns-then-not-pass-clause-ends g c =
    let m = c.in-Ok-Piece.ensures.piece c.in-Ok-Piece.class c.in-Ok-Piece.block
    (ap Ok c.in-Ok-Piece.field-0-is) in
    let n = subst (λ x. Makes c.claims.seat (Event.Claim c.claims.seat.worker)
    (Claimed x) c.claim.new.seat) c.in-Ok-Piece.field-0-is m.1 in
    stopped_holding (g.G.Gate.stops c.args.gate.now) c.claims.seat
    c.claim.new.seat c.in-Ok-Piece.class c.in-Ok-Piece.block n
    (subst (λ w. (g.G.Gate.stops c.args.gate.now).may w c.in-Ok-Piece.class c.in-Ok-Piece.block)
    c.worker-worker.ensures.worker (c.pass.ensures.stopped c.if-not-pass.true))

pub finish_piece-reported-requires-clause-range : goal.finish_piece-reported-requires-clause-range
finish_piece-reported-requires-clause-range g c =
    let class = c.in-Ok-Piece.class in
    let block = c.in-Ok-Piece.block in
    let m = c.in-Ok-Piece.ensures.piece class block (ap Ok c.in-Ok-Piece.field-0-is) in
    let n = subst (λ x. Makes c.claims.seat (Event.Claim c.claims.seat.worker)
    (Claimed x) c.claim.new.seat) c.in-Ok-Piece.field-0-is m.1 in
    let r = given c.claims.seat c.claim.new.seat class block n in
    let place = c.claims.invariant.works.place ∙ c.requires.place in (
      subst (λ (p : Place). class < p.shape.classes) place r.1,
      subst (λ (p : Place). block < block_count p.shape) place r.2,
    )

pub lowest_waiting-lowest-requires-clause-settled :
    goal.lowest_waiting-lowest-requires-clause-settled
lowest_waiting-lowest-requires-clause-settled g c =
    let j = c.args.job.now in
    let m = c.in-Ok-Piece.ensures.piece c.in-Ok-Piece.class c.in-Ok-Piece.block
    (ap Ok c.in-Ok-Piece.field-0-is) in
    settled_works j c.args.ledger.now.shape c.claims.lowest c.claim.new.seat
    c.finish_piece-reported.new.seat c.finish_piece-reported.ensures.works
    (settled_works j c.args.ledger.now.shape c.claims.lowest c.claims.seat c.claim.new.seat
    (claimed j c.claims.seat c.claim.new.seat _ m.1) c.claims.invariant.settled)

pub returns-then-lowest-classes-clause-works : goal.returns-then-lowest-classes-clause-works
returns-then-lowest-classes-clause-works g c =
    let j = c.args.job.now in
    let m = c.in-Ok-Piece.ensures.piece c.in-Ok-Piece.class c.in-Ok-Piece.block
    (ap Ok c.in-Ok-Piece.field-0-is) in
    works_twice j c.args.seat.now c.finish_piece-reported.new.seat c.lowest_waiting-lowest.new.seat
    (works_twice j c.args.seat.now c.claim.new.seat c.finish_piece-reported.new.seat
    (works_twice j c.args.seat.now c.claims.seat c.claim.new.seat c.claims.invariant.works
    (claimed j c.claims.seat c.claim.new.seat _ m.1)) c.finish_piece-reported.ensures.works)
    (sees_works j c.finish_piece-reported.new.seat c.lowest_waiting-lowest.new.seat _
    c.lowest_waiting-lowest.ensures.sees)

pub returns-then-lowest-classes-clause-ends : goal.returns-then-lowest-classes-clause-ends
returns-then-lowest-classes-clause-ends g c =
    let x = sees_kept c.finish_piece-reported.new.seat c.lowest_waiting-lowest.new.seat
    c.lowest_waiting-lowest.ensures.sees in
    let place = x.0 ∙ c.finish_piece-reported.ensures.works.place ∙ c.claim.ensures.kept.0
    ∙ c.claims.invariant.works.place ∙ c.requires.place in (
      held_sees c.finish_piece-reported.new.seat c.lowest_waiting-lowest.new.seat
          c.lowest_waiting-lowest.ensures.sees ∙ c.finish_piece-reported.ensures.free,
      λ class lt.
          let low : class < c.args.ledger.now.shape.classes =
          subst (λ (p : Place). class < p.shape.classes) place lt in
          let s = c.lowest_waiting-lowest.ensures.settled class (omega (
            arith,
            low,
            c.if-lowest-classes.true,
            c.count-classes.ensures,
            ap (λ (x : Collapsed). length x.representative) c.classes.ensures.part,
            c.requires.shape.classes,
          )) in
          subst (λ (p : Place). (at : Option ℕ)
          × IsSettledAt p.shape c.lowest_waiting-lowest.new.seat.seen class at) (sym place) s,
    )

pub claims-smaller-else-lowest-classes : goal.claims-smaller-else-lowest-classes
claims-smaller-else-lowest-classes g c =
    let j = c.args.job.now in
    let m = c.in-Ok-Piece.ensures.piece c.in-Ok-Piece.class c.in-Ok-Piece.block
    (ap Ok c.in-Ok-Piece.field-0-is) in
    let n = subst (λ x. Makes c.claims.seat (Event.Claim c.claims.seat.worker)
    (Claimed x) c.claim.new.seat) c.in-Ok-Piece.field-0-is m.1 in
    fewer j c.claims.seat c.claim.new.seat c.lowest_waiting-lowest.new.seat c.args.ledger.now
    c.in-Ok-Piece.class c.in-Ok-Piece.block (c.claims.invariant.works.place ∙ c.requires.place) n
    (works_twice j c.claim.new.seat c.finish_piece-reported.new.seat
    c.lowest_waiting-lowest.new.seat c.finish_piece-reported.ensures.works
    (sees_works j c.finish_piece-reported.new.seat c.lowest_waiting-lowest.new.seat _
    c.lowest_waiting-lowest.ensures.sees))

pub claims-preserved-else-lowest-classes : goal.claims-preserved-else-lowest-classes
claims-preserved-else-lowest-classes g c =
    let j = c.args.job.now in
    let m = c.in-Ok-Piece.ensures.piece c.in-Ok-Piece.class c.in-Ok-Piece.block
    (ap Ok c.in-Ok-Piece.field-0-is) in
    record {
      works = works_twice j c.args.seat.now c.finish_piece-reported.new.seat
          c.lowest_waiting-lowest.new.seat
          (works_twice j c.args.seat.now c.claim.new.seat c.finish_piece-reported.new.seat
          (works_twice j c.args.seat.now c.claims.seat c.claim.new.seat
          c.claims.invariant.works (claimed j c.claims.seat c.claim.new.seat _ m.1))
          c.finish_piece-reported.ensures.works)
          (sees_works j c.finish_piece-reported.new.seat c.lowest_waiting-lowest.new.seat _
          c.lowest_waiting-lowest.ensures.sees);
      free = held_sees c.finish_piece-reported.new.seat c.lowest_waiting-lowest.new.seat
          c.lowest_waiting-lowest.ensures.sees ∙ c.finish_piece-reported.ensures.free;
      fits = c.finish_piece-reported.ensures.fits;
      range = c.lowest_waiting-lowest.ensures.range;
      settled = c.lowest_waiting-lowest.ensures.settled;
    }

pub claims-smaller : goal.claims-smaller
claims-smaller g c =
    let m = c.in-Ok-Piece.ensures.piece c.in-Ok-Piece.class c.in-Ok-Piece.block
    (ap Ok c.in-Ok-Piece.field-0-is) in
    let n = subst (λ x. Makes c.claims.seat (Event.Claim c.claims.seat.worker)
    (Claimed x) c.claim.new.seat) c.in-Ok-Piece.field-0-is m.1 in
    fewer c.args.job.now c.claims.seat c.claim.new.seat c.finish_piece-reported.new.seat
    c.args.ledger.now c.in-Ok-Piece.class c.in-Ok-Piece.block
    (c.claims.invariant.works.place ∙ c.requires.place) n c.finish_piece-reported.ensures.works

pub claims-preserved : goal.claims-preserved
claims-preserved g c =
    let j = c.args.job.now in
    let m = c.in-Ok-Piece.ensures.piece c.in-Ok-Piece.class c.in-Ok-Piece.block
    (ap Ok c.in-Ok-Piece.field-0-is) in
    record {
      works = works_twice j c.args.seat.now c.claim.new.seat c.finish_piece-reported.new.seat
          (works_twice j c.args.seat.now c.claims.seat c.claim.new.seat
          c.claims.invariant.works (claimed j c.claims.seat c.claim.new.seat _ m.1))
          c.finish_piece-reported.ensures.works;
      free = c.finish_piece-reported.ensures.free;
      fits = c.finish_piece-reported.ensures.fits;
      range = c.claims.invariant.range;
      settled = settled_works j c.args.ledger.now.shape c.claims.lowest c.claim.new.seat
          c.finish_piece-reported.new.seat c.finish_piece-reported.ensures.works
          (settled_works j c.args.ledger.now.shape c.claims.lowest c.claims.seat
          c.claim.new.seat (claimed j c.claims.seat c.claim.new.seat _ m.1)
          c.claims.invariant.settled);
    }

pub returns-in-Ok-Exhausted-clause-works : goal.returns-in-Ok-Exhausted-clause-works
returns-in-Ok-Exhausted-clause-works g c =
    let j = c.args.job.now in
    works_twice j c.args.seat.now c.claims.seat c.claim.new.seat c.claims.invariant.works
    (exhausted j c.claims.seat c.claim.new.seat _ c.worker-worker.ensures.sitter
    (λ e. (c.in-Ok-Exhausted.ensures.exhausted (ap Ok c.in-Ok-Exhausted.field-0-is) e).0)
    (λ e. (c.in-Ok-Exhausted.ensures.again e).1))
