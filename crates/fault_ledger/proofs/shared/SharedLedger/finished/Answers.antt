use Rattle.std.proofs.Common.{◌≡◌, ◌⊎◌, ⊎_elim, refl, ℕ, ◌<◌, ◌≤◌, Option, sym, ap, ◌∙◌, subst}
use Rattle.std.proofs.Common.{arith, below_more}
use Rattle.fault_ledger.specs.{declared.Shape.Shape, History.{block_count, piece_count}}
use Rattle.fault_ledger.specs.{Settled.{status, IsSettledAt}, Seats.{Place, Sitter, IsSitter}}
use Rattle.fault_ledger.proofs.AllSettled.{finish-waits, finish-all, finish-none}
use Rattle.fault_ledger.proofs.SeatSteps.{sees_same, sees_twice, sees_kept}
use Rattle.fault_ledger.proofs.ClassLooks.{settled_stays}
use Rattle.fault_ledger.proofs.shared.SharedLedger.finished.Goals.{After-classes-classes}
use Rattle.fault_ledger.proofs.shared.SharedLedger.finished.Goals as goal

-- the seat knows the number of classes
count : (c : After-classes-classes) → c.classes-classes.result ≡ c.args.self.now.shape.classes
count c = c.classes-classes.ensures ∙ c.seat.invariant.classes_is
    ∙ ap (λ (x : Sitter). x.place.shape.classes) c.seat.view_is
    ∙ ap (λ (x : Place). x.shape.classes) c.requires

pub returns-then-pieces-eq0-clause-seen : goal.returns-then-pieces-eq0-clause-seen
returns-then-pieces-eq0-clause-seen c =
    sees_same c.args.seat.now (subst IsSitter c.seat.view_is c.seat.invariant.sitter)

pub returns-then-pieces-eq0-clause-finish : goal.returns-then-pieces-eq0-clause-finish
returns-then-pieces-eq0-clause-finish c =
    let is : c.self.inside.shape ≡ c.args.self.now.shape = sym c.self.invariant
    ∙ ap (λ (x : Place). x.shape) c.self.view_is in
    let none : piece_count c.self.inside.shape ≡ 0 =
    (let a = c.pieces.ensures in let b = c.if-pieces-eq0.true in omega arith) in
    sym (finish-none c.args.self.now.shape c.args.seat.now.seen
    (subst (λ (x : Shape). piece_count x ≡ 0) is none))

pub loop-class-init : goal.loop-class-init
loop-class-init c = record {
  sees = sees_same c.args.seat.now (subst IsSitter c.seat.view_is c.seat.invariant.sitter);
  still = λ _. refl;
  settled = λ k l. absurd (omega arith);
}

pub status-requires : goal.status-requires
status-requires c = record {
  place = ap (λ (x : Sitter). x.place) c.loop-class.invariant.sees.seat ∙ c.requires;
  range = let e = count (goal.at.status-requires c).After-classes-classes in
      let l = c.loop-class-test.true in omega arith;
}

pub returns-in-Waiting : goal.returns-in-Waiting
returns-in-Waiting c =
    let a = c.args.seat.now in
    let b = c.loop-class.seat in
    let d = c.status.new.seat in
    let s = c.args.self.now.shape in
    let f = c.status.ensures in
    let within : c.loop-class.class < s.classes =
    (let e = count (goal.at.returns-in-Waiting c).After-classes-classes in
    let l = c.loop-class-test.true in omega arith) in
    let sees = sees_twice a b d c.loop-class.invariant.sees f.seen in
    record {
      kept = sees_kept a d sees;
      seen = sees;
      finish =
          sym (finish-waits (status s d.seen) s.classes c.loop-class.class c.in-Waiting.block within
          (λ k l. let e = c.loop-class.invariant.settled k l in
          (e.0, settled_stays s k b.worker e.0 d.seen b.seen f.seen.newer e.1))
          (sym f.status ∙ c.in-Waiting.is));
      no_piece = λ (none : (s.classes ≡ 0) ⊎ (block_count s ≡ 0)).
          let blocks : block_count s ≡ 0 = ⊎_elim (λ (e : s.classes ≡ 0).
          absurd (omega (arith, e, within))) (λ (e : block_count s ≡ 0). e) none in
          f.no_block blocks ∙ c.loop-class.invariant.still none;
    }

pub loop-class-preserved : goal.loop-class-preserved
loop-class-preserved c =
    let b = c.loop-class.seat in
    let d = c.status.new.seat in
    let s = c.args.self.now.shape in
    let f = c.status.ensures in
    let within : c.loop-class.class < s.classes =
    (let e = count (goal.at.loop-class-preserved c).After-classes-classes in
    let l = c.loop-class-test.true in omega arith) in
    record {
      sees = sees_twice c.args.seat.now b d c.loop-class.invariant.sees f.seen;
      still = λ (none : (s.classes ≡ 0) ⊎ (block_count s ≡ 0)).
          let blocks : block_count s ≡ 0 = ⊎_elim (λ (e : s.classes ≡ 0).
          absurd (omega (arith, e, within))) (λ (e : block_count s ≡ 0). e) none in
          f.no_block blocks ∙ c.loop-class.invariant.still none;
      settled = below_more (λ k. (at : Option ℕ) × IsSettledAt s d.seen k at) c.loop-class.class
          (λ k l. let e = c.loop-class.invariant.settled k l in
          (e.0, settled_stays s k b.worker e.0 d.seen b.seen f.seen.newer e.1))
          (c.in_default.field-0, sym f.status ∙ c.in_default.is);
    }

pub returns : goal.returns
returns c =
    let s = c.args.self.now.shape in
    let sees = c.loop-class.invariant.sees in
    let all : s.classes ≤ c.loop-class.class =
    (let e = count (goal.at.returns c).After-classes-classes in
    let l = c.loop-class-test.false in omega arith) in
    record {
      kept = sees_kept c.args.seat.now c.loop-class.seat sees;
      seen = sees;
      finish = sym (finish-all (status s c.loop-class.seat.seen) s.classes
          (λ k l. c.loop-class.invariant.settled k (omega arith)));
      no_piece = c.loop-class.invariant.still;
    }
