use Rattle.std.proofs.Common.{◌≡◌, ◌≤◌, true, false, sym, ap, ◌∙◌, subst, arith, below_more}
use Rattle.fault_ledger.specs.{declared.Shape.Shape, History.{piece_at, entry}, Answer.is_hit}
use Rattle.fault_ledger.{specs.Seats.Place, proofs.SeatSteps.sees_twice}
use Rattle.fault_ledger.proofs.ClassLooks.{not_hit, no_hit_before}
use Rattle.fault_ledger.proofs.shared.SharedLedger.finds_hit.Goals as goal

pub returns-in-Hit-clause-sees : goal.returns-in-Hit-clause-sees
returns-in-Hit-clause-sees c = sees_twice c.args.token.now c.loop-block.token c.look.new.token
    c.loop-block.invariant.sees c.look.ensures.seen

pub returns-in-Hit-clause-found : goal.returns-in-Hit-clause-found
returns-in-Hit-clause-found c = λ _.
    let h = c.look.new.token.seen in
    let n = c.loop-block.block in
    let is : c.self.inside.shape ≡ c.args.self.now.shape = sym c.self.invariant
    ∙ ap (λ (x : Place). x.shape) c.self.view_is in (
      n,
      c.loop-block-test.true,
      subst (λ (x : Shape). is_hit (entry (piece_at x c.args.class n) h)
          ≡ true) is (ap is_hit (sym c.look.ensures.state ∙ c.in-Hit.is)),
    )

pub loop-block-preserved : goal.loop-block-preserved
loop-block-preserved c =
    let a = c.args.token.now in
    let d = c.look.new.token in
    let n = c.loop-block.block in
    let class = c.args.class in
    let is : c.self.inside.shape ≡ c.args.self.now.shape = sym c.self.invariant
    ∙ ap (λ (x : Place). x.shape) c.self.view_is in
    let sees = sees_twice a c.loop-block.token d c.loop-block.invariant.sees c.look.ensures.seen in
    let none = subst (λ (x : Shape). is_hit (entry (piece_at x class n) d.seen) ≡ false) is
    (ap is_hit (sym c.look.ensures.state) ∙ not_hit c.look.result c.in_default.not-Hit) in
    record {
      sees = sees;
      unmoved = λ e. absurd (omega arith);
      missed = below_more (λ k. c.args.from ≤ k → is_hit (entry
          (piece_at c.args.self.now.shape class k) a.seen) ≡ false) n c.loop-block.invariant.missed
          (λ _. no_hit_before a.worker
          (piece_at c.args.self.now.shape class n) d.seen a.seen sees.newer none);
    }
