use Rattle.std.proofs.Common.{◌≡◌, sym, ap, ◌∙◌, subst, arith, below_more}
use Rattle.fault_ledger.specs.declared.{Shape.Shape, PieceState.TheVariants.Clear}
use Rattle.fault_ledger.specs.{History.{piece_at, entry}, Seats.Place}
use Rattle.fault_ledger.proofs.SeatSteps.{clear_goes_on, sees_twice}
use Rattle.fault_ledger.proofs.shared.SharedLedger.passes_clear_from.Goals.{After-look}
use Rattle.fault_ledger.proofs.shared.SharedLedger.passes_clear_from.Goals as goal

-- the look shows what is so of the piece at the loop's place
shown : (c : After-look) → c.look.result
    ≡ entry (piece_at c.args.self.now.shape c.args.class c.loop-block.block) c.look.new.token.seen
shown c =
    let is : c.self.inside.shape ≡ c.args.self.now.shape =
    sym c.self.invariant ∙ ap (λ (x : Place). x.shape) c.self.view_is in
    subst (λ (x : Shape). c.look.result
    ≡ entry (piece_at x c.args.class c.loop-block.block) c.look.new.token.seen)
    is c.look.ensures.state

pub returns-in_default : goal.returns-in_default
returns-in_default c =
    let s = c.args.self.now.shape in
    let class = c.args.class in
    let n = c.loop-block.block in
    let b = c.loop-block.token in
    let d = c.look.new.token in
    let here = shown (goal.at.returns-in_default c).After-look in
    let inside = c.loop-block-test.true in
    let differs = c.in_default.not-Clear in
    record {
      sees = sees_twice c.args.token.now b d c.loop-block.invariant.sees c.look.ensures.seen;
      unmoved = λ e. absurd (omega arith);
      head = record {
        clear = clear_goes_on s b.worker class n d.seen b.seen c.look.ensures.seen.newer
            c.loop-block.invariant.clear;
        none = λ e. absurd (cc);
        some = λ x e. let q : c.look.result ≡ x = cc in
            (inside, (λ z. differs (q ∙ z)), sym here ∙ q);
      };
    }

pub loop-block-preserved : goal.loop-block-preserved
loop-block-preserved c =
    let s = c.args.self.now.shape in
    let class = c.args.class in
    let n = c.loop-block.block in
    let b = c.loop-block.token in
    let d = c.look.new.token in
    let here = shown (goal.at.loop-block-preserved c).After-look in
    record {
      sees = sees_twice c.args.token.now b d c.loop-block.invariant.sees c.look.ensures.seen;
      unmoved = λ e. absurd (omega arith);
      clear = below_more (λ k. entry (piece_at s class k) d.seen ≡ Clear) n
          (clear_goes_on s b.worker class n d.seen b.seen c.look.ensures.seen.newer
          c.loop-block.invariant.clear) (sym here ∙ c.in-Clear.is);
    }
