use Rattle.std.proofs.Common.{◌≡◌, ◌<◌, ◌+◌, ◌∙◌, [], ◌∷◌, Some, ap, arith, get_or, length}
use Rattle.std.{proofs.Common.{length-append, rules, subst, suc, sym}, specs.Prelude.slice_get}
use Rattle.std.specs.Vec.Iter.{into_iter_items, into_iter_len}
use Rattle.std.proofs.lemmas.Option.{slice_get_within}
use Rattle.fault_ledger.specs.Seats.{newcomer}
use Rattle.workers.proofs.Public.{own_newcomer}
use Rattle.region_runs.specs.Tasks.{task_of}
use Rattle.region_runs.proofs.ClaimedStretches.{newcomer_at, seats_count, served_more}
use Rattle.region_runs.proofs.stretch_workers.serve_here.Goals as goal

pub loop-seat-init : goal.loop-seat-init
loop-seat-init g c =
    let began = c.into_iter-seat-iterator.ensures.into_iter_gives in
    let none = ap length c.in_ok-back.ensures.items in
    let count = seats_count c.args.seats.items c.args.ledger.now c.requires.new in
    record {
      count = omega (arith, began.1, none, c.args.seats.ok.0, count);
      left = λ k d lt.
          let within : k < length c.args.seats.items =
          omega (arith, lt, began.1, c.args.seats.ok.0) in
          ap (λ l. get_or l k d) began.0
          ∙ newcomer_at c.args.seats.items c.args.ledger.now k d c.requires.new within
          ∙ ap (newcomer c.args.ledger.now) (omega (arith, none));
      each = λ w one e.
          let lt = slice_get_within c.in_ok-back.back.items w one e in
          absurd (omega (arith, lt, none));
    }

pub serve-requires-clause-new : goal.serve-requires-clause-new
serve-requires-clause-new g c =
    let next : c.in-Some.seat ≡ get_or (into_iter_items c.loop-seat.seat-iterator) 0
    c.in-Some.seat = grind rules in
    let some : 0 < into_iter_len c.loop-seat.seat-iterator = grind rules in
    own_newcomer c.args.ledger.now (length c.loop-seat.back.items + 0) c.in-Some.seat
    (next ∙ c.loop-seat.invariant.left 0 c.in-Some.seat some)

pub loop-seat-preserved : goal.loop-seat-preserved
loop-seat-preserved g c =
    let was = c.loop-seat.invariant in
    let step = c.in-Some.ensures.steps in
    let next : c.in-Some.seat ≡ get_or (into_iter_items c.loop-seat.seat-iterator) 0
    c.in-Some.seat = grind rules in
    let some : 0 < into_iter_len c.loop-seat.seat-iterator = grind rules in
    let back = c.loop-seat.back.items in
    let seat = next ∙ was.left 0 c.in-Some.seat some in
    let items = c.in_ok-push.ensures.items in
    let grown : length c.push.new.self.items ≡ length back + 1 =
    ap length items ∙ length-append back (c.serve.result ∷ []) in
    record {
      count = omega (arith, grown, was.count, step.1);
      left = λ k d lt. sym (ap (λ l. get_or l (suc k) d) step.0)
          ∙ was.left (suc k) d (omega (arith, lt, step.1))
          ∙ ap (newcomer c.args.ledger.now) (omega (arith, grown));
      each = λ w one e. served_more (task_of c.args.job.now c.args.cut.now.from
          (g.A.Goal.wants c.args.goal.now) (g.A.Goal.means c.args.goal.now))
          c.args.cut.now.size c.args.cut.now.classes.items c.args.ledger.now
          (g.G.Gate.passing c.args.gate.now) (g.G.Gate.stops c.args.gate.now) back c.serve.result
          c.in-Some.seat.worker (ap (λ s. s.worker) seat ∙ omega arith) c.serve.ensures was.each w
          one (subst (λ l. slice_get l w ≡ Some one) items e);
    }

pub returns : goal.returns
returns g c =
    let was = c.loop-seat.invariant in
    record { count = omega (arith, was.count, c.in-None.ensures); each = was.each }
