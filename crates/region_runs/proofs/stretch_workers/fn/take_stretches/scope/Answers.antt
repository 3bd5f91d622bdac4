use Rattle.std.proofs.Common.{rules, arith, below_more, ◌≡◌, ◌<◌, ◌+◌, get_or, vec_items, vec_len}
use Rattle.std.proofs.{Common.{sym, subst, ap, ◌∙◌, length, suc}, iter.Serving.serving}
use Rattle.std.specs.Vec.Iter.{into_iter_items, into_iter_len}
use Rattle.std.proofs.lemmas.Option.{get_or_from_slice_get, slice_get_within}
use Rattle.fault_ledger.specs.Seats.{newcomer}
use Rattle.workers.proofs.Public.{own_newcomer}
use Rattle.region_runs.specs.Tasks.{task_of}
use Rattle.region_runs.proofs.ClaimedStretches.{newcomer_at, seats_count, served_along}
use Rattle.region_runs.proofs.stretch_workers.fn.take_stretches.scope.Goals as goal

pub loop-seat-init : goal.loop-seat-init
loop-seat-init g c =
    let began = c.into_iter-seat-iterator.ensures.into_iter_gives in
    let none = c.in_ok-handles.ensures.len in
    let full : length c.captures.seats.items ≡ vec_len c.captures.seats =
    sym c.captures.seats.ok.0 in
    let count = seats_count c.captures.seats.items c.captures.ledger.now c.requires.new in
    record {
      sum = omega (arith, began.1, none, full, count);
      left = λ k d lt.
          let within : k < length c.captures.seats.items = omega (arith, lt, began.1, full) in
          let n : vec_len c.in_ok-handles.handles + k ≡ k = omega (arith, none) in
          ap (λ l. get_or l k d) began.0
          ∙ newcomer_at c.captures.seats.items c.captures.ledger.now k d c.requires.new within
          ∙ ap (newcomer c.captures.ledger.now) (sym n);
      each = λ k d lt. absurd (omega (arith, lt, none));
    }

pub loop-seat-preserved : goal.loop-seat-preserved
loop-seat-preserved g c =
    let was = c.loop-seat.invariant in
    let step = c.in-Some.ensures.steps in
    let done = vec_len c.loop-seat.handles in
    let next : c.in-Some.seat ≡ get_or (into_iter_items c.loop-seat.seat-iterator) 0
    c.in-Some.seat = grind rules in
    let some : 0 < into_iter_len c.loop-seat.seat-iterator = grind rules in
    let grown : vec_len c.push.new.self ≡ done + 1 = search rules in
    let seat = next ∙ was.left 0 c.in-Some.seat some in
    let by = c.push.ensures.by_index in
    let promised = c.in-Ok.ensures.ok in
    let job = c.captures.job.now in let ledger = c.captures.ledger.now in
    let gate = c.captures.gate.now in let cut = c.captures.cut.now in
    let aim = c.captures.goal.now in
    record {
      sum = omega (arith, grown, was.sum, step.1);
      left = λ k d lt.
          let h = was.left (suc k) d (omega (arith, lt, step.1)) in
          let n : done + suc k ≡ vec_len c.push.new.self + k = omega (arith, grown) in
          let same = ap (λ l. get_or l (suc k) d) step.0 in
          sym same ∙ h ∙ ap (newcomer ledger) n;
      each = λ k d lt. below_more (λ i. let p = (get_or (vec_items c.push.new.self) i d).promise in
          (p.job.value ≡ job) × (p.ledger.value ≡ ledger) × (p.gate.value ≡ gate)
          × (p.worker ≡ i) × (p.cut.value ≡ cut) × (p.goal.value ≡ aim)) done
          (λ i low. subst (λ x. (x.promise.job.value ≡ job) × (x.promise.ledger.value ≡ ledger)
          × (x.promise.gate.value ≡ gate) × (x.promise.worker ≡ i)
          × (x.promise.cut.value ≡ cut) × (x.promise.goal.value ≡ aim)) (sym (by.0 i d low))
          (was.each i d low)) (let at = by.1 d (search rules) in (
            ap (λ x. x.promise.job.value) at ∙ ap (λ p. p.job.value) promised ∙ c.of.ensures,
            ap (λ x. x.promise.ledger.value) at ∙ ap (λ p. p.ledger.value) promised
                ∙ c.of-in-loop-seat-2.ensures,
            ap (λ x. x.promise.gate.value) at ∙ ap (λ p. p.gate.value) promised
                ∙ c.of-in-loop-seat-4.ensures,
            ap (λ x. x.promise.worker) at ∙ ap (λ p. p.worker) promised ∙ c.worker.ensures.worker
                ∙ ap (λ s. s.worker) seat ∙ omega arith,
            ap (λ x. x.promise.cut.value) at ∙ ap (λ p. p.cut.value) promised
                ∙ c.of-in-loop-seat.ensures,
            ap (λ x. x.promise.goal.value) at ∙ ap (λ p. p.goal.value) promised
                ∙ c.of-in-loop-seat-3.ensures,
          )) k (omega (arith, lt, grown));
    }

pub spawn_with-requires-clause-runs : goal.spawn_with-requires-clause-runs
spawn_with-requires-clause-runs g c κs within =
    let step = c.in-Some.ensures.steps in
    let next : c.in-Some.seat ≡ get_or (into_iter_items c.loop-seat.seat-iterator) 0
    c.in-Some.seat = grind rules in
    let some : 0 < into_iter_len c.loop-seat.seat-iterator = grind rules in
    let h = c.loop-seat.invariant.left 0 c.in-Some.seat some in
    let new : c.in-Some.seat ≡ newcomer c.captures.ledger.now c.in-Some.seat.worker =
    own_newcomer c.captures.ledger.now (vec_len c.loop-seat.handles + 0) c.in-Some.seat
    (next ∙ h) in
    grind serving

pub returns : goal.returns
returns g c =
    let was = c.loop-seat.invariant in
    let len = c.in_ok-back.ensures.len in
    let full : length c.captures.seats.items ≡ vec_len c.captures.seats =
    sym c.captures.seats.ok.0 in
    let count = seats_count c.captures.seats.items c.captures.ledger.now c.requires.new in
    let sized : length c.in_ok-back.back.items ≡ vec_len c.in_ok-back.back =
    sym c.in_ok-back.back.ok.0 in
    record {
      served = record {
        count = omega (
          arith,
          was.sum,
          len,
          c.len.ensures,
          c.if-refused.false,
          c.len-count.ensures,
          full,
          count,
          sized,
        );
        each = λ w one e.
            let lt : w < length c.in_ok-back.back.items =
            slice_get_within c.in_ok-back.back.items w one e in
            let low : w < vec_len c.loop-seat.handles = omega (arith, lt, sized, len) in
            let k = (c.in_ok-back.ensures.each w one low).1 in
            let i = was.each w k.handle low in
            served_along (λ j u v. task_of j u.from (g.A.Goal.wants v) (g.A.Goal.means v))
            (get_or c.in_ok-back.back.items w one) one k.handle.promise.job.value c.captures.job.now
            k.handle.promise.goal.value c.captures.goal.now
            k.handle.promise.cut.value c.captures.cut.now
            k.handle.promise.ledger.value c.captures.ledger.now k.handle.promise.worker w
            (g.G.Gate.passing k.handle.promise.gate.value) (g.G.Gate.passing c.captures.gate.now)
            (g.G.Gate.stops k.handle.promise.gate.value) (g.G.Gate.stops c.captures.gate.now)
            (get_or_from_slice_get c.in_ok-back.back.items w one one e)
            (ap (λ x. x.promise.job.value) k.handle_is ∙ i.0)
            (ap (λ x. x.promise.goal.value) k.handle_is ∙ i.5)
            (ap (λ x. x.promise.cut.value) k.handle_is ∙ i.4)
            (ap (λ x. x.promise.ledger.value) k.handle_is ∙ i.1)
            (ap (λ x. x.promise.worker) k.handle_is ∙ i.3)
            (λ p. subst (λ x. g.G.Gate.passing x) (sym (ap (λ x. x.promise.gate.value) k.handle_is
            ∙ i.2)) p) (λ u class block s. subst (λ x. (g.G.Gate.stops x).may u class block)
            (ap (λ x. x.promise.gate.value) k.handle_is ∙ i.2) s)
            (λ u class block s. subst (λ x. (g.G.Gate.stops x).must u class block)
            (sym (ap (λ x. x.promise.gate.value) k.handle_is ∙ i.2)) s) k.kept;
      };
      refused = tt;
    }
