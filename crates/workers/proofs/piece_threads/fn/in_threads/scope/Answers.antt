use Rattle.std.proofs.Common.{rules, arith, below_more, ◌≡◌, ◌<◌, ◌+◌, get_or, vec_items, vec_len}
use Rattle.std.proofs.{Common.{sym, subst, ap, ◌∙◌, length, suc}, iter.Serving.serving}
use Rattle.std.specs.Vec.Iter.{into_iter_items, into_iter_len}
use Rattle.std.proofs.lemmas.Option.{get_or_from_slice_get, slice_get_within}
use Rattle.block_sim.specs.Parts.{HasRoom}
use Rattle.fault_ledger.specs.Seats.{newcomer}
use Rattle.workers.proofs.ThreadHandles.{workers_count, seat_at, fits_at, own_newcomer}
use Rattle.workers.proofs.ThreadHandles.{returns_along}
use Rattle.workers.proofs.piece_threads.fn.in_threads.scope.Goals as goal

pub loop-worker-init : goal.loop-worker-init
loop-worker-init g c =
    let began = c.into_iter-worker-iterator.ensures.into_iter_gives in
    let none = c.in_ok-handles.ensures.len in
    let full : length c.captures.workers.items ≡ vec_len c.captures.workers =
    sym c.captures.workers.ok.0 in
    let count = workers_count c.captures.workers.items c.captures.ledger.now c.requires.new in
    record {
      sum = omega (arith, began.1, none, full, count);
      left = λ k d lt.
          let within : k < length c.captures.workers.items = omega (arith, lt, began.1, full) in
          let n : vec_len c.in_ok-handles.handles + k ≡ k = omega (arith, none) in
          let same = ap (λ l. get_or l k d) began.0 in (
            ap (λ x. x.seat) same ∙ seat_at c.captures.workers.items c.captures.ledger.now k d
                c.requires.new within ∙ ap (newcomer c.captures.ledger.now) (sym n),
            subst (λ x. HasRoom x.workspace c.captures.job.now) (sym same)
                (fits_at c.captures.workers.items c.captures.job.now k d c.requires.fits within),
          );
      each = λ k d lt. absurd (omega (arith, lt, none));
    }

pub loop-worker-preserved : goal.loop-worker-preserved
loop-worker-preserved g c =
    let was = c.loop-worker.invariant in
    let step = c.in-Some.ensures.steps in
    let done = vec_len c.loop-worker.handles in
    let next : c.in-Some.worker ≡ get_or (into_iter_items c.loop-worker.worker-iterator) 0
    c.in-Some.worker = grind rules in
    let some : 0 < into_iter_len c.loop-worker.worker-iterator = grind rules in
    let grown : vec_len c.push.new.self ≡ done + 1 = search rules in
    let seat = ap (λ x. x.seat) next ∙ (was.left 0 c.in-Some.worker some).0 in
    let by = c.push.ensures.by_index in
    let promised = c.in-Ok.ensures.ok in
    let job = c.captures.job.now in let ledger = c.captures.ledger.now in
    let gate = c.captures.gate.now in
    record {
      sum = omega (arith, grown, was.sum, step.1);
      left = λ k d lt.
          let h = was.left (suc k) d (omega (arith, lt, step.1)) in
          let n : done + suc k ≡ vec_len c.push.new.self + k = omega (arith, grown) in
          let same = ap (λ l. get_or l (suc k) d) step.0 in (
            ap (λ x. x.seat) (sym same) ∙ h.0 ∙ ap (newcomer ledger) n,
            subst (λ x. HasRoom x.workspace job) same h.1,
          );
      each = λ k d lt. below_more (λ i. let p = (get_or (vec_items c.push.new.self) i d).promise in
          (p.job.value ≡ job) × (p.ledger.value ≡ ledger) × (p.gate.value ≡ gate)
          × (p.worker ≡ i)) done
          (λ i low. subst (λ x. (x.promise.job.value ≡ job) × (x.promise.ledger.value ≡ ledger)
          × (x.promise.gate.value ≡ gate) × (x.promise.worker ≡ i))
          (sym (by.0 i d low)) (was.each i d low)) (let at = by.1 d (search rules) in (
            ap (λ x. x.promise.job.value) at ∙ ap (λ p. p.job.value) promised ∙ c.of.ensures,
            ap (λ x. x.promise.ledger.value) at ∙ ap (λ p. p.ledger.value) promised
                ∙ c.of-in-loop-worker.ensures,
            ap (λ x. x.promise.gate.value) at ∙ ap (λ p. p.gate.value) promised
                ∙ c.of-in-loop-worker-2.ensures,
            ap (λ x. x.promise.worker) at ∙ ap (λ p. p.worker) promised ∙ c.worker.ensures.worker
                ∙ ap (λ s. s.worker) seat ∙ omega arith,
          )) k (omega (arith, lt, grown));
    }

pub spawn_with-requires-clause-runs : goal.spawn_with-requires-clause-runs
spawn_with-requires-clause-runs g c κs within =
    let step = c.in-Some.ensures.steps in
    let next : c.in-Some.worker ≡ get_or (into_iter_items c.loop-worker.worker-iterator) 0
    c.in-Some.worker = grind rules in
    let some : 0 < into_iter_len c.loop-worker.worker-iterator = grind rules in
    let h = c.loop-worker.invariant.left 0 c.in-Some.worker some in
    let new : c.in-Some.worker.seat ≡ newcomer c.captures.ledger.now c.in-Some.worker.seat.worker =
    own_newcomer c.captures.ledger.now (vec_len c.loop-worker.handles + 0) c.in-Some.worker.seat
    (ap (λ x. x.seat) next ∙ h.0) in
    let room : HasRoom c.in-Some.worker.workspace c.captures.job.now =
    subst (λ x. HasRoom x.workspace c.captures.job.now) (sym next) h.1 in
    grind serving

pub returns : goal.returns
returns g c =
    let was = c.loop-worker.invariant in
    let len = c.in_ok-back.ensures.len in
    let full : length c.captures.workers.items ≡ vec_len c.captures.workers =
    sym c.captures.workers.ok.0 in
    let count = workers_count c.captures.workers.items c.captures.ledger.now c.requires.new in
    let sized : length c.in_ok-back.back.items ≡ vec_len c.in_ok-back.back =
    sym c.in_ok-back.back.ok.0 in
    record {
      back = record {
        count = omega (
          arith,
          was.sum,
          len,
          c.len.ensures,
          c.if-refused.false,
          c.len-count.ensures,
          full,
          count,
          sized,
        );
        each = λ w seat e.
            let lt : w < length c.in_ok-back.back.items =
            slice_get_within c.in_ok-back.back.items w seat e in
            let low : w < vec_len c.loop-worker.handles = omega (arith, lt, sized, len) in
            let k = (c.in_ok-back.ensures.each w seat low).1 in
            let i = was.each w k.handle low in
            returns_along k.handle.promise.job.value c.captures.job.now
            k.handle.promise.ledger.value c.captures.ledger.now k.handle.promise.worker w
            (g.G.Gate.passing k.handle.promise.gate.value) (g.G.Gate.passing c.captures.gate.now)
            (g.G.Gate.stops k.handle.promise.gate.value) (g.G.Gate.stops c.captures.gate.now)
            (get_or c.in_ok-back.back.items w seat) seat
            (ap (λ x. x.promise.job.value) k.handle_is ∙ i.0)
            (ap (λ x. x.promise.ledger.value) k.handle_is ∙ i.1)
            (ap (λ x. x.promise.worker) k.handle_is ∙ i.3)
            (λ p. subst (λ x. g.G.Gate.passing x) (sym (ap (λ x. x.promise.gate.value) k.handle_is
            ∙ i.2)) p) (λ u class block s. subst (λ x. (g.G.Gate.stops x).may u class block)
            (ap (λ x. x.promise.gate.value) k.handle_is ∙ i.2) s)
            (get_or_from_slice_get c.in_ok-back.back.items w seat seat e) k.kept;
      };
      refused = tt;
    }
