use Rattle.std.proofs.Common.{◌∙◌, ◌++◌, ◌∷◌, [], sym, ap, append_assoc, map, subst, All}
use Rattle.std.proofs.lemmas.List.{map-append, Elements.{All-append, All-cons, All-nil}}
use Rattle.std.specs.Vec.Iter.{into_iter_items}
use Rattle.block_sim.specs.Parts.{HasRoom}
use Rattle.workers.specs.declared.piece_threads.Worker.{Worker}
use Rattle.workers.proofs.piece_threads.workers_of.Goals as goal

pub loop-seat-preserved : goal.loop-seat-preserved
loop-seat-preserved c =
    let was = c.loop-seat.invariant in
    let pushed = c.in_ok-push.ensures.items in
    let w : Worker = record { seat = c.in-Some.seat; workspace = c.in_ok-workspace.workspace } in
    record {
      order = append_assoc c.loop-seat.yielded (c.in-Some.seat ∷ [])
          (into_iter_items c.next.new.self)
          ∙ ap (λ l. c.loop-seat.yielded ++ l) (sym c.in-Some.ensures.steps.0) ∙ was.order;
      seats = ap (map (λ (x : Worker). x.seat)) pushed
          ∙ map-append (λ (x : Worker). x.seat) c.loop-seat.workers.items (w ∷ [])
          ∙ ap (λ l. l ++ c.in-Some.seat ∷ []) was.seats;
      fits = subst (All (λ (x : Worker). HasRoom x.workspace c.args.job.now)) (sym pushed)
          (All-append (λ (x : Worker). HasRoom x.workspace c.args.job.now) c.loop-seat.workers.items
          (w ∷ []) was.fits (All-cons (λ (x : Worker). HasRoom x.workspace c.args.job.now) w []
          c.in_ok-workspace.ensures.fits
          (All-nil (λ (x : Worker). HasRoom x.workspace c.args.job.now))));
    }
