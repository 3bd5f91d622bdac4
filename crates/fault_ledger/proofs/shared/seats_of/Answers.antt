use Rattle.std.proofs.Common.{◌+◌, ◌-◌, false, [], None, sym, ◌∙◌, subst}
use Rattle.fault_ledger.specs.{Seats.IsSeated, Words.{post, newcomer_posts}}
use Rattle.fault_ledger.proofs.AllSeats.{newcomers_first, deal_first, deal_others, deal_seat}
use Rattle.fault_ledger.proofs.AllSeats.{deal_more}
use Rattle.fault_ledger.proofs.shared.seats_of.Goals as goal

pub part-token-requires-clause-worker : goal.part-token-requires-clause-worker
part-token-requires-clause-worker c =
    let w = c.loop-worker.worker in
    let n = c.args.shape.workers in (
      post w false [],
      newcomer_posts (w + 1) (n - (w + 1)),
      c.loop-worker.invariant.posts ∙ newcomers_first w n c.loop-worker-test.true,
    )

pub invariant_of-push : goal.invariant_of-push
invariant_of-push c =
    let p = c.args.words.now in
    let w = c.loop-worker.worker in
    let i = c.loop-worker.invariant in
    let e = c.part-token.ensures in
    let a = c.part-token.result.0 in
    let first = deal_first p w c.args.shape.workers c.loop-worker.group.posts
    c.part-token.result.1.posts a c.loop-worker-test.true i.posts e.posts e.place.0 in
    let seated = deal_seat p c.args.shape w c.min-count.result c.in_ok-remembered.remembered.items a
    first c.requires.shape.0 c.requires.shape.1 c.loop-worker-test.true
    (c.in_ok-remembered.ensures.items_if_clones_equal (λ y is. is)) in
    subst (λ n. IsSeated a w false n None c.in_ok-remembered.remembered.items)
    (sym c.of_block_0.ensures) seated

pub loop-worker-preserved : goal.loop-worker-preserved
loop-worker-preserved c =
    let p = c.args.words.now in
    let w = c.loop-worker.worker in
    let i = c.loop-worker.invariant in
    let e = c.part-token.ensures in
    let a = c.part-token.result.0 in
    let first = deal_first p w c.args.shape.workers c.loop-worker.group.posts
    c.part-token.result.1.posts a c.loop-worker-test.true i.posts e.posts e.place.0 in
    record {
      place = e.place.1;
      posts = deal_others w c.args.shape.workers c.loop-worker.group.posts
          c.part-token.result.1.posts a c.loop-worker-test.true i.posts e.posts;
      seats = deal_more p w c.loop-worker.seats.items c.push.new.self.items a first i.seats
          c.in_ok-push.ensures.items;
    }
