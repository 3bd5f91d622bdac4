use Rattle.std.proofs.{Common.{◌∙◌, ◌∷◌, ◌++◌, ◌+◌, [], ap, append_assoc}, lemmas.List.length_push}
use Rattle.flat_circuit.proofs.Flats.{moved_more, read_at}
use Rattle.flat_circuit.proofs.flat.push_moved.Goals as goal

pub loop-row-preserved : goal.loop-row-preserved
loop-row-preserved c =
    let was = c.loop-row.invariant in
    let row = c.in_ok-after.field-0 in
    record {
      moved = was.moved ++ row ∷ [];
      is = c.in_ok-push.ensures.items ∙ (ap (λ l. l ++ row ∷ []) was.is
          ∙ append_assoc c.args.rows.now.items was.moved (row ∷ []));
      count = length_push was.moved row ∙ ap (λ n. n + 1) was.count;
      each = moved_more c.in_ok-pins.pins c.in_ok-readers.readers c.args.next.now was.moved
          c.loop-row.row-index _ row was.count
          (read_at c.args.next.now c.loop-row.row-index _ c.loop-row-test.true)
          c.in_ok-after.ensures was.each;
    }
