use Rattle.std.proofs.Common.{◌≡◌, ◌+◌, ◌++◌, ap, arith, length, subst, sym}
use Rattle.std.proofs.lemmas.List.{length-append}
use Rattle.flat_circuit.specs.Flat.{AreMoved, AreRowsAt, AreStandingsAt}
use Rattle.flat_circuit.proofs.Flats.{rows_joined, standings_joined}
use Rattle.flat_circuit.proofs.flat.join_lists.Goals as goal

pub returns : goal.returns
returns c = λ circuit from middle end first rest.
    let pins = c.args.first.pins.items in
    let readers = c.args.first.readers.items in
    let rows = c.args.first.rows.items in
    let standings = c.args.first.standings.items in
    let added = c.in_ok-push_moved.ensures in
    let pins_long : c.len.result ≡ length pins = omega (
      arith,
      c.len.ensures,
      c.args.first.pins.ok.0,
    ) in
    let readers_long : c.len-2.result ≡ length readers = omega (
      arith,
      c.len-2.ensures,
      c.args.first.readers.ok.0,
    ) in
    let by : AreMoved (length pins) (length readers) c.args.rest.rows.items added.0 =
    subst (λ n. AreMoved n (length readers) c.args.rest.rows.items added.0) pins_long
    (subst (λ n. AreMoved c.len.result n c.args.rest.rows.items added.0) readers_long
    (subst (λ l. AreMoved c.len.result c.len-2.result l added.0) c.as_slice.ensures.value
    added.1)) in
    let more = ap length added.2 in
    let long : length (rows ++ added.0) ≡ length rows + length added.0 =
    length-append rows added.0 in
    let stand = ap length c.in_ok-append.ensures.items in
    let stands : length (standings ++ c.args.rest.standings.items)
    ≡ length standings + length c.args.rest.standings.items =
    length-append standings c.args.rest.standings.items in
    record {
      count = omega (arith, more, long, by.count, first.count, rest.count);
      numbered = subst (λ p. AreRowsAt circuit from p c.append-3.new.self.items
          c.push_moved.new.rows.items) (sym c.in_ok-append-2.ensures.items)
          (subst (λ r. AreRowsAt circuit from (pins ++ c.args.rest.pins.items) r
          c.push_moved.new.rows.items) (sym c.in_ok-append-3.ensures.items)
          (subst (AreRowsAt circuit from (pins ++ c.args.rest.pins.items)
          (readers ++ c.args.rest.readers.items)) (sym added.2)
          (rows_joined circuit from middle pins c.args.rest.pins.items readers
          c.args.rest.readers.items rows c.args.rest.rows.items added.0 first.count first.numbered
          rest.numbered by)));
      stand = omega (arith, stand, stands, first.stand, rest.stand);
      standing = subst (AreStandingsAt circuit from) (sym c.in_ok-append.ensures.items)
          (standings_joined circuit from middle standings c.args.rest.standings.items first.stand
          first.standing rest.standing);
    }
