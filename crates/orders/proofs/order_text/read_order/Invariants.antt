use Rattle.std.{proofs.Common.{◌≡◌, ◌++◌, map, length}, specs.List.{filter_map, enumerate_from}}
use Rattle.text_lines.specs.{Rows.rows, Reading.rows_left}
use Rattle.orders.specs.Order.{number, order_fault, order_faults}
use Rattle.orders.proofs.order_text.read_order.Given as goal

abbrev pub invariant-loop-row : goal.invariant-loop-row
invariant-loop-row l = record {
  faults : order_faults l.text l.workers ≡ filter_map (order_fault l.workers)
      (enumerate_from (length l.moves.items) (rows_left l.row-iterator));
  moves : l.moves.items ++ map (λ row. number row.bytes) (rows_left l.row-iterator) ≡ map
      (λ row. number row.bytes) (rows l.text);
}
