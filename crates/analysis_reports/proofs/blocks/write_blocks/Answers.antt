use Rattle.std.proofs.{Common.{◌∙◌, arith, map, refl, sym}, lemmas.Result.err_from_is_err_and}
use Rattle.bench_net.proofs.Public.{some_signal}
use Rattle.block_coverage.specs.Blocks.{cells_in}
use Rattle.analysis_reports.{specs.Blocks.blocks_text, proofs.BlockTexts.text_of_rows}
use Rattle.analysis_reports.proofs.blocks.write_blocks.Goals as goal

pub prove-unreachable-requires : goal.prove-unreachable-requires
prove-unreachable-requires g c =
    let some = some_signal c.args.circuit.now c.signals-signals.ensures.circuit.well_formed in
    omega (arith, some)

pub returns-in_err-put_blocks-clause-written : goal.returns-in_err-put_blocks-clause-written
returns-in_err-put_blocks-clause-written g c =
    let p = err_from_is_err_and c.from_residual-in_err-put_blocks.result
    c.from_residual-in_err-put_blocks.ensures.1 in
    let flags = c.args.detected.now in
    let rows = c.in_ok-rows.rows.items in
    let wrote = rw (c.deref.ensures.value) at c.in_err-put_blocks.ensures in
    rw (p.1, p.2) (
      blocks_text flags (map cells_in rows),
      (map cells_in rows, c.in_ok-rows.ensures.rows, refl),
      rw (text_of_rows flags rows c.count_flags.result c.count-total.result
          c.count_flags.ensures (c.count-total.ensures ∙ sym c.requires.count)) at wrote,
    )

pub returns-clause-written : goal.returns-clause-written
returns-clause-written g c =
    let flags = c.args.detected.now in
    let rows = c.in_ok-rows.rows.items in
    let wrote = rw (c.deref.ensures.value) at c.in_ok-put_blocks.ensures in (
      blocks_text flags (map cells_in rows),
      (map cells_in rows, c.in_ok-rows.ensures.rows, refl),
      rw (text_of_rows flags rows c.count_flags.result c.count-total.result
          c.count_flags.ensures (c.count-total.ensures ∙ sym c.requires.count)) at wrote,
    )
