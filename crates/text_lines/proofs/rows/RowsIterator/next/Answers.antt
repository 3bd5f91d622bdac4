use Rattle.std.proofs.Common.{◌<◌, ◌==◌, length, refl, sym, ap, ◌∙◌, rules}
use Rattle.std.specs.List.{before_first}
use Rattle.text_lines.proofs.FirstRow.{rows_from_skip, rows_from_first}
use Rattle.text_lines.proofs.rows.RowsIterator.next.Goals as goal

pub returns-then-not-is_empty-clause-steps : goal.returns-then-not-is_empty-clause-steps
returns-then-not-is_empty-clause-steps c =
    let at = c.loop-line.self in
    let line = before_first (λ b. b == 10) at.text.now in
    let parts = c.first_line.result in
    let is = c.first_line.ensures in
    let some : 0 < length parts.0.now = search rules in
    sym c.loop-line.invariant
    ∙ rows_from_first at.line at.text.now line parts.1.now parts.0.now refl is.rest is.held some

pub returns-then-not-is_empty-clause-goes : goal.returns-then-not-is_empty-clause-goes
returns-then-not-is_empty-clause-goes c =
    let at = c.loop-line.self in
    let line = before_first (λ b. b == 10) at.text.now in
    let parts = c.first_line.result in
    let is = c.first_line.ensures in
    let some : 0 < length parts.0.now = search rules in
    let shorter = ap length (sym c.loop-line.invariant
    ∙ rows_from_first at.line at.text.now line parts.1.now parts.0.now refl is.rest is.held some)
    in search rules

pub loop-line-preserved : goal.loop-line-preserved
loop-line-preserved c =
    let at = c.loop-line.self in
    let line = before_first (λ b. b == 10) at.text.now in
    let parts = c.first_line.result in
    let is = c.first_line.ensures in
    sym (rows_from_skip at.line at.text.now line parts.1.now parts.0.now refl is.rest is.held
    (search rules)) ∙ c.loop-line.invariant
