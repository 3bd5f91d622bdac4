use Rattle.std.{proofs.Common.{◌≡◌, ◌++◌, map}, specs.Prelude.Ok, specs.Vec.Iter.into_iter_items}
use Rattle.table_rows.proofs.table.texts_of.Given as goal

-- the parts are the texts so far, and those that are left
abbrev pub invariant-loop-part : goal.invariant-loop-part
invariant-loop-part l = map Ok l.texts.items ++ into_iter_items l.part-iterator ≡ l.fn.parts.items
