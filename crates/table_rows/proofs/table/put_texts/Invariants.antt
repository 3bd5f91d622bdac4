use Rattle.std.{proofs.Common.take, specs.List.flat_map}
use Rattle.byte_output.specs.Output.{TakesAll}
use Rattle.table_rows.proofs.table.put_texts.Given as goal

-- the texts so far were taken whole
abbrev pub invariant-loop-text : goal.invariant-loop-text
invariant-loop-text g l = TakesAll (g.W.Out.seen l.initial.out) (g.W.Out.seen l.out)
    (flat_map (λ text. text.items) (take l.text-index l.texts))
