use Rattle.std.proofs.Common.{take, List, ℕ, ◌++◌, ◌∙◌}
use Rattle.byte_output.proofs.Public.{appends_more, rest_split, counts_none}
use Rattle.byte_output.proofs.put_all.Goals as goal

pub loop-rest-preserved : goal.loop-rest-preserved
loop-rest-preserved g c =
    let n : ℕ = c.in_ok-taken.taken in
    let rest : List ℕ = c.loop-rest.rest.now in
    let inv = c.loop-rest.invariant in (
      inv.0 ++ take n rest,
      inv.1 ∙ rest_split inv.0 rest n c.in_ok-taken.ensures.within,
      (
        appends_more _ _ _ _ _ inv.2.0 c.in_ok-taken.ensures.taken,
        c.in_ok-taken.ensures.counted ∙ (counts_none n _ _ c.if-taken-eq0.false ∙ inv.2.1),
      ),
    )
