use Rattle.std.proofs.Common.{◌<◌, ◌∙◌, ◌++◌, ◌∷◌, [], ap, arith, length, map, sym, take}
use Rattle.std.{specs.Prelude.{None, is_some}, proofs.lemmas.List.map_more}
use Rattle.std.proofs.lemmas.Option.{get_or_from_slice_get}
use Rattle.part_files.specs.Merging.{run_of}
use Rattle.tables.proofs.merged.merged_flags.Goals as goal

pub loop-fault-preserved : goal.loop-fault-preserved
loop-fault-preserved c =
    let firsts = (run_of c.args.merged.now).firsts in
    let lt : c.loop-fault.fault < length firsts = omega arith in
    let own = get_or_from_slice_get firsts c.loop-fault.fault c.first.result None c.first.ensures in
    c.in_ok-push.ensures.items ∙ (ap (λ l. l ++ c.is_some.result ∷ []) c.loop-fault.invariant
    ∙ (ap (λ b. map is_some (take c.loop-fault.fault firsts) ++ b ∷ [])
    (c.is_some.ensures ∙ ap is_some (sym own))
    ∙ sym (map_more is_some firsts c.loop-fault.fault None lt)))
