use Rattle.std.proofs.Common.{◌≡◌, ◌<◌, ◌+◌, ◌∙◌, ◌++◌, ◌∷◌, [], ap, sym, subst, take, length}
use Rattle.std.{proofs.Common.arith, specs.Prelude.false}
use Rattle.std.proofs.lemmas.List.{length-map, length-take-le, take_more}
use Rattle.std.proofs.lemmas.Option.{get_or_from_slice_get, slice_get_within}
use Rattle.block_coverage.specs.{Blocks.{fault_name, fault_names}, Tallies.IsTally}
use Rattle.block_coverage.proofs.Owners.{few_faults}
use Rattle.block_coverage.proofs.rows.listed_rows.Goals as goal

pub loop-fault-init : goal.loop-fault-init
loop-fault-init c = c.new-tally.ensures c.args.separator

pub returns-clause-few : goal.returns-clause-few
returns-clause-few c = few_faults c.args.list.now.model c.args.circuit.now c.args.list.now.list
    c.requires.list c.signals-signals.ensures.circuit

pub returns-in_err-add_name-clause-few : goal.returns-in_err-add_name-clause-few
returns-in_err-add_name-clause-few c =
    few_faults c.args.list.now.model c.args.circuit.now c.args.list.now.list
    c.requires.list c.signals-signals.ensures.circuit

pub loop-fault-preserved : goal.loop-fault-preserved
loop-fault-preserved c =
    let list = c.args.list.now.list in
    let names = fault_names c.args.circuit.now list in
    let flags = c.args.detected.now in
    let n = c.loop-fault.fault in
    let s = c.args.separator in
    let name = c.name_of-name.result.now in
    let at = c.name_of-name.ensures in
    let count : length names ≡ length list = length-map list (fault_name c.args.circuit.now) in
    let within : n < length names = slice_get_within names n name at in
    let even = c.requires.count in
    let flagged : n < length flags = omega (arith, within, count, even) in
    let named : take (n + 1) names ≡ take n names ++ name ∷ [] = take_more names n [] within
    ∙ ap (λ m. take n names ++ m ∷ []) (get_or_from_slice_get names n name [] at) in
    let flag = take_more flags n false flagged in
    let alike : length (take n flags) ≡ length (take n names) =
    length-take-le n flags (omega (arith, flagged))
    ∙ sym (length-take-le n names (omega (arith, within))) in
    let counted = c.in_ok-add_name.ensures (take n names) (take n flags) alike
    c.loop-fault.invariant in
    subst (λ ns. IsTally s ns (take (n + 1) flags) c.add_name.new.self) (sym named)
    (subst (λ fs. IsTally s (take n names ++ name ∷ []) fs c.add_name.new.self) (sym flag) counted)
