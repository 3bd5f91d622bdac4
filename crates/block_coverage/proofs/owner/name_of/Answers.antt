use Rattle.std.proofs.{Common.{◌≡◌, ◌∙◌, [], ap, subst}, lemmas.Option.slice_get-map}
use Rattle.std.specs.Prelude.{Contains, Some, option_map, unwrap_or}
use Rattle.list_lemmas.proofs.{Members.contained, Places.{at_place, within_place}}
use Rattle.block_coverage.{specs.Blocks.{fault_name, owner}, proofs.Owners.owned}
use Rattle.block_coverage.proofs.owner.name_of.Goals as goal

pub owner_of-requires : goal.owner_of-requires
owner_of-requires c =
    let m = c.args.list.now.model in
    let circuit = c.args.circuit.now in
    let at = within_place c.args.list.now.list c.args.fault c.requires.in_range in
    let own : c.line_of.result ≡ at.0.line = rw (at.1) at c.line_of.ensures in
    let listed = subst (λ xs. Contains xs at.0) c.requires.list
    (contained c.args.list.now.list at.0 (at_place c.args.list.now.list c.args.fault at.0 at.1)) in
    rw own (owned m circuit at.0 c.signals-signals.ensures.circuit.well_formed listed)

pub returns : goal.returns
returns c =
    let circuit = c.args.circuit.now in
    let at = within_place c.args.list.now.list c.args.fault c.requires.in_range in
    let own : c.line_of.result ≡ at.0.line = rw (at.1) at c.line_of.ensures in
    let named = subst (λ l. owner circuit l ≡ Some c.owner_of.result.now) own c.owner_of.ensures in
    slice_get-map (fault_name circuit) c.args.list.now.list c.args.fault
    ∙ (ap (option_map (fault_name circuit)) at.1 ∙ ap (λ o. Some (unwrap_or o [])) named)
