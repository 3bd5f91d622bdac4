use Rattle.std.{proofs.Common.{◌≡◌, refl, subst}, specs.Prelude.Contains}
use Rattle.list_lemmas.proofs.{Members.contained, Places.{at_place, within_place}}
use Rattle.fault_model.proofs.Public.{carries, listed_model}
use Rattle.tables.proofs.row.row_of.Goals as goal

pub place_of-requires : goal.place_of-requires
place_of-requires c =
    let m = c.args.list.now.model in
    let circuit = c.args.circuit.now in
    let at = within_place c.args.list.now.list c.args.fault c.requires.in_range in
    let own : c.line_of.result ≡ at.0.line = rw (at.1) at c.line_of.ensures in
    let listed = subst (λ xs. Contains xs at.0) c.requires.list
    (contained c.args.list.now.list at.0 (at_place c.args.list.now.list c.args.fault at.0 at.1)) in
    rw own (carries m circuit at.0 c.signals-signals.ensures.circuit.well_formed listed)

pub returns : goal.returns
returns c = λ f at.
    let m = c.args.list.now.model in
    let circuit = c.args.circuit.now in
    let listed = subst (λ xs. Contains xs f) c.requires.list
    (contained c.args.list.now.list f (at_place c.args.list.now.list c.args.fault f at)) in
    let model : f.model ≡ m = listed_model m circuit f listed in
    let own : c.line_of.result ≡ f.line = rw at at c.line_of.ensures in
    let bit : c.stuck_of.result ≡ f.stuck = rw at at c.stuck_of.ensures in
    rw (c.place_of.ensures, c.defect.ensures, c.model.ensures, own, bit, model) refl
