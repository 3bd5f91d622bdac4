use Rattle.std.proofs.Common.{◌++◌, [], ap, refl, sym, append_assoc}
use Rattle.std.specs.Prelude.{codes, unwrap_or}
use Rattle.byte_output.proofs.Public.{writes_same}
use Rattle.report.proofs.{LinesOfFaults.line_known, TextPieces.fault_pieces}
use Rattle.report.proofs.report.put_fault.Goals as goal

pub name_of-name-requires : goal.name_of-name-requires
name_of-name-requires g c = line_known c.args.list.now.model c.args.circuit.now
    c.args.list.now.list c.args.fault _ c.requires.list c.requires.in_range c.in-Stem.ensures

pub name_of-name-requires-in-Pin : goal.name_of-name-requires-in-Pin
name_of-name-requires-in-Pin g c = line_known c.args.list.now.model c.args.circuit.now
    c.args.list.now.list c.args.fault _ c.requires.list c.requires.in_range c.in-Pin.ensures

pub cell_name-name-requires : goal.cell_name-name-requires
cell_name-name-requires g c = line_known c.args.list.now.model c.args.circuit.now
    c.args.list.now.list c.args.fault _ c.requires.list c.requires.in_range c.in-Data.ensures

pub returns-in-Stem : goal.returns-in-Stem
returns-in-Stem g c = λ f at.
    writes_same _ _ _ _ _ (fault_pieces c.args.list.now.model c.args.circuit.now
    c.args.list.now.list c.args.fault f _ c.stuck_of.result
    (codes "stem " ++ c.name_of-name.result.now) c.defect-wrong.result.now _ c.requires.list at
    c.in-Stem.ensures c.stuck_of.ensures
    (ap (λ o. codes "stem " ++ unwrap_or o []) (sym c.name_of-name.ensures))
    (rw (c.model.ensures) at c.defect-wrong.ensures) refl) c.put_words.ensures

pub returns-in-Pin : goal.returns-in-Pin
returns-in-Pin g c = λ f at.
    let name = c.name_of-name-in-Pin.result.now in
    let place = c.format-place.result.now in
    writes_same _ _ _ _ _ (fault_pieces c.args.list.now.model c.args.circuit.now
    c.args.list.now.list c.args.fault f _ c.stuck_of.result
    (codes "pin " ++ name ++ codes " " ++ place) c.defect-wrong.result.now _ c.requires.list at
    c.in-Pin.ensures c.stuck_of.ensures
    (rw (← c.name_of-name-in-Pin.ensures, c.format-place.ensures.text, c.from.ensures) refl)
    (rw (c.model.ensures) at c.defect-wrong.ensures) (simp append_assoc)) c.put_words-in-Pin.ensures

pub returns-in-Data : goal.returns-in-Data
returns-in-Data g c = λ f at.
    writes_same _ _ _ _ _ (fault_pieces c.args.list.now.model c.args.circuit.now
    c.args.list.now.list c.args.fault f _ c.stuck_of.result
    (codes "data " ++ c.cell_name-name.result.now) c.defect-wrong.result.now _ c.requires.list at
    c.in-Data.ensures c.stuck_of.ensures
    (ap (λ name. codes "data " ++ name) (sym c.cell_name-name.ensures))
    (rw (c.model.ensures) at c.defect-wrong.ensures) refl) c.put_words-in-Data.ensures

pub returns-in-Out : goal.returns-in-Out
returns-in-Out g c = λ f at.
    writes_same _ _ _ _ _ (fault_pieces c.args.list.now.model c.args.circuit.now
    c.args.list.now.list c.args.fault f _ c.stuck_of.result
    (codes "out " ++ c.format-place-in-Out.result.now) c.defect-wrong.result.now _
    c.requires.list at c.in-Out.ensures c.stuck_of.ensures (ap (λ place. codes "out " ++ place)
    (sym (rw (c.from-in-Out.ensures) at c.format-place-in-Out.ensures.text)))
    (rw (c.model.ensures) at c.defect-wrong.ensures) refl) c.put_words-in-Out.ensures
