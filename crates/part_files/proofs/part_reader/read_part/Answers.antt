use Rattle.std.proofs.Common.{◌∙◌, inl, refl}
use Rattle.part_files.specs.declared.part_reader.PartFault.TheVariants.{NotAPart, CutOff}
use Rattle.part_files.proofs.PartReadings.{bad_head, joined}
use Rattle.part_files.proofs.PartRefusals.{no_refusal, read_exactly}
use Rattle.part_files.proofs.part_reader.read_part.Goals as goal

pub read_lines-requires-clause-whole : goal.read_lines-requires-clause-whole
read_lines-requires-clause-whole c = c.in-Some.ensures.whole
    ∙ joined _ _ _ c.in-Some-header_of.ensures.1

pub returns-in_default-clause-only : goal.returns-in_default-clause-only
returns-in_default-clause-only c = λ h faults verdicts p.
    no_refusal c.args.text.now h faults verdicts CutOff p (inl c.in_default.ensures)

pub returns-in_default-header_of-clause-only : goal.returns-in_default-header_of-clause-only
returns-in_default-header_of-clause-only c = λ h faults verdicts p.
    no_refusal c.args.text.now h faults verdicts (NotAPart 1) p (inl (
      refl,
      bad_head _ _ _ c.in-Some.ensures c.in_default-header_of.ensures,
    ))

pub returns-clause-only : goal.returns-clause-only
returns-clause-only c = λ h faults verdicts p.
    read_exactly c.args.text.now h faults verdicts c.read_lines.result c.read_lines.ensures.read
    c.read_lines.ensures.refused p
