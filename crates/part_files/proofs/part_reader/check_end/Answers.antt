use Rattle.std.proofs.Common.{inl, inr, refl, sym}
use Rattle.part_files.proofs.PartReadings.{some_bytes}
use Rattle.part_files.proofs.part_reader.check_end.Goals as goal

pub returns-then-not-is_end-clause-refused : goal.returns-then-not-is_end-clause-refused
returns-then-not-is_end-clause-refused c = inl (refl, c.if-not-is_end.ensures.no refl)

pub returns-then-not-is_empty-clause-refused : goal.returns-then-not-is_empty-clause-refused
returns-then-not-is_empty-clause-refused c =
    inr (refl, c.if-not-is_end.ensures.yes refl, some_bytes _ (sym c.if-not-is_empty.ensures))
