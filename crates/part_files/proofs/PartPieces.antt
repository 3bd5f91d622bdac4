-- The pieces of a part file make the file.
use Rattle.std.proofs.Common.{◌≡◌, ◌+◌, ◌∙◌, ℕ, List, [], ◌∷◌, ◌++◌, append_assoc, map, refl, ap}
use Rattle.std.specs.{Prelude.{Option, codes, decimal, zip}, List.flat_map}
use Rattle.bench_net.specs.Statement.{Statement}
use Rattle.fault_model.specs.{declared.Model.Model, Fault.{Fault, faults}}
use Rattle.region_runs.specs.declared.parts.PartVerdict.{PartVerdict}
use Rattle.report.specs.declared.contents.Lines.{Lines}
use Rattle.report.specs.Report.{fault_text, report, wanted_line, wanted_name}
use Rattle.part_files.specs.Merging.{report_text}
use Rattle.part_files.specs.PartText.{PartHead, head_line, part_line, verdict_line, verdict_text}

-- the first line from its words, given as texts
pub head_text : (h : PartHead) (part parts : List ℕ) → part ≡ decimal (h.part + 1)
    → parts ≡ decimal h.parts → codes "part " ++ (part ++ (codes " of "
    ++ (parts ++ (codes " model " ++ (h.model ++ (codes " rule " ++ (h.rule
    ++ (codes " bench " ++ (h.bench ++ (codes " tests " ++ (h.tests ++ (codes "\n" ++ []))))))))))))
    ≡ head_line h
head_text h part parts e f = rw (e, f) (simp append_assoc)

-- the line of a fault with its verdict
pub is_verdict_line : (c : List Statement) (f : Fault) (verdict : PartVerdict) (said : List ℕ)
    → said ≡ verdict_text verdict
    → fault_text c f ++ (codes " " ++ said ++ codes "\n") ≡ part_line c (f, verdict)
is_verdict_line c f verdict said is = rw is refl

-- the lines of a circuit's faults are the lines of their texts
pub lines_of_texts : (c : List Statement) (fs : List Fault) (verdicts : List PartVerdict)
    → flat_map (part_line c) (zip fs verdicts) ≡ flat_map verdict_line
    (zip (map (fault_text c) fs) verdicts)
lines_of_texts c [] verdicts = refl
lines_of_texts c (f ∷ fs) [] = refl
lines_of_texts c (f ∷ fs) (v ∷ verdicts) =
    ap (λ l. part_line c (f, v) ++ l) (lines_of_texts c fs verdicts)

-- the same, if they are faults of a model
pub lines_of_model : (m : Model) (c : List Statement) (fs : List Fault)
    (verdicts : List PartVerdict) → fs ≡ faults m c
    → flat_map (part_line c) (zip fs verdicts) ≡ flat_map verdict_line
    (zip (map (fault_text c) (faults m c)) verdicts)
lines_of_model m c fs verdicts list = lines_of_texts c fs verdicts ∙ ap
    (λ l. flat_map verdict_line (zip (map (fault_text c) l) verdicts)) list

-- the same for the lines of a report
names_of_texts : (c : List Statement) (lines : Lines) (fs : List Fault) (firsts : List (Option ℕ))
    → flat_map (wanted_name lines) (zip (map (fault_text c) fs) firsts)
    ≡ flat_map (wanted_line lines c) (zip fs firsts)
names_of_texts c lines [] firsts = refl
names_of_texts c lines (f ∷ fs) [] = refl
names_of_texts c lines (f ∷ fs) (first ∷ firsts) = ap (λ l. wanted_line lines c (f, first)
    ++ l) (names_of_texts c lines fs firsts)

-- the report of the names of a circuit's faults is the report of the circuit
pub report_of_texts : (m : Model) (c : List Statement) (firsts : List (Option ℕ)) (lines : Lines)
    → report_text (map (fault_text c) (faults m c)) firsts lines ≡ report m c firsts lines
report_of_texts m c firsts lines = rw (names_of_texts c lines (faults m c) firsts) refl
