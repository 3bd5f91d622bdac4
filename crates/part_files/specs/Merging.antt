-- The merge of part files.
use Rattle.std.specs.Prelude.{◌≡◌, ◌≢◌, ◌⊎◌, ◌<◌, ◌≤◌, ◌^◌, ℕ, ◌+◌, List, [], ◌∷◌, ◌++◌, map}
use Rattle.std.specs.Prelude.{length, slice_get, slice_index_or as get_or, zip, flat_map}
use Rattle.std.specs.Prelude.{Contains, Option}
use Rattle.workers.specs.Verdict.{detected_count}
use Rattle.region_runs.specs.declared.parts.PartVerdict.{PartVerdict}
use Rattle.region_runs.specs.declared.parts.PartVerdict.TheVariants.{First, OtherPart}
use Rattle.report.specs.declared.contents.Lines.{Lines}
use Rattle.report.specs.Report.{coverage_line, wanted_name}
use Rattle.part_files.specs.declared.merge.Merge.{Merge}
use Rattle.part_files.specs.declared.merged.Merged.{Merged}
use Rattle.part_files.specs.declared.joining.MergeFault.{MergeFault}
use Rattle.part_files.specs.declared.joining.MergeFault.TheVariants as fault
use Rattle.part_files.specs.PartText.{PartHead}
use Rattle.part_files.specs.PartReading.{IsPart, IsPartRefusal, head_in, texts_in}

-- parts of one run: of the same inputs under the same model, by the same rule and as many
pub record AreOfOneRun (h k : PartHead) : Type 0 where
  pub model : h.model ≡ k.model
  pub rule : h.rule ≡ k.rule
  pub bench : h.bench ≡ k.bench
  pub tests : h.tests ≡ k.tests
  pub parts : h.parts ≡ k.parts

-- the verdict on a fault from two parts, of which at most one has it
abbrev pub IsJoined : PartVerdict → PartVerdict → PartVerdict → Type 0
IsJoined OtherPart b both = both ≡ b
IsJoined (First first) OtherPart both = both ≡ First first
IsJoined (First first) (First other) both = ⊥

-- the same for each fault
pub record AreJoined (verdicts others both : List PartVerdict) : Type 0 where
  pub count : length both ≡ length verdicts
  pub each : (k : ℕ) (v : PartVerdict) → k < length both
      → IsJoined (get_or verdicts k v) (get_or others k v) (get_or both k v)

-- both parts have the fault at this place
abbrev pub HaveBoth : List PartVerdict → List PartVerdict → ℕ → Type 0
HaveBoth verdicts others k = (get_or verdicts k OtherPart ≢ OtherPart)
    × (get_or others k OtherPart ≢ OtherPart)

-- the first place at which lists of faults differ; one of them may end there
pub record DifferAt (faults others : List (List ℕ)) (k : ℕ) : Type 0 where
  pub same : (i : ℕ) (d : List ℕ) → i < k → get_or faults i d ≡ get_or others i d
  pub differ : slice_get faults k ≢ slice_get others k

-- the state of a merge: the contents of all first lines without the part, the names of the faults,
-- the verdict on each, and the merged parts
pub record MergeState : Type 0 where
  pub head : PartHead
  pub faults : List (List ℕ)
  pub verdicts : List PartVerdict
  pub seen : List ℕ

abbrev pub state_of : Merge → MergeState
state_of m = record {
  head = head_in m.header;
  faults = texts_in m.faults.items;
  verdicts = m.verdicts.items;
  seen = m.seen.items;
}

-- the first text
pub record IsFirstMerged (text : List ℕ) (new : MergeState) : Type 0 where
  pub part : IsPart text new.head new.faults new.verdicts
  pub seen : new.seen ≡ new.head.part ∷ []

-- one more text
pub record IsMerged (old : MergeState) (text : List ℕ) (new : MergeState) : Type 0 where
  pub head : PartHead
  pub verdicts : List PartVerdict
  pub part : IsPart text head old.faults verdicts
  pub run : AreOfOneRun old.head head
  pub fresh : Contains old.seen head.part → ⊥
  pub head_is : new.head ≡ old.head
  pub faults_are : new.faults ≡ old.faults
  pub joined : AreJoined old.verdicts verdicts new.verdicts
  pub seen : new.seen ≡ old.seen ++ head.part ∷ []

-- why the first line of a part is of another run
abbrev pub IsOtherRun : PartHead → PartHead → MergeFault → Type 0
IsOtherRun h k fault.OtherModel = h.model ≢ k.model
IsOtherRun h k fault.OtherRule = h.rule ≢ k.rule
IsOtherRun h k fault.OtherInputs = (h.bench ≢ k.bench) ⊎ (h.tests ≢ k.tests)
IsOtherRun h k fault.OtherCount = h.parts ≢ k.parts
IsOtherRun h k _ = ⊥

-- The condition of each error of one more file. The error is in the file, or in the file and the
-- state of the merge. A part can be there again, and a fault can differ, only in a file of the same
-- run. A fault can differ only in a file of a part that is not there.
abbrev pub IsMergeRefusal : MergeState → List ℕ → MergeFault → Type 0
IsMergeRefusal old text (fault.Part f) = IsPartRefusal text f
IsMergeRefusal old text (fault.Again number) = (h : PartHead) × (faults : List (List ℕ))
    × (verdicts : List PartVerdict) × IsPart text h faults verdicts × AreOfOneRun old.head h
    × Contains old.seen h.part × (number ≡ h.part + 1)
IsMergeRefusal old text (fault.Differs line) = (h : PartHead) × (faults : List (List ℕ))
    × (verdicts : List PartVerdict) × IsPart text h faults verdicts × AreOfOneRun old.head h
    × (Contains old.seen h.part → ⊥) × (k : ℕ) × (line ≡ k + 2)
    × (DifferAt old.faults faults k ⊎ HaveBoth old.verdicts verdicts k)
IsMergeRefusal old text fault.Memory = Unit {0}
IsMergeRefusal old text f = (h : PartHead) × (faults : List (List ℕ))
    × (verdicts : List PartVerdict) × IsPart text h faults verdicts × IsOtherRun old.head h f

-- the condition of each error of the first file
abbrev pub IsFirstRefusal : List ℕ → MergeFault → Type 0
IsFirstRefusal text (fault.Part f) = IsPartRefusal text f
IsFirstRefusal text fault.Memory = Unit {0}
IsFirstRefusal text f = ⊥

-- the result of a merge of all parts: the names of the faults, and the first test of each, or none
pub record MergedRun : Type 0 where
  pub faults : List (List ℕ)
  pub firsts : List (Option ℕ)

abbrev pub run_of : Merged → MergedRun
run_of m = record {
  faults = texts_in m.faults.items;
  firsts = m.firsts.items;
}

-- the report of faults that are given as texts
abbrev pub report_text : List (List ℕ) → List (Option ℕ) → Lines → List ℕ
report_text names firsts lines = flat_map (wanted_name lines) (zip names firsts)
    ++ coverage_line (detected_count firsts) (length firsts)

-- this many parts are there, from part 0 on
abbrev pub HasParts : List ℕ → ℕ → Type 0
HasParts seen count = (part : ℕ) → part < count → Contains seen part

-- all parts are there, and each fault is of one: each verdict is a first test
pub record IsWholeRun (old : MergeState) (new : MergedRun) : Type 0 where
  pub parts : HasParts old.seen old.head.parts
  pub faults : new.faults ≡ old.faults
  pub verdicts : old.verdicts ≡ map First new.firsts

-- The condition of each error of the step from verdicts to first tests: the first fault of no part,
-- by its line in a part file; or refused memory.
abbrev pub IsOpenRefusal : List PartVerdict → MergeFault → Type 0
IsOpenRefusal verdicts (fault.NoPart line) = (firsts : List (Option ℕ)) × (rest : List PartVerdict)
    × (verdicts ≡ map First firsts ++ OtherPart ∷ rest) × (line ≡ length firsts + 2)
IsOpenRefusal verdicts fault.Memory = Unit {0}
IsOpenRefusal verdicts _ = ⊥

-- The condition of each error of the end of a merge: the lowest part that isn't there, then the
-- first fault of no part, and then a number of faults that no circuit has. Refused memory is
-- possible in place of each of them but the first.
abbrev pub IsEndRefusal : MergeState → MergeFault → Type 0
IsEndRefusal s (fault.Missing number) = (part : ℕ) × (number ≡ part + 1) × (part < s.head.parts)
    × HasParts s.seen part × (Contains s.seen part → ⊥)
IsEndRefusal s fault.NoFault = HasParts s.seen s.head.parts × (s.verdicts ≡ [])
IsEndRefusal s fault.TooManyFaults = HasParts s.seen s.head.parts × (firsts : List (Option ℕ))
    × (s.verdicts ≡ map First firsts) × (2 ^ 32 ≤ length firsts)
IsEndRefusal s f = HasParts s.seen s.head.parts × IsOpenRefusal s.verdicts f
