-- The merge of the files of all parts of a run.
use Rattle.std.specs.Prelude.{◌≡◌, ◌≢◌, ◌⊎◌, ℕ, ◌<◌, ◌^◌, AllPairs, List, [], ◌∷◌}
use Rattle.std.specs.List.{AllZip}
use Rattle.fault_model.specs.declared.Model.{Model}
use Rattle.part_files.specs.declared.joining.MergeFault.{MergeFault}
use Rattle.part_files.specs.declared.joining.MergeFault.TheVariants as fault
use Rattle.part_files.specs.declared.part_reader.PartFault.TheVariants as part_fault
use Rattle.part_files.specs.Merging.{HasParts, IsEndRefusal, IsFirstMerged, IsFirstRefusal}
use Rattle.part_files.specs.Merging.{IsMerged}
use Rattle.part_files.specs.Merging.{IsMergeRefusal, IsWholeRun, MergedRun, MergeState}
use Rattle.part_files.specs.PartText.{IsPartTextOf}
use Rattle.job_loading.specs.Sums.{sum_text}

-- a run in parts: its model, its bench file and test file, and the number of parts
pub record PartedRun : Type 0 where
  pub model : Model
  pub bench : List ℕ
  pub tests : List ℕ
  pub parts : ℕ

-- the bytes are the text of this part of the run; parts have numbers of 32 bits
pub record IsPartOf (run : PartedRun) (part : ℕ) (bytes : List ℕ) : Type 0 where
  pub below : part < run.parts
  pub few : run.parts < 2 ^ 32
  pub text : IsPartTextOf run.model run.bench run.tests part run.parts bytes

-- the bytes are the text of some part of the run
abbrev pub IsSomePartOf : PartedRun → List ℕ → Type 0
IsSomePartOf run bytes = (part : ℕ) × IsPartOf run part bytes

-- The sums distinguish another run from this one: a file with the same sum is the same file.
pub record IsDistinguished (run other : PartedRun) : Type 0 where
  pub bench : sum_text other.bench ≡ sum_text run.bench → other.bench ≡ run.bench
  pub tests : sum_text other.tests ≡ sum_text run.tests → other.tests ≡ run.tests

-- the bytes are the file of some part of this run, or of some run that the sums distinguish from it
abbrev pub IsSomePartDistinguished : PartedRun → List ℕ → Type 0
IsSomePartDistinguished run bytes = (other : PartedRun) × IsDistinguished run other
    × IsSomePartOf other bytes

-- the files are the files of all parts of a run, each part once, in any order
pub record AreAllPartsOf (run : PartedRun) (texts : List (List ℕ)) : Type 0 where
  pub numbers : List ℕ
  pub each : AllZip (IsPartOf run) numbers texts
  pub once : AllPairs (λ m n. m ≢ n) numbers
  pub all : HasParts numbers run.parts

-- more files were merged into the state, one after another
abbrev pub AreMerged : List (List ℕ) → MergeState → MergeState → Type 0
AreMerged [] old new = new ≡ old
AreMerged (text ∷ texts) old new = (next : MergeState) × IsMerged old text next
    × AreMerged texts next new

-- the texts, a first one and others, were put together to a whole run
pub record IsMergeOf (first : List ℕ) (others : List (List ℕ)) (merged : MergedRun) : Type 0 where
  pub begun : MergeState
  pub all : MergeState
  pub first_is : IsFirstMerged first begun
  pub others_are : AreMerged others begun all
  pub whole : IsWholeRun all merged

-- one of more files has an error, or the end of the merge after all of them
abbrev pub IsLaterRefusal : MergeState → List (List ℕ) → MergeFault → Type 0
IsLaterRefusal old [] f = IsEndRefusal old f
IsLaterRefusal old (text ∷ texts) f = IsMergeRefusal old text f
    ⊎ ((next : MergeState) × IsMerged old text next × IsLaterRefusal next texts f)

-- the files, a first one and others, have an error: the first, one of the others, or the whole
abbrev pub IsRefusedMerge : List ℕ → List (List ℕ) → MergeFault → Type 0
IsRefusedMerge first others f = IsFirstRefusal first f
    ⊎ ((begun : MergeState) × IsFirstMerged first begun × IsLaterRefusal begun others f)

-- memory was refused, to the reader of part files or to the merge
abbrev pub IsForMemory : MergeFault → Type 0
IsForMemory fault.Memory = Unit {0}
IsForMemory (fault.Part part_fault.Memory) = Unit {0}
IsForMemory _ = ⊥
