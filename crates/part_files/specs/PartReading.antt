-- The contents of a part file, and the errors of a file that is none.
use Rattle.std.specs.Prelude.{◌≡◌, ◌≢◌, ◌⊎◌, ◌<◌, ◌^◌, ℕ, ◌+◌, List, ◌∷◌, ◌++◌, map, zip, flat_map}
use Rattle.std.specs.Prelude.{length, count_by, codes, Some, None}
use Rattle.std.specs.List.{AllByRecursion}
use denote.Ref.{Bor}
use Rattle.region_runs.specs.declared.parts.PartVerdict.{PartVerdict}
use Rattle.region_runs.specs.declared.parts.PartVerdict.TheVariants.{First, OtherPart}
use Rattle.part_files.specs.declared.part_reader.PartHeader.{PartHeader}
use Rattle.part_files.specs.declared.part_reader.Words.{Words}
use Rattle.part_files.specs.declared.part_reader.PartFault.{PartFault}
use Rattle.part_files.specs.declared.part_reader.PartFault.TheVariants as fault
use Rattle.part_files.specs.Cut.{Lacks}
use Rattle.part_files.specs.PartText.{PartHead, head_line, verdict_line, end_line, part_text}
use Rattle.part_files.specs.PartText.{is_found}
use Rattle.part_files.specs.PartText.{is_own}

-- a word has a byte at least, and no space and no line feed
pub record IsWord (word : List ℕ) : Type 0 where
  pub some : 0 < length word
  pub no_space : Lacks 32 word
  pub one_line : Lacks 10 word

-- the values of a first line
pub record IsHead (h : PartHead) : Type 0 where
  pub below : h.part < h.parts
  pub few : h.parts < 2 ^ 32
  pub model : IsWord h.model
  pub rule : IsWord h.rule
  pub bench : IsWord h.bench
  pub tests : IsWord h.tests

-- a fault can be named so: on one line, which doesn't begin as the last line does
pub record IsFaultName (name : List ℕ) : Type 0 where
  pub one_line : Lacks 10 name
  pub no_end : (rest : List ℕ) → name ≢ codes "part " ++ rest

-- a number of a test has 32 bits
abbrev pub IsVerdict : PartVerdict → Type 0
IsVerdict (First (Some t)) = t < 2 ^ 32
IsVerdict (First None) = Unit {0}
IsVerdict OtherPart = Unit {0}

-- the values of the line of a fault
pub record IsLine (at : List ℕ × PartVerdict) : Type 0 where
  pub name : IsFaultName at.0
  pub verdict : IsVerdict at.1

-- the names of faults, and the verdict on each
pub record AreLines (faults : List (List ℕ)) (verdicts : List PartVerdict) : Type 0 where
  pub same : length faults ≡ length verdicts
  pub each : AllByRecursion IsLine (zip faults verdicts)

-- the bytes are the part file of these values
pub record IsPart (text : List ℕ) (h : PartHead) (faults : List (List ℕ))
    (verdicts : List PartVerdict) : Type 0 where
  pub head : IsHead h
  pub lines : AreLines faults verdicts
  pub whole : text ≡ part_text h faults verdicts

-- the bytes begin as a part file of these values, with more bytes after the lines of the faults
pub record IsBegun (text : List ℕ) (h : PartHead) (faults : List (List ℕ))
    (verdicts : List PartVerdict) (more : List ℕ) : Type 0 where
  pub head : IsHead h
  pub lines : AreLines faults verdicts
  pub whole : text ≡ head_line h ++ (flat_map verdict_line (zip faults verdicts) ++ more)

-- the last line that fits the lines before it
abbrev pub end_of : PartHead → List PartVerdict → List ℕ
end_of h verdicts = end_line h.part h.parts (count_by is_found verdicts) (count_by is_own verdicts)

-- no line of a fault is this one
abbrev pub IsNoFaultLine : List ℕ → Type 0
IsNoFaultLine line = (at : List ℕ × PartVerdict) → IsLine at → line ++ codes "\n" ≢ verdict_line at

-- The first line, whole, is the first line of no part file.
pub record IsBadHead (text : List ℕ) : Type 0 where
  pub line : List ℕ
  pub more : List ℕ
  pub whole : text ≡ line ++ 10 ∷ more
  pub one_line : Lacks 10 line
  pub bad : (h : PartHead) → IsHead h → line ++ codes "\n" ≢ head_line h

-- After this many lines of faults comes a whole line that is neither the line of a fault nor the
-- last line.
pub record IsBadLine (text : List ℕ) (count : ℕ) : Type 0 where
  pub head : PartHead
  pub faults : List (List ℕ)
  pub verdicts : List PartVerdict
  pub line : List ℕ
  pub more : List ℕ
  pub begun : IsBegun text head faults verdicts (line ++ 10 ∷ more)
  pub count_is : length faults ≡ count
  pub one_line : Lacks 10 line
  pub no_fault : IsNoFaultLine line
  pub no_end : line ++ codes "\n" ≢ end_of head verdicts

-- After this many lines of faults comes the last line, and more bytes after it.
pub record HasMore (text : List ℕ) (count : ℕ) : Type 0 where
  pub head : PartHead
  pub faults : List (List ℕ)
  pub verdicts : List PartVerdict
  pub more : List ℕ
  pub begun : IsBegun text head faults verdicts (end_of head verdicts ++ more)
  pub count_is : length faults ≡ count
  pub some : 0 < length more

-- The file ends before its last line does: within the first line, or after some lines of faults.
pub record IsCutLines (text : List ℕ) : Type 0 where
  pub head : PartHead
  pub faults : List (List ℕ)
  pub verdicts : List PartVerdict
  pub more : List ℕ
  pub begun : IsBegun text head faults verdicts more
  pub one_line : Lacks 10 more

-- The condition of each error of a file that is no part file. Lines count from 1; each line before
-- the one of the error is right.
abbrev pub IsPartRefusal : List ℕ → PartFault → Type 0
IsPartRefusal text (fault.NotAPart line) = ((line ≡ 1) × IsBadHead text)
    ⊎ ((count : ℕ) × (((line ≡ count + 2) × IsBadLine text count)
    ⊎ ((line ≡ count + 3) × HasMore text count)))
IsPartRefusal text fault.CutOff = Lacks 10 text ⊎ IsCutLines text
IsPartRefusal text fault.Memory = Unit {0}

-- the reason why a line of this number is not the end of a part file: it is another line, or more
-- bytes come after it
abbrev pub IsEndFault : List ℕ → List ℕ → PartHead → List PartVerdict → ℕ → PartFault → Type 0
IsEndFault line after h verdicts number f =
    ((f ≡ fault.NotAPart number) × (line ++ codes "\n" ≢ end_of h verdicts))
    ⊎ ((f ≡ fault.NotAPart (number + 1)) × (line ++ codes "\n" ≡ end_of h verdicts)
    × (0 < length after))

-- the values of a first line that was read
abbrev pub head_in : PartHeader → PartHead
head_in h = record {
  part = h.part;
  parts = h.parts;
  model = h.model.now;
  rule = h.rule.now;
  bench = h.bench.now;
  tests = h.tests.now;
}

-- the texts at these references
abbrev pub texts_in : List (Bor (List ℕ)) → List (List ℕ)
texts_in = map (λ text. text.now)

-- the words of a first line from the model on, and that line from there, without its line feed
pub record WordTexts : Type 0 where
  pub model : List ℕ
  pub rule : List ℕ
  pub bench : List ℕ
  pub tests : List ℕ

pub record AreWords (w : WordTexts) : Type 0 where
  pub model : IsWord w.model
  pub rule : IsWord w.rule
  pub bench : IsWord w.bench
  pub tests : IsWord w.tests

abbrev pub words_text : WordTexts → List ℕ
words_text w = codes "model " ++ (w.model ++ 32 ∷ (codes "rule " ++ (w.rule ++ 32 ∷
    (codes "bench " ++ (w.bench ++ 32 ∷ (codes "tests " ++ w.tests))))))

abbrev pub words_in : Words → WordTexts
words_in w = record {
  model = w.model.now;
  rule = w.rule.now;
  bench = w.bench.now;
  tests = w.tests.now;
}
