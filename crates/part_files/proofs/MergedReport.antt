-- The report of a merge of part files is the report of the files that the parts come from.
use Rattle.std.proofs.Common.{◌≡◌, ◌<◌, ℕ, suc, List, [], ◌∷◌, All, length, get_or, refl, sym, ap}
use Rattle.std.proofs.Common.{◌∙◌, ◌++◌, subst, Option, Some, false, true, arith, map, append-nil}
use Rattle.std.{specs.Prelude.{codes, option_map, slice_get}, proofs.lemmas.List.length-map}
use Rattle.std.proofs.lemmas.Option.{get_or_from_slice_get, slice_get-get_or, slice_get-map}
use Rattle.std.proofs.lemmas.Option.{slice_get_within}
use Rattle.bench_net.specs.{Statement.Statement, Refusal.IsAccepted, Scan.sources}
use Rattle.fault_model.specs.{declared.Model.Model, Fault.{Fault, faults}, Solution.Test}
use Rattle.fault_model.specs.declared.Model.TheVariants.{StuckAt, Transition, TransitionPairs}
use Rattle.fault_model.specs.Collapse.{AreClassesOf, Collapsed}
use Rattle.patterns.specs.Tests.{HasTests, TestList}
use Rattle.block_sim.specs.{First.IsFirst, Parts.Parts}
use Rattle.workers.specs.Verdict.{AreFirsts}
use Rattle.region_runs.specs.{declared.parts.PartVerdict.PartVerdict, Part.ArePartVerdicts}
use Rattle.region_runs.specs.declared.parts.PartVerdict.TheVariants.{First, OtherPart}
use Rattle.report.specs.declared.contents.Lines.{Lines, TheVariants.Omitted}
use Rattle.report.specs.{EndToEnd.IsReportOf, Report.{class_coverage_line, fault_text, report}}
use Rattle.report.specs.RunIdentity.{model_name}
use Rattle.job_loading.specs.{Jobs.IsJobOf, Sums.sum_text}
use Rattle.part_files.specs.Merging.{AreOfOneRun, IsFirstMerged, IsJoined, IsMerged, IsWholeRun}
use Rattle.part_files.specs.{Merging.{MergedRun, MergeState, report_text}, PartReading.IsPart}
use Rattle.part_files.specs.WholeMerge.{AreMerged, IsMergeOf, IsPartOf, IsSomePartOf}
use Rattle.part_files.specs.WholeMerge.{IsSomePartDistinguished, IsDistinguished, PartedRun}
use Rattle.part_files.{specs.PartText.{PartHead, head_of}, proofs.OnePartText.one_part}
use Rattle.part_files.proofs.{PartPieces.report_of_texts, WrittenParts.{first_of_part, part_is}}

-- a text has one circuit
abbrev pub OneCircuit : Type 0
OneCircuit = (text : List ℕ) (c d : List Statement) → IsAccepted text c → IsAccepted text d → c ≡ d

-- models have different names
other_length : (xs ys : List ℕ) → (length xs ≡ length ys → ⊥) → xs ≡ ys → ⊥
other_length xs ys other e = other (ap (λ (l : List ℕ). length l) e)

same_model : (m k : Model) → model_name m ≡ model_name k → m ≡ k
same_model StuckAt StuckAt e = refl
same_model StuckAt Transition e =
    absurd (other_length (codes "stuck") (codes "transition") (λ h. omega (arith, h)) e)
same_model StuckAt TransitionPairs e =
    absurd (other_length (codes "stuck") (codes "transition-pairs") (λ h. omega (arith, h)) e)
same_model Transition StuckAt e =
    absurd (other_length (codes "transition") (codes "stuck") (λ h. omega (arith, h)) e)
same_model Transition Transition e = refl
same_model Transition TransitionPairs e =
    absurd (other_length (codes "transition") (codes "transition-pairs") (λ h. omega (arith, h)) e)
same_model TransitionPairs StuckAt e =
    absurd (other_length (codes "transition-pairs") (codes "stuck") (λ h. omega (arith, h)) e)
same_model TransitionPairs Transition e =
    absurd (other_length (codes "transition-pairs") (codes "transition") (λ h. omega (arith, h)) e)
same_model TransitionPairs TransitionPairs e = refl

-- the first line of the text of a part of a run, and the names and verdicts in it
abbrev pub head_in_run : PartedRun → ℕ → PartHead
head_in_run run part = head_of run.model run.bench run.tests part run.parts

pub told : (run : PartedRun) (part : ℕ) (bytes : List ℕ) → (of : IsPartOf run part bytes)
    → IsPart bytes (head_in_run run part)
    (map (fault_text of.text.0.circuit) (faults run.model of.text.0.circuit)) of.text.2.0
told run part bytes of =
    part_is run.parts part run.model run.bench run.tests bytes of.below of.few of.text

-- a file with the values of another one was read as it was written
pub read_as : (run : PartedRun) (part : ℕ) (bytes : List ℕ) (h : PartHead) (names : List (List ℕ))
    (verdicts : List PartVerdict) → (of : IsPartOf run part bytes) → IsPart bytes h names verdicts
    → (h ≡ head_in_run run part)
    × (names ≡ map (fault_text of.text.0.circuit) (faults run.model of.text.0.circuit))
    × (verdicts ≡ of.text.2.0)
read_as run part bytes h names verdicts of is = one_part bytes h (head_in_run run part) names
    (map (fault_text of.text.0.circuit) (faults run.model of.text.0.circuit)) verdicts of.text.2.0
    is (told run part bytes of)

-- The state of a merge is true of a circuit and of tests. The first line is the line of the run,
-- and the names are the names of the circuit's faults. Each first test is the first that detects
-- its fault.
record IsSound (run : PartedRun) (c : List Statement) (tests : List Test)
    (s : MergeState) : Type 0 where
  pub part : ℕ
  pub head : s.head ≡ head_in_run run part
  pub faults_are : s.faults ≡ map (fault_text c) (faults run.model c)
  pub count : length s.verdicts ≡ length (faults run.model c)
  pub each : (k : ℕ) (f : Fault) (first : Option ℕ) → slice_get (faults run.model c) k ≡ Some f
      → slice_get s.verdicts k ≡ Some (First first) → IsFirst c tests f first

-- so are the values of the first file
sound_first : (run : PartedRun) (bytes : List ℕ) (s : MergeState) → (of : IsSomePartOf run bytes)
    → IsFirstMerged bytes s → IsSound run of.1.text.0.circuit of.1.text.0.tests.tests s
sound_first run bytes s of is =
    let text = of.1.text in
    let same = read_as run of.0 bytes s.head s.faults s.verdicts of.1 is.part in
    record {
      part = of.0;
      head = same.0;
      faults_are = same.1;
      count = ap (λ (l : List PartVerdict). length l) same.2
          ∙ sym (told run of.0 bytes of.1).lines.same
          ∙ length-map (faults run.model text.0.circuit) (fault_text text.0.circuit);
      each = λ k f first ef ev.
          first_of_part text.0 run.parts of.0 text.2.0 run.model run.bench run.tests text.1 text.2.1
          k f first ef (ap (λ (l : List PartVerdict). slice_get l k) (sym same.2) ∙ ev);
    }

-- the first tests of a part, in terms of the circuit and the tests of the bench file and the test
-- file
part_firsts : (m : Model) (bench text : List ℕ) (job : Parts) (parts part : ℕ)
    (verdicts : List PartVerdict) (c : List Statement) (tests : List Test) → job.circuit ≡ c
    → job.tests.tests ≡ tests → IsJobOf m bench text job → ArePartVerdicts job parts part verdicts
    → (k : ℕ) (f : Fault) (first : Option ℕ) → slice_get (faults m c) k ≡ Some f
    → slice_get verdicts k ≡ Some (First first) → IsFirst c tests f first
part_firsts m bench text job parts part verdicts c tests circuit same_tests is are k f first ef ev =
    subst (λ t. IsFirst c t f first) same_tests
    (subst (λ x. IsFirst x job.tests.tests f first) circuit
    (first_of_part job parts part verdicts m bench text is are k f first
    (ap (λ x. slice_get (faults m x) k) circuit ∙ ef) ev))

-- a job of a run that the sums distinguish from another, and that begins with the other's first
-- line, is a job of the other
pub job_of_run : (run other : PartedRun) (part to : ℕ) (old head : PartHead) (job : Parts)
    → IsDistinguished run other → old ≡ head_in_run run to → head ≡ head_in_run other part
    → AreOfOneRun old head → IsJobOf other.model other.bench other.tests job
    → IsJobOf run.model run.bench run.tests job
job_of_run run other part to old head job apart is was same of =
    subst (λ t. IsJobOf run.model run.bench t job) (apart.tests tests)
    (subst (λ b. IsJobOf run.model b other.tests job) (apart.bench bench)
    (subst (λ m. IsJobOf m other.bench other.tests job)
    (same_model other.model run.model model) of))
  where
    model : model_name other.model ≡ model_name run.model
    model = ap (λ (h : PartHead). h.model) (sym was) ∙ sym same.model
        ∙ ap (λ (h : PartHead). h.model) is

    bench : sum_text other.bench ≡ sum_text run.bench
    bench = ap (λ (h : PartHead). h.bench) (sym was) ∙ sym same.bench
        ∙ ap (λ (h : PartHead). h.bench) is

    tests : sum_text other.tests ≡ sum_text run.tests
    tests = ap (λ (h : PartHead). h.tests) (sym was) ∙ sym same.tests
        ∙ ap (λ (h : PartHead). h.tests) is

-- the values of one more file
sound_more : (run : PartedRun) (bytes : List ℕ) (c : List Statement) (tests : List Test)
    (old new : MergeState) → OneCircuit → IsAccepted run.bench c
    → ((job : Parts) → IsJobOf run.model run.bench run.tests job → job.tests.tests ≡ tests)
    → IsSomePartDistinguished run bytes → IsMerged old bytes new → IsSound run c tests old
    → IsSound run c tests new
sound_more run bytes c tests old new one accepted alike (other, apart, (part, of)) is was = record {
  part = was.part;
  head = is.head_is ∙ was.head;
  faults_are = is.faults_are ∙ was.faults_are;
  count = is.joined.count ∙ was.count;
  each = λ k f first ef ev.
      let within = slice_get_within new.verdicts k (First first) ev in
      let here = get_or_from_slice_get new.verdicts k (First first) OtherPart ev in
      let low : k < length (faults run.model c) =
      omega (arith, within, is.joined.count, was.count) in
      joined k f first ef (get_or old.verdicts k OtherPart) (get_or is.verdicts k OtherPart)
      (slice_get-get_or old.verdicts k OtherPart (omega (arith, low, was.count)))
      (slice_get-get_or is.verdicts k OtherPart (omega (arith, low, long)))
      (subst (IsJoined (get_or old.verdicts k OtherPart) (get_or is.verdicts k OtherPart)) here
      (is.joined.each k OtherPart within));
}
  where
    same : (is.head ≡ head_in_run other part)
        × (old.faults ≡ map (fault_text of.text.0.circuit) (faults other.model of.text.0.circuit))
        × (is.verdicts ≡ of.text.2.0)
    same = read_as other part bytes is.head old.faults is.verdicts of is.part

    job : IsJobOf run.model run.bench run.tests of.text.0
    job = job_of_run run other part was.part old.head is.head of.text.0 apart was.head same.0 is.run
        of.text.1

    long : length is.verdicts ≡ length (faults run.model c)
    long = sym is.part.lines.same ∙ ap (λ (l : List (List ℕ)). length l) was.faults_are
        ∙ length-map (faults run.model c) (fault_text c)

    joined : (k : ℕ) (f : Fault) (first : Option ℕ) → slice_get (faults run.model c) k ≡ Some f
        → (a b : PartVerdict) → slice_get old.verdicts k ≡ Some a → slice_get is.verdicts k ≡ Some b
        → IsJoined a b (First first) → IsFirst c tests f first
    joined k f first ef OtherPart b ea eb both =
        part_firsts run.model run.bench run.tests of.text.0 other.parts part of.text.2.0 c tests
        (one run.bench of.text.0.circuit c job.0 accepted) (alike of.text.0 job) job
        of.text.2.1 k f first ef
        (ap (λ (l : List PartVerdict). slice_get l k) (sym same.2) ∙ eb ∙ ap Some (sym both))
    joined k f first ef (First g) OtherPart ea eb both =
        was.each k f first ef (ea ∙ ap Some (sym both))
    joined k f first ef (First g) (First h) ea eb both = absurd both

-- and the values of more files
sound_all : (run : PartedRun) (c : List Statement) (tests : List Test) (others : List (List ℕ))
    (old new : MergeState) → OneCircuit → IsAccepted run.bench c
    → ((job : Parts) → IsJobOf run.model run.bench run.tests job → job.tests.tests ≡ tests)
    → All (IsSomePartDistinguished run) others → AreMerged others old new → IsSound run c tests old
    → IsSound run c tests new
sound_all run c tests [] old new one accepted same_tests all are was =
    subst (IsSound run c tests) (sym are) was
sound_all run c tests (bytes ∷ others) old new one accepted same_tests all are was =
    sound_all run c tests others are.0 new one accepted same_tests
    (λ k d lt. all (suc k) d (omega (arith, lt))) are.2
    (sound_more run bytes c tests old are.0 one accepted same_tests (all 0 bytes (omega arith))
    are.1 was)

-- the first tests of a whole run
firsts_are : (run : PartedRun) (c : List Statement) (tests : List Test) (s : MergeState)
    (merged : MergedRun) → IsSound run c tests s → IsWholeRun s merged
    → AreFirsts run.model c tests merged.firsts
firsts_are run c tests s merged sound whole = record {
  count = sym (length-map merged.firsts First)
      ∙ ap (λ (l : List PartVerdict). length l) (sym whole.verdicts) ∙ sound.count;
  first = λ i f first ef ev. sound.each i f first ef
      (ap (λ (l : List PartVerdict). slice_get l i) whole.verdicts
      ∙ slice_get-map First merged.firsts i ∙ ap (option_map First) ev);
}

-- a merge of parts of a run has the first tests of the run's circuit and tests, and the lines of
-- its report
merge_of_run : OneCircuit → (run : PartedRun) (first : List ℕ) (others : List (List ℕ))
    (merged : MergedRun) (lines : Lines) → IsSomePartOf run first
    → All (IsSomePartDistinguished run) others → IsMergeOf first others merged
    → (job : Parts) × IsJobOf run.model run.bench run.tests job
    × AreFirsts run.model job.circuit job.tests.tests merged.firsts
    × (report_text merged.faults merged.firsts lines
    ≡ report run.model job.circuit merged.firsts lines)
merge_of_run one run first others merged lines of all is =
    let job = of.1.text.0 in
    let job_is : IsJobOf run.model run.bench run.tests job = of.1.text.1 in
    let c = job.circuit in
    let begun = sound_first run first is.begun of is.first_is in
    let sound = sound_all run c job.tests.tests others is.begun is.all one job_is.0
    (λ other at. at.1.2 ∙ sym job_is.1.2) all is.others_are begun in (
      job,
      job_is,
      firsts_are run c job.tests.tests is.all merged sound is.whole,
      ap (λ l. report_text l merged.firsts lines) (is.whole.faults ∙ sound.faults_are)
          ∙ report_of_texts run.model c merged.firsts lines,
    )

pub report_of_merge : OneCircuit → (run : PartedRun) (first : List ℕ) (others : List (List ℕ))
    (merged : MergedRun) (lines : Lines) → IsSomePartOf run first
    → All (IsSomePartDistinguished run) others → IsMergeOf first others merged
    → IsReportOf run.model run.bench run.tests (record { lines = lines; classes = false })
    (report_text merged.faults merged.firsts lines)
report_of_merge one run first others merged lines of all is =
    let whole = merge_of_run one run first others merged lines of all is in
    let job = whole.0 in
    let job_is : IsJobOf run.model run.bench run.tests job = whole.1 in (
      job.circuit,
      job.tests,
      job.classes,
      merged.firsts,
      job_is.0,
      job_is.1,
      subst (λ x. AreClassesOf x job.circuit job.classes) job_is.3 job_is.2.classes,
      whole.2,
      whole.3 ∙ sym (append-nil (report run.model job.circuit merged.firsts lines)),
    )

-- the same with the coverage of the classes of the run's circuit
pub class_report_of_merge : OneCircuit → (run : PartedRun) (first : List ℕ)
    (others : List (List ℕ)) (merged : MergedRun) (lines : Lines) (c : List Statement)
    (classes : Collapsed) → IsSomePartOf run first → All (IsSomePartDistinguished run) others
    → IsMergeOf first others merged → IsAccepted run.bench c → AreClassesOf run.model c classes
    → IsReportOf run.model run.bench run.tests (record { lines = lines; classes = true })
    (report_text merged.faults merged.firsts lines ++ class_coverage_line classes merged.firsts)
class_report_of_merge one run first others merged lines c classes of all is accepted are =
    let whole = merge_of_run one run first others merged lines of all is in
    let job = whole.0 in
    let job_is : IsJobOf run.model run.bench run.tests job = whole.1 in
    let same : c ≡ job.circuit = one run.bench c job.circuit accepted job_is.0 in (
      job.circuit,
      job.tests,
      classes,
      merged.firsts,
      job_is.0,
      job_is.1,
      subst (λ x. AreClassesOf run.model x classes) same are,
      whole.2,
      ap (λ l. l ++ class_coverage_line classes merged.firsts) whole.3,
    )

-- its first tests are the first tests of the circuit of the run's bench file
pub firsts_of_merge : OneCircuit → (run : PartedRun) (first : List ℕ) (others : List (List ℕ))
    (merged : MergedRun) (c : List Statement) → IsSomePartOf run first
    → All (IsSomePartDistinguished run) others → IsMergeOf first others merged
    → IsAccepted run.bench c → (tests : TestList) × HasTests run.tests (length (sources c)) tests
    × AreFirsts run.model c tests.tests merged.firsts
firsts_of_merge one run first others merged c of all is accepted =
    let whole = merge_of_run one run first others merged Omitted of all is in
    let job = whole.0 in
    let job_is : IsJobOf run.model run.bench run.tests job = whole.1 in
    let same : job.circuit ≡ c = one run.bench job.circuit c job_is.0 accepted in (
      job.tests,
      subst (λ x. HasTests run.tests (length (sources x)) job.tests) same job_is.1,
      subst (λ x. AreFirsts run.model x job.tests.tests merged.firsts) same whole.2,
    )
