-- The text that is written for a part is a part file.
use Rattle.std.proofs.Common.{◌≡◌, ◌≢◌, ◌<◌, ◌^◌, ◌/◌, ◌%◌, ℕ, zero, suc, List, [], ◌∷◌, length}
use Rattle.std.proofs.Common.{refl, sym, ap, ◌∙◌, Option, Some, None, arith, map, true, lit<}
use Rattle.std.specs.{Prelude.{codes, slice_get, slice_index, zip}, List.AllByRecursion}
use Rattle.std.proofs.lemmas.List.{length-map}
use Rattle.hex.{specs.Hex.{encode_with, lower_digits}, proofs.HexLemmas.length-encode_with}
use Rattle.sha2.{specs.Sha256.sha256, proofs.Facts256.length-sha256}
use Rattle.list_lemmas.proofs.Places.{place_within, within_place}
use Rattle.bench_net.specs.Statement.{Statement}
use Rattle.fault_model.specs.{declared.Model.Model, Fault.{Fault, faults}}
use Rattle.fault_model.specs.declared.Model.TheVariants.{StuckAt, Transition, TransitionPairs}
use Rattle.block_sim.specs.{First.IsFirst, Parts.Parts}
use Rattle.region_runs.specs.{declared.parts.PartVerdict.PartVerdict, Part.ArePartVerdicts}
use Rattle.region_runs.specs.declared.parts.PartVerdict.TheVariants.{First, OtherPart}
use Rattle.part_files.specs.{Cut.Lacks, PartText.{IsPartTextOf, part_text, head_of, rule_name}}
use Rattle.part_files.specs.PartReading.{IsHead, IsLine, IsPart, IsVerdict, IsWord}
use Rattle.part_files.proofs.{FaultNames.fault_named, OnePartText.{lacks_literal, lacks_test}}
use Rattle.job_loading.specs.{Jobs.IsJobOf, Sums.sum_text}
use Rattle.report.specs.{Report.fault_text, RunIdentity.model_name}

-- a digit of a table is none that the table lacks
digit_lacks : (byte : ℕ) (table : List ℕ) (k : ℕ) → 0 ≢ byte → Lacks byte table
    → slice_index table k ≢ byte
digit_lacks byte [] k other lacks = other
digit_lacks byte (d ∷ table) zero other lacks = lacks.0
digit_lacks byte (d ∷ table) (suc k) other lacks = digit_lacks byte table k other lacks.1

hex_lacks : (byte : ℕ) (table bytes : List ℕ) → 0 ≢ byte → Lacks byte table
    → Lacks byte (encode_with table bytes)
unfolding encode_with
hex_lacks byte table [] other lacks = tt
hex_lacks byte table (b ∷ bytes) other lacks =
    let low = digit_lacks byte table (b % 16) other lacks in (
      digit_lacks byte table (b / 16) other lacks,
      (low, hex_lacks byte table bytes other lacks),
    )

-- the sum of a text is a word
sum_is_word : (text : List ℕ) → IsWord (sum_text text)
unfolding lacks_test
sum_is_word text = record {
  some = let digits = length-encode_with lower_digits (sha256 text) in
      let bytes = length-sha256 text in omega (arith, digits, bytes);
  no_space = hex_lacks 32 lower_digits (sha256 text) (λ e. omega (arith, e))
      (lacks_literal 32 lower_digits refl);
  one_line = hex_lacks 10 lower_digits (sha256 text) (λ e. omega (arith, e))
      (lacks_literal 10 lower_digits refl);
}

-- so are the name of a model and the name of the rule
literal_word : (word : List ℕ) → 0 < length word → lacks_test 32 word ≡ true
    → lacks_test 10 word ≡ true → IsWord word
literal_word word some space line = record {
  some = some;
  no_space = lacks_literal 32 word space;
  one_line = lacks_literal 10 word line;
}

model_is_word : (m : Model) → IsWord (model_name m)
unfolding lacks_test
model_is_word StuckAt = literal_word (codes "stuck") (lit< tt) refl refl
model_is_word Transition = literal_word (codes "transition") (lit< tt) refl refl
model_is_word TransitionPairs = literal_word (codes "transition-pairs") (lit< tt) refl refl

rule_is_word : IsWord rule_name
unfolding lacks_test
rule_is_word = literal_word rule_name (lit< tt) refl refl

head_is : (m : Model) (bench text : List ℕ) (part parts : ℕ) → part < parts → parts < 2 ^ 32
    → IsHead (head_of m bench text part parts)
head_is m bench text part parts below few = record {
  below = below;
  few = few;
  model = model_is_word m;
  rule = rule_is_word;
  bench = sum_is_word bench;
  tests = sum_is_word text;
}

-- a first test in the verdicts of a part is the first that detects its fault
pub first_of_part : (job : Parts) (parts part : ℕ) (verdicts : List PartVerdict) (m : Model)
    (bench text : List ℕ) → IsJobOf m bench text job → ArePartVerdicts job parts part verdicts
    → (k : ℕ) (f : Fault) (first : Option ℕ) → slice_get (faults m job.circuit) k ≡ Some f
    → slice_get verdicts k ≡ Some (First first) → IsFirst job.circuit job.tests.tests f first
first_of_part job parts part verdicts m bench text is are k f first ef ev =
    let listed : slice_get (faults job.list.model job.circuit) k ≡ Some f =
    ap (λ x. slice_get (faults x job.circuit) k) is.3 ∙ ef in
    let within = place_within (faults job.list.model job.circuit) k f listed in
    let class = within_place job.classes.class_of k (omega (arith, within, is.2.classes.count)) in
    (are.each k class.0 f (First first) listed class.1 ev).1

-- the number of a test has 32 bits
verdict_small : (job : Parts) (parts part : ℕ) (verdicts : List PartVerdict) (m : Model)
    (bench text : List ℕ) → IsJobOf m bench text job → ArePartVerdicts job parts part verdicts
    → (k : ℕ) (v : PartVerdict) → slice_get verdicts k ≡ Some v → IsVerdict v
verdict_small job parts part verdicts m bench text is are k OtherPart e = tt
verdict_small job parts part verdicts m bench text is are k (First None) e = tt
verdict_small job parts part verdicts m bench text is are k (First (Some t)) e =
    let long = place_within verdicts k (First (Some t)) e in
    let listed =
    within_place (faults job.list.model job.circuit) k (omega (arith, long, are.count)) in
    let first = first_of_part job parts part verdicts m bench text is are k listed.0 (Some t)
    (ap (λ x. slice_get (faults x job.circuit) k) (sym is.3) ∙ listed.1) e in
    let low = place_within job.tests.tests t first.0.0 first.0.1 in
    omega (arith, low, is.2.tests.count)

-- the lines of the faults
all_lines : (c : List Statement) (fs : List Fault) (verdicts : List PartVerdict)
    → ((f : Fault) → IsLine (fault_text c f, OtherPart))
    → ((k : ℕ) (v : PartVerdict) → slice_get verdicts k ≡ Some v → IsVerdict v)
    → AllByRecursion IsLine (zip (map (fault_text c) fs) verdicts)
all_lines c [] verdicts named small = tt
all_lines c (f ∷ fs) [] named small = tt
all_lines c (f ∷ fs) (v ∷ verdicts) named small = (
  record { name = (named f).name; verdict = small 0 v refl },
  all_lines c fs verdicts named (λ k x e. small (suc k) x e),
)

-- the file of a part of a run is a part file
pub part_is : (parts part : ℕ) (m : Model) (bench text bytes : List ℕ) → part < parts
    → parts < 2 ^ 32 → (of : IsPartTextOf m bench text part parts bytes)
    → IsPart bytes (head_of m bench text part parts)
    (map (fault_text of.0.circuit) (faults m of.0.circuit)) of.2.0
part_is parts part m bench text bytes below few of = record {
  head = head_is m bench text part parts below few;
  lines = record {
    same = length-map (faults m of.0.circuit) (fault_text of.0.circuit)
        ∙ ap (λ x. length (faults x of.0.circuit)) (sym of.1.3) ∙ sym of.2.1.count;
    each = all_lines of.0.circuit (faults m of.0.circuit) of.2.0
        (λ f. record { name = fault_named bench of.0.circuit f of.1.0; verdict = tt })
        (verdict_small of.0 parts part of.2.0 m bench text of.1 of.2.1);
  };
  whole = of.2.2 ∙ ap (λ x. part_text (head_of m bench text part parts)
      (map (fault_text of.0.circuit) (faults x of.0.circuit)) of.2.0) of.1.3;
}
