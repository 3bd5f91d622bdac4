-- The part of a run whose tests may stand apart.
use Rattle.std.proofs.Common.{◌≡◌, ◌∙◌, ℕ, List, Option, Some, ap, length, subst}
use Rattle.std.specs.Prelude.{slice_get}
use Rattle.bench_net.specs.Statement.{Statement}
use Rattle.fault_model.specs.{Collapse.Collapsed, Fault.FaultList}
use Rattle.patterns.specs.Tests.{TestList}
use Rattle.block_sim.specs.Parts.{Parts, with_tests}
use Rattle.region_runs.specs.declared.parts.PartVerdict.{PartVerdict, TheVariants.First}
use Rattle.region_runs.specs.{Part.{ArePartOf, stretches_for}, Tasks.first_tests}
use Rattle.region_runs.specs.RunJobs.{AreKeptByLedgers, IsPartByLedgers}
use Rattle.region_runs.proofs.WindowSteps.{part_with}

abbrev parts_with : List Statement → FaultList → Collapsed → TestList → Parts
parts_with c list classes tests = record {
  circuit = c;
  list = list;
  classes = classes;
  tests = tests;
}

-- two jobs that differ in their tests alone
in_view : (a b : Parts) → a.circuit ≡ b.circuit → a.list ≡ b.list → a.classes ≡ b.classes
    → with_tests a b.tests ≡ b
in_view a b c l k = ap (λ x. parts_with x a.list a.classes b.tests) c
    ∙ (ap (λ x. parts_with b.circuit x a.classes b.tests) l
    ∙ ap (λ x. parts_with b.circuit b.list x b.tests) k)

-- have the same parts
pub part_in_view : (a b : Parts) (parts part : ℕ) (classes : List ℕ) → a.circuit ≡ b.circuit
    → a.list ≡ b.list → a.classes ≡ b.classes → ArePartOf a parts part classes
    → ArePartOf b parts part classes
part_in_view a b parts part classes c l k own =
    subst (λ j. ArePartOf j parts part classes) (in_view a b c l k)
    (part_with a b.tests parts part classes own)

-- the verdicts of a part were found by ledgers if the first tests of its classes were
pub part_by_ledgers : (job : Parts) (parts part workers n : ℕ) (classes : List ℕ)
    (firsts : List (Option ℕ)) (verdicts : List PartVerdict) → ArePartOf job parts part classes
    → n ≡ stretches_for (length classes) workers
    → ((i class : ℕ) (first : Option ℕ) → slice_get job.classes.class_of i ≡ Some class
    → slice_get verdicts i ≡ Some (First first)
    → (k : ℕ) × (slice_get classes k ≡ Some class) × (slice_get firsts k ≡ Some first))
    → AreKeptByLedgers (first_tests job) n workers classes firsts
    → IsPartByLedgers job parts part workers verdicts
part_by_ledgers job parts part workers n classes firsts verdicts own e each h = record {
  classes = classes;
  are = own;
  firsts = firsts;
  of = subst (λ k. AreKeptByLedgers (first_tests job) k workers classes firsts) e h;
  each = each;
}
