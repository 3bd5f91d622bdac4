-- Counts of classes, and of the faults of a class.
use Rattle.std.proofs.Common.{◌≡◌, ◌<◌, ◌∙◌, ℕ, List, Option, ap, arith, length, sym}
use Rattle.std.{specs.Prelude.{Some, slice_get}, proofs.lemmas.List.length-map}
use Rattle.std.proofs.lemmas.Option.{slice_get_within}
use Rattle.list_lemmas.proofs.Places.{within_place}
use Rattle.fault_model.specs.Fault.{Fault, FaultList, faults}
use Rattle.fault_model.specs.Collapse.{AreEquivalent, IsClassOf, representatives}
use Rattle.fault_model.proofs.Public.{classes_detected_same, own_class}
use Rattle.block_sim.specs.Parts.{BelongTogether, Parts}
use Rattle.n_detect.specs.Detections.{AreCounts, IsClassCount, IsCount}

-- as many tests detect a fault as detect the representative of its class
pub fault_count : (job : Parts) (most class n : ℕ) (f : Fault) → BelongTogether job
    → IsClassOf job.list.model job.circuit f class → IsClassCount job most class n
    → IsCount job.circuit job.tests.tests most f n
fault_count job most class n f b of count = record {
  detects = count.count.detects;
  decides = λ t.
      let same = classes_detected_same job.circuit b.circuit.well_formed b.circuit.arities f
      count.fault job.tests.tests t both in
      let own = count.count.decides t in
      (λ e. same.1 (own.0 e), λ d. own.1 (same.0 d));
  number = count.count.number;
}
  where
    both : AreEquivalent job.circuit f count.fault
    both =
        (job.list.model, class, of, own_class job.list.model job.circuit count.fault class count.of)

-- the class of a fault is one of the job's
pub class_within : (job : Parts) (fault class : ℕ) → BelongTogether job
    → slice_get job.classes.class_of fault ≡ Some class → class < length job.classes.representative
class_within job fault class b at =
    let lt = slice_get_within job.classes.class_of fault class at in
    let f =
    within_place (faults job.list.model job.circuit) fault (omega (arith, lt, b.classes.count)) in
    let of : IsClassOf job.list.model job.circuit f.0 class =
    b.classes.class fault f.0 class f.1 at in
    let within = slice_get_within (representatives job.list.model job.circuit) class of.0 of.3 in
    let count : length job.classes.representative
    ≡ length (representatives job.list.model job.circuit) =
    sym (length-map job.classes.representative (slice_get (faults job.list.model job.circuit)))
    ∙ ap (λ (l : List (Option Fault)). length l) b.classes.representative
    ∙ length-map {B = Option Fault} (representatives job.list.model job.circuit) Some in
    omega (arith, within, count)

-- counts of all classes are counts of all faults
pub counts_of_faults : (job : Parts) (most : ℕ) (counts : List ℕ) → BelongTogether job
    → length counts ≡ length job.list.list
    → ((i n class : ℕ) → slice_get counts i ≡ Some n → slice_get job.classes.class_of i ≡ Some class
    → IsClassCount job most class n)
    → AreCounts job.list.model job.circuit job.tests.tests most counts
counts_of_faults job most counts b same each =
    let all : length job.list.list ≡ length (faults job.list.model job.circuit) =
    ap (λ (l : FaultList). length l.list) b.list in
    record {
      count = same ∙ all;
      each = λ i f n is at.
          let lt = slice_get_within (faults job.list.model job.circuit) i f is in
          let class = within_place job.classes.class_of i (omega (arith, lt, b.classes.count)) in
          fault_count job most class.0 n f b (b.classes.class i f class.0 is class.1)
          (each i n class.0 at class.1);
    }
