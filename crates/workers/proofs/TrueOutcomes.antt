-- From true outcomes to first tests.
use Rattle.std.proofs.Common.{◌≡◌, ◌<◌, ℕ, zero, suc, true, List, [], ◌∷◌, ◌++◌, map, length}
use Rattle.std.proofs.Common.{Option, Some, None, refl, sym, ap, ◌∙◌, subst, arith, take, lt-ltb}
use Rattle.std.{specs.Prelude.{slice_get, unwrap_or}, proofs.lemmas.List.length-map}
use Rattle.std.proofs.lemmas.Option.{slice_get_within}
use Rattle.list_lemmas.proofs.Places.{within_place, from_mapped}
use Rattle.fault_model.specs.{Fault.{Fault, faults}, Collapse.{representatives, IsClassOf}}
use Rattle.patterns.specs.{declared.Outcome.Outcome, Tests.{blocks, size_of}, Least.{Table, least}}
use Rattle.patterns.specs.declared.Outcome.TheVariants as outcome
use Rattle.block_sim.specs.{First.{IsFirst, IsTrueOutcome}, Parts.{Parts, BelongTogether}}
use Rattle.block_sim.proofs.Public.{least_is_first}
use Rattle.fault_ledger.specs.{declared.Shape.Shape, History.{History, block_count}}
use Rattle.fault_ledger.specs.{Answer.{IsTrueTo, fits_size}, Settled.{status, IsSettledAt}}
use Rattle.fault_ledger.proofs.Public.{settles_at_least}
use Rattle.workers.specs.{Schedule.IsTableOf, Settling.{AreSettled, IsShapeOf}}
use Rattle.workers.specs.Verdict.{AreFirsts, settled_at, verdicts}

-- there are as many classes as representatives
pub class_count : (job : Parts) → BelongTogether job
    → length job.classes.representative ≡ length (representatives job.list.model job.circuit)
class_count job b =
    sym (length-map job.classes.representative (slice_get (faults job.list.model job.circuit)))
    ∙ ap (λ (l : List (Option Fault)). length l) b.classes.representative
    ∙ length-map {B = Option Fault} (representatives job.list.model job.circuit) Some

-- the true outcome of a piece is one of its block's
pub true_fits : (job : Parts) (s : Shape) (class block : ℕ) (o : Outcome)
    → s.tests ≡ length job.tests.tests
    → IsTrueOutcome job.list.model job.circuit job.tests.tests class block o
    → fits_size (size_of s.tests block) o ≡ true
true_fits job s class block outcome.Clear is t = refl
true_fits job s class block (outcome.Hit k) is t =
    let e : size_of s.tests block ≡ size_of (length job.tests.tests) block =
    ap (λ n. size_of n block) is in
    lt-ltb k (size_of s.tests block) (subst (λ n. k < n) (sym e) t.2.0)

-- if a history is true to the true table, a settled class has its first test
pub first_settled : (job : Parts) (s : Shape) (table : Table) (h : History)
    → BelongTogether job → IsShapeOf job s → IsTableOf job table → IsTrueTo s table h
    → (k : ℕ) (at : Option ℕ) (f : Fault) → k < s.classes → IsSettledAt s h k at
    → IsClassOf job.list.model job.circuit f k → IsFirst job.circuit job.tests.tests f at
first_settled job s table h b is each to k at f lt own of =
    let least_is : at ≡ least table (block_count s) k = settles_at_least s table h to k at lt own in
    let number : block_count s ≡ blocks (length job.tests.tests) = ap blocks is.tests in
    subst (IsFirst job.circuit job.tests.tests f)
    (sym (least_is ∙ ap (λ n. least table n k) number))
    (least_is_first job.list.model job.circuit job.tests.tests table b.circuit.well_formed
    b.circuit.arities each f k of)

-- the verdicts of a history that is true to a true table and settles all classes are first tests
pub firsts_of : (job : Parts) (s : Shape) (table : Table) (h : History) → BelongTogether job
    → IsShapeOf job s → IsTableOf job table → IsTrueTo s table h
    → AreSettled s h s.classes → AreFirsts job.list.model job.circuit job.tests.tests
    (verdicts s h job.classes.class_of)
firsts_of job s table h b is each to settled = record {
  count = length-map job.classes.class_of (λ class. settled_at (status s h class))
      ∙ b.classes.count;
  first = λ i f first at e.
      let x = from_mapped (λ class. settled_at (status s h class)) job.classes.class_of i first e in
      let k = x.0 in
      let of : IsClassOf job.list.model job.circuit f k = b.classes.class i f k at x.1 in
      let lt : k < s.classes = subst (λ n. k < n) (sym (is.classes ∙ class_count job b))
      (slice_get_within (representatives job.list.model job.circuit) k of.0 of.3) in
      let own = settled k lt in
      subst (IsFirst job.circuit job.tests.tests f) (sym (sym x.2 ∙ ap settled_at own.1))
      (first_settled job s table h b is each to k own.0 f lt own.1 of);
}

-- the class of a fault is one of the ledger's
pub class_in : (job : Parts) (s : Shape) (i k : ℕ) → BelongTogether job → IsShapeOf job s
    → slice_get job.classes.class_of i ≡ Some k → k < s.classes
class_in job s i k b is e =
    let lt : i < length job.classes.class_of = slice_get_within job.classes.class_of i k e in
    let f = within_place (faults job.list.model job.circuit) i (omega (
      arith,
      lt,
      b.classes.count,
    )) in
    let of : IsClassOf job.list.model job.circuit f.0 k = b.classes.class i f.0 k f.1 e in
    subst (λ n. k < n) (sym (is.classes ∙ class_count job b))
    (slice_get_within (representatives job.list.model job.circuit) k of.0 of.3)

-- one element more of a list
pub take_more : {A B : Type 0} (g : A → B) (xs : List A) (i : ℕ) (x : A) → slice_get xs i ≡ Some x
    → map g (take i xs) ++ g x ∷ [] ≡ map g (take (suc i) xs)
take_more g [] i x e = let bad : None ≡ Some x = e in absurd (cc)
take_more g (y ∷ xs) zero x e = ap (λ o. g (unwrap_or o y) ∷ []) (sym e)
take_more g (y ∷ xs) (suc i) x e = ap (λ l. g y ∷ l) (take_more g xs i x e)
