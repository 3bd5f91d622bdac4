-- First tests, by their numbers.
use Rattle.std.proofs.Common.{◌≡◌, ◌≢◌, ◌<◌, ◌≤◌, ◌⊎◌, inl, inr, ℕ, List, length, get_or, Option}
use Rattle.std.proofs.Common.{Some, None, sym, ap, ◌∙◌, subst, arith}
use Rattle.std.specs.Prelude.{if◌then◌else◌, nat_eq, true, false}
use Rattle.std.proofs.lemmas.Bool.Decides.{eqb_tells}
use Rattle.std.proofs.lemmas.Option.{get_or_from_slice_get, slice_get-get_or, slice_get_within}
use Rattle.bench_net.specs.Statement.{Statement}
use Rattle.fault_model.specs.{Fault.{Fault, faults}, Solution.Test}
use Rattle.block_sim.specs.{First.IsFirst, Parts.{BelongTogether, Parts}}
use Rattle.workers.specs.Verdict as verdict
use Rattle.faultsim_c.specs.Calls.{AreFaultFirsts, AreFirsts, AreFirstNumbers, first_of}
use Rattle.faultsim_c.specs.Calls.{first_number}

-- a number that stands for a test
first_some : (n : ℕ) → n ≢ 4294967295 → first_of n ≡ Some n
first_some n known = go (eqb_tells n 4294967295)
  where
    go : ((nat_eq n 4294967295 ≡ true) × (n ≡ 4294967295)) ⊎ ((nat_eq n 4294967295 ≡ false)
        × (n ≢ 4294967295)) → first_of n ≡ Some n
    go (inl h) = absurd (known h.1)
    go (inr h) = ap (λ b. if b then None else Some n) h.0

-- a first test is the test of its number
first_told : (c : List Statement) (ts : List Test) (f : Fault) (o : Option ℕ)
    → length ts ≤ 65536 → IsFirst c ts f o → IsFirst c ts f (first_of (first_number o))
first_told c ts f None few is = is
first_told c ts f (Some t) few is =
    let lt = slice_get_within ts t is.0.0 is.0.1 in
    subst (IsFirst c ts f) (sym (first_some t (λ e. omega (arith, lt, few, e)))) is

-- the first tests of the classes of a list
pub classes_told : (parts : Parts) (classes : List ℕ) (found : List (Option ℕ)) (firsts : List ℕ)
    → BelongTogether parts
    → verdict.AreClassFirsts parts.list.model parts.circuit parts.tests.tests classes found
    → AreFirstNumbers found firsts → AreFirsts parts classes firsts
classes_told parts classes found firsts b are told = record {
  count = told.count ∙ are.count;
  first = λ k class n f own of at.
      let low = slice_get_within firsts k n at in
      let many = told.count in
      let here : k < length found = omega (arith, low, many) in
      let is : n ≡ first_number (get_or found k None) =
      sym (get_or_from_slice_get firsts k n 0 at) ∙ told.each k here in
      let few = b.tests.count in
      subst (λ m. IsFirst parts.circuit parts.tests.tests f (first_of m)) (sym is)
      (first_told parts.circuit parts.tests.tests f (get_or found k None) (omega (arith, few))
      (are.first k class f (get_or found k None) own of (slice_get-get_or found k None here)));
}

-- the first tests of all faults
pub faults_told : (parts : Parts) (found : List (Option ℕ)) (firsts : List ℕ) → BelongTogether parts
    → verdict.AreFirsts parts.list.model parts.circuit parts.tests.tests found
    → AreFirstNumbers found firsts → AreFaultFirsts parts firsts
faults_told parts found firsts b are told i f at =
    let low = slice_get_within (faults parts.list.model parts.circuit) i f at in
    let many = are.count in
    let here : i < length found = omega (arith, low, many) in
    let few = b.tests.count in
    subst (λ m. IsFirst parts.circuit parts.tests.tests f (first_of m)) (sym (told.each i here))
    (first_told parts.circuit parts.tests.tests f (get_or found i None) (omega (arith, few))
    (are.first i f (get_or found i None) at (slice_get-get_or found i None here)))
