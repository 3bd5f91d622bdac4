use Rattle.std.proofs.Common.{◌≡◌, ◌≢◌, ◌∙◌, ◌+◌, ◌<◌, ◌≤◌, ◌⊎◌, inl, inr, ℕ, List, Some, ap, arith}
use Rattle.std.{proofs.Common.{false, get_or, length, subst, sym}, specs.Prelude.slice_get}
use Rattle.std.proofs.lemmas.{Bool.cases_lt, Option.{slice_get-get_or, slice_get_within}}
use Rattle.fault_model.specs.declared.Line.TheVariants as line
use Rattle.fault_model.specs.declared.Model.TheVariants as model
use Rattle.fault_model.specs.Fault.{Fault, FaultList}
use Rattle.faultsim_c.specs.{Circuits.site_of, declared.circuit.FsSite.FsSite}
use Rattle.faultsim_c.proofs.circuit.fault_in.Goals as goal

no_fault : Fault
no_fault = record { model = model.StuckAt; line = line.Stem 0; stuck = false }

-- no fault up to one has the site, because neither the earlier ones nor it has
no_earlier : (list : List Fault) (site : FsSite) (n : ℕ)
    → ((f : Fault) → slice_get list n ≡ Some f → site_of f ≢ site)
    → ((i : ℕ) → i < n → (f : Fault) → slice_get list i ≡ Some f → site_of f ≢ site)
    → (i : ℕ) → i < n + 1 → (f : Fault) → slice_get list i ≡ Some f → site_of f ≢ site
no_earlier list site n here before i lt f own = go (cases_lt i n)
  where
    go : (i < n) ⊎ (n ≤ i) → site_of f ≢ site
    go (inl low) = before i low f own
    go (inr high) =
        let same : i ≡ n = omega (arith, high, lt) in
        here f (subst (λ (j : ℕ). slice_get list j ≡ Some f) same own)

pub returns-then-is_same-clause-done : goal.returns-then-is_same-clause-done
returns-then-is_same-clause-done c _ =
    let list = c.args.job.now.list.list in
    let number = c.loop-number.number in
    let low = c.loop-number-test.true in
    let end = c.count-number-end.ensures in
    let part = ap (λ (x : FaultList). length x.list) c.faults.ensures.part in
    let own = slice_get-get_or list number no_fault (omega (arith, low, end, part)) in (
      get_or list number no_fault,
      own,
      sym (c.site_of.ensures (get_or list number no_fault) own)
          ∙ c.is_same.ensures.same c.if-is_same.true,
    )

pub loop-number-preserved : goal.loop-number-preserved
loop-number-preserved c =
    let list = c.args.job.now.list.list in
    let number = c.loop-number.number in
    let before = c.loop-number.invariant in
    let here : (f : Fault) → slice_get list number ≡ Some f → site_of f ≢ c.args.site =
    λ f own e. c.is_same.ensures.apart c.if-is_same.false (c.site_of.ensures f own ∙ e) in
    (before.0, no_earlier list c.args.site number here before.1)

pub returns-clause-range : goal.returns-clause-range
returns-clause-range c _ i f own =
    let list = c.args.job.now.list.list in
    let high = c.loop-number-test.false in
    let end = c.count-number-end.ensures in
    let part = ap (λ (x : FaultList). length x.list) c.faults.ensures.part in
    let within = slice_get_within list i f own in
    c.loop-number.invariant.1 i (omega (arith, within, high, end, part)) f own
