-- The reasons of the first faults of a list.
use Rattle.std.proofs.Common.{◌≡◌, ◌∙◌, ◌⊎◌, ℕ, List, [], ◌∷◌, ◌++◌, ap, inl, inr, length, subst}
use Rattle.std.{proofs.Common.sym, specs.Prelude.{None, Option, Some, slice_get, unwrap_or}}
use Rattle.fault_model.specs.Fault.{Fault, FaultList, faults}
use Rattle.block_sim.specs.{First.IsFirst, Parts.{BelongTogether, Parts}}
use Rattle.workers.specs.Verdict.{AreFirsts}
use Rattle.region_runs.proofs.Public.{pushed}
use Rattle.undetected.specs.{declared.Reason.Reason, Reasons.{HasReason, IsReason}}

-- each of the reasons so far is its fault's reason
abbrev pub AreKnown : Parts → List (Option ℕ) → List (Option Reason) → Type 0
AreKnown job firsts reasons = (i : ℕ) (f : Fault) (first : Option ℕ) (reason : Option Reason)
    → slice_get job.list.list i ≡ Some f → slice_get firsts i ≡ Some first
    → slice_get reasons i ≡ Some reason → HasReason job.circuit job.tests.tests f first reason

-- with the reason of the next fault
pub known_more : (job : Parts) (firsts : List (Option ℕ)) (reasons : List (Option Reason))
    (fault : ℕ) (own : Option Reason) → length reasons ≡ fault → AreKnown job firsts reasons
    → ((f : Fault) (first : Option ℕ) → slice_get job.list.list fault ≡ Some f
    → slice_get firsts fault ≡ Some first → HasReason job.circuit job.tests.tests f first own)
    → AreKnown job firsts (reasons ++ own ∷ [])
known_more job firsts reasons fault own count known has i f first reason at found here =
    go (pushed reasons own reason i here)
  where
    go : (slice_get reasons i ≡ Some reason) ⊎ ((i ≡ length reasons) × (own ≡ reason))
        → HasReason job.circuit job.tests.tests f first reason
    go (inl h) = known i f first reason at found h
    go (inr h) =
        let place : i ≡ fault = h.0 ∙ count in
        subst (HasReason job.circuit job.tests.tests f first) h.1
        (has f first (ap (slice_get job.list.list) (sym place) ∙ at)
        (ap (slice_get firsts) (sym place) ∙ found))

-- the faults of a job are its circuit's faults
pub list_is : (job : Parts) → BelongTogether job → job.list.list ≡ faults job.list.model job.circuit
list_is job together = ap (λ (l : FaultList). l.list) together.list

-- a fault without a first test is detected by none, and has its reason
pub reason_known : (job : Parts) (firsts : List (Option ℕ)) (fault : ℕ) (f : Fault)
    (own first : Option ℕ) (reason : Reason) → BelongTogether job
    → AreFirsts job.list.model job.circuit job.tests.tests firsts
    → slice_get job.list.list fault ≡ Some f → slice_get firsts fault ≡ Some own → own ≡ None
    → slice_get firsts fault ≡ Some first → (IsFirst job.circuit job.tests.tests f None
    → IsReason job.circuit job.tests.tests f reason)
    → HasReason job.circuit job.tests.tests f first (Some reason)
reason_known job firsts fault f own first reason together are at is none found has =
    let c = job.circuit in
    let tests = job.tests.tests in
    let same : Some first ≡ Some own = sym found ∙ is in
    let first_none : first ≡ None = ap (λ o. unwrap_or o first) same ∙ none in
    let listed : slice_get (faults job.list.model c) fault ≡ Some f =
    ap (λ l. slice_get l fault) (sym (list_is job together)) ∙ at in
    subst (λ o. HasReason c tests f o (Some reason)) (sym first_none)
    (has (subst (IsFirst c tests f) first_none (are.first fault f first listed found)))
