-- The first tests of all faults, from those of all classes.
use Rattle.std.proofs.Common.{◌≡◌, ◌<◌, ◌∙◌, ℕ, None, List, Option, All, ap, arith, get_or, length}
use Rattle.std.{proofs.Common.{map, refl, subst}, specs.Prelude.{Some, slice_get}}
use Rattle.std.proofs.lemmas.{List.length-map, Option.{get_or_from_slice_get, slice_get-get_or}}
use Rattle.list_lemmas.proofs.Places.{from_mapped, within_place}
use Rattle.block_sim.specs.{First.IsFirst, Parts.{BelongTogether, Parts}}
use Rattle.workers.{proofs.Public.class_in, specs.Settling.shape_for}
use Rattle.workers.specs.Verdict.{AreClassFirsts, AreFirsts}

module _ (job : Parts) (all : List ℕ) (b : BelongTogether job)
    (long : length all ≡ length job.classes.representative)
    (each : (place class : ℕ) → slice_get all place ≡ Some class → class ≡ place) where
  -- all classes are of the job
  pub all_below : All (λ class. class < length job.classes.representative) all
  all_below place d lt =
      let x = within_place all place lt in
      let is : get_or all place d ≡ place =
      get_or_from_slice_get all place x.0 d x.1 ∙ each place x.0 x.1 in
      omega (arith, is, lt, long)

  -- the first test of a fault is that of its class
  pub faults_first : (found : List (Option ℕ))
      → AreClassFirsts job.list.model job.circuit job.tests.tests all found
      → AreFirsts job.list.model job.circuit job.tests.tests
      (map (λ class. get_or found class None) job.classes.class_of)
  faults_first found known = record {
    count = length-map job.classes.class_of g ∙ b.classes.count;
    first = λ i f first at v.
        let x = from_mapped g job.classes.class_of i first v in
        let lt : x.0 < length job.classes.representative = class_in job (shape_for job 1) i x.0 b
        (record { classes = refl; tests = refl }) x.1 in
        let y = within_place all x.0 (omega (arith, lt, long)) in
        let here : slice_get all x.0 ≡ Some x.0 = y.1 ∙ ap Some (each x.0 y.0 y.1) in
        let count = known.count in
        let own = slice_get-get_or found x.0 None (omega (arith, lt, long, count)) in
        subst (IsFirst job.circuit job.tests.tests f) x.2
        (known.first x.0 x.0 f (g x.0) here (b.classes.class i f x.0 at x.1) own);
  }
    where
      g : ℕ → Option ℕ
      g class = get_or found class None
