use Rattle.std.proofs.Common.{◌-◌, ◌∙◌, ap, arith, sym}
use Rattle.std.specs.Prelude.{slice_get}
use Rattle.region_runs.proofs.DeadClasses.{get_behind, get_left}
use Rattle.region_runs.proofs.stretch_run.simulate_before.Goals as goal

pub returns-clause-taken : goal.returns-clause-taken
returns-clause-taken g c = λ k row lt at.
    let front = c.split_at.result.0.now in
    let back = c.split_at.result.1.now in
    let own = c.split_at_mut-found.result.0.now in
    let rest = c.split_at_mut-found.result.1.now in
    let now = c.simulate.new.kept in
    let places = c.simulate.ensures.places in
    let few = c.split_at.ensures.front_len in
    let few_own = c.split_at_mut-found.ensures.front_len in
    let here = sym (get_left front back k (omega (arith, lt, few)))
    ∙ (ap (λ l. slice_get l k) (sym c.split_at.ensures.by_index.0) ∙ at) in
    let t = c.simulate.ensures.taken k row (omega arith) (omega (arith, lt, few)) here in (
      t.0,
      t.1,
      ap (λ l. slice_get l k) c.split_at_mut-found.ensures.value
          ∙ (get_left own rest k (omega (arith, lt, few_own)) ∙ t.2),
      get_left now rest k (omega (arith, lt, few_own, places)) ∙ t.3,
      t.4,
    )

pub returns-clause-others : goal.returns-clause-others
returns-clause-others g c = λ k le.
    let own = c.split_at_mut-found.result.0.now in
    let rest = c.split_at_mut-found.result.1.now in
    let now = c.simulate.new.kept in
    let places = c.simulate.ensures.places in
    let few_own = c.split_at_mut-found.ensures.front_len in
    get_behind now rest k (omega (arith, le, few_own, places))
    ∙ (ap (λ n. slice_get rest (k - n)) places
    ∙ (sym (get_behind own rest k (omega (arith, le, few_own)))
    ∙ ap (λ l. slice_get l k) (sym c.split_at_mut-found.ensures.value)))
