use Rattle.std.proofs.Common.{◌≡◌, ◌+◌, ◌∙◌, ap, arith, inl, inr, subst, sym}
use Rattle.std.specs.Prelude.{Some, slice_get}
use Rattle.std.proofs.lemmas.Bool.{cases_eq, cases_lt, false≢true}
use Rattle.flat_circuit.specs.declared.origin.ListedClass.{ListedClass}
use Rattle.region_runs.proofs.OpenClasses.{not_settled}
use Rattle.region_runs.proofs.stretch_run.ask_block.Goals as goal

pub loop-place-init : goal.loop-place-init
loop-place-init g c = record {
  within = omega arith;
  asked = λ k row lt idle must. omega (arith, lt);
}

pub next_open-place-requires : goal.next_open-place-requires
next_open-place-requires g c =
    let next = c.requires.next.count in
    let kept = c.requires.kept in
    omega (arith, next, kept, c.loop-place-test.true)

pub loop-place-smaller : goal.loop-place-smaller
loop-place-smaller g c =
    let up = c.requires.next.following c.loop-place.place c.next_open-place.result
    c.next_open-place.ensures in
    omega (arith, up, c.loop-place-test.true)

pub loop-place-preserved : goal.loop-place-preserved
loop-place-preserved g c =
    let place = c.loop-place.place in
    let to = c.next_open-place.result in
    let step = c.next_open-place.ensures in
    let end = c.requires.next.within place to step in
    let kept = c.requires.kept in
    let one = c.row_at.result in
    record {
      within = omega (arith, end, kept);
      asked = λ k row lt idle must. (elim (cases_lt k place) [
        | inl x ↦ c.loop-place.invariant.asked k row x idle must
        | inr x ↦ elim (cases_eq k place) [
          | inl same ↦ (let both : Some row ≡ Some one =
              sym idle.row_is ∙ (ap (slice_get c.args.rows.now) same ∙ c.row_at.ensures) in
              let rows : row ≡ one = cc in
              let off = c.pass.ensures.shut (subst (λ (r : ListedClass).
              (g.G.Gate.stops c.args.gate.now).must c.args.worker r.class c.args.block) rows
              must) in
              false≢true (sym off ∙ c.pass.ensures.passing c.requires.passing))
          | inr ne ↦ not_settled (g.A.Goal.wants c.args.goal.now) c.args.rows.now c.args.kept.now
              (place + 1) to k row
              (c.requires.next.between place to step) (omega (arith, x, ne)) lt idle
        ]
      ]);
    }

pub returns : goal.returns
returns g c = λ k row lt.
    c.loop-place.invariant.asked k row (omega (arith, lt, c.loop-place-test.false))
