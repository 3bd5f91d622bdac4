use Rattle.std.proofs.Common.{◌≡◌, ◌∙◌, ap, arith, inl, inr, subst, sym}
use Rattle.std.specs.Prelude.{Some, slice_get}
use Rattle.std.proofs.lemmas.Bool.{cases_lt, false≢true}
use Rattle.std.proofs.lemmas.Option.{get_or_from_slice_get}
use Rattle.flat_circuit.specs.declared.origin.ListedClass.{ListedClass}
use Rattle.region_runs.proofs.stretch_run.ask_rows.Goals as goal

pub loop-row-init : goal.loop-row-init
loop-row-init g c = λ k row lt at must. omega (arith, lt)

pub loop-row-preserved : goal.loop-row-preserved
loop-row-preserved g c = λ k row lt at must. elim (cases_lt k c.loop-row.row-index) [
  | inl x ↦ c.loop-row.invariant k row x at must
  | inr x ↦ (let same : k ≡ c.loop-row.row-index = omega (arith, lt, x) in
      let here : slice_get c.args.rows.now c.loop-row.row-index ≡ Some row =
      ap (slice_get c.args.rows.now) (sym same) ∙ at in
      let off = c.pass.ensures.shut (subst (λ (r : ListedClass).
      (g.G.Gate.stops c.args.gate.now).must c.args.worker r.class c.args.block)
      (sym (get_or_from_slice_get c.args.rows.now c.loop-row.row-index row _ here)) must) in
      false≢true (sym off ∙ c.pass.ensures.passing c.requires))
]

pub returns : goal.returns
returns g c = λ k row lt.
    c.loop-row.invariant k row (omega (arith, lt, c.loop-row-test.false))
