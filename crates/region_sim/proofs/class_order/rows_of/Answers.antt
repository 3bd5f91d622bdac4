use Rattle.std.proofs.Common.{◌≡◌, ◌+◌, ◌++◌, [], ◌∷◌, ◌∙◌, ap, arith, sym, suc, take}
use Rattle.std.proofs.{Math.Seq.take-suc, lemmas.List.map-append}
use Rattle.std.proofs.lemmas.List.Elements.{All-push, All-same}
use Rattle.flat_circuit.specs.declared.origin.ListedClass.{ListedClass}
use Rattle.block_sim.specs.Listed.{IsListed}
use Rattle.region_sim.specs.ClassOrder.{classes_of}
use Rattle.region_sim.proofs.class_order.rows_of.Goals as goal

pub loop-class-preserved : goal.loop-class-preserved
loop-class-preserved c =
    let before = c.loop-class.invariant in
    let i = c.loop-class.class-index in
    let classes = c.args.classes.now in
    let rows = c.loop-class.rows.items in
    let row = c.listed.result in
    let one : suc i ≡ i + 1 = omega arith in
    record {
      same = ap classes_of c.in_ok-push.ensures.items
          ∙ (map-append (λ (at : ListedClass). at.class) rows (row ∷ [])
          ∙ (ap (λ l. l ++ row.class ∷ []) before.same
          ∙ (ap (λ n. take i classes ++ n ∷ []) c.listed.ensures.class
          ∙ (sym (take-suc classes i 0 c.loop-class-test.true) ∙ ap (λ n. take n classes) one))));
      each = All-same (IsListed c.args.job.now) c.push.new.self.items _ c.in_ok-push.ensures.items
          (All-push (IsListed c.args.job.now) rows row before.each c.listed.ensures.listed);
    }
