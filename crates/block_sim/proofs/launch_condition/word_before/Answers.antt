use Rattle.std.proofs.Common.{◌≡◌, ◌<◌, ◌+◌, ◌-◌, ◌∙◌, suc, ap, arith, subst, length, map}
use Rattle.std.specs.Prelude.{None}
use Rattle.flat_circuit.{specs.Words.{lane, AreWords}, proofs.Public.each_row}
use Rattle.block_sim.proofs.BitBefore.{bits_before}
use Rattle.block_sim.proofs.launch_condition.word_before.Goals.{then-group-eq0, else-group-eq0}
use Rattle.block_sim.proofs.launch_condition.word_before.Goals as goal

pub returns : goal.returns
returns c = λ circuit tests k t l n bit well free lt e at named is.
    bits_before circuit tests c.args.group k t c.args.place
    c.one_lane_up.result l n bit well lt e at named is
    c.of-2.result.now (free c.args.group c.of-2.result.now c.of-2.ensures).1
    (λ j few. let one : suc j ≡ j + 1 = omega arith in ap (lane c.one_lane_up.result) one
    ∙ c.one_lane_up.ensures.later j few) (λ b before. elim c.if-group-eq0.branch [
      | then-group-eq0 w ↦ absurd (omega (arith, before))
      | else-group-eq0 w ↦
          let which : c.args.group - 1 ≡ b = omega (arith, before) in
          let own : AreWords circuit tests b None w.of.result.now =
          subst (λ x. AreWords circuit tests x None w.of.result.now) which
          (free (c.args.group - 1) w.of.result.now w.of.ensures).1 in (
            w.of.result.now,
            own,
            c.one_lane_up.ensures.first ∙ ap (λ x. lane x 127) w.last-is,
          )
    ])

pub bounds-of-place : goal.bounds-of-place
bounds-of-place c =
    let rows = map (λ row. row.items) c.args.words.rows.now in
    each_row (λ row. c.args.place < length row) rows (c.args.group - 1) c.of.result.now
    c.requires.signal c.of.ensures

pub bounds-of-place-2 : goal.bounds-of-place-2
bounds-of-place-2 c =
    let rows = map (λ row. row.items) c.args.words.rows.now in
    each_row (λ row. c.args.place < length row) rows c.args.group c.of-2.result.now
    c.requires.signal c.of-2.ensures
