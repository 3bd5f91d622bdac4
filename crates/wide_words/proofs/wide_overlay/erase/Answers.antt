use Rattle.std.{proofs.Common.{arith, ◌∙◌, refl}, specs.Prelude.slice_index_or}
use Rattle.std.proofs.lemmas.List.{length-set}
use Rattle.wide_words.proofs.Listed.{rest_less, none_left}
use Rattle.wide_words.proofs.wide_overlay.erase.Goals as goal

pub loop-signal-init : goal.loop-signal-init
loop-signal-init c = record {
  room = refl;
  rest = λ s differs. let at = c.requires.all s differs in (at.0, omega arith, at.1, at.2);
}

pub loop-signal-preserved : goal.loop-signal-preserved
loop-signal-preserved c = record {
  room = length-set c.loop-signal.places
      (slice_index_or c.args.listed.now c.loop-signal.signal-index 0) 0
      ∙ c.loop-signal.invariant.room;
  rest = rest_less c.loop-signal.places c.args.listed.now c.loop-signal.signal-index
      c.loop-signal.invariant.rest;
}

pub returns-clause-clear : goal.returns-clause-clear
returns-clause-clear c = none_left c.loop-signal.places c.args.listed.now c.loop-signal.signal-index
    c.loop-signal-test.false c.loop-signal.invariant.rest
