use Rattle.std.proofs.Common.{◌*◌, ◌∙◌, false, length, true}
use Rattle.patterns.specs.Tests.{blocks}
use Rattle.undetected.{specs.Activated.AreActivationsBelow, proofs.AddedWindows.all_below}
use Rattle.undetected.proofs.finding.activations.Goals as goal

pub read_words-requires : goal.read_words-requires
read_words-requires g c = c.in_ok-activations.ensures c.args.run.now.whole
    (c.circuit.ensures.part ∙ c.job.ensures.circuit)

pub returns-clause-known : goal.returns-clause-known
returns-clause-known g c =
    let job = c.args.run.now.whole in
    let known = c.read_words.new.reader in
    let below : AreActivationsBelow job (64 * blocks (length job.tests.tests)) known =
    c.in_ok-read_words.ensures.gathered in
    record {
      zero_room = below.zero_room;
      one_room = below.one_room;
      at_zero = all_below job false known.at_zero.items below.at_zero;
      at_one = all_below job true known.at_one.items below.at_one;
    }
