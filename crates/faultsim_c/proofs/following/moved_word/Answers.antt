use Rattle.std.proofs.Common.{◌∙◌, ap, refl}
use Rattle.patterns.specs.Tests.{as_number}
use Rattle.faultsim_c.proofs.MovedTests.{byte_number, word_moved}
use Rattle.faultsim_c.proofs.following.moved_word.Goals as goal

pub returns : goal.returns
returns c =
    word_moved c.args.old.now.tests c.args.new.now.tests c.requires.some c.args.block c.args.source
    c.word_of-word.result c.from-first.result _
    (c.from-first.ensures ∙ (byte_number c.bit_before.result ∙ ap as_number c.bit_before.ensures))
    c.word_of-word.ensures refl
