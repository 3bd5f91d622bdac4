use Rattle.std.proofs.Common.{◌≡◌, ◌∙◌, length, sym}
use Rattle.region_sim.proofs.KnownWords.{known_count}
use Rattle.region_sim.proofs.known_words.KnownWords.new.Goals as goal

pub returns : goal.returns
returns c =
    let words : length c.in_ok-words.words.items ≡ c.args.signals =
    sym c.in_ok-words.words.ok.0 ∙ c.in_ok-words.ensures.len in
    let marks : length c.in_ok-marks.marks.items ≡ c.args.signals =
    sym c.in_ok-marks.marks.ok.0 ∙ c.in_ok-marks.ensures.len in
    known_count 1 c.in_ok-marks.marks.items c.in_ok-words.words.items (marks ∙ sym words) ∙ words
