use Rattle.std.specs.Prelude.{bit_or}
use Rattle.wide_words.proofs.Parts.{number_or, room_zip, or_fits}
use Rattle.wide_words.proofs.wide.Wide.or.Goals as goal

pub invariant_of-result : goal.invariant_of-result
invariant_of-result c = record {
  room = room_zip bit_or c.args.self.parts c.args.other.parts c.args.self.room c.args.other.room;
  fits = or_fits c.args.self.parts c.args.other.parts c.args.self.fits c.args.other.fits;
}

pub returns : goal.returns
returns c = number_or c.args.self.parts c.args.other.parts c.args.self.room c.args.other.room
    c.args.self.fits c.args.other.fits
