use Rattle.std.specs.Prelude.{bit_and}
use Rattle.wide_words.proofs.Parts.{number_and, room_zip, and_fits}
use Rattle.wide_words.proofs.wide.Wide.and.Goals as goal

pub invariant_of-result : goal.invariant_of-result
invariant_of-result c = record {
  room = room_zip bit_and c.args.self.parts c.args.other.parts c.args.self.room c.args.other.room;
  fits = and_fits c.args.self.parts c.args.other.parts c.args.self.fits c.args.other.fits;
}

pub returns : goal.returns
returns c = number_and c.args.self.parts c.args.other.parts c.args.self.room c.args.other.room
    c.args.self.fits c.args.other.fits
