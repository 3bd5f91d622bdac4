use Rattle.std.specs.Prelude.{bit_xor}
use Rattle.wide_words.proofs.Parts.{number_xor, room_zip, xor_fits}
use Rattle.wide_words.proofs.wide.Wide.xor.Goals as goal

pub invariant_of-result : goal.invariant_of-result
invariant_of-result c = record {
  room = room_zip bit_xor c.args.self.parts c.args.other.parts c.args.self.room c.args.other.room;
  fits = xor_fits c.args.self.parts c.args.other.parts c.args.self.fits c.args.other.fits;
}

pub returns : goal.returns
returns c = number_xor c.args.self.parts c.args.other.parts c.args.self.room c.args.other.room
    c.args.self.fits c.args.other.fits
