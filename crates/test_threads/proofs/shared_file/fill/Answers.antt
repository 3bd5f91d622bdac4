use Rattle.std.proofs.Common.{rules, ◌≡◌, ◌-◌, ◌≤◌, ◌++◌, ◌∙◌, ap, length, take, subst}
use Rattle.std.{proofs.Common.{append_assoc, Ok}, specs.Io.ReadsAtMost}
use Rattle.std.specs.Io.KnownBytes.{ReadConsumes}
use Rattle.test_threads.proofs.Pieces.{Consumes-both, take-put_mid-more}
use Rattle.test_threads.proofs.shared_file.fill.Goals as goal

pub loop-place-preserved : goal.loop-place-preserved
loop-place-preserved g c =
    let known = g.F.Read.remaining c.args.file.now in
    let between = g.F.Read.remaining c.loop-place.file in
    let left = g.F.Read.remaining c.read.new.self in
    let place = c.loop-place.place in
    let count = c.in_ok-count.count in
    let buffer = c.loop-place.buffer in
    let read = c.read.new.buf in
    let was = c.loop-place.invariant in
    let ok : c.read.result ≡ Ok count = search rules in
    let fits : count ≤ length read = (subst (λ r. ReadsAtMost r read) ok c.read.ensures.bound).0 in
    let bytes = (subst (λ r. ReadConsumes between left r read) ok c.read.ensures.bytes).0 in
    record {
      added = was.added ++ take count read;
      read = Consumes-both known between left was.added (take count read) was.read bytes;
      within = search rules;
      size = search rules;
      holds = take-put_mid-more place (length buffer - place) count buffer read was.within fits
          ∙ ap (λ bytes. bytes ++ take count read) was.holds
          ∙ append_assoc (take c.args.from c.args.buffer.now) was.added (take count read);
    }
