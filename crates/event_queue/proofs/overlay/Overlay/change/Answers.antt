use Rattle.std.{proofs.Common.{◌≡◌, ◌<◌, length, sym, subst}, specs.Prelude.slice_index_or}
use Rattle.event_queue.proofs.ChangedWords.{listed_more}
use Rattle.event_queue.proofs.overlay.Overlay.change.Goals as goal

pub invariant_of-self : goal.invariant_of-self
invariant_of-self c =
    listed_more c.self.inside.words.items c.self.inside.changed.items c.self.inside.count
    c.args.signal c.args.word c.self.invariant
    (subst (λ x. c.args.signal < length x) (sym c.self.view_is) c.requires.signal) (subst (λ x.
    slice_index_or x c.args.signal 0 ≡ 0) (sym c.self.view_is) c.requires.same) c.requires.word
