use Rattle.std.proofs.{Common.{◌≡◌, map, sym, ap, ◌∙◌, subst}, lemmas.Result.IfOk-weaker}
use Rattle.std.specs.Mem.Slots.{slots_items}
use Rattle.patterns.specs.Least.{below}
use Rattle.fault_ledger.specs.{declared.Shape.Shape, Answer.IsLegal, Seats.Place}
use Rattle.fault_ledger.specs.History.{History, ContinuesWithout, piece_count, states_of}
use Rattle.fault_ledger.{specs.Words.{Crowd, ForEach, field_in, state_at}, proofs.WordGroups.closes}
use Rattle.fault_ledger.proofs.FieldCodes.{states_of_codes}
use Rattle.fault_ledger.proofs.words.Words.close.Goals as goal

pub returns : goal.returns
returns c =
    let s = c.self.inside.table.shared.key in
    let words = slots_items c.close_with-closed.result.words in
    let same : s ≡ c.args.self.shape = ap (λ (p : Place). p.shape) c.self.view_is in
    let count : c.args.pieces ≡ piece_count s = c.requires.pieces ∙ ap piece_count (sym same) in
    let posts = ap (λ (g : Crowd). g.posts) c.group.view_is in
    IfOk-weaker c.read_codes-codes.result _ _ (λ codes is.
    let states = ap (map state_at) is ∙ states_of_codes (field_in words) (below c.args.pieces)
    ∙ ap (λ n. map (λ piece. state_at (field_in words piece)) (below n)) count in
    subst (λ (x : Shape). (h : History) × IsLegal x h
    × ForEach (λ p. ContinuesWithout p.worker h p.seen) c.args.group.posts
    × (map state_at codes.items ≡ states_of x h)) same (closes s _ _ c.args.group words _
    (map state_at codes.items) c.close_with-closed.ensures.values.2 posts states))
    c.read_codes-codes.ensures
