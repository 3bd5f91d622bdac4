use Rattle.std.proofs.Common.{◌≡◌, ℕ, ◌<◌, true, List, Option, Some, None, Err, set, length, get_or}
use Rattle.std.proofs.Common.{rules, slice_get, sym, ◌∙◌, subst, ap, arith}
use Rattle.std.proofs.lemmas.{Option.slice_get_within, Result.err_from_is_err_and}
use Rattle.patterns.specs.Tests.{size_of}
use Rattle.fault_ledger.specs.declared.{PieceState.PieceState, Refusal.TheVariants.BadOutcome}
use Rattle.fault_ledger.specs.{declared.Reply.TheVariants.{Done, Refused}, Face.{Face, Answers}}
use Rattle.fault_ledger.specs.History.{piece_count, class_of, block_of, state_of}
use Rattle.fault_ledger.specs.{Answer.{fits_size, done_reply_of}, Lowest.AreLowestHits}
use Rattle.fault_ledger.proofs.PieceNumbers.{some_class, block_of-below}
use Rattle.fault_ledger.proofs.CallReplies.{faced, FoundNone, ledger-states, ledger-after}
use Rattle.fault_ledger.proofs.CallReplies.{found-piece, report-refused, report-bad, report-done}
use Rattle.fault_ledger.proofs.LowestHits.{hit_of, number_at, lowest_with, lowest-reported}
use Rattle.fault_ledger.proofs.sequential.Ledger.report.Goals.{In_ok-piece}
use Rattle.fault_ledger.specs.declared.Call.TheVariants as call
use Rattle.fault_ledger.proofs.sequential.Ledger.report.Goals as goal

pub returns-in_err-piece-clause-answer : goal.returns-in_err-piece-clause-answer
returns-in_err-piece-clause-answer c =
    let s = c.self.inside in
    let f = faced s.shape s.claimed s.holding.items s.states.items in
    let p = err_from_is_err_and c.from_residual.result c.from_residual.ensures.1 in
    let found = subst (λ (l : List (Option ℕ)). FoundNone (record f { holding = l }) c.args.worker
    c.in_err-piece.field-0.0) c.deref.ensures.value c.in_err-piece.ensures.refused in
    subst (λ (g : Face). Answers g (call.Report c.args.worker c.args.outcome)
    (done_reply_of c.from_residual.result) g) c.self.view_is
    (subst (λ r. Answers f (call.Report c.args.worker c.args.outcome) (done_reply_of r) f)
    (sym (p.1 ∙ ap Err p.2)) (report-refused f c.args.worker c.args.outcome
    c.in_err-piece.field-0.0 c.self.invariant.0 found))

-- the piece that is held, and that it is one of the pieces
found : (c : In_ok-piece)
    → slice_get c.self.inside.holding.items c.args.worker ≡ Some (Some c.in_ok-piece.piece)
found c = rw c.deref.ensures.value at c.in_ok-piece.ensures.held

in_range : (c : In_ok-piece) → c.in_ok-piece.piece < piece_count c.self.inside.shape
in_range c =
    let s = c.self.inside in
    let f = faced s.shape s.claimed s.holding.items s.states.items in
    found-piece f c.args.worker c.in_ok-piece.piece c.self.invariant.0 (found c)

pub nonzero_div-block : goal.nonzero_div-block
nonzero_div-block c = some_class c.self.inside.shape c.in_ok-piece.piece
    (in_range (goal.at.nonzero_div-block c).In_ok-piece)

pub takes-requires : goal.takes-requires
takes-requires c = block_of-below c.self.inside.shape c.in_ok-piece.piece
    (in_range (goal.at.takes-requires c).In_ok-piece)

pub returns-then-not-takes-clause-answer : goal.returns-then-not-takes-clause-answer
returns-then-not-takes-clause-answer c =
    let s = c.self.inside in
    let f = faced s.shape s.claimed s.holding.items s.states.items in
    let w = c.args.worker in
    let bad = sym c.takes.ensures ∙ c.if-not-takes.true in
    subst (λ (g : Face).
    Answers g (call.Report w c.args.outcome) (Refused BadOutcome) g) c.self.view_is
    (report-bad f w c.in_ok-piece.piece c.args.outcome
    (found (goal.at.returns-then-not-takes-clause-answer c).In_ok-piece) bad)

pub nonzero_rem-class : goal.nonzero_rem-class
nonzero_rem-class c = some_class c.self.inside.shape c.in_ok-piece.piece
    (in_range (goal.at.nonzero_rem-class c).In_ok-piece)

-- the class of the piece has a number
has_number : (c : In_ok-piece)
    → (let s = c.self.inside in class_of s.shape c.in_ok-piece.piece < length s.lowest_hits.items)
has_number c = let s = c.self.inside in hit_of s.shape s.states.items s.lowest_hits.items
    c.in_ok-piece.piece c.self.invariant.1 (in_range c)

pub index-requires : goal.index-requires
index-requires c =
    let s = c.self.inside in
    let a = has_number (goal.at.index-requires c).In_ok-piece in
    let b = s.lowest_hits.ok in
    omega arith

pub index_mut-requires : goal.index_mut-requires
index_mut-requires c =
    let s = c.self.inside in
    let a = has_number (goal.at.index_mut-requires c).In_ok-piece in
    let b = s.lowest_hits.ok in
    omega arith

pub index_mut-requires-2 : goal.index_mut-requires-2
index_mut-requires-2 c =
    let s = c.self.inside in
    let a = slice_get_within s.holding.items c.args.worker (Some c.in_ok-piece.piece)
    (found (goal.at.index_mut-requires-2 c).In_ok-piece) in
    let b = s.holding.ok in
    omega arith

pub index_mut-requires-3 : goal.index_mut-requires-3
index_mut-requires-3 c =
    let s = c.self.inside in
    let f = faced s.shape s.claimed s.holding.items s.states.items in
    let a = in_range (goal.at.index_mut-requires-3 c).In_ok-piece in
    let b = ledger-states f c.self.invariant.0 in
    let d = s.states.ok in
    omega arith

done : (c : In_ok-piece) (x : PieceState) → fits_size (size_of c.self.inside.shape.tests
    (block_of c.self.inside.shape c.in_ok-piece.piece)) c.args.outcome ≡ true
    → x ≡ state_of c.args.outcome
    → (let s = c.self.inside in let f = faced s.shape s.claimed s.holding.items s.states.items in
    Answers f (call.Report c.args.worker c.args.outcome) Done (faced s.shape s.claimed
    (set s.holding.items c.args.worker None) (set s.states.items c.in_ok-piece.piece x)))
done c x good is =
    let s = c.self.inside in
    let f = faced s.shape s.claimed s.holding.items s.states.items in
    let w = c.args.worker in
    subst (λ (y : PieceState). Answers f (call.Report w c.args.outcome) Done (faced s.shape
    s.claimed (set s.holding.items w None) (set s.states.items c.in_ok-piece.piece y))) (sym is)
    (report-done f w c.in_ok-piece.piece c.args.outcome (found c) good)

-- the number of the class afterwards
lowest : (c : In_ok-piece) (n m : ℕ) (x : PieceState) → n ≡ get_or c.self.inside.lowest_hits.items
    (class_of c.self.inside.shape c.in_ok-piece.piece) n
    → m ≡ lowest_with n (block_of c.self.inside.shape c.in_ok-piece.piece) x
    → (let s = c.self.inside in AreLowestHits s.shape (set s.states.items c.in_ok-piece.piece x)
    (set s.lowest_hits.items (class_of s.shape c.in_ok-piece.piece) m))
lowest c n m x read is =
    let s = c.self.inside in
    let f = faced s.shape s.claimed s.holding.items s.states.items in
    let p = c.in_ok-piece.piece in
    let at = number_at s.lowest_hits.items (class_of s.shape p) n (has_number c) read in
    subst (λ k. AreLowestHits s.shape (set s.states.items p x)
    (set s.lowest_hits.items (class_of s.shape p) k))
    (sym (is ∙ ap (λ k. lowest_with k (block_of s.shape p) x) (sym at)))
    (lowest-reported f c.args.worker p x s.lowest_hits.items c.self.invariant.0
    (found c) c.self.invariant.1)

pub invariant_of-self : goal.invariant_of-self
invariant_of-self c =
    let s = c.self.inside in
    let at = (goal.at.invariant_of-self c).In_ok-piece in
    let good = sym c.takes.ensures ∙ c.if-not-takes.false in (
      ledger-after (faced s.shape s.claimed s.holding.items s.states.items) s.claimed
          (set s.holding.items c.args.worker None)
          (set s.states.items c.in_ok-piece.piece c.state_after.result)
          (call.Report c.args.worker c.args.outcome) Done c.self.invariant.0
          (done at c.state_after.result good c.state_after.ensures),
      lowest at c.index.result.now c.lowest_hit_after.result c.state_after.result c.index.ensures
          (c.lowest_hit_after.ensures ∙ ap (lowest_with c.index.result.now
          (block_of s.shape c.in_ok-piece.piece)) (sym c.state_after.ensures)),
    )

pub returns-clause-answer : goal.returns-clause-answer
returns-clause-answer c =
    let s = c.self.inside in
    let good = sym c.takes.ensures ∙ c.if-not-takes.false in
    let new = faced s.shape s.claimed (set s.holding.items c.args.worker None)
    (set s.states.items c.in_ok-piece.piece c.state_after.result) in
    subst
    (λ (g : Face). Answers g (call.Report c.args.worker c.args.outcome) Done new) c.self.view_is
    (done (goal.at.returns-clause-answer c).In_ok-piece c.state_after.result good
    c.state_after.ensures)

pub returns-then-not-takes-clause-refused : goal.returns-then-not-takes-clause-refused
returns-then-not-takes-clause-refused c = search rules
