use Rattle.std.proofs.Common.{◌≡◌, ℕ, ◌%◌, ◌/◌, ◌<◌, List, Option, Some, None, Err, set, get_or}
use Rattle.std.proofs.Common.{rules, nat_lt, slice_get, sym, ◌∙◌, subst, ap, arith, lt-ltb, le-ltb}
use Rattle.std.proofs.lemmas.{Option.slice_get_within, Result.err_from_is_err_and}
use Rattle.fault_ledger.specs.{declared.PieceState.TheVariants.Skipped, Answer.done_reply_of}
use Rattle.fault_ledger.specs.{declared.Refusal.TheVariants.NoEarlierHit, Face.{Face, Answers}}
use Rattle.fault_ledger.specs.declared.Reply.TheVariants.{Done, Refused}
use Rattle.fault_ledger.{specs.History.{piece_count, class_of}, proofs.PieceNumbers.some_class}
use Rattle.fault_ledger.proofs.CallReplies.{faced, FoundNone, ledger-states, ledger-after}
use Rattle.fault_ledger.proofs.CallReplies.{found-piece, shows_hit, drop-refused, drop-bad}
use Rattle.fault_ledger.proofs.CallReplies.{drop-done}
use Rattle.fault_ledger.proofs.LowestHits.{hit_of, number_at, lowest-dropped, lowest-shows}
use Rattle.fault_ledger.proofs.sequential.Ledger.drop_piece.Goals.{In_ok-piece}
use Rattle.fault_ledger.specs.declared.Call.TheVariants as call
use Rattle.fault_ledger.proofs.sequential.Ledger.drop_piece.Goals as goal

pub returns-in_err-piece-clause-answer : goal.returns-in_err-piece-clause-answer
returns-in_err-piece-clause-answer c =
    let s = c.self.inside in
    let f = faced s.shape s.claimed s.holding.items s.states.items in
    let p = err_from_is_err_and c.from_residual.result c.from_residual.ensures.1 in
    let found = subst (λ (l : List (Option ℕ)). FoundNone (record f { holding = l }) c.args.worker
    c.in_err-piece.field-0.0) c.deref.ensures.value c.in_err-piece.ensures.refused in
    subst (λ (g : Face).
    Answers g (call.Drop c.args.worker) (done_reply_of c.from_residual.result) g) c.self.view_is
    (subst (λ r. Answers f (call.Drop c.args.worker) (done_reply_of r) f) (sym (p.1 ∙ ap Err p.2))
    (drop-refused f c.args.worker c.in_err-piece.field-0.0 c.self.invariant.0 found))

-- the piece that is held, and that it is one of the pieces
found : (c : In_ok-piece)
    → slice_get c.self.inside.holding.items c.args.worker ≡ Some (Some c.in_ok-piece.piece)
found c = rw c.deref.ensures.value at c.in_ok-piece.ensures.held

in_range : (c : In_ok-piece) → c.in_ok-piece.piece < piece_count c.self.inside.shape
in_range c =
    let s = c.self.inside in
    let f = faced s.shape s.claimed s.holding.items s.states.items in
    found-piece f c.args.worker c.in_ok-piece.piece c.self.invariant.0 (found c)

pub nonzero_rem-class : goal.nonzero_rem-class
nonzero_rem-class c = some_class c.self.inside.shape c.in_ok-piece.piece
    (in_range (goal.at.nonzero_rem-class c).In_ok-piece)

pub nonzero_div-piece : goal.nonzero_div-piece
nonzero_div-piece c = some_class c.self.inside.shape c.in_ok-piece.piece
    (in_range (goal.at.nonzero_div-piece c).In_ok-piece)

pub index-requires : goal.index-requires
index-requires c =
    let s = c.self.inside in
    let a = hit_of s.shape s.states.items s.lowest_hits.items c.in_ok-piece.piece c.self.invariant.1
    (in_range (goal.at.index-requires c).In_ok-piece) in
    let b = s.lowest_hits.ok in
    omega arith

-- the number found shows whether the states have an earlier hit
abbrev Reads : In_ok-piece → ℕ → Type 0
Reads c n =
    n ≡ get_or c.self.inside.lowest_hits.items (c.in_ok-piece.piece % c.self.inside.shape.classes) n

shows : (c : In_ok-piece) (n : ℕ) → Reads c n
    → (let s = c.self.inside in shows_hit (faced s.shape s.claimed s.holding.items s.states.items)
    c.in_ok-piece.piece ≡ nat_lt n (c.in_ok-piece.piece / s.shape.classes))
shows c n e =
    let s = c.self.inside in
    let p = c.in_ok-piece.piece in
    let within = in_range c in
    let a = hit_of s.shape s.states.items s.lowest_hits.items p c.self.invariant.1 within in
    lowest-shows (faced s.shape s.claimed s.holding.items s.states.items) p s.lowest_hits.items
    c.self.invariant.1 within ∙ ap (λ m. nat_lt m (p / s.shape.classes))
    (number_at s.lowest_hits.items (class_of s.shape p) n a e)

pub returns-then-index-piece-clause-answer : goal.returns-then-index-piece-clause-answer
returns-then-index-piece-clause-answer c =
    let s = c.self.inside in
    let f = faced s.shape s.claimed s.holding.items s.states.items in
    let w = c.args.worker in
    let bad = shows (goal.at.returns-then-index-piece-clause-answer c).In_ok-piece
    c.index.result.now c.index.ensures
    ∙ le-ltb c.index.result.now (c.in_ok-piece.piece / s.shape.classes) c.if-index-piece.true in
    subst (λ (g : Face). Answers g (call.Drop w) (Refused NoEarlierHit) g) c.self.view_is
    (drop-bad f w c.in_ok-piece.piece
    (found (goal.at.returns-then-index-piece-clause-answer c).In_ok-piece) bad)

pub index_mut-requires : goal.index_mut-requires
index_mut-requires c =
    let s = c.self.inside in
    let a = slice_get_within s.holding.items c.args.worker (Some c.in_ok-piece.piece)
    (found (goal.at.index_mut-requires c).In_ok-piece) in
    let b = s.holding.ok in
    omega arith

pub index_mut-requires-2 : goal.index_mut-requires-2
index_mut-requires-2 c =
    let s = c.self.inside in
    let f = faced s.shape s.claimed s.holding.items s.states.items in
    let a = in_range (goal.at.index_mut-requires-2 c).In_ok-piece in
    let b = ledger-states f c.self.invariant.0 in
    let d = s.states.ok in
    omega arith

done : (c : In_ok-piece) (n : ℕ) → Reads c n → n < c.in_ok-piece.piece / c.self.inside.shape.classes
    → (let s = c.self.inside in let f = faced s.shape s.claimed s.holding.items s.states.items in
    Answers f (call.Drop c.args.worker) Done (faced s.shape s.claimed
    (set s.holding.items c.args.worker None) (set s.states.items c.in_ok-piece.piece Skipped)))
done c n e below =
    let s = c.self.inside in
    let f = faced s.shape s.claimed s.holding.items s.states.items in
    let good = shows c n e ∙ lt-ltb n (c.in_ok-piece.piece / s.shape.classes) below in
    drop-done f c.args.worker c.in_ok-piece.piece (found c) good

pub invariant_of-self : goal.invariant_of-self
invariant_of-self c =
    let s = c.self.inside in
    let f = faced s.shape s.claimed s.holding.items s.states.items in (
      ledger-after f s.claimed (set s.holding.items c.args.worker None)
          (set s.states.items c.in_ok-piece.piece Skipped)
          (call.Drop c.args.worker) Done c.self.invariant.0 (done (goal.at.invariant_of-self
          c).In_ok-piece c.index.result.now c.index.ensures c.if-index-piece.false),
      lowest-dropped f c.args.worker c.in_ok-piece.piece s.lowest_hits.items c.self.invariant.0
          (found (goal.at.invariant_of-self c).In_ok-piece) c.self.invariant.1,
    )

pub returns-clause-answer : goal.returns-clause-answer
returns-clause-answer c =
    let s = c.self.inside in
    let new = faced s.shape s.claimed (set s.holding.items c.args.worker None)
    (set s.states.items c.in_ok-piece.piece Skipped) in
    subst (λ (g : Face). Answers g (call.Drop c.args.worker) Done new) c.self.view_is
    (done (goal.at.returns-clause-answer c).In_ok-piece c.index.result.now c.index.ensures
    c.if-index-piece.false)

pub returns-then-index-piece-clause-refused : goal.returns-then-index-piece-clause-refused
returns-then-index-piece-clause-refused c = search rules
