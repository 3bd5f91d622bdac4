use Rattle.std.proofs.Common.{◌≡◌, ◌≤◌, None, sym, ap, ◌∙◌, subst, arith}
use Rattle.patterns.specs.Tests.{max_pieces}
use Rattle.fault_ledger.specs.declared.PieceState.TheVariants as state
use Rattle.fault_ledger.specs.{History.{entry, piece_at, block_count}, Answer.IsLegal}
use Rattle.fault_ledger.specs.{Face.shape_fault, Seats.{Place, EndsClear}}
use Rattle.fault_ledger.proofs.{ShapeLimits.few_blocks, LegalHistories.legal_hit}
use Rattle.fault_ledger.proofs.ClassStatus.{status-hit, status-open, status-none}
use Rattle.fault_ledger.proofs.ClassLooks.{skipped_not_first}
use Rattle.fault_ledger.proofs.shared.SharedLedger.status.Goals.{After-passes_clear-head}
use Rattle.fault_ledger.proofs.shared.SharedLedger.status.Goals as goal

-- the end of the clear blocks of the class
head : (c : After-passes_clear-head)
    → EndsClear c.args.self.now.shape c.passes_clear-head.new.seat.seen c.args.class (block_count
    c.args.self.now.shape) c.passes_clear-head.result.clear c.passes_clear-head.result.next
head c =
    let s = c.args.self.now.shape in
    let is : c.self.inside.shape ≡ s = sym c.self.invariant
    ∙ ap (λ (x : Place). x.shape) c.self.view_is in
    let count : c.blocks-2.result ≡ block_count s = c.blocks-2.ensures ∙ ap block_count is in
    subst (λ n. EndsClear s c.passes_clear-head.new.seat.seen c.args.class n
    c.passes_clear-head.result.clear c.passes_clear-head.result.next) count
    c.passes_clear-head.ensures.head

legal : (c : After-passes_clear-head)
    → IsLegal c.args.self.now.shape c.passes_clear-head.new.seat.seen
legal c = subst (λ (x : Place). IsLegal x.shape c.passes_clear-head.new.seat.seen) c.requires.place
    c.passes_clear-head.ensures.sees.legal

pub overflow_add-result : goal.overflow_add-result
overflow_add-result c =
    let s = c.args.self.now.shape in
    let at = (goal.at.overflow_add-result c).After-passes_clear-head in
    let x = (head at).some c.in-Some-Hit.field-0 c.in-Some-Hit.is in
    let q : c.in-Some-Hit.field-0 ≡ state.Hit c.in-Some-Hit.test =
    rw c.in-Some-Hit.is at c.in-Some-Hit.field-0-is in
    let within = x.0 in
    let few : block_count s ≤ max_pieces =
    few_blocks s c.args.class (subst (λ (y : Place). shape_fault y.shape
    ≡ None) c.requires.place c.passes_clear-head.ensures.sitter.limits) c.requires.range in
    let small = legal_hit s (piece_at s c.args.class c.passes_clear-head.result.clear)
    c.in-Some-Hit.test c.passes_clear-head.new.seat.seen (legal at) (x.2 ∙ q) in
    omega arith

pub returns-in-None-clause-status : goal.returns-in-None-clause-status
returns-in-None-clause-status c =
    let s = c.args.self.now.shape in
    let e = head (goal.at.returns-in-None-clause-status c).After-passes_clear-head in
    let end = e.none c.in-None.is in
    sym (status-none (λ b. entry (piece_at s c.args.class b) c.passes_clear-head.new.seat.seen)
    (block_count s) (λ k l. e.clear k (omega arith)))

pub returns-in-Some-Hit-clause-status : goal.returns-in-Some-Hit-clause-status
returns-in-Some-Hit-clause-status c =
    let s = c.args.self.now.shape in
    let e = head (goal.at.returns-in-Some-Hit-clause-status c).After-passes_clear-head in
    let x = e.some c.in-Some-Hit.field-0 c.in-Some-Hit.is in
    let q : c.in-Some-Hit.field-0 ≡ state.Hit c.in-Some-Hit.test =
    rw c.in-Some-Hit.is at c.in-Some-Hit.field-0-is in
    sym (status-hit (λ b. entry (piece_at s c.args.class b) c.passes_clear-head.new.seat.seen)
    (block_count s) c.passes_clear-head.result.clear c.in-Some-Hit.test x.0 e.clear (x.2 ∙ q))

pub returns-in-Some-Open-clause-status : goal.returns-in-Some-Open-clause-status
returns-in-Some-Open-clause-status c =
    let s = c.args.self.now.shape in
    let e = head (goal.at.returns-in-Some-Open-clause-status c).After-passes_clear-head in
    let x = e.some c.in-Some-Open.field-0 c.in-Some-Open.is in
    let q : c.in-Some-Open.field-0 ≡ state.Open =
    rw c.in-Some-Open.is at c.in-Some-Open.field-0-is in
    sym (status-open (λ b. entry (piece_at s c.args.class b) c.passes_clear-head.new.seat.seen)
    (block_count s) c.passes_clear-head.result.clear x.0 e.clear (x.2 ∙ q))

pub unreachable-requires : goal.unreachable-requires
unreachable-requires c =
    let x = (head (goal.at.unreachable-requires c).After-passes_clear-head).some
    c.in-Some-Clear.field-0 c.in-Some-Clear.is in
    let q : c.in-Some-Clear.field-0 ≡ state.Clear =
    rw c.in-Some-Clear.is at c.in-Some-Clear.field-0-is in
    x.1 q

pub unreachable-requires-in-Some-Skipped : goal.unreachable-requires-in-Some-Skipped
unreachable-requires-in-Some-Skipped c =
    let s = c.args.self.now.shape in
    let at = (goal.at.unreachable-requires-in-Some-Skipped c).After-passes_clear-head in
    let e = head at in
    let x = e.some c.in-Some-Skipped.field-0 c.in-Some-Skipped.is in
    let q : c.in-Some-Skipped.field-0 ≡ state.Skipped =
    rw c.in-Some-Skipped.is at c.in-Some-Skipped.field-0-is in
    skipped_not_first s c.args.class c.passes_clear-head.result.clear
    c.passes_clear-head.new.seat.seen (legal at) c.requires.range x.0 e.clear (x.2 ∙ q)
