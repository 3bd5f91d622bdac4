use Rattle.std.proofs.Common.{◌≡◌, ℕ, ◌+◌, ◌/◌, ◌%◌, ◌<◌, ◌≤◌, Bool, true, false, slice_index_or}
use Rattle.std.proofs.Common.{rules, refl, sym, ap, ◌∙◌, subst, arith}
use Rattle.fault_ledger.specs.History.{ContinuesWithout, class_of, block_of, piece_at, entry}
use Rattle.fault_ledger.specs.{Answer.is_hit, Seats.nothing_seen}
use Rattle.fault_ledger.specs.Seats.{Place, Sitter, Sees, EndsClear, Recalls, class_and_block}
use Rattle.fault_ledger.proofs.{SeatSteps.{seated_sees, sees_twice}, Histories.goes_on_same}
use Rattle.fault_ledger.proofs.ClassLooks.{none_found, none_from, not_hit, hit_found}
use Rattle.fault_ledger.proofs.shared.SharedLedger.finds_earlier_hit.Goals.{
  After-class_and_block-class,
}
use Rattle.fault_ledger.proofs.shared.SharedLedger.finds_earlier_hit.Goals.{After-passes_clear-head}
use Rattle.fault_ledger.proofs.shared.SharedLedger.finds_earlier_hit.Goals as goal

-- the class and the block of the piece
placed : (c : After-class_and_block-class)
    → c.class_and_block-class.result ≡ class_and_block c.args.self.now.shape c.args.piece
placed c =
    let p = c.args.piece in
    let row : c.seat.inside.row ≡ c.args.self.now.shape.classes =
    c.seat.invariant.classes_is ∙ ap (λ (x : Sitter). x.place.shape.classes) c.seat.view_is
    ∙ ap (λ (x : Place). x.shape.classes) c.requires.place in
    c.class_and_block-class.ensures ∙ ap (λ n. (p % n, p / n)) row

pub invariant_of-seat : goal.invariant_of-seat
invariant_of-seat c =
    let i = c.seat-2.inside in
    seated_sees i.token c.finds_hit.new.token i.worker i.exhausted i.row i.piece i.remembered.items
    c.seat-2.invariant c.finds_hit.ensures.sees

pub returns-then-known-end-clause-found : goal.returns-then-known-end-clause-found
returns-then-known-end-clause-found c = λ _.
    let i = c.seat.inside in
    let s = c.args.self.now.shape in
    let p = c.args.piece in
    let known = c.remembered_of-known.result in
    let is = placed (goal.at.returns-then-known-end-clause-found c).After-class_and_block-class in
    let own : known ≡ slice_index_or i.remembered.items (class_of s p) nothing_seen =
    c.remembered_of-known.ensures ∙ ap (λ xs.
    slice_index_or xs c.class_and_block-class.result.0 nothing_seen) c.deref.ensures.value
    ∙ ap (λ (x : ℕ × ℕ). slice_index_or i.remembered.items x.0 nothing_seen) is in
    let recalls = subst (Recalls i.token.place.shape i.token.seen (class_of s p)) (sym own)
    (c.seat.invariant.remembers (class_of s p)) in
    let seen = subst (λ (a : Sitter).
    Recalls a.place.shape a.seen (class_of s p) known) c.seat.view_is recalls in
    let here = subst (λ (x : Place).
    Recalls x.shape c.args.seat.now.seen (class_of s p) known) c.requires.place seen in
    hit_found s c.args.seat.now.seen p known.clear
    (subst (λ (x : ℕ × ℕ). known.clear < x.1) is c.if-known-end.true) (here.hit c.if-known.true)

-- the end of the clear blocks of the piece's class
head : (c : After-passes_clear-head)
    → c.class_and_block-class.result ≡ class_and_block c.args.self.now.shape c.args.piece
    → EndsClear c.args.self.now.shape c.passes_clear-head.new.seat.seen
    (class_of c.args.self.now.shape c.args.piece) (block_of c.args.self.now.shape c.args.piece)
    c.passes_clear-head.result.clear c.passes_clear-head.result.next
head c is =
    let s = c.args.self.now.shape in
    let p = c.args.piece in
    subst (λ (x : ℕ × ℕ).
    EndsClear s c.passes_clear-head.new.seat.seen x.0 x.1 c.passes_clear-head.result.clear
    c.passes_clear-head.result.next) is c.passes_clear-head.ensures.head

pub returns-in_default-clause-missed : goal.returns-in_default-clause-missed
returns-in_default-clause-missed c = λ _.
    let b = c.passes_clear-head.new.seat in
    let e = head (goal.at.returns-in_default-clause-missed c).After-passes_clear-head
    (placed (goal.at.returns-in_default-clause-missed c).After-class_and_block-class) in
    let end = e.none c.in_default.is in (
      b.seen,
      c.passes_clear-head.ensures.sees.newer,
      goes_on_same c.args.seat.now.worker b.seen,
      none_found c.args.self.now.shape b.seen c.args.piece c.passes_clear-head.result.clear
          e.clear (λ k l m. absurd (omega arith)),
    )

pub returns-in-Hit-clause-found : goal.returns-in-Hit-clause-found
returns-in-Hit-clause-found c = λ _.
    let e = head (goal.at.returns-in-Hit-clause-found c).After-passes_clear-head
    (placed (goal.at.returns-in-Hit-clause-found c).After-class_and_block-class) in
    let x = e.some c.in-Some.next c.in-Some.is in
    hit_found c.args.self.now.shape c.passes_clear-head.new.seat.seen c.args.piece
    c.passes_clear-head.result.clear x.0 (ap is_hit (x.2 ∙ c.in-Hit.is))

not_found : (b : Bool) → (b ≡ true → ⊥) → b ≡ false
not_found true f = absurd (f refl)
not_found false f = refl

pub returns : goal.returns
returns c =
    let s = c.args.self.now.shape in
    let p = c.args.piece in
    let a = c.args.seat.now in
    let b = c.passes_clear-head.new.seat in
    let d = c.finds_hit.new.token in
    let n = c.passes_clear-head.result.clear in
    let is = placed (goal.at.returns c).After-class_and_block-class in
    let first = c.passes_clear-head.ensures.sees in
    let then = subst (λ (x : Sitter). Sees x x.exhausted d) c.seat-2.view_is
    c.finds_hit.ensures.sees in
    let e = head (goal.at.returns c).After-passes_clear-head
    (placed (goal.at.returns c).After-class_and_block-class) in
    let x = e.some c.in-Some.next c.in-Some.is in
    let here : is_hit (entry (piece_at s (class_of s p) n) b.seen) ≡ false =
    not_hit _ (λ k hit. c.in_default-next.not-Hit k (sym x.2 ∙ hit)) in
    record {
      sees = sees_twice a b d first then;
      block_zero = λ z.
          let none = subst (λ (x : ℕ × ℕ). x.1 ≡ 0) (sym is) z in (
            not_found c.finds_hit.result (λ t. let f = c.finds_hit.ensures.found t in let l = f.1 in
                omega arith),
            c.finds_hit.ensures.unmoved none ∙ c.seat-2.view_is
                ∙ c.passes_clear-head.ensures.unmoved none,
          );
      found = λ t.
          let f = subst (λ (x : ℕ × ℕ). (k : ℕ) × (k < x.1) × (is_hit
          (entry (piece_at s x.0 k) d.seen) ≡ true)) is (c.finds_hit.ensures.found t) in
          hit_found s d.seen p f.0 f.1 f.2;
      missed = λ t.
          let none =
          subst (λ (x : Sitter). (k : ℕ) → n + 1 ≤ k → k < c.class_and_block-class.result.1
          → is_hit (entry (piece_at s c.class_and_block-class.result.0 k) x.seen)
          ≡ false) c.seat-2.view_is (c.finds_hit.ensures.missed t) in
          let all = subst (λ (x : ℕ × ℕ). (k : ℕ) → n + 1 ≤ k → k < x.1
          → is_hit (entry (piece_at s x.0 k) b.seen) ≡ false) is none in (
            b.seen,
            first.newer,
            subst (λ w. ContinuesWithout w d.seen b.seen) (ap (λ (x : Sitter).
                x.worker) first.seat) then.newer,
            none_found s b.seen p n e.clear (none_from (λ k.
                is_hit (entry (piece_at s (class_of s p) k) b.seen)) n (block_of s p) here all),
          );
    }

pub returns-then-known-end-clause-block_zero : goal.returns-then-known-end-clause-block_zero
returns-then-known-end-clause-block_zero c = search rules
