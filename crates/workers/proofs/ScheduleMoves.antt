-- The moves of a schedule, as events of the ledger.
use Rattle.std.proofs.Common.{◌≡◌, ◌<◌, ℕ, Bool, true, false, cond, nat_lt, ◌∷◌, ◌++◌, length}
use Rattle.std.proofs.Common.{Option, Some, None, refl, sym, ap, ◌∙◌, subst, lt-ltb}
use Rattle.std.{specs.Prelude.unwrap_or, specs.Option.option_map, proofs.Math.Nat.mod-lt}
use Rattle.fault_model.specs.Collapse.{representatives}
use Rattle.patterns.specs.{declared.Outcome.Outcome, Tests.{blocks, size_of}, Least.Table}
use Rattle.block_sim.specs.{First.IsTrueOutcome, Parts.{Parts, BelongTogether}}
use Rattle.block_sim.proofs.Public.{one_outcome}
use Rattle.fault_ledger.specs.declared.{Event.Event, Shape.Shape, Refusal.Refusal}
use Rattle.fault_ledger.specs.{declared.Refusal.TheVariants.NoSuchWorker, Seats.class_and_block}
use Rattle.fault_ledger.specs.declared.Reply.TheVariants.{Claimed, Done, Refused}
use Rattle.fault_ledger.specs.History.{History, piece_count, class_of, block_of, claims, held_by}
use Rattle.fault_ledger.specs.Answer.{IsLegal, Gives, IsTrueTo, events_of, after, answer, fits_size}
use Rattle.fault_ledger.specs.Answer.{has_earlier_hit, claim_reply}
use Rattle.fault_ledger.proofs.Public.{drop_answer, report_answer, held_piece, legal_after}
use Rattle.fault_ledger.proofs.Public.{block_of-below, some_class}
use Rattle.fault_ledger.specs.declared.Call.TheVariants as call
use Rattle.fault_ledger.specs.declared.Claim.TheVariants as claim_is
use Rattle.workers.specs.{Schedule.{IsTableOf, move, move_holding}, Settling.IsShapeOf}
use Rattle.workers.proofs.TrueOutcomes.{class_count, true_fits}

-- a claim is the move of a worker that holds nothing
pub claim_moves : (t : Table) (s : Shape) (h : History) (w : ℕ) → w < s.workers → held_by w h ≡ None
    → after s h (call.Claim w) ≡ move t s h w
claim_moves t s h w among free = ap (λ x. events_of (call.Claim w)
    (cond x (claim_reply s h (held_by w h)) (Refused NoSuchWorker)) ++ h) (lt-ltb w s.workers among)
    ∙ ap (λ x. events_of (call.Claim w) (claim_reply s h x) ++ h) free
    ∙ same (nat_lt (claims h) (piece_count s)) ∙ ap (move_holding t s h w) (sym free)
  where
    same : (b : Bool) → events_of (call.Claim w)
        (cond b (Claimed (claim_is.Piece (class_of s (claims h)) (block_of s (claims h))))
        (Claimed claim_is.Exhausted)) ++ h ≡ cond b (Event.Claim w ∷ h) h
    same true = refl
    same false = refl

-- a drop is the move of a worker whose piece comes after a hit
pub drop_moves : (t : Table) (s : Shape) (h : History) (w p : ℕ) → w < s.workers
    → held_by w h ≡ Some p → has_earlier_hit s h p ≡ true → after s h (call.Drop w) ≡ move t s h w
drop_moves t s h w p among here hit =
    ap (λ r. events_of (call.Drop w) r ++ h) (drop_answer s h w p among here hit)
    ∙ sym (ap (move_holding t s h w) here
    ∙ ap (λ b. cond b (Event.Drop w ∷ h) (Event.Report w (t (class_of s p) (block_of s p)) ∷ h))
    hit)

-- and else a report of the table's outcome is
pub report_moves : (t : Table) (s : Shape) (h : History) (w p : ℕ) → w < s.workers
    → held_by w h ≡ Some p → has_earlier_hit s h p ≡ false
    → fits_size (size_of s.tests (block_of s p)) (t (class_of s p) (block_of s p)) ≡ true
    → after s h (call.Report w (t (class_of s p) (block_of s p))) ≡ move t s h w
report_moves t s h w p among here miss fits =
    ap (λ r. events_of (call.Report w (t (class_of s p) (block_of s p))) r
    ++ h) (report_answer s h w p (t (class_of s p) (block_of s p)) among here fits)
    ∙ sym (ap (move_holding t s h w) here
    ∙ ap (λ b. cond b (Event.Drop w ∷ h) (Event.Report w (t (class_of s p) (block_of s p)) ∷ h))
    miss)

-- a move of one of the workers is legal
pub move_legal : (job : Parts) (t : Table) (s : Shape) (h : History) (w : ℕ) → BelongTogether job
    → IsShapeOf job s → IsTableOf job t → IsLegal s h → w < s.workers → IsLegal s (move t s h w)
move_legal job t s h w b is each l among = go (held_by w h) refl
  where
    go : (x : Option ℕ) → held_by w h ≡ x → IsLegal s (move t s h w)
    go None e = subst (IsLegal s) (claim_moves t s h w among e) (legal_after s h (call.Claim w) l)
    go (Some p) e = pick (has_earlier_hit s h p) refl
      where
        lt : p < piece_count s
        lt = held_piece s w p h l e

        c : class_of s p < length (representatives job.list.model job.circuit)
        c = subst (λ n. class_of s p < n) (is.classes ∙ class_count job b)
            (mod-lt p (some_class s p lt))

        d : block_of s p < blocks (length job.tests.tests)
        d = subst (λ n. block_of s p < blocks n) is.tests (block_of-below s p lt)

        pick : (x : Bool) → has_earlier_hit s h p ≡ x → IsLegal s (move t s h w)
        pick true q = subst (IsLegal s) (drop_moves t s h w p among e q)
            (legal_after s h (call.Drop w) l)
        pick false q = subst (IsLegal s) (report_moves t s h w p among e q
            (true_fits job s (class_of s p) (block_of s p) (t (class_of s p) (block_of s p))
            is.tests (each (class_of s p) (block_of s p) c d)))
            (legal_after s h (call.Report w (t (class_of s p) (block_of s p))) l)

-- and true to the table
pub move_true : (t : Table) (s : Shape) (h : History) (w : ℕ) → IsTrueTo s t h
    → IsTrueTo s t (move t s h w)
move_true t s h w to = go (held_by w h) refl
  where
    go : (x : Option ℕ) → held_by w h ≡ x → IsTrueTo s t (move t s h w)
    go None e = subst (IsTrueTo s t) (sym (ap (move_holding t s h w) e))
        (pick (nat_lt (claims h) (piece_count s)))
      where
        pick : (b : Bool) → IsTrueTo s t (cond b (Event.Claim w ∷ h) h)
        pick true = to
        pick false = to
    go (Some p) e = subst (IsTrueTo s t) (sym (ap (move_holding t s h w) e))
        (pick (has_earlier_hit s h p))
      where
        pick : (b : Bool) → IsTrueTo s t
            (cond b (Event.Drop w ∷ h) (Event.Report w (t (class_of s p) (block_of s p)) ∷ h))
        pick true = to
        pick false = (subst (λ x. Gives s t x (t (class_of s p) (block_of s p))) (sym e) refl, to)

-- the piece of the returned class and block
piece_of : (s : Shape) (x : Option ℕ) (class block : ℕ)
    → Some (class, block) ≡ option_map {U = ℕ × ℕ} (class_and_block s) x → (p : ℕ) × (x ≡ Some p)
    × (class ≡ class_of s p) × (block ≡ block_of s p)
piece_of s None class block e = absurd (cc)
piece_of s (Some p) class block e = (
  p,
  refl,
  ap (λ (o : Option (ℕ × ℕ)). (unwrap_or o (0, 0)).0) e,
  ap (λ (o : Option (ℕ × ℕ)). (unwrap_or o (0, 0)).1) e,
)

-- it is one of the job's
pub told_range : (job : Parts) (s : Shape) (h : History) (w class block : ℕ) → IsShapeOf job s
    → IsLegal s h → Some (class, block) ≡ option_map {U = ℕ × ℕ} (class_and_block s) (held_by w h)
    → (class < length job.classes.representative) × (block < blocks (length job.tests.tests))
told_range job s h w class block is l e =
    let p = piece_of s (held_by w h) class block e in
    let lt = held_piece s w p.0 h l p.1 in (
      subst (λ n. n < length job.classes.representative) (sym p.2)
          (subst (λ n. class_of s p.0 < n) is.classes (mod-lt p.0 (some_class s p.0 lt))),
      subst (λ n. n < blocks (length job.tests.tests)) (sym p.3)
          (subst (λ n. block_of s p.0 < blocks n) is.tests (block_of-below s p.0 lt)),
    )

-- a drop that failed found no hit
drop_missed : (s : Shape) (h : History) (w p : ℕ) (r : Refusal) → w < s.workers
    → held_by w h ≡ Some p → Refused r ≡ answer s h (call.Drop w) → has_earlier_hit s h p ≡ false
drop_missed s h w p r among here e = go (has_earlier_hit s h p) refl
  where
    go : (b : Bool) → has_earlier_hit s h p ≡ b → has_earlier_hit s h p ≡ false
    go false q = q
    go true q = let done = drop_answer s h w p among here q in let bad = e ∙ done in absurd (cc)

-- the report that follows it is the move
pub reported_moves : (job : Parts) (t : Table) (s : Shape) (h : History) (w class block : ℕ)
    (o : Outcome) (r : Refusal) → BelongTogether job → IsShapeOf job s → IsTableOf job t
    → IsLegal s h → w < s.workers
    → Some (class, block) ≡ option_map {U = ℕ × ℕ} (class_and_block s) (held_by w h)
    → Refused r ≡ answer s h (call.Drop w)
    → IsTrueOutcome job.list.model job.circuit job.tests.tests class block o
    → after s h (call.Report w o) ≡ move t s h w
reported_moves job t s h w class block o r b is each l among e refused truth =
    let p = piece_of s (held_by w h) class block e in
    let range = told_range job s h w class block is l e in
    let own = each class block (subst (λ n. class < n) (class_count job b) range.0) range.1 in
    let same : o ≡ t class block = one_outcome job.list.model job.circuit job.tests.tests class
    block o (t class block) truth own in
    let at : t class block ≡ t (class_of s p.0) (block_of s p.0) = ap (λ n. t n block) p.2
    ∙ ap (t (class_of s p.0)) p.3 in
    let fits = subst (λ n. fits_size (size_of s.tests n) (t (class_of s p.0) (block_of s p.0))
    ≡ true) p.3 (subst (λ x. fits_size (size_of s.tests block) x ≡ true) at
    (true_fits job s class block (t class block) is.tests own)) in
    ap (λ x. after s h (call.Report w x)) (same ∙ at)
    ∙ report_moves t s h w p.0 among p.1 (drop_missed s h w p.0 r among p.1 refused) fits

pub report_event : (t : Table) (s : Shape) (h : History) (w : ℕ) (o : Outcome)
    → after s h (call.Report w o) ≡ move t s h w → Done ≡ answer s h (call.Report w o)
    → move t s h w ≡ Event.Report w o ∷ h
report_event t s h w o same e = sym same ∙ ap (λ x. events_of (call.Report w o) x ++ h) (sym e)
