-- When a claim, a report or a drop is accepted, and its reply.
use Rattle.std.proofs.Common.{◌≡◌, ℕ, ◌<◌, true, if◌then◌else◌, ◌∷◌, [], ◌++◌, Some, None, sym, ap}
use Rattle.std.proofs.Common.{◌∙◌, subst, lt-ltb}
use Rattle.patterns.specs.{declared.Outcome.Outcome, Tests.size_of}
use Rattle.fault_ledger.specs.{declared.Event.Event, declared.Shape.Shape, History.ContinuesWithout}
use Rattle.fault_ledger.specs.declared.Refusal.TheVariants.{NoSuchWorker, BadOutcome, NoEarlierHit}
use Rattle.fault_ledger.specs.declared.Reply.TheVariants.{Claimed, Done, Refused}
use Rattle.fault_ledger.specs.History.{History, claims, held_by, piece_count, class_of, block_of}
use Rattle.fault_ledger.specs.Answer.{fits_size, has_earlier_hit, claim_reply, report_reply}
use Rattle.fault_ledger.specs.Answer.{drop_reply, answer, after}
use Rattle.fault_ledger.proofs.LegalHistories.{report_accepted, drop_accepted, hit_kept}
use Rattle.fault_ledger.specs.declared.Claim.TheVariants as claim_is
use Rattle.fault_ledger.specs.declared.Call.TheVariants as call

pub claim_answer : (s : Shape) (h : History) (w : ℕ) → w < s.workers
    → held_by w h ≡ None → claims h < piece_count s → answer s h (call.Claim w) ≡ Claimed
    (claim_is.Piece (class_of s (claims h)) (block_of s (claims h)))
claim_answer s h w among free more =
    ap (λ b. if b then claim_reply s h (held_by w h) else Refused NoSuchWorker)
    (lt-ltb w s.workers among) ∙ ap (claim_reply s h) free
    ∙ ap (λ b. if b then Claimed (claim_is.Piece (class_of s (claims h)) (block_of s (claims h)))
    else Claimed claim_is.Exhausted) (lt-ltb (claims h) (piece_count s) more)

pub report_answer : (s : Shape) (h : History) (w p : ℕ) (o : Outcome) → w < s.workers
    → held_by w h ≡ Some p → fits_size (size_of s.tests (block_of s p)) o ≡ true
    → answer s h (call.Report w o) ≡ Done
report_answer s h w p o among here fits =
    ap (λ b. if b then report_reply s o (held_by w h) else Refused NoSuchWorker)
    (lt-ltb w s.workers among) ∙ ap (report_reply s o) here
    ∙ ap (λ b. if b then Done else Refused BadOutcome) fits

pub drop_answer : (s : Shape) (h : History) (w p : ℕ) → w < s.workers → held_by w h ≡ Some p
    → has_earlier_hit s h p ≡ true → answer s h (call.Drop w) ≡ Done
drop_answer s h w p among here hit =
    ap (λ b. if b then drop_reply s h (held_by w h) else Refused NoSuchWorker)
    (lt-ltb w s.workers among) ∙ ap (drop_reply s h) here
    ∙ ap (λ b. if b then Done else Refused NoEarlierHit) hit

-- the replies to the calls of events that were accepted
pub report_answered : (s : Shape) (h : History) (w : ℕ) (o : Outcome)
    → after s h (call.Report w o) ≡ Event.Report w o ∷ h → answer s h (call.Report w o) ≡ Done
report_answered s h w o e = let a = report_accepted s h w o e in
    report_answer s h w a.0 o a.1 a.2 a.3

pub drop_answered : (s : Shape) (h : History) (w : ℕ) → after s h (call.Drop w) ≡ Event.Drop w ∷ h
    → answer s h (call.Drop w) ≡ Done
drop_answered s h w e = let a = drop_accepted s h w e in drop_answer s h w a.0 a.1 a.2 a.3

-- a hit of an earlier block stays one
pub hit_past : (s : Shape) (d h : History) (p : ℕ) → has_earlier_hit s h p ≡ true
    → has_earlier_hit s (d ++ h) p ≡ true
hit_past s [] h p hit = hit
hit_past s (e ∷ d) h p hit = hit_kept s (d ++ h) e p (hit_past s d h p hit)

pub hit_goes_on : (s : Shape) (w p : ℕ) (later earlier : History) → ContinuesWithout w later earlier
    → has_earlier_hit s earlier p ≡ true → has_earlier_hit s later p ≡ true
hit_goes_on s w p later earlier c hit =
    subst (λ h. has_earlier_hit s h p ≡ true) (sym c.1) (hit_past s c.0 earlier p hit)
