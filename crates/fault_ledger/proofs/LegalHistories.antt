-- Facts about legal histories.
use Rattle.std.proofs.Common.{◌≡◌, ◌≢◌, ℕ, zero, suc, ◌+◌, ◌<◌, ◌≤◌, Bool, true, false, ◌||◌}
use Rattle.std.proofs.Common.{if◌then◌else◌, nat_lt, List, [], ◌∷◌, ◌++◌, length, Option, Some}
use Rattle.std.{proofs.Common.{None, refl, sym, ap, ◌∙◌, subst, arith}, specs.List.list_any}
use borrow.Author.Tests.{ltb-true}
use Rattle.patterns.specs.{declared.Outcome.Outcome, Tests.size_of, Least.{from_up, below}}
use Rattle.patterns.specs.declared.Outcome.TheVariants as outcome
use Rattle.fault_ledger.specs.declared.{Event.Event, Shape.Shape, PieceState.PieceState, Call.Call}
use Rattle.fault_ledger.specs.declared.Refusal.TheVariants.{NoSuchWorker, BadOutcome, NoEarlierHit}
use Rattle.fault_ledger.specs.declared.Reply.{Reply, TheVariants.{Claimed, Done, Refused}}
use Rattle.fault_ledger.specs.History.{History, claims, held_by, holds, state_of, entry}
use Rattle.fault_ledger.specs.History.{piece_count, class_of, block_of, piece_at}
use Rattle.fault_ledger.specs.Answer.{fits_size, is_hit, has_earlier_hit, claim_reply, report_reply}
use Rattle.fault_ledger.specs.Answer.{drop_reply, answer, events_of, after, IsLegal}
use Rattle.fault_ledger.specs.Answer.{SkippedIsNeverFirst}
use Rattle.fault_ledger.proofs.Histories.{held_below, holds-held, entry_past}
use Rattle.fault_ledger.proofs.PieceNumbers.{class_of-at, block_of-at}
use Rattle.fault_ledger.specs.declared.PieceState.TheVariants as state
use Rattle.fault_ledger.specs.declared.Claim.TheVariants as claim_is
use Rattle.fault_ledger.specs.declared.Call.TheVariants as call

grew : (h : History) (e : Event) → h ≡ e ∷ h → ⊥
grew h e p = let q = ap (λ (l : History). length l) p in omega arith

-- the facts before an accepted event
pub claim_accepted : (s : Shape) (h : History) (w : ℕ) → after s h (call.Claim w)
    ≡ Event.Claim w ∷ h → (w < s.workers) × (held_by w h ≡ None) × (claims h < piece_count s)
claim_accepted s h w e = go (nat_lt w s.workers) (held_by w h) refl refl e
  where
    more : (m : Bool) → events_of (call.Claim w)
        (if m then Claimed (claim_is.Piece (class_of s (claims h)) (block_of s (claims h)))
        else Claimed claim_is.Exhausted) ++ h ≡ Event.Claim w ∷ h → m ≡ true
    more true e = refl
    more false e = absurd (grew h (Event.Claim w) e)

    go : (b : Bool) (o : Option ℕ) → nat_lt w s.workers ≡ b → held_by w h ≡ o
        → events_of (call.Claim w)
        (if b then claim_reply s h o else Refused NoSuchWorker) ++ h ≡ Event.Claim w ∷ h
        → (w < s.workers) × (held_by w h ≡ None) × (claims h < piece_count s)
    go true None x y e = (
      ltb-true w s.workers x,
      y,
      ltb-true (claims h) (piece_count s) (more (nat_lt (claims h) (piece_count s)) e),
    )
    go true (Some p) x y e = absurd (grew h (Event.Claim w) e)
    go false o x y e = absurd (grew h (Event.Claim w) e)

pub report_accepted : (s : Shape) (h : History) (w : ℕ) (o : Outcome)
    → after s h (call.Report w o) ≡ Event.Report w o ∷ h → (p : ℕ) × (w < s.workers)
    × (held_by w h ≡ Some p) × (fits_size (size_of s.tests (block_of s p)) o ≡ true)
report_accepted s h w o e = go (nat_lt w s.workers) (held_by w h) refl refl e
  where
    more : (m : Bool) → events_of (call.Report w o) (if m then Done else Refused BadOutcome) ++ h
        ≡ Event.Report w o ∷ h → m ≡ true
    more true e = refl
    more false e = absurd (grew h (Event.Report w o) e)

    go : (b : Bool) (x : Option ℕ) → nat_lt w s.workers ≡ b → held_by w h ≡ x
        → events_of (call.Report w o)
        (if b then report_reply s o x else Refused NoSuchWorker) ++ h ≡ Event.Report w o ∷ h
        → (p : ℕ) × (w < s.workers) × (held_by w h ≡ Some p)
        × (fits_size (size_of s.tests (block_of s p)) o ≡ true)
    go true None y z e = absurd (grew h (Event.Report w o) e)
    go true (Some p) y z e =
        (p, ltb-true w s.workers y, z, more (fits_size (size_of s.tests (block_of s p)) o) e)
    go false x y z e = absurd (grew h (Event.Report w o) e)

pub drop_accepted : (s : Shape) (h : History) (w : ℕ) → after s h (call.Drop w) ≡ Event.Drop w ∷ h
    → (p : ℕ) × (w < s.workers) × (held_by w h ≡ Some p) × (has_earlier_hit s h p ≡ true)
drop_accepted s h w e = go (nat_lt w s.workers) (held_by w h) refl refl e
  where
    more : (m : Bool) → events_of (call.Drop w) (if m then Done else Refused NoEarlierHit) ++ h
        ≡ Event.Drop w ∷ h → m ≡ true
    more true e = refl
    more false e = absurd (grew h (Event.Drop w) e)

    go : (b : Bool) (x : Option ℕ) → nat_lt w s.workers ≡ b → held_by w h ≡ x
        → events_of (call.Drop w)
        (if b then drop_reply s h x else Refused NoSuchWorker) ++ h ≡ Event.Drop w ∷ h
        → (p : ℕ) × (w < s.workers) × (held_by w h ≡ Some p) × (has_earlier_hit s h p ≡ true)
    go true None y z e = absurd (grew h (Event.Drop w) e)
    go true (Some p) y z e = (p, ltb-true w s.workers y, z, more (has_earlier_hit s h p) e)
    go false x y z e = absurd (grew h (Event.Drop w) e)

-- the history after a call is legal again
pub legal_after : (s : Shape) (h : History) (c : Call) → IsLegal s h → IsLegal s (after s h c)
legal_after s h c l = go c (answer s h c) refl
  where
    go : (c : Call) (r : Reply) → answer s h c ≡ r → IsLegal s (events_of c r ++ h)
    go (call.Claim w) (Claimed (claim_is.Piece class block)) e =
        (ap (λ r. events_of (call.Claim w) r ++ h) e, l)
    go (call.Report w o) Done e = (ap (λ r. events_of (call.Report w o) r ++ h) e, l)
    go (call.Drop w) Done e = (ap (λ r. events_of (call.Drop w) r ++ h) e, l)
    go c r e = l

-- no more pieces are claimed than there are
pub legal_claims : (s : Shape) (h : History) → IsLegal s h → claims h ≤ piece_count s
legal_claims s [] l = omega arith
legal_claims s (Event.Claim w ∷ h) l = let a = claim_accepted s h w l.0 in omega arith
legal_claims s (Event.Report w o ∷ h) l = legal_claims s h l.1
legal_claims s (Event.Drop w ∷ h) l = legal_claims s h l.1

-- a piece that is held is one of the pieces
pub held_piece : (s : Shape) (w p : ℕ) (h : History) → IsLegal s h → held_by w h ≡ Some p
    → p < piece_count s
held_piece s w p h l e = let a = legal_claims s h l in let b = held_below w p h e in omega arith

-- the test of a hit is one of its block
pub legal_hit : (s : Shape) (p k : ℕ) (h : History) → IsLegal s h → entry p h ≡ state.Hit k
    → k < size_of s.tests (block_of s p)
legal_hit s p k [] l e = absurd (cc)
legal_hit s p k (Event.Claim w ∷ h) l e = legal_hit s p k h l.1 e
legal_hit s p k (Event.Report w o ∷ h) l e = go (holds w p h) refl o refl e (legal_hit s p k h l.1)
  where
    go : (b : Bool) → holds w p h ≡ b → (x : Outcome) → o ≡ x
        → (if b then state_of x else entry p h) ≡ state.Hit k → (entry p h ≡ state.Hit k
        → k < size_of s.tests (block_of s p)) → k < size_of s.tests (block_of s p)
    go true y outcome.Clear z e i = absurd (cc)
    go true y (outcome.Hit j) z e i =
        let a = report_accepted s h w o l.0 in
        let q : a.0 ≡ p = cc (holds-held w p h y, a.2) in
        let r : k ≡ j = cc in
        ltb-true k (size_of s.tests (block_of s p))
        (ap (λ (n : ℕ). nat_lt n (size_of s.tests (block_of s p))) r
        ∙ ap (λ (n : ℕ). nat_lt j (size_of s.tests (block_of s n))) (sym q)
        ∙ subst (λ x. fits_size (size_of s.tests (block_of s a.0)) x ≡ true) z a.3)
    go false y x z e i = i e
legal_hit s p k (Event.Drop w ∷ h) l e = go (holds w p h) e (legal_hit s p k h l.1)
  where
    go : (b : Bool) → (if b then state.Skipped else entry p h) ≡ state.Hit k
        → (entry p h ≡ state.Hit k → k < size_of s.tests (block_of s p))
        → k < size_of s.tests (block_of s p)
    go true e i = absurd (cc)
    go false e i = i e

-- a test that holds of one of the numbers below n
any-from_up : (f : ℕ → Bool) (a n : ℕ) → list_any f (from_up a n) ≡ true
    → (k : ℕ) × (a ≤ k) × (k < a + n) × (f k ≡ true)
any-from_up f a zero e = absurd (cc)
any-from_up f a (suc n) e = go (f a) refl e (any-from_up f (a + 1) n)
  where
    go : (b : Bool) → f a ≡ b → (b || list_any f (from_up (a + 1) n)) ≡ true
        → (list_any f (from_up (a + 1) n) ≡ true → (k : ℕ) × (a + 1 ≤ k) × (k < a + 1 + n)
        × (f k ≡ true)) → (k : ℕ) × (a ≤ k) × (k < a + suc n) × (f k ≡ true)
    go true x e i = (a, omega arith, omega arith, x)
    go false x e i = let r = i e in (r.0, omega arith, omega arith, r.3)

pub any-below : (f : ℕ → Bool) (n : ℕ) → list_any f (below n) ≡ true
    → (k : ℕ) × (k < n) × (f k ≡ true)
any-below f n e = let r = any-from_up f 0 n e in (r.0, omega arith, r.3)

any_kept : (f g : ℕ → Bool) (xs : List ℕ) → ((k : ℕ) → f k ≡ true → g k ≡ true)
    → list_any f xs ≡ true → list_any g xs ≡ true
any_kept f g [] i e = e
any_kept f g (x ∷ xs) i e = go (f x) (g x) (i x) e (any_kept f g xs i)
  where
    go : (a b : Bool) → (a ≡ true → b ≡ true) → (a || list_any f xs) ≡ true
        → (list_any f xs ≡ true → list_any g xs ≡ true) → (b || list_any g xs) ≡ true
    go a true j e r = refl
    go true false j e r = let x = j refl in absurd (cc)
    go false false j e r = r e

hit-not_open : (x : PieceState) → is_hit x ≡ true → x ≢ state.Open
hit-not_open x e f = let g = ap is_hit f in absurd (cc)

-- a hit stays a hit
pub hit_kept : (s : Shape) (h : History) (e : Event) (p : ℕ) → has_earlier_hit s h p ≡ true
    → has_earlier_hit s (e ∷ h) p ≡ true
hit_kept s h e p hit = any_kept (λ block. is_hit (entry (piece_at s (class_of s p) block) h))
    (λ block. is_hit (entry (piece_at s (class_of s p) block) (e ∷ h))) (below (block_of s p))
    (λ k x. ap is_hit (entry_past (piece_at s (class_of s p) k) (e ∷ []) h
    (hit-not_open (entry (piece_at s (class_of s p) k) h) x)) ∙ x) hit

-- a skipped piece comes after a hit of its class
pub skipped_after_hit : (s : Shape) (p : ℕ) (h : History) → IsLegal s h → entry p h ≡ state.Skipped
    → has_earlier_hit s h p ≡ true
skipped_after_hit s p [] l e = absurd (cc)
skipped_after_hit s p (Event.Claim w ∷ h) l e = skipped_after_hit s p h l.1 e
skipped_after_hit s p (Event.Report w o ∷ h) l e =
    go (holds w p h) o e (skipped_after_hit s p h l.1)
  where
    go : (b : Bool) (x : Outcome) → (if b then state_of x else entry p h) ≡ state.Skipped
        → (entry p h ≡ state.Skipped → has_earlier_hit s h p ≡ true)
        → has_earlier_hit s (Event.Report w o ∷ h) p ≡ true
    go true outcome.Clear e i = absurd (cc)
    go true (outcome.Hit j) e i = absurd (cc)
    go false x e i = hit_kept s h (Event.Report w o) p (i e)
skipped_after_hit s p (Event.Drop w ∷ h) l e = go (holds w p h) refl e (skipped_after_hit s p h l.1)
  where
    go : (b : Bool) → holds w p h ≡ b → (if b then state.Skipped else entry p h) ≡ state.Skipped
        → (entry p h ≡ state.Skipped → has_earlier_hit s h p ≡ true)
        → has_earlier_hit s (Event.Drop w ∷ h) p ≡ true
    go true x e i =
        let a = drop_accepted s h w l.0 in
        let q : a.0 ≡ p = cc (holds-held w p h x, a.2) in
        hit_kept s h (Event.Drop w) p (subst (λ n. has_earlier_hit s h n ≡ true) q a.3)
    go false x e i = hit_kept s h (Event.Drop w) p (i e)

-- so it is never the first of its class that isn't clear
pub never_first : (s : Shape) (h : History) → IsLegal s h → SkippedIsNeverFirst s h
never_first s h l class block below_classes below_blocks e =
    let hit = skipped_after_hit s (piece_at s class block) h l e in
    let r = any-below (λ b. is_hit (entry (piece_at s (class_of s (piece_at s class block)) b) h))
    (block_of s (piece_at s class block)) hit in
    let c = class_of-at s class block below_classes in
    let b = block_of-at s class block below_classes in (
      r.0,
      omega arith,
      λ clear.
          let x = subst (λ n. is_hit (entry (piece_at s n r.0) h) ≡ true) c r.2 in
          let y = ap is_hit clear in
          absurd (cc),
    )
