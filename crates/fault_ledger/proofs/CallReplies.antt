-- The reply to each call, over the parts of a face.
use Rattle.std.proofs.Common.{◌≡◌, ℕ, ◌+◌, ◌*◌, ◌%◌, ◌/◌, ◌<◌, ◌≤◌, Bool, true, false}
use Rattle.std.proofs.Common.{if◌then◌else◌, ◌⊎◌, inl, inr, is_some, eqb, List, ◌∷◌, ◌++◌, map, set}
use Rattle.std.proofs.Common.{length, slice_get, slice_index_or, Option, Some, None, refl, sym, ap}
use Rattle.std.proofs.{Common.{◌∙◌, subst, arith, lt-ltb, le-ltb, ne_eqb, eq-eqb}, Math.Nat.mod-lt}
use Rattle.std.proofs.lemmas.Option.{get_or_from_slice_get, slice_get_within}
use Rattle.patterns.specs.{declared.Outcome.Outcome, Tests.{size_of, max_pieces}, Least.below}
use Rattle.patterns.proofs.Public.{length-map-below, get_or-map-below}
use Rattle.fault_ledger.specs.declared.{Event.Event, Shape.Shape, PieceState.PieceState, Call.Call}
use Rattle.fault_ledger.specs.declared.Refusal.{Refusal, TheVariants.{BadOutcome, NoEarlierHit}}
use Rattle.fault_ledger.specs.declared.Refusal.TheVariants.{NoSuchWorker, Holding, NothingHeld}
use Rattle.fault_ledger.specs.declared.Reply.{Reply, TheVariants.{Claimed, Done, Refused}}
use Rattle.fault_ledger.specs.History.{History, claims, held_by, holds, state_of, entry}
use Rattle.fault_ledger.specs.History.{piece_count, class_of, block_of, piece_at}
use Rattle.fault_ledger.specs.Answer.{fits_size, is_hit, has_earlier_hit, claim_reply, report_reply}
use Rattle.fault_ledger.specs.Answer.{drop_reply, answer, events_of, after, IsLegal}
use Rattle.fault_ledger.specs.{Face.{Face, face, IsLedger, Answers}, Lowest.hit_below}
use Rattle.fault_ledger.proofs.{ListsByPlace.{set-below, any-below}, ShapeLimits.few_pieces}
use Rattle.fault_ledger.proofs.PieceNumbers.{some_class, piece_at-below, block_of-below}
use Rattle.fault_ledger.proofs.Histories.{holds-not, held-holds}
use Rattle.fault_ledger.proofs.LegalHistories.{legal_after, held_piece}
use Rattle.fault_ledger.specs.declared.PieceState.TheVariants as state
use Rattle.fault_ledger.specs.declared.Claim.TheVariants as claim_is
use Rattle.fault_ledger.specs.declared.Call.TheVariants as call

-- a face by its parts
abbrev pub faced : Shape → ℕ → List (Option ℕ) → List PieceState → Face
faced s n holding states = record { shape = s; claimed = n; holding = holding; states = states }

-- the parts of the face of a history
pub claimed-is : (f : Face) (h : History) → f ≡ face f.shape h → f.claimed ≡ claims h
claimed-is f h e = ap (λ (g : Face). g.claimed) e

pub holding-is : (f : Face) (h : History) → f ≡ face f.shape h
    → f.holding ≡ map (λ w. held_by w h) (below f.shape.workers)
holding-is f h e = ap (λ (g : Face). g.holding) e

pub states-is : (f : Face) (h : History) → f ≡ face f.shape h
    → f.states ≡ map (λ p. entry p h) (below (piece_count f.shape))
states-is f h e = ap (λ (g : Face). g.states) e

pub holding-length : (f : Face) (h : History) → f ≡ face f.shape h
    → length f.holding ≡ f.shape.workers
holding-length f h e = ap (λ (l : List (Option ℕ)). length l) (holding-is f h e)
    ∙ length-map-below (λ w. held_by w h) f.shape.workers

pub states-length : (f : Face) (h : History) → f ≡ face f.shape h
    → length f.states ≡ piece_count f.shape
states-length f h e = ap (λ (l : List PieceState). length l) (states-is f h e)
    ∙ length-map-below (λ p. entry p h) (piece_count f.shape)

-- a worker whose place is found is one of the ledger, and holds the piece at it
pub found-worker : (f : Face) (h : History) (w : ℕ) (x : Option ℕ) → f ≡ face f.shape h
    → slice_get f.holding w ≡ Some x → w < f.shape.workers
found-worker f h w x e g = let a = slice_get_within f.holding w x g in
    let b = holding-length f h e in omega arith

pub found-held : (f : Face) (h : History) (w : ℕ) (x : Option ℕ) → f ≡ face f.shape h
    → slice_get f.holding w ≡ Some x → held_by w h ≡ x
found-held f h w x e g =
    sym (get_or-map-below (λ v. held_by v h) f.shape.workers w None (found-worker f h w x e g))
    ∙ ap (λ l. slice_index_or l w None) (sym (holding-is f h e))
    ∙ get_or_from_slice_get f.holding w x None g

pub state-entry : (f : Face) (h : History) (p : ℕ) → f ≡ face f.shape h → p < piece_count f.shape
    → slice_index_or f.states p state.Open ≡ entry p h
state-entry f h p e l = ap (λ x. slice_index_or x p state.Open) (states-is f h e)
    ∙ get_or-map-below (λ q. entry q h) (piece_count f.shape) p state.Open l

-- a reply that is right, and a face that shows the history with the event of the reply
pub answered : (f g : Face) (c : Call) (r : Reply) → ((h : History) → IsLegal f.shape h
    → f ≡ face f.shape h → (r ≡ answer f.shape h c) × (g ≡ face f.shape (events_of c r ++ h)))
    → Answers f c r g
answered f g c r i h l e = let x = i h l e in
    (x.0, subst (λ (y : Reply). g ≡ face f.shape (events_of c y ++ h)) x.0 x.1)

-- the invariant of a ledger
pub ledger-holding : (f : Face) → IsLedger f → length f.holding ≡ f.shape.workers
ledger-holding f i = holding-length f i.history.0 i.history.2

pub ledger-states : (f : Face) → IsLedger f → length f.states ≡ piece_count f.shape
ledger-states f i = states-length f i.history.0 i.history.2

pub ledger-few : (f : Face) → IsLedger f → piece_count f.shape ≤ max_pieces
ledger-few f i = few_pieces f.shape i.limits

pub ledger-after : (f : Face) (n : ℕ) (holding : List (Option ℕ)) (states : List PieceState)
    (c : Call) (r : Reply) → IsLedger f → Answers f c r (faced f.shape n holding states)
    → IsLedger (faced f.shape n holding states)
ledger-after f n holding states c r i a = record {
  limits = i.limits;
  history = (
    after f.shape i.history.0 c,
    legal_after f.shape i.history.0 c i.history.1,
    (a i.history.0 i.history.1 i.history.2).1,
  );
}

-- the piece at a place of the workers
pub none_of : (o : Option ℕ) → is_some o ≡ false → o ≡ None
none_of None e = refl
none_of (Some p) e = absurd (cc)

pub some_of : (o : Option ℕ) → is_some o ≡ true → (p : ℕ) × (o ≡ Some p)
some_of None e = absurd (cc)
some_of (Some p) e = (p, refl)

-- claims
pub claim-no_worker : (f : Face) (w : ℕ) → f.shape.workers ≤ w
    → Answers f (call.Claim w) (Refused NoSuchWorker) f
claim-no_worker f w l = answered f f (call.Claim w) (Refused NoSuchWorker) (λ h legal e. (
  sym (ap (λ b. if b then claim_reply f.shape h (held_by w h) else Refused NoSuchWorker)
      (le-ltb w f.shape.workers l)),
  e,
))

pub claim-holding : (f : Face) (w p : ℕ) → slice_get f.holding w ≡ Some (Some p)
    → Answers f (call.Claim w) (Refused Holding) f
claim-holding f w p g = answered f f (call.Claim w) (Refused Holding) (λ h legal e. (
  sym (ap (λ b. if b then claim_reply f.shape h (held_by w h) else Refused NoSuchWorker)
      (lt-ltb w f.shape.workers (found-worker f h w (Some p) e g))
      ∙ ap (claim_reply f.shape h) (found-held f h w (Some p) e g)),
  e,
))

pub claim-exhausted : (f : Face) (w : ℕ) → slice_get f.holding w ≡ Some None
    → length f.states ≤ f.claimed → Answers f (call.Claim w) (Claimed claim_is.Exhausted) f
claim-exhausted f w g l = answered f f (call.Claim w) (Claimed claim_is.Exhausted) (λ h legal e.
    let few : piece_count f.shape ≤ claims h =
    (let a = claimed-is f h e in let b = states-length f h e in omega arith) in (
      sym (ap (λ b. if b then claim_reply f.shape h (held_by w h) else Refused NoSuchWorker)
          (lt-ltb w f.shape.workers (found-worker f h w None e g))
          ∙ ap (claim_reply f.shape h) (found-held f h w None e g) ∙ ap (λ b. if b then Claimed
          (claim_is.Piece (class_of f.shape (claims h)) (block_of f.shape (claims h)))
          else Claimed claim_is.Exhausted) (le-ltb (claims h) (piece_count f.shape) few)),
      e,
    ))

pub claim-piece : (f : Face) (w : ℕ) → slice_get f.holding w ≡ Some None
    → f.claimed < length f.states → Answers f (call.Claim w)
    (Claimed (claim_is.Piece (f.claimed % f.shape.classes) (f.claimed / f.shape.classes)))
    (faced f.shape (f.claimed + 1) (set f.holding w (Some f.claimed)) f.states)
claim-piece f w g l = answered f (faced f.shape (f.claimed + 1)
    (set f.holding w (Some f.claimed)) f.states) (call.Claim w) (Claimed
    (claim_is.Piece (f.claimed % f.shape.classes) (f.claimed / f.shape.classes))) (λ h legal e.
    let c = claimed-is f h e in
    let some : claims h < piece_count f.shape = (let b = states-length f h e in omega arith) in (
      sym (ap (λ b. if b then claim_reply f.shape h (held_by w h) else Refused NoSuchWorker)
          (lt-ltb w f.shape.workers (found-worker f h w None e g))
          ∙ ap (claim_reply f.shape h) (found-held f h w None e g) ∙ ap (λ b. if b then Claimed
          (claim_is.Piece (class_of f.shape (claims h)) (block_of f.shape (claims h)))
          else Claimed claim_is.Exhausted) (lt-ltb (claims h) (piece_count f.shape) some)
          ∙ ap (λ n. Claimed (claim_is.Piece (class_of f.shape n) (block_of f.shape n))) (sym c)),
      λ i. faced f.shape (c i + 1) ((ap (λ l. set l w (Some f.claimed)) (holding-is f h e)
          ∙ set-below (λ v. held_by v h) (λ v. held_by v (Event.Claim w ∷ h)) f.shape.workers w
          (Some f.claimed) (found-worker f h w None e g)
          (ap Some c ∙ sym (ap (λ b. if b then Some (claims h) else held_by w h) (eq-eqb w w refl)))
          (λ k n. sym (ap (λ b. if b then Some (claims h) else held_by k h) (ne_eqb k w n)))) i)
          (states-is f h e i),
    ))

-- the error if no piece was found to report or drop
abbrev pub FoundNone : Face → ℕ → Refusal → Type 0
FoundNone f w r = ((r ≡ NoSuchWorker) × (length f.holding ≤ w))
    ⊎ ((r ≡ NothingHeld) × (slice_get f.holding w ≡ Some None))

-- reports
pub report-no_worker : (f : Face) (w : ℕ) (o : Outcome) → f.shape.workers ≤ w
    → Answers f (call.Report w o) (Refused NoSuchWorker) f
report-no_worker f w o l = answered f f (call.Report w o) (Refused NoSuchWorker) (λ h legal e. (
  sym (ap (λ b. if b then report_reply f.shape o (held_by w h) else Refused NoSuchWorker)
      (le-ltb w f.shape.workers l)),
  e,
))

-- the reply to a report of a worker of the ledger
report-answer : (f : Face) (h : History) (w : ℕ) (o : Outcome) (x : Option ℕ) → f ≡ face f.shape h
    → slice_get f.holding w ≡ Some x → answer f.shape h (call.Report w o) ≡ report_reply f.shape o x
report-answer f h w o x e g =
    ap (λ b. if b then report_reply f.shape o (held_by w h) else Refused NoSuchWorker)
    (lt-ltb w f.shape.workers (found-worker f h w x e g))
    ∙ ap (report_reply f.shape o) (found-held f h w x e g)

pub report-nothing : (f : Face) (w : ℕ) (o : Outcome) → slice_get f.holding w ≡ Some None
    → Answers f (call.Report w o) (Refused NothingHeld) f
report-nothing f w o g = answered f f (call.Report w o) (Refused NothingHeld)
    (λ h legal e. (sym (report-answer f h w o None e g), e))

pub report-refused : (f : Face) (w : ℕ) (o : Outcome) (r : Refusal) → IsLedger f → FoundNone f w r
    → Answers f (call.Report w o) (Refused r) f
report-refused f w o r i (inl x) = subst (λ y. Answers f (call.Report w o) (Refused y) f) (sym x.0)
    (report-no_worker f w o (let a = ledger-holding f i in let b = x.1 in omega arith))
report-refused f w o r i (inr x) =
    subst (λ y. Answers f (call.Report w o) (Refused y) f) (sym x.0) (report-nothing f w o x.1)

pub report-bad : (f : Face) (w p : ℕ) (o : Outcome) → slice_get f.holding w ≡ Some (Some p)
    → fits_size (size_of f.shape.tests (p / f.shape.classes)) o ≡ false
    → Answers f (call.Report w o) (Refused BadOutcome) f
report-bad f w p o g b = answered f f (call.Report w o) (Refused BadOutcome) (λ h legal e. (
  sym (report-answer f h w o (Some p) e g ∙ ap (λ x. if x then Done else Refused BadOutcome) b),
  e,
))

-- the face after the worker of a piece has reported or dropped it
settled-face : (f : Face) (h now : History) (w p : ℕ) (x : PieceState) → IsLegal f.shape h
    → f ≡ face f.shape h → slice_get f.holding w ≡ Some (Some p)
    → claims now ≡ claims h → ((v : ℕ) → held_by v now ≡ (if eqb v w then None else held_by v h))
    → ((q : ℕ) → entry q now ≡ (if holds w q h then x else entry q h))
    → faced f.shape f.claimed (set f.holding w None) (set f.states p x) ≡ face f.shape now
settled-face f h now w p x legal e g a b d =
    let is = found-held f h w (Some p) e g in
    λ i. faced f.shape ((claimed-is f h e ∙ sym a) i) ((ap (λ l. set l w None) (holding-is f h e)
    ∙ set-below (λ v. held_by v h) (λ v. held_by v now) f.shape.workers w None
    (found-worker f h w (Some p) e g)
    (sym (b w ∙ ap (λ y. if y then None else held_by w h) (eq-eqb w w refl)))
    (λ k n. sym (b k ∙ ap (λ y. if y then None else held_by k h) (ne_eqb k w n)))) i)
    ((ap (λ l. set l p x) (states-is f h e)
    ∙ set-below (λ q. entry q h) (λ q. entry q now) (piece_count f.shape) p x
    (held_piece f.shape w p h legal is)
    (sym (d p ∙ ap (λ y. if y then x else entry p h) (held-holds w p h is)))
    (λ k n. sym (d k ∙ ap (λ y. if y then x else entry k h)
    (holds-not w k h (λ y. n (let q : Some k ≡ Some p = sym y ∙ is in cc)))))) i)

pub report-done : (f : Face) (w p : ℕ) (o : Outcome) → slice_get f.holding w ≡ Some (Some p)
    → fits_size (size_of f.shape.tests (p / f.shape.classes)) o ≡ true
    → Answers f (call.Report w o) Done
    (faced f.shape f.claimed (set f.holding w None) (set f.states p (state_of o)))
report-done f w p o g b = answered f (faced f.shape f.claimed (set f.holding w None)
    (set f.states p (state_of o))) (call.Report w o) Done (λ h legal e. (
      sym (report-answer f h w o (Some p) e g ∙ ap (λ x. if x then Done else Refused BadOutcome) b),
      settled-face f h (Event.Report w o ∷ h) w p (state_of o) legal e g refl (λ v. refl)
          (λ q. refl),
    ))

-- drops
pub drop-no_worker : (f : Face) (w : ℕ) → f.shape.workers ≤ w
    → Answers f (call.Drop w) (Refused NoSuchWorker) f
drop-no_worker f w l = answered f f (call.Drop w) (Refused NoSuchWorker) (λ h legal e. (
  sym (ap (λ b. if b then drop_reply f.shape h (held_by w h) else Refused NoSuchWorker)
      (le-ltb w f.shape.workers l)),
  e,
))

drop-answer : (f : Face) (h : History) (w : ℕ) (x : Option ℕ) → f ≡ face f.shape h
    → slice_get f.holding w ≡ Some x → answer f.shape h (call.Drop w) ≡ drop_reply f.shape h x
drop-answer f h w x e g =
    ap (λ b. if b then drop_reply f.shape h (held_by w h) else Refused NoSuchWorker)
    (lt-ltb w f.shape.workers (found-worker f h w x e g))
    ∙ ap (drop_reply f.shape h) (found-held f h w x e g)

pub drop-nothing : (f : Face) (w : ℕ) → slice_get f.holding w ≡ Some None
    → Answers f (call.Drop w) (Refused NothingHeld) f
drop-nothing f w g = answered f f (call.Drop w) (Refused NothingHeld)
    (λ h legal e. (sym (drop-answer f h w None e g), e))

pub drop-refused : (f : Face) (w : ℕ) (r : Refusal) → IsLedger f → FoundNone f w r
    → Answers f (call.Drop w) (Refused r) f
drop-refused f w r i (inl x) = subst (λ y. Answers f (call.Drop w) (Refused y) f) (sym x.0)
    (drop-no_worker f w (let a = ledger-holding f i in let b = x.1 in omega arith))
drop-refused f w r i (inr x) =
    subst (λ y. Answers f (call.Drop w) (Refused y) f) (sym x.0) (drop-nothing f w x.1)

-- whether the states show an earlier hit of the piece's class
abbrev pub shows_hit : Face → ℕ → Bool
shows_hit f p = hit_below f.shape f.states (class_of f.shape p) (block_of f.shape p)

shows-hit : (f : Face) (h : History) (p : ℕ) → f ≡ face f.shape h → p < piece_count f.shape
    → shows_hit f p ≡ has_earlier_hit f.shape h p
shows-hit f h p e l =
    let some = some_class f.shape p l in
    any-below (λ block. is_hit (slice_index_or f.states
    (p % f.shape.classes + f.shape.classes * block) state.Open)) (λ block.
    is_hit (entry (piece_at f.shape (class_of f.shape p) block) h)) (p / f.shape.classes)
    (λ k m. ap is_hit (state-entry f h (piece_at f.shape (class_of f.shape p) k) e
    (piece_at-below f.shape (class_of f.shape p) k (mod-lt p some)
    (let b = block_of-below f.shape p l in omega arith))))

pub drop-bad : (f : Face) (w p : ℕ) → slice_get f.holding w ≡ Some (Some p) → shows_hit f p ≡ false
    → Answers f (call.Drop w) (Refused NoEarlierHit) f
drop-bad f w p g b = answered f f (call.Drop w) (Refused NoEarlierHit) (λ h legal e.
    let l = held_piece f.shape w p h legal (found-held f h w (Some p) e g) in (
      sym (drop-answer f h w (Some p) e g
          ∙ ap (λ x. if x then Done else Refused NoEarlierHit) (sym (shows-hit f h p e l) ∙ b)),
      e,
    ))

pub drop-done : (f : Face) (w p : ℕ) → slice_get f.holding w ≡ Some (Some p)
    → shows_hit f p ≡ true → Answers f (call.Drop w) Done
    (faced f.shape f.claimed (set f.holding w None) (set f.states p state.Skipped))
drop-done f w p g b = answered f (faced f.shape f.claimed (set f.holding w None)
    (set f.states p state.Skipped)) (call.Drop w) Done (λ h legal e.
    let l = held_piece f.shape w p h legal (found-held f h w (Some p) e g) in (
      sym (drop-answer f h w (Some p) e g
          ∙ ap (λ x. if x then Done else Refused NoEarlierHit) (sym (shows-hit f h p e l) ∙ b)),
      settled-face f h (Event.Drop w ∷ h) w p state.Skipped legal e g refl (λ v. refl) (λ q. refl),
    ))

-- a piece that is found is one of the pieces
pub found-piece : (f : Face) (w p : ℕ) → IsLedger f → slice_get f.holding w ≡ Some (Some p)
    → p < piece_count f.shape
found-piece f w p i g = held_piece f.shape w p i.history.0 i.history.1
    (found-held f i.history.0 w (Some p) i.history.2 g)
