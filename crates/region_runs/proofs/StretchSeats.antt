-- The steps of a worker's seat with the stretches of a ledger.
use Rattle.std.proofs.Common.{◌≡◌, ◌<◌, ◌≤◌, ◌+◌, ◌*◌, ◌-◌, inl, inr, ℕ, true, false, cond, List}
use Rattle.std.proofs.Common.{[], ◌∷◌, ◌++◌, length, Option, Some, None, refl, sym, ap, ◌∙◌, subst}
use Rattle.std.{proofs.Common.{arith, append_assoc, eq-eqb}, specs.Prelude.is_some}
use Rattle.std.proofs.{Math.Nat.mul-zero, lemmas.List.Elements.{All-push, All-weaker}}
use Rattle.patterns.specs.Tests.{blocks}
use Rattle.patterns.specs.declared.Outcome.TheVariants as outcome
use Rattle.fault_ledger.specs.declared.{Event.Event, Reply.TheVariants.Claimed}
use Rattle.fault_ledger.specs.History.{History, ContinuesWithout, NoneOf, block_count, piece_at}
use Rattle.fault_ledger.specs.{History.{piece_count, claims, entry, held_by}, Answer.IsLegal}
use Rattle.fault_ledger.{specs.Seats.{Makes, Place, Sitter}, proofs.Public.legal_claims}
use Rattle.fault_ledger.proofs.Public.{claims_past, entry_past, held-holds, held_goes_on}
use Rattle.fault_ledger.specs.declared.Claim.TheVariants as claim_is
use Rattle.fault_ledger.specs.declared.PieceState.TheVariants as state
use Rattle.workers.{specs.Stops.Stops, proofs.Public.given}
use Rattle.region_runs.specs.declared.{stretch_run.Waiting.Waiting, stretch_workers.Done.Done}
use Rattle.region_runs.specs.{StretchRuns.IsDone, Stretches.{IsAmong, SeesAllClaimed, Stands}}
use Rattle.region_runs.specs.Stretches.{Accounts, AfterRun, ClaimsStretch, EachClaim, HasServed}
use Rattle.region_runs.{proofs.PushedLists.{kept, last_of}, specs.Tasks.Task}

-- ---- calls

-- a claim of a piece is one of a stretch
pub claims_stretch : (a b : Sitter) (p : Place) (class block : ℕ) → a.place ≡ p → p.shape.tests ≡ 64
    → Makes a (Event.Claim a.worker) (Claimed (claim_is.Piece class block)) b
    → ClaimsStretch a class b
claims_stretch a b p class block at tests m =
    let s = a.place.shape in
    let g = given a b class block m in
    let seen : b.seen ≡ Event.Claim a.worker ∷ m.before = ap (λ (x : Sitter). x.seen) m.seat in
    let held : held_by b.worker b.seen ≡ Some (claims m.before) =
    ap (λ (x : Sitter). held_by x.worker x.seen) m.seat
    ∙ ap (λ t. cond t (Some (claims m.before)) (held_by a.worker m.before))
    (eq-eqb a.worker a.worker refl) in
    let both : Some (piece_at s class block) ≡ Some (claims m.before) = sym g.0 ∙ held in
    let piece : piece_at s class block ≡ claims m.before = cc in
    let one : block_count s ≡ 1 = ap (λ (q : Place). blocks q.shape.tests) at ∙ ap blocks tests in
    let low : block < block_count s = g.2 in
    let zero : block ≡ 0 = omega (arith, low, one) in
    let none : s.classes * block ≡ 0 = ap (λ n. s.classes * n) zero ∙ mul-zero s.classes in
    record {
      before = m.before;
      place = ap (λ (x : Sitter). x.place) m.seat;
      worker = ap (λ (x : Sitter). x.worker) m.seat;
      newer = m.newer;
      seen = seen;
      legal = subst (IsLegal s) (sym seen) m.legal;
      number = omega (arith, piece, none);
      within = g.1;
    }

-- the stretch that was claimed is held
pub claim_holds : (a b : Sitter) (stretch : ℕ) → ClaimsStretch a stretch b
    → held_by b.worker b.seen ≡ Some stretch
claim_holds a b stretch c = subst (λ w. held_by w b.seen ≡ Some stretch) (sym c.worker)
    (ap (held_by a.worker) c.seen
    ∙ ap (λ t. cond t (Some (claims c.before)) (held_by a.worker c.before))
    (eq-eqb a.worker a.worker refl) ∙ ap Some (sym c.number))

-- whether a class waits
pub some_of : (x : Option Waiting) → is_some x ≡ true → (v : Waiting) × (x ≡ Some v)
some_of None e = absurd (cc)
some_of (Some v) e = (v, refl)

pub none_of : (x : Option Waiting) → is_some x ≡ false → x ≡ None
none_of None e = refl
none_of (Some v) e = absurd (cc)

-- ---- the results that account for claims

pub claims_weaker : (H G : ℕ → Type 0) (w : ℕ) (h : History) → ((p : ℕ) → H p → G p)
    → EachClaim H w h → EachClaim G w h
claims_weaker H G w [] f x = tt
claims_weaker H G w (Event.Claim u ∷ h) f x = (
  (λ e. f (claims h) (x.0 e)),
  claims_weaker H G w h f x.1,
)
claims_weaker H G w (Event.Report u o ∷ h) f x = claims_weaker H G w h f x
claims_weaker H G w (Event.Drop u ∷ h) f x = claims_weaker H G w h f x

claims_none : (H : ℕ → Type 0) (w : ℕ) (d h : History) → NoneOf w d → EachClaim H w h
    → EachClaim H w (d ++ h)
claims_none H w [] h n x = x
claims_none H w (Event.Claim u ∷ d) h n x = ((λ e. absurd (n.0 e)), claims_none H w d h n.1 x)
claims_none H w (Event.Report u o ∷ d) h n x = claims_none H w d h n.1 x
claims_none H w (Event.Drop u ∷ d) h n x = claims_none H w d h n.1 x

pub claims_go_on : (H : ℕ → Type 0) (w : ℕ) (later earlier : History)
    → ContinuesWithout w later earlier → EachClaim H w earlier → EachClaim H w later
claims_go_on H w later earlier c x =
    subst (EachClaim H w) (sym c.1) (claims_none H w c.0 earlier c.2 x)

-- a stretch keeps its state
stands_on : (w stretch : ℕ) (x : Option Waiting) (later earlier : History)
    → ContinuesWithout w later earlier → Stands w earlier stretch x → Stands w later stretch x
stands_on w stretch None later earlier c e =
    ap (entry stretch) c.1 ∙ entry_past stretch c.0 earlier (λ q. let bad = sym e
    ∙ q in absurd (cc)) ∙ e
stands_on w stretch (Some v) later earlier c e = held_goes_on w later earlier c ∙ e

-- of a worker that holds nothing also past its own events
stands_past : (w stretch : ℕ) (x : Option Waiting) (d h : History) → held_by w h ≡ None
    → Stands w h stretch x → Stands w (d ++ h) stretch x
stands_past w stretch None d h free e =
    entry_past stretch d h (λ q. let bad = sym e ∙ q in absurd (cc)) ∙ e
stands_past w stretch (Some v) d h free e = let bad = sym free ∙ e in absurd (cc)

-- the step of the seat after the run of a held stretch
record Ran (b d : Sitter) (stretch : ℕ) (x : Option Waiting) : Type 0 where
  pub place : d.place ≡ b.place
  pub worker : d.worker ≡ b.worker
  pub newer : History
  pub seen : d.seen ≡ newer ++ b.seen
  pub legal : IsLegal b.place.shape d.seen
  pub stands : Stands b.worker d.seen stretch x
  pub free : x ≡ None → held_by d.worker d.seen ≡ None

ran : (b d : Sitter) (stretch : ℕ) (x : Option Waiting) → IsLegal b.place.shape b.seen
    → held_by b.worker b.seen ≡ Some stretch → AfterRun b x d → Ran b d stretch x
ran b d stretch None l held m =
    let seen : d.seen ≡ Event.Report b.worker outcome.Clear ∷ m.before =
    ap (λ (y : Sitter). y.seen) m.seat in
    let still : held_by b.worker m.before ≡ Some stretch =
    held_goes_on b.worker m.before b.seen m.newer ∙ held in
    record {
      place = ap (λ (y : Sitter). y.place) m.seat;
      worker = ap (λ (y : Sitter). y.worker) m.seat;
      newer = Event.Report b.worker outcome.Clear ∷ m.newer.0;
      seen = seen ∙ ap (λ h. Event.Report b.worker outcome.Clear ∷ h) m.newer.1;
      legal = subst (IsLegal b.place.shape) (sym seen) m.legal;
      stands = ap (entry stretch) seen ∙ ap (λ t. cond t state.Clear (entry stretch m.before))
          (held-holds b.worker stretch m.before still);
      free = λ e. ap (λ (y : Sitter). held_by y.worker y.seen) m.seat
          ∙ ap (λ t. cond t None (held_by b.worker m.before)) (eq-eqb b.worker b.worker refl);
    }
ran b d stretch (Some v) l held same = record {
  place = ap (λ (y : Sitter). y.place) same;
  worker = ap (λ (y : Sitter). y.worker) same;
  newer = [];
  seen = ap (λ (y : Sitter). y.seen) same;
  legal = subst (λ (y : Sitter). IsLegal b.place.shape y.seen) (sym same) l;
  stands = ap (λ (y : Sitter). held_by b.worker y.seen) same ∙ held;
  free = λ e. let bad : Some v ≡ None = e in absurd (cc);
}

ran_claims : (H : ℕ → Type 0) (b d : Sitter) (x : Option Waiting) → AfterRun b x d
    → EachClaim H b.worker b.seen → EachClaim H b.worker d.seen
ran_claims H b d None m t = subst (EachClaim H b.worker) (sym (ap (λ (y : Sitter). y.seen) m.seat))
    (claims_go_on H b.worker m.before b.seen m.newer t)
ran_claims H b d (Some v) same t = subst (λ (y : Sitter). EachClaim H b.worker y.seen) (sym same) t

-- a stretch that is among some is among more
among_more : {K : Type 0} (dones : List (Done K)) (done : Done K) (p : ℕ) → IsAmong dones p
    → IsAmong (dones ++ done ∷ []) p
among_more {K} dones done p x = (x.0, x.1, kept dones (done ∷ []) x.0 x.1 x.2, x.3)

module _ {K : Type 0} (task : Task K) (size : ℕ) (classes : List ℕ) (place : Place) (w : ℕ)
    (P : Type 0) (S : Stops) where
  -- a seat between two claims
  pub record Serving (seat : Sitter) (dones : List (Done K)) : Type 0 where
    pub place_is : seat.place ≡ place
    pub worker_is : seat.worker ≡ w
    pub legal : IsLegal place.shape seat.seen
    pub accounts : Accounts task size classes w P S seat.seen dones

  -- results that account for the claims do so later, if the worker does nothing
  pub accounts_on : (later earlier : History) (dones : List (Done K))
      → ContinuesWithout w later earlier → Accounts task size classes w P S earlier dones
      → Accounts task size classes w P S later dones
  accounts_on later earlier dones c x = record {
    done = x.done;
    stand = All-weaker (λ (d : Done K). Stands w earlier d.stretch d.waiting)
        (λ (d : Done K). Stands w later d.stretch d.waiting)
        (λ d s. stands_on w d.stretch d.waiting later earlier c s) dones x.stand;
    claimed = claims_go_on (IsAmong dones) w later earlier c x.claimed;
  }

  -- one stretch more
  pub serving_more : (a b d : Sitter) (stretch : ℕ) (dones : List (Done K)) (done : Done K)
      → Serving a dones → held_by a.worker a.seen ≡ None → ClaimsStretch a stretch b
      → AfterRun b done.waiting d → done.stretch ≡ stretch → IsDone task size classes w P S done
      → Serving d (dones ++ done ∷ [])
  serving_more a b d stretch dones done was free c after is own =
      let bw : b.worker ≡ w = c.worker ∙ was.worker_is in
      let bp : b.place ≡ place = c.place ∙ was.place_is in
      let bl : IsLegal b.place.shape b.seen =
      subst (λ (q : Place). IsLegal q.shape b.seen) (sym c.place) c.legal in
      let r = ran b d stretch done.waiting bl (claim_holds a b stretch c) after in
      let af : held_by w a.seen ≡ None = subst (λ v. held_by v a.seen ≡ None) was.worker_is free in
      let tail : History = r.newer ++ (Event.Claim a.worker ∷ c.newer.0) in
      let all : d.seen ≡ tail ++ a.seen = r.seen ∙ ap (λ h. r.newer ++ h)
      (c.seen ∙ ap (λ h. Event.Claim a.worker ∷ h) c.newer.1)
      ∙ sym (append_assoc r.newer (Event.Claim a.worker ∷ c.newer.0) a.seen) in
      let more = IsAmong (dones ++ done ∷ []) in
      let old : EachClaim more w a.seen = claims_weaker (IsAmong dones) more w a.seen
      (λ p x. among_more dones done p x) was.accounts.claimed in
      let before : EachClaim more w c.before = claims_go_on more w c.before a.seen
      (subst (λ v. ContinuesWithout v c.before a.seen) was.worker_is c.newer) old in
      let here : more (claims c.before) = (length dones, done, last_of dones done, is ∙ c.number) in
      let now : EachClaim more w b.seen = subst (EachClaim more w) (sym c.seen) (
        (λ e. here),
        before,
      ) in
      record {
        place_is = r.place ∙ bp;
        worker_is = r.worker ∙ bw;
        legal = subst (λ (q : Place). IsLegal q.shape d.seen) bp r.legal;
        accounts = record {
          done = All-push (IsDone task size classes w P S) dones done was.accounts.done own;
          stand = All-push (λ (x : Done K). Stands w d.seen x.stretch x.waiting) dones done
              (All-weaker (λ (x : Done K). Stands w a.seen x.stretch x.waiting)
              (λ (x : Done K). Stands w d.seen x.stretch x.waiting)
              (λ x s. subst (λ h. Stands w h x.stretch x.waiting) (sym all)
              (stands_past w x.stretch x.waiting tail a.seen af s)) dones was.accounts.stand)
              (subst (λ v. Stands v d.seen done.stretch done.waiting) bw
              (subst (λ n. Stands b.worker d.seen n done.waiting) (sym is) r.stands));
          claimed = subst (λ v. EachClaim more v d.seen) bw (ran_claims more b d done.waiting after
              (subst (λ v. EachClaim more v b.seen) (sym bw) now));
        };
      }

  -- a worker that saw all claimed
  pub served_all : (a b : Sitter) (dones : List (Done K)) → Serving a dones → SeesAllClaimed a b
      → HasServed task size classes place w P S b dones
  served_all a b dones was s = record {
    place_is = s.place ∙ was.place_is;
    worker_is = s.worker ∙ was.worker_is;
    legal = subst (λ (q : Place). IsLegal q.shape b.seen) was.place_is s.legal;
    accounts = accounts_on b.seen a.seen dones
        (subst (λ v. ContinuesWithout v b.seen a.seen) was.worker_is s.newer) was.accounts;
    ended = inl (s.all ∙ ap (λ (q : Place). piece_count q.shape) was.place_is);
  }

  -- a worker that was stopped
  pub served_stopped : (d : Sitter) (dones : List (Done K)) (done : Done K) (v : Waiting)
      → done.waiting ≡ Some v → Serving d (dones ++ done ∷ [])
      → HasServed task size classes place w P S d (dones ++ done ∷ [])
  served_stopped d dones done v e was = record {
    place_is = was.place_is;
    worker_is = was.worker_is;
    legal = was.legal;
    accounts = was.accounts;
    ended = inr (length dones, done, last_of dones done, v, e);
  }

-- nothing is held after a report
pub serving_free : (a b d : Sitter) (stretch : ℕ) (x : Option Waiting) → ClaimsStretch a stretch b
    → AfterRun b x d → x ≡ None → held_by d.worker d.seen ≡ None
serving_free a b d stretch x c after none =
    (ran b d stretch x (subst (λ (q : Place). IsLegal q.shape b.seen) (sym c.place) c.legal)
    (claim_holds a b stretch c) after).free none

-- a stretch that was claimed leaves fewer
pub fewer_left : (a b d : Sitter) (p : Place) (stretch : ℕ) (x : Option Waiting) → a.place ≡ p
    → IsLegal p.shape d.seen → ClaimsStretch a stretch b → AfterRun b x d
    → piece_count p.shape - claims d.seen < piece_count p.shape - claims a.seen
fewer_left a b d p stretch x at l c after =
    let r = ran b d stretch x (subst (λ (q : Place). IsLegal q.shape b.seen) (sym c.place) c.legal)
    (claim_holds a b stretch c) after in
    let most = legal_claims p.shape d.seen l in
    let grew : claims b.seen ≡ claims c.before + 1 = ap claims c.seen in
    let past : claims a.seen ≤ claims c.before = subst (λ h. claims a.seen ≤ claims h)
    (sym c.newer.1) (claims_past c.newer.0 a.seen) in
    let more : claims b.seen ≤ claims d.seen = subst (λ h. claims b.seen ≤ claims h) (sym r.seen)
    (claims_past r.newer b.seen) in
    omega (arith, most, grew, past, more)
