-- The events that calls on a seat add to a worker's work.
use Rattle.std.proofs.Common.{◌≡◌, ◌<◌, ◌≤◌, ◌+◌, ◌-◌, ℕ, Bool, true, false, cond, [], ◌∷◌, ◌++◌}
use Rattle.std.proofs.Common.{Option, Some, None, refl, sym, ap, ◌∙◌, subst, arith, append_assoc}
use Rattle.std.proofs.{Common.{eq-eqb, ◌⊎◌, inl, inr}, Math.Nat.mod-lt}
use Rattle.patterns.specs.{declared.Outcome.Outcome, Tests.size_of}
use Rattle.block_sim.specs.{First.IsTrueOutcome, Parts.Parts}
use Rattle.fault_ledger.specs.declared.{Event.Event, Shape.Shape, Reply.Reply, Refusal.Refusal}
use Rattle.fault_ledger.specs.declared.{Reply.TheVariants.{Claimed, Done, Refused}, Status.Status}
use Rattle.fault_ledger.specs.declared.Refusal.TheVariants.{NothingHeld, NoEarlierHit}
use Rattle.fault_ledger.specs.History.{History, ContinuesWithout, NoneOf, block_count, piece_at}
use Rattle.fault_ledger.specs.History.{piece_count, class_of, block_of, claims, held_by}
use Rattle.fault_ledger.specs.Answer.{IsLegal, fits_size, has_earlier_hit}
use Rattle.fault_ledger.specs.Seats.{Place, Sitter, IsSitter, Sees, Makes, Stays, FindsNoHit}
use Rattle.fault_ledger.proofs.Public.{claims_past, held_goes_on, claim_accepted, claim_answer}
use Rattle.fault_ledger.proofs.Public.{report_answer, at-of, block_of-below, some_class}
use Rattle.fault_ledger.proofs.Public.{class_of-at, block_of-at, drop_at, held_sees, sitter_sees}
use Rattle.fault_ledger.specs.declared.Claim.TheVariants as claim_is
use Rattle.fault_ledger.specs.declared.Call.TheVariants as call
use Rattle.fault_ledger.specs.declared.Status.TheVariants as status_is
use Rattle.workers.specs.{Settling.{AreSettled, IsShapeOf}, Stops.Stops}
use Rattle.workers.specs.Work.{EachReport, GivesTrue, IsStopped, ReportsTruly, WasNoDrop, Works}
use Rattle.workers.proofs.{TrueOutcomes.true_fits, SettledLedgers.settled_past}

-- if no event is the worker's, none is its report
pub reports_none : (H : Outcome → History → Type 0) (w : ℕ) (newer earlier : History)
    → NoneOf w newer → EachReport H w newer earlier
reports_none H w [] earlier n = tt
reports_none H w (Event.Claim u ∷ newer) earlier n = reports_none H w newer earlier n.1
reports_none H w (Event.Report u o ∷ newer) earlier n = (
  (λ e. absurd (n.0 e)),
  reports_none H w newer earlier n.1,
)
reports_none H w (Event.Drop u ∷ newer) earlier n = reports_none H w newer earlier n.1

pub truly_none : (job : Parts) (s : Shape) (w : ℕ) (newer earlier : History)
    → NoneOf w newer → ReportsTruly job s w newer earlier
truly_none job s w newer earlier n =
    reports_none (λ o h. GivesTrue job s (held_by w h) o × WasNoDrop s w h) w newer earlier n

-- newer events on top of newer events
pub reports_append : (H : Outcome → History → Type 0) (w : ℕ) (later newer earlier : History)
    → EachReport H w newer earlier → EachReport H w later (newer ++ earlier)
    → EachReport H w (later ++ newer) earlier
reports_append H w [] newer earlier t u = t
reports_append H w (Event.Claim v ∷ later) newer earlier t u =
    reports_append H w later newer earlier t u
reports_append H w (Event.Report v o ∷ later) newer earlier t u = (
  (λ e. subst (λ h. H o h) (sym (append_assoc later newer earlier)) (u.0 e)),
  reports_append H w later newer earlier t u.1,
)
reports_append H w (Event.Drop v ∷ later) newer earlier t u =
    reports_append H w later newer earlier t u

pub truly_append : (job : Parts) (s : Shape) (w : ℕ) (later newer earlier : History)
    → ReportsTruly job s w newer earlier → ReportsTruly job s w later (newer ++ earlier)
    → ReportsTruly job s w (later ++ newer) earlier
truly_append job s w later newer earlier t u =
    reports_append (λ o h. GivesTrue job s (held_by w h) o × WasNoDrop s w h) w later newer
    earlier t u

-- no event is the worker's in two histories of which none is in either
none_append : (w : ℕ) (later newer : History) → NoneOf w later → NoneOf w newer
    → NoneOf w (later ++ newer)
none_append w [] newer m n = n
none_append w (e ∷ later) newer m n = (m.0, none_append w later newer m.1 n)

without_twice : (w : ℕ) (c b a : History) → ContinuesWithout w c b → ContinuesWithout w b a
    → ContinuesWithout w c a
without_twice w c b a x y = (
  x.0 ++ y.0,
  x.1 ∙ ap (λ h. x.0 ++ h) y.1 ∙ sym (append_assoc x.0 y.0 a),
  none_append w x.0 y.0 x.2 y.2,
)

-- a piece that could not be dropped still could not, while the worker does nothing
no_drop_later : (s : Shape) (w : ℕ) (later earlier : History) → ContinuesWithout w later earlier
    → WasNoDrop s w earlier → WasNoDrop s w later
no_drop_later s w later earlier c n = (n.0, without_twice w later earlier n.0 c n.1, n.2)

-- a seat that does nothing
pub works_same : (job : Parts) (a : Sitter) → IsSitter a → Works job a a
works_same job a i = record {
  place = refl;
  worker = refl;
  newer = [];
  begins = refl;
  legal = i.legal;
  truly = tt;
}

-- work after work
pub works_twice : (job : Parts) (a b d : Sitter) → Works job a b → Works job b d → Works job a d
works_twice job a b d x y = record {
  place = y.place ∙ x.place;
  worker = y.worker ∙ x.worker;
  newer = y.newer ++ x.newer;
  begins = y.begins ∙ ap (λ h. y.newer ++ h) x.begins ∙ sym (append_assoc y.newer x.newer a.seen);
  legal = subst (λ p. IsLegal p.shape d.seen) x.place y.legal;
  truly = truly_append job a.place.shape a.worker y.newer x.newer a.seen x.truly
      (subst (λ h. ReportsTruly job a.place.shape a.worker y.newer h) x.begins
      (subst (λ w. ReportsTruly job a.place.shape w y.newer b.seen) x.worker
      (subst (λ p. ReportsTruly job p.shape b.worker y.newer b.seen) x.place y.truly)));
}

-- looks
pub sees_works : (job : Parts) (a b : Sitter) (ended : Bool) → Sees a ended b → Works job a b
sees_works job a b ended s = record {
  place = ap (λ (x : Sitter). x.place) s.seat;
  worker = ap (λ (x : Sitter). x.worker) s.seat;
  newer = s.newer.0;
  begins = s.newer.1;
  legal = s.legal;
  truly = truly_none job a.place.shape a.worker s.newer.0 a.seen s.newer.2;
}

-- an event
pub makes_works : (job : Parts) (a b : Sitter) (e : Event) (r : Reply)
    (m : Makes a e r b) → ReportsTruly job a.place.shape a.worker (e ∷ []) m.before → Works job a b
makes_works job a b e r m t = record {
  place = ap (λ (x : Sitter). x.place) m.seat;
  worker = ap (λ (x : Sitter). x.worker) m.seat;
  newer = e ∷ m.newer.0;
  begins = ap (λ (x : Sitter). x.seen) m.seat ∙ ap (λ h. e ∷ h) m.newer.1;
  legal = subst (IsLegal a.place.shape) (sym (ap (λ (x : Sitter). x.seen) m.seat)) m.legal;
  truly = truly_append job a.place.shape a.worker (e ∷ []) m.newer.0 a.seen
      (truly_none job a.place.shape a.worker m.newer.0 a.seen m.newer.2)
      (subst (λ h. ReportsTruly job a.place.shape a.worker (e ∷ []) h) m.newer.1 t);
}

-- the piece of a seat after a claim, and that it was given one piece more
pub given : (a b : Sitter) (class block : ℕ)
    → Makes a (Event.Claim a.worker) (Claimed (claim_is.Piece class block)) b
    → (held_by b.worker b.seen ≡ Some (piece_at a.place.shape class block))
    × (class < a.place.shape.classes) × (block < block_count a.place.shape)
    × (claims a.seen < claims b.seen) × (claims b.seen ≤ piece_count a.place.shape)
given a b class block m =
    let s = a.place.shape in
    let h = m.before in
    let x = claim_accepted s h a.worker m.legal.0 in
    let is : Claimed (claim_is.Piece class block)
    ≡ Claimed (claim_is.Piece (class_of s (claims h)) (block_of s (claims h))) = m.replied
    ∙ claim_answer s h a.worker x.0 x.1 x.2 in
    let c : class ≡ class_of s (claims h) = cc in
    let d : block ≡ block_of s (claims h) = cc in
    let place : piece_at s class block ≡ claims h = ap (λ k. piece_at s k block) c
    ∙ ap (piece_at s (class_of s (claims h))) d ∙ at-of s (claims h) in
    let same : b.seen ≡ Event.Claim a.worker ∷ h = ap (λ (y : Sitter). y.seen) m.seat in
    let own : held_by a.worker (Event.Claim a.worker ∷ h) ≡ Some (claims h) =
    ap (λ t. cond t (Some (claims h)) (held_by a.worker h)) (eq-eqb a.worker a.worker refl) in
    let past : claims a.seen ≤ claims h = subst (λ l. claims a.seen ≤ claims l) (sym m.newer.1)
    (claims_past m.newer.0 a.seen) in
    let count : claims b.seen ≡ claims h + 1 = ap claims same in (
      ap (λ (y : Sitter). held_by y.worker y.seen) m.seat ∙ own ∙ ap Some (sym place),
      subst (λ k. k < s.classes) (sym c) (mod-lt (claims h) (some_class s (claims h) x.2)),
      subst (λ k. k < block_count s) (sym d) (block_of-below s (claims h) x.2),
      omega arith,
      (let most = x.2 in omega arith),
    )

-- a drop that was made
pub dropped : (job : Parts) (a b : Sitter) (r : Reply)
    → Makes a (Event.Drop a.worker) r b → Works job a b × (b.exhausted ≡ a.exhausted)
    × (held_by b.worker b.seen ≡ None)
dropped job a b r m = (
  makes_works job a b (Event.Drop a.worker) r m tt,
  ap (λ (x : Sitter). x.exhausted) m.seat,
  ap (λ (x : Sitter). held_by x.worker x.seen) m.seat
      ∙ ap (λ t. cond t None (held_by a.worker m.before)) (eq-eqb a.worker a.worker refl),
)

-- a report of the true outcome that was made, of a piece that could not be dropped
pub reported : (job : Parts) (a b : Sitter) (o : Outcome) (r : Reply)
    → Makes a (Event.Report a.worker o) r b
    → GivesTrue job a.place.shape (held_by a.worker a.seen) o
    → WasNoDrop a.place.shape a.worker a.seen → Works job a b × (b.exhausted ≡ a.exhausted)
    × (held_by b.worker b.seen ≡ None)
reported job a b o r m t n = (
  makes_works job a b (Event.Report a.worker o) r m (
    (λ e. (
      subst (λ x. GivesTrue job a.place.shape x o)
          (sym (held_goes_on a.worker m.before a.seen m.newer)) t,
      no_drop_later a.place.shape a.worker m.before a.seen m.newer n,
    )),
    tt,
  ),
  ap (λ (x : Sitter). x.exhausted) m.seat,
  ap (λ (x : Sitter). held_by x.worker x.seen) m.seat
      ∙ ap (λ t. cond t None (held_by a.worker m.before)) (eq-eqb a.worker a.worker refl),
)

-- a seat that holds a piece never gets NothingHeld
pub holds_some : (a b : Sitter) (p : ℕ) → IsSitter a → held_by a.worker a.seen ≡ Some p
    → Stays a (call.Drop a.worker) (Refused NothingHeld) b → ⊥
holds_some a b p i e s = go (has_earlier_hit a.place.shape a.seen p) (s.replied
    ∙ drop_at a a.seen (Some p) i e)
  where
    go : (t : Bool) → Refused NothingHeld ≡ cond t Done (Refused NoEarlierHit) → ⊥
    go true q = absurd (cc)
    go false q = absurd (cc)

-- a drop of a seat that holds a piece, if it fails
pub missed : (a b : Sitter) (p : ℕ) → IsSitter a → held_by a.worker a.seen ≡ Some p → (r : Refusal)
    → ((r ≡ NothingHeld) ⊎ (r ≡ NoEarlierHit))
    → (r ≡ NothingHeld → Stays a (call.Drop a.worker) (Refused r) b)
    → (r ≡ NoEarlierHit → FindsNoHit a b) → FindsNoHit a b
missed a b p i holding r which stays finds = go which
  where
    go : (r ≡ NothingHeld) ⊎ (r ≡ NoEarlierHit) → FindsNoHit a b
    go (inl e) = absurd (holds_some a b p i holding
        (subst (λ x. Stays a (call.Drop a.worker) (Refused x) b) e (stays e)))
    go (inr e) = finds e

-- a property of a class and a block is a property of their piece
pub true_of_piece : (job : Parts) (s : Shape) (class block : ℕ) (o : Outcome)
    (x : Option ℕ) → class < s.classes → x ≡ Some (piece_at s class block)
    → IsTrueOutcome job.list.model job.circuit job.tests.tests class block o → GivesTrue job s x o
true_of_piece job s class block o x lt e t = subst (λ y. GivesTrue job s y o) (sym e)
    (subst (λ k. IsTrueOutcome job.list.model job.circuit job.tests.tests k
    (block_of s (piece_at s class block)) o) (sym (class_of-at s class block lt))
    (subst (λ k. IsTrueOutcome job.list.model job.circuit job.tests.tests class k o)
    (sym (block_of-at s class block lt)) t))

-- a true outcome of the piece that a seat holds is accepted
pub report_taken : (job : Parts) (a b : Sitter) (class block : ℕ) (o : Outcome)
    (r : _) → IsSitter a → IsShapeOf job a.place.shape → class < a.place.shape.classes
    → held_by a.worker a.seen ≡ Some (piece_at a.place.shape class block)
    → IsTrueOutcome job.list.model job.circuit job.tests.tests class block o
    → Stays a (call.Report a.worker o) (Refused r) b → ⊥
report_taken job a b class block o r i is lt e t s =
    let f = true_fits job a.place.shape class block o is.tests t in
    let g : fits_size (size_of a.place.shape.tests
    (block_of a.place.shape (piece_at a.place.shape class block))) o ≡ true =
    subst (λ n. fits_size (size_of a.place.shape.tests n) o ≡ true)
    (sym (block_of-at a.place.shape class block lt)) f in
    let q = s.replied ∙ report_answer a.place.shape a.seen a.worker
    (piece_at a.place.shape class block) o i.among e g in
    absurd (cc)

module _ (job : Parts) (a b : Sitter) (p : Place) (class block : ℕ)
    (at : a.place ≡ p) (i : IsSitter a) (is : IsShapeOf job p.shape) (lt : class < p.shape.classes)
    (holding : held_by a.worker a.seen ≡ Some (piece_at p.shape class block)) where
  own : IsShapeOf job a.place.shape
  own = subst (λ (q : Place). IsShapeOf job q.shape) (sym at) is

  own_class : class < a.place.shape.classes
  own_class = subst (λ (q : Place). class < q.shape.classes) (sym at) lt

  own_piece : held_by a.worker a.seen ≡ Some (piece_at a.place.shape class block)
  own_piece = subst (λ (q : Place). held_by a.worker a.seen ≡ Some (piece_at q.shape class block))
      (sym at) holding

  -- a report of the true outcome after it
  module _ (d : Sitter) (o : Outcome) (found : FindsNoHit a b)
      (true : IsTrueOutcome job.list.model job.circuit job.tests.tests class block o) where
    sees : Sees a a.exhausted b
    sees = found.sees

    here : b.place ≡ a.place
    here = ap (λ (x : Sitter). x.place) sees.seat

    still : held_by b.worker b.seen ≡ Some (piece_at b.place.shape class block)
    still = held_sees a b sees ∙ subst (λ (q : Place). held_by a.worker a.seen
        ≡ Some (piece_at q.shape class block)) (sym here) own_piece

    own_class_b : class < b.place.shape.classes
    own_class_b = subst (λ (q : Place). class < q.shape.classes) (sym here) own_class

    no_drop : WasNoDrop b.place.shape b.worker b.seen
    no_drop = subst (λ (x : Sitter). WasNoDrop x.place.shape x.worker b.seen) (sym sees.seat) (
      found.at,
      found.later,
      found.replied,
    )

    pub then_reported : (r : Reply) → Makes b (Event.Report b.worker o) r d → Works job a d
    then_reported r m = works_twice job a b d (sees_works job a b a.exhausted sees)
        (reported job b d o r m (true_of_piece job b.place.shape class block o
        (held_by b.worker b.seen) own_class_b still true) no_drop).0

    pub then_taken : (r : Refusal) → Stays b (call.Report b.worker o) (Refused r) d → ⊥
    then_taken r s = report_taken job b d class block o r (sitter_sees a b i sees)
        (subst (λ (q : Place). IsShapeOf job q.shape) (sym here) own) own_class_b still true s

-- the work after a claim that got Exhausted
pub exhausted : (job : Parts) (a b : Sitter) (r : Reply) → IsSitter a
    → (a.exhausted ≡ false → Sees a true b) → (a.exhausted ≡ true
    → Stays a (call.Claim a.worker) r b) → Works job a b
exhausted job a b r i sees stays = go a.exhausted refl
  where
    go : (t : Bool) → a.exhausted ≡ t → Works job a b
    go false e = sees_works job a b true (sees e)
    go true e = subst (Works job a) (sym (stays e).seat) (works_same job a i)

-- a claim of a piece
pub claimed : (job : Parts) (a b : Sitter) (r : Reply)
    → Makes a (Event.Claim a.worker) r b → Works job a b
claimed job a b r m = makes_works job a b (Event.Claim a.worker) r m tt

works_claims : (job : Parts) (a b : Sitter) → Works job a b → claims a.seen ≤ claims b.seen
works_claims job a b x = subst (λ h. claims a.seen ≤ claims h) (sym x.begins)
    (claims_past x.newer a.seen)

-- a piece that was claimed leaves fewer
pub fewer : (job : Parts) (a b d : Sitter) (p : Place) (class block : ℕ)
    → a.place ≡ p → Makes a (Event.Claim a.worker) (Claimed (claim_is.Piece class block)) b
    → Works job b d → piece_count p.shape - claims d.seen < piece_count p.shape - claims a.seen
fewer job a b d p class block at m x =
    let g = given a b class block m in
    let few : claims b.seen ≤ piece_count p.shape =
    subst (λ (q : Place). claims b.seen ≤ piece_count q.shape) at g.4 in
    let more = works_claims job b d x in
    let grew = g.3 in
    omega arith

-- a worker that its gate stopped for a piece that it has just claimed
pub stopped_holding : (stops : Stops) (a b : Sitter) (class block : ℕ)
    → Makes a (Event.Claim a.worker) (Claimed (claim_is.Piece class block)) b
    → stops.may a.worker class block → IsStopped b.place.shape stops b.worker b.seen
stopped_holding stops a b class block m s =
    let g = given a b class block m in
    subst (λ (x : Sitter). IsStopped x.place.shape stops x.worker b.seen) (sym m.seat) (
      piece_at a.place.shape class block,
      ap (λ (x : Sitter). held_by x.worker b.seen) (sym m.seat) ∙ g.0,
      subst (λ k. stops.may a.worker k (block_of a.place.shape
          (piece_at a.place.shape class block))) (sym (class_of-at a.place.shape class block g.1))
          (subst (λ k. stops.may a.worker class k) (sym (block_of-at a.place.shape class block g.1))
          s),
    )

-- settled classes stay settled
pub settled_works : (job : Parts) (s : Shape) (n : ℕ) (a b : Sitter)
    → Works job a b → AreSettled s a.seen n → AreSettled s b.seen n
settled_works job s n a b x t = subst (λ h. AreSettled s h n) (sym x.begins)
    (settled_past s n x.newer a.seen t)

pub settled_sees : (s : Shape) (n : ℕ) (a b : Sitter) (ended : Bool) → Sees a ended b
    → AreSettled s a.seen n → AreSettled s b.seen n
settled_sees s n a b ended x t = subst (λ h. AreSettled s h n) (sym x.newer.1)
    (settled_past s n x.newer.0 a.seen t)

pub not_waiting : (r : Status) → ((x : ℕ) → r ≡ status_is.Waiting x → ⊥)
    → (at : Option ℕ) × (r ≡ status_is.Settled at)
not_waiting (status_is.Settled at) n = (at, refl)
not_waiting (status_is.Waiting x) n = absurd (n x refl)
