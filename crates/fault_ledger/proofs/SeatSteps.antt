-- The meaning of a step of a seat's token for the seat.
use Rattle.std.proofs.Common.{◌≡◌, ℕ, zero, suc, ◌<◌, ◌≤◌, Bool, true, false, true≢false}
use Rattle.std.proofs.Common.{if◌then◌else◌, eqb, eqb-true, eq-eqb, List, [], ◌∷◌, set}
use Rattle.std.proofs.Common.{slice_index_or, Option, Some, None, refl, sym, ap, ◌∙◌, subst, arith}
use Rattle.std.proofs.{Common.{lt-ltb, le-ltb}, lemmas.List.get_or-set_other}
use Rattle.patterns.specs.{Tests.size_of, declared.Outcome.Outcome}
use Rattle.fault_ledger.specs.declared.{Shape.Shape, Event.Event, shared.Remembered.Remembered}
use Rattle.fault_ledger.specs.declared.Refusal.TheVariants.{BadOutcome, NoSuchWorker, NoEarlierHit}
use Rattle.fault_ledger.specs.declared.Reply.{Reply, TheVariants.{Claimed, Done, Refused}}
use Rattle.fault_ledger.specs.History.{History, claims, held_by, piece_at, piece_count, class_of}
use Rattle.fault_ledger.specs.{History.{block_of, ContinuesWithout}, Settled.AreClear}
use Rattle.fault_ledger.specs.Answer.{answer, has_earlier_hit, is_hit, claim_reply, drop_reply}
use Rattle.fault_ledger.specs.Answer.{IsLegal, fits_size, report_reply}
use Rattle.fault_ledger.specs.Seats.{Sitter, IsSitter, Recalls, Remembers, nothing_seen, IsSeated}
use Rattle.fault_ledger.specs.Seats.{Sees, Makes, FindsNoHit, Stays}
use Rattle.fault_ledger.proofs.Histories.{claims_past, entry_past, entry_goes_on, held_goes_on}
use Rattle.fault_ledger.proofs.Histories.{goes_on_twice, goes_on_same}
use Rattle.fault_ledger.proofs.LegalHistories.{legal_claims, held_piece}
use Rattle.fault_ledger.specs.declared.Claim.TheVariants as claim_is
use Rattle.fault_ledger.specs.declared.Call.TheVariants as call

claims_go_on : (w : ℕ) (later earlier : History) → ContinuesWithout w later earlier
    → claims earlier ≤ claims later
claims_go_on w later earlier c =
    subst (λ h. claims earlier ≤ claims h) (sym c.1) (claims_past c.0 earlier)

-- if all pieces were claimed, they still are
all_claimed : (s : Shape) (w : ℕ) (later earlier : History) → ContinuesWithout w later earlier
    → IsLegal s later → claims earlier ≡ piece_count s → claims later ≡ piece_count s
all_claimed s w later earlier c l e = let a = legal_claims s later l in
    let b = claims_go_on w later earlier c in omega arith

-- clear blocks stay clear
pub clear_goes_on : (s : Shape) (w class n : ℕ) (later earlier : History)
    → ContinuesWithout w later earlier → AreClear s earlier class n → AreClear s later class n
clear_goes_on s w class n later earlier c clear k l =
    let e = clear k l in
    entry_goes_on w (piece_at s class k) later earlier c (λ o. absurd (cc)) ∙ e

clear_after : (s : Shape) (class n : ℕ) (e : Event) (h : History) → AreClear s h class n
    → AreClear s (e ∷ h) class n
clear_after s class n e h clear k l =
    let x = clear k l in
    entry_past (piece_at s class k) (e ∷ []) h (λ o. absurd (cc)) ∙ x

-- and stays remembered
pub recalls_goes_on : (s : Shape) (w class : ℕ) (known : Remembered) (later earlier : History)
    → ContinuesWithout w later earlier → Recalls s earlier class known → Recalls s later class known
recalls_goes_on s w class known later earlier c r = record {
  clear = clear_goes_on s w class known.clear later earlier c r.clear;
  hit = λ t. let e = r.hit t in ap is_hit (entry_goes_on w
      (piece_at s class known.clear) later earlier c (λ o. true≢false (sym e ∙ ap is_hit o))) ∙ e;
}

recalls_after : (s : Shape) (class : ℕ) (known : Remembered) (e : Event) (h : History)
    → Recalls s h class known → Recalls s (e ∷ h) class known
recalls_after s class known e h r = record {
  clear = clear_after s class known.clear e h r.clear;
  hit = λ t. let x = r.hit t in ap is_hit (entry_past (piece_at s class known.clear) (e ∷ []) h
      (λ o. true≢false (sym x ∙ ap is_hit o))) ∙ x;
}

pub remembers_sees : (a b : Sitter) (exhausted : Bool) (clear : List Remembered)
    → Sees a exhausted b → Remembers a clear → Remembers b clear
remembers_sees a b exhausted clear s r =
    let h = b.seen in
    subst (λ (x : Sitter). Remembers x clear) (sym s.seat)
    (λ class. recalls_goes_on a.place.shape a.worker class
    (slice_index_or clear class nothing_seen) h a.seen s.newer (r class))

pub remembers_makes : (a b : Sitter) (e : Event) (reply : Reply) (clear : List Remembered)
    → Makes a e reply b → Remembers a clear → Remembers b clear
remembers_makes a b e reply clear m r = subst (λ (x : Sitter). Remembers x clear) (sym m.seat)
    (λ class. let n = slice_index_or clear class nothing_seen in
    recalls_after a.place.shape class n e m.before
    (recalls_goes_on a.place.shape a.worker class n m.before a.seen m.newer (r class)))

at_set : {X : Type 0} (P : X → Type 0) (d : X) (l : List X) (i : ℕ) (n : X) → P d → P n
    → P (slice_index_or (set l i n) i d)
at_set P d [] i n z p = z
at_set P d (x ∷ xs) zero n z p = p
at_set P d (x ∷ xs) (suc i) n z p = at_set P d xs i n z p

pub nothing_recalled : (s : Shape) (h : History) (class : ℕ) → Recalls s h class nothing_seen
nothing_recalled s h class =
    record { clear = λ k l. absurd (omega arith); hit = λ t. absurd (true≢false (sym t)) }

pub remembers_set : (a : Sitter) (clear : List Remembered) (class : ℕ) (n : Remembered)
    → Remembers a clear → Recalls a.place.shape a.seen class n → Remembers a (set clear class n)
remembers_set a clear class n r now other = go (eqb other class) refl
  where
    go : (b : Bool) → eqb other class ≡ b
        → Recalls a.place.shape a.seen other (slice_index_or (set clear class n) other nothing_seen)
    go true e = subst (λ k. Recalls a.place.shape a.seen k
        (slice_index_or (set clear class n) k nothing_seen)) (sym (eqb-true other class e))
        (at_set (Recalls a.place.shape a.seen class) nothing_seen clear class n
        (nothing_recalled a.place.shape a.seen class) now)
    go false e =
        subst (Recalls a.place.shape a.seen other) (sym (get_or-set_other clear class other n
        nothing_seen (λ q. true≢false (sym (eq-eqb other class q) ∙ e)))) (r other)

-- a seat that sees more
pub sitter_sees : (a b : Sitter) → IsSitter a → Sees a a.exhausted b → IsSitter b
sitter_sees a b i s =
    let h = b.seen in
    subst IsSitter (sym s.seat) (record {
      limits = i.limits;
      among = i.among;
      legal = s.legal;
      ended = λ t. (
        held_goes_on a.worker h a.seen s.newer ∙ (i.ended t).0,
        all_claimed a.place.shape a.worker h a.seen s.newer s.legal (i.ended t).1,
      );
    })

pub seated_sees : (a b : Sitter) (worker : ℕ) (exhausted : Bool) (classes : ℕ) (piece : Option ℕ)
    (clear : List Remembered) → IsSeated a worker exhausted classes piece clear
    → Sees a a.exhausted b → IsSeated b worker exhausted classes piece clear
seated_sees a b worker exhausted classes piece clear i s = record {
  sitter = sitter_sees a b i.sitter s;
  worker_is = i.worker_is ∙ ap (λ (x : Sitter). x.worker) (sym s.seat);
  exhausted_is = i.exhausted_is ∙ ap (λ (x : Sitter). x.exhausted) (sym s.seat);
  classes_is = i.classes_is ∙ ap (λ (x : Sitter). x.place.shape.classes) (sym s.seat);
  piece_is = i.piece_is ∙ sym (held_goes_on a.worker b.seen a.seen s.newer)
      ∙ ap (λ (x : Sitter). held_by x.worker b.seen) (sym s.seat);
  remembers = remembers_sees a b a.exhausted clear s i.remembers;
}

-- a seat that gets Exhausted
pub seated_ends : (a b : Sitter) (worker : ℕ) (exhausted : Bool) (classes : ℕ) (piece : Option ℕ)
    (clear : List Remembered) → IsSeated a worker exhausted classes piece clear → piece ≡ None
    → Sees a true b → claims b.seen ≡ piece_count a.place.shape
    → IsSeated b worker true classes piece clear
seated_ends a b worker exhausted classes piece clear i none s all =
    let h = b.seen in
    let same = held_goes_on a.worker h a.seen s.newer in
    subst (λ (x : Sitter). IsSeated x worker true classes piece clear) (sym s.seat) (record {
      sitter = record {
        limits = i.sitter.limits;
        among = i.sitter.among;
        legal = s.legal;
        ended = λ t. (same ∙ sym i.piece_is ∙ none, all);
      };
      worker_is = i.worker_is;
      exhausted_is = refl;
      classes_is = i.classes_is;
      piece_is = i.piece_is ∙ sym same;
      remembers = λ class. recalls_goes_on a.place.shape a.worker class
          (slice_index_or clear class nothing_seen) h a.seen s.newer (i.remembers class);
    })

-- a seat that holds a piece has not got Exhausted
pub untold : (a : Sitter) (worker : ℕ) (exhausted : Bool) (classes : ℕ) (piece : Option ℕ)
    (clear : List Remembered) (p : ℕ) → IsSeated a worker exhausted classes piece clear → piece
    ≡ Some p → a.exhausted ≡ false
untold a worker exhausted classes piece clear p i e = go a.exhausted refl
  where
    go : (b : Bool) → a.exhausted ≡ b → b ≡ false
    go false t = refl
    go true t = let q : Some p ≡ None = sym e ∙ i.piece_is ∙ (i.sitter.ended t).0 in absurd (cc)

-- a seat after an event of its own
pub seated_makes : (a b : Sitter) (e : Event) (r : Reply) (worker : ℕ) (exhausted : Bool) (classes
    : ℕ) (piece now : Option ℕ) (clear : List Remembered)
    → IsSeated a worker exhausted classes piece clear → a.exhausted ≡ false → Makes a e r b
    → held_by a.worker b.seen ≡ now → IsSeated b worker exhausted classes now clear
seated_makes a b e r worker exhausted classes piece now clear i free m holds =
    subst (λ (x : Sitter). IsSeated x worker exhausted classes now clear) (sym m.seat) (record {
      sitter = record {
        limits = i.sitter.limits;
        among = i.sitter.among;
        legal = m.legal;
        ended = λ t. absurd (true≢false (sym t ∙ free));
      };
      worker_is = i.worker_is;
      exhausted_is = i.exhausted_is;
      classes_is = i.classes_is;
      piece_is = sym holds ∙ ap (λ (x : Sitter). held_by a.worker x.seen) m.seat;
      remembers = subst (λ (x : Sitter). Remembers x clear) m.seat
          (remembers_makes a b e r clear m i.remembers);
    })

-- after a report or a drop it holds nothing
pub reported_free : (a b : Sitter) (o : Outcome) (r : Reply) → Makes a (Event.Report a.worker o) r b
    → held_by a.worker b.seen ≡ None
reported_free a b o r m = ap (λ (x : Sitter). held_by a.worker x.seen) m.seat
    ∙ ap (λ y. if y then None else held_by a.worker m.before) (eq-eqb a.worker a.worker refl)

-- a report of a hit at a test that the piece's block hasn't is no step
pub reported_badly : (a : Sitter) (p : ℕ) (o : Outcome) → IsSitter a
    → held_by a.worker a.seen ≡ Some p
    → fits_size (size_of a.place.shape.tests (block_of a.place.shape p)) o ≡ false
    → Stays a (call.Report a.worker o) (Refused BadOutcome) a
reported_badly a p o i holds bad =
    let s = a.place.shape in
    record {
      seat = refl;
      replied = sym (ap (λ b. if b then report_reply s o (held_by a.worker a.seen)
          else Refused NoSuchWorker) (lt-ltb a.worker s.workers i.among)
          ∙ ap (report_reply s o) holds ∙ ap (λ b. if b then Done else Refused BadOutcome) bad);
    }

pub dropped_free : (a b : Sitter) (r : Reply) → Makes a (Event.Drop a.worker) r b
    → held_by a.worker b.seen ≡ None
dropped_free a b r m = ap (λ (x : Sitter). held_by a.worker x.seen) m.seat
    ∙ ap (λ y. if y then None else held_by a.worker m.before) (eq-eqb a.worker a.worker refl)

-- a piece that a seat holds is one of the pieces
pub seated_piece : (a : Sitter) (worker : ℕ) (exhausted : Bool) (classes : ℕ) (piece : Option ℕ)
    (clear : List Remembered) (p : ℕ) → IsSeated a worker exhausted classes piece clear → piece
    ≡ Some p → p < piece_count a.place.shape
seated_piece a worker exhausted classes piece clear p i e =
    held_piece a.place.shape a.worker p a.seen i.sitter.legal (sym i.piece_is ∙ e)

-- the piece that a seat holds is one
pub seated_same : (a b : Sitter) (worker : ℕ) (exhausted : Bool) (classes : ℕ) (piece : Option ℕ)
    (clear : List Remembered)
    (p q : ℕ) → IsSeated a worker exhausted classes piece clear → a ≡ b → piece ≡ Some p
    → held_by b.worker b.seen ≡ Some q → q ≡ p
seated_same a b worker exhausted classes piece clear p q i view is holds =
    let e : Some q ≡ Some p =
    sym holds ∙ ap (λ (x : Sitter). held_by x.worker x.seen) (sym view) ∙ sym i.piece_is ∙ is in
    cc

-- looks, and then an event
pub makes_after : (a b d : Sitter) (e : Event) (r : Reply) → Sees a a.exhausted b → Makes b e r d
    → Makes a e r d
makes_after a b d e r s m =
    let h = b.seen in
    let go = subst (λ (x : Sitter). Makes x e r d) s.seat m in
    record {
      before = go.before;
      seat = go.seat;
      newer = goes_on_twice a.worker go.before h a.seen go.newer s.newer;
      legal = go.legal;
      replied = go.replied;
    }

-- the same looks twice
pub sees_twice : (a b d : Sitter) → Sees a a.exhausted b → Sees b b.exhausted d
    → Sees a a.exhausted d
sees_twice a b d s t =
    let h = b.seen in
    let go = subst (λ (x : Sitter). Sees x x.exhausted d) s.seat t in
    record {
      seat = go.seat;
      newer = goes_on_twice a.worker d.seen h a.seen go.newer s.newer;
      legal = go.legal;
    }

pub sees_same : (a : Sitter) → IsSitter a → Sees a a.exhausted a
sees_same a i = record { seat = refl; newer = goes_on_same a.worker a.seen; legal = i.legal }

-- the replies after the history that a seat has seen
pub claim_at : (a : Sitter) (h : History) (x : Option ℕ) → IsSitter a → held_by a.worker h ≡ x
    → answer a.place.shape h (call.Claim a.worker) ≡ claim_reply a.place.shape h x
claim_at a h x i e =
    ap (λ b. if b then claim_reply a.place.shape h (held_by a.worker h) else Refused NoSuchWorker)
    (lt-ltb a.worker a.place.shape.workers i.among) ∙ ap (claim_reply a.place.shape h) e

pub drop_at : (a : Sitter) (h : History) (x : Option ℕ) → IsSitter a → held_by a.worker h ≡ x
    → answer a.place.shape h (call.Drop a.worker) ≡ drop_reply a.place.shape h x
drop_at a h x i e =
    ap (λ b. if b then drop_reply a.place.shape h (held_by a.worker h) else Refused NoSuchWorker)
    (lt-ltb a.worker a.place.shape.workers i.among) ∙ ap (drop_reply a.place.shape h) e

-- a claim after all pieces are claimed
pub exhausted_at : (a : Sitter) (h : History) → IsSitter a
    → held_by a.worker h ≡ None → claims h ≡ piece_count a.place.shape
    → Claimed claim_is.Exhausted ≡ answer a.place.shape h (call.Claim a.worker)
exhausted_at a h i e all =
    let s = a.place.shape in
    let few : piece_count s ≤ claims h = omega arith in
    sym (claim_at a h None i e ∙ ap
    (λ b. if b then Claimed (claim_is.Piece (class_of s (claims h)) (block_of s (claims h)))
    else Claimed claim_is.Exhausted) (le-ltb (claims h) (piece_count s) few))

-- the piece of a seat after it has seen more
pub held_sees : (a b : Sitter) → Sees a a.exhausted b → held_by b.worker b.seen
    ≡ held_by a.worker a.seen
held_sees a b s = let h = b.seen in ap (λ (x : Sitter). held_by x.worker h) s.seat
    ∙ held_goes_on a.worker h a.seen s.newer

-- a drop that finds no hit
pub finds_nothing : (a b : Sitter) (p : ℕ) → IsSitter a → held_by a.worker a.seen ≡ Some p
    → Sees a a.exhausted b
    → (at : History) × ContinuesWithout a.worker at a.seen × ContinuesWithout a.worker b.seen at
    × (has_earlier_hit a.place.shape at p ≡ false) → FindsNoHit a b
finds_nothing a b p i e s x = record {
  sees = s;
  at = x.0;
  first = x.1;
  later = x.2;
  replied = sym (drop_at a x.0 (Some p) i (held_goes_on a.worker x.0 a.seen x.1 ∙ e)
      ∙ ap (λ c. if c then Done else Refused NoEarlierHit) x.3);
}

-- the place of its seat stays
pub sees_kept : (a b : Sitter) → Sees a a.exhausted b
    → (b.place ≡ a.place) × (b.worker ≡ a.worker) × (b.exhausted ≡ a.exhausted)
sees_kept a b sees = (
  ap (λ (x : Sitter). x.place) sees.seat,
  ap (λ (x : Sitter). x.worker) sees.seat,
  ap (λ (x : Sitter). x.exhausted) sees.seat,
)
