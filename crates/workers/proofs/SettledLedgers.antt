-- When all classes of a ledger are settled, and that they stay so.
use Rattle.std.proofs.Common.{map, ◌≡◌, ◌≢◌, ◌<◌, ◌≤◌, ◌+◌, ◌*◌, ◌⊎◌, inl, inr, ℕ, zero, suc, Bool}
use Rattle.std.proofs.Common.{true, false, cond, eqb, [], ◌∷◌, ◌++◌, Option, Some, None, refl, sym}
use Rattle.std.proofs.{Common.{ap, ◌∙◌, subst, arith, eq-eqb, ne_eqb}, lemmas.Bool.cases_lt}
use Rattle.patterns.specs.{declared.Outcome.Outcome, Least.from_up}
use Rattle.patterns.specs.declared.Outcome.TheVariants as outcome
use Rattle.fault_ledger.specs.declared.{Event.Event, Shape.Shape, PieceState.PieceState}
use Rattle.fault_ledger.specs.{declared.Status.Status, Answer.IsLegal}
use Rattle.fault_ledger.specs.History.{History, ContinuesWithout, worker_of, block_count, piece_at}
use Rattle.fault_ledger.specs.History.{piece_count, claims, held_by, holds, entry, state_of}
use Rattle.fault_ledger.specs.Settled.{status, finish, finish_from, IsSettledAt}
use Rattle.fault_ledger.proofs.Public.{held-holds, claim_accepted, piece_at-below, ClearBelow}
use Rattle.fault_ledger.proofs.Public.{skipped_not_first, settled_stays, status-hit, status-none}
use Rattle.fault_ledger.proofs.Public.{finish-all}
use Rattle.fault_ledger.specs.declared.PieceState.TheVariants as state
use Rattle.fault_ledger.specs.declared.Status.TheVariants as status_is
use Rattle.fault_ledger.specs.declared.Finish.TheVariants as finish_is
use Rattle.workers.specs.Settling.{AreSettled}

-- an open piece that was claimed is held by one of the workers
pub open_held : (s : Shape) (p : ℕ) (h : History) → IsLegal s h → p < claims h
    → entry p h ≡ state.Open → (w : ℕ) × (w < s.workers) × (held_by w h ≡ Some p)
open_held s p [] l c e = absurd (omega arith)
open_held s p (Event.Claim u ∷ h) l c e =
    go (λ lt. open_held s p h l.1 lt e) (cases_lt p (claims h))
  where
    a : (u < s.workers) × (held_by u h ≡ None) × (claims h < piece_count s)
    a = claim_accepted s h u l.0

    go : (p < claims h → (w : ℕ) × (w < s.workers) × (held_by w h ≡ Some p))
        → (p < claims h) ⊎ (claims h ≤ p) → (w : ℕ) × (w < s.workers)
        × (held_by w (Event.Claim u ∷ h) ≡ Some p)
    go before (inl lt) =
        let i = before lt in
        let apart : eqb i.0 u ≡ false = ne_eqb i.0 u (λ q. let x : held_by u h ≡ Some p =
        subst (λ w. held_by w h ≡ Some p) q i.2 in let y = a.1 in absurd (cc)) in
        (i.0, i.1, ap (λ b. cond b (Some (claims h)) (held_by i.0 h)) apart ∙ i.2)
    go before (inr le) =
        let q : claims h ≡ p = omega arith in
        (u, a.0, ap (λ b. cond b (Some (claims h)) (held_by u h)) (eq-eqb u u refl) ∙ ap Some q)
open_held s p (Event.Report u o ∷ h) l c e = go (λ q. open_held s p h l.1 c q) (holds u p h) refl e
  where
    reported : (o : Outcome) → state_of o ≡ state.Open → ⊥
    reported outcome.Clear q = absurd (cc)
    reported (outcome.Hit k) q = absurd (cc)

    go : (entry p h ≡ state.Open → (w : ℕ) × (w < s.workers) × (held_by w h ≡ Some p)) → (b : Bool)
        → holds u p h ≡ b → cond b (state_of o) (entry p h) ≡ state.Open → (w : ℕ) × (w < s.workers)
        × (held_by w (Event.Report u o ∷ h) ≡ Some p)
    go before true x q = absurd (reported o q)
    go before false x q =
        let i = before q in
        let apart : eqb i.0 u ≡ false = ne_eqb i.0 u (λ r. let y : held_by u h ≡ Some p =
        subst (λ w. held_by w h ≡ Some p) r i.2 in let z = held-holds u p h y in absurd (cc)) in
        (i.0, i.1, ap (λ b. cond b None (held_by i.0 h)) apart ∙ i.2)
open_held s p (Event.Drop u ∷ h) l c e = go (λ q. open_held s p h l.1 c q) (holds u p h) refl e
  where
    go : (entry p h ≡ state.Open → (w : ℕ) × (w < s.workers) × (held_by w h ≡ Some p)) → (b : Bool)
        → holds u p h ≡ b → cond b state.Skipped (entry p h) ≡ state.Open
        → (w : ℕ) × (w < s.workers) × (held_by w (Event.Drop u ∷ h) ≡ Some p)
    go before true x q = absurd (cc)
    go before false x q =
        let i = before q in
        let apart : eqb i.0 u ≡ false = ne_eqb i.0 u (λ r. let y : held_by u h ≡ Some p =
        subst (λ w. held_by w h ≡ Some p) r i.2 in let z = held-holds u p h y in absurd (cc)) in
        (i.0, i.1, ap (λ b. cond b None (held_by i.0 h)) apart ∙ i.2)

-- if all pieces are claimed and no worker holds one, none is open
pub none_open : (s : Shape) (h : History) → IsLegal s h → claims h ≡ piece_count s
    → ((w : ℕ) → w < s.workers → held_by w h ≡ None) → (p : ℕ) → p < piece_count s
    → entry p h ≢ state.Open
none_open s h l all free p lt e =
    let i = open_held s p h l (omega arith) e in
    let x = free i.0 i.1 in
    let y = i.2 in
    absurd (cc)

-- a class of which no piece is open is settled
settles_from : (s : Shape) (class : ℕ) (h : History) → IsLegal s h → class < s.classes
    → ((b : ℕ) → b < block_count s → entry (piece_at s class b) h ≢ state.Open)
    → (n b : ℕ) → b + n ≡ block_count s → ClearBelow s class b h
    → (at : Option ℕ) × IsSettledAt s h class at
settles_from s class h l lt closed zero b e clear = (
  None,
  status-none (λ k. entry (piece_at s class k) h) (block_count s) (λ k m. clear k (omega arith)),
)
settles_from s class h l lt closed (suc n) b e clear = go (entry (piece_at s class b) h) refl
    (λ q. settles_from s class h l lt closed n (b + 1) (omega arith) (more q))
  where
    more : entry (piece_at s class b) h ≡ state.Clear → ClearBelow s class (b + 1) h
    more q k m = pick (cases_lt k b)
      where
        pick : (k < b) ⊎ (b ≤ k) → entry (piece_at s class k) h ≡ state.Clear
        pick (inl x) = clear k x
        pick (inr x) = let y : b ≡ k = omega arith in
            subst (λ j. entry (piece_at s class j) h ≡ state.Clear) y q

    go : (x : PieceState) → entry (piece_at s class b) h ≡ x
        → (entry (piece_at s class b) h ≡ state.Clear → (at : Option ℕ) × IsSettledAt s h class at)
        → (at : Option ℕ) × IsSettledAt s h class at
    go state.Clear q i = i q
    go (state.Hit k) q i = (
      Some (64 * b + k),
      status-hit (λ j. entry (piece_at s class j) h) (block_count s) b k (omega arith) clear q,
    )
    go state.Open q i = absurd (closed b (omega arith) q)
    go state.Skipped q i = absurd (skipped_not_first s class b h l lt (omega arith) clear q)

pub all_settled : (s : Shape) (h : History) → IsLegal s h
    → ((p : ℕ) → p < piece_count s → entry p h ≢ state.Open) → AreSettled s h s.classes
all_settled s h l closed class lt =
    settles_from s class h l lt (λ b m. closed (piece_at s class b) (piece_at-below s class b lt m))
    (block_count s) 0 (omega arith) (λ k m. absurd (omega arith))

pub settled_finished : (s : Shape) (h : History) → AreSettled s h s.classes
    → finish s h ≡ finish_is.Finished
settled_finished s h settled = finish-all (status s h) s.classes settled

-- settled classes stay settled
pub settled_goes_on : (s : Shape) (w n : ℕ) (later earlier : History)
    → ContinuesWithout w later earlier → AreSettled s earlier n → AreSettled s later n
settled_goes_on s w n later earlier c settled class lt = let x = settled class lt in
    (x.0, settled_stays s class w x.0 later earlier c x.1)

pub settled_past : (s : Shape) (n : ℕ) (d h : History) → AreSettled s h n → AreSettled s (d ++ h) n
settled_past s n [] h a = a
settled_past s n (e ∷ d) h a = settled_goes_on s (suc (worker_of e)) n (e ∷ (d ++ h)) (d ++ h) (
  e ∷ [],
  refl,
  ((λ q. let bad : worker_of e ≡ suc (worker_of e) = q in omega (arith, bad)), tt),
) (settled_past s n d h a)

-- one class more
pub settled_more : (s : Shape) (n : ℕ) (h : History) (at : Option ℕ) → AreSettled s h n
    → status s h n ≡ status_is.Settled at → AreSettled s h (n + 1)
settled_more s n h at a e class lt = go (cases_lt class n)
  where
    go : (class < n) ⊎ (n ≤ class) → (at : Option ℕ) × IsSettledAt s h class at
    go (inl x) = a class x
    go (inr x) = let q : n ≡ class = omega (arith, lt, x) in
        (at, subst (λ k. status s h k ≡ status_is.Settled at) q e)

-- a finished ledger has settled each class
pub finished_settled : (s : Shape) (h : History) → finish s h ≡ finish_is.Finished
    → AreSettled s h s.classes
finished_settled s h e class lt = past (status s h) 0 s.classes e class (omega arith) (omega (
  arith,
  lt,
))
  where
    past : (g : ℕ → Status) (a n : ℕ) → finish_from a (map g (from_up a n)) ≡ finish_is.Finished
        → (k : ℕ) → a ≤ k → k < a + n → (at : Option ℕ) × (g k ≡ status_is.Settled at)
    past g a zero e k le lt = absurd (omega (arith, le, lt))
    past g a (suc n) e k le lt = go (g a) refl e (past g (a + 1) n)
      where
        go : (y : Status) → g a ≡ y → finish_from a (y ∷ map g (from_up (a + 1) n))
            ≡ finish_is.Finished
            → (finish_from (a + 1) (map g (from_up (a + 1) n)) ≡ finish_is.Finished → (k : ℕ)
            → a + 1 ≤ k → k < a + 1 + n → (at : Option ℕ) × (g k ≡ status_is.Settled at))
            → (at : Option ℕ) × (g k ≡ status_is.Settled at)
        go (status_is.Waiting b) q v i = absurd (cc)
        go (status_is.Settled at) q v i = pick (cases_lt a k)
          where
            pick : (a < k) ⊎ (k ≤ a) → (at : Option ℕ) × (g k ≡ status_is.Settled at)
            pick (inl m) = i v k (omega (arith, m)) (omega (arith, lt))
            pick (inr m) = let z : a ≡ k = omega (arith, le, m) in (at, ap g (sym z) ∙ q)
