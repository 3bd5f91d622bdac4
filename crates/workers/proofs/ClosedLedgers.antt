-- The meaning of a closed ledger for the run.
use Rattle.std.proofs.Common.{◌≡◌, ◌<◌, ◌≤◌, ◌+◌, ◌⊎◌, inl, inr, ℕ, zero, suc, List, [], ◌∷◌, map}
use Rattle.std.proofs.Common.{length, All, Option, None, refl, sym, ap, ◌∙◌, subst, arith}
use Rattle.std.proofs.lemmas.{Bool.cases_lt, Option.get_or_from_slice_get}
use Rattle.patterns.specs.{Tests.blocks, Least.from_up}
use Rattle.block_sim.specs.Parts.{Parts, BelongTogether}
use Rattle.fault_ledger.specs.declared.{Shape.Shape, PieceState.PieceState, Status.Status}
use Rattle.fault_ledger.specs.History.{History, ContinuesWithout, block_count, piece_at}
use Rattle.fault_ledger.specs.{History.{piece_count, claims, held_by, entry}, Answer.IsLegal}
use Rattle.fault_ledger.specs.Settled.{status, status_from, finish, finish_from}
use Rattle.fault_ledger.specs.Seats.{ClosedFace, Closes, Place, Sitter, HoldsAll, closed_face}
use Rattle.fault_ledger.proofs.Public.{held_goes_on, claims_past, legal_claims, ClearBelow}
use Rattle.fault_ledger.proofs.Public.{skipped_not_first}
use Rattle.fault_ledger.specs.declared.PieceState.TheVariants as state
use Rattle.fault_ledger.specs.declared.Status.TheVariants as status_is
use Rattle.fault_ledger.specs.declared.Finish.TheVariants as finish_is
use Rattle.workers.specs.{Settling.{AreSettled, IsShapeOf, shape_for}, Work.{Returns, WaitsFor}}
use Rattle.workers.specs.Work.{AllReportTruly, AreBack, HasRested, HasRun, IsStopped, ReportsTruly}
use Rattle.workers.{specs.Stops.Stops, proofs.SettledLedgers.finished_settled}
use Rattle.workers.proofs.SettledLedgers.{none_open, all_settled, settled_goes_on, settled_finished}
use Rattle.workers.specs.Verdict.{AreFirsts, verdicts}
use Rattle.workers.proofs.TrueReports.{truly_goes_on, all_true, firsts_truly}
use Rattle.list_lemmas.proofs.Places.{within_place}

module _ (job : Parts) (p : Place) (P : Type 0) (S : Stops) (seats : List Sitter)
    (h : History) (back : AreBack job p P S seats) (holds : HoldsAll h seats) where
  -- the seat of a worker
  seat_of : (w : ℕ) → w < p.shape.workers → (a : Sitter) × ContinuesWithout w h a.seen
      × Returns job p w P S a
  seat_of w lt =
      let low : w < length seats = omega (arith, lt, back.count) in
      let x = within_place seats w low in
      let r = back.each w x.0 x.1 in
      let c : ContinuesWithout x.0.worker h x.0.seen =
      subst (λ (a : Sitter). ContinuesWithout a.worker h a.seen)
      (get_or_from_slice_get seats w x.0 x.0 x.1) (holds w x.0 low) in
      (x.0, subst (λ v. ContinuesWithout v h x.0.seen) r.worker_is c, r)

  pub each_truly : (w : ℕ) → w < p.shape.workers → ReportsTruly job p.shape w h []
  each_truly w lt = let x = seat_of w lt in
      truly_goes_on job p.shape w h x.0.seen x.1 x.2.truly

  free : P → (w : ℕ) → w < p.shape.workers → held_by w h ≡ None
  free sure w lt =
      let x = seat_of w lt in
      held_goes_on w h x.0.seen x.1 ∙ subst (λ v. held_by v x.0.seen ≡ None) x.2.worker_is
      (x.2.rested sure).free

  -- with a gate that always lets pass all classes are settled
  pub rested_settled : P → 0 < p.shape.workers → IsLegal p.shape h
      → AreSettled p.shape h p.shape.classes
  rested_settled sure some l = go (x.2.rested sure).over
    where
      x : (a : Sitter) × ContinuesWithout 0 h a.seen × Returns job p 0 P S a
      x = seat_of 0 some

      s : Shape
      s = p.shape

      go : (claims x.0.seen ≡ piece_count x.0.place.shape)
          ⊎ AreSettled x.0.place.shape x.0.seen x.0.place.shape.classes
          → AreSettled p.shape h p.shape.classes
      go (inl all) =
          let same : claims x.0.seen ≡ piece_count s = all
          ∙ ap (λ (q : Place). piece_count q.shape) x.2.place_is in
          let more : claims x.0.seen ≤ claims h = subst (λ k. claims x.0.seen ≤ claims k)
          (sym x.1.1) (claims_past x.1.0 x.0.seen) in
          let few = legal_claims s h l in
          all_settled s h l (none_open s h l (omega arith) (free sure))
      go (inr settled) = settled_goes_on s 0 s.classes h x.0.seen x.1
          (subst (λ (q : Place). AreSettled q.shape x.0.seen q.shape.classes) x.2.place_is settled)

  -- if a class waits, each worker was stopped, or all pieces are claimed
  pub each_ended : IsLegal p.shape h → (class block : ℕ)
      → finish p.shape h ≡ finish_is.Waiting class block → (w : ℕ) → w < p.shape.workers
      → IsStopped p.shape S w h ⊎ (claims h ≡ piece_count p.shape)
  each_ended l class block waits w lt = go x.2.ended
    where
      x : (a : Sitter) × ContinuesWithout w h a.seen × Returns job p w P S a
      x = seat_of w lt

      past : (claims x.0.seen ≡ piece_count x.0.place.shape)
          ⊎ AreSettled x.0.place.shape x.0.seen x.0.place.shape.classes
          → IsStopped p.shape S w h ⊎ (claims h ≡ piece_count p.shape)
      past (inl all) =
          let same : claims x.0.seen ≡ piece_count p.shape = all
          ∙ ap (λ (q : Place). piece_count q.shape) x.2.place_is in
          let more : claims x.0.seen ≤ claims h = subst (λ k. claims x.0.seen ≤ claims k)
          (sym x.1.1) (claims_past x.1.0 x.0.seen) in
          let few = legal_claims p.shape h l in
          inr (omega arith)
      past (inr settled) =
          let all = settled_goes_on p.shape w p.shape.classes h x.0.seen x.1
          (subst (λ (q : Place). AreSettled q.shape x.0.seen q.shape.classes) x.2.place_is
          settled) in
          let bad = sym waits ∙ settled_finished p.shape h all in
          absurd (cc)

      go : HasRested x.0 ⊎ IsStopped p.shape S w x.0.seen
          → IsStopped p.shape S w h ⊎ (claims h ≡ piece_count p.shape)
      go (inl r) = past r.over
      go (inr s) = inl (s.0, held_goes_on w h x.0.seen x.1 ∙ s.1, s.2)

-- a class that waits, waits for one of its blocks
waits_within : (s : Shape) (class : ℕ) (h : History) (x : ℕ) → IsLegal s h → class < s.classes
    → (n b : ℕ) → b + n ≡ block_count s → ClearBelow s class b h
    → status_from b (map (λ k. entry (piece_at s class k) h) (from_up b n)) ≡ status_is.Waiting x
    → x < block_count s
waits_within s class h x l lt zero b e clear w = absurd (cc)
waits_within s class h x l lt (suc n) b e clear w = go (entry (piece_at s class b) h) refl w
    (λ q. waits_within s class h x l lt n (b + 1) (omega arith) (more q))
  where
    more : entry (piece_at s class b) h ≡ state.Clear → ClearBelow s class (b + 1) h
    more q k m = pick (cases_lt k b)
      where
        pick : (k < b) ⊎ (b ≤ k) → entry (piece_at s class k) h ≡ state.Clear
        pick (inl y) = clear k y
        pick (inr y) = let z : b ≡ k = omega arith in
            subst (λ j. entry (piece_at s class j) h ≡ state.Clear) z q

    go : (y : PieceState) → entry (piece_at s class b) h ≡ y
        → status_from b (y ∷ map (λ k. entry (piece_at s class k) h) (from_up (b + 1) n))
        ≡ status_is.Waiting x → (entry (piece_at s class b) h ≡ state.Clear
        → status_from (b + 1) (map (λ k. entry (piece_at s class k) h) (from_up (b + 1) n))
        ≡ status_is.Waiting x → x < block_count s) → x < block_count s
    go state.Clear q v i = i q v
    go (state.Hit k) q v i = absurd (cc)
    go state.Open q v i = let z : b ≡ x = cc in omega arith
    go state.Skipped q v i = absurd (skipped_not_first s class b h l lt (omega arith) clear q)

waits_for : (g : ℕ → Status) (a n c b : ℕ)
    → finish_from a (map g (from_up a n)) ≡ finish_is.Waiting c b
    → (c < a + n) × (g c ≡ status_is.Waiting b)
waits_for g a zero c b e = absurd (cc)
waits_for g a (suc n) c b e = go (g a) refl e (waits_for g (a + 1) n c b)
  where
    go : (y : Status) → g a ≡ y → finish_from a (y ∷ map g (from_up (a + 1) n))
        ≡ finish_is.Waiting c b → (finish_from (a + 1) (map g (from_up (a + 1) n))
        ≡ finish_is.Waiting c b → (c < a + 1 + n) × (g c ≡ status_is.Waiting b))
        → (c < a + suc n) × (g c ≡ status_is.Waiting b)
    go (status_is.Settled at) q v i = let r = i v in (omega (arith, r.0), r.1)
    go (status_is.Waiting k) q v i =
        let x : a ≡ c = cc in
        let y : k ≡ b = cc in
        (omega arith, ap g (sym x) ∙ q ∙ ap status_is.Waiting y)

-- the class and block that an unfinished ledger names
pub waiting_range : (s : Shape) (h : History) (c b : ℕ) → IsLegal s h
    → finish s h ≡ finish_is.Waiting c b → (c < s.classes) × (b < block_count s)
waiting_range s h c b l e =
    let r = waits_for (status s h) 0 s.classes c b e in
    let lt : c < s.classes = omega (arith, r.0) in (
      lt,
      waits_within s c h b l lt (block_count s) 0 (omega arith)
          (λ k m. absurd (omega (arith, m))) r.1,
    )

module _ (job : Parts) (workers : ℕ) (p : Place) (P : Type 0) (S : Stops)
    (seats : List Sitter) (closed : ClosedFace) (is : p.shape ≡ shape_for job workers)
    (some : 0 < workers) (back : AreBack job p P S seats)
    (closes : Closes p.shape seats closed) where
  same_shape : closed.shape ≡ p.shape
  same_shape = ap (λ (x : ClosedFace). x.shape) closes.3

  asked : {A : Type 0} (x : A) (f : Shape → History → A) → ((h : History) → IsLegal closed.shape h
      → closed ≡ closed_face closed.shape h → x ≡ f closed.shape h) → x ≡ f p.shape closes.0
  asked x f answers = subst (λ s. IsLegal s closes.0 → closed ≡ closed_face s closes.0
      → x ≡ f s closes.0) same_shape (answers closes.0) closes.1 closes.3

  among : 0 < p.shape.workers
  among = subst (λ (s : Shape). 0 < s.workers) (sym is) some

  each_worker : (R : Shape → ℕ → Type 0) → ((w : ℕ) → w < p.shape.workers → R p.shape w) → (w : ℕ)
      → w < workers → R (shape_for job workers) w
  each_worker R each = subst (λ (s : Shape). (w : ℕ) → w < s.workers → R s w) is each

  -- the class and block that an unfinished run names, and that its gate stopped a worker
  pub closed_waiting : (class block : ℕ) → ((h : History) → IsLegal closed.shape h
      → closed ≡ closed_face closed.shape h → finish_is.Waiting class block ≡ finish closed.shape h)
      → (class < length job.classes.representative) × (block < blocks (length job.tests.tests))
      × (¬ P) × WaitsFor job workers S class block
  closed_waiting class block answers =
      let fin = asked (finish_is.Waiting class block) finish answers in
      let r = waiting_range p.shape closes.0 class block closes.1 (sym fin) in (
        subst (λ (s : Shape). class < s.classes) is r.0,
        subst (λ (s : Shape). block < block_count s) is r.1,
        λ x.
            let done = settled_finished p.shape closes.0
            (rested_settled job p P S seats closes.0 back closes.2 x among closes.1) in
            let bad = fin ∙ done in
            absurd (cc),
        record {
          history = closes.0;
          legal = subst (λ s. IsLegal s closes.0) is closes.1;
          truly = each_worker (λ s w. ReportsTruly job s w closes.0 [])
              (each_truly job p P S seats closes.0 back closes.2);
          ended = each_worker (λ s w. IsStopped s S w closes.0 ⊎ (claims closes.0 ≡ piece_count s))
              (each_ended job p P S seats closes.0 back closes.2 closes.1 class block (sym fin));
          waiting = subst (λ s. finish s closes.0 ≡ finish_is.Waiting class block) is (sym fin);
        },
      )

  -- a finished run leaves a finished history
  pub closed_run : ((h : History) → IsLegal closed.shape h → closed ≡ closed_face closed.shape h
      → finish_is.Finished ≡ finish closed.shape h) → HasRun job workers closed
  closed_run answers =
      let fin = asked finish_is.Finished finish answers in
      record {
        shape = same_shape ∙ is;
        history = closes.0;
        legal = subst (λ s. IsLegal s closes.0) (sym same_shape) closes.1;
        shows = subst (λ s. closed ≡ closed_face s closes.0) (sym same_shape) closes.3;
        finished = subst (λ s. finish s closes.0 ≡ finish_is.Finished) (sym same_shape) (sym fin);
        truly = subst (λ s. AllReportTruly job s closes.0) (sym same_shape)
            (each_truly job p P S seats closes.0 back closes.2);
      }

module _ (job : Parts) (workers : ℕ) (closed : ClosedFace) (run : HasRun job workers closed) where
  is_shape : IsShapeOf job closed.shape
  is_shape = subst (λ s. IsShapeOf job s) (sym run.shape) (record { classes = refl; tests = refl })

  -- a finished run has settled every class
  pub run_settled : AreSettled closed.shape run.history closed.shape.classes
  run_settled = finished_settled closed.shape run.history run.finished

  -- and its verdicts are the first tests
  pub run_firsts : (firsts : List (Option ℕ)) → BelongTogether job
      → ((h : History) → IsLegal closed.shape h → closed ≡ closed_face closed.shape h
      → firsts ≡ verdicts closed.shape h job.classes.class_of)
      → AreFirsts job.list.model job.circuit job.tests.tests firsts
  run_firsts firsts b told = subst (AreFirsts job.list.model job.circuit job.tests.tests)
      (sym (told run.history run.legal run.shows))
      (firsts_truly job closed.shape run.history b is_shape run.legal
      (all_true job closed.shape run.history run.legal run.truly) run_settled)

-- every seat came back to its ledger
pub back_placed : (job : Parts) (p : Place) (P : Type 0) (S : Stops)
    (seats : List Sitter) → AreBack job p P S seats → All (λ seat. seat.place ≡ p) seats
back_placed job p P S seats back k d lt =
    let x = within_place seats k lt in
    ap (λ (a : Sitter). a.place) (get_or_from_slice_get seats k x.0 d x.1)
    ∙ (back.each k x.0 x.1).place_is
