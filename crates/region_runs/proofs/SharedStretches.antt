-- The results of workers at a closed ledger of stretches.
use Rattle.std.proofs.Common.{◌≡◌, ◌≢◌, ◌<◌, ◌≤◌, ◌+◌, ◌*◌, ◌⊎◌, inl, inr, ℕ, zero, suc, List, []}
use Rattle.std.proofs.Common.{◌∷◌, ◌++◌, length, All, Option, Some, None, refl, sym, ap, ◌∙◌, subst}
use Rattle.std.{proofs.Common.{◌/◌, arith, take, drop, max, append-nil}, specs.Int.div_ceil}
use Rattle.std.specs.{Prelude.{is_none, slice_get, Result, Ok, Err, IfOk}, declared.vec.Vec.Vec}
use Rattle.std.proofs.lemmas.{Bool.cases_lt, Grind.div_ceil_times}
use Rattle.std.proofs.lemmas.List.{get_or-drop, get_or-take, length-drop, length-take}
use Rattle.std.proofs.lemmas.List.Sums.{count_by-le-length, length-filter}
use Rattle.std.proofs.lemmas.Option.{get_or_from_slice_get, slice_get-get_or, slice_get_within}
use Rattle.std.proofs.Math.Nat.{div-add-mod, div-zero, mul-le-mul_right, mul-one, mul-zero}
use Rattle.std.proofs.Math.Nat.{mul_comm, suc-mul, zero-mul}
use Rattle.patterns.specs.Tests.{max_pieces}
use Rattle.bench_net.specs.Circuit.{max_signals, max_sinks}
use Rattle.fault_model.{specs.Collapse.next, specs.Fault.faults, proofs.Public.faults_within}
use Rattle.block_sim.specs.Parts.{Parts, BelongTogether}
use Rattle.fault_ledger.specs.declared.{Event.Event, Shape.Shape, Finish.Finish}
use Rattle.fault_ledger.specs.History.{History, ContinuesWithout, claims, entry, held_by}
use Rattle.fault_ledger.specs.{History.{block_count, piece_at, piece_count}, Answer.IsLegal}
use Rattle.fault_ledger.{specs.Settled.finish, proofs.Public.unclaimed_open}
use Rattle.fault_ledger.specs.Seats.{ClosedFace, Closes, Place, Sitter, closed_face}
use Rattle.fault_ledger.proofs.Public.{claim_accepted, claims_past, held_once, held_open}
use Rattle.fault_ledger.proofs.Public.{held_piece, legal_claims, report_accepted, status-open}
use Rattle.fault_ledger.specs.declared.PieceState.TheVariants as state
use Rattle.fault_ledger.specs.declared.Finish.TheVariants as finish_is
use Rattle.list_lemmas.proofs.Places.{within_place}
use Rattle.workers.specs.{Stops.Stops, Work.EachReport}
use Rattle.workers.proofs.Public.{all_settled, class_count, finished_settled, settled_finished}
use Rattle.region_runs.specs.declared.stretch_run.{Stop.Stop, Waiting.Waiting}
use Rattle.region_runs.specs.declared.stretch_workers.{Done.Done, Served.Served}
use Rattle.region_runs.specs.StretchRuns.{AreGivenBack, HasEnded, IsDone, IsLowest, IsOpenIn}
use Rattle.region_runs.specs.StretchRuns.{IsStopAt, IsStoppedAmong, run_at, runs_from}
use Rattle.region_runs.specs.{Part.{stretch_at, stretch_count, stretch_size}, Cut.IsCutOf}
use Rattle.region_runs.specs.Stretches.{AreApart, AreByStretches, AreServed, AreShared, EachClaim}
use Rattle.region_runs.specs.Stretches.{StandsFor, EndsServing, HasServed, IsAmong, Stands, crew_of}
use Rattle.region_runs.{specs.Stretches.shape_of_stretches, proofs.StretchSeats.accounts_on}
use Rattle.region_runs.proofs.StretchTables.{AreFoundByStretch, AreWhole, IsWholeAt}
use Rattle.region_runs.{proofs.RunsOfStretches.{none_open, run_there}, specs.Tasks.{AreKept, Task}}

-- ---- the ledger is closed

-- each seat that came back is one of the ledger's
pub apart_placed : {E Z : Type 0} {K : Type 0} (p : Place) (back : List (Result (Served K) E))
    (seats : List Sitter) (dones : List (Vec (Done K) Z)) → AreApart back seats dones
    → All (λ one. IfOk one (λ served. served.seat.place ≡ p)) back
    → All (λ (seat : Sitter). seat.place ≡ p) seats
apart_placed {E} {Z} {K} p back seats dones apart placed k d lt =
    let a = within_place seats k lt in
    let b = within_place dones k (omega (arith, lt, apart.seats_count, apart.dones_count)) in
    let x = apart.each k a.0 b.0 a.1 b.1 in
    let own : x.0.seat.place ≡ p = subst (λ (r : Result (Served K) E). IfOk r (λ served.
    served.seat.place ≡ p)) (get_or_from_slice_get back k (Ok x.0) (Ok x.0) x.1)
    (placed k (Ok x.0) (slice_get_within back k (Ok x.0) x.1)) in
    ap (λ (x : Sitter). x.place) (get_or_from_slice_get seats k a.0 d a.1)
    ∙ ap (λ (x : Sitter). x.place) x.2 ∙ own

-- so are the results of all workers
pub served_placed : {E : Type 0} {K : Type 0} (task : Task K) (size : ℕ) (classes : List ℕ)
    (p : Place) (P : Type 0) (S : Stops) (back : List (Result (Served K) E))
    → AreServed task size classes p P S back
    → All (λ one. IfOk one (λ served. served.seat.place ≡ p)) back
served_placed {E} {K} task size classes p P S back served k d lt =
    let x = within_place back k lt in
    subst (λ (r : Result (Served K) E). IfOk r (λ served. served.seat.place ≡ p))
    (sym (get_or_from_slice_get back k x.0 d x.1)) (go x.0 (served.each k x.0 x.1))
  where
    go : (one : Result (Served K) E)
        → IfOk one (λ served. HasServed task size classes p k P S served.seat served.dones.items)
        → IfOk one (λ served. served.seat.place ≡ p)
    go (Err e) h = tt
    go (Ok x) h = h.place_is

-- how a worker ended it has ended later
ended_on : {K : Type 0} (s : Shape) (w : ℕ) (later earlier : History) (own : List (Done K))
    → IsLegal s later
    → ContinuesWithout w later earlier → EndsServing s earlier own → EndsServing s later own
ended_on {K} s w later earlier own l c (inl all) =
    let more : claims earlier ≤ claims later = subst (λ k. claims earlier ≤ claims k)
    (sym c.1) (claims_past c.0 earlier) in
    let few = legal_claims s later l in
    inl (omega (arith, all, more, few))
ended_on {K} s w later earlier own l c (inr stopped) = inr stopped

-- the results of all workers, by the history of the closed ledger
pub shared : {E Z : Type 0} {K : Type 0} (task : Task K) (size : ℕ) (classes : List ℕ) (p : Place)
    (P : Type 0)
    (S : Stops) (back : List (Result (Served K) E)) (seats : List Sitter) (dones : List (Vec
    (Done K) Z))
    (closed : ClosedFace) → AreServed task size classes p P S back → AreApart back seats dones
    → Closes p.shape seats closed → AreShared task size classes p.shape P S dones closed
shared {E} {Z} {K} task size classes p P S back seats dones closed served apart closes = record {
  count = apart.dones_count ∙ served.count;
  history = closes.0;
  legal = closes.1;
  shows = closes.3;
  each = λ w own there.
      let lt = slice_get_within dones w own there in
      let a = within_place seats w (omega (arith, lt, apart.seats_count, apart.dones_count)) in
      let x = apart.each w a.0 own a.1 there in
      let o : HasServed task size classes p w P S x.0.seat x.0.dones.items =
      served.each w (Ok x.0) x.1 in
      let h : HasServed task size classes p w P S a.0 own.items =
      subst (λ l. HasServed task size classes p w P S a.0 l) (sym x.3)
      (subst (λ s. HasServed task size classes p w P S s x.0.dones.items) (sym x.2) o) in
      let c : ContinuesWithout a.0.worker closes.0 a.0.seen =
      subst (λ (x : Sitter). ContinuesWithout x.worker closes.0 x.seen)
      (get_or_from_slice_get seats w a.0 a.0 a.1)
      (closes.2 w a.0 (slice_get_within seats w a.0 a.1)) in
      let d : ContinuesWithout w closes.0 a.0.seen =
      subst (λ v. ContinuesWithout v closes.0 a.0.seen) h.worker_is c in (
        accounts_on task size classes p w P S closes.0 a.0.seen own.items d h.accounts,
        ended_on p.shape w closes.0 a.0.seen own.items closes.1 d h.ended,
      );
}

-- the end of the closed ledger
pub face_finish : {Z : Type 0} {K : Type 0} (task : Task K) (size : ℕ) (classes : List ℕ)
    (s : Shape) (P : Type 0)
    (S : Stops) (dones : List (Vec (Done K) Z)) (face : ClosedFace) (end : Finish)
    → (all : AreShared task size classes s P S dones face)
    → ((h : History) → IsLegal face.shape h → face ≡ closed_face face.shape h
    → end ≡ finish face.shape h) → end ≡ finish s all.history
face_finish {Z} {K} task size classes s P S dones face end all tells =
    let same : face.shape ≡ s = ap (λ (f : ClosedFace). f.shape) all.shows in
    tells all.history (subst (λ (z : Shape). IsLegal z all.history) (sym same) all.legal)
    (subst (λ (z : Shape). face ≡ closed_face z all.history) (sym same) all.shows)
    ∙ ap (λ (z : Shape). finish z all.history) same

-- the shared results, under another name of the shape
pub shared_at : {Z : Type 0} {K : Type 0} (task : Task K) (size : ℕ) (classes : List ℕ) (s : Shape)
    (n crew workers : ℕ) (P : Type 0) (S : Stops) (dones : List (Vec (Done K) Z))
    (closed : ClosedFace)
    → s ≡ shape_of_stretches n crew → n ≡ stretch_count size classes → crew ≡ crew_of workers n
    → AreShared task size classes s P S dones closed
    → AreShared task size classes (shape_of_stretches (stretch_count size classes)
    (crew_of workers (stretch_count size classes))) P S dones closed
shared_at {Z} {K} task size classes s n crew workers P S dones closed e f h x =
    subst (λ m. AreShared task size classes (shape_of_stretches m (crew_of workers m)) P S dones
    closed) f (subst (λ m. AreShared task size classes (shape_of_stretches n m) P S dones closed) h
    (subst (λ z. AreShared task size classes z P S dones closed) e x))

-- ---- stretches that have a class

-- one from their number on has none
pub past_empty : (size k : ℕ) (classes : List ℕ) → stretch_count size classes ≤ k
    → length (stretch_at size classes k) ≡ 0
past_empty zero k classes le = let n = length-take zero (drop (k * zero) classes) in
    omega (arith, n)
past_empty (suc size) k classes le =
    let one : 0 < max (suc size) 1 = omega arith in
    let high = (div_ceil_times (length classes) (max (suc size) 1) one).0 in
    let more = mul-le-mul_right (max (suc size) 1) le in
    let n = length-take (suc size) (drop (k * suc size) classes) in
    let m = length-drop (k * suc size) classes in
    let is : max (suc size) 1 ≡ suc size = omega arith in
    let at : k * max (suc size) 1 ≡ k * suc size = ap (λ i. k * i) is in
    omega (arith, high, more, n, m, at)

-- and one below it has some
pub below_filled : (job : Parts) (from stretches size k : ℕ) (classes : List ℕ)
    → IsCutOf job from stretches size classes → k < stretch_count size classes
    → 0 < length (stretch_at size classes k)
below_filled job from stretches zero k classes cut lt =
    let whole = (div_ceil_times (length classes) stretches cut.some).0 in
    let none : div_ceil (length classes) stretches * stretches ≡ 0 =
    ap (λ n. n * stretches) (sym cut.size_is) ∙ zero-mul stretches in
    let low = (div_ceil_times (length classes) (max zero 1) (omega arith)).1 in
    let one = mul-one (stretch_count zero classes) in
    absurd (omega (arith, whole, none, low, one, lt))
below_filled job from stretches (suc size) k classes cut lt =
    let one : 0 < max (suc size) 1 = omega arith in
    let low = (div_ceil_times (length classes) (max (suc size) 1) one).1 in
    let le : suc k ≤ stretch_count (suc size) classes = omega (arith, lt) in
    let more = mul-le-mul_right (max (suc size) 1) le in
    let n = length-take (suc size) (drop (k * suc size) classes) in
    let m = length-drop (k * suc size) classes in
    let is : max (suc size) 1 ≡ suc size = omega arith in
    let at : k * max (suc size) 1 ≡ k * suc size = ap (λ i. k * i) is in
    omega (arith, low, more, n, m, at, suc-mul k (max (suc size) 1), is)

-- they are no more than all stretches
pub filled_few : (job : Parts) (from stretches size : ℕ) (classes : List ℕ)
    → IsCutOf job from stretches size classes → stretch_count size classes ≤ stretches
filled_few job from stretches size classes cut = go (cases_lt stretches
    (stretch_count size classes))
  where
    go : (stretches < stretch_count size classes) ⊎ (stretch_count size classes ≤ stretches)
        → stretch_count size classes ≤ stretches
    go (inr le) = le
    go (inl lt) =
        let some = below_filled job from stretches size stretches classes cut lt in
        let n = length-take size (drop (stretches * size) classes) in
        let m = length-drop (stretches * size) classes in
        let whole = (div_ceil_times (length classes) stretches cut.some).0 in
        let is : stretches * size ≡ div_ceil (length classes) stretches * stretches =
        mul_comm stretches size ∙ ap (λ k. k * stretches) cut.size_is in
        absurd (omega (arith, some, n, m, whole, is))

-- a stretch has no more classes than all
ceil_le : (n stretches : ℕ) → stretch_size n stretches ≤ n
ceil_le n zero = omega (arith, div-zero n, div-add-mod n 0)
ceil_le n (suc stretches) = omega (
  arith,
  div-add-mod n (suc stretches),
  suc-mul stretches (n / suc stretches),
)

-- there are no more stretches than classes, of which a ledger takes as many as a job has
pub filled_max : (job : Parts) (from stretches size : ℕ) (classes : List ℕ) → BelongTogether job
    → IsCutOf job from stretches size classes → stretch_count size classes ≤ max_pieces
filled_max job from stretches size classes b cut =
    let few = ceil_le (length classes) (max size 1) in
    let reps = class_count job b in
    let own = count_by-le-length (λ f. is_none (next job.circuit f))
    (faults job.list.model job.circuit) in
    let kept = length-filter (λ f. is_none (next job.circuit f))
    (faults job.list.model job.circuit) in
    let all = faults_within job.list.model job.circuit b.circuit in
    let low : 2 * (max_signals + max_sinks) ≤ max_pieces = omega arith in
    omega (arith, few, cut.few, reps, own, kept, all, low)

-- ---- who claimed a stretch

-- each piece that was claimed was claimed by one of the workers
claimed_by : (s : Shape) (H : ℕ → ℕ → Type 0) (p : ℕ) (h : History) → IsLegal s h → p < claims h
    → ((w : ℕ) → w < s.workers → EachClaim (H w) w h) → (w : ℕ) × (w < s.workers) × H w p
claimed_by s H p [] l lt each = absurd (omega (arith, lt))
claimed_by s H p (Event.Claim u ∷ h) l lt each =
    go (λ low. claimed_by s H p h l.1 low (λ w k. (each w k).1)) (cases_lt p (claims h))
  where
    a : u < s.workers
    a = (claim_accepted s h u l.0).0

    go : (p < claims h → (w : ℕ) × (w < s.workers) × H w p)
        → (p < claims h) ⊎ (claims h ≤ p) → (w : ℕ) × (w < s.workers) × H w p
    go before (inl low) = before low
    go before (inr high) =
        let same : claims h ≡ p = omega (arith, lt, high) in
        (u, a, subst (H u) same ((each u a).0 refl))
claimed_by s H p (Event.Report u o ∷ h) l lt each = claimed_by s H p h l.1 lt each
claimed_by s H p (Event.Drop u ∷ h) l lt each = claimed_by s H p h l.1 lt each

-- if a class of a stretch waits, the gate stopped the worker in it
stopped_in : {K : Type 0} (task : Task K) (size : ℕ) (classes : List ℕ) (w : ℕ) (P : Type 0)
    (S : Stops)
    (done : Done K) (v : Waiting) → done.waiting ≡ Some v → IsDone task size classes w P S done
    → (P → ⊥) × (stop : Stop) × (done.stop ≡ Some stop)
    × IsStopAt task (stretch_at size classes done.stretch) w S stop
stopped_in {K} task size classes w P S done v e is = go done.stop refl is.ended is.lowest
  where
    own : List ℕ
    own = stretch_at size classes done.stretch

    go : (stop : Option Stop) → done.stop ≡ stop → HasEnded task own w S stop done.kept.items
        → IsLowest (IsOpenIn task own stop) done.waiting
        → (P → ⊥) × (stop : Stop) × (done.stop ≡ Some stop) × IsStopAt task own w S stop
    go None q ended low =
        let bad = sym e ∙ none_open task own done.waiting low in absurd (cc)
    go (Some stop) q ended low = (
      (λ x. let bad = sym q ∙ is.passed x in absurd (cc)),
      stop,
      q,
      ended.0,
    )

pieces : (n crew : ℕ) → piece_count (shape_of_stretches n crew) ≡ n
pieces n crew = mul-one n

module _ {Z : Type 0} {K : Type 0} (task : Task K) (stretches size : ℕ) (classes : List ℕ)
    (workers : ℕ)
    (P : Type 0) (S : Stops) (back : List (Vec (Done K) Z)) (table : List (Option (Done K)))
    (face : ClosedFace) (cut : IsCutOf task.job task.from stretches size classes)
    (many : 0 < workers) (given : AreGivenBack stretches back table)
    (all : AreShared task size classes (shape_of_stretches (stretch_count size classes)
    (crew_of workers (stretch_count size classes))) P S back face) where
  abbrev pub n : ℕ
  n = stretch_count size classes

  abbrev pub crew : ℕ
  crew = crew_of workers n

  abbrev pub shape : Shape
  shape = shape_of_stretches n crew

  abbrev pub h : History
  h = all.history

  crew_low : crew ≤ workers
  crew_low = omega (arith, many)

  -- the results of one of the workers
  own_done : (w : ℕ) (own : Vec (Done K) Z) (k : ℕ) (done : Done K) → slice_get back w ≡ Some own
      → slice_get own.items k ≡ Some done
      → IsDone task size classes w P S done × Stands w h done.stretch done.waiting
  own_done w own k done at there =
      let x = (all.each w own at).0 in
      let lt = slice_get_within own.items k done there in
      let e = get_or_from_slice_get own.items k done done there in (
        subst (λ (d : Done K). IsDone task size classes w P S d) e (x.done k done lt),
        subst (λ (d : Done K). Stands w h d.stretch d.waiting) e (x.stand k done lt),
      )

  -- a stretch whose place in the table is empty was not claimed
  unclaimed : (stretch : ℕ) → slice_get table stretch ≡ Some None → claims h ≤ stretch
  unclaimed stretch none = go (cases_lt stretch (claims h))
    where
      Found : ℕ → ℕ → Type 0
      Found w q = (own : Vec (Done K) Z) × (slice_get back w ≡ Some own) × IsAmong own.items q

      each : (w : ℕ) → w < crew → EachClaim (Found w) w h
      each w lt =
          let x = within_place back w (omega (arith, lt, all.count)) in
          weaker x.0 x.1 h (all.each w x.0 x.1).0.claimed
        where
          weaker : (own : Vec (Done K) Z) → slice_get back w ≡ Some own → (g : History)
              → EachClaim (IsAmong own.items) w g → EachClaim (Found w) w g
          weaker own at [] t = tt
          weaker own at (Event.Claim u ∷ g) t = ((λ e. (own, at, t.0 e)), weaker own at g t.1)
          weaker own at (Event.Report u o ∷ g) t = weaker own at g t
          weaker own at (Event.Drop u ∷ g) t = weaker own at g t

      go : (stretch < claims h) ⊎ (claims h ≤ stretch) → claims h ≤ stretch
      go (inr le) = le
      go (inl lt) =
          let x = claimed_by shape Found stretch h all.legal lt each in
          let own = x.2.0 in
          let among = x.2.2 in
          absurd (given.all x.0 own among.0 among.1 x.2.1 among.2
          (subst (λ q. slice_get table q ≡ Some None) (sym among.3) none))

  -- if a worker was stopped in a stretch, its place in the table has that
  stopped_there : (w : ℕ) (own : Vec (Done K) Z) (k : ℕ) (done : Done K) (v : Waiting)
      → slice_get back w ≡ Some own → slice_get own.items k ≡ Some done → done.waiting ≡ Some v
      → (P → ⊥) × IsStoppedAmong task S (runs_from task.from size classes 0 table) w
  stopped_there w own k done v at there e = go (slice_get table done.stretch) refl
    where
      held : held_by w h ≡ Some done.stretch
      held = subst (Stands w h done.stretch) e (own_done w own k done at there).1

      low : done.stretch < length table
      low =
          let a = held_piece shape w done.stretch h all.legal held in
          let few = filled_few task.job task.from stretches size classes cut in
          omega (arith, a, few, given.count, pieces n crew)

      by_place : (one : Done K) → slice_get table done.stretch ≡ Some (Some one)
          → (P → ⊥) × IsStoppedAmong task S (runs_from task.from size classes 0 table) w
      by_place one stands = pick one.waiting refl
        where
          g : (one.stretch ≡ done.stretch) × (thread : ℕ) × (given : Vec (Done K) Z)
              × (slice_get back thread ≡ Some given)
              × (k : ℕ) × (slice_get given.items k ≡ Some one)
          g = given.each done.stretch one stands

          d : IsDone task size classes g.1 P S one × Stands g.1 h one.stretch one.waiting
          d = own_done g.1 g.2 g.4 one g.3 g.5

          pick : (x : Option Waiting) → one.waiting ≡ x
              → (P → ⊥) × IsStoppedAmong task S (runs_from task.from size classes 0 table) w
          pick None q =
              let clear : entry one.stretch h ≡ state.Clear = subst
              (Stands g.1 h one.stretch) q d.1 in
              let still_open : entry done.stretch h ≡ state.Open = held_open w done.stretch h held
              in
              let bad : state.Clear ≡ state.Open =
              sym clear ∙ ap (λ p. entry p h) g.0 ∙ still_open in
              absurd (cc)
          pick (Some u) q =
              let theirs : held_by g.1 h ≡ Some one.stretch = subst
              (Stands g.1 h one.stretch) q d.1 in
              let same : g.1 ≡ w = held_once g.1 w done.stretch h (theirs ∙ ap Some g.0) held in
              let y = stopped_in task size classes g.1 P S one u q d.0 in (
                y.0,
                (
                  done.stretch,
                  run_at task.from (stretch_at size classes done.stretch) (Some one),
                  y.1,
                  run_there task.from size classes table done.stretch (Some one) stands,
                  ap Some (d.0.worker_is ∙ same),
                  y.2,
                  subst (λ v. IsStopAt task (stretch_at size classes done.stretch) v S y.1) same
                      (subst (λ p. IsStopAt task (stretch_at size classes p) g.1 S y.1) g.0 y.3),
                ),
              )

      go : (place : Option (Option (Done K))) → slice_get table done.stretch ≡ place
          → (P → ⊥) × IsStoppedAmong task S (runs_from task.from size classes 0 table) w
      go None q =
          let x = within_place table done.stretch low in
          let bad = sym q ∙ x.1 in absurd (cc)
      go (Some None) q = absurd (given.all w own k done at there q)
      go (Some (Some x)) q = by_place x q

  -- and if no worker began one, each was stopped
  all_stopped : (stretch : ℕ) → slice_get table stretch ≡ Some None → stretch < n → (w : ℕ)
      → w < crew → (P → ⊥) × IsStoppedAmong task S (runs_from task.from size classes 0 table) w
  all_stopped stretch none low w lt =
      let x = within_place back w (omega (arith, lt, all.count)) in
      go x.0 x.1 (all.each w x.0 x.1).1
    where
      go : (own : Vec (Done K) Z) → slice_get back w ≡ Some own → EndsServing shape h own.items
          → (P → ⊥) × IsStoppedAmong task S (runs_from task.from size classes 0 table) w
      go own at (inl full) =
          let free = unclaimed stretch none in
          absurd (omega (arith, full, free, low, pieces n crew))
      go own at (inr s) = stopped_there w own s.0 s.1 s.3 at s.2 s.4

  lower : (k : ℕ) → 0 < length (stretch_at size classes k) → k < n
  lower k some = go (cases_lt k n)
    where
      go : (k < n) ⊎ (n ≤ k) → k < n
      go (inl lt) = lt
      go (inr le) = let e = past_empty size k classes le in absurd (omega (arith, some, e))

  -- the places of the table
  pub found_by_stretch : AreFoundByStretch task size classes workers P S table
  found_by_stretch = record {
    each = λ stretch done at.
        let g = given.each stretch done at in
        let lt = slice_get_within back g.1 g.2 g.3 in
        let d = (own_done g.1 g.2 g.4 done g.3 g.5).0 in (
          g.0,
          omega (arith, lt, all.count, crew_low, d.worker_is),
          subst (λ v. IsDone task size classes v P S done) (sym d.worker_is) d,
        );
    none = λ stretch at some.
        let low : stretch < n = lower stretch some in
        let first = all_stopped stretch at low 0 (omega arith) in (
          first.0,
          (let within = first.1.6.within in omega (arith, within)),
          λ w lt any.
              let l = lower w any in
              (all_stopped stretch at low w (omega (arith, lt, l))).1,
        );
    once = λ i k a b v w ea eb same va wb.
        let g = given.each i a ea in
        let e = given.each k b eb in
        let x = own_done g.1 g.2 g.4 a g.3 g.5 in
        let y = own_done e.1 e.2 e.4 b e.3 e.5 in
        let one : held_by g.1 h ≡ Some a.stretch = subst (Stands g.1 h a.stretch) va x.1 in
        let other : held_by e.1 h ≡ Some b.stretch = subst (Stands e.1 h b.stretch) wb y.1 in
        let worker : g.1 ≡ e.1 = sym x.0.worker_is ∙ (same ∙ y.0.worker_is) in
        let both : Some a.stretch ≡ Some b.stretch = sym one ∙ (ap (λ n. held_by n h) worker
        ∙ other) in
        let stretch : a.stretch ≡ b.stretch = cc in
        sym g.0 ∙ (stretch ∙ e.0);
  }

  -- if all places are whole, the ledger is finished
  pub whole_finished : AreWhole size classes table → finish shape h ≡ finish_is.Finished
  whole_finished whole =
      settled_finished shape h (all_settled shape h all.legal (λ p lt e. closed p lt e))
    where
      closed : (p : ℕ) → p < piece_count shape → entry p h ≢ state.Open
      closed p lt e =
          let low : p < n = omega (arith, lt, pieces n crew) in
          let few = filled_few task.job task.from stretches size classes cut in
          let x = within_place table p (omega (arith, low, few, given.count)) in
          go x.0 x.1 (whole p x.0 x.1)
        where
          go : (place : Option (Done K)) → slice_get table p ≡ Some place
              → IsWholeAt size classes p place → ⊥
          go None at none =
              let some = below_filled task.job task.from stretches size p classes cut (omega (
                arith,
                lt,
                pieces n crew,
              )) in
              absurd (omega (arith, some, none))
          go (Some done) at none =
              let g = given.each p done at in
              let s = (own_done g.1 g.2 g.4 done g.3 g.5).1 in
              let clear : entry done.stretch h ≡ state.Clear =
              subst (Stands g.1 h done.stretch) none s in
              let here : entry p h ≡ state.Clear = subst (λ q. entry q h ≡ state.Clear) g.0 clear in
              let bad = sym e ∙ here in
              absurd (cc)

  -- and if the ledger is finished, all places are whole
  pub finished_whole : finish shape h ≡ finish_is.Finished → AreWhole size classes table
  finished_whole finished stretch place at = go place at
    where
      -- no stretch is open
      still_open : (p : ℕ) → p < n → entry p h ≡ state.Open → ⊥
      still_open p lt e =
          let settled = finished_settled shape h finished p lt in
          let none : shape.classes * 0 ≡ 0 = mul-zero shape.classes in
          let here : entry (piece_at shape p 0) h ≡ state.Open =
          subst (λ q. entry q h ≡ state.Open) (omega (arith, none)) e in
          let waits = status-open (λ k. entry (piece_at shape p k) h) (block_count shape) 0
          (omega arith) (λ j l. absurd (omega (arith, l))) here in
          let bad = sym waits ∙ settled.1 in
          absurd (cc)

      go : (place : Option (Done K)) → slice_get table stretch ≡ Some place
          → IsWholeAt size classes stretch place
      go None at = pick (cases_lt stretch n)
        where
          pick : (stretch < n) ⊎ (n ≤ stretch) → length (stretch_at size classes stretch) ≡ 0
          pick (inl lt) = absurd (still_open stretch lt (unclaimed_open stretch h
              (unclaimed stretch at)))
          pick (inr le) = past_empty size stretch classes le
      go (Some done) at = pick done.waiting refl
        where
          g : (done.stretch ≡ stretch) × (thread : ℕ) × (given : Vec (Done K) Z)
              × (slice_get back thread ≡ Some given)
              × (k : ℕ) × (slice_get given.items k ≡ Some done)
          g = given.each stretch done at

          stands : Stands g.1 h done.stretch done.waiting
          stands = (own_done g.1 g.2 g.4 done g.3 g.5).1

          pick : (x : Option Waiting) → done.waiting ≡ x → done.waiting ≡ None
          pick None e = e
          pick (Some v) e =
              let held : held_by g.1 h ≡ Some done.stretch = subst
              (Stands g.1 h done.stretch) e stands in
              let low = held_piece shape g.1 done.stretch h all.legal held in
              absurd (still_open done.stretch (omega (arith, low, pieces n crew))
              (held_open g.1 done.stretch h held))

-- ---- what is kept of stretches

-- an element of a stretch of a list stands in the list
pub stretch_place : {X : Type 0} (size n : ℕ) (xs : List X) (k : ℕ) (x : X)
    → slice_get (take size (drop n xs)) k ≡ Some x → slice_get xs (n + k) ≡ Some x
stretch_place size n xs k x e =
    let within = slice_get_within (take size (drop n xs)) k x e in
    let long = length-take size (drop n xs) in
    let left = length-drop n xs in
    slice_get-get_or xs (n + k) x (omega (arith, within, long, left))
    ∙ ap Some (sym (get_or-take size (drop n xs) k x (omega (arith, within, long))
    ∙ get_or-drop n xs k x) ∙ get_or_from_slice_get (take size (drop n xs)) k x x e)

-- the classes of a stretch are among all classes
kept_of_stretch : {K : Type 0} (task : Task K) (size stretch : ℕ) (classes : List ℕ) (kept : List K)
    → AreKept task classes kept
    → AreKept task (stretch_at size classes stretch) (take size (drop (stretch * size) kept))
kept_of_stretch {K} task size stretch classes kept known = record {
  count = omega (
    arith,
    length-take size (drop (stretch * size) classes),
    length-drop (stretch * size) classes,
    length-take size (drop (stretch * size) kept),
    length-drop (stretch * size) kept,
    known.count,
  );
  each = λ hits k class one at v h. known.each hits (stretch * size + k) class one
      (stretch_place size (stretch * size) classes k class at)
      (stretch_place size (stretch * size) kept k one v) h;
}

-- each report stands for some
reports_stand : {K : Type 0} (s : Shape) (task : Task K) (size : ℕ) (classes : List ℕ)
    (kept : List K) (w : ℕ) (h : History) → IsLegal s h → AreKept task classes kept
    → EachReport (λ o g. StandsFor task size classes kept (held_by w g)) w h []
reports_stand {K} s task size classes kept w [] l known = tt
reports_stand {K} s task size classes kept w (Event.Claim u ∷ h) l known =
    reports_stand s task size classes kept w h l.1 known
reports_stand {K} s task size classes kept w (Event.Drop u ∷ h) l known =
    reports_stand s task size classes kept w h l.1 known
reports_stand {K} s task size classes kept w (Event.Report u o ∷ h) l known = (
  (λ e.
      let a = report_accepted s h u o l.0 in
      let held : held_by w (h ++ []) ≡ Some a.0 =
      ap (held_by w) (append-nil h) ∙ subst (λ v. held_by v h ≡ Some a.0) e a.2 in
      subst (StandsFor task size classes kept) (sym held)
      (kept_of_stretch task size a.0 classes kept known)),
  reports_stand s task size classes kept w h l.1 known,
)

-- the results for all stretches, if the ledger is finished
pub by_stretches : {K Z : Type 0} (task : Task K) (size : ℕ) (classes : List ℕ) (workers : ℕ)
    (P : Type 0) (S : Stops) (back : List (Vec (Done K) Z)) (kept : List K) (closed : ClosedFace)
    → (all : AreShared task size classes (shape_of_stretches (stretch_count size classes)
    (crew_of workers (stretch_count size classes))) P S back closed)
    → finish (shape_of_stretches (stretch_count size classes)
    (crew_of workers (stretch_count size classes))) all.history ≡ finish_is.Finished
    → AreKept task classes kept → AreByStretches task size classes workers kept closed
by_stretches {K} {Z} task size classes workers P S back kept closed all finished known =
    let shape : closed.shape ≡ shape_of_stretches (stretch_count size classes)
    (crew_of workers (stretch_count size classes)) = ap (λ (f : ClosedFace). f.shape) all.shows in
    record {
      shape = shape;
      history = all.history;
      legal = subst (λ (s : Shape). IsLegal s all.history) (sym shape) all.legal;
      shows = subst (λ (s : Shape). closed ≡ closed_face s all.history) (sym shape) all.shows;
      finished = subst (λ (s : Shape). finish s all.history ≡ finish_is.Finished) (sym shape)
          finished;
      reports = λ w. reports_stand (shape_of_stretches (stretch_count size classes)
          (crew_of workers (stretch_count size classes))) task size classes kept w all.history
          all.legal known;
    }

-- the same under other names
pub stretches_under : {K : Type 0} (task : Task K) (count stretches size : ℕ) (cut classes : List ℕ)
    (workers : ℕ) (kept : List K) (closed : ClosedFace) → IsCutOf task.job task.from count size cut
    → count ≡ stretches → cut ≡ classes → AreByStretches task size cut workers kept closed
    → AreByStretches task (stretch_size (length classes) stretches) classes workers kept closed
stretches_under {K} task count stretches size cut classes workers kept closed is e f of =
    subst (λ n. AreByStretches task (stretch_size (length classes) n) classes workers kept closed) e
    (subst (λ l. AreByStretches task (stretch_size (length l) count) l workers kept closed) f
    (subst (λ n. AreByStretches task n cut workers kept closed) is.size_is of))
