-- Stretches that workers claimed, and the results for them.
use Rattle.std.proofs.Common.{◌≡◌, ◌<◌, ℕ, List, length, All, Option, Some, None, ◌∙◌, subst}
use Rattle.std.proofs.{Common.{get_or, ap, arith, [], ◌∷◌, ◌++◌}, lemmas.List.Elements.All-weaker}
use Rattle.std.specs.Prelude.{Result, Ok, Err, IfOk, slice_get}
use Rattle.std.proofs.lemmas.Option.{get_or_from_slice_get, slice_get_within}
use Rattle.patterns.proofs.Public.{length-map-below, get_or-map-below}
use Rattle.block_sim.specs.Parts.{Parts}
use Rattle.fault_ledger.specs.Seats.{Place, Sitter, newcomer, newcomers}
use Rattle.workers.specs.Stops.{Stops}
use Rattle.region_runs.specs.declared.{stretch_run.Stop.Stop, stretches.Cut.Cut}
use Rattle.region_runs.specs.declared.stretch_workers.{Done.Done, Served.Served}
use Rattle.region_runs.specs.{StretchRuns.{AreKeptUpTo, HasEnded, IsDone}, Part.stretch_at}
use Rattle.region_runs.{specs.Stretches.HasServed, proofs.PushedLists.push_each}
use Rattle.region_runs.{proofs.StretchRuns.kept_at_first, specs.Tasks.{IsAtFirst, Task}}

-- what is kept at first
pub starts_kept : {K : Type 0} (task : Task K) (classes : List ℕ) (kept : List K)
    → length kept ≡ length classes → All (λ one. IsAtFirst task one) kept
    → AreKeptUpTo task classes 0 task.from kept
starts_kept {K} task classes kept count first = kept_at_first task classes kept count
    (λ k one at. subst (IsAtFirst task) (get_or_from_slice_get kept k one one at)
    (first k one (slice_get_within kept k one at)))

-- the results of a worker, under other gates of the same
pub done_along : {K : Type 0} (task : Task K) (size : ℕ) (classes : List ℕ) (w : ℕ) (P P' : Type 0)
    (S S' : Stops) (done : Done K) → (P' → P) → ((u k b : ℕ) → S.may u k b → S'.may u k b)
    → ((u k b : ℕ) → S'.must u k b → S.must u k b)
    → IsDone task size classes w P S done → IsDone task size classes w P' S' done
done_along {K} task size classes w P P' S S' done q t v is = record {
  worker_is = is.worker_is;
  ended = go done.stop is.ended;
  lowest = is.lowest;
  passed = λ p. is.passed (q p);
}
  where
    go : (stop : Option Stop) → HasEnded task (stretch_at size classes done.stretch) w S stop
        done.kept.items → HasEnded task (stretch_at size classes done.stretch) w S' stop
        done.kept.items
    go None e =
        (e.0, λ k class b at up lt still must. e.1 k class b at up lt still (v w class b must))
    go (Some stop) e = (
      record {
        class = e.0.class;
        at = e.0.at;
        low = e.0.low;
        within = e.0.within;
        stopped = t w e.0.class stop.block e.0.stopped;
        still = e.0.still;
      },
      e.1,
      λ k class b at up lt still must. e.2 k class b at up lt still (v w class b must),
    )

-- the result of a thread, under other names of the same
pub served_along : {E K V : Type 0} (of : Parts → Cut → V → Task K) (r r' : Result (Served K) E)
    (j j' : Parts) (a a' : V) (u u' : Cut) (p p' : Place) (w w' : ℕ) (P P' : Type 0)
    (S S' : Stops) → r ≡ r' → j ≡ j' → a ≡ a' → u ≡ u' → p ≡ p' → w ≡ w' → (P' → P)
    → ((v k b : ℕ) → S.may v k b → S'.may v k b) → ((v k b : ℕ) → S'.must v k b → S.must v k b)
    → IfOk r (λ served. HasServed (of j u a) u.size u.classes.items p w P S served.seat
    served.dones.items)
    → IfOk r' (λ served. HasServed (of j' u' a') u'.size u'.classes.items p' w' P' S' served.seat
    served.dones.items)
served_along {E} {K} {V} of r r' j j' a a' u u' p p' w w' P P' S S' er ej ea eu ep ew q t v is =
    subst (λ (x : Result (Served K) E). IfOk x (λ served. HasServed (of j' u' a') u'.size
    u'.classes.items p' w' P' S' served.seat served.dones.items)) er (go r is)
  where
    go : (x : Result (Served K) E)
        → IfOk x (λ served. HasServed (of j u a) u.size u.classes.items p w P S served.seat
        served.dones.items)
        → IfOk x (λ served. HasServed (of j' u' a') u'.size u'.classes.items p' w' P' S' served.seat
        served.dones.items)
    go (Err x) h = tt
    go (Ok served) h =
        subst (λ x. HasServed (of x u' a') u'.size u'.classes.items p' w' P' S' served.seat
        served.dones.items) ej
        (subst (λ x. HasServed (of j u' x) u'.size u'.classes.items p' w' P' S' served.seat
        served.dones.items) ea
        (subst (λ (x : Cut). HasServed (of j x a) x.size x.classes.items p' w' P' S' served.seat
        served.dones.items) eu
        (subst (λ x. HasServed (of j u a) u.size u.classes.items x w' P' S' served.seat
        served.dones.items) ep
        (subst (λ x. HasServed (of j u a) u.size u.classes.items p x P' S' served.seat
        served.dones.items) ew (record {
          place_is = h.place_is;
          worker_is = h.worker_is;
          legal = h.legal;
          accounts = record {
            done = All-weaker (λ done. IsDone (of j u a) u.size u.classes.items w P S done)
                (λ done. IsDone (of j u a) u.size u.classes.items w P' S' done)
                (λ done d. done_along (of j u a) u.size u.classes.items w P P' S S' done q t v d)
                served.dones.items h.accounts.done;
            stand = h.accounts.stand;
            claimed = h.accounts.claimed;
          };
          ended = h.ended;
        })))))

-- the number of seats
pub seats_count : (seats : List Sitter) (p : Place) → seats ≡ newcomers p
    → length seats ≡ p.shape.workers
seats_count seats p e = ap (λ (l : List Sitter). length l) e
    ∙ length-map-below (newcomer p) p.shape.workers

-- each is its newcomer's
pub newcomer_at : (seats : List Sitter) (p : Place) (k : ℕ) (d : Sitter) → seats ≡ newcomers p
    → k < length seats → get_or seats k d ≡ newcomer p k
newcomer_at seats p k d e lt =
    let n = seats_count seats p e in
    ap (λ (l : List Sitter). get_or l k d) e
    ∙ get_or-map-below (newcomer p) p.shape.workers k d (omega (arith, n, lt))

-- one worker more came back
pub served_more : {K E : Type 0} (task : Task K) (size : ℕ) (classes : List ℕ) (place : Place)
    (P : Type 0) (S : Stops) (back : List (Result (Served K) E)) (one : Result (Served K) E)
    (n : ℕ) → n ≡ length back
    → IfOk one (λ s. HasServed task size classes place n P S s.seat s.dones.items)
    → ((w : ℕ) (r : Result (Served K) E) → slice_get back w ≡ Some r
    → IfOk r (λ s. HasServed task size classes place w P S s.seat s.dones.items))
    → (w : ℕ) (r : Result (Served K) E) → slice_get (back ++ one ∷ []) w ≡ Some r
    → IfOk r (λ s. HasServed task size classes place w P S s.seat s.dones.items)
served_more {K} {E} task size classes place P S back one n count found was = push_each
    (λ (v : ℕ) (r : Result (Served K) E). IfOk r (λ s. HasServed task size classes place v P S
    s.seat s.dones.items)) back one was (subst (λ v. IfOk one (λ s. HasServed task size classes
    place v P S s.seat s.dones.items)) count found)
