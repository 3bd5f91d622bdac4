-- The workers of a run, and the handles of their threads.
use Rattle.std.proofs.Common.{◌≡◌, ◌<◌, ◌⊎◌, inl, inr, ℕ, zero, suc, List, [], ◌∷◌, map, length}
use Rattle.std.proofs.Common.{get_or, All, refl, sym, ap, ◌∙◌, subst, arith}
use Rattle.std.proofs.lemmas.List.{length-map}
use Rattle.block_sim.specs.Parts.{HasRoom, Parts}
use Rattle.fault_ledger.specs.History.{class_of, block_of}
use Rattle.fault_ledger.specs.Seats.{Place, Sitter, newcomer, newcomers}
use Rattle.patterns.proofs.Public.{length-map-below, get_or-map-below}
use Rattle.workers.specs.{declared.piece_threads.Worker.Worker, Stops.Stops}
use Rattle.workers.specs.Work.{HasRested, IsStopped, Returns}

get_map : {A B : Type 0} (f : A → B) (xs : List A) (k : ℕ) (d : A)
    → f (get_or xs k d) ≡ get_or (map f xs) k (f d)
get_map f [] k d = refl
get_map f (x ∷ xs) zero d = refl
get_map f (x ∷ xs) (suc k) d = get_map f xs k d

-- the number of workers
pub workers_count : (ws : List Worker) (p : Place) → map (λ (w : Worker). w.seat) ws ≡ newcomers p
    → length ws ≡ p.shape.workers
workers_count ws p e =
    sym (length-map ws (λ (w : Worker). w.seat)) ∙ ap (λ (l : List Sitter). length l) e
    ∙ length-map-below (newcomer p) p.shape.workers

-- each has its newcomer's seat
pub seat_at : (ws : List Worker) (p : Place) (k : ℕ) (d : Worker)
    → map (λ (w : Worker). w.seat) ws ≡ newcomers p → k < length ws
    → (get_or ws k d).seat ≡ newcomer p k
seat_at ws p k d e lt =
    let n = workers_count ws p e in
    get_map (λ (w : Worker). w.seat) ws k d ∙ ap (λ (l : List Sitter). get_or l k d.seat) e
    ∙ get_or-map-below (newcomer p) p.shape.workers k d.seat (omega arith)

-- and its workspace has room for the job
pub fits_at : (ws : List Worker) (job : Parts) (k : ℕ) (d : Worker)
    → All (λ (w : Worker). HasRoom w.workspace job) ws → k < length ws
    → HasRoom (get_or ws k d).workspace job
fits_at ws job k d all lt = all k d lt

-- a seat of a newcomer is the newcomer of its own number
pub own_newcomer : (p : Place) (n : ℕ) (a : Sitter) → a ≡ newcomer p n → a ≡ newcomer p a.worker
own_newcomer p n a e = e ∙ ap (newcomer p) (ap (λ (x : Sitter). x.worker) (sym e))

-- a seat at the end, under other names of the same
pub returns_along : (j j' : Parts) (p p' : Place) (w w' : ℕ) (P P' : Type 0)
    (S S' : Stops) (a a' : Sitter) → j ≡ j' → p ≡ p' → w ≡ w' → (P' → P)
    → ((u k b : ℕ) → S.may u k b → S'.may u k b) → a ≡ a' → Returns j p w P S a
    → Returns j' p' w' P' S' a'
returns_along j j' p p' w w' P P' S S' a a' e f h q t s r = subst (λ x. Returns x p' w' P' S' a') e
    (subst (λ x. Returns j x w' P' S' a') f (subst (λ x. Returns j p x P' S' a') h
    (subst (λ x. Returns j p w P' S' x) s (record {
      place_is = r.place_is;
      worker_is = r.worker_is;
      legal = r.legal;
      truly = r.truly;
      rested = λ x. r.rested (q x);
      ended = stopped r.ended;
    }))))
  where
    stopped : HasRested a ⊎ IsStopped p.shape S w a.seen
        → HasRested a ⊎ IsStopped p.shape S' w a.seen
    stopped (inl x) = inl x
    stopped (inr x) = inr (x.0, x.1, t w (class_of p.shape x.0) (block_of p.shape x.0) x.2)
