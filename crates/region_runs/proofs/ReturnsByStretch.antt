-- The results of workers, by stretch and all together.
use Rattle.std.proofs.Common.{◌≡◌, ◌≢◌, ◌≤◌, ◌⊎◌, inl, inr, ℕ, zero, suc, List, [], ◌∷◌, ◌++◌, set}
use Rattle.std.proofs.Common.{length, All, Option, Some, None, IfSome, refl, sym, ap, ◌∙◌, subst}
use Rattle.std.{proofs.Common.{arith, length-append}, specs.Prelude.{slice_get, Result, Ok}}
use Rattle.std.{specs.declared.vec.Vec.Vec, proofs.lemmas.List.length-set}
use Rattle.std.proofs.lemmas.Option.{get_or_from_slice_get, slice_get_within}
use Rattle.fault_ledger.specs.Seats.{Sitter}
use Rattle.region_runs.specs.declared.stretch_workers.{Done.Done, Served.Served}
use Rattle.region_runs.specs.{StretchRuns.{AreGivenBack, ArePut}, Stretches.AreApart}
use Rattle.region_runs.proofs.PushedLists.{between_others, kept, last_of, pushed}

-- the elements of a list with one place set
set_place : {X : Type 0} (xs : List X) (i k : ℕ) (x y : X) → slice_get (set xs i x) k ≡ Some y
    → ((k ≡ i) × (x ≡ y)) ⊎ (slice_get xs k ≡ Some y)
set_place [] i k x y e = inr e
set_place (z ∷ xs) zero zero x y e = inl (refl, cc)
set_place (z ∷ xs) zero (suc k) x y e = inr e
set_place (z ∷ xs) (suc i) zero x y e = inr e
set_place (z ∷ xs) (suc i) (suc k) x y e = go (set_place xs i k x y e)
  where
    go : ((k ≡ i) × (x ≡ y)) ⊎ (slice_get xs k ≡ Some y) → ((suc k ≡ suc i) × (x ≡ y))
        ⊎ (slice_get xs k ≡ Some y)
    go (inl h) = inl (ap suc h.0, h.1)
    go (inr h) = inr h

-- a place that is set is not empty
set_full : {K : Type 0} (xs : List (Option (Done K))) (i : ℕ) (d : Done K)
    → slice_get (set xs i (Some d)) i ≢ Some None
set_full {K} [] i d e = let bad : None ≡ Some None = e in absurd (cc)
set_full {K} (z ∷ xs) zero d e = let bad : Some (Some d) ≡ Some None = e in absurd (cc)
set_full {K} (z ∷ xs) (suc i) d e = set_full xs i d e

-- no element follows the end
behind_end : {K : Type 0} (xs : List (Option (Done K))) (k : ℕ) → length xs ≤ k
    → slice_get xs k ≢ Some None
behind_end {K} xs k le e = let lt = slice_get_within xs k None e in absurd (omega (arith, le, lt))

-- the results in a table that was empty
pub put_none : {K : Type 0} (was : List (Option (Done K))) → ArePut was [] was
put_none {K} was = record {
  count = refl;
  each = λ stretch d at. inl at;
  stays = λ stretch e. e;
  all = λ k d at. let bad : None ≡ Some d = at in absurd (cc);
}

-- one more was given back, and has no place in the table
pub put_past : {K : Type 0} (was : List (Option (Done K))) (given : List (Done K)) (now : List
    (Option (Done K))) (done : Done K) → length now ≤ done.stretch → ArePut was given now
    → ArePut was (given ++ done ∷ []) now
put_past {K} was given now done high put = record {
  count = put.count;
  each = λ stretch d at. go stretch d (put.each stretch d at);
  stays = put.stays;
  all = λ k d at. all k d (pushed given done d k at);
}
  where
    go : (stretch : ℕ) (d : Done K) → (slice_get was stretch ≡ Some (Some d))
        ⊎ ((d.stretch ≡ stretch) × (k : ℕ) × (slice_get given k ≡ Some d))
        → (slice_get was stretch ≡ Some (Some d))
        ⊎ ((d.stretch ≡ stretch) × (k : ℕ) × (slice_get (given ++ done ∷ []) k ≡ Some d))
    go stretch d (inl x) = inl x
    go stretch d (inr x) = inr (x.0, x.1, kept given (done ∷ []) x.1 d x.2)

    all : (k : ℕ) (d : Done K) → (slice_get given k ≡ Some d) ⊎ ((k ≡ length given) × (done ≡ d))
        → slice_get now d.stretch ≢ Some None
    all k d (inl x) = put.all k d x
    all k d (inr x) = subst (λ (y : Done K). slice_get now y.stretch ≢ Some None) x.1
        (behind_end now done.stretch high)

-- or was put at its place
pub put_more : {K : Type 0} (was : List (Option (Done K))) (given : List (Done K)) (now : List
    (Option (Done K))) (done : Done K) → ArePut was given now
    → ArePut was (given ++ done ∷ []) (set now done.stretch (Some done))
put_more {K} was given now done put = record {
  count = length-set now done.stretch (Some done) ∙ put.count;
  each = λ stretch d at. go stretch d (set_place now done.stretch stretch (Some done) (Some d) at);
  stays = λ stretch e. stays stretch e (set_place now done.stretch stretch (Some done) None e);
  all = λ k d at e. all k d (pushed given done d k at) e
      (set_place now done.stretch d.stretch (Some done) None e);
}
  where
    go : (stretch : ℕ) (d : Done K) → ((stretch ≡ done.stretch) × (Some done ≡ Some d))
        ⊎ (slice_get now stretch ≡ Some (Some d)) → (slice_get was stretch ≡ Some (Some d))
        ⊎ ((d.stretch ≡ stretch) × (k : ℕ) × (slice_get (given ++ done ∷ []) k ≡ Some d))
    go stretch d (inl x) =
        let same : done ≡ d = let e = x.1 in cc in
        inr (
          ap (λ (y : Done K). y.stretch) (sym same) ∙ sym x.0,
          length given,
          last_of given done ∙ ap Some same,
        )
    go stretch d (inr x) = old (put.each stretch d x)
      where
        old : (slice_get was stretch ≡ Some (Some d))
            ⊎ ((d.stretch ≡ stretch) × (k : ℕ) × (slice_get given k ≡ Some d))
            → (slice_get was stretch ≡ Some (Some d))
            ⊎ ((d.stretch ≡ stretch) × (k : ℕ) × (slice_get (given ++ done ∷ []) k ≡ Some d))
        old (inl y) = inl y
        old (inr y) = inr (y.0, y.1, kept given (done ∷ []) y.1 d y.2)

    stays : (stretch : ℕ) → slice_get (set now done.stretch (Some done)) stretch ≡ Some None
        → ((stretch ≡ done.stretch) × (Some done ≡ None)) ⊎ (slice_get now stretch ≡ Some None)
        → slice_get was stretch ≡ Some None
    stays stretch e (inl x) = let bad : Some done ≡ None = x.1 in absurd (cc)
    stays stretch e (inr x) = put.stays stretch x

    all : (k : ℕ) (d : Done K) → (slice_get given k ≡ Some d) ⊎ ((k ≡ length given) × (done ≡ d))
        → slice_get (set now done.stretch (Some done)) d.stretch ≡ Some None
        → ((d.stretch ≡ done.stretch) × (Some done ≡ None)) ⊎ (slice_get now d.stretch ≡ Some None)
        → ⊥
    all k d x e (inl y) = let bad : Some done ≡ None = y.1 in absurd (cc)
    all k d (inl x) e (inr y) = put.all k d x y
    all k d (inr x) e (inr y) = set_full now done.stretch done
        (subst (λ (z : Done K). slice_get (set now done.stretch (Some done)) z.stretch ≡ Some None)
        (sym x.1) e)

-- of no thread
pub given_none : {Z : Type 0} {K : Type 0} (stretches : ℕ) (table : List (Option (Done K)))
    → length table ≡ stretches
    → All (λ at. IfSome at (λ _. ⊥)) table → AreGivenBack {Z = Z} stretches [] table
given_none {Z} {K} stretches table count none = record {
  count = count;
  each = λ stretch done at.
      let low = slice_get_within table stretch (Some done) at in
      let bad : IfSome (Some done) (λ _. ⊥) = subst (λ (x : Option (Done K)). IfSome x (λ _. ⊥))
      (get_or_from_slice_get table stretch (Some done) None at)
      (none stretch None low) in absurd bad;
  all = λ thread given k done at there e. let bad : None ≡ Some given = at in absurd (cc);
}

-- of one thread more
pub given_more : {Z : Type 0} {K : Type 0} (stretches : ℕ) (back : List (Vec (Done K) Z))
    (given : Vec (Done K) Z) (was table : List (Option (Done K))) → AreGivenBack stretches back was
    → ArePut was given.items table → AreGivenBack stretches (back ++ given ∷ []) table
given_more {Z} {K} stretches back given was table before put =
    record {
      count = put.count ∙ before.count;
      each = λ stretch done at. go stretch done (put.each stretch done at);
      all = λ thread own k done at there e.
          all thread own k done (pushed back given own thread at) there e;
    }
  where
    go : (stretch : ℕ) (done : Done K) → (slice_get was stretch ≡ Some (Some done))
        ⊎ ((done.stretch ≡ stretch) × (k : ℕ) × (slice_get given.items k ≡ Some done))
        → (done.stretch ≡ stretch) × (thread : ℕ) × (all : Vec (Done K) Z)
        × (slice_get (back ++ given ∷ []) thread ≡ Some all) × (k : ℕ)
        × (slice_get all.items k ≡ Some done)
    go stretch done (inl x) = let h = before.each stretch done x in
        (h.0, h.1, h.2, kept back (given ∷ []) h.1 h.2 h.3, h.4, h.5)
    go stretch done (inr x) = (x.0, length back, given, last_of back given, x.1, x.2)

    all : (thread : ℕ) (own : Vec (Done K) Z) (k : ℕ) (done : Done K)
        → (slice_get back thread ≡ Some own) ⊎ ((thread ≡ length back) × (given ≡ own))
        → slice_get own.items k ≡ Some done → slice_get table done.stretch ≢ Some None
    all thread own k done (inl x) there e =
        before.all thread own k done x there (put.stays done.stretch e)
    all thread own k done (inr x) there e =
        put.all k done (subst (λ (v : Vec (Done K) Z). slice_get v.items k ≡ Some done)
        (sym x.1) there) e

-- ---- seats, and their workers' results

-- of none
pub apart_none : {K E Z : Type 0} → AreApart {K = K} {E = E} {Z = Z} [] [] []
apart_none {K} {E} {Z} = record {
  seats_count = refl;
  dones_count = refl;
  each = λ k seat own at there. let bad : None ≡ Some seat = at in absurd (cc);
}

-- of one more
pub apart_more : {E Z : Type 0} {K : Type 0} (back : List (Result (Served K) E))
    (seats : List Sitter) (dones : List (Vec (Done K) Z)) (served : Served K) (own : Vec (Done K) Z)
    → own.items ≡ served.dones.items → AreApart back seats dones
    → AreApart (back ++ Ok served ∷ []) (seats ++ served.seat ∷ []) (dones ++ own ∷ [])
apart_more {E} {Z} {K} back seats dones served own same was = record {
  seats_count = omega (
    arith,
    length-append seats (served.seat ∷ []),
    length-append back (Ok served ∷ []),
    was.seats_count,
  );
  dones_count = omega (
    arith,
    length-append dones (own ∷ []),
    length-append back (Ok served ∷ []),
    was.dones_count,
  );
  each = λ k seat x at there.
      go k seat x (pushed seats served.seat seat k at) (pushed dones own x k there);
}
  where
    go : (k : ℕ) (seat : Sitter) (x : Vec (Done K) Z)
        → (slice_get seats k ≡ Some seat) ⊎ ((k ≡ length seats) × (served.seat ≡ seat))
        → (slice_get dones k ≡ Some x) ⊎ ((k ≡ length dones) × (own ≡ x))
        → (one : Served K) × (slice_get (back ++ Ok served ∷ []) k ≡ Some (Ok one))
        × (seat ≡ one.seat) × (x.items ≡ one.dones.items)
    go k seat x (inl a) (inl b) = let h = was.each k seat x a b in
        (h.0, kept back (Ok served ∷ []) k (Ok h.0) h.1, h.2, h.3)
    go k seat x (inl a) (inr b) =
        let lt = slice_get_within seats k seat a in
        absurd (omega (arith, lt, b.0, was.seats_count, was.dones_count))
    go k seat x (inr a) (inl b) =
        let lt = slice_get_within dones k x b in
        absurd (omega (arith, lt, a.0, was.seats_count, was.dones_count))
    go k seat x (inr a) (inr b) = (
      served,
      subst (λ i. slice_get (back ++ Ok served ∷ []) i ≡ Some (Ok served))
          (sym (a.0 ∙ was.seats_count)) (last_of back (Ok served)),
      sym a.1,
      ap (λ (v : Vec (Done K) Z). v.items) (sym b.1) ∙ same,
    )

-- the element of a list at the next place
pub next_place : {X : Type 0} (yielded rest all items : List X) (place : X) (stretch : ℕ)
    → length yielded ≡ stretch → yielded ++ items ≡ all → items ≡ place ∷ rest
    → slice_get all stretch ≡ Some place
next_place {X} yielded rest all items place stretch count order step =
    subst (λ n. slice_get all n ≡ Some place) count
    (subst (λ (l : List X). slice_get l (length yielded) ≡ Some place)
    (ap (λ (l : List X). yielded ++ l) (sym step) ∙ order) (between_others yielded rest place))
