-- The results of a worker that runs a list by itself, piece by piece.
use Rattle.std.proofs.Common.{◌≡◌, ◌<◌, ◌≤◌, ◌+◌, ◌*◌, ◌⊎◌, inl, inr, ℕ, zero, suc, Bool, List, []}
use Rattle.std.proofs.Common.{◌∷◌, map, length, All, Option, Some, None, refl, sym, ap, ◌∙◌, subst}
use Rattle.std.{proofs.Common.{arith, true, false}, specs.Prelude.slice_get}
use Rattle.std.proofs.lemmas.Bool.{cases_lt, false≢true}
use Rattle.std.proofs.lemmas.Option.{get_or_from_slice_get, slice_get_within}
use Rattle.list_lemmas.proofs.Places.{within_place}
use Rattle.fault_model.specs.Collapse.{representatives}
use Rattle.patterns.specs.{Least.{Table, least, from_up, first_hit}, Tests.blocks}
use Rattle.patterns.specs.declared.Outcome.{Outcome, TheVariants.{Clear, Hit}}
use Rattle.block_sim.{specs.Parts.{Parts, BelongTogether}, proofs.Public.which_detect}
use Rattle.region_sim.specs.Goals.{AreHits}
use Rattle.workers.proofs.Public.{class_count}
use Rattle.region_runs.specs.declared.stretch_run.{Stop.Stop, Waiting.Waiting}
use Rattle.region_runs.specs.StretchRuns.{AreEarlier, AreKeptUpTo, IsEarlier, IsLowerOf, IsLowest}
use Rattle.region_runs.specs.StretchRuns.{IsNoHigher, IsOpenAfter, IsOpenBelow}
use Rattle.region_runs.specs.Tasks.{IsAtFirst, IsSound, Task}

-- the test that an outcome of a block hits
abbrev pub hit_at : ℕ → Outcome → Option ℕ
hit_at block Clear = None
hit_at block (Hit k) = Some (64 * block + k)

-- a hit stays a hit with one block more
hit_kept : (row : ℕ → Outcome) (first n t : ℕ)
    → first_hit first (map row (from_up first n)) ≡ Some t
    → first_hit first (map row (from_up first (suc n))) ≡ Some t
hit_kept row first zero t is = let bad : None ≡ Some t = is in absurd (cc)
hit_kept row first (suc n) t is = go (hit_kept row (first + 1) n t) (row first) is
  where
    go : (first_hit (first + 1) (map row (from_up (first + 1) n)) ≡ Some t
        → first_hit (first + 1) (map row (from_up (first + 1) (suc n))) ≡ Some t) → (o : Outcome)
        → first_hit first (o ∷ map row (from_up (first + 1) n)) ≡ Some t
        → first_hit first (o ∷ map row (from_up (first + 1) (suc n))) ≡ Some t
    go rest Clear e = rest e
    go rest (Hit k) e = e

-- if nothing is hit, one block more has its own hit
hit_more : (row : ℕ → Outcome) (first n : ℕ) → first_hit first (map row (from_up first n)) ≡ None
    → first_hit first (map row (from_up first (suc n))) ≡ hit_at (first + n) (row (first + n))
hit_more row first zero is = let e : first ≡ first + 0 = omega arith in
    subst (λ m. first_hit first (row first ∷ []) ≡ hit_at m (row m)) e (go (row first))
  where
    go : (o : Outcome) → first_hit first (o ∷ []) ≡ hit_at first o
    go Clear = refl
    go (Hit k) = refl
hit_more row first (suc n) is = go (hit_more row (first + 1) n) (row first) is
  where
    go : (first_hit (first + 1) (map row (from_up (first + 1) n)) ≡ None
        → first_hit (first + 1) (map row (from_up (first + 1) (suc n))) ≡ hit_at ((first + 1) + n)
        (row ((first + 1) + n))) → (o : Outcome)
        → first_hit first (o ∷ map row (from_up (first + 1) n)) ≡ None
        → first_hit first (o ∷ map row (from_up (first + 1) (suc n))) ≡ hit_at (first + suc n)
        (row (first + suc n))
    go rest Clear e =
        let same : (first + 1) + n ≡ first + suc n = omega arith in
        subst (λ m. first_hit (first + 1) (map row (from_up (first + 1) (suc n)))
        ≡ hit_at m (row m)) same (rest e)
    go rest (Hit k) e = let bad : Some (64 * first + k) ≡ None = e in absurd (cc)

-- a class that is hit in the first blocks is so in one more
pub least_kept : (table : Table) (block class t : ℕ) → least table block class ≡ Some t
    → least table (block + 1) class ≡ Some t
least_kept table block class t is =
    let more : suc block ≡ block + 1 = omega arith in
    subst (λ n. least table n class ≡ Some t) more (hit_kept (table class) 0 block t is)

pub least_more : (table : Table) (block class : ℕ) → least table block class ≡ None
    → least table (block + 1) class ≡ hit_at block (table class block)
least_more table block class none =
    let more : suc block ≡ block + 1 = omega arith in
    let same : 0 + block ≡ block = omega arith in
    subst (λ n. least table n class ≡ hit_at block (table class block)) more
    (subst (λ m. first_hit 0 (map (table class) (from_up 0 (suc block))) ≡ hit_at m (table class m))
    same (hit_more (table class) 0 block none))

-- which blocks are done
pub done_low : (place block k : ℕ) → k < place → AreEarlier place block k (block + 1)
done_low place block k lt = λ b. (λ l. to b l (cases_lt b block), λ e. from b e)
  where
    to : (b : ℕ) → b < block + 1 → (b < block) ⊎ (block ≤ b) → IsEarlier k b place block
    to b l (inl x) = inl x
    to b l (inr x) = inr (omega (arith, l, x), lt)

    from : (b : ℕ) → IsEarlier k b place block → b < block + 1
    from b (inl x) = omega (arith, x)
    from b (inr x) = let e = x.0 in omega (arith, e)

pub done_high : (place block k : ℕ) → place ≤ k → AreEarlier place block k block
done_high place block k le = λ b. (λ l. inl l, λ e. from b e)
  where
    from : (b : ℕ) → IsEarlier k b place block → b < block
    from b (inl x) = x
    from b (inr x) = let low = x.1 in absurd (omega (arith, low, le))

-- they are of one number
pub one_count : (place block k n m : ℕ) → AreEarlier place block k n → AreEarlier place block k m
    → n ≡ m
one_count place block k n m p q = go (cases_lt n m) (cases_lt m n)
  where
    go : (n < m) ⊎ (m ≤ n) → (m < n) ⊎ (n ≤ m) → n ≡ m
    go (inl lt) y = let bad = (p n).1 ((q n).0 lt) in absurd (omega (arith, bad))
    go (inr x) (inl lt) = let bad = (q m).1 ((p m).0 lt) in absurd (omega (arith, bad))
    go (inr x) (inr y) = omega (arith, x, y)

-- what is kept of no test
pub kept_at_first : {K : Type 0} (task : Task K) (classes : List ℕ) (kept : List K)
    → length kept ≡ length classes → ((k : ℕ) (one : K) → slice_get kept k ≡ Some one
    → IsAtFirst task one) → AreKeptUpTo task classes 0 task.from kept
kept_at_first {K} task classes kept count first = record {
  count = count;
  each = λ hits k class n one ec ek h up. subst (λ m. task.means hits (64 * task.from) (64 * m) one)
      (one_count 0 task.from k task.from n (done_high 0 task.from k (omega arith)) up)
      (first k one ek hits (64 * task.from));
}

-- the class at a place is open as long as what is kept there wants more
pub still_open : {K : Type 0} (task : Task K) → IsSound task → (classes : List ℕ)
    (place block k class n : ℕ) (kept : List K) (one : K) → slice_get classes k ≡ Some class
    → slice_get kept k ≡ Some one → task.wants one ≡ true → AreEarlier place block k n
    → AreKeptUpTo task classes place block kept → IsOpenAfter task class n
still_open {K} task sound classes place block k class n kept one ec ek wanted up was =
    λ hits other h means. sound.agrees other one hits (64 * task.from) (64 * n) means
    (was.each hits k class n one ec ek h up) ∙ wanted

-- a class of the list is one of the job's
pub listed_class : (job : Parts) (classes : List ℕ) (place class : ℕ)
    → All (λ n. n < length job.classes.representative) classes
    → slice_get classes place ≡ Some class → class < length job.classes.representative
listed_class job classes place class all e = subst (λ n. n < length job.classes.representative)
    (get_or_from_slice_get classes place class 0 e)
    (all place 0 (slice_get_within classes place class e))

-- a class has hits
pub some_hits : (job : Parts) → BelongTogether job → (class : ℕ)
    → class < length job.classes.representative → (hits : ℕ → Bool) × AreHits job class hits
some_hits job b class lt =
    let r = within_place (representatives job.list.model job.circuit) class
    (omega (arith, lt, class_count job b)) in
    let w = which_detect job.list.model job.circuit job.tests.tests class r.0
    b.circuit.well_formed r.1 in
    (w.0, (r.0, r.1, w.1))

-- ---- the lowest class that waits

-- of the same classes
pub lowest_along : (P Q : ℕ → ℕ → Type 0) (lowest : Option Waiting) → ((c b : ℕ) → P c b → Q c b)
    → ((c b : ℕ) → Q c b → P c b) → IsLowest P lowest → IsLowest Q lowest
lowest_along P Q None to from is = λ c b q. is c b (from c b q)
lowest_along P Q (Some w) to from is = (to w.class w.block is.0, λ c b q. is.1 c b (from c b q))

-- none is no higher than a waiting class only if none waits
lowest_none : (P : ℕ → ℕ → Type 0) (f : Option Waiting) → IsNoHigher None f → IsLowest P f
    → (c b : ℕ) → P c b → ⊥
lowest_none P None h p = p
lowest_none P (Some v) h p = absurd h

-- a class that is no higher than the lowest is no higher than any
lowest_bound : (P : ℕ → ℕ → Type 0) (f : Option Waiting) (w : Waiting) → IsNoHigher (Some w) f
    → IsLowest P f → (c b : ℕ) → P c b → w.class ≤ c
lowest_bound P None w h p c b x = absurd (p c b x)
lowest_bound P (Some v) w h p c b x = let m = p.1 c b x in omega (arith, h, m)

lowest_holds : (P : ℕ → ℕ → Type 0) (f : Option Waiting) (w : Waiting) → Some w ≡ f
    → IsLowest P f → P w.class w.block
lowest_holds P f w e p = (subst (IsLowest P) (sym e) p).0

-- the lowest of two kinds
pub lowest_join : (P Q : ℕ → ℕ → Type 0) (f s lowest : Option Waiting) → IsLowest P f
    → IsLowest Q s → IsLowerOf f s lowest → IsLowest (λ c b. P c b ⊎ Q c b) lowest
lowest_join P Q f s None p q is = λ c b x. go c b x
  where
    go : (c b : ℕ) → P c b ⊎ Q c b → ⊥
    go c b (inl x) = lowest_none P f is.1 p c b x
    go c b (inr x) = lowest_none Q s is.2 q c b x
lowest_join P Q f s (Some w) p q is = (either is.0, λ c b x. go c b x)
  where
    either : (Some w ≡ f) ⊎ (Some w ≡ s) → P w.class w.block ⊎ Q w.class w.block
    either (inl e) = inl (lowest_holds P f w e p)
    either (inr e) = inr (lowest_holds Q s w e q)

    go : (c b : ℕ) → P c b ⊎ Q c b → w.class ≤ c
    go c b (inl x) = lowest_bound P f w is.1 p c b x
    go c b (inr x) = lowest_bound Q s w is.2 q c b x

-- that at one place more doesn't
pub open_same : {K : Type 0} (task : Task K) (classes : List ℕ) (stop : Stop) (place : ℕ)
    (lowest : Option Waiting)
    → ((c b : ℕ) (x : IsOpenBelow task classes stop (place + 1) c b) → x.place ≡ place → ⊥)
    → IsLowest (IsOpenBelow task classes stop place) lowest
    → IsLowest (IsOpenBelow task classes stop (place + 1)) lowest
open_same {K} task classes stop place lowest none is =
    lowest_along (IsOpenBelow task classes stop place) (IsOpenBelow task classes stop (place + 1))
    lowest (λ c b x. record {
      place = x.place;
      low = omega (arith, x.low);
      at = x.at;
      block_is = x.block_is;
      within = x.within;
      still = x.still;
    }) (λ c b x. go c b x (cases_lt x.place place)) is
  where
    go : (c b : ℕ) (x : IsOpenBelow task classes stop (place + 1) c b)
        → (x.place < place) ⊎ (place ≤ x.place) → IsOpenBelow task classes stop place c b
    go c b x (inl l) = record {
      place = x.place;
      low = l;
      at = x.at;
      block_is = x.block_is;
      within = x.within;
      still = x.still;
    }
    go c b x (inr l) = let e : x.place ≡ place = omega (arith, l, x.low) in absurd (none c b x e)

-- as more tests can't change its class
pub open_closed : {K : Type 0} (task : Task K) (classes : List ℕ) (stop : Stop) (place : ℕ)
    (kept : List K) (one : K) (lowest : Option Waiting) → BelongTogether task.job
    → All (λ n. n < length task.job.classes.representative) classes
    → AreKeptUpTo task classes stop.place stop.block kept → slice_get kept place ≡ Some one
    → task.wants one ≡ false → IsLowest (IsOpenBelow task classes stop place) lowest
    → IsLowest (IsOpenBelow task classes stop (place + 1)) lowest
open_closed {K} task classes stop place kept one lowest b all found ek closed =
    open_same task classes stop place lowest (λ c block x e.
    let h = some_hits task.job b c (listed_class task.job classes x.place c all x.at) in
    let wanted = x.still h.0 one h.1
    (found.each h.0 x.place c block one x.at (ap (slice_get kept) e ∙ ek) h.1 x.block_is) in
    absurd (false≢true (sym closed ∙ wanted)))

-- as all blocks of it are done
pub open_past : {K : Type 0} (task : Task K) (classes : List ℕ) (stop : Stop) (place block : ℕ)
    (lowest : Option Waiting) → AreEarlier stop.place stop.block place block
    → blocks (length task.job.tests.tests) ≤ block
    → IsLowest (IsOpenBelow task classes stop place) lowest
    → IsLowest (IsOpenBelow task classes stop (place + 1)) lowest
open_past {K} task classes stop place block lowest is past =
    open_same task classes stop place lowest (λ c b x e.
    let same : b ≡ block = one_count stop.place stop.block place b block
    (subst (λ k. AreEarlier stop.place stop.block k b) e x.block_is) is in
    omega (arith, same, x.within, past))

-- that at one place more waits
pub open_more : {K : Type 0} (task : Task K) → IsSound task → (classes : List ℕ) (stop : Stop)
    (place class block : ℕ) (kept : List K) (one : K) (w : Waiting) (lowest lower : Option Waiting)
    → AreKeptUpTo task classes stop.place stop.block kept → slice_get classes place ≡ Some class
    → slice_get kept place ≡ Some one → task.wants one ≡ true
    → AreEarlier stop.place stop.block place block → block < blocks (length task.job.tests.tests)
    → w.class ≡ class → w.block ≡ block → IsLowerOf lowest (Some w) lower
    → IsLowest (IsOpenBelow task classes stop place) lowest
    → IsLowest (IsOpenBelow task classes stop (place + 1)) lower
open_more {K} task sound classes stop place class block kept one w lowest lower found ec ek wanted
    is
    low wc wb lo was = lowest_along (λ c b. IsOpenBelow task classes stop place c b ⊎ Here c b)
    (IsOpenBelow task classes stop (place + 1)) lower (λ c b x. to c b x)
    (λ c b x. from c b x (cases_lt x.place place))
    (lowest_join (IsOpenBelow task classes stop place) Here lowest (Some w) lower was (
      (wc, wb),
      λ c b x. omega (arith, wc, x.0),
    ) lo)
  where
    Here : ℕ → ℕ → Type 0
    Here c b = (c ≡ class) × (b ≡ block)

    own : IsOpenBelow task classes stop (place + 1) class block
    own = record {
      place = place;
      low = omega arith;
      at = ec;
      block_is = is;
      within = low;
      still = still_open task sound classes stop.place stop.block place class block kept one ec ek
          wanted is found;
    }

    to : (c b : ℕ) → IsOpenBelow task classes stop place c b ⊎ Here c b
        → IsOpenBelow task classes stop (place + 1) c b
    to c b (inl x) = record {
      place = x.place;
      low = omega (arith, x.low);
      at = x.at;
      block_is = x.block_is;
      within = x.within;
      still = x.still;
    }
    to c b (inr x) = subst (λ n. IsOpenBelow task classes stop (place + 1) n b) (sym x.0)
        (subst (IsOpenBelow task classes stop (place + 1) class) (sym x.1) own)

    from : (c b : ℕ) (x : IsOpenBelow task classes stop (place + 1) c b)
        → (x.place < place) ⊎ (place ≤ x.place) → IsOpenBelow task classes stop place c b ⊎ Here c b
    from c b x (inl l) = inl (record {
      place = x.place;
      low = l;
      at = x.at;
      block_is = x.block_is;
      within = x.within;
      still = x.still;
    })
    from c b x (inr l) =
        let e : x.place ≡ place = omega (arith, l, x.low) in
        let same : slice_get classes place ≡ Some c = ap (slice_get classes) (sym e) ∙ x.at in
        let q : c ≡ class = let r = sym same ∙ ec in cc in
        inr (
          q,
          one_count stop.place stop.block place b block
              (subst (λ k. AreEarlier stop.place stop.block k b) e x.block_is) is,
        )
