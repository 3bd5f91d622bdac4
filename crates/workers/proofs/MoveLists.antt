-- Lists of moves: the number of their events is bounded, and the workers' turns end.
use Rattle.std.proofs.Common.{◌≡◌, ◌≢◌, ◌<◌, ◌≤◌, ◌+◌, ◌-◌, ◌*◌, ◌⊎◌, inl, inr, ℕ, zero, suc, Bool}
use Rattle.std.proofs.Common.{true, false, cond, List, [], ◌∷◌, ◌++◌, length, map, All, Option}
use Rattle.std.proofs.Common.{Some, None, refl, sym, ap, ◌∙◌, subst, arith, le-ltb, lt-ltb, eq-eqb}
use Rattle.std.proofs.{Common.{ne_eqb, append_assoc, append-nil, add-one}, lemmas.Bool.cases_lt}
use Rattle.std.specs.{Prelude.{count_by, is_some}, Option.option_map_or}
use Rattle.std.proofs.lemmas.List.{Elements.{All-append, All-cons, All-nil}, map-append}
use Rattle.std.proofs.lemmas.List.Sums.{sum_by-append, sum_by-cons}
use Rattle.patterns.specs.{Tests.{max_pieces, blocks}, Least.{Table, from_up, below}}
use Rattle.patterns.proofs.Public.{length-below, get_or-below}
use Rattle.block_sim.specs.Parts.{Parts, BelongTogether, piece_count as job_pieces}
use Rattle.fault_ledger.specs.{declared.Event.Event, declared.Shape.Shape, Face.{Face, face}}
use Rattle.fault_ledger.specs.History.{History, piece_count, block_count, class_of, block_of}
use Rattle.fault_ledger.specs.History.{claims, held_by}
use Rattle.fault_ledger.specs.Answer.{IsLegal, IsTrueTo, has_earlier_hit}
use Rattle.fault_ledger.proofs.Public.{claim_accepted, report_accepted, drop_accepted, legal_claims}
use Rattle.workers.specs.Schedule.{IsTableOf, drops, is_drop, move, move_holding, after_moves}
use Rattle.workers.specs.{Schedule.{turns, schedule_history}, Settling.{AreSettled, IsShapeOf}}
use Rattle.workers.proofs.SettledLedgers.{all_settled, none_open}
use Rattle.workers.proofs.ScheduleMoves.{move_legal, move_true}

pub moved_append : (t : Table) (s : Shape) (h : History) (xs ys : List ℕ)
    → after_moves t s h (xs ++ ys) ≡ after_moves t s (after_moves t s h xs) ys
moved_append t s h [] ys = refl
moved_append t s h (x ∷ xs) ys = moved_append t s (move t s h x) xs ys

pub moved_true : (t : Table) (s : Shape) (h : History) (xs : List ℕ) → IsTrueTo s t h
    → IsTrueTo s t (after_moves t s h xs)
moved_true t s h [] to = to
moved_true t s h (x ∷ xs) to = moved_true t s (move t s h x) xs (move_true t s h x to)

-- the numbers below n, and n
below_more : (n : ℕ) → below n ++ n ∷ [] ≡ below (suc n)
below_more n = last 0 n n (omega arith)
  where
    last : (a n b : ℕ) → a + n ≡ b → from_up a n ++ b ∷ [] ≡ from_up a (suc n)
    last a zero b e = let q : b ≡ a = omega (arith, e) in ap (λ (k : ℕ). k ∷ []) q
    last a (suc n) b e = ap (λ xs. a ∷ xs) (last (a + 1) n b (omega (arith, e)))

pub below_last : (n : ℕ) → below n ++ n ∷ [] ≡ below (n + 1)
below_last n = below_more n ∙ ap below (sym (add-one n))

-- the number of workers below n that hold a piece
abbrev is_one : Option ℕ → ℕ
is_one None = 0
is_one (Some p) = 1

abbrev holders : History → ℕ → ℕ
holders h zero = 0
holders h (suc n) = is_one (held_by n h) + holders h n

-- a sum of which one term is less by one
total : (ℕ → ℕ) → ℕ → ℕ
total f zero = 0
total f (suc n) = f n + total f n

total_same : (f g : ℕ → ℕ) (n : ℕ) → ((k : ℕ) → k < n → f k ≡ g k) → total f n ≡ total g n
unfolding total
total_same f g zero e = refl
total_same f g (suc n) e = omega (
  arith,
  e n (omega arith),
  total_same f g n (λ k l. e k (omega (arith, l))),
)

total_less : (f g : ℕ → ℕ) (u n : ℕ) → u < n → ((k : ℕ) → k ≢ u → f k ≡ g k) → f u + 1 ≡ g u
    → total f n + 1 ≡ total g n
unfolding total
total_less f g u zero lt e one = absurd (omega (arith, lt))
total_less f g u (suc n) lt e one = go (cases_lt u n) (λ l. total_less f g u n l e one)
  where
    go : (u < n) ⊎ (n ≤ u) → (u < n → total f n + 1 ≡ total g n)
        → f n + total f n + 1 ≡ g n + total g n
    go (inl l) i =
        let same : f n ≡ g n = e n (λ q. omega (arith, l, q)) in
        omega (arith, same, i l)
    go (inr l) i =
        let q : u ≡ n = omega (arith, lt, l) in
        let own : f n + 1 ≡ g n = subst (λ k. f k + 1 ≡ g k) q one in
        let rest : total f n ≡ total g n =
        total_same f g n (λ k m. e k (λ r. omega (arith, m, r, q))) in
        omega (arith, own, rest)

holders_total : (h : History) (n : ℕ) → holders h n ≡ total (λ w. is_one (held_by w h)) n
unfolding total
holders_total h zero = refl
holders_total h (suc n) = ap (λ k. is_one (held_by n h) + k) (holders_total h n)

-- a claim gives one worker more a piece
claim_holders : (h : History) (u n : ℕ) → u < n → held_by u h ≡ None
    → holders h n + 1 ≡ holders (Event.Claim u ∷ h) n
claim_holders h u n lt free =
    let others : (k : ℕ) → k ≢ u → is_one (held_by k h) ≡ is_one (held_by k (Event.Claim u ∷ h)) =
    λ k d. ap is_one (sym (ap (λ b. cond b (Some (claims h)) (held_by k h)) (ne_eqb k u d))) in
    let own : is_one (held_by u h) + 1 ≡ is_one (held_by u (Event.Claim u ∷ h)) =
    ap (λ x. is_one x + 1) free ∙ ap is_one
    (sym (ap (λ b. cond b (Some (claims h)) (held_by u h)) (eq-eqb u u refl))) in
    omega (
      arith,
      holders_total h n,
      holders_total (Event.Claim u ∷ h) n,
      total_less (λ w. is_one (held_by w h))
          (λ w. is_one (held_by w (Event.Claim u ∷ h))) u n lt others own,
    )

drop_holders : (h : History) (u n p : ℕ) → u < n → held_by u h ≡ Some p
    → holders (Event.Drop u ∷ h) n + 1 ≡ holders h n
drop_holders h u n p lt here =
    let others : (k : ℕ) → k ≢ u → is_one (held_by k (Event.Drop u ∷ h)) ≡ is_one (held_by k h) =
    λ k d. ap is_one (ap (λ b. cond b None (held_by k h)) (ne_eqb k u d)) in
    let own : is_one (held_by u (Event.Drop u ∷ h)) + 1 ≡ is_one (held_by u h) =
    ap (λ x. is_one x + 1) (ap (λ b. cond b None (held_by u h)) (eq-eqb u u refl))
    ∙ ap is_one (sym here) in
    omega (
      arith,
      holders_total h n,
      holders_total (Event.Drop u ∷ h) n,
      total_less (λ w. is_one (held_by w (Event.Drop u ∷ h)))
          (λ w. is_one (held_by w h)) u n lt others own,
    )

-- each claim adds an event and a holder, each report or drop an event in place of a holder
events_held : (s : Shape) (h : History) → IsLegal s h
    → length h + holders h s.workers ≡ 2 * claims h
events_held s [] l = omega (arith, no_holders s.workers)
  where
    no_holders : (n : ℕ) → holders [] n ≡ 0
    no_holders zero = refl
    no_holders (suc n) = omega (arith, no_holders n)
events_held s (Event.Claim u ∷ h) l =
    let a = claim_accepted s h u l.0 in
    omega (arith, claim_holders h u s.workers a.0 a.1, events_held s h l.1)
events_held s (Event.Report u o ∷ h) l =
    let a = report_accepted s h u o l.0 in
    omega (arith, drop_holders h u s.workers a.0 a.1 a.2, events_held s h l.1)
events_held s (Event.Drop u ∷ h) l =
    let a = drop_accepted s h u l.0 in
    omega (arith, drop_holders h u s.workers a.0 a.1 a.2, events_held s h l.1)

-- an event more
drops_more : (e : Event) (h : History) → drops (e ∷ h) ≡ cond (is_drop e) 1 0 + drops h
drops_more e h = sum_by-cons (λ x. cond (is_drop x) 1 0) e h

-- there are no more drops than claims
drops_held : (s : Shape) (h : History) → IsLegal s h → drops h + holders h s.workers ≤ claims h
drops_held s [] l = let e = events_held s [] tt in omega (arith, e)
drops_held s (Event.Claim u ∷ h) l =
    let a = claim_accepted s h u l.0 in
    omega (
      arith,
      drops_more (Event.Claim u) h,
      claim_holders h u s.workers a.0 a.1,
      drops_held s h l.1,
    )
drops_held s (Event.Report u o ∷ h) l =
    let a = report_accepted s h u o l.0 in
    omega (
      arith,
      drops_more (Event.Report u o) h,
      drop_holders h u s.workers a.0 a.1 a.2,
      drops_held s h l.1,
    )
drops_held s (Event.Drop u ∷ h) l =
    let a = drop_accepted s h u l.0 in
    omega (
      arith,
      drops_more (Event.Drop u) h,
      drop_holders h u s.workers a.0 a.1 a.2,
      drops_held s h l.1,
    )

pub drops_few : (s : Shape) (h : History) → IsLegal s h → drops h ≤ piece_count s
drops_few s h l = omega (arith, drops_held s h l, legal_claims s h l)

-- and at most two events for each piece
pub events_few : (s : Shape) (h : History) → IsLegal s h → length h ≤ 2 * piece_count s
events_few s h l = omega (arith, events_held s h l, legal_claims s h l)

-- the events that are left, as a ledger shows them
pub left_of : Face → ℕ
left_of f = 2 * piece_count f.shape + count_by is_some f.holding - 2 * f.claimed

count_holders : (h : History) (n : ℕ)
    → count_by is_some (map (λ w. held_by w h) (below n)) ≡ holders h n
count_holders h zero = refl
count_holders h (suc n) =
    ap (λ (l : List ℕ). count_by is_some (map (λ w. held_by w h) l)) (sym (below_more n))
    ∙ ap (λ (l : List (Option ℕ)). count_by is_some l)
    (map-append (λ w. held_by w h) (below n) (n ∷ []))
    ∙ sum_by-append (λ (o : Option ℕ). cond (is_some o) 1 0) (map (λ w. held_by w h) (below n))
    (held_by n h ∷ []) ∙ add (count_holders h n) (one (held_by n h))
  where
    one : (o : Option ℕ) → count_by is_some (o ∷ []) ≡ is_one o
    one None = refl
    one (Some p) = refl

    add : {a b c d : ℕ} → a ≡ b → c ≡ d → a + c ≡ d + b
    add e f = omega (arith, e, f)

pub left_events : (s : Shape) (h : History) → IsLegal s h
    → left_of (face s h) + length h ≡ 2 * piece_count s
unfolding left_of
left_events s h l = omega (arith, count_holders h s.workers, events_held s h l, legal_claims s h l)

-- a move that adds nothing is of a worker that has nothing left to do
pub idle : (t : Table) (s : Shape) (h : History) (w : ℕ) → IsLegal s h → move t s h w ≡ h
    → (claims h ≡ piece_count s) × (held_by w h ≡ None)
idle t s h w l same = go (held_by w h) refl
  where
    longer : (e : Event) → e ∷ h ≡ h → ⊥
    longer e q = let n = ap length q in omega (arith, n)

    go : (x : Option ℕ) → held_by w h ≡ x → (claims h ≡ piece_count s) × (held_by w h ≡ None)
    go None e = pick (cases_lt (claims h) (piece_count s))
      where
        pick : (claims h < piece_count s) ⊎ (piece_count s ≤ claims h) → (claims h ≡ piece_count s)
            × (held_by w h ≡ None)
        pick (inl lt) = absurd (longer (Event.Claim w) (sym (ap (move_holding t s h w) e
            ∙ ap (λ b. cond b (Event.Claim w ∷ h) h) (lt-ltb (claims h) (piece_count s) lt))
            ∙ same))
        pick (inr le) = (let few = legal_claims s h l in omega (arith, few, le), e)
    go (Some p) e = absurd (pick (has_earlier_hit s h p) refl)
      where
        pick : (b : Bool) → has_earlier_hit s h p ≡ b → ⊥
        pick true q = longer (Event.Drop w) (sym (ap (move_holding t s h w) e
            ∙ ap (λ x. cond x (Event.Drop w ∷ h)
            (Event.Report w (t (class_of s p) (block_of s p)) ∷ h)) q) ∙ same)
        pick false q = longer (Event.Report w (t (class_of s p) (block_of s p)))
            (sym (ap (move_holding t s h w) e ∙ ap (λ x. cond x (Event.Drop w ∷ h)
            (Event.Report w (t (class_of s p) (block_of s p)) ∷ h)) q) ∙ same)

-- The effect of moves: the face of the ledger, the number of dropped pieces, and whether there was
-- an event. If there was none, no worker that moved has anything left to do.
abbrev pub Done : Table → Shape → History → List ℕ → Face → ℕ → Bool → Type 0
Done t s h xs new skipped changed = (new ≡ face s (after_moves t s h xs))
    × IsLegal s (after_moves t s h xs) × (drops (after_moves t s h xs) ≡ drops h + skipped)
    × (changed ≡ true → length h < length (after_moves t s h xs))
    × (changed ≡ false → (after_moves t s h xs ≡ h)
    × All (λ w. (claims h ≡ piece_count s) × (held_by w h ≡ None)) xs)

pub done_none : (t : Table) (s : Shape) (h : History) (f : Face) → IsLegal s h → f ≡ face s h
    → Done t s h [] f 0 false
done_none t s h f l e = (
  e,
  l,
  omega arith,
  (λ q. absurd (cc)),
  (λ q. (refl, All-nil (λ w. (claims h ≡ piece_count s) × (held_by w h ≡ None)))),
)

moved_last : (t : Table) (s : Shape) (h : History) (xs : List ℕ) (w : ℕ)
    → after_moves t s h (xs ++ w ∷ []) ≡ move t s (after_moves t s h xs) w
moved_last t s h xs w = moved_append t s h xs (w ∷ [])

module _ (t : Table) (s : Shape) (h : History) (xs : List ℕ) (w : ℕ) (f new : Face) (n : ℕ)
    (changed : Bool) (was : Done t s h xs f n changed)
    (moves : new ≡ face s (move t s (after_moves t s h xs) w))
    (legal : IsLegal s (move t s (after_moves t s h xs) w)) where
  abbrev g : History
  g = after_moves t s h xs

  -- a move that adds an event
  pub done_more : (e : Event) (m : ℕ) → move t s (after_moves t s h xs) w ≡ e ∷ after_moves t s h xs
      → m ≡ n + cond (is_drop e) 1 0 → Done t s h (xs ++ w ∷ []) new m true
  done_more e m adds count = subst (λ x. (new ≡ face s x) × IsLegal s x × (drops x ≡ drops h + m)
      × (true ≡ true → length h < length x)
      × (true ≡ false → (x ≡ h) × All (λ w. (claims h ≡ piece_count s) × (held_by w h ≡ None)) (xs
      ++ w ∷ []))) (sym (moved_last t s h xs w))
      (moves, legal, ap (λ (x : History). drops x) adds ∙ sum, (λ q. longer), (λ q. absurd (cc)))
    where
      sum : drops (e ∷ g) ≡ drops h + m
      sum = let a = was.2 in omega (arith, a, count, drops_more e g)

      not_shorter : (b : Bool) → changed ≡ b → length h ≤ length g
      not_shorter true q = let a = was.3 q in omega (arith, a)
      not_shorter false q = let a = ap (λ (x : History). length x) (was.4 q).0 in omega (arith, a)

      longer : length h < length (move t s g w)
      longer = let a = ap (λ (x : History). length x) adds in let b = not_shorter changed refl in
          omega (arith, a, b)

  -- a move that adds none
  pub done_same : move t s (after_moves t s h xs) w ≡ after_moves t s h xs
      → Done t s h (xs ++ w ∷ []) new n changed
  done_same adds =
      subst (λ x. (new ≡ face s x) × IsLegal s x × (drops x ≡ drops h + n) × (changed ≡ true
      → length h < length x)
      × (changed ≡ false → (x ≡ h) × All (λ w. (claims h ≡ piece_count s) × (held_by w h ≡ None))
      (xs ++ w ∷ []))) (sym (moved_last t s h xs w ∙ adds)) (
        moves ∙ ap (face s) adds,
        was.1,
        was.2,
        was.3,
        λ q.
            let a = was.4 q in
            let i = idle t s g w was.1 adds in (
              a.0,
              All-append (λ w. (claims h ≡ piece_count s) × (held_by w h ≡ None)) xs (w ∷ []) a.1
                  (All-cons (λ w. (claims h ≡ piece_count s) × (held_by w h ≡ None)) w []
                  (subst (λ x. (claims x ≡ piece_count s) × (held_by w x ≡ None)) a.0 i)
                  (All-nil (λ w. (claims h ≡ piece_count s) × (held_by w h ≡ None)))),
            ),
      )

-- all of the workers are workers
pub all_below : (n : ℕ) → All (λ w. w < n) (below n)
all_below n k d lt = let l = length-below n in
    subst (λ x. x < n) (sym (get_or-below n k d (omega (arith, l, lt)))) (omega (arith, l, lt))

pub all_turns : (n m : ℕ) → All (λ w. w < n) (turns n m)
all_turns n zero = All-nil (λ w. w < n)
all_turns n (suc m) = All-append (λ w. w < n) (below n) (turns n m) (all_below n) (all_turns n m)

turns_last : (w n : ℕ) → turns w n ++ below w ≡ turns w (suc n)
turns_last w zero = sym (append-nil (below w))
turns_last w (suc n) = append_assoc (below w) (turns w n) (below w)
    ∙ ap (λ xs. below w ++ xs) (turns_last w n)

turns_sum : (w n m : ℕ) → turns w (n + m) ≡ turns w n ++ turns w m
turns_sum w zero m = ap (turns w) (let q : 0 + m ≡ m = omega arith in q)
turns_sum w (suc n) m = ap (turns w) (let q : suc n + m ≡ suc (n + m) = omega arith in q)
    ∙ ap (λ xs. below w ++ xs) (turns_sum w n m)
    ∙ sym (append_assoc (below w) (turns w n) (turns w m))

-- if all pieces are claimed and no worker holds one, moves change nothing
over_moved : (t : Table) (s : Shape) (h : History) (xs : List ℕ) → claims h ≡ piece_count s
    → ((w : ℕ) → w < s.workers → held_by w h ≡ None) → All (λ w. w < s.workers) xs
    → after_moves t s h xs ≡ h
over_moved t s h [] all free a = refl
over_moved t s h (x ∷ xs) all free a =
    let e : move t s h x ≡ h = ap (move_holding t s h x) (free x (a 0 x (omega arith)))
    ∙ ap (λ b. cond b (Event.Claim x ∷ h) h) (le-ltb (claims h) (piece_count s) (omega (
      arith,
      all,
    ))) in
    ap (λ g. after_moves t s g xs) e ∙ over_moved t s h xs all free
    (λ k d lt. a (suc k) d (omega (arith, lt)))

-- After some turns: their number is at most the number of their events.
pub record Turned (t : Table) (s : Shape) (h : History) (f : Face) (skipped : ℕ) : Type 0 where
  pub turns_done : ℕ
  pub shows : f ≡ face s (after_moves t s h (turns s.workers turns_done))
  pub legal : IsLegal s (after_moves t s h (turns s.workers turns_done))
  pub dropped : drops (after_moves t s h (turns s.workers turns_done)) ≡ drops h + skipped
  pub few : turns_done ≤ length (after_moves t s h (turns s.workers turns_done))

pub turned_none : (t : Table) (s : Shape) (h : History) (f : Face) → IsLegal s h → f ≡ face s h
    → Turned t s h f 0
turned_none t s h f l e = record {
  turns_done = 0;
  shows = e;
  legal = l;
  dropped = omega arith;
  few = omega arith;
}

module _ (t : Table) (s : Shape) (h : History) (f new : Face) (n m : ℕ)
    (was : Turned t s h f n) where
  abbrev h1 : History
  h1 = after_moves t s h (turns s.workers was.turns_done)

  next : after_moves t s h1 (below s.workers)
      ≡ after_moves t s h (turns s.workers (suc was.turns_done))
  next = sym (moved_append t s h (turns s.workers was.turns_done) (below s.workers))
      ∙ ap (after_moves t s h) (turns_last s.workers was.turns_done)

  -- a turn more
  pub turned_more : Done t s (after_moves t s h (turns s.workers was.turns_done))
      (below s.workers) new m true → Turned t s h new (n + m)
  turned_more turn = record {
    turns_done = suc was.turns_done;
    shows = turn.0 ∙ ap (face s) next;
    legal = subst (IsLegal s) next turn.1;
    dropped = ap (λ (x : History). drops x) (sym next) ∙ (let a = turn.2 in let b = was.dropped in
        omega (arith, a, b));
    few = (let a = turn.3 refl in let b = was.few in let c = ap (λ (x : History). length x) next in
        omega (arith, a, b, c));
  }

  -- a turn in which nobody had anything to do is the last that counts
  pub turned_over : 0 < s.workers
      → Done t s (after_moves t s h (turns s.workers was.turns_done)) (below s.workers) new m false
      → (new ≡ face s (after_moves t s h (turns s.workers (2 * piece_count s))))
      × IsLegal s (after_moves t s h (turns s.workers (2 * piece_count s)))
      × (drops (after_moves t s h (turns s.workers (2 * piece_count s))) ≡ drops h + (n + m))
      × AreSettled s (after_moves t s h (turns s.workers (2 * piece_count s))) s.classes
  turned_over some turn = subst (λ x. (new ≡ face s x) × IsLegal s x × (drops x ≡ drops h + (n + m))
      × AreSettled s x s.classes) (sym whole) (
        turn.0 ∙ ap (face s) stays,
        was.legal,
        (let a = turn.2 in let b = was.dropped in let c = ap (λ (x : History). drops x) stays in
            omega (arith, a, b, c)),
        all_settled s h1 was.legal (none_open s h1 was.legal all free),
      )
    where
      stays : after_moves t s h1 (below s.workers) ≡ h1
      stays = (turn.4 refl).0

      each : (w : ℕ) → w < s.workers → (claims h1 ≡ piece_count s) × (held_by w h1 ≡ None)
      each w lt =
          let l = length-below s.workers in
          subst (λ k. (claims h1 ≡ piece_count s) × (held_by k h1 ≡ None))
          (get_or-below s.workers w 0 lt) ((turn.4 refl).1 w 0 (omega (arith, l, lt)))

      all : claims h1 ≡ piece_count s
      all = (each 0 some).0

      free : (w : ℕ) → w < s.workers → held_by w h1 ≡ None
      free w lt = (each w lt).1

      rest : ℕ
      rest = 2 * piece_count s - was.turns_done

      sum : 2 * piece_count s ≡ was.turns_done + rest
      sum = let a = was.few in let b = events_few s h1 was.legal in omega (arith, a, b)

      whole : after_moves t s h (turns s.workers (2 * piece_count s)) ≡ h1
      whole = ap (λ k. after_moves t s h (turns s.workers k)) sum
          ∙ ap (after_moves t s h) (turns_sum s.workers was.turns_done rest)
          ∙ moved_append t s h (turns s.workers was.turns_done) (turns s.workers rest)
          ∙ over_moved t s h1 (turns s.workers rest) all free (all_turns s.workers rest)

-- the moves of a ledger under another name of its shape
pub played_on : (job : Parts) (t : Table) (s : Shape) (f new : Face) (g : History) (xs : List ℕ)
    (m : ℕ) (changed : Bool) → f.shape ≡ s → IsTableOf job t → IsLegal s g → f ≡ face s g
    → ((table : Table) (h : History) → IsTableOf job table → IsLegal f.shape h → f ≡ face f.shape h
    → Done table f.shape h xs new m changed) → Done t s g xs new m changed
played_on job t s f new g xs m changed e is l shows played =
    subst (λ (x : Shape). IsLegal x g → f ≡ face x g → Done t x g xs new m changed) e
    (played t g is) l shows

-- all turns have been made, and every class is settled
abbrev pub Over : Table → Shape → History → Face → ℕ → Type 0
Over t s h new n = (new ≡ face s (after_moves t s h (turns s.workers (2 * piece_count s))))
    × IsLegal s (after_moves t s h (turns s.workers (2 * piece_count s)))
    × (drops (after_moves t s h (turns s.workers (2 * piece_count s))) ≡ drops h + n)
    × AreSettled s (after_moves t s h (turns s.workers (2 * piece_count s))) s.classes

pub turned_on : (job : Parts) (t : Table) (s : Shape) (f new : Face) (g : History) (n : ℕ)
    → f.shape ≡ s → IsTableOf job t → IsLegal s g → f ≡ face s g
    → ((table : Table) (h : History) → IsTableOf job table → IsLegal f.shape h → f ≡ face f.shape h
    → Over table f.shape h new n) → Over t s g new n
turned_on job t s f new g n e is l shows over =
    subst (λ (x : Shape). IsLegal x g → f ≡ face x g → Over t x g new n) e (over t g is) l shows

-- a step, under another name of the shape
pub stepped : (job : Parts) (t : Table) (s : Shape) (f new : Face) (g : History) (w : ℕ)
    (r : Option Event) → f.shape ≡ s → BelongTogether job → IsShapeOf job s → IsTableOf job t
    → w < s.workers → IsLegal s g → f ≡ face s g
    → ((table : Table) (h : History) → IsTableOf job table → IsLegal f.shape h → f ≡ face f.shape h
    → (new ≡ face f.shape (move table f.shape h w))
    × (move table f.shape h w ≡ option_map_or (λ event. event ∷ h) r h))
    → (new ≡ face s (move t s g w)) × IsLegal s (move t s g w)
    × (move t s g w ≡ option_map_or (λ event. event ∷ g) r g)
stepped job t s f new g w r e b shape is among l shows step =
    let m = subst (λ (x : Shape). IsLegal x g → f ≡ face x g → (new ≡ face x (move t x g w))
    × (move t x g w ≡ option_map_or (λ event. event ∷ g) r g)) e (step t g is) l shows in
    (m.0, move_legal job t s g w b shape is l among, m.1)

pub not_drop : (e : Event) → ((x : ℕ) → e ≡ Event.Drop x → ⊥) → is_drop e ≡ false
not_drop (Event.Claim w) n = refl
not_drop (Event.Report w o) n = refl
not_drop (Event.Drop w) n = absurd (n w refl)

-- a job's pieces, and so the drops of its histories, are within the limit
pub pieces_few : (job : Parts) (s : Shape) → IsShapeOf job s → job_pieces job ≤ max_pieces
    → piece_count s ≤ max_pieces
pieces_few job s is few = subst (λ k. k * block_count s ≤ max_pieces) (sym is.classes)
    (subst (λ k. length job.classes.representative * blocks k ≤ max_pieces) (sym is.tests) few)

pub skipped_few : (job : Parts) (s : Shape) (h : History) (before n : ℕ) → IsShapeOf job s
    → job_pieces job ≤ max_pieces → IsLegal s h → drops h ≡ before + n → n ≤ max_pieces
skipped_few job s h before n is few l e =
    let a = drops_few s h l in
    let b = pieces_few job s is few in
    omega (arith, a, b, e)

-- the end of a schedule: the ledger shows its history
pub scheduled : (job : Parts) (t : Table) (s : Shape) (moves : List ℕ) (f second third : Face)
    (n m : ℕ) (changed : Bool) → IsTableOf job t → f ≡ face s []
    → ((table : Table) (h : History) → IsTableOf job table → IsLegal f.shape h → f ≡ face f.shape h
    → Done table f.shape h moves second n changed)
    → ((table : Table) (h : History) → IsTableOf job table → IsLegal second.shape h
    → second ≡ face second.shape h → Over table second.shape h third m)
    → (third ≡ face s (schedule_history t s moves)) × IsLegal s (schedule_history t s moves)
    × (drops (schedule_history t s moves) ≡ n + m)
    × AreSettled s (schedule_history t s moves) s.classes
scheduled job t s moves f second third n m changed is begins played turned =
    let a = played_on job t s f second [] moves n changed (ap (λ (x : Face). x.shape) begins) is tt
    begins played in
    let b = turned_on job t s second third (after_moves t s [] moves) m
    (ap (λ (x : Face). x.shape) a.0) is a.1 a.0 turned in
    subst (λ (h : History). (third ≡ face s h) × IsLegal s h × (drops h ≡ n + m)
    × AreSettled s h s.classes)
    (sym (moved_append t s [] moves (turns s.workers (2 * piece_count s))))
    (b.0, b.1, (let c = a.2 in let d = b.2 in omega (arith, c, d)), b.3)
