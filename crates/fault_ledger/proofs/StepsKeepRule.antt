-- Claims, reports and drops keep the rule.
use Rattle.std.proofs.Common.{◌≡◌, ◌≢◌, ℕ, ◌+◌, ◌^◌, ◌%◌, ◌<◌, ◌≤◌, inl, inr, min, Bool, true}
use Rattle.std.proofs.Common.{false, if◌then◌else◌, eqb, List, [], ◌∷◌, ◌++◌, set, length}
use Rattle.std.proofs.Common.{slice_index, bit_or, Some, None, refl, sym, ap, ◌∙◌, subst, arith}
use Rattle.std.proofs.Common.{eq-eqb, length-set, get_or-set_other, get_or-set_same, mod-eq_of_lt}
use Rattle.std.proofs.{Math.Nat.{min-eq_left, min-eq_right}, lemmas.Bool.ltb-true}
use native.Mathlib.Decide.{dec_lt, ℕ_discrete}
use mathlib.Core.{Option.{some, none}, Logic.dite}
use lib.ListN.{get_elem?}
use Rattle.atomic_table.specs.Table.{State, Me, step, Act, keeps, Valid, stepped, carried_after}
use Rattle.atomic_table.specs.Table.{Allows}
use Rattle.patterns.specs.{declared.Outcome.Outcome, Tests.{size_of, max_pieces}}
use Rattle.patterns.specs.declared.Outcome.TheVariants as outcome
use Rattle.fault_ledger.specs.declared.{Shape.Shape, PieceState.PieceState, Event.Event}
use Rattle.fault_ledger.specs.{declared.words.View.View, History.{held_by, holds, entry}}
use Rattle.fault_ledger.specs.History.{History, piece_count, block_of, worker_of, state_of, claims}
use Rattle.fault_ledger.specs.Answer.{fits_size, has_earlier_hit, events_of, after, call_of}
use Rattle.fault_ledger.specs.Words.{code_of, field, field_in, in_field, word_with, total, times}
use Rattle.fault_ledger.specs.Words.{exhausted_of, ForEach, Knows, IsKeptBy, IsKept, one, post}
use Rattle.fault_ledger.{specs.Words.{Claims, Reports, Drops}, proofs.Histories.goes_on_same}
use Rattle.fault_ledger.proofs.Histories.{held_goes_on, held-holds, held_open, holds-not}
use Rattle.fault_ledger.proofs.SumsOverViews.{total-two, total-mono, exhausted-length, times-none}
use Rattle.fault_ledger.proofs.{SumsOverViews.{for_each, set_known}, ShapeLimits.shape_small}
use Rattle.fault_ledger.proofs.Acceptance.{claim_answer, report_answer, drop_answer, hit_goes_on}
use Rattle.fault_ledger.proofs.{LoadsKeepRule.{same_total, look_keeps}, WordFields.marked_cursor}
use Rattle.fault_ledger.proofs.WordFields.{sum_is_or, marked_words, marked_here, marked_else}
use Rattle.fault_ledger.specs.declared.PieceState.TheVariants as state
use Rattle.fault_ledger.specs.declared.Call.TheVariants as call

-- the condition of `Allows` at one state
abbrev Goes : {S : Type 0} → Shape → State S View → ℕ → Me S View → ℕ → (ℕ → ℕ)
    → (ℕ → Me S View → Type 0) → Type 0
Goes {S} s t id me i f after_it = (w : View) × (a : Act S) × Valid t.homes me.1 a
    × IsKept s (stepped t i (f (slice_index t.words i)) id me.1 w a)
    × after_it (slice_index t.words i) (w, carried_after me.1 a)

-- the workers of another view are others
others_apart : (s : Shape) (views : List View) (id j w : ℕ) (exhausted : Bool) (seen : History)
    (u : View) → ((x : ℕ) → total (λ v. times x v.posts) views ≤ 1)
    → get_elem? views id ≡ some (one s w exhausted seen) → j ≢ id → get_elem? views j ≡ some u
    → ForEach (λ p. p.worker ≢ w) u.posts
others_apart s views id j w exhausted seen u apart at n there =
    let two = total-two (λ v. times w v.posts) views id j (one s w exhausted seen) u
    (λ e. n (sym e)) at there in
    let here : eqb w w ≡ true = eq-eqb w w refl in
    let once : times w (one s w exhausted seen).posts ≡ 1 =
    ap (λ b. (if b then 1 else 0) + 0) here in
    let most = apart w in
    times-none w u.posts (omega arith)

-- an event of one worker is news to the others
others_know : (s : Shape) (h : History) (e : Event) (u : View)
    → ForEach (λ p. p.worker ≢ worker_of e) u.posts → ForEach (Knows s h u.shape) u.posts
    → ForEach (Knows s (e ∷ h) u.shape) u.posts
others_know s h e u =
    for_each (λ p. p.worker ≢ worker_of e) (Knows s h u.shape) (Knows s (e ∷ h) u.shape) u.posts
    (λ p a k. record {
      same = k.same;
      among = k.among;
      newer = (e ∷ k.newer.0, ap (λ l. e ∷ l) k.newer.1, ((λ q. a (sym q)), k.newer.2));
      done = k.done;
    })

exhausted_total : (s : Shape) (h : History) (words : List ℕ) (views : List View)
    → IsKeptBy s h words views → total (λ v. exhausted_of v.posts) views ≤ s.workers
exhausted_total s h words views kept =
    let a =
    total-mono (λ v. exhausted_of v.posts) (λ v. length v.posts) views (λ v. exhausted-length
    v.posts) in
    let b = kept.staffed in
    omega arith

off : (b : Bool) → b ≡ false → b ≡ true → ⊥
off b x y = absurd (cc)

-- at a state that keeps the rule, a view of one worker
module _ (s : Shape) (h : History) (words : List ℕ) (views : List View)
    (kept : IsKeptBy s h words views) (id w : ℕ) (exhausted : Bool) (seen : History)
    (at : get_elem? views id ≡ some (one s w exhausted seen)) where
  knows : Knows s h s (post w exhausted seen)
  knows = (kept.known id (one s w exhausted seen) at).0

  -- the rule after one event of the worker
  event_keeps : exhausted ≡ false → (e : Event) (now : List ℕ) → worker_of e ≡ w
      → after s h (call_of e) ≡ e ∷ h → length now ≡ length words
      → ((p : ℕ) → p < piece_count s → field_in now p ≡ code_of (entry p (e ∷ h)))
      → claims (e ∷ h) ≡ min (slice_index now 0) (piece_count s)
      → slice_index now 0 ≤ piece_count s + total (λ v. exhausted_of v.posts) views
      → IsKeptBy s (e ∷ h) now (set views id (one s w exhausted (e ∷ h)))
  event_keeps untold e now by accepts len marked counted bounded =
      let v = one s w exhausted seen in
      let w' = one s w exhausted (e ∷ h) in
      record {
        limits = kept.limits;
        legal = (accepts, kept.legal);
        sized = len ∙ kept.sized;
        marked = marked;
        counted = counted;
        bounded = (let t = same_total (λ v. exhausted_of v.posts) views id v w' at refl in omega
            arith);
        staffed = (let t = same_total (λ v. length v.posts) views id v w' at refl in
            let k = kept.staffed in omega arith);
        apart = (λ x. let t = same_total (λ v. times x v.posts) views id v w' at refl in
            let k = kept.apart x in omega arith);
        known = set_known s (e ∷ h) views id w'
            (λ j u n there. others_know s h e u (subst (λ x. ForEach (λ p. p.worker ≢ x) u.posts)
            (sym by) (others_apart s views id j w exhausted seen u kept.apart at n there))
            (kept.known j u there)) (
              record {
                same = refl;
                among = knows.among;
                newer = goes_on_same w (e ∷ h);
                done = λ t. absurd (off exhausted untold t);
              },
              tt,
            );
      }

  held_still : held_by w h ≡ held_by w seen
  held_still = held_goes_on w h seen knows.newer

  -- a worker that holds a piece has not got Exhausted
  holder_untold : (p : ℕ) → held_by w seen ≡ Some p → exhausted ≡ false
  holder_untold p holds = go exhausted refl
    where
      go : (b : Bool) → exhausted ≡ b → exhausted ≡ false
      go true t = let x = (knows.done t).0 in absurd (cc)
      go false t = t

next-small : (n : ℕ) → n ≤ max_pieces + 64 → (n + 1) % 2 ^ 64 ≡ n + 1
next-small n l = mod-eq_of_lt (omega arith)

-- a claim
module _ {S : Type 0} (s : Shape) (slots id w : ℕ) (seen : History) (out : List (ℕ × S))
    (free : held_by w seen ≡ None) where
  abbrev me : Me S View
  me = (one s w false seen, out)

  claims_more : (t : State S View) (h : History) → IsKeptBy s h t.words t.views
      → get_elem? t.views id ≡ some me.0 → slice_index t.words 0 < piece_count s
      → Goes s t id me 0 (λ n. (n + 1) % 2 ^ 64) (Claims (step slots 0 1 0 none) me)
  claims_more t h kept at below =
      let n = slice_index t.words 0 in
      let small = shape_small s kept.limits in
      let mine = knows s h t.words t.views kept id w false seen at in
      let next : (n + 1) % 2 ^ 64 ≡ n + 1 = next-small n (omega arith) in
      let e = Event.Claim w in
      let counted : claims h ≡ n = kept.counted ∙ min-eq_left (omega arith) in
      let accepts : after s h (call.Claim w) ≡ e ∷ h =
      ap (λ r. events_of (call.Claim w) r ++ h) (claim_answer s h w mine.among
      (held_still s h t.words t.views kept id w false seen at ∙ free) (omega arith)) in
      let now = set t.words 0 ((n + 1) % 2 ^ 64) in
      let sized = kept.sized in
      let first : slice_index now 0 ≡ n + 1 =
      get_or-set_same t.words 0 ((n + 1) % 2 ^ 64) 0 (omega arith) ∙ next in (
        one s w false (e ∷ h),
        keeps,
        tt,
        (
          e ∷ h,
          event_keeps s h t.words t.views kept id w false seen at refl e now refl accepts
              (length-set t.words 0 ((n + 1) % 2 ^ 64))
              (λ p l. ap (λ x. field x (p % 8)) (get_or-set_other t.words 0 (word_with p)
              ((n + 1) % 2 ^ 64) 0 (λ q. absurd (omega arith))) ∙ kept.marked p l)
              (ap (λ k. k + 1) counted ∙ sym first ∙ sym (min-eq_left (omega arith))) (omega arith),
        ),
        (refl, (h, mine.newer, inl (below, counted, (accepts, kept.legal), refl))),
      )

  claims_none : (t : State S View) (h : History) → IsKeptBy s h t.words t.views
      → get_elem? t.views id ≡ some me.0 → piece_count s ≤ slice_index t.words 0
      → Goes s t id me 0 (λ n. (n + 1) % 2 ^ 64) (Claims (step slots 0 1 0 none) me)
  claims_none t h kept at above =
      let n = slice_index t.words 0 in
      let small = shape_small s kept.limits in
      let bounded = kept.bounded in
      let exhausted = exhausted_total s h t.words t.views kept in
      let mine = knows s h t.words t.views kept id w false seen at in
      let next : (n + 1) % 2 ^ 64 ≡ n + 1 = next-small n (omega arith) in
      let counted : claims h ≡ piece_count s = kept.counted ∙ min-eq_right (omega arith) in
      let now = set t.words 0 ((n + 1) % 2 ^ 64) in
      let sized = kept.sized in
      let first : slice_index now 0 ≡ n + 1 =
      get_or-set_same t.words 0 ((n + 1) % 2 ^ 64) 0 (omega arith) ∙ next in (
        one s w true h,
        keeps,
        tt,
        (
          h,
          look_keeps s h t.words t.views kept id me.0 at (post w true h ∷ []) now
              (length-set t.words 0 ((n + 1) % 2 ^ 64))
              (λ p l. ap (λ x. field x (p % 8)) (get_or-set_other t.words 0 (word_with p)
              ((n + 1) % 2 ^ 64) 0 (λ q. absurd (omega arith))) ∙ kept.marked p l)
              (counted ∙ sym (min-eq_right (omega arith))) (omega arith) refl (λ x. refl) (
                record {
                  same = refl;
                  among = mine.among;
                  newer = goes_on_same w h;
                  done = λ _.
                      (held_still s h t.words t.views kept id w false seen at ∙ free, counted);
                },
                tt,
              ),
        ),
        (refl, (h, mine.newer, inr (above, counted, kept.legal, refl))),
      )

  pub claims_allowed : Allows (IsKept s) slots id me 0 (λ n. (n + 1) % 2 ^ 64)
      (Claims (step slots 0 1 0 none) me)
  claims_allowed t kept homes at fits = dite (dec_lt (slice_index t.words 0) (piece_count s))
      (λ below. claims_more t kept.0 kept.1 at below)
      (λ n. claims_none t kept.0 kept.1 at (omega arith))

-- the words after the field of a held piece, which was 0, was set by an `or`
made : (p q : ℕ) (h : History) (w : ℕ) (words : List ℕ) (x now : PieceState) → held_by w h ≡ Some p
    → word_with p < length words → code_of x < 256
    → field_in words p ≡ code_of (entry p h) → field_in words q ≡ code_of (entry q h)
    → now ≡ (if holds w q h then x else entry q h)
    → field_in (marked_words words p (code_of x)) q ≡ code_of now
made p q h w words x now here long small mine was is = dite (ℕ_discrete p q)
    (λ e. let same : now ≡ x = is
    ∙ ap (λ b. if b then x else entry q h) (held-holds w q h (here ∙ ap Some e)) in
    subst (λ n. field_in (marked_words words p (code_of x)) n ≡ code_of now) e (marked_here words p
    (code_of x) long small (mine ∙ ap code_of (held_open w p h here)) ∙ ap code_of (sym same)))
    (λ n. let same : now ≡ entry q h = is ∙ ap (λ b. if b then x else entry q h)
    (holds-not w q h (λ f. n (let r : Some p ≡ Some q = sym here ∙ f in cc))) in
    marked_else words p q (code_of x) long small n ∙ was ∙ ap code_of (sym same))

-- the field of an outcome of a block has eight bits
fits_small : (o : Outcome) (size : ℕ) → fits_size size o ≡ true → size ≤ 64
    → code_of (state_of o) < 256
fits_small outcome.Clear size fits l = omega arith
fits_small (outcome.Hit k) size fits l = let a = ltb-true k size fits in omega arith

-- a report or a drop of the piece that a worker holds
module _ {S : Type 0} (s : Shape) (slots id w p : ℕ) (exhausted : Bool) (seen : History)
    (out : List (ℕ × S)) (holding : held_by w seen ≡ Some p) where
  abbrev me' : Me S View
  me' = (one s w exhausted seen, out)

  settles : (e : Event) (x : PieceState) (t : State S View) (h : History)
      (kept : IsKeptBy s h t.words t.views) → get_elem? t.views id ≡ some me'.0 → worker_of e ≡ w
      → after s h (call_of e) ≡ e ∷ h → claims (e ∷ h) ≡ claims h
      → ((q : ℕ) → entry q (e ∷ h) ≡ (if holds w q h then x else entry q h)) → p < piece_count s
      → code_of x < 256 → IsKeptBy s (e ∷ h) (marked_words t.words p (code_of x))
      (set t.views id (one s w exhausted (e ∷ h)))
  settles e x t h kept at by accepts same entries below small =
      let now = marked_words t.words p (code_of x) in
      let here : held_by w h ≡ Some p = held_still s h t.words t.views kept id w exhausted seen at
      ∙ holding in
      let sized = kept.sized in
      let first : slice_index now 0 ≡ slice_index t.words 0 = marked_cursor t.words p (code_of x) in
      event_keeps s h t.words t.views kept id w exhausted seen at
      (holder_untold s h t.words t.views kept id w exhausted seen at p holding) e now by accepts
      (length-set t.words (word_with p)
      (bit_or (slice_index t.words (word_with p)) (in_field p (code_of x))))
      (λ q l. made p q h w t.words x (entry q (e ∷ h)) here (omega arith) small
      (kept.marked p below) (kept.marked q l) (entries q))
      (same ∙ kept.counted ∙ ap (λ n. min n (piece_count s)) (sym first))
      (let b = kept.bounded in omega arith)

  -- to set the bits of the field of the piece that is held is to add them, since it was 0
  by_sum : (c : ℕ) (T : ℕ → Me S View → Type 0) → p < piece_count s → c < 256
      → Allows (IsKept s) slots id me' (word_with p) (λ n. bit_or n (in_field p c)) T
      → Allows (IsKept s) slots id me' (word_with p) (λ n. (n + in_field p c) % 2 ^ 64) T
  by_sum c T below small allowed t kept homes at lt =
      let h = kept.0 in
      let n = slice_index t.words (word_with p) in
      let here : held_by w h ≡ Some p = held_still s h t.words t.views kept.1 id w exhausted seen at
      ∙ holding in
      let free : field n (p % 8) ≡ 0 = kept.1.marked p below ∙ ap code_of (held_open w p h here) in
      subst (λ m. (v : View) × (a : Act S) × Valid t.homes me'.1 a
      × IsKept s (stepped t (word_with p) m id me'.1 v a) × T n (v, carried_after me'.1 a))
      (sym (sum_is_or n p c lt small free)) (allowed t kept homes at lt)

  reports_by_or : (o : Outcome) → p < piece_count s
      → fits_size (size_of s.tests (block_of s p)) o ≡ true
      → Allows (IsKept s) slots id me' (word_with p)
      (λ n. bit_or n (in_field p (code_of (state_of o))))
      (Reports (step slots (word_with p) (in_field p (code_of (state_of o))) 0 none) me')
  reports_by_or o below fits t kept homes at lt =
      let h = kept.0 in
      let e = Event.Report w o in
      let mine = knows s h t.words t.views kept.1 id w exhausted seen at in
      let here : held_by w h ≡ Some p = held_still s h t.words t.views kept.1 id w exhausted seen at
      ∙ holding in
      let accepts : after s h (call.Report w o) ≡ e ∷ h =
      ap (λ r. events_of (call.Report w o) r ++ h)
      (report_answer s h w p o mine.among here fits) in (
        one s w exhausted (e ∷ h),
        keeps,
        tt,
        (
          e ∷ h,
          settles e (state_of o) t h kept.1 at refl accepts refl (λ q. refl) below
              (fits_small o (size_of s.tests (block_of s p)) fits (omega arith)),
        ),
        (
          refl,
          (
            o,
            (λ q e. ap (λ j. in_field j (code_of (state_of o))) (let r : Some p
                ≡ Some q = sym holding ∙ e in cc)),
            (h, mine.newer, (accepts, kept.1.legal), refl),
          ),
        ),
      )

  drops_by_or : p < piece_count s → has_earlier_hit s seen p ≡ true
      → Allows (IsKept s) slots id me' (word_with p) (λ n. bit_or n (in_field p 2))
      (Drops (step slots (word_with p) (in_field p 2) 0 none) me')
  drops_by_or below hit t kept homes at lt =
      let h = kept.0 in
      let e = Event.Drop w in
      let mine = knows s h t.words t.views kept.1 id w exhausted seen at in
      let here : held_by w h ≡ Some p = held_still s h t.words t.views kept.1 id w exhausted seen at
      ∙ holding in
      let accepts : after s h (call.Drop w) ≡ e ∷ h = ap (λ r. events_of (call.Drop w) r ++ h)
      (drop_answer s h w p mine.among here (hit_goes_on s w p h seen mine.newer hit)) in (
        one s w exhausted (e ∷ h),
        keeps,
        tt,
        (
          e ∷ h,
          settles e state.Skipped t h kept.1 at refl accepts refl (λ q. refl) below (omega arith),
        ),
        (refl, (h, mine.newer, (accepts, kept.1.legal), refl)),
      )

  pub reports_allowed : (o : Outcome) → p < piece_count s
      → fits_size (size_of s.tests (block_of s p)) o ≡ true
      → Allows (IsKept s) slots id me' (word_with p)
      (λ n. (n + in_field p (code_of (state_of o))) % 2 ^ 64)
      (Reports (step slots (word_with p) (in_field p (code_of (state_of o))) 0 none) me')
  reports_allowed o below fits = by_sum (code_of (state_of o))
      (Reports (step slots (word_with p) (in_field p (code_of (state_of o))) 0 none) me') below
      (fits_small o (size_of s.tests (block_of s p)) fits (omega arith))
      (reports_by_or o below fits)

  pub drops_allowed : p < piece_count s → has_earlier_hit s seen p ≡ true
      → Allows (IsKept s) slots id me' (word_with p) (λ n. (n + in_field p 2) % 2 ^ 64)
      (Drops (step slots (word_with p) (in_field p 2) 0 none) me')
  drops_allowed below hit = by_sum 2 (Drops (step slots (word_with p) (in_field p 2) 0 none) me')
      below (omega arith) (drops_by_or below hit)
