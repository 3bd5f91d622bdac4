-- What an overlay of wide words keeps as a signal differs, in more lanes or at all.
use Rattle.std.proofs.Common.{◌≡◌, ◌≢◌, ◌<◌, ◌≤◌, ℕ, zero, suc, ◌+◌, ◌-◌, refl, sym, ◌∙◌, ap, List}
use Rattle.std.proofs.Common.{[], ◌∷◌, ◌++◌, length, map, set, arith, inl, inr, ◌⊎◌, take}
use Rattle.std.{proofs.Common.length-append, specs.Prelude.{All, slice_index_or}}
use Rattle.std.proofs.{Math.Seq.get_or-append_seam, lemmas.Bool.{cases_eq, cases_lt}}
use Rattle.std.proofs.lemmas.List.{get_or-map, get_or-set_other, get_or-set_same}
use Rattle.std.proofs.lemmas.List.{get_or_append_left, length-set}
use Rattle.std.proofs.lemmas.List.Elements.{All-append, All-cons, All-nil}
use Rattle.wide_words.specs.{Wide.number, WideOverlay.{IsWideOverlay, number_at, overlaid}}
use Rattle.wide_words.specs.declared.wide.Wide.{Wide}
use Rattle.wide_words.proofs.Zeros.{index_zero, one_less, zero_counted, zeros_all}

-- ---- the number of the word at a place
number_kept : (words : List Wide) (w : Wide) (p : ℕ) → p < length words
    → number_at (words ++ w ∷ []) p ≡ number_at words p
number_kept [] w p lt = absurd (omega (arith, lt))
number_kept (v ∷ words) w zero lt = refl
number_kept (v ∷ words) w (suc p) lt = number_kept words w p (omega (arith, lt))

number_new : (words : List Wide) (w : Wide) → number_at (words ++ w ∷ []) (length words) ≡ number w
number_new [] w = refl
number_new (v ∷ words) w = number_new words w

number_same : (words : List Wide) (w : Wide) (p : ℕ) → p < length words
    → number_at (set words p w) p ≡ number w
number_same [] w p lt = absurd (omega (arith, lt))
number_same (v ∷ words) w zero lt = refl
number_same (v ∷ words) w (suc p) lt = number_same words w p (omega (arith, lt))

number_other : (words : List Wide) (w : Wide) (p q : ℕ) → q ≢ p
    → number_at (set words p w) q ≡ number_at words q
number_other [] w p q ne = refl
number_other (v ∷ words) w zero zero ne = absurd (ne refl)
number_other (v ∷ words) w zero (suc q) ne = refl
number_other (v ∷ words) w (suc p) zero ne = refl
number_other (v ∷ words) w (suc p) (suc q) ne = number_other words w p q (λ e. ne (ap suc e))

-- what is read at a place within has this number
pub number_read : (words : List Wide) (p : ℕ) (w : Wide) → p < length words
    → w ≡ slice_index_or words p w → number w ≡ number_at words p
number_read [] p w lt e = absurd (omega (arith, lt))
number_read (v ∷ words) zero w lt e = ap number e
number_read (v ∷ words) (suc p) w lt e = number_read words p w (omega (arith, lt)) e

pub number_first : (words : List Wide) → number_at (take 1 words) 0 ≡ number_at words 0
number_first [] = refl
number_first (w ∷ words) = refl

-- ---- lists that differ at one place
mapped_all : (f h : ℕ → ℕ) (old new : List ℕ) → length new ≡ length old
    → ((t : ℕ) → t < length old → h (slice_index_or new t 0) ≡ f (slice_index_or old t 0))
    → map h new ≡ map f old
mapped_all f h [] [] same all = refl
mapped_all f h [] (y ∷ new) same all = absurd (omega (arith, same))
mapped_all f h (x ∷ old) [] same all = absurd (omega (arith, same))
mapped_all f h (x ∷ old) (y ∷ new) same all = ap (λ n. n ∷ map h new) (all 0 (omega arith))
    ∙ ap (λ l. f x ∷ l)
    (mapped_all f h old new (omega (arith, same)) (λ t lt. all (suc t) (omega (arith, lt))))

mapped_one : (f h : ℕ → ℕ) (old new : List ℕ) (s v : ℕ) → length new ≡ length old
    → s < length old → h (slice_index_or new s 0) ≡ v → ((t : ℕ) → t < length old → t ≢ s
    → h (slice_index_or new t 0) ≡ f (slice_index_or old t 0)) → map h new ≡ set (map f old) s v
mapped_one f h [] new s v same lt here all = absurd (omega (arith, lt))
mapped_one f h (x ∷ old) [] s v same lt here all = absurd (omega (arith, same))
mapped_one f h (x ∷ old) (y ∷ new) zero v same lt here all = ap (λ n. n ∷ map h new) here
    ∙ ap (λ l. v ∷ l) (mapped_all f h old new (omega (arith, same))
    (λ t below. all (suc t) (omega (arith, below)) (omega arith)))
mapped_one f h (x ∷ old) (y ∷ new) (suc s) v same lt here all =
    ap (λ n. n ∷ map h new) (all 0 (omega arith) (omega arith))
    ∙ ap (λ l. f x ∷ l) (mapped_one f h old new s v (omega (arith, same)) (omega (arith, lt)) here
    (λ t below ne. all (suc t) (omega (arith, below)) (omega (arith, ne))))

pub length_overlaid : (words : List Wide) (index : List ℕ)
    → length (overlaid words index) ≡ length index
length_overlaid words [] = refl
length_overlaid words (p ∷ index) = ap suc (length_overlaid words index)

-- ---- an overlay
module _ (words : List Wide) (index changed : List ℕ) (most listed : ℕ)
    (o : IsWideOverlay words index changed most listed) where
  pub at_signal : (s : ℕ) → s < length index
      → slice_index_or (overlaid words index) s 0 ≡ number_at words (slice_index_or index s 0)
  at_signal s lt = get_or-map (number_at words) index s 0 0 lt

  pub place_none : (s : ℕ) → s < length index → slice_index_or (overlaid words index) s 0 ≡ 0
      → slice_index_or index s 0 ≡ 0
  place_none s lt e = go (cases_eq (slice_index_or index s 0) 0)
    where
      go : (slice_index_or index s 0 ≡ 0) ⊎ (slice_index_or index s 0 ≢ 0)
          → slice_index_or index s 0 ≡ 0
      go (inl same) = same
      go (inr ne) = absurd (o.differs (slice_index_or index s 0) (omega (arith, ne)) (o.within s)
          (sym (at_signal s lt) ∙ e))

  pub place_some : (s : ℕ) → s < length index → slice_index_or (overlaid words index) s 0 ≢ 0
      → slice_index_or index s 0 ≢ 0
  place_some s lt ne e = ne (at_signal s lt ∙ (ap (number_at words) e ∙ o.none))

  -- a place of the list is that of one signal alone
  own_place : (s t : ℕ) → slice_index_or index s 0 ≢ 0
      → slice_index_or index t 0 ≡ slice_index_or index s 0 → t ≡ s
  own_place s t ne e = sym (o.back t (λ z. ne (sym e ∙ z)))
      ∙ (ap (λ p. slice_index_or changed (p - 1) 0) e ∙ o.back s ne)

  -- ---- there is room for one more
  module _ (s : ℕ) (lt : s < length index) (idle : slice_index_or index s 0 ≡ 0) where
    pub room_words : length words ≤ length index
    room_words = let some = zero_counted index s lt idle in omega (arith, some, o.counted)

    module _ (w : Wide) (some : number w ≢ 0) where
      abbrev next : List ℕ
      next = set index s (length words)

      here : slice_index_or next s 0 ≡ length words
      here = get_or-set_same index s (length words) 0 lt

      elsewhere : (t : ℕ) → t ≢ s → slice_index_or next t 0 ≡ slice_index_or index t 0
      elsewhere t ne = get_or-set_other index s t (length words) 0 ne

      long : length next ≡ length index
      long = length-set index s (length words)

      more : length (words ++ w ∷ []) ≡ length words + 1
      more = length-append words (w ∷ [])

      pub change_view : overlaid (words ++ w ∷ []) next ≡ set (overlaid words index) s (number w)
      change_view = mapped_one (number_at words) (number_at (words ++ w ∷ [])) index next s (number
          w) long lt (ap (number_at (words ++ w ∷ [])) here ∙ number_new words w)
          (λ t below ne. ap (number_at (words ++ w ∷ [])) (elsewhere t ne)
          ∙ number_kept words w (slice_index_or index t 0) (o.within t))

      within : (t : ℕ) → slice_index_or next t 0 < length (words ++ w ∷ [])
      within t = go (cases_eq t s)
        where
          go : (t ≡ s) ⊎ (t ≢ s) → slice_index_or next t 0 < length (words ++ w ∷ [])
          go (inl e) =
              let at = ap (λ x. slice_index_or next x 0) e ∙ here in omega (arith, at, more)
          go (inr ne) =
              let at = elsewhere t ne in
              let below = o.within t in omega (arith, at, below, more)

      differs : (p : ℕ) → 0 < p → p < length (words ++ w ∷ []) → number_at (words ++ w ∷ []) p ≢ 0
      differs p up below = go (cases_lt p (length words))
        where
          go : (p < length words) ⊎ (length words ≤ p) → number_at (words ++ w ∷ []) p ≢ 0
          go (inl old) e = o.differs p up old (sym (number_kept words w p old) ∙ e)
          go (inr new) e =
              let last : length words ≡ p = omega (arith, new, below, more) in
              some (sym (number_new words w) ∙ (ap (number_at (words ++ w ∷ [])) last ∙ e))

      back : (t : ℕ) → slice_index_or next t 0 ≢ 0
          → slice_index_or (changed ++ s ∷ []) (slice_index_or next t 0 - 1) 0 ≡ t
      back t ne = go (cases_eq t s)
        where
          go : (t ≡ s) ⊎ (t ≢ s)
              → slice_index_or (changed ++ s ∷ []) (slice_index_or next t 0 - 1) 0 ≡ t
          go (inl e) =
              let at : slice_index_or next t 0 ≡ length words =
              ap (λ x. slice_index_or next x 0) e ∙ here in
              let last : slice_index_or next t 0 - 1 ≡ length changed = omega (arith, at, o.many) in
              ap (λ x. slice_index_or (changed ++ s ∷ []) x 0) last
              ∙ (get_or-append_seam changed s [] 0 ∙ sym e)
          go (inr other) =
              let at = elsewhere t other in
              let old : slice_index_or index t 0 ≢ 0 = λ z. ne (at ∙ z) in
              let below = o.within t in
              let before : slice_index_or index t 0 - 1 < length changed = omega
              (arith, below, o.many, old) in
              ap (λ x. slice_index_or (changed ++ s ∷ []) (x - 1) 0) at
              ∙ (get_or_append_left changed (s ∷ []) 0 (slice_index_or index t 0 - 1) before
              ∙ o.back t old)

      pub changed_more : IsWideOverlay (words ++ w ∷ []) next (changed ++ s ∷ []) most listed
      changed_more = record {
        none = number_kept words w 0 (let below = o.within s in omega (arith, below)) ∙ o.none;
        differs = differs;
        counted = (let below = o.within s in
            let less = one_less index s (length words) lt idle (omega (arith, below)) in
            omega (arith, less, long, more, o.counted));
        within = within;
        back = back;
        many = (let l = length-append changed (s ∷ []) in omega (arith, l, more, o.many));
        signals = All-append (λ x. x < length next) changed (s ∷ [])
            (λ k d below. let h = o.signals k d below in omega (arith, h, long))
            (All-cons (λ x. x < length next) s [] (omega (arith, lt, long))
            (All-nil (λ x. x < length next)));
        room = omega (arith, long, o.room);
        named = omega (arith, long, o.named);
        few = omega (arith, long, o.few);
      }

  -- ---- a word in place of another
  module _ (s : ℕ) (lt : s < length index) (ne : slice_index_or index s 0 ≢ 0) (w : Wide)
      (some : number w ≢ 0) where
    abbrev place : ℕ
    place = slice_index_or index s 0

    abbrev put : List Wide
    put = set words place w

    kept : length put ≡ length words
    kept = length-set words place w

    pub join_view : overlaid put index ≡ set (overlaid words index) s (number w)
    join_view = mapped_one (number_at words) (number_at put) index index s (number w) refl lt
        (number_same words w place (o.within s))
        (λ t below other. number_other words w place (slice_index_or index t 0)
        (λ e. other (own_place s t ne e)))

    all_differ : (p : ℕ) → 0 < p → p < length put → number_at put p ≢ 0
    all_differ p up below = go (cases_eq p place)
      where
        go : (p ≡ place) ⊎ (p ≢ place) → number_at put p ≢ 0
        go (inl e) z = some (sym (number_same words w place (o.within s))
            ∙ (ap (number_at put) (sym e) ∙ z))
        go (inr other) z = o.differs p up (omega (arith, below, kept))
            (sym (number_other words w place p other) ∙ z)

    pub joined_place : IsWideOverlay put index changed most listed
    joined_place = record {
      none = number_other words w place 0 (λ e. ne (sym e)) ∙ o.none;
      differs = all_differ;
      counted = omega (arith, kept, o.counted);
      within = λ t. let h = o.within t in omega (arith, h, kept);
      back = o.back;
      many = omega (arith, kept, o.many);
      signals = o.signals;
      room = o.room;
      named = o.named;
      few = o.few;
    }

  module _ (idle : List ℕ) (same : length idle ≡ length index) (all_idle : All (λ p. p
      ≡ 0) idle) where
    first_alone : length (take 1 words) ≡ 1
    first_alone = go words (let below = o.within 0 in omega (arith, below))
      where
        go : (ws : List Wide) → 0 < length ws → length (take 1 ws) ≡ 1
        go [] lt = absurd (omega (arith, lt))
        go (v ∷ ws) lt = refl

    pub cleared : IsWideOverlay (take 1 words) idle [] most listed
    cleared = record {
      none = number_first words ∙ o.none;
      differs = λ p up below. absurd (omega (arith, up, below, first_alone));
      counted = (let all = zeros_all idle all_idle in omega (arith, all, first_alone));
      within = λ s. let at = index_zero idle s all_idle in omega (arith, at, first_alone);
      back = λ s ne. absurd (ne (index_zero idle s all_idle));
      many = sym first_alone;
      signals = All-nil (λ x. x < length idle);
      room = omega (arith, same, o.room);
      named = omega (arith, same, o.named);
      few = omega (arith, same, o.few);
    }

-- a signal whose place is 0 has no lane
pub none_overlaid : (words : List Wide) (idle : List ℕ) → number_at words 0 ≡ 0
    → All (λ p. p ≡ 0) idle → All (λ n. n ≡ 0) (overlaid words idle)
none_overlaid words [] none idle_all = All-nil (λ n. n ≡ 0)
none_overlaid words (p ∷ idle) none idle_all =
    All-cons (λ n. n ≡ 0) (number_at words p) (overlaid words idle)
    (ap (number_at words) (idle_all 0 0 (omega arith)) ∙ none)
    (none_overlaid words idle none (λ k d lt. idle_all (suc k) d (omega (arith, lt))))
