-- Known wide words, found by the places of signals.
use Rattle.std.proofs.Common.{◌≡◌, ◌≢◌, ◌<◌, ◌≤◌, ◌+◌, ◌==◌, ℕ, zero, suc, refl, sym, ◌∙◌, ap, Bool}
use Rattle.std.proofs.Common.{true, false, List, [], ◌∷◌, ◌++◌, length, set, arith, eqb, eq-eqb}
use Rattle.std.proofs.Common.{eqb-true, inl, inr, ◌⊎◌, get_or, length-append}
use Rattle.std.specs.Prelude.{Option, Some, None, slice_get, slice_index_or, if◌then◌else◌, map}
use Rattle.std.specs.{Prelude.unwrap_or, List.{enumerate_from, list_any}}
use Rattle.std.proofs.lemmas.{Bool.{cases_eq, cases_lt}, List.{length-map, length-set}}
use Rattle.std.proofs.lemmas.{List.FromFn.length-enumerate_from, Map.Keys.IsDistinct-from_apart}
use Rattle.std.proofs.lemmas.Map.Steps.{length-le_from_distinct_below}
use Rattle.std.proofs.lemmas.Option.{slice_get-get_or, slice_get_past, slice_get_within}
use Rattle.list_lemmas.proofs.{Members.{among, some_passes}, Places.{from_mapped, placed}}
use Rattle.region_sim.specs.KnownWide.{AreKnownAt, known_wide, word_at, word_of}
use Rattle.region_sim.specs.declared.known_wide.KnownWord.{KnownWord}
pub use Rattle.std.proofs.lemmas.Option.{same_Some as same_some}
use Rattle.flat_circuit.proofs.Public.{set_there as got_other, set_here as got_same}

got_before : {X : Type 0} (xs : List X) (i : ℕ) (x : X) → i < length xs
    → slice_get (xs ++ x ∷ []) i ≡ slice_get xs i
got_before [] i x lt = absurd (omega (arith, lt))
got_before (y ∷ xs) zero x lt = refl
got_before (y ∷ xs) (suc i) x lt = got_before xs i x (omega (arith, lt))

got_last : {X : Type 0} (xs : List X) (x : X) → slice_get (xs ++ x ∷ []) (length xs) ≡ Some x
got_last [] x = refl
got_last (y ∷ xs) x = got_last xs x

-- ---- the word of one signal
own_word : (s : ℕ) (one : KnownWord) → one.signal ≡ s → word_of s (Some one) ≡ Some one.word
own_word s one e = ap (λ b. if b then Some one.word else None) (eq-eqb one.signal s e)

pub other_word : (s : ℕ) (one : KnownWord) → one.signal ≢ s → word_of s (Some one) ≡ None
other_word s one ne = go (one.signal == s) refl
  where
    go : (b : Bool) → (one.signal == s) ≡ b → word_of s (Some one) ≡ None
    go true e = absurd (ne (eqb-true one.signal s e))
    go false e = ap (λ b. if b then Some one.word else None) e

-- ---- the words of all signals
pub count : (known : List KnownWord) (places : List ℕ)
    → length (known_wide known places) ≡ length places
count known places = length-map (enumerate_from 0 places) (word_at known)
    ∙ length-enumerate_from 0 places

read_from : (known : List KnownWord) (n : ℕ) (places : List ℕ) (s place : ℕ)
    → slice_get places s ≡ Some place
    → slice_index_or (map (word_at known) (enumerate_from n places)) s None
    ≡ word_of (n + s) (slice_get known place)
read_from known n [] s place e = let bad : None ≡ Some place = e in cc
read_from known n (p ∷ places) zero place e = ap (λ m. word_of m (slice_get known p)) (omega arith)
    ∙ ap (λ q. word_of (n + 0) (slice_get known q)) (same_some p place e)
read_from known n (p ∷ places) (suc s) place e = read_from known (n + 1) places s place e
    ∙ ap (λ m. word_of m (slice_get known place)) (omega arith)

pub read : (known : List KnownWord) (places : List ℕ) (s place : ℕ)
    → slice_get places s ≡ Some place
    → slice_index_or (known_wide known places) s None ≡ word_of s (slice_get known place)
read known places s place e = read_from known 0 places s place e
    ∙ ap (λ m. word_of m (slice_get known place)) (omega arith)

-- nothing is known among no words
none_from : (n : ℕ) (places : List ℕ) (s : ℕ)
    → slice_index_or (map (word_at []) (enumerate_from n places)) s None ≡ None
none_from n [] s = refl
none_from n (p ∷ places) zero = refl
none_from n (p ∷ places) (suc s) = none_from (n + 1) places s

pub none_known : (places : List ℕ) (s : ℕ) → slice_index_or (known_wide [] places) s None ≡ None
none_known places s = none_from 0 places s

-- lists of one length that differ at one place at most
one_set : {X : Type 0} (old new : List X) (s : ℕ) (x d : X) → length new ≡ length old
    → s < length old → slice_index_or new s d ≡ x
    → ((t : ℕ) → t < length old → t ≢ s → slice_index_or new t d ≡ slice_index_or old t d)
    → new ≡ set old s x
one_set {X} [] new s x d same lt here all = absurd (omega (arith, lt))
one_set {X} (o ∷ old) [] s x d same lt here all = absurd (omega (arith, same))
one_set {X} (o ∷ old) (n ∷ new) zero x d same lt here all = ap (λ y. y ∷ new) here
    ∙ ap (λ l. x ∷ l) (rest old new (omega (arith, same))
    (λ t below. all (suc t) (omega (arith, below)) (omega arith)))
  where
    rest : (old new : List X) → length new ≡ length old
        → ((t : ℕ) → t < length old → slice_index_or new t d ≡ slice_index_or old t d) → new ≡ old
    rest [] [] same all = refl
    rest [] (n ∷ new) same all = absurd (omega (arith, same))
    rest (o ∷ old) [] same all = absurd (omega (arith, same))
    rest (o ∷ old) (n ∷ new) same all = ap (λ y. y ∷ new) (all 0 (omega arith))
        ∙ ap (λ l. o ∷ l) (rest old new (omega (arith, same))
        (λ t below. all (suc t) (omega (arith, below))))
one_set {X} (o ∷ old) (n ∷ new) (suc s) x d same lt here all =
    ap (λ y. y ∷ new) (all 0 (omega arith) (omega arith))
    ∙ ap (λ l. o ∷ l) (one_set old new s x d (omega (arith, same)) (omega (arith, lt)) here
    (λ t below ne. all (suc t) (omega (arith, below)) (omega (arith, ne))))

-- ---- at most as many words as signals
not_true : (b : Bool) → (b ≢ true) → b ≡ false
not_true true h = absurd (h refl)
not_true false h = refl

abbrev signal_of : KnownWord → ℕ
signal_of one = one.signal

few_known : (places : List ℕ) (known : List KnownWord)
    → ((place : ℕ) (one : KnownWord) → slice_get known place ≡ Some one
    → slice_get places one.signal ≡ Some place) → length known ≤ length places
few_known places known found =
    let short = length-map known signal_of in
    let few = length-le_from_distinct_below signals (length places)
    (IsDistinct-from_apart eqb signals apart) below in
    omega (arith, short, few)
  where
    signals : List ℕ
    signals = map signal_of known

    place_of : (i s : ℕ) → slice_get signals i ≡ Some s → slice_get places s ≡ Some i
    place_of i s e =
        let from = from_mapped signal_of known i s e in
        ap (slice_get places) (sym from.2) ∙ found i from.0 from.1

    apart : (i j d : ℕ) → i < j → j < length signals
        → eqb (get_or signals i d) (get_or signals j d) ≡ false
    apart i j d lt low = not_true (eqb (get_or signals i d) (get_or signals j d)) (λ e.
        let same = eqb-true (get_or signals i d) (get_or signals j d) e in
        let one = place_of i (get_or signals i d)
        (slice_get-get_or signals i d (omega (arith, lt, low))) in
        let two = place_of j (get_or signals j d) (slice_get-get_or signals j d low) in
        let bad : i ≡ j = same_some i j (sym one ∙ (ap (slice_get places) same ∙ two)) in
        absurd (omega (arith, lt, bad)))

    below : (q : ℕ) → list_any (eqb q) signals ≡ true → q < length places
    below q e =
        let some = some_passes (eqb q) signals e in
        let at = placed signals some.0 (among signals some.0 some.1) in
        let same : q ≡ some.0 = eqb-true q some.0 some.2 in
        let low = slice_get_within places some.0 at.0 (place_of at.0 some.0 at.1) in
        omega (arith, same, low)

-- ---- a word that is kept
module _ (places : List ℕ) (known : List KnownWord) (room : ℕ) (k : AreKnownAt places known room)
    (s place : ℕ) (leads : slice_get places s ≡ Some place) where
  -- in the place of the signal's last word
  module _ (one new : KnownWord) (here : slice_get known place ≡ Some one)
      (was : one.signal ≡ s) (is : new.signal ≡ s) where
    pub again_found : AreKnownAt places (set known place new) room
    again_found = record { few = k.few; found = found; roomy = k.roomy }
      where
        found : (p : ℕ) (w : KnownWord) → slice_get (set known place new) p ≡ Some w
            → slice_get places w.signal ≡ Some p
        found p w e = go (cases_eq p place)
          where
            go : (p ≡ place) ⊎ (p ≢ place) → slice_get places w.signal ≡ Some p
            go (inl same) =
                let low = slice_get_within known place one here in
                let own : new ≡ w = same_some new w (sym (got_same known place new low)
                ∙ (ap (slice_get (set known place new)) (sym same) ∙ e)) in
                ap (λ x. slice_get places x.signal) (sym own)
                ∙ (ap (slice_get places) is ∙ (leads ∙ ap Some (sym same)))
            go (inr ne) = k.found p w (sym (got_other known place p new ne) ∙ e)

    pub again_view : known_wide (set known place new) places
        ≡ set (known_wide known places) s (Some new.word)
    again_view =
        let low = slice_get_within known place one here in
        let lt = slice_get_within places s place leads in
        let long = count known places in
        one_set (known_wide known places) (known_wide (set known place new) places) s
        (Some new.word) None (count (set known place new) places ∙ sym long)
        (omega (arith, lt, long)) (read (set known place new) places s place leads
        ∙ (ap (word_of s) (got_same known place new low) ∙ own_word s new is)) (λ t below ne.
        let p = get_or places t 0 in
        let at = slice_get-get_or places t 0 (omega (arith, below, long)) in
        read (set known place new) places t p at
        ∙ (go t ne p (cases_eq p place) ∙ sym (read known places t p at)))
      where
        go : (t : ℕ) → t ≢ s → (p : ℕ) → (p ≡ place) ⊎ (p ≢ place)
            → word_of t (slice_get (set known place new) p) ≡ word_of t (slice_get known p)
        go t ne p (inl same) =
            let low = slice_get_within known place one here in
            ap (λ q. word_of t (slice_get (set known place new) q)) same
            ∙ (ap (word_of t) (got_same known place new low)
            ∙ (other_word t new (λ e. ne (sym e ∙ is))
            ∙ (sym (other_word t one (λ e. ne (sym e ∙ was))) ∙ (ap (word_of t) (sym here)
            ∙ ap (λ q. word_of t (slice_get known q)) (sym same)))))
        go t ne p (inr other) = ap (word_of t) (got_other known place p new other)

  -- behind the others
  module _ (new : KnownWord) (is : new.signal ≡ s)
      (unknown : (one : KnownWord) → slice_get known place ≡ Some one → one.signal ≢ s) where
    fresh_found : (p : ℕ) (w : KnownWord) → slice_get (known ++ new ∷ []) p ≡ Some w
        → slice_get (set places s (length known)) w.signal ≡ Some p
    fresh_found p w e = go (cases_lt p (length known))
      where
        go : (p < length known) ⊎ (length known ≤ p)
            → slice_get (set places s (length known)) w.signal ≡ Some p
        go (inl lt) =
            let old : slice_get known p ≡ Some w = sym (got_before known p new lt) ∙ e in
            let at = k.found p w old in
            got_other places s w.signal (length known) (λ same.
            let bad : p ≡ place = same_some p place (sym at
            ∙ (ap (slice_get places) same ∙ leads)) in
            unknown w (ap (slice_get known) (sym bad) ∙ old) same) ∙ at
        go (inr le) =
            let low = slice_get_within (known ++ new ∷ []) p w e in
            let long = length-append known (new ∷ []) in
            let last : p ≡ length known = omega (arith, le, low, long) in
            let own : new ≡ w = same_some new w (sym (got_last known new)
            ∙ (ap (slice_get (known ++ new ∷ [])) (sym last) ∙ e)) in
            ap (λ x. slice_get (set places s (length known)) x.signal) (sym own)
            ∙ (ap (slice_get (set places s (length known))) is
            ∙ (got_same places s (length known) (slice_get_within places s place leads)
            ∙ ap Some (sym last)))

    pub more_room : length known < length places
    more_room =
        let few = few_known (set places s (length known)) (known ++ new ∷ []) fresh_found in
        let long = length-append known (new ∷ []) in
        let same = length-set places s (length known) in
        omega (arith, few, long, same)

    pub more_found : AreKnownAt (set places s (length known)) (known ++ new ∷ []) room
    more_found =
        let same = length-set places s (length known) in
        record {
          few = (let few = k.few in omega (arith, same, few));
          found = fresh_found;
          roomy = (let most = k.roomy in omega (arith, same, most));
        }

    pub more_view : known_wide (known ++ new ∷ []) (set places s (length known))
        ≡ set (known_wide known places) s (Some new.word)
    more_view =
        let lt = slice_get_within places s place leads in
        let long = count known places in
        let same = length-set places s (length known) in
        let next = set places s (length known) in
        let all = known ++ new ∷ [] in
        one_set (known_wide known places) (known_wide all next) s
        (Some new.word) None (count all next ∙ (same ∙ sym long)) (omega (arith, lt, long))
        (read all next s (length known) (got_same places s (length known) lt)
        ∙ (ap (word_of s) (got_last known new) ∙ own_word s new is)) (λ t below ne.
        let p = get_or places t 0 in
        let at = slice_get-get_or places t 0 (omega (arith, below, long)) in
        read all next t p (got_other places s t (length known) ne ∙ at)
        ∙ (go t ne p (cases_lt p (length known)) ∙ sym (read known places t p at)))
      where
        past : (t : ℕ) → t ≢ s → (p : ℕ) → length known ≤ p
            → (p ≡ length known) ⊎ (p ≢ length known)
            → word_of t (slice_get (known ++ new ∷ []) p) ≡ None
        past t ne p le (inl last) = ap (λ q. word_of t (slice_get (known ++ new ∷ []) q)) last
            ∙ (ap (word_of t) (got_last known new) ∙ other_word t new (λ e. ne (sym e ∙ is)))
        past t ne p le (inr other) =
            let long = length-append known (new ∷ []) in
            ap (word_of t) (slice_get_past (known ++ new ∷ []) p (omega (arith, le, other, long)))

        go : (t : ℕ) → t ≢ s → (p : ℕ) → (p < length known) ⊎ (length known ≤ p)
            → word_of t (slice_get (known ++ new ∷ []) p) ≡ word_of t (slice_get known p)
        go t ne p (inl lt) = ap (word_of t) (got_before known p new lt)
        go t ne p (inr le) = past t ne p le (cases_eq p (length known))
            ∙ sym (ap (word_of t) (slice_get_past known p le))

-- ---- what is read of one signal
pub known_here : (places : List ℕ) (known : List KnownWord) (s place : ℕ) (one : KnownWord)
    → slice_get places s ≡ Some place → slice_get known place ≡ Some one → one.signal ≡ s
    → Some one.word ≡ slice_index_or (known_wide known places) s None
known_here places known s place one leads here was =
    sym (read known places s place leads ∙ (ap (word_of s) here ∙ own_word s one was))

pub unknown_here : (places : List ℕ) (known : List KnownWord) (s place : ℕ)
    → slice_get places s ≡ Some place
    → ((one : KnownWord) → slice_get known place ≡ Some one → one.signal ≢ s)
    → None ≡ slice_index_or (known_wide known places) s None
unknown_here places known s place leads unknown =
    sym (read known places s place leads ∙ go (slice_get known place) unknown)
  where
    go : (o : Option KnownWord) → ((one : KnownWord) → o ≡ Some one → one.signal ≢ s)
        → word_of s o ≡ None
    go None h = refl
    go (Some one) h = other_word s one (h one refl)

-- a signal is not known if its place has the word of another
pub other_here : (known : List KnownWord) (s place : ℕ) (one : KnownWord)
    → slice_get known place ≡ Some one → one.signal ≢ s
    → (w : KnownWord) → slice_get known place ≡ Some w → w.signal ≢ s
other_here known s place one here ne w e same =
    ne (ap (λ x. x.signal) (same_some one w (sym here ∙ e)) ∙ same)

-- nor if its place is behind all words
pub none_here : (known : List KnownWord) (s place : ℕ) → length known ≤ place
    → (w : KnownWord) → slice_get known place ≡ Some w → w.signal ≢ s
none_here known s place le w e same =
    let low = slice_get_within known place w e in
    absurd (omega (arith, le, low))
