-- Flat lists that grow by one signal at a time, and the facts that a row of them gives.
use Rattle.std.proofs.Common.{◌≡◌, ◌≢◌, ◌<◌, ◌≤◌, ℕ, ◌+◌, ◌-◌, sym, ◌∙◌, ap, subst, List, [], ◌∷◌}
use Rattle.std.proofs.Common.{◌++◌, length, zero, suc, arith, inl, inr, ◌⊎◌, take, drop, refl}
use Rattle.std.specs.Prelude.{All, Contains, Some, slice_get, slice_index_or, IfSome, IsTrue}
use Rattle.std.specs.{Prelude.{slice_range, ◌↔◌}, Option.option_map}
use Rattle.std.proofs.lemmas.List.{length-append, take-append-le, drop-append-le, length-drop}
use Rattle.std.proofs.lemmas.List.Elements.{All-push, Contains-append_left, Contains-push}
use Rattle.bench_net.specs.{declared.Sink.Sink, Statement.{Name, Statement}, Circuit.IsWellFormed}
use Rattle.bench_net.specs.Scan.{names, name_of, sinks}
use Rattle.bench_net.specs.declared.Sink.TheVariants as sink
use Rattle.list_lemmas.proofs.{Members.Among, Places.{placed, place_within}}
use Rattle.flat_circuit.specs.declared.flat.{SignalRow.SignalRow, Lists.Lists, Standing.Standing}
use Rattle.flat_circuit.specs.{Readers.{IsLive, IsObserved, Reads}, GateForms.IsFormOf}
use Rattle.flat_circuit.specs.Flat.{AreReaders, IsRow, HasMore, AreRowsAt, IsFlat, IsStanding}
use Rattle.flat_circuit.specs.Flat.{AreListsOf, AreMoved, AreStandingsAt, HasEnds, IsMoved}
use Rattle.flat_circuit.proofs.{Readers.read_sink, Rows.{appended_get, pushed_get}}
use Rattle.flat_circuit.proofs.ObservedSinks.{same_gate, at_end}

-- ---- ranges of a list
range_kept : {X : Type 0} (xs ys : List X) (a b : ℕ) → a ≤ b → b ≤ length xs
    → slice_range (xs ++ ys) a b ≡ slice_range xs a b
range_kept xs ys a b up within =
    let long : length (drop a xs) ≡ length xs - a = length-drop a xs in
    ap (take (b - a)) (drop-append-le a xs ys (omega (arith, up, within)))
    ∙ take-append-le (b - a) (drop a xs) ys (omega (arith, long, within))

-- ---- the readers of a signal
-- the live gates among the first sinks stand in the list
pub record AreGathered (c : List Statement) (s : ℕ) (items : List Sink) (i : ℕ)
    (readers : List ℕ) : Type 0 where
  pub each : All (λ gate. Reads c gate s × IsLive c gate) readers
  pub all : (gate pin j : ℕ) → j < i → slice_get items j ≡ Some (sink.Pin gate pin) → IsLive c gate
      → Contains readers gate

pub gathered_none : (c : List Statement) (s : ℕ) (items : List Sink) → AreGathered c s items 0 []
gathered_none c s items = record {
  each = λ k d lt. absurd (omega (arith, lt));
  all = λ gate pin j lt. absurd (omega (arith, lt));
}

module _ (c : List Statement) (well : IsWellFormed c) (s : ℕ) (n : Name)
    (named : name_of c s ≡ Some n) (items : List Sink) (are : items ≡ sinks c n) (i : ℕ)
    (readers : List ℕ) (h : AreGathered c s items i readers) where
  -- a sink that is no gate's pin
  pub gathered_passed : (k d : Sink) → i < length items → slice_index_or items i d ≡ k
      → ((gate pin : ℕ) → k ≢ sink.Pin gate pin) → AreGathered c s items (i + 1) readers
  gathered_passed k d lt e isnt = record {
    each = h.each;
    all = λ g p j below is live. go g p j (at_end i j below) is live;
  }
    where
      go : (g p j : ℕ) → (j < i) ⊎ (j ≡ i) → slice_get items j ≡ Some (sink.Pin g p) → IsLive c g
          → Contains readers g
      go g p j (inl below) is live = h.all g p j below is live
      go g p j (inr same) is live =
          absurd (isnt g p (sym (same_gate c well s n named items are i j g p k d lt e same is)))

  -- a gate that is not live
  pub gathered_dead : (gate pin : ℕ) (d : Sink) → i < length items
      → slice_index_or items i d ≡ sink.Pin gate pin → ¬ IsLive c gate
      → AreGathered c s items (i + 1) readers
  gathered_dead gate pin d lt e dead = record {
    each = h.each;
    all = λ g p j below is live. go g p j (at_end i j below) is live;
  }
    where
      go : (g p j : ℕ) → (j < i) ⊎ (j ≡ i) → slice_get items j ≡ Some (sink.Pin g p) → IsLive c g
          → Contains readers g
      go g p j (inl below) is live = h.all g p j below is live
      go g p j (inr same) is live =
          let one : sink.Pin g p ≡ sink.Pin gate pin = same_gate c well s n named items are i j g p
          (sink.Pin gate pin) d lt e same is in
          let here : g ≡ gate = cc in
          absurd (dead (subst (IsLive c) here live))

  -- one gate more
  pub gathered_more : (gate pin : ℕ) (d : Sink) → i < length items
      → slice_index_or items i d ≡ sink.Pin gate pin → Reads c gate s → IsLive c gate
      → AreGathered c s items (i + 1) (readers ++ gate ∷ [])
  gathered_more gate pin d lt e reads live = record {
    each = All-push (λ g. Reads c g s × IsLive c g) readers gate h.each (reads, live);
    all = λ g p j below is alive. go g p j (at_end i j below) is alive;
  }
    where
      go : (g p j : ℕ) → (j < i) ⊎ (j ≡ i) → slice_get items j ≡ Some (sink.Pin g p) → IsLive c g
          → Contains (readers ++ gate ∷ []) g
      go g p j (inl below) is alive = Contains-append_left readers (gate ∷ []) g
          (h.all g p j below is alive)
      go g p j (inr same) is alive =
          let one : sink.Pin g p ≡ sink.Pin gate pin = same_gate c well s n named items are i j g p
          (sink.Pin gate pin) d lt e same is in
          let here : g ≡ gate = cc in
          subst (Contains (readers ++ gate ∷ [])) (sym here) (Contains-push readers gate)

  -- all gates
  pub gathered_all : length items ≤ i → AreReaders c s readers
  gathered_all le = record {
    each = h.each;
    all = λ g reads live.
        let p = read_sink c well s n named g reads in
        let there = placed items (sink.Pin g p.0) (subst (Among (sink.Pin g p.0)) (sym are) p.1) in
        let lt = place_within items there.0 (sink.Pin g p.0) there.1 in
        h.all g p.0 there.0 (omega (arith, lt, le)) there.1 live;
  }

-- ---- rows
pub row_kept : (c : List Statement) (pins more_pins : List ℕ) (readers more_readers : List ℕ)
    (s : ℕ) (row : SignalRow) → HasMore pins more_pins → HasMore readers more_readers
    → IsRow c pins readers s row → IsRow c more_pins more_readers s row
row_kept c pins more_pins readers more_readers s row pins_more readers_more h =
    let pins_are : slice_range more_pins row.pins_start row.pins_end
    ≡ slice_range pins row.pins_start row.pins_end =
    ap (λ l. slice_range l row.pins_start row.pins_end) pins_more.1
    ∙ range_kept pins pins_more.0 row.pins_start row.pins_end h.pins_in.0 h.pins_in.1 in
    let readers_are : slice_range more_readers row.readers_start row.readers_end
    ≡ slice_range readers row.readers_start row.readers_end =
    ap (λ l. slice_range l row.readers_start row.readers_end) readers_more.1
    ∙ range_kept readers readers_more.0 row.readers_start row.readers_end h.readers_in.0
    h.readers_in.1 in
    let pins_long : length more_pins ≡ length pins + length pins_more.0 = ap length pins_more.1
    ∙ length-append pins pins_more.0 in
    let readers_long : length more_readers ≡ length readers + length readers_more.0 =
    ap length readers_more.1 ∙ length-append readers readers_more.0 in
    record {
      pins_in = (h.pins_in.0, omega (arith, h.pins_in.1, pins_long));
      readers_in = (h.readers_in.0, omega (arith, h.readers_in.1, readers_long));
      driven = ap (λ own. option_map (λ driver. (driver.kind, own)) row.driver) pins_are ∙ h.driven;
      ends = subst (λ own. HasEnds own row.first row.last) (sym pins_are) h.ends;
      formed = h.formed;
      read_by = subst (AreReaders c s) (sym readers_are) h.read_by;
      observed = h.observed;
    }

pub rows_with : (c : List Statement) (from : ℕ) (pins more_pins : List ℕ)
    (readers more_readers : List ℕ) (rows : List SignalRow) (s : ℕ) (row : SignalRow)
    → from + length rows ≡ s → AreRowsAt c from pins readers rows → HasMore pins more_pins
    → HasMore readers more_readers → IsRow c more_pins more_readers s row
    → AreRowsAt c from more_pins more_readers (rows ++ row ∷ [])
rows_with c from pins more_pins readers more_readers rows s row count before pins_more readers_more
    new i other at = go (pushed_get rows row other i at)
  where
    go : (slice_get rows i ≡ Some other) ⊎ ((i ≡ length rows) × (row ≡ other))
        → IsRow c more_pins more_readers (from + i) other
    go (inl h) = row_kept c pins more_pins readers more_readers (from + i) other pins_more
        readers_more (before i other h)
    go (inr h) = subst (λ x. IsRow c more_pins more_readers x other)
        (sym count ∙ ap (λ n. from + n) (sym h.0))
        (subst (IsRow c more_pins more_readers s) h.1 new)

pub read_at : {X : Type 0} (xs : List X) (i : ℕ) (d : X) → i < length xs
    → slice_get xs i ≡ Some (slice_index_or xs i d)
read_at [] i d lt = absurd (omega (arith, lt))
read_at (x ∷ xs) zero d lt = refl
read_at (x ∷ xs) (suc i) d lt = read_at xs i d (omega (arith, lt))

-- a row more of rows that are moved
pub moved_more : (pins readers : ℕ) (next moved : List SignalRow) (i : ℕ) (before row : SignalRow)
    → length moved ≡ i → slice_get next i ≡ Some before → IsMoved pins readers before row
    → ((k : ℕ) (one : SignalRow) → slice_get moved k ≡ Some one
    → (was : SignalRow) × (slice_get next k ≡ Some was) × IsMoved pins readers was one)
    → (k : ℕ) (one : SignalRow) → slice_get (moved ++ row ∷ []) k ≡ Some one
    → (was : SignalRow) × (slice_get next k ≡ Some was) × IsMoved pins readers was one
moved_more pins readers next moved i before row count at by each k one there =
    go (pushed_get moved row one k there)
  where
    go : (slice_get moved k ≡ Some one) ⊎ ((k ≡ length moved) × (row ≡ one))
        → (was : SignalRow) × (slice_get next k ≡ Some was) × IsMoved pins readers was one
    go (inl h) = each k one h
    go (inr h) = (
      before,
      ap (slice_get next) (h.0 ∙ count) ∙ at,
      subst (IsMoved pins readers before) h.1 by,
    )

got : {X : Type 0} (xs : List X) (i : ℕ) (x : X) → i < length xs → x ≡ slice_index_or xs i x
    → slice_get xs i ≡ Some x
got [] i x lt e = absurd (omega (arith, lt))
got (y ∷ xs) zero x lt e = ap Some (sym e)
got (y ∷ xs) (suc i) x lt e = got xs i x (omega (arith, lt)) e

pub standings_with : (c : List Statement) (from : ℕ) (standings : List Standing) (s : ℕ)
    (standing : Standing) → from + length standings ≡ s → AreStandingsAt c from standings
    → IsStanding c s standing → AreStandingsAt c from (standings ++ standing ∷ [])
standings_with c from standings s standing count before new i other at =
    go (pushed_get standings standing other i at)
  where
    go : (slice_get standings i ≡ Some other) ⊎ ((i ≡ length standings) × (standing ≡ other))
        → IsStanding c (from + i) other
    go (inl h) = before i other h
    go (inr h) = subst (λ x. IsStanding c x other) (sym count ∙ ap (λ n. from + n) (sym h.0))
        (subst (IsStanding c s) h.1 new)

-- ---- lists after others
drop_all : {X : Type 0} (xs ys : List X) (a : ℕ) → drop (length xs + a) (xs ++ ys) ≡ drop a ys
drop_all {X} [] ys a =
    let none : length {A = X} [] + a ≡ a = omega arith in
    ap (λ n. drop n ys) none
drop_all (x ∷ xs) ys a =
    let one : suc (length xs) + a ≡ suc (length xs + a) = omega arith in
    ap (λ n. drop n (x ∷ (xs ++ ys))) one ∙ drop_all xs ys a

range_moved : {X : Type 0} (xs ys : List X) (a b : ℕ)
    → slice_range (xs ++ ys) (length xs + a) (length xs + b) ≡ slice_range ys a b
range_moved xs ys a b =
    let long : (length xs + b) - (length xs + a) ≡ b - a = omega arith in
    ap (λ n. take n (drop (length xs + a) (xs ++ ys))) long ∙ ap (take (b - a)) (drop_all xs ys a)

-- a row after the pins and readers of others
row_moved : (c : List Statement) (pins next_pins : List ℕ) (readers next_readers : List ℕ) (s : ℕ)
    (row moved : SignalRow) → IsMoved (length pins) (length readers) row moved
    → IsRow c next_pins next_readers s row → IsRow c (pins ++ next_pins) (readers ++ next_readers) s
    moved
row_moved c pins next_pins readers next_readers s row moved by h =
    let long : length (pins ++ next_pins) ≡ length pins + length next_pins =
    length-append pins next_pins in
    let far : length (readers ++ next_readers) ≡ length readers + length next_readers =
    length-append readers next_readers in
    let pins_are : slice_range (pins ++ next_pins) moved.pins_start moved.pins_end
    ≡ slice_range next_pins row.pins_start row.pins_end =
    ap (λ n. slice_range (pins ++ next_pins) n moved.pins_end) by.pins_start
    ∙ ap (slice_range (pins ++ next_pins) (length pins + row.pins_start)) by.pins_end
    ∙ range_moved pins next_pins row.pins_start row.pins_end in
    let readers_are : slice_range (readers ++ next_readers) moved.readers_start moved.readers_end
    ≡ slice_range next_readers row.readers_start row.readers_end =
    ap (λ n. slice_range (readers ++ next_readers) n moved.readers_end) by.readers_start
    ∙ ap (slice_range (readers ++ next_readers) (length readers + row.readers_start)) by.readers_end
    ∙ range_moved readers next_readers row.readers_start row.readers_end in
    record {
      pins_in = (
        omega (arith, h.pins_in.0, by.pins_start, by.pins_end),
        omega (arith, h.pins_in.1, by.pins_end, long),
      );
      readers_in = (
        omega (arith, h.readers_in.0, by.readers_start, by.readers_end),
        omega (arith, h.readers_in.1, by.readers_end, far),
      );
      driven = ap (λ own. option_map (λ driver. (driver.kind, own)) moved.driver) pins_are
          ∙ (ap (option_map (λ driver. (
            driver.kind,
            slice_range next_pins row.pins_start row.pins_end,
          ))) by.driver ∙ h.driven);
      ends = subst (λ own. HasEnds own moved.first moved.last) (sym pins_are)
          (subst (HasEnds (slice_range next_pins row.pins_start row.pins_end) moved.first)
          (sym by.last)
          (subst (λ n. HasEnds (slice_range next_pins row.pins_start row.pins_end) n row.last)
          (sym by.first) h.ends));
      formed = subst (λ d. IfSome d (λ driver. IsFormOf driver.kind driver.form)) (sym by.driver)
          h.formed;
      read_by = subst (AreReaders c s) (sym readers_are) h.read_by;
      observed = subst (λ o. IsTrue o ↔ IsObserved c s) (sym by.observed) h.observed;
    }

pub rows_joined : (c : List Statement) (from middle : ℕ) (pins next_pins : List ℕ)
    (readers next_readers : List ℕ) (rows next moved : List SignalRow)
    → from + length rows ≡ middle → AreRowsAt c from pins readers rows
    → AreRowsAt c middle next_pins next_readers next
    → AreMoved (length pins) (length readers) next moved
    → AreRowsAt c from (pins ++ next_pins) (readers ++ next_readers) (rows ++ moved)
rows_joined c from middle pins next_pins readers next_readers rows next moved count before after by
    i row at = go (appended_get rows moved row i at)
  where
    go : (slice_get rows i ≡ Some row)
        ⊎ ((j : ℕ) × (i ≡ length rows + j) × (slice_get moved j ≡ Some row))
        → IsRow c (pins ++ next_pins) (readers ++ next_readers) (from + i) row
    go (inl h) = row_kept c pins (pins ++ next_pins) readers (readers ++ next_readers) (from + i)
        row (next_pins, refl) (next_readers, refl) (before i row h)
    go (inr h) =
        let own = by.each h.0 row h.2 in
        let here : middle + h.0 ≡ from + i = omega (arith, h.1, count) in
        subst (λ x. IsRow c (pins ++ next_pins) (readers ++ next_readers) x row) here
        (row_moved c pins next_pins readers next_readers (middle + h.0) own.0 row own.2
        (after h.0 own.0 own.1))

pub standings_joined : (c : List Statement) (from middle : ℕ) (standings next : List Standing)
    → from + length standings ≡ middle → AreStandingsAt c from standings
    → AreStandingsAt c middle next → AreStandingsAt c from (standings ++ next)
standings_joined c from middle standings next count before after i standing at =
    go (appended_get standings next standing i at)
  where
    go : (slice_get standings i ≡ Some standing)
        ⊎ ((j : ℕ) × (i ≡ length standings + j) × (slice_get next j ≡ Some standing))
        → IsStanding c (from + i) standing
    go (inl h) = before i standing h
    go (inr h) =
        let here : middle + h.0 ≡ from + i = omega (arith, h.1, count) in
        subst (λ x. IsStanding c x standing) here (after h.0 standing h.2)

-- the lists of all signals
pub flat_of : (c : List Statement) (end : ℕ) (lists : Lists) → AreListsOf c 0 end lists
    → end ≡ length (names c)
    → IsFlat c lists.pins.items lists.readers.items lists.rows.items lists.standings.items
flat_of c end lists all is = record {
  count = omega (arith, all.count, is);
  numbered = λ s row at.
      let here : 0 + s ≡ s = omega arith in
      subst (λ x. IsRow c lists.pins.items lists.readers.items x row) here (all.numbered s row at);
  stand = omega (arith, all.stand, is);
  standing = λ s standing at.
      let here : 0 + s ≡ s = omega arith in
      subst (λ x. IsStanding c x standing) here (all.standing s standing at);
}

-- the row that is read at a signal's number
pub row_of : (c : List Statement) (pins : List ℕ) (readers : List ℕ) (rows : List SignalRow)
    (standings : List Standing) (s : ℕ) (row : SignalRow) → IsFlat c pins readers rows standings
    → s < length (names c) → row ≡ slice_index_or rows s row → IsRow c pins readers s row
row_of c pins readers rows standings s row flat lt e =
    flat.numbered s row (got rows s row (omega (arith, lt, flat.count)) e)

-- and the signal's position
pub standing_of : (c : List Statement) (pins : List ℕ) (readers : List ℕ) (rows : List SignalRow)
    (standings : List Standing) (s : ℕ) (standing : Standing)
    → IsFlat c pins readers rows standings → s < length (names c)
    → standing ≡ slice_index_or standings s standing → IsStanding c s standing
standing_of c pins readers rows standings s standing flat lt e =
    flat.standing s standing (got standings s standing (omega (arith, lt, flat.stand)) e)
