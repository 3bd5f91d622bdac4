-- The live signals of a circuit, by their sinks.
use Rattle.std.proofs.Common.{◌≡◌, ◌≢◌, ◌<◌, ◌≤◌, ℕ, ◌+◌, ◌-◌, refl, sym, ◌∙◌, ap, subst, Bool}
use Rattle.std.proofs.Common.{false, List, length, set, arith, inl, inr, ◌⊎◌}
use Rattle.std.specs.Prelude.{Some, slice_get, slice_index_or, IsTrue, ◌↔◌}
use Rattle.std.proofs.lemmas.List.{get_or_default, get_or-set_same, get_or-set_other}
use Rattle.std.proofs.lemmas.Bool.{cases_eq, false≢true}
use Rattle.bench_net.specs.{declared.Sink.Sink, Statement.{Name, Statement}, Circuit.IsWellFormed}
use Rattle.bench_net.specs.{Scan.{names, name_of, sinks}, Level.IsLevelOrder}
use Rattle.bench_net.specs.declared.Sink.TheVariants as sink
use Rattle.list_lemmas.proofs.{Members.Among, Places.{placed, place_within, within_place}}
use Rattle.flat_circuit.specs.{Readers.{Reads, IsLive, observed, through}, Flat.{AreLive, IsLiveAt}}
use Rattle.flat_circuit.proofs.{LevelOrder.order_within, ListPlaces.index_of, Stems.behind}
use Rattle.flat_circuit.proofs.{Readers.{read_sink, reader_within}, ObservedSinks.sink_gate}
use Rattle.flat_circuit.proofs.ObservedSinks.{HasObserver, at_end, observer_all, observer_found}

-- ---- liveness of a signal, by its sinks
-- each of the first sinks is a pin of a gate that is not live
pub record AreDead (c : List Statement) (items : List Sink) (i : ℕ) : Type 0 where
  pub each : (j : ℕ) → j < i → (gate : ℕ) × (pin : ℕ)
      × (slice_get items j ≡ Some (sink.Pin gate pin)) × ¬ IsLive c gate

pub dead_none : (c : List Statement) (items : List Sink) → AreDead c items 0
dead_none c items = record { each = λ j lt. absurd (omega (arith, lt)) }

module _ (c : List Statement) (well : IsWellFormed c) (s : ℕ) (n : Name)
    (named : name_of c s ≡ Some n) (items : List Sink) (are : items ≡ sinks c n) where
  pub dead_more : (i gate pin : ℕ) (d : Sink) → i < length items
      → slice_index_or items i d ≡ sink.Pin gate pin → ¬ IsLive c gate → AreDead c items i
      → AreDead c items (i + 1)
  dead_more i gate pin d lt e dead h = record { each = λ j below. go j (at_end i j below) }
    where
      listed : slice_get items i ≡ Some (sink.Pin gate pin)
      listed = let at = within_place items i lt in
          at.1 ∙ ap Some (sym (index_of items i at.0 d at.1) ∙ e)

      go : (j : ℕ) → (j < i) ⊎ (j ≡ i) → (gate : ℕ) × (pin : ℕ)
          × (slice_get items j ≡ Some (sink.Pin gate pin)) × ¬ IsLive c gate
      go j (inl below) = h.each j below
      go j (inr same) = (gate, pin, ap (slice_get items) same ∙ listed, dead)

  -- a sink that leads on
  pub live_by_gate : (i gate pin : ℕ) (d : Sink) → i < length items
      → slice_index_or items i d ≡ sink.Pin gate pin → IsLive c gate → IsLive c s
  live_by_gate i gate pin d lt e live =
      through (sink_gate c well s n named items are i gate pin d lt e) live

  pub live_by_observer : (i : ℕ) (k d : Sink) → i < length items → slice_index_or items i d ≡ k
      → ((gate pin : ℕ) → k ≢ sink.Pin gate pin) → IsLive c s
  live_by_observer i k d lt e isnt = let found =
      observer_found c well s n named items are i k d lt e isnt in observed (found.some refl)

  -- all sinks
  pub dead_all : (i : ℕ) → length items ≤ i → AreDead c items i → IsLive c s → ⊥
  dead_all i le h (observed o) =
      let none : HasObserver c s items i false = record {
        some = λ e. absurd (false≢true e);
        none = λ isnt j lt. let it = h.each j lt in (it.0, it.1, it.2);
      } in
      false≢true ((observer_all c well s n named items are i false le none).1 o)
  dead_all i le h (through {g = g} reads live) =
      let p = read_sink c well s n named g reads in
      let there = placed items (sink.Pin g p.0) (subst (Among (sink.Pin g p.0)) (sym are) p.1) in
      let lt = place_within items there.0 (sink.Pin g p.0) there.1 in
      let it = h.each there.0 (omega (arith, lt, le)) in
      let one : Some (sink.Pin g p.0) ≡ Some (sink.Pin it.0 it.1) = sym there.1 ∙ it.2 in
      let same : g ≡ it.0 = cc in
      it.3 (subst (IsLive c) same live)

-- ---- a table of the live signals
-- the last signals in level order
abbrev pub LiveFrom : List Statement → List ℕ → List Bool → ℕ → Type 0
LiveFrom c order live place = (i : ℕ) → place ≤ i → i < length order
    → IsLiveAt c live (slice_index_or order i 0)

module _ (c : List Statement) (well : IsWellFormed c) (order : List ℕ) (is : IsLevelOrder c order)
  where
    -- liveness is known for the gates that read the next one
    pub readers_known : (live : List Bool) (place g : ℕ) → 0 < place → place ≤ length order
        → LiveFrom c order live place → Reads c g (slice_index_or order (place - 1) 0)
        → IsLiveAt c live g
    readers_known live place g some low known r =
        let there = is.all g (reader_within c g (slice_index_or order (place - 1) 0) r) in
        let at : slice_index_or order there.0 0 ≡ g = get_or_default order there.0 0 g there.1
        ∙ there.2 in
        let lt = behind c well order is (place - 1) there.0 g (omega (arith, some, low)) there.1 at
        r in
        subst (IsLiveAt c live) at (known there.0 (omega (arith, lt)) there.1)

    pub live_more : (live : List Bool) (place : ℕ) (now : Bool) → 0 < place → place ≤ length order
        → length live ≡ length (names c) → LiveFrom c order live place
        → IsTrue now ↔ IsLive c (slice_index_or order (place - 1) 0)
        → LiveFrom c order (set live (slice_index_or order (place - 1) 0) now) (place - 1)
    live_more live place now some low room known found i from inside =
        go (cases_eq (slice_index_or order i 0) (slice_index_or order (place - 1) 0))
      where
        inner : slice_index_or order (place - 1) 0 < length live
        inner = let lt = order_within c order (place - 1) is (omega (arith, some, low)) in
            omega (arith, lt, room)

        new : List Bool
        new = set live (slice_index_or order (place - 1) 0) now

        go : (slice_index_or order i 0 ≡ slice_index_or order (place - 1) 0)
            ⊎ (slice_index_or order i 0 ≢ slice_index_or order (place - 1) 0)
            → IsLiveAt c new (slice_index_or order i 0)
        go (inl same) = subst (IsLiveAt c new) (sym same)
            (subst (λ b. IsTrue b ↔ IsLive c (slice_index_or order (place - 1) 0))
            (sym (get_or-set_same live (slice_index_or order (place - 1) 0) now false inner)) found)
        go (inr other) = subst (λ b. IsTrue b ↔ IsLive c (slice_index_or order i 0))
            (sym (get_or-set_other live (slice_index_or order (place - 1) 0)
            (slice_index_or order i 0) now false other))
            (known i (later (cases_eq i (place - 1))) inside)
          where
            later : (i ≡ place - 1) ⊎ (i ≢ place - 1) → place ≤ i
            later (inl same) = absurd (other (ap (λ x. slice_index_or order x 0) same))
            later (inr ne) = omega (arith, from, ne, some)

    pub live_all : (live : List Bool) → LiveFrom c order live 0 → AreLive c live
    live_all live known s lt =
        let there = is.all s lt in
        let at : slice_index_or order there.0 0 ≡ s = get_or_default order there.0 0 s there.1
        ∙ there.2 in
        subst (IsLiveAt c live) at (known there.0 (omega arith) there.1)
