-- A pass over the sinks of a signal, after which it is known whether some sink is an observer.
use Rattle.std.proofs.Common.{◌≡◌, ◌≢◌, ◌<◌, ◌≤◌, ℕ, ◌+◌, refl, sym, ◌∙◌, ap, subst, Bool, true}
use Rattle.std.proofs.Common.{false, List, [], ◌∷◌, length, arith, inl, inr, ◌⊎◌}
use Rattle.std.specs.Prelude.{Some, slice_get, slice_index_or, IsTrue, ◌↔◌}
use Rattle.std.proofs.lemmas.Bool.{cases_eq, false≢true}
use Rattle.bench_net.specs.{declared.Sink.Sink, Scan.{names, signal, name_of, sinks, cells}}
use Rattle.bench_net.specs.Statement.{Name, Statement, Input, Output, Gate, Dff}
use Rattle.bench_net.{specs.Circuit.IsWellFormed, proofs.Public.{name_of-signal, signal-name_of}}
use Rattle.bench_net.specs.declared.Sink.TheVariants as sink
use Rattle.list_lemmas.proofs.Members.{Among, contained}
use Rattle.list_lemmas.proofs.Places.{at_place, placed, place_within, within_place}
use Rattle.fault_model.proofs.Public.{observes, data_reads, out_reads}
use Rattle.flat_circuit.{specs.Readers.{Reads, IsObserved}, proofs.ListPlaces.index_of}
use Rattle.flat_circuit.proofs.{Readers.sink_reads, ObservedLines.{output_observed, cell_observed}}

cell_among : (c : List Statement) (q d : Name) → Among (Dff q d) c → Among (q, d) (cells c)
cell_among [] q d a = absurd a
cell_among (Dff p e ∷ c) q d (inl same) = let it : Dff p e ≡ Dff q d = same in
    let here : (p, e) ≡ (q, d) = cc in inl here
cell_among (Dff p e ∷ c) q d (inr a) = inr (cell_among c q d a)
cell_among (Input m ∷ c) q d (inl same) = let it : Input m ≡ Dff q d = same in cc
cell_among (Input m ∷ c) q d (inr a) = cell_among c q d a
cell_among (Output m ∷ c) q d (inl same) = let it : Output m ≡ Dff q d = same in cc
cell_among (Output m ∷ c) q d (inr a) = cell_among c q d a
cell_among (Gate m kind args ∷ c) q d (inl same) = let it : Gate m kind args ≡ Dff q d = same in cc
cell_among (Gate m kind args ∷ c) q d (inr a) = cell_among c q d a

-- whether some of the first sinks is an observer's pin
pub record HasObserver (c : List Statement) (s : ℕ) (items : List Sink) (i : ℕ)
    (observed : Bool) : Type 0 where
  pub some : observed ≡ true → IsObserved c s
  pub none : observed ≡ false → (j : ℕ) → j < i → (gate : ℕ) × (pin : ℕ)
      × (slice_get items j ≡ Some (sink.Pin gate pin))

pub observer_none : (c : List Statement) (s : ℕ) (items : List Sink) → HasObserver c s items 0 false
observer_none c s items = record {
  some = λ e. absurd (false≢true e);
  none = λ e j lt. absurd (omega (arith, lt));
}

pub at_end : (i j : ℕ) → j < i + 1 → (j < i) ⊎ (j ≡ i)
at_end i j lt = go (cases_eq j i)
  where
    go : (j ≡ i) ⊎ (j ≢ i) → (j < i) ⊎ (j ≡ i)
    go (inl e) = inr e
    go (inr ne) = inl (omega (arith, lt, ne))

module _ (c : List Statement) (well : IsWellFormed c) (s : ℕ) (n : Name)
    (named : name_of c s ≡ Some n) (items : List Sink) (are : items ≡ sinks c n) where
  number : signal c n ≡ s
  number = signal-name_of c s n well.once named
      (contained (names c) n (at_place (names c) s n named))

  listed : (i : ℕ) (k d : Sink) → i < length items → slice_index_or items i d ≡ k
      → slice_get items i ≡ Some k
  listed i k d lt e = let at = within_place items i lt in
      at.1 ∙ ap Some (sym (index_of items i at.0 d at.1) ∙ e)

  among_sinks : (i : ℕ) (k : Sink) → slice_get items i ≡ Some k → Among k (sinks c n)
  among_sinks i k e = subst (Among k) are (at_place items i k e)

  pub sink_gate : (i gate pin : ℕ) (d : Sink) → i < length items
      → slice_index_or items i d ≡ sink.Pin gate pin → Reads c gate s
  sink_gate i gate pin d lt e = sink_reads c well s n named gate pin
      (among_sinks i (sink.Pin gate pin) (listed i (sink.Pin gate pin) d lt e))

  pub same_gate : (i j gate pin : ℕ) (k d : Sink) → i < length items → slice_index_or items i d ≡ k
      → j ≡ i → slice_get items j ≡ Some (sink.Pin gate pin) → sink.Pin gate pin ≡ k
  same_gate i j gate pin k d lt e same at = let both : Some (sink.Pin gate pin) ≡ Some k = sym at
      ∙ (ap (slice_get items) same ∙ listed i k d lt e) in cc

  -- ---- observers
  pub observer_passed : (i gate pin : ℕ) (d : Sink) (observed : Bool) → i < length items
      → slice_index_or items i d ≡ sink.Pin gate pin → HasObserver c s items i observed
      → HasObserver c s items (i + 1) observed
  observer_passed i gate pin d observed lt e h = record {
    some = h.some;
    none = λ isnt j below. go isnt j (at_end i j below);
  }
    where
      go : observed ≡ false → (j : ℕ) → (j < i) ⊎ (j ≡ i) → (gate : ℕ) × (pin : ℕ)
          × (slice_get items j ≡ Some (sink.Pin gate pin))
      go isnt j (inl below) = h.none isnt j below
      go isnt j (inr same) = (
        gate,
        pin,
        ap (slice_get items) same ∙ listed i (sink.Pin gate pin) d lt e,
      )

  observed_at : (k : Sink) → Among k (sinks c n) → ((gate pin : ℕ) → k ≢ sink.Pin gate pin)
      → IsObserved c s
  observed_at (sink.Pin gate pin) a isnt = absurd (isnt gate pin refl)
  observed_at (sink.Data i) a isnt =
      let r = data_reads c n i a in
      let p = placed (cells c) (r.q, n) (cell_among c r.q n r.stands) in
      ((sink.Data p.0, n), cell_observed c p.0 r.q n p.1, number)
  observed_at (sink.Out i) a isnt = (
    (sink.Out i, n),
    output_observed c i n (out_reads c n i a),
    number,
  )

  pub observer_found : (i : ℕ) (k d : Sink) → i < length items → slice_index_or items i d ≡ k
      → ((gate pin : ℕ) → k ≢ sink.Pin gate pin) → HasObserver c s items (i + 1) true
  observer_found i k d lt e isnt = record {
    some = λ t. observed_at k (among_sinks i k (listed i k d lt e)) isnt;
    none = λ f. absurd (false≢true (sym f));
  }

  -- ---- all sinks
  pub observer_all : (i : ℕ) (observed : Bool) → length items ≤ i → HasObserver c s items i observed
      → IsTrue observed ↔ IsObserved c s
  observer_all i true le h = (λ t. h.some refl, λ o. refl)
  observer_all i false le h = (λ f. absurd (false≢true f), λ o. absurd (never o))
    where
      never : IsObserved c s → ⊥
      never o =
          let w = observes c o.0 well o.1 in
          let is : Some o.0.1 ≡ Some n = sym (name_of-signal c o.0.1 w.named)
          ∙ (ap (name_of c) o.2 ∙ named) in
          let same : o.0.1 ≡ n = cc in
          let there = placed items w.reader (subst (Among w.reader) (sym are)
          (subst (λ m. Among w.reader (sinks c m)) same w.among_sinks)) in
          let lt = place_within items there.0 w.reader there.1 in
          let pin = h.none refl there.0 (omega (arith, lt, le)) in
          let one : Some w.reader ≡ Some (sink.Pin pin.0 pin.1) = sym there.1 ∙ pin.2 in
          let bad : w.reader ≡ sink.Pin pin.0 pin.1 = cc in
          w.no_pin pin.0 pin.1 bad
