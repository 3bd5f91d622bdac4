use Rattle.std.proofs.Common.{◌≡◌, ◌≢◌, ◌⊎◌, ◌∙◌, ℕ, ap, arith, get_or, inl, inr, List, length, set}
use Rattle.std.proofs.Common.{subst, sym}
use Rattle.std.specs.Prelude.{All, Contains, Some, map, slice_get, slice_index_or}
use Rattle.flat_circuit.{specs.Readers.Reads, specs.Stuck.stuck_fault, proofs.Public.reader_within}
use Rattle.blocking_pins.{specs.Effects.IsWordUnder, proofs.VecRows.{all_at, row_at, rows_of}}
use Rattle.blocking_pins.proofs.effect.visit.Goals.{After-as_slice}
use Rattle.blocking_pins.proofs.effect.visit.Goals as goal

-- the readers of the signal
own_row : (c : After-as_slice) → slice_get (rows_of c.args.readers.now) c.args.place
    ≡ Some c.index-readers-place.result.items
own_row c = row_at c.args.readers.now _ c.args.place c.index-readers-place.result
    c.requires.readers.count c.requires.place c.index-readers-place.is

readers_read : (c : After-as_slice)
    → All (λ g. Reads c.args.view.circuit.now.arranged g c.args.place) c.as_slice.result.now
readers_read c = subst (All (λ g. Reads c.args.view.circuit.now.arranged g c.args.place))
    (sym c.as_slice.ensures.value)
    (c.requires.readers.each c.args.place c.index-readers-place.result.items (own_row c))

pub add_all-requires : goal.add_all-requires
add_all-requires c = λ k d lt.
    let at = (goal.at.add_all-requires c).After-as_slice in
    let within = reader_within c.args.view.circuit.now.arranged
    (get_or c.as_slice.result.now k d) c.args.place (readers_read at k d lt) in
    omega (arith, within, c.requires.waiting)

pub returns-then-diff-ne0-clause-visited : goal.returns-then-diff-ne0-clause-visited
returns-then-diff-ne0-clause-visited c =
    let at = (goal.at.returns-then-diff-ne0-clause-visited c).After-as_slice in
    let circuit = c.args.view.circuit.now.arranged in
    record {
      word = c.word_under-word.result;
      valued = subst (λ l. IsWordUnder circuit (stuck_fault c.args.fault) c.args.view.good.now l
          c.args.place c.word_under-word.result) c.words.ensures c.word_under-word.ensures;
      changed = c.change.ensures;
      readers = λ r reads ne.
          let there = c.requires.readers.all r c.args.place c.index-readers-place.result.items
          (reader_within circuit r c.args.place reads) reads (own_row at) in
          all_at (λ s. slice_index_or c.add_all.new.waiting s 0 ≢ 0) c.as_slice.result.now r
          c.add_all.ensures.all (subst (λ l. Contains l r) (sym c.as_slice.ensures.value) there);
      only = λ r. only at c.args.effect.now.waiting c.add_all.new.waiting r
          (c.add_all.ensures.only r);
      room = c.add_all.ensures.room;
    }
  where
    only : (a : After-as_slice) (before now : List ℕ) (r : ℕ)
        → (slice_index_or now r 0 ≡ slice_index_or before r 0)
        ⊎ (Contains a.as_slice.result.now r × (slice_index_or now r 0 ≢ 0))
        → (slice_index_or now r 0 ≡ slice_index_or before r 0)
        ⊎ (Reads a.args.view.circuit.now.arranged r a.args.place × (slice_index_or now r 0 ≢ 0))
    only a before now r (inl e) = inl e
    only a before now r (inr h) = inr (
      all_at (λ g. Reads a.args.view.circuit.now.arranged g a.args.place) a.as_slice.result.now r
          (readers_read a) h.0,
      h.1,
    )
