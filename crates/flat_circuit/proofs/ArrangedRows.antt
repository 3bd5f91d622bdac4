-- Rows of a circuit whose statements stand in another order. The facts about a signal in the rows
-- of the first circuit hold for the moved signal.
use Rattle.std.{proofs.Common.{ℕ, sym, ◌∙◌, subst, List, map}, specs.Prelude.{All, Contains}}
use Rattle.std.proofs.lemmas.List.Elements.{All-map}
use Rattle.bench_net.specs.{Statement.Statement, Circuit.IsWellFormed}
use Rattle.list_lemmas.proofs.Members.{among, contained, among_map}
use Rattle.fault_model.specs.Reordered.{IsReordered, place}
use Rattle.flat_circuit.specs.{Readers.{Reads, IsLive}, Flat.AreReaders, Reordered.HasSameReaders}
use Rattle.flat_circuit.proofs.ReorderedReaders.{same_readers}

module _ (c d : List Statement) (well : IsWellFormed c) (is : IsReordered c d) where
  readers : HasSameReaders c d
  readers = same_readers c d well is

  pub readers_moved : (s : ℕ) (xs : List ℕ) → AreReaders c s xs
      → AreReaders d (place c d s) (map (place c d) xs)
  readers_moved s xs are = record { each = each; all = all }
    where
      each : All (λ g. Reads d g (place c d s) × IsLive d g) (map (place c d) xs)
      each = All-map (λ g. Reads d g (place c d s) × IsLive d g) (place c d) xs
          (λ k x lt. moves _ (are.each k x lt))
        where
          moves : (g : ℕ) → Reads c g s × IsLive c g
              → Reads d (place c d g) (place c d s) × IsLive d (place c d g)
          moves g h = (readers.reads g s h.0, (readers.live g).0 h.1)

      all : (g : ℕ) → Reads d g (place c d s) → IsLive d g → Contains (map (place c d) xs) g
      all g r live =
          let own = readers.reads_back g s r in
          let here : IsLive c own.0 = (readers.live own.0).1 (subst (IsLive d) own.1 live) in
          subst (Contains (map (place c d) xs)) (sym own.1)
          (contained (map (place c d) xs) (place c d own.0)
          (among_map (place c d) xs own.0 (among xs own.0 (are.all own.0 own.2 here))))
