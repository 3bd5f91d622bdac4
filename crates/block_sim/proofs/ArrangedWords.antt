-- The facts in words in another order are true of the original circuit.
use Rattle.std.proofs.Common.{◌≡◌, ◌+◌, ◌*◌, ℕ, sym, ◌∙◌, ap, Bool, List, [], ◌∷◌, refl, inl, inr}
use Rattle.std.{proofs.Common.length, specs.Prelude.{Contains, None, Some, map, slice_index_or}}
use Rattle.bench_net.specs.{declared.Sink.Sink, Statement.{Name, Statement}, Circuit.IsWellFormed}
use Rattle.bench_net.specs.Scan.{names, observers, signal}
use Rattle.patterns.specs.Tests.{TestList}
use Rattle.fault_model.specs.{Fault.Fault, Solution.{Solves, Test, shows}}
use Rattle.fault_model.specs.Reordered.{moved_fault, place}
use Rattle.fault_model.proofs.Public.{detected_same_at, looks_back_same, solved_same}
use Rattle.list_lemmas.proofs.Members.{Among}
use Rattle.flat_circuit.specs.{Arranged.IsArranged, BlockSpans.group_of}
use Rattle.flat_circuit.specs.declared.block_span.BlockSpan.{BlockSpan}
use Rattle.flat_circuit.specs.Words.{AreWords, IsFaultFreeWord}
use Rattle.flat_circuit.proofs.Public.{observed_named, reordered, signals_there, well_there}
use Rattle.block_sim.specs.{Flips.AreLanesFor, First.AreDetectingLanes, Propagation.AreShown}
use Rattle.block_sim.{specs.Responses.AreResponses, proofs.EndOfPropagation.told_of_shown}

module _ (c d : List Statement) (well : IsWellFormed c) (arranged : IsArranged c d) where
  solved : (t : Test) (v : Name → Bool) → Solves c t None v → Solves d t None v
  solved t v h = (solved_same c d well (reordered c d well arranged) t None v).0 h

  pub word_there : (tests : List Test) (block s word : ℕ)
      → IsFaultFreeWord d tests block (place c d s) word → IsFaultFreeWord c tests block s word
  word_there tests block s word h k n v lt named solves =
      h k n v lt ((signals_there c d well arranged).named s ∙ named)
      (solved (slice_index_or tests (64 * block + k) []) v solves)

  observers_there : observers d ≡ observers c
  observers_there =
      let same = reordered c d well arranged in
      rw (same.same_outputs, same.same_cells) refl

  -- the signals of the observers, moved
  pub observed_there : map (place c d) (map (λ (o : Sink × Name). signal c o.1) (observers c))
      ≡ map (λ (o : Sink × Name). signal d o.1) (observers d)
  observed_there = go (observers c) (λ o a. observed_named c o well a)
      ∙ ap (map (λ (o : Sink × Name). signal d o.1)) (sym observers_there)
    where
      go : (os : List (Sink × Name)) → ((o : Sink × Name) → Among o os → Contains (names c) o.1)
          → map (place c d) (map (λ (o : Sink × Name). signal c o.1) os)
          ≡ map (λ (o : Sink × Name). signal d o.1) os
      go [] named = refl
      go (o ∷ os) named = rw (
        sym ((signals_there c d well arranged).numbered o.1 (named o (inl refl))),
        go os (λ p a. named p (inr a)),
      ) refl

  pub responses_there : (tests : List Test) (rows : TestList) → AreResponses d tests rows
      → AreResponses c tests rows
  responses_there tests rows h = record {
    width = h.width ∙ ap length observers_there;
    count = h.count;
    each = λ t test v at solves. h.each t test v at (solved test v solves)
        ∙ ap (λ os. Some (map (shows None v) os)) observers_there;
  }

  -- the lanes in which the moved fault is shown have the first tests for the fault
  pub told_there : (tests : List Test) (span : BlockSpan) (f : Fault) (good : List ℕ)
      (lanes seen : ℕ) → AreWords d tests (group_of span) None good
      → AreLanesFor tests span c f lanes → (settled : ℕ → Type 0)
      → AreShown d tests (group_of span) (λ _. moved_fault c d f) good lanes settled seen
      → AreDetectingLanes c tests span f settled seen
  told_there tests span f good lanes seen words decides settled shown =
      let same = reordered c d well arranged in
      let there : AreLanesFor tests span d (moved_fault c d f) lanes = λ k lt.
      let own = decides k lt in
      let back = looks_back_same c d well same tests f.model f.line f.stuck
      (128 * group_of span + k) in
      (λ e. ((own.0 e).0, back.0 (own.0 e).1), λ e. own.1 (e.0, back.1 e.1)) in
      let detection = told_of_shown d tests span (moved_fault c d f) good lanes seen
      (well_there c d well arranged) words there settled shown in
      record {
        found = λ k lt e. (
          (detection.found k lt e).0,
          (detected_same_at c d well same tests f
              (128 * group_of span + k)).1 (detection.found k lt e).1,
        );
        clear = λ k lt own none still at. detection.clear k lt own none still
            ((detected_same_at c d well same tests f (128 * group_of span + k)).0 at);
      }
