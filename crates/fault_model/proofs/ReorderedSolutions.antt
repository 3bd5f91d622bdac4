-- Statements in another order: the same valuations solve, and the same tests detect a fault.
use Rattle.std.proofs.Common.{◌≡◌, ℕ, zero, suc, refl, sym, ◌∙◌, ap, subst, Bool, false, ◌&&◌, List}
use Rattle.std.proofs.Common.{[], ◌∷◌, ◌+◌, map, ◌==◌, arith, inl, inr, ◌⊎◌, if◌then◌else◌}
use Rattle.std.specs.Prelude.{◌↔◌, Contains, Option, Some, None, option_map, slice_get}
use Rattle.std.specs.{Prelude.slice_index_or, List.enumerate_from}
use Rattle.std.proofs.lemmas.Bool.Decides.{nat_tests}
use Rattle.bench_net.specs.{declared.Kind.Kind, declared.Sink.Sink, Circuit.IsWellFormed}
use Rattle.bench_net.specs.Statement.{Name, Statement, Gate}
use Rattle.bench_net.specs.Scan.{names, signal, sources, observers, outputs, cells}
use Rattle.bench_net.specs.declared.Sink.TheVariants as sink
use Rattle.list_lemmas.proofs.Members.{Among, among, contained, among_append, mapped_from}
use Rattle.list_lemmas.proofs.Places.{at_place}
use Rattle.fault_model.proofs.SignalsDefined.{defined_among, source_named}
use Rattle.fault_model.specs.declared.{Line.Line, Model.Model}
use Rattle.fault_model.specs.declared.Model.TheVariants.{StuckAt, Transition, TransitionPairs}
use Rattle.fault_model.specs.Fault.{Fault, branch, same_line}
use Rattle.fault_model.specs.Solution.{Test, under, sees, pins_see, shows, value}
use Rattle.fault_model.specs.Detection.{name_on, argument, IsInitialized, LooksBack}
use Rattle.fault_model.specs.Reordered.{IsReordered, place, moved_line, moved_fault, IsSolvedSame}
use Rattle.fault_model.specs.Reordered.{IsDetectedSame, HasSameBits, IsDetectedSameAt}
use Rattle.fault_model.proofs.ReorderedSignals.{apart, numbered, same_name, same_definition}
use Rattle.fault_model.proofs.ReorderedSignals.{same_sources, stands_there, stands_back}
use Rattle.fault_model.specs.declared.Line.TheVariants as line

-- two numbers are equal exactly if the numbers that they move to are
same_test : (f : ℕ → ℕ) → ((s t : ℕ) → f s ≡ f t → s ≡ t) → (s t : ℕ) → (f s == f t) ≡ (s == t)
same_test f one s t =
    let only : f s ≡ f t → s ≡ t = one s t in
    let all : s ≡ t → f s ≡ f t = ap f in
    grind (arith, nat_tests, only, all)

module _ (c d : List Statement) (well : IsWellFormed c) (is : IsReordered c d) where
  same_place : (s t : ℕ) → (place c d s == place c d t) ≡ (s == t)
  same_place = same_test (place c d) (apart c d well is)

  same_moved : (l k : Line) → same_line (moved_line c d l) (moved_line c d k) ≡ same_line l k
  same_moved (line.Stem s) (line.Stem t) = same_place s t
  same_moved (line.Pin g k) (line.Pin h j) = ap (λ b. b && (k == j)) (same_place g h)
  same_moved (line.Data i) (line.Data j) = refl
  same_moved (line.Out i) (line.Out j) = refl
  same_moved _ _ = refl

  pub under_moved : (f : Option Fault) (l : Line) (bit : Bool)
      → under (option_map (moved_fault c d) f) (moved_line c d l) bit ≡ under f l bit
  under_moved None l bit = refl
  under_moved (Some f) l bit = ap (λ b. if b then f.stuck else bit) (same_moved f.line l)

  -- ---- solutions

  stem_moved : (f : Option Fault) (n : Name) (bit : Bool) → Contains (names c) n
      → under (option_map (moved_fault c d) f) (line.Stem (signal d n)) bit
      ≡ under f (line.Stem (signal c n)) bit
  stem_moved f n bit at =
      ap (λ s. under (option_map (moved_fault c d) f) (line.Stem s) bit) (numbered c d well is n at)
      ∙ under_moved f (line.Stem (signal c n)) bit

  pins_moved : (f : Option Fault) (v : Name → Bool) (gate : ℕ) (from : ℕ) (args : List Name)
      → map (λ at. sees (option_map (moved_fault c d) f) v (line.Pin (place c d gate) at.0) at.1)
      (enumerate_from from args)
      ≡ map (λ at. sees f v (line.Pin gate at.0) at.1) (enumerate_from from args)
  pins_moved f v gate from [] = refl
  pins_moved f v gate from (a ∷ args) =
      let first = under_moved f (line.Pin gate from) (v a) in
      let rest = pins_moved f v gate (from + 1) args in
      cc

  gate_moved : (f : Option Fault) (v : Name → Bool) (n : Name) (kind : Kind) (args : List Name)
      → Contains (names c) n → under (option_map (moved_fault c d) f) (line.Stem (signal d n))
      (value kind (pins_see (option_map (moved_fault c d) f) v (signal d n) args))
      ≡ under f (line.Stem (signal c n)) (value kind (pins_see f v (signal c n) args))
  gate_moved f v n kind args at =
      let pins : pins_see (option_map (moved_fault c d) f) v (signal d n) args
      ≡ pins_see f v (signal c n) args =
      ap (λ s. pins_see (option_map (moved_fault c d) f) v s args) (numbered c d well is n at)
      ∙ pins_moved f v (signal c n) 0 args in
      ap (λ bits. under (option_map (moved_fault c d) f) (line.Stem (signal d n)) (value kind bits))
      pins ∙ stem_moved f n (value kind (pins_see f v (signal c n) args)) at

  source_known : (i : ℕ) (n : Name) → slice_get (sources c) i ≡ Some n → Contains (names c) n
  source_known i n e = contained (names c) n (source_named c n (at_place (sources c) i n e))

  gate_known : (n : Name) (kind : Kind) (args : List Name) → Contains c (Gate n kind args)
      → Contains (names c) n
  gate_known n kind args at = contained (names c) n
      (defined_among c (Gate n kind args) n (among c (Gate n kind args) at) refl)

  pub solved_same : IsSolvedSame c d
  solved_same t f v = (
    λ p. record {
      source = λ i n e.
          let here : slice_get (sources c) i ≡ Some n =
          ap (λ ns. slice_get ns i) (sym (same_sources c d well is)) ∙ e in
          p.source i n here
          ∙ sym (stem_moved f n (slice_index_or t i false) (source_known i n here));
      gate = λ n kind args at.
          let here = stands_back c d well is (Gate n kind args) at in
          p.gate n kind args here ∙ sym (gate_moved f v n kind args (gate_known n kind args here));
    },
    λ p. record {
      source = λ i n e. p.source i n (ap (λ ns. slice_get ns i) (same_sources c d well is) ∙ e)
          ∙ stem_moved f n (slice_index_or t i false) (source_known i n e);
      gate = λ n kind args at. p.gate n kind args (stands_there c d well is (Gate n kind args) at)
          ∙ gate_moved f v n kind args (gate_known n kind args at);
    },
  )

  -- ---- detection

  same_observers : observers d ≡ observers c
  same_observers = rw (is.same_outputs, is.same_cells) refl

  -- the branch of an observer has its number in both lists
  stays : (o : Sink × Name) → Contains (observers c) o → moved_line c d (branch o.0) ≡ branch o.0
  stays o at = go (among_append (map (λ x. (sink.Out x.0, x.1)) (enumerate_from 0 (outputs c)))
      (map (λ x. (sink.Data x.0, x.1.1)) (enumerate_from 0 (cells c))) o (among (observers c) o at))
    where
      go : Among o (map (λ x. (sink.Out x.0, x.1)) (enumerate_from 0 (outputs c)))
          ⊎ Among o (map (λ x. (sink.Data x.0, x.1.1)) (enumerate_from 0 (cells c)))
          → moved_line c d (branch o.0) ≡ branch o.0
      go (inl h) =
          let p = mapped_from (λ x. (sink.Out x.0, x.1)) (enumerate_from 0 (outputs c)) o h in
          subst (λ k. moved_line c d (branch k.0) ≡ branch k.0) p.2 refl
      go (inr h) =
          let p = mapped_from (λ x. (sink.Data x.0, x.1.1)) (enumerate_from 0 (cells c)) o h in
          subst (λ k. moved_line c d (branch k.0) ≡ branch k.0) p.2 refl

  shows_same : (f : Option Fault) (v : Name → Bool) (o : Sink × Name) → Contains (observers c) o
      → shows (option_map (moved_fault c d) f) v o ≡ shows f v o
  shows_same f v o at =
      ap (λ l. under (option_map (moved_fault c d) f) l (v o.1)) (sym (stays o at))
      ∙ under_moved f (branch o.0) (v o.1)

  pub detected_same : IsDetectedSame c d
  detected_same t f = (
    λ h. (
      h.0,
      h.1,
      h.2,
      (solved_same t None h.0).0 h.3,
      (solved_same t (Some f) h.1).0 h.4,
      subst (λ os. Contains os h.2) (sym same_observers) h.5,
      λ e. h.6 (e ∙ shows_same (Some f) h.1 h.2 h.5),
    ),
    λ h. let seen = subst (λ os. Contains os h.2) same_observers h.5 in (
      h.0,
      h.1,
      h.2,
      (solved_same t None h.0).1 h.3,
      (solved_same t (Some f) h.1).1 h.4,
      seen,
      λ e. h.6 (e ∙ sym (shows_same (Some f) h.1 h.2 seen)),
    ),
  )

  -- ---- a list of tests

  carried_same : (l : Line) → name_on d (moved_line c d l) ≡ name_on c l
  carried_same (line.Stem s) = same_name c d well is s
  carried_same (line.Pin gate pin) = ap (λ o. argument o pin) (same_definition c d well is gate)
  carried_same (line.Data i) = rw is.same_cells refl
  carried_same (line.Out o) = rw is.same_outputs refl

  pub same_bits : HasSameBits c d
  same_bits t l b = (
    λ h. (h.0, h.1, (solved_same t None h.0).0 h.2, carried_same l ∙ h.3, h.4),
    λ h. (h.0, h.1, (solved_same t None h.0).1 h.2, sym (carried_same l) ∙ h.3, h.4),
  )

  initialized_same : (tests : List Test) (l : Line) (b : Bool) (t : ℕ)
      → IsInitialized c tests l b t ↔ IsInitialized d tests (moved_line c d l) b t
  initialized_same tests l b zero = (λ h. h, λ h. h)
  initialized_same tests l b (suc t) =
      (λ h. (h.0, h.1, (same_bits h.0 l b).0 h.2), λ h. (h.0, h.1, (same_bits h.0 l b).1 h.2))

  pub looks_back_same : (tests : List Test) (m : Model) (l : Line) (b : Bool) (t : ℕ)
      → LooksBack c tests m l b t ↔ LooksBack d tests m (moved_line c d l) b t
  looks_back_same tests StuckAt l b t = (λ h. h, λ h. h)
  looks_back_same tests Transition l b t = initialized_same tests l b t
  looks_back_same tests TransitionPairs l b t =
      let same = initialized_same tests l b t in
      (λ h. (h.0, same.0 h.1), λ h. (h.0, same.1 h.1))

  pub detected_same_at : IsDetectedSameAt c d
  detected_same_at tests f t =
      let back_alike = looks_back_same tests f.model f.line f.stuck t in (
        λ h. (h.0, h.1, (detected_same h.0 f).0 h.2, back_alike.0 h.3),
        λ h. (h.0, h.1, (detected_same h.0 f).1 h.2, back_alike.1 h.3),
      )
