-- Statements in another order: the same signals by other numbers.
use Rattle.std.proofs.Common.{◌≡◌, ◌<◌, ◌≤◌, ℕ, refl, sym, ◌∙◌, ap, subst, List, [], ◌∷◌, length}
use Rattle.std.{proofs.Common.{get_or, map, arith, inl, inr, ◌⊎◌}, specs.Option.option_map_or}
use Rattle.std.specs.Prelude.{Contains, Option, Some, None, option_map, ◌↔◌}
use Rattle.std.proofs.lemmas.Option.{slice_get_cases, slice_get_past}
use Rattle.std.proofs.lemmas.List.Sorted.{Contains-permutation, IsPermutation-sym}
use Rattle.bench_net.specs.Statement.{Name, Statement, Gate, Input, Dff, Output, defined}
use Rattle.bench_net.specs.Scan.{names, name_of, signal, definition, gate_of, gate_line, sources}
use Rattle.bench_net.specs.{Circuit.IsWellFormed, Level.{AreLevels, HasLevel}}
use Rattle.bench_net.proofs.Public.{name_of-signal, signal-name_of, definition_defines, read_named}
use Rattle.list_lemmas.proofs.Members.{Among, contained}
use Rattle.list_lemmas.proofs.Places.{at_place, place_within, within_place}
use Rattle.fault_model.proofs.SignalsDefined.{definition-signal, signal_apart}
use Rattle.fault_model.proofs.ReorderedNames.{well_reordered, length_reordered, given_reordered}
use Rattle.fault_model.specs.Reordered.{IsReordered, place, moved_gate, HasSameSignals}

module _ (c d : List Statement) (well : IsWellFormed c) (is : IsReordered c d) where
  pub well_there : IsWellFormed d
  well_there = well_reordered c d is.statements well

  pub stands_there : (st : Statement) → Contains c st → Contains d st
  stands_there st at = Contains-permutation c d st is.statements at

  pub stands_back : (st : Statement) → Contains d st → Contains c st
  stands_back st at = Contains-permutation d c st (IsPermutation-sym c d is.statements) at

  pub same_sources : sources d ≡ sources c
  same_sources = cc (is.same_inputs, is.same_cells)

  count : length (names d) ≡ length (names c)
  count = length_reordered defined c d is.statements

  pub named_to : (n : Name) → Contains (names c) n → Contains (names d) n
  named_to n at = given_reordered defined c d n is.statements at

  -- a number is a signal's, or past them all and the same in both lists
  pub data Moves (s : ℕ) : Type 0 where
    of : (n : Name) → Contains (names c) n → name_of c s ≡ Some n → place c d s ≡ signal d n
        → Moves s
    past : length (names c) ≤ s → name_of c s ≡ None → place c d s ≡ s → Moves s

  pub moves : (s : ℕ) → Moves s
  moves s = go (name_of c s) refl
    where
      go : (o : Option Name) → name_of c s ≡ o → Moves s
      go (Some n) e = of n (contained (names c) n (at_place (names c) s n e)) e
          (ap (λ o. option_map_or (signal d) o s) e)
      go None e = past (beyond (slice_get_cases (names c) s).1) e
          (ap (λ o. option_map_or (signal d) o s) e)
        where
          beyond : ((n : Name) × (s < length (names c)) × (name_of c s ≡ Some n)
              × (get_or (names c) s n ≡ n))
              ⊎ ((length (names c) ≤ s) × (name_of c s ≡ None)) → length (names c) ≤ s
          beyond (inl p) = let bad : Some p.0 ≡ None = sym p.2 ∙ e in cc
          beyond (inr p) = p.0

  -- no two numbers move to one
  pub apart : (s t : ℕ) → place c d s ≡ place c d t → s ≡ t
  apart s t e = go (moves s) (moves t)
    where
      below : (n : Name) → Contains (names c) n → signal d n < length (names c)
      below n at =
          let lt = place_within (names d) (signal d n) n (name_of-signal d n (named_to n at)) in
          omega (arith, lt, count)

      go : Moves s → Moves t → s ≡ t
      go (of n at named to_n) (of m there other to_m) =
          let same : n ≡ m =
          signal_apart d n m (named_to n at) (named_to m there) (sym to_n ∙ (e ∙ to_m)) in
          sym (signal-name_of c s n well.once named at)
          ∙ (ap (signal c) same ∙ signal-name_of c t m well.once other there)
      go (of n at named to_n) (past le none stays) =
          let lt = below n at in
          let bad : signal d n ≡ t = sym to_n ∙ (e ∙ stays) in
          absurd (omega (arith, lt, le, bad))
      go (past le none stays) (of m there other to_m) =
          let lt = below m there in
          let bad : signal d m ≡ s = sym to_m ∙ (sym e ∙ stays) in
          absurd (omega (arith, lt, le, bad))
      go (past le none stays) (past more nothing stays_too) = sym stays ∙ (e ∙ stays_too)

  pub same_name : (s : ℕ) → name_of d (place c d s) ≡ name_of c s
  same_name s = go (moves s)
    where
      go : Moves s → name_of d (place c d s) ≡ name_of c s
      go (of n at named to_n) =
          ap (name_of d) to_n ∙ (name_of-signal d n (named_to n at) ∙ sym named)
      go (past le none stays) =
          let beyond : length (names d) ≤ s = omega (arith, le, count) in
          ap (name_of d) stays ∙ (slice_get_past (names d) s beyond ∙ sym none)

  pub numbered : (n : Name) → Contains (names c) n → signal d n ≡ place c d (signal c n)
  numbered n at = sym (ap (λ o. option_map_or (signal d) o (signal c n)) (name_of-signal c n at))

  pub named_back : (n : Name) → Contains (names d) n → Contains (names c) n
  named_back n at = given_reordered defined d c n (IsPermutation-sym c d is.statements) at

  -- each number of a signal in the second list is one that moved there
  pub onto : (s : ℕ) → s < length (names d) → (t : ℕ) × (t < length (names c)) × (s ≡ place c d t)
  onto s lt =
      let at = within_place (names d) s lt in
      let there = contained (names d) at.0 (at_place (names d) s at.0 at.1) in
      let here = named_back at.0 there in
      let own = name_of-signal c at.0 here in (
        signal c at.0,
        place_within (names c) (signal c at.0) at.0 own,
        sym (signal-name_of d s at.0 well_there.once at.1 there) ∙ numbered at.0 here,
      )

  -- ---- the definition of a signal

  pub same_definition : (s : ℕ) → definition d (place c d s) ≡ definition c s
  same_definition s = go (definition c s) (definition d (place c d s)) refl refl
    where
      go : (o p : Option Statement) → definition c s ≡ o → definition d (place c d s) ≡ p
          → definition d (place c d s) ≡ definition c s
      go (Some st) p e g =
          let by = definition_defines c s st e in
          let stands = contained c st by.3 in
          let there : place c d s ≡ signal d by.0 = ap (λ o. option_map_or (signal d) o s) by.2 in
          ap (definition d) there
          ∙ (definition-signal d st by.0 well_there (stands_there st stands) by.1 ∙ sym e)
      go None None e g = g ∙ sym e
      go None (Some st) e g =
          let by = definition_defines d (place c d s) st g in
          let stands = stands_back st (contained d st by.3) in
          let named : name_of c s ≡ Some by.0 = sym (same_name s) ∙ by.2 in
          let at : Contains (names c) by.0 =
          contained (names c) by.0 (at_place (names c) s by.0 named) in
          let number : signal c by.0 ≡ s = signal-name_of c s by.0 well.once named at in
          let bad : Some st ≡ None =
          sym (definition-signal c st by.0 well stands by.1) ∙ (ap (definition c) number ∙ e) in
          cc

  arguments_moved : (args : List Name) → ((a : Name) → Among a args → Contains (names c) a)
      → map (signal d) args ≡ map (place c d) (map (signal c) args)
  arguments_moved [] known = refl
  arguments_moved (a ∷ args) known =
      let first = numbered a (known a (inl refl)) in
      let rest = arguments_moved args (λ b h. known b (inr h)) in
      cc

  same_gate : (s : ℕ) → gate_of d (place c d s) ≡ option_map (moved_gate c d) (gate_of c s)
  same_gate s = ap (gate_line d) (same_definition s) ∙ go (definition c s) refl
    where
      go : (o : Option Statement) → definition c s ≡ o → gate_line d (definition c s)
          ≡ option_map (moved_gate c d) (gate_line c (definition c s))
      go None e = rw e refl
      go (Some (Input n)) e = rw e refl
      go (Some (Output n)) e = rw e refl
      go (Some (Dff q x)) e = rw e refl
      go (Some (Gate n kind args)) e =
          let by = definition_defines c s (Gate n kind args) e in
          rw e (ap (λ xs. Some (kind, xs)) (arguments_moved args
          (λ a h. read_named c (Gate n kind args) a well by.3 h)))

  -- ---- levels

  levels_to : (level : Name → ℕ) → AreLevels c level → AreLevels d level
  levels_to level are = record {
    source = λ n at. are.source n (subst (λ ns. Contains ns n) same_sources at);
    gate = λ n kind args at. are.gate n kind args (stands_back (Gate n kind args) at);
  }

  levels_back : (level : Name → ℕ) → AreLevels d level → AreLevels c level
  levels_back level are = record {
    source = λ n at. are.source n (subst (λ ns. Contains ns n) (sym same_sources) at);
    gate = λ n kind args at. are.gate n kind args (stands_there (Gate n kind args) at);
  }

  same_level : (s level : ℕ) → HasLevel c s level ↔ HasLevel d (place c d s) level
  same_level s level = (
    λ h. (h.0, h.1, levels_to h.0 h.2, same_name s ∙ h.3, h.4),
    λ h. (h.0, h.1, levels_back h.0 h.2, sym (same_name s) ∙ h.3, h.4),
  )

  pub same_signals : HasSameSignals c d
  same_signals = record {
    count = count;
    apart = apart;
    onto = onto;
    named = same_name;
    numbered = numbered;
    gates = same_gate;
    levels = same_level;
  }
