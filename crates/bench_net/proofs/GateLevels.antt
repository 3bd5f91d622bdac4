-- Levels and stuck gates of a statement list, by the numbers of its signals.
use Rattle.std.proofs.Common.{◌≡◌, ◌≢◌, ◌<◌, ◌≤◌, ◌+◌, ◌==◌, ℕ, max, sym, ◌∙◌, ap, subst, refl}
use Rattle.std.proofs.Common.{Bool, true, List, [], ◌∷◌, map, length, get_or, filter, arith, inl}
use Rattle.std.{proofs.Common.inr, specs.Prelude.bytes_eq, specs.List.list_any}
use Rattle.std.specs.Prelude.{Option, Some, None, slice_index, slice_index_or, Contains, AllPairs}
use Rattle.std.proofs.lemmas.{Bool.{eq-eqb, eqb-true}, List.Elements.Contains-get_or}
use Rattle.std.proofs.lemmas.List.Sums.{passes_at_first}
use Rattle.std.proofs.lemmas.List.{length-map, same_lists, get_or-map, get_or_default}
use Rattle.std.proofs.lemmas.Option.{slice_get-get_or, slice_get_within}
use Rattle.bench_net.specs.{declared.Kind.Kind, Scan.{cells, sources}, Rows.{AreRows, rows_before}}
use Rattle.bench_net.specs.Statement.{Name, Statement, Input, Gate, Output, Dff, defined, defines}
use Rattle.bench_net.specs.Scan.{names, signal, name_of, definition, gate_line, gate_of, inputs}
use Rattle.bench_net.specs.Circuit.{HasArgument, HaveArities, IsNumbering, IsStuckSet, IsStuck}
use Rattle.bench_net.specs.Level.{greatest, AreLevels, HasLevel, IsLevelOrder, HasDepth}
use Rattle.bench_net.specs.Marks.{pins_in, AreLevelsOf, HaveLevels, no_signal, one_more, IsStuckAt}
use Rattle.bench_net.proofs.Names.{any_true, same_bytes, at_position, definition_defines}
use Rattle.bench_net.proofs.{Names.signal-name_of, Reader.some_args}
use Rattle.bench_net.proofs.LevelSearch.{greatest-cons, greatest-among, one_level}
use Rattle.bench_net.proofs.KeyRows.{place_listed, places_below, places_ordered}
use Rattle.list_lemmas.proofs.Members.{Among, among, contained, some_passes, among_filter}
use Rattle.list_lemmas.proofs.Members.{among_append, among_map, among_joined, mapped_from}
use Rattle.list_lemmas.proofs.Places.{placed}

-- the signals that the gate of a signal reads
abbrev pub pins : List Statement → ℕ → List ℕ
pins c s = pins_in (gate_of c s)

-- a source is an input's name, or a cell's q
pub of_input : (c : List Statement) (n : Name) → Among n (inputs c) → Among (Input n) c
of_input [] n a = absurd a
of_input (_ ∷ c) n a = grind (arith, a, of_input c n)

pub of_cell : (c : List Statement) (n : Name) → Among n (map (λ cell. cell.0) (cells c))
    → (d : Name) × Among (Dff n d) c
of_cell [] n a = absurd a
of_cell (Dff q d ∷ c) n (inl e) = (d, inl (ap (λ x. Dff x d) e))
of_cell (Dff q d ∷ c) n (inr a) = let at = of_cell c n a in (at.0, inr at.1)
of_cell (_ ∷ c) n a = let at = of_cell c n a in (at.0, inr at.1)

pub source_statement : (c : List Statement) (n : Name) → Among n (sources c)
    → (st : Statement) × Among st c × (defined st ≡ n ∷ [])
    × ((b : List Statement) → gate_line b (Some st) ≡ None)
source_statement c n a =
    let cases = among_append (inputs c) (map (λ cell. cell.0) (cells c)) n a in
    grind (arith, of_input c n, of_cell c n, cases)

pub named : (c : List Statement) (st : Statement) (n : Name) → Among st c → defined st ≡ n ∷ []
    → Among n (names c)
named c st n a d = among_joined defined c st n a (rw d (inl refl))

pub signal_below : (c : List Statement) (n : Name) → Among n (names c)
    → signal c n < length (names c)
signal_below c n a = slice_get_within (names c) (signal c n) n (at_position (names c) n a)

defines_some : (st : Statement) (n : Name) → defined st ≡ n ∷ [] → defines st ≡ true
defines_some (Output m) n d = cc
defines_some _ n d = refl

-- a number below the number of names is the number of only its name
pub named_number : (c : List Statement) (n : Name) (s : ℕ) → signal c n ≡ s
    → s < length (names c) → name_of c s ≡ Some n
named_number c n s is lt =
    let first = passes_at_first (bytes_eq n) (names c) [] in
    grind (arith, is, lt, first, same_bytes n, slice_get-get_or (names c) (signal c n) [])

module _ (c : List Statement) (once : AllPairs (λ m n. m ≢ n) (names c)) where
  -- ---- the gate of a signal

  defined_at : (st : Statement) (n : Name) → Among st c → defined st ≡ n ∷ []
      → definition c (signal c n) ≡ Some st
  defined_at st n a d =
      let at = placed (filter defines c) st (among_filter defines c st a (defines_some st n d)) in
      let own = definition_defines c at.0 st at.1 in
      let inside = contained (names c) n (named c st n a d) in
      grind (arith, own.1, own.2, at.1, d, inside, signal-name_of c at.0 n once)

  pins_at : (n : Name) (kind : Kind) (args : List Name) → Among (Gate n kind args) c
      → pins c (signal c n) ≡ map (signal c) args
  pins_at n kind args a = ap (λ st. pins_in (gate_line c st))
      (defined_at (Gate n kind args) n a refl)

  -- each signal that the gate of a name reads is an argument of it
  argument : (m : Name) (p : ℕ) → Among p (pins c (signal c m))
      → (a : Name) × HasArgument c m a × (signal c a ≡ p)
  argument m p a = go (definition c (signal c m)) refl a
    where
      go : (o : Option Statement) → definition c (signal c m) ≡ o
          → Among p (pins_in (gate_line c o)) → (a : Name) × HasArgument c m a × (signal c a ≡ p)
      go (Some (Gate n kind args)) e b =
          let own = definition_defines c (signal c m) (Gate n kind args) e in
          let within = slice_get_within (names c) (signal c m) own.0 in
          let number = named_number c m (signal c m) refl in
          let same : n ≡ m = grind (arith, own.1, own.2, number, within) in
          let at = mapped_from (signal c) args p b in
          let here = subst (λ x. Contains c (Gate x kind args)) same (contained c _ own.3) in
          (at.0, (kind, args, here, contained args at.0 at.1), at.2)
      go _ e b = absurd b

  -- ---- stuck gates

  pub stuck_name : (s : ℕ) (n : Name) → signal c n ≡ s → IsStuckAt (pins c) s → IsStuck c n
  stuck_name s n is stuck =
      (λ m. list_any (λ i. i == signal c m) stuck.0, set, member n (rw (sym is) at stuck.2))
    where
      member : (m : Name) → Among (signal c m) stuck.0
          → list_any (λ i. i == signal c m) stuck.0 ≡ true
      member m a = any_true _ stuck.0 _ (contained stuck.0 _ a) (eq-eqb (signal c m) _ refl)

      set : IsStuckSet c (λ m. list_any (λ i. i == signal c m) stuck.0)
      set m inside =
          let found = some_passes (λ i. i == signal c m) stuck.0 inside in
          let number : found.0 ≡ signal c m = eqb-true found.0 (signal c m) found.2 in
          let next = stuck.1 (signal c m) (rw number at (among stuck.0 found.0 found.1)) in
          let arg = argument m next.0 next.1 in
          (arg.0, arg.1, member arg.0 (rw (sym arg.2) at next.2))

  -- no signal with a level is stuck
  unstuck : (members : Name → Bool) → IsStuckSet c members → (ps : List ℕ) (k : ℕ)
      → HaveLevels (pins c) ps k → (m : Name) → Among (signal c m) ps → members m ≡ true → ⊥
  unstuck members set ps k no_signal m a inside = absurd a
  unstuck members set ps k (one_more q qs i b _ here rest is) m a inside =
      let next = set m inside in
      let arg = next.1 in
      let gate = pins_at m arg.0 arg.1 (among c (Gate m arg.0 arg.1) arg.2) in
      let reads = among_map (signal c) arg.1 next.0 (among arg.1 next.0 arg.3) in
      let one = unstuck members set qs b rest m in
      let other = unstuck members set (pins c q) i here next.0 in
      grind (arith, a, gate, reads, next.2, one, other)

  pub not_stuck : (s k : ℕ) (n : Name) → signal c n ≡ s → HaveLevels (pins c) (pins c s) k
      → ¬ IsStuck c n
  not_stuck s k n is has stuck =
      unstuck stuck.0 stuck.1 (s ∷ []) (max (1 + k) 0) (one_more s [] k 0 _ has no_signal refl) n
      (inl (sym is)) stuck.2

  -- ---- levels

  module _ (arities : HaveArities c) (levels : List ℕ)
      (are : AreLevelsOf (pins c) (length (names c)) levels) where
    abbrev level : Name → ℕ
    level n = slice_index levels (signal c n)

    -- the level above arguments by the table
    above : (args : List Name) (k : ℕ) → HaveLevels (pins c) (map (signal c) args) k
        → ((a : Name) → Among a args → HaveLevels (pins c) (pins c (signal c a)) (level a))
        → 1 ≤ length args → k ≡ 1 + greatest (map level args)
    above [] k has at some = absurd (omega (arith, some))
    above (a ∷ []) k (one_more _ _ i _ _ here no_signal is) at some =
        omega (arith, is, one_level _ i (level a) here (at a (inl refl)))
    above (a ∷ b ∷ args) k (one_more _ _ i j _ here rest is) at some =
        let above_rest = above (b ∷ args) j rest (λ d m. at d (inr m)) (omega arith) in
        let more = greatest-cons (level a) (map level (b ∷ args)) in
        omega (arith, is, above_rest, more, one_level _ i (level a) here (at a (inl refl)))

    pub levels_are : AreLevels c level
    levels_are = record {
      source = λ n has.
          let st = source_statement c n (among (sources c) n has) in
          let has = are.each (signal c n) (signal_below c n (named c st.0 n st.1 st.2)) in
          one_level [] (level n) 0 (rw (defined_at st.0 n st.1 st.2, st.3 c) at has) no_signal;
      gate = λ n kind args has.
          let a = among c (Gate n kind args) has in
          let below = signal_below c n (named c (Gate n kind args) n a refl) in
          let pins = pins_at n kind args a in
          above args (level n) (rw pins at (are.each (signal c n) below))
          (λ b m. are.of_pins (signal c n) (signal c b) (rw pins (among_map (signal c) args b m)))
          (some_args kind args (arities n kind args has));
    }

    -- levels number the names along every gate
    pub numbering : IsNumbering c level
    numbering n a h =
        let most = greatest-among (map level h.1) _ (among_map level h.1 a (among h.1 a h.3)) in
        omega (arith, levels_are.gate n h.0 h.1 h.2, most)

    of_name : (s : ℕ) → s < length (names c)
        → level (slice_index_or (names c) s []) ≡ slice_index levels s
    of_name s lt = ap (slice_index levels) (signal-name_of c s _ once
        (slice_get-get_or (names c) s [] lt) (Contains-get_or (names c) s [] lt))

    pub has_level : (s : ℕ) → s < length (names c) → HasLevel c s (slice_index levels s)
    has_level s lt = (level, _, levels_are, slice_get-get_or (names c) s [] lt, of_name s lt)

    pub has_depth : (depth : ℕ) → depth ≡ greatest levels → HasDepth c depth
    has_depth depth is = (level, levels_are, ap greatest same ∙ sym is)
      where
        same : map level (names c) ≡ levels
        same =
            let count = length-map (names c) level in
            let all = λ (k : ℕ). get_or-map level (names c) k [] in
            same_lists _ levels (count ∙ sym are.count)
            (λ k d lt. let read = get_or_default levels k 0 d in
            grind (arith, count, are.count, of_name k, all k d, read))

    pub level_order : (order starts : List ℕ) (count : ℕ) → AreRows levels count starts order
        → ((i : ℕ) → i < length levels → get_or levels i 0 < count) → IsLevelOrder c order
    level_order order starts count rows below = record {
      all = λ s lt.
          let listed = place_listed levels (length starts) s in
          rw rows.places_are (grind (arith, are.count, below s, rows.starts_count, listed));
      count = ap length rows.places_are ∙ (rows.starts_are.all ∙ are.count);
      ordered = rw rows.places_are (λ a b d less lt.
          let sorted = rows_before levels (length starts) in
          let order = places_ordered levels (length starts) a b d less lt in
          let has = λ (i : ℕ) (in_rows : i < length sorted). has_level (get_or sorted i d)
          (omega (arith, (places_below levels (length starts) i d in_rows).0, are.count)) in
          (_, _, has a (omega (arith, less, lt)), has b lt, order));
    }
