-- The statements in an order of signals in which sources ascend: the circuit in another order, in
-- which each signal has its place in the order as its number. Level order is such an order, and a
-- circuit has one level order.
use Rattle.std.proofs.Common.{◌≡◌, ◌<◌, ℕ, zero, suc, refl, sym, ◌∙◌, ap, subst, Bool, true, false}
use Rattle.std.proofs.Common.{List, [], ◌∷◌, ◌++◌, map, length, filter, get_or, arith, inl, inr}
use Rattle.std.{proofs.Common.{◌⊎◌, append-nil}, specs.Prelude.{option_and_then, unwrap_or}}
use Rattle.std.specs.Prelude.{IsPermutation, Option, Some, None, is_some, not, slice_get}
use Rattle.std.specs.{Option.option_map_or, List.{filter_map, cons_option}}
use Rattle.std.proofs.lemmas.{Option.slice_get-get_or, List.Concat.flat_map-append}
use Rattle.std.proofs.lemmas.List.{Elements.filter_map-append, Sorted.Contains-permutation}
use Rattle.std.proofs.lemmas.List.Sorted.{IsPermutation-sym, IsPermutation-trans, IsPermutation-map}
use Rattle.std.proofs.lemmas.List.Sorted.{IsPermutation-filter_both, IsPermutation-append_right}
use Rattle.bench_net.specs.{declared.Kind.Kind, Scan.sources, Circuit.IsWellFormed}
use Rattle.bench_net.specs.Statement.{Name, Statement, Input, Output, Gate, Dff, defined, defines}
use Rattle.bench_net.specs.Scan.{names, name_of, signal, definition, inputs, outputs, cells}
use Rattle.bench_net.specs.Level.{HasLevel, IsLevelOrder, GoesBefore}
use Rattle.bench_net.proofs.Public.{definition_defines, signal-name_of}
use Rattle.list_lemmas.proofs.Members.{Among, among, contained, among_left, among_right}
use Rattle.list_lemmas.proofs.Places.{at_place, within_place}
use Rattle.fault_model.specs.Reordered.{IsReordered, place, in_order, IsOrderedBy, IsSourceAt}
use Rattle.fault_model.{specs.Reordered.IsSignalOrder, proofs.NextFaultLevels.one_level}
use Rattle.fault_model.proofs.SpannedNumbers.{Spans, below, below_within, spans_permuted, Ascending}
use Rattle.fault_model.proofs.SpannedNumbers.{pairwise, pairwise_filter, kept_all, kept_same}
use Rattle.fault_model.proofs.SpannedNumbers.{same_ordered, span_within}
use Rattle.fault_model.proofs.ReorderedNames.{well_reordered}

-- ---- lists of statements

defining_count : (c : List Statement) → length (filter defines c) ≡ length (names c)
defining_count [] = refl
defining_count (Output n ∷ c) = defining_count c
defining_count (Input n ∷ c) = ap suc (defining_count c)
defining_count (Gate n kind args ∷ c) = ap suc (defining_count c)
defining_count (Dff q d ∷ c) = ap suc (defining_count c)

-- the elements of a list at all its places are the list
all_places : {X : Type 0} (xs : List X) → filter_map (slice_get xs) (below (length xs)) ≡ xs
all_places [] = refl
all_places {X} (x ∷ xs) = ap (λ ys. x ∷ ys) (shifted (below (length xs)) ∙ all_places xs)
  where
    shifted : (ks : List ℕ)
        → filter_map (slice_get (x ∷ xs)) (map (λ k. suc k) ks) ≡ filter_map (slice_get xs) ks
    shifted [] = refl
    shifted (k ∷ ks) = rw (shifted ks) refl

-- one partial function after another
joined_partial : {Y Z : Type 0} (g : Y → Option Z) (h : ℕ → Option Y) (xs : List ℕ)
    → filter_map g (filter_map h xs) ≡ filter_map (λ s. option_and_then g (h s)) xs
joined_partial g h [] = refl
joined_partial {Y} {Z} g h (x ∷ xs) = go (h x) refl (joined_partial g h xs)
  where
    go : (o : Option Y) → h x ≡ o
        → filter_map g (filter_map h xs) ≡ filter_map (λ s. option_and_then g (h s)) xs
        → filter_map g (filter_map h (x ∷ xs)) ≡ filter_map (λ s. option_and_then g (h s)) (x ∷ xs)
    go None e rest = rw e rest
    go (Some y) e rest = rw e (ap (cons_option (g y)) rest)

-- what only inputs and cells give comes of the statements that define, and only outputs define
-- nothing
defining_give : {X : Type 0} (g : Statement → Option X) (c : List Statement)
    → ((n : Name) → g (Output n) ≡ None) → filter_map g (filter defines c) ≡ filter_map g c
defining_give g [] none = refl
defining_give g (Output n ∷ c) none = rw (none n) (defining_give g c none)
defining_give g (Input n ∷ c) none = ap (cons_option (g (Input n))) (defining_give g c none)
defining_give g (Gate n kind args ∷ c) none =
    ap (cons_option (g (Gate n kind args))) (defining_give g c none)
defining_give g (Dff q d ∷ c) none = ap (cons_option (g (Dff q d))) (defining_give g c none)

others_give : {X : Type 0} (g : Statement → Option X) (c : List Statement)
    → ((n : Name) → g (Output n) ≡ None) → filter_map g (filter (λ st. not (defines st)) c) ≡ []
others_give g [] none = refl
others_give g (Output n ∷ c) none = rw (none n) (others_give g c none)
others_give g (Input n ∷ c) none = others_give g c none
others_give g (Gate n kind args ∷ c) none = others_give g c none
others_give g (Dff q d ∷ c) none = others_give g c none

others_define : (c : List Statement) → names (filter (λ st. not (defines st)) c) ≡ []
others_define [] = refl
others_define (Output n ∷ c) = others_define c
others_define (Input n ∷ c) = others_define c
others_define (Gate n kind args ∷ c) = others_define c
others_define (Dff q d ∷ c) = others_define c

-- ---- what each kind of statement gives

abbrev input_name : Statement → Option Name
input_name (Input n) = Some n
input_name _ = None

abbrev output_name : Statement → Option Name
output_name (Output n) = Some n
output_name _ = None

abbrev cell_names : Statement → Option (Name × Name)
cell_names (Dff q d) = Some (q, d)
cell_names _ = None

inputs_are : (c : List Statement) → inputs c ≡ filter_map input_name c
inputs_are [] = refl
inputs_are (Input n ∷ c) = ap (λ ns. n ∷ ns) (inputs_are c)
inputs_are (_ ∷ c) = inputs_are c

outputs_are : (c : List Statement) → outputs c ≡ filter_map output_name c
outputs_are [] = refl
outputs_are (Output n ∷ c) = ap (λ ns. n ∷ ns) (outputs_are c)
outputs_are (_ ∷ c) = outputs_are c

cells_are : (c : List Statement) → cells c ≡ filter_map cell_names c
cells_are [] = refl
cells_are (Dff q d ∷ c) = ap (λ at. (q, d) ∷ at) (cells_are c)
cells_are (_ ∷ c) = cells_are c

outputs_kept : (c : List Statement)
    → filter_map output_name (filter (λ st. not (defines st)) c) ≡ filter_map output_name c
outputs_kept [] = refl
outputs_kept (Output n ∷ c) = ap (λ ns. n ∷ ns) (outputs_kept c)
outputs_kept (Input n ∷ c) = outputs_kept c
outputs_kept (Gate n kind args ∷ c) = outputs_kept c
outputs_kept (Dff q d ∷ c) = outputs_kept c

input_among : (c : List Statement) (n : Name) → Among (Input n) c → Among n (inputs c)
input_among [] n a = absurd a
input_among (Input m ∷ c) n (inl e) = let same : m ≡ n = cc in inl same
input_among (Input m ∷ c) n (inr a) = inr (input_among c n a)
input_among (Output m ∷ c) n (inl e) = cc
input_among (Output m ∷ c) n (inr a) = input_among c n a
input_among (Gate m kind args ∷ c) n (inl e) = cc
input_among (Gate m kind args ∷ c) n (inr a) = input_among c n a
input_among (Dff q d ∷ c) n (inl e) = cc
input_among (Dff q d ∷ c) n (inr a) = input_among c n a

cell_among : (c : List Statement) (n x : Name) → Among (Dff n x) c
    → Among n (map (λ cell. cell.0) (cells c))
cell_among [] n x a = absurd a
cell_among (Dff q d ∷ c) n x (inl e) = let same : q ≡ n = cc in inl same
cell_among (Dff q d ∷ c) n x (inr a) = inr (cell_among c n x a)
cell_among (Output m ∷ c) n x (inl e) = cc
cell_among (Output m ∷ c) n x (inr a) = cell_among c n x a
cell_among (Gate m kind args ∷ c) n x (inl e) = cc
cell_among (Gate m kind args ∷ c) n x (inr a) = cell_among c n x a
cell_among (Input m ∷ c) n x (inl e) = cc
cell_among (Input m ∷ c) n x (inr a) = cell_among c n x a

-- ---- an order that names each signal once, and sources by number

module _ (c : List Statement) (order : List ℕ) (is : IsSignalOrder c order) where
  abbrev defining : List Statement
  defining = filter defines c

  spans : Spans (length defining) order
  spans = record {
    count = is.count ∙ sym (defining_count c);
    each = λ s lt. among order s (is.all s (subst (λ n. s < n) (defining_count c) lt));
  }

  permuted : IsPermutation (below (length defining)) order
  permuted = spans_permuted (length defining) order spans

  from_below : (s : ℕ) → Among s (below (length defining)) → Among s order
  from_below s a = among order s (Contains-permutation (below (length defining)) order s permuted
      (contained (below (length defining)) s a))

  into_below : (s : ℕ) → Among s order → Among s (below (length defining))
  into_below s a = among (below (length defining)) s (Contains-permutation order
      (below (length defining)) s (IsPermutation-sym (below (length defining)) order permuted)
      (contained order s a))

  within : (s : ℕ) → Among s order → s < length defining
  within = span_within (length defining) order spans

  -- ---- the statements are the circuit's

  abbrev statement_at : ℕ → Statement
  statement_at s = get_or defining s (Output [])

  all_defining : IsPermutation defining (filter_map (definition c) order)
  all_defining =
      let listed = IsPermutation-map statement_at (below (length defining)) order permuted in
      let first : filter_map (definition c) (below (length defining))
      ≡ map statement_at (below (length defining)) =
      kept_all (definition c) statement_at (below (length defining))
      (λ s a. slice_get-get_or defining s (Output []) (below_within (length defining) s a)) in
      let second : filter_map (definition c) order ≡ map statement_at order =
      kept_all (definition c) statement_at order
      (λ s a. slice_get-get_or defining s (Output []) (within s a)) in
      subst (λ xs. IsPermutation xs (filter_map (definition c) order))
      (sym first ∙ all_places defining)
      (subst (IsPermutation (map statement_at (below (length defining)))) (sym second) listed)

  all_statements : IsPermutation c (in_order c order)
  all_statements =
      let others = filter (λ st. not (defines st)) c in
      IsPermutation-trans c (others ++ defining) (in_order c order)
      (IsPermutation-filter_both (λ st. not (defines st)) defines twice c)
      (IsPermutation-append_right others defining (filter_map (definition c) order) all_defining)
    where
      not_not : (b : Bool) → b ≡ not (not b)
      not_not true = refl
      not_not false = refl

      twice : (st : Statement) → defines st ≡ not (not (defines st))
      twice st = not_not (defines st)

  -- ---- inputs and cells

  module _ {X : Type 0} (g : Statement → Option X) (no_output : (n : Name) → g (Output n) ≡ None)
      (no_gate : (n : Name) (kind : Kind) (args : List Name) → g (Gate n kind args) ≡ None) where
    abbrev given : ℕ → Option X
    given s = option_and_then g (definition c s)

    -- what gives something is a source
    given_source : (s : ℕ) → is_some (given s) ≡ true → IsSourceAt c s
    given_source s some = go (definition c s) refl some
      where
        go : (o : Option Statement) → definition c s ≡ o
            → is_some (option_and_then g (definition c s)) ≡ true → IsSourceAt c s
        go None e some = let bad : false ≡ true = rw e at some in cc
        go (Some (Output n)) e some = let bad : false ≡ true = rw (e, no_output n) at some in cc
        go (Some (Gate n kind args)) e some =
            let bad : false ≡ true = rw (e, no_gate n kind args) at some in cc
        go (Some (Input n)) e some =
            let by = definition_defines c s (Input n) e in
            let same : n ∷ [] ≡ by.0 ∷ [] = by.1 in
            let name : by.0 ≡ n = cc in
            let a = among_left (inputs c) (map (λ cell. cell.0) (cells c)) n
            (input_among c n by.3) in
            (n, by.2 ∙ ap Some name, contained (sources c) n a)
        go (Some (Dff n x)) e some =
            let by = definition_defines c s (Dff n x) e in
            let same : n ∷ [] ≡ by.0 ∷ [] = by.1 in
            let name : by.0 ≡ n = cc in
            let a = among_right (inputs c) (map (λ cell. cell.0) (cells c)) n
            (cell_among c n x by.3) in
            (n, by.2 ∙ ap Some name, contained (sources c) n a)

    ascending : Ascending (filter (λ s. is_some (given s)) order)
    ascending = pairwise_filter (λ s t. IsSourceAt c s → IsSourceAt c t → s < t) (λ s t. s < t)
        (λ s. is_some (given s)) order
        (λ s t one two up. up (given_source s one) (given_source t two))
        (pairwise (λ s t. IsSourceAt c s → IsSourceAt c t → s < t) order is.ascending)

    same_given : filter_map g (in_order c order) ≡ filter_map g c
    same_given =
        filter_map-append g (filter (λ st. not (defines st)) c) (filter_map (definition c) order)
        ∙ (ap (λ xs. xs ++ filter_map g (filter_map (definition c) order))
        (others_give g c no_output) ∙ (joined_partial g (definition c) order
        ∙ (kept_same given (length defining) order into_below from_below ascending
        ∙ (sym (joined_partial g (definition c) (below (length defining)))
        ∙ (ap (filter_map g) (all_places defining) ∙ defining_give g c no_output)))))

  -- ---- outputs

  no_outputs : (xs : List ℕ) → filter_map output_name (filter_map (definition c) xs) ≡ []
  no_outputs [] = refl
  no_outputs (x ∷ xs) = go (definition c x) refl (no_outputs xs)
    where
      go : (o : Option Statement) → definition c x ≡ o
          → filter_map output_name (filter_map (definition c) xs) ≡ []
          → filter_map output_name (filter_map (definition c) (x ∷ xs)) ≡ []
      go None e rest = rw e rest
      go (Some (Input n)) e rest = rw e rest
      go (Some (Gate n kind args)) e rest = rw e rest
      go (Some (Dff q d)) e rest = rw e rest
      go (Some (Output n)) e rest =
          let by = definition_defines c x (Output n) e in
          let bad : [] ≡ by.0 ∷ [] = by.1 in
          cc

  same_outputs : outputs (in_order c order) ≡ outputs c
  same_outputs = outputs_are (in_order c order)
      ∙ (filter_map-append output_name (filter (λ st. not (defines st)) c)
      (filter_map (definition c) order)
      ∙ (ap (λ xs. filter_map output_name (filter (λ st. not (defines st)) c) ++ xs)
      (no_outputs order) ∙ (append-nil (filter_map output_name (filter (λ st. not (defines st)) c))
      ∙ (outputs_kept c ∙ sym (outputs_are c)))))

  reordered : IsReordered c (in_order c order)
  reordered = record {
    statements = all_statements;
    same_inputs = inputs_are (in_order c order)
        ∙ (same_given input_name (λ n. refl) (λ n kind args. refl) ∙ sym (inputs_are c));
    same_outputs = same_outputs;
    same_cells = cells_are (in_order c order)
        ∙ (same_given cell_names (λ n. refl) (λ n kind args. refl) ∙ sym (cells_are c));
  }

  -- ---- places

  named_at : (xs : List ℕ) → ((s : ℕ) → Among s xs → s < length defining) → (i s : ℕ)
      → slice_get xs i ≡ Some s → slice_get (names (filter_map (definition c) xs)) i ≡ name_of c s
  named_at [] lt i s e = let bad : None ≡ Some s = e in cc
  named_at (x ∷ xs) lt i s e = go i e (named_at xs (λ t a. lt t (inr a)))
      (within_place defining x (lt x (inl refl)))
    where
      go : (j : ℕ) → slice_get (x ∷ xs) j ≡ Some s → ((k t : ℕ) → slice_get xs k ≡ Some t
          → slice_get (names (filter_map (definition c) xs)) k ≡ name_of c t)
          → (st : Statement) × (definition c x ≡ Some st)
          → slice_get (names (filter_map (definition c) (x ∷ xs))) j ≡ name_of c s
      go zero at rest p =
          let by = definition_defines c x p.0 p.1 in
          let same : x ≡ s = ap (λ o. unwrap_or o s) at in
          rw (p.1, by.1) (sym by.2 ∙ ap (name_of c) same)
      go (suc j) at rest p =
          let by = definition_defines c x p.0 p.1 in
          rw (p.1, by.1) (rest j s at)

  same_name_at : (i s : ℕ) → slice_get order i ≡ Some s → name_of (in_order c order) i ≡ name_of c s
  same_name_at i s e =
      ap (λ ns. slice_get ns i) (flat_map-append defined (filter (λ st. not (defines st)) c)
      (filter_map (definition c) order)
      ∙ ap (λ ns. ns ++ names (filter_map (definition c) order)) (others_define c))
      ∙ named_at order within i s e

  pub in_signal_order : IsWellFormed c → IsOrderedBy c order
  in_signal_order well = record { reordered = reordered; places = places }
    where
      places : (i s : ℕ) → slice_get order i ≡ Some s → place c (in_order c order) s ≡ i
      places i s e =
          let d = in_order c order in
          let lt : s < length (names c) =
          subst (λ n. s < n) (defining_count c) (within s (at_place order i s e)) in
          let at = within_place (names c) s lt in
          let named : name_of d i ≡ Some at.0 = same_name_at i s e ∙ at.1 in
          let there = contained (names d) at.0 (at_place (names d) i at.0 named) in
          ap (λ o. option_map_or (signal d) o s) at.1
          ∙ signal-name_of d i at.0 (well_reordered c d all_statements well).once named there

-- ---- level order is such an order: sources have level 0, and so go by number

source_level : (c : List Statement) (s k : ℕ) → IsSourceAt c s → HasLevel c s k → k ≡ 0
source_level c s k source h =
    let same : h.1 ≡ source.0 = ap (λ o. unwrap_or o source.0) (sym h.3 ∙ source.1) in
    sym h.4 ∙ (ap h.0 same ∙ h.2.source source.0 source.2)

by_number : (c : List Statement) (s t : ℕ) → GoesBefore c s t → IsSourceAt c s → IsSourceAt c t
    → s < t
by_number c s t before one two = go before.4
  where
    go : (before.0 < before.1) ⊎ ((before.0 ≡ before.1) × (s < t)) → s < t
    go (inl lt) =
        let last : before.1 ≡ 0 = source_level c t before.1 two before.3 in
        absurd (omega (arith, lt, last))
    go (inr p) = p.1

pub level_signal_order : (c : List Statement) (order : List ℕ) → IsLevelOrder c order
    → IsSignalOrder c order
level_signal_order c order is = record {
  all = is.all;
  count = is.count;
  ascending = λ i j d lt len. by_number c _ _ (is.ordered i j d lt len);
}

pub ordered_by_level : (c : List Statement) (order : List ℕ) → IsLevelOrder c order
    → IsWellFormed c → IsOrderedBy c order
ordered_by_level c order is = in_signal_order c order (level_signal_order c order is)

-- ---- there is one level order

module _ (c : List Statement) (well : IsWellFormed c) where
  one_level_of : (s j k : ℕ) → HasLevel c s j → HasLevel c s k → j ≡ k
  one_level_of s j k p q =
      let same : q.1 ≡ p.1 = ap (λ o. unwrap_or o p.1) (sym q.3 ∙ p.3) in
      sym p.4 ∙ (one_level c well p.0 q.0 p.2 q.2 p.1 (at_place (names c) s p.1 p.3)
      ∙ (ap q.0 (sym same) ∙ q.4))

  one_way : (s t : ℕ) → GoesBefore c s t → GoesBefore c t s → ⊥
  one_way s t p q = go p.4 q.4
    where
      first : p.0 ≡ q.1
      first = one_level_of s p.0 q.1 p.2 q.3

      second : p.1 ≡ q.0
      second = one_level_of t p.1 q.0 p.3 q.2

      go : (p.0 < p.1) ⊎ ((p.0 ≡ p.1) × (s < t)) → (q.0 < q.1) ⊎ ((q.0 ≡ q.1) × (t < s)) → ⊥
      go (inl lt) (inl more) = omega (arith, lt, more, first, second)
      go (inl lt) (inr e) = let same = e.0 in omega (arith, lt, same, first, second)
      go (inr e) (inl lt) = let same = e.0 in omega (arith, lt, same, first, second)
      go (inr e) (inr g) = let lt = e.1 in let more = g.1 in omega (arith, lt, more)

  into_level_order : (a b : List ℕ) → IsLevelOrder c a → IsLevelOrder c b → (s : ℕ) → Among s a
      → Among s b
  into_level_order a b p q s at =
      let lt = within c a (level_signal_order c a p) s at in
      among b s (q.all s (subst (λ n. s < n) (defining_count c) lt))

  pub one_level_order : (a b : List ℕ) → IsLevelOrder c a → IsLevelOrder c b → a ≡ b
  one_level_order a b p q =
      same_ordered (GoesBefore c) one_way a b (pairwise (GoesBefore c) a p.ordered)
      (pairwise (GoesBefore c) b q.ordered) (into_level_order a b p q) (into_level_order b a q p)
