-- The signals in level order: each once, and the pins of a gate before it.
use Rattle.std.proofs.Common.{◌≡◌, ◌<◌, ◌≤◌, ℕ, zero, suc, ◌+◌, refl, sym, ◌∙◌, ap, List, [], ◌∷◌}
use Rattle.std.proofs.{Common.{length, arith, inl, inr, ◌⊎◌}, lemmas.List.Elements.Contains-get_or}
use Rattle.std.specs.Prelude.{Contains, Some, map, slice_index_or}
use Rattle.bench_net.specs.{declared.Kind.Kind, Statement.{Name, Statement, Gate}}
use Rattle.bench_net.specs.{Scan.{names, signal, sources, inputs, cells}, Circuit.IsWellFormed}
use Rattle.bench_net.specs.Level.{AreLevels, HasLevel, IsLevelOrder, GoesBefore, greatest}
use Rattle.bench_net.proofs.Public.{name_of-signal, read_named}
use Rattle.list_lemmas.proofs.Members.{Among, among, contained, among_left, among_right, among_map}
use Rattle.fault_model.proofs.Public.{Driven, driven, below_fold, defined_among, Spans, span_within}

order_spans : (c : List Statement) (order : List ℕ) → IsLevelOrder c order
    → Spans (length (names c)) order
order_spans c order h = record { count = h.count; each = λ s lt. among order s (h.all s lt) }

pub order_within : (c : List Statement) (order : List ℕ) (i : ℕ) → IsLevelOrder c order
    → i < length order → slice_index_or order i 0 < length (names c)
order_within c order i h lt = span_within (length (names c)) order (order_spans c order h)
    (slice_index_or order i 0) (among order (slice_index_or order i 0)
    (Contains-get_or order i 0 lt))

maps_agree : (f g : Name → ℕ) (ns : List Name) → ((n : Name) → Among n ns → f n ≡ g n)
    → map f ns ≡ map g ns
maps_agree f g [] same = refl
maps_agree f g (n ∷ ns) same = rw (
  same n (inl refl),
  maps_agree f g ns (λ m a. same m (inr a)),
) refl

module _ (c : List Statement) (well : IsWellFormed c) where
  -- a signal has one level
  levels_below : (f g : Name → ℕ) → AreLevels c f → AreLevels c g → (bound : ℕ) (n : Name)
      → well.acyclic.0 n < bound → Among n (names c) → f n ≡ g n
  levels_below f g p q zero n lt a = absurd (omega (arith, lt))
  levels_below f g p q (suc bound) n lt a = go (levels_below f g p q bound) (driven c n a)
    where
      go : ((m : Name) → well.acyclic.0 m < bound → Among m (names c) → f m ≡ g m) → Driven c n
          → f n ≡ g n
      go ih (inl x) =
          let at : Contains (sources c) n =
          contained (sources c) n (among_left (inputs c) (map (λ cell. cell.0) (cells c)) n x) in
          p.source n at ∙ sym (q.source n at)
      go ih (inr (inl x)) =
          let at : Contains (sources c) n =
          contained (sources c) n (among_right (inputs c) (map (λ cell. cell.0) (cells c)) n x) in
          p.source n at ∙ sym (q.source n at)
      go ih (inr (inr x)) =
          let at : Contains c (Gate n x.0 x.1) = contained c (Gate n x.0 x.1) x.2 in
          p.gate n x.0 x.1 at ∙ (ap (λ levels. 1 + greatest levels) (maps_agree f g x.1 same)
          ∙ sym (q.gate n x.0 x.1 at))
        where
          same : (m : Name) → Among m x.1 → f m ≡ g m
          same m h =
              let lower : well.acyclic.0 m < well.acyclic.0 n = well.acyclic.1 n m (
                x.0,
                x.1,
                contained c (Gate n x.0 x.1) x.2,
                contained x.1 m h,
              ) in
              ih m (omega (arith, lt, lower))
              (among (names c) m (read_named c (Gate n x.0 x.1) m well x.2 h))

  pub one_level : (f g : Name → ℕ) (n : Name) → AreLevels c f → AreLevels c g → Among n (names c)
      → f n ≡ g n
  one_level f g n p q a = levels_below f g p q (suc (well.acyclic.0 n)) n (omega arith) a

  -- a signal goes before a gate that reads it, never after
  pub not_before : (n a : Name) (kind : Kind) (args : List Name) → Among (Gate n kind args) c
      → Among a args → GoesBefore c (signal c n) (signal c a) → ⊥
  not_before n a kind args gate reads before = go before.0 before.1 before.2 before.3 before.4
    where
      gate_named : Contains (names c) n
      gate_named = contained (names c) n (defined_among c (Gate n kind args) n gate refl)

      pin_named : Contains (names c) a
      pin_named = read_named c (Gate n kind args) a well gate reads

      go : (j k : ℕ) → HasLevel c (signal c n) j → HasLevel c (signal c a) k
          → (j < k) ⊎ ((j ≡ k) × (signal c n < signal c a)) → ⊥
      go j k high low order = by_order order
        where
          is_n : high.1 ≡ n
          is_n = let e : Some high.1 ≡ Some n = sym high.3 ∙ name_of-signal c n gate_named in cc

          is_a : low.1 ≡ a
          is_a = let e : Some low.1 ≡ Some a = sym low.3 ∙ name_of-signal c a pin_named in cc

          level_n : high.0 n ≡ j
          level_n = ap high.0 (sym is_n) ∙ high.4

          level_a : high.0 a ≡ k
          level_a = one_level high.0 low.0 a high.2 low.2 (among (names c) a pin_named)
              ∙ (ap low.0 (sym is_a) ∙ low.4)

          above : high.0 n ≡ 1 + greatest (map high.0 args)
          above = high.2.gate n kind args (contained c (Gate n kind args) gate)

          most : high.0 a ≤ greatest (map high.0 args)
          most = below_fold (map high.0 args) 0 (high.0 a) (among_map high.0 args a reads)

          by_order : (j < k) ⊎ ((j ≡ k) × (signal c n < signal c a)) → ⊥
          by_order (inl lt) = omega (arith, lt, level_n, level_a, above, most)
          by_order (inr e) = let same : j ≡ k = e.0 in omega (
            arith,
            same,
            level_n,
            level_a,
            above,
            most,
          )
