-- The readers of signals, gate by gate and pin by pin.
use Rattle.std.proofs.Common.{◌≡◌, ◌≢◌, ◌<◌, ◌≤◌, ◌+◌, ◌∙◌, ℕ, refl, sym, ap, subst, List, [], ◌∷◌}
use Rattle.std.proofs.{Common.{◌++◌, length, arith, inl, inr, set, map, ◌⊎◌}, lemmas.Bool.cases_eq}
use Rattle.std.specs.Prelude.{All, Contains, None, Option, Some, slice_get, slice_index_or}
use Rattle.std.{specs.Prelude.unwrap_or, proofs.lemmas.List.length-set}
use Rattle.std.proofs.lemmas.List.Elements.{All-append, All-nil, Contains-get_or}
use Rattle.std.proofs.lemmas.Option.{get_or_from_slice_get}
use Rattle.bench_net.specs.{declared.Kind.Kind, Statement.{Statement, Gate}, Circuit.IsWellFormed}
use Rattle.bench_net.{specs.Scan.{gate_of, names, signal}, proofs.Public.signal-name_of}
use Rattle.list_lemmas.proofs.Members.{Among, among, among_left, among_map, among_right, contained}
use Rattle.list_lemmas.proofs.Members.{mapped_from}
use Rattle.list_lemmas.proofs.Places.{place_within, placed, within_place, at_place}
use Rattle.flat_circuit.{specs.Readers.Reads, proofs.Public.{gate_at, set_here, set_there}}
use Rattle.block_sim.proofs.Public.{gate_named_of_signal_equations}
use Rattle.blocking_pins.specs.Effects.{HaveReadersBelow}

-- the readers below a gate, and the gate for the first of the signals that its pins read
pub record HaveReadersIn (c : List Statement) (g : ℕ) (items : List ℕ) (i : ℕ)
    (rows : List (List ℕ)) : Type 0 where
  pub below : HaveReadersBelow c g rows
  pub own : (j s : ℕ) (row : List ℕ) → j < i → slice_get items j ≡ Some s
      → slice_get rows s ≡ Some row → Contains row g

before_or : (i n : ℕ) → i < n + 1 → (i < n) ⊎ (i ≡ n)
before_or i n lt = grind (arith, lt)

same_some : {X : Type 0} (x y : X) → Some x ≡ Some y → x ≡ y
same_some x y e = cc

pub readers_none : (c : List Statement) (rows : List (List ℕ)) → length rows ≡ length (names c)
    → All (λ row. row ≡ []) rows → HaveReadersBelow c 0 rows
readers_none c rows count empty = record {
  count = count;
  each = λ s row at.
      let lt = place_within rows s row at in
      let is : row ≡ [] = sym (get_or_from_slice_get rows s row row at) ∙ empty s row lt in
      subst (All (λ g. Reads c g s)) (sym is) (All-nil (λ g. Reads c g s));
  all = λ g s row lt. absurd (omega (arith, lt));
}

-- a source is no reader
pub readers_source : (c : List Statement) (g : ℕ) (rows : List (List ℕ)) → IsWellFormed c
    → gate_of c g ≡ None → HaveReadersBelow c g rows → HaveReadersBelow c (g + 1) rows
readers_source c g rows well none h = record {
  count = h.count;
  each = h.each;
  all = λ r s row lt reads at. go r s row reads at (before_or r g lt);
}
  where
    go : (r s : ℕ) (row : List ℕ) → Reads c r s → slice_get rows s ≡ Some row
        → (r < g) ⊎ (r ≡ g) → Contains row r
    go r s row reads at (inl lt) = h.all r s row lt reads at
    go r s row reads at (inr same) =
        let gate = gate_named_of_signal_equations c reads.name reads.kind reads.args g well
        (reads.number ∙ same) reads.gate in
        let bad : None ≡ Some (reads.kind, map (signal c) reads.args) = sym none ∙ gate in cc

module _ (c : List Statement) (g : ℕ) (kind : Kind) (items : List ℕ) (well : IsWellFormed c)
    (is : gate_of c g ≡ Some (kind, items)) where
  pub readers_begin : (rows : List (List ℕ)) → HaveReadersBelow c g rows
      → HaveReadersIn c g items 0 rows
  readers_begin rows h = record { below = h; own = λ j s row lt. absurd (omega (arith, lt)) }

  -- the gate reads the signal of each pin
  pub reads_pin : (i s : ℕ) → slice_get items i ≡ Some s → Reads c g s
  reads_pin i s at =
      let own = gate_at c g kind items is in
      let a = subst (λ l. Among s l) (sym own.reads) (at_place items i s at) in
      let from = mapped_from (signal c) own.args s a in
      record {
        name = own.name;
        kind = kind;
        args = own.args;
        read = from.0;
        gate = contained c (Gate own.name kind own.args) own.stands;
        number = signal-name_of c g own.name well.once own.named
            (contained (names c) own.name (at_place (names c) g own.name own.named));
        reads = contained own.args from.0 from.1;
        of = from.2;
      }

  pub readers_more : (i s : ℕ) (rows : List (List ℕ)) (old : List ℕ)
      → slice_get items i ≡ Some s → slice_get rows s ≡ Some old → HaveReadersIn c g items i rows
      → HaveReadersIn c g items (i + 1) (set rows s (old ++ g ∷ []))
  readers_more i s rows old at there h = record {
    below = record {
      count = length-set rows s new ∙ h.below.count;
      each = λ t row here. each t row here (cases_eq t s);
      all = λ r t row lt reads here. all r t row lt reads here (cases_eq t s);
    };
    own = λ j t row lt reads here. own j t row reads here (before_or j i lt) (cases_eq t s);
  }
    where
      new : List ℕ
      new = old ++ g ∷ []

      within : s < length rows
      within = place_within rows s old there

      new_at : (t : ℕ) (row : List ℕ) → slice_get (set rows s (old ++ g ∷ [])) t ≡ Some row → t ≡ s
          → row ≡ old ++ g ∷ []
      new_at t row here same = same_some row (old ++ g ∷ []) (sym here
          ∙ (ap (slice_get (set rows s (old ++ g ∷ []))) same
          ∙ set_here rows s (old ++ g ∷ []) within))

      kept_at : (t : ℕ) (row : List ℕ) → slice_get (set rows s (old ++ g ∷ [])) t ≡ Some row
          → t ≢ s → slice_get rows t ≡ Some row
      kept_at t row here ne = sym (set_there rows s t (old ++ g ∷ []) ne) ∙ here

      each : (t : ℕ) (row : List ℕ) → slice_get (set rows s (old ++ g ∷ [])) t ≡ Some row
          → (t ≡ s) ⊎ (t ≢ s) → All (λ x. Reads c x t) row
      each t row here (inr ne) = h.below.each t row (kept_at t row here ne)
      each t row here (inl same) = subst (λ x. All (λ y. Reads c y x) row) (sym same)
          (subst (All (λ y. Reads c y s)) (sym (new_at t row here same))
          (All-append (λ y. Reads c y s) old (g ∷ []) (h.below.each s old there)
          (λ k d lt. last k d lt)))
        where
          last : (k d : ℕ) → k < length (g ∷ []) → Reads c (slice_index_or (g ∷ []) k d) s
          last k d lt = let first : k ≡ 0 = omega (arith, lt) in
              subst (λ x. Reads c (slice_index_or (g ∷ []) x d) s) (sym first) (reads_pin i s at)

      grown : (t : ℕ) (row : List ℕ) (r : ℕ)
          → slice_get (set rows s (old ++ g ∷ [])) t ≡ Some row → (t ≡ s) ⊎ (t ≢ s)
          → ((before : List ℕ) → slice_get rows t ≡ Some before → Contains before r)
          → Contains row r
      grown t row r here (inr ne) has = has row (kept_at t row here ne)
      grown t row r here (inl same) has = subst (λ l. Contains l r) (sym (new_at t row here same))
          (contained (old ++ g ∷ []) r (among_left old (g ∷ []) r (among old r
          (has old (ap (slice_get rows) same ∙ there)))))

      all : (r t : ℕ) (row : List ℕ) → r < g → Reads c r t
          → slice_get (set rows s (old ++ g ∷ [])) t ≡ Some row → (t ≡ s) ⊎ (t ≢ s) → Contains row r
      all r t row lt reads here case =
          grown t row r here case (λ before at'. h.below.all r t before lt reads at')

      own : (j t : ℕ) (row : List ℕ) → slice_get items j ≡ Some t
          → slice_get (set rows s (old ++ g ∷ [])) t ≡ Some row → (j < i) ⊎ (j ≡ i)
          → (t ≡ s) ⊎ (t ≢ s) → Contains row g
      own j t row reads here (inl lt) case =
          grown t row g here case (λ before at'. h.own j t before lt reads at')
      own j t row reads here (inr same) case =
          let is_s : t ≡ s = same_some t s (sym reads ∙ (ap (slice_get items) same ∙ at)) in
          subst (λ l. Contains l g) (sym (new_at t row here is_s))
          (contained (old ++ g ∷ []) g (among_right old (g ∷ []) g (inl refl)))

  pub readers_all : (i : ℕ) (rows : List (List ℕ)) → length items ≤ i
      → HaveReadersIn c g items i rows → HaveReadersBelow c (g + 1) rows
  readers_all i rows le h = record {
    count = h.below.count;
    each = h.below.each;
    all = λ r s row lt reads at. go r s row reads at (before_or r g lt);
  }
    where
      go : (r s : ℕ) (row : List ℕ) → Reads c r s → slice_get rows s ≡ Some row
          → (r < g) ⊎ (r ≡ g) → Contains row r
      go r s row reads at (inl lt) = h.below.all r s row lt reads at
      go r s row reads at (inr same) =
          let gate = gate_named_of_signal_equations c reads.name reads.kind reads.args g well
          (reads.number ∙ same) reads.gate in
          let pair : (kind, items) ≡ (reads.kind, map (signal c) reads.args) =
          ap (λ o. unwrap_or o (kind, items)) (sym is ∙ gate) in
          let mapped : items ≡ map (signal c) reads.args = ap (λ p. p.1) pair in
          let a : Among (signal c reads.read) (map (signal c) reads.args) =
          among_map (signal c) reads.args reads.read (among reads.args reads.read reads.reads) in
          let there = placed items s (subst (λ l. Among s l) (sym mapped)
          (subst (λ x. Among x (map (signal c) reads.args)) reads.of a)) in
          let lt = place_within items there.0 s there.1 in
          subst (Contains row) (sym same) (h.own there.0 s row (omega (arith, lt, le)) there.1 at)
