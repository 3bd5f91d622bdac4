-- Below the level every signal has its true bit.
use Rattle.std.proofs.Common.{◌≡◌, ◌≢◌, ◌<◌, ◌≤◌, ℕ, zero, suc, refl, sym, ◌∙◌, ap, Bool, true}
use Rattle.std.proofs.{Common.{List, arith, inl, inr, ◌⊎◌}, lemmas.Bool.cases_eq}
use Rattle.std.specs.Prelude.{Some, slice_index_or, map}
use Rattle.bench_net.specs.{Statement.{Name, Statement, Gate}, Circuit.IsWellFormed}
use Rattle.bench_net.{specs.Scan.{names, signal, sources, inputs, cells}, proofs.Public.read_named}
use Rattle.list_lemmas.proofs.Members.{Among, among, contained, among_left, among_right}
use Rattle.list_lemmas.proofs.Places.{placed}
use Rattle.fault_model.specs.declared.Line.TheVariants as line
use Rattle.fault_model.specs.{Fault.Fault, Solution.{Test, Solves, under, value}}
use Rattle.fault_model.proofs.Public.{Driven, driven, pins_agree}
use Rattle.flat_circuit.specs.{Words.{lane, test_of}, Readers.Reads}
use Rattle.block_sim.specs.{Events.{bits_of, HasEquation}, Propagation.IsBalanced}

module _ (c : List Statement) (counts : ℕ → Type 0) (closed : (g s : ℕ) → Reads c g s → counts g
    → counts s) (tests : List Test) (group : ℕ) (f : ℕ → Fault) (good : List ℕ) (mask : ℕ)
    (delta at : List ℕ) (balanced : IsBalanced c counts tests group f good mask delta at) where
  module _ (lv : ℕ → ℕ) (level : ℕ) (well : IsWellFormed c) (rises : (g s : ℕ) → Reads c g s
      → lv s < lv g) (not_below : (g : ℕ) → slice_index_or at g 0 ≢ 0 → level ≤ lv g)
      (k : ℕ) (lt : k < 128) (in_mask : lane mask k ≡ true) (v : Name
      → Bool) (solves : Solves c (test_of tests group k) (Some (f k)) v) where
    idle_below : (s : ℕ) → lv s < level → slice_index_or at s 0 ≡ 0
    idle_below s low = go (cases_eq (slice_index_or at s 0) 0)
      where
        go : (slice_index_or at s 0 ≡ 0) ⊎ (slice_index_or at s 0 ≢ 0) → slice_index_or at s 0 ≡ 0
        go (inl e) = e
        go (inr ne) = let h = not_below s ne in absurd (omega (arith, h, low))

    -- a signal whose equation holds has its true bit if the signals that it reads have theirs
    right_here : (n : Name) → Among n (names c) → counts (signal c n)
        → slice_index_or at (signal c n) 0 ≡ 0
        → ((a : Name) → Reads c (signal c n) (signal c a) → Among a (names c)
        → bits_of c good delta k a ≡ v a) → bits_of c good delta k n ≡ v n
    right_here n a is_counted idle below = go (driven c n a)
      where
        equation : HasEquation c (test_of tests group k) (Some (f k)) (bits_of c good delta k)
            (signal c n)
        equation = balanced (signal c n) k is_counted idle lt in_mask

        by_source : Among n (sources c) → bits_of c good delta k n ≡ v n
        by_source x = let p = placed (sources c) n x in equation.source p.0 n refl p.1
            ∙ sym (solves.source p.0 n p.1)

        go : Driven c n → bits_of c good delta k n ≡ v n
        go (inl x) = by_source (among_left (inputs c) (map (λ cell. cell.0) (cells c)) n x)
        go (inr (inl x)) = by_source (among_right (inputs c) (map (λ cell. cell.0) (cells c)) n x)
        go (inr (inr x)) =
            let gate = contained c (Gate n x.0 x.1) x.2 in
            equation.gate n x.0 x.1 refl gate
            ∙ (ap (λ bits. under (Some (f k)) (line.Stem (signal c n)) (value x.0 bits))
            (pins_agree (Some (f k)) (bits_of c good delta k) v (signal c n) 0 x.1
            (λ m h. below m (record {
              name = n;
              kind = x.0;
              args = x.1;
              read = m;
              gate = gate;
              number = refl;
              reads = contained x.1 m h;
              of = refl;
            }) (among (names c) m (read_named c (Gate n x.0 x.1) m well x.2 h))))
            ∙ sym (solves.gate n x.0 x.1 gate))

    below_bound : (bound : ℕ) (n : Name) → Among n (names c) → counts (signal c n)
        → lv (signal c n) < bound → lv (signal c n) < level → bits_of c good delta k n ≡ v n
    below_bound zero n a is_counted low under_level = absurd (omega (arith, low))
    below_bound (suc bound) n a is_counted low under_level =
        right_here n a is_counted (idle_below (signal c n) under_level)
        (λ m r in_names. let up = rises (signal c n) (signal c m) r in
        below_bound bound m in_names (closed (signal c n) (signal c m) r is_counted)
        (omega (arith, up, low)) (omega (arith, up, under_level)))

    -- every signal that counts, of this level or a lower one, and does not wait has its true bit
    pub right_by_now : (n : Name) → Among n (names c) → counts (signal c n)
        → lv (signal c n) ≤ level → slice_index_or at (signal c n) 0 ≡ 0
        → bits_of c good delta k n ≡ v n
    right_by_now n a is_counted low idle = right_here n a is_counted idle
        (λ m r in_names. let up = rises (signal c n) (signal c m) r in
        below_bound level m in_names (closed (signal c n) (signal c m) r is_counted)
        (omega (arith, up, low)) (omega (arith, up, low)))
