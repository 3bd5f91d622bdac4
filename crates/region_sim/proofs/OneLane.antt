-- One lane of a simulation by events: a test, and a signal that starts complemented. Which signals
-- differ stands apart from how lanes are laid out in words.
use Rattle.std.proofs.Common.{◌≡◌, ◌≢◌, ◌<◌, ◌≤◌, ℕ, zero, suc, refl, sym, ◌∙◌, ap, subst, Bool}
use Rattle.std.proofs.Common.{true, false, not, List, arith, inl, inr, ◌⊎◌}
use Rattle.std.specs.Prelude.{Contains, Some, None, slice_index_or, map}
use Rattle.std.proofs.lemmas.Bool.{cases_eq, false≢true}
use Rattle.bench_net.specs.{Statement.{Name, Statement, Gate}, Circuit.IsWellFormed}
use Rattle.bench_net.{specs.Scan.{names, signal, sources, inputs, cells}, proofs.Public.read_named}
use Rattle.list_lemmas.proofs.Members.{Among, among, contained, among_left, among_right}
use Rattle.list_lemmas.proofs.Places.{placed}
use Rattle.fault_model.specs.declared.Line.TheVariants as line
use Rattle.fault_model.specs.{Fault.Fault, Solution.{Test, Solves, under, value}}
use Rattle.fault_model.proofs.Public.{Driven, driven, pins_agree}
use Rattle.flat_circuit.{specs.Readers.{IsLive, IsRising, Reads}, proofs.Public.unlike}
use Rattle.block_sim.specs.{Events.{HasEquation, IsElsewhere}, Propagation.Counts}
use Rattle.block_sim.proofs.Public.{counts_closed, reader_live, each_equation, equation_elsewhere}
use Rattle.block_sim.proofs.Public.{equation_same}
pub use Rattle.std.proofs.lemmas.Bool.{cases_Bool as bit_cases}

-- the bits of a valuation, but complemented where a signal differs
abbrev pub differing : List Statement → (Name → Bool) → (ℕ → Bool) → Name → Bool
differing c v d n = unlike (v n) (d (signal c n))

-- the signals below have their bits, and those of this level and above wait
abbrev pub self : ℕ → ℕ
self s = s

-- What is true in a lane at a moment: for a signal that starts complemented, and as long as the
-- lane is followed. Gates of the level and above are not evaluated yet.
pub record IsLane (c : List Statement) (t : Test) (f : Fault) (start : ℕ) (v : Name → Bool)
    (at : List ℕ) (level : ℕ) (kept : Bool) (d : ℕ → Bool) : Type 0 where
  pub balanced : kept ≡ true → (s : ℕ) → Counts c self start s → slice_index_or at s 0 ≡ 0
      → HasEquation c t (Some f) (differing c v d) s
  pub starts : kept ≡ true → d start ≡ true
  pub from_start : (s : ℕ) → d s ≡ true → start ≤ s
  pub above_clear : (s : ℕ) → level ≤ s → s ≢ start → d s ≡ false
  pub right : (s : ℕ) → d s ≡ true → (n : Name) (w : Name → Bool) → Contains (names c) n
      → signal c n ≡ s → Solves c t (Some f) w → differing c v d n ≡ w n

pub kept_bit : (a : Bool) → unlike a false ≡ a
kept_bit true = refl
kept_bit false = refl

pub turned_bit : (a : Bool) → unlike a true ≡ not a
turned_bit true = refl
turned_bit false = refl

pub same_bit : (a b : Bool) → unlike a b ≡ a → b ≡ false
same_bit true true e = sym e
same_bit true false e = refl
same_bit false true e = e
same_bit false false e = refl

pub turned_back : (a b : Bool) → b ≡ true → a ≢ unlike a b
turned_back true b e h = let n : true ≡ not b = h in absurd (false≢true (sym (ap not e) ∙ sym n))
turned_back false b e h = let n : false ≡ b = h in absurd (false≢true (n ∙ e))

module _ (c : List Statement) (well : IsWellFormed c) (rising : IsRising c) (t : Test) (f : Fault)
    (start : ℕ) (v : Name → Bool) (elsewhere : (s : ℕ) → s ≢ start → IsElsewhere f s)
    (free : Solves c t None v) where
  -- the equation of a signal depends on where it and the signals that it reads differ
  pub equation_like : (d e : ℕ → Bool) (s : ℕ) → d s ≡ e s → ((p : ℕ) → Reads c s p → d p ≡ e p)
      → HasEquation c t (Some f) (differing c v d) s → HasEquation c t (Some f) (differing c v e) s
  equation_like d e s own read h = equation_same c t (Some f) (differing c v d) (differing c v e) s
      (λ n number. ap (unlike (v n)) (ap d number ∙ (own ∙ sym (ap e number))))
      (λ n a kind args number at there. ap (unlike (v a)) (read (signal c a) (record {
        name = n;
        kind = kind;
        args = args;
        read = a;
        gate = at;
        number = number;
        reads = there;
        of = refl;
      }))) h

  -- where neither a signal nor what it reads differs
  pub equation_free : (d : ℕ → Bool) (s : ℕ) → s ≢ start → d s ≡ false
      → ((p : ℕ) → Reads c s p → d p ≡ false) → HasEquation c t (Some f) (differing c v d) s
  equation_free d s ne own read = equation_elsewhere c t f (differing c v d) s (elsewhere s ne)
      (equation_same c t None v (differing c v d) s
      (λ n number. sym (ap (unlike (v n)) (ap d number ∙ own) ∙ kept_bit (v n)))
      (λ n a kind args number at there. sym (ap (unlike (v a)) (read (signal c a) (record {
        name = n;
        kind = kind;
        args = args;
        read = a;
        gate = at;
        number = number;
        reads = there;
        of = refl;
      })) ∙ kept_bit (v a))) (each_equation c t None v free s))

  -- ---- below the level every signal that counts has its true bit
  module _ (at : List ℕ) (d : ℕ → Bool) (level : ℕ)
      (balanced : (s : ℕ) → Counts c self start s → slice_index_or at s 0 ≡ 0
      → HasEquation c t (Some f) (differing c v d) s)
      (not_below : (g : ℕ) → slice_index_or at g 0 ≢ 0 → level ≤ g) (w : Name → Bool)
      (solves : Solves c t (Some f) w) where
    idle_below : (s : ℕ) → s < level → slice_index_or at s 0 ≡ 0
    idle_below s low = go (cases_eq (slice_index_or at s 0) 0)
      where
        go : (slice_index_or at s 0 ≡ 0) ⊎ (slice_index_or at s 0 ≢ 0) → slice_index_or at s 0 ≡ 0
        go (inl e) = e
        go (inr ne) = let h = not_below s ne in absurd (omega (arith, h, low))

    right_here : (n : Name) → Among n (names c) → Counts c self start (signal c n)
        → slice_index_or at (signal c n) 0 ≡ 0
        → ((a : Name) → Reads c (signal c n) (signal c a) → Among a (names c)
        → differing c v d a ≡ w a) → differing c v d n ≡ w n
    right_here n a is_counted idle below = go (driven c n a)
      where
        equation : HasEquation c t (Some f) (differing c v d) (signal c n)
        equation = balanced (signal c n) is_counted idle

        by_source : Among n (sources c) → differing c v d n ≡ w n
        by_source x = let p = placed (sources c) n x in equation.source p.0 n refl p.1
            ∙ sym (solves.source p.0 n p.1)

        go : Driven c n → differing c v d n ≡ w n
        go (inl x) = by_source (among_left (inputs c) (map (λ cell. cell.0) (cells c)) n x)
        go (inr (inl x)) = by_source (among_right (inputs c) (map (λ cell. cell.0) (cells c)) n x)
        go (inr (inr x)) =
            let gate = contained c (Gate n x.0 x.1) x.2 in
            equation.gate n x.0 x.1 refl gate
            ∙ (ap (λ bits. under (Some f) (line.Stem (signal c n)) (value x.0 bits))
            (pins_agree (Some f) (differing c v d) w (signal c n) 0 x.1 (λ m h. below m (record {
              name = n;
              kind = x.0;
              args = x.1;
              read = m;
              gate = gate;
              number = refl;
              reads = contained x.1 m h;
              of = refl;
            }) (among (names c) m (read_named c (Gate n x.0 x.1) m well x.2 h))))
            ∙ sym (solves.gate n x.0 x.1 gate))

    below_bound : (bound : ℕ) (n : Name) → Among n (names c) → Counts c self start (signal c n)
        → signal c n < bound → signal c n < level → differing c v d n ≡ w n
    below_bound zero n a is_counted low under_level = absurd (omega (arith, low))
    below_bound (suc bound) n a is_counted low under_level =
        right_here n a is_counted (idle_below (signal c n) under_level)
        (λ m r in_names. let up = rising (signal c n) (signal c m) r in
        below_bound bound m in_names
        (counts_closed c self start rising (signal c n) (signal c m) r is_counted)
        (omega (arith, up, low)) (omega (arith, up, under_level)))

    pub right_by_now : (n : Name) → Among n (names c) → Counts c self start (signal c n)
        → signal c n ≤ level → slice_index_or at (signal c n) 0 ≡ 0 → differing c v d n ≡ w n
    right_by_now n a is_counted low idle = right_here n a is_counted idle
        (λ m r in_names. let up = rising (signal c n) (signal c m) r in
        below_bound level m in_names
        (counts_closed c self start rising (signal c n) (signal c m) r is_counted)
        (omega (arith, up, low)) (omega (arith, up, low)))

  -- ---- the start: one signal differs, and its live readers wait
  pub lane_first : (at : List ℕ) (level : ℕ) (d : ℕ → Bool) → ((s : ℕ) → d s ≡ true → s ≡ start)
      → (d start ≡ true → (s : ℕ) → Reads c s start → IsLive c s → slice_index_or at s 0 ≢ 0)
      → (d start ≡ true → HasEquation c t (Some f) (differing c v d) start)
      → (d start ≡ true → (n : Name) (w : Name → Bool) → Contains (names c) n
      → signal c n ≡ start → Solves c t (Some f) w → differing c v d n ≡ w n)
      → IsLane c t f start v at level (d start) d
  lane_first at level d only waits own right = record {
    balanced = λ on s is_counted idle. here on s is_counted idle (cases_eq s start);
    starts = λ on. on;
    from_start = λ s on. let e = only s on in omega (arith, e);
    above_clear = λ s le ne. off s ne (bit_cases (d s));
    right = λ s on. subst (λ x. (n : Name) (w : Name → Bool) → Contains (names c) n
        → signal c n ≡ x → Solves c t (Some f) w → differing c v d n ≡ w n) (sym (only s on))
        (right (ap d (sym (only s on)) ∙ on));
  }
    where
      off : (s : ℕ) → s ≢ start → (d s ≡ true) ⊎ (d s ≡ false) → d s ≡ false
      off s ne (inl on) = absurd (ne (only s on))
      off s ne (inr e) = e

      here : d start ≡ true → (s : ℕ) → Counts c self start s → slice_index_or at s 0 ≡ 0
          → (s ≡ start) ⊎ (s ≢ start) → HasEquation c t (Some f) (differing c v d) s
      here on s is_counted idle (inl e) = subst (HasEquation c t (Some f) (differing c v d)) (sym e)
          (own on)
      here on s is_counted idle (inr ne) = equation_free d s ne (off s ne (bit_cases (d s)))
          (λ p reads. pin p reads (cases_eq p start))
        where
          pin : (p : ℕ) → Reads c s p → (p ≡ start) ⊎ (p ≢ start) → d p ≡ false
          pin p reads (inl e) =
              let r : Reads c s start = subst (Reads c s) e reads in
              absurd (waits on s r (reader_live c self start rising start s (omega arith) is_counted
              r) idle)
          pin p reads (inr other) = off p other (bit_cases (d p))

  -- ---- fewer lanes are followed, and no gate waits before a place
  pub lane_narrower : (at : List ℕ) (level : ℕ) (kept less : Bool) (d : ℕ → Bool)
      → (less ≡ true → kept ≡ true) → IsLane c t f start v at level kept d
      → IsLane c t f start v at level less d
  lane_narrower at level kept less d within h = record {
    balanced = λ on. h.balanced (within on);
    starts = λ on. h.starts (within on);
    from_start = h.from_start;
    above_clear = h.above_clear;
    right = h.right;
  }

  pub lane_higher : (at : List ℕ) (level next : ℕ) (kept : Bool) (d : ℕ → Bool) → level ≤ next
      → IsLane c t f start v at level kept d → IsLane c t f start v at next kept d
  lane_higher at level next kept d le h = record {
    balanced = h.balanced;
    starts = h.starts;
    from_start = h.from_start;
    above_clear = λ s high. h.above_clear s (omega (arith, le, high));
    right = h.right;
  }
