-- One lane of a simulation by events: one evaluation keeps what is true in it.
use Rattle.std.proofs.Common.{◌≡◌, ◌≢◌, ◌<◌, ◌≤◌, ℕ, ◌+◌, refl, sym, ◌∙◌, ap, subst, Bool, true}
use Rattle.std.proofs.Common.{false, List, arith, inl, inr, ◌⊎◌}
use Rattle.std.specs.Prelude.{Contains, Some, None, slice_index_or}
use Rattle.std.proofs.lemmas.Bool.{cases_eq, cases_lt, false≢true}
use Rattle.bench_net.specs.{Statement.{Name, Statement}, Scan.{names, signal}, Circuit.IsWellFormed}
use Rattle.list_lemmas.proofs.Members.{among, contained}
use Rattle.fault_model.specs.declared.Line.TheVariants as line
use Rattle.fault_model.specs.{Fault.Fault, Solution.{Test, Solves, under, value}}
use Rattle.fault_model.proofs.Public.{pins_agree}
use Rattle.flat_circuit.{specs.Readers.{IsLive, IsRising, Reads}, proofs.Public.unlike}
use Rattle.block_sim.specs.{Events.{HasEquation, IsElsewhere}, Propagation.Counts}
use Rattle.block_sim.proofs.Public.{reader_live, each_equation, equation_elsewhere}
use Rattle.region_sim.proofs.OneLane.{IsLane, bit_cases, differing, equation_like, kept_bit}
use Rattle.region_sim.proofs.OneLane.{right_by_now, same_bit, self}

module _ (c : List Statement) (well : IsWellFormed c) (rising : IsRising c) (t : Test) (f : Fault)
    (start : ℕ) (v : Name → Bool) (elsewhere : (s : ℕ) → s ≢ start → IsElsewhere f s)
    (free : Solves c t None v) where
  -- a gate whose equation holds and whose pins do not differ does not differ
  pub still_gate : (d : ℕ → Bool) (g s : ℕ) → g ≢ start → Reads c g s
      → HasEquation c t (Some f) (differing c v d) g → ((p : ℕ) → Reads c g p → d p ≡ false)
      → d g ≡ false
  still_gate d g s ne r here clear =
      let faulty = here.gate r.name r.kind r.args r.number r.gate in
      let good = (equation_elsewhere c t f v g (elsewhere g ne) (each_equation c t None v free
      g)).gate r.name r.kind r.args r.number r.gate in
      let same = ap (λ bits. under (Some f) (line.Stem g) (value r.kind bits))
      (pins_agree (Some f) (differing c v d) v g 0 r.args
      (λ a h. ap (unlike (v a)) (clear (signal c a) (record {
        name = r.name;
        kind = r.kind;
        args = r.args;
        read = a;
        gate = r.gate;
        number = r.number;
        reads = contained r.args a h;
        of = refl;
      })) ∙ kept_bit (v a))) in
      sym (ap d r.number) ∙ same_bit (v r.name) (d (signal c r.name)) (faulty ∙ (same ∙ sym good))

  -- A gate that waited is evaluated: it alone may differ now, and where it does so anew its live
  -- readers wait.
  module _ (before after : List ℕ) (g source : ℕ) (kept : Bool) (d e : ℕ → Bool)
      (h : IsLane c t f start v before g kept d) (reads : Reads c g source) (live : IsLive c g)
      (same : (s : ℕ) → s ≢ g → e s ≡ d s)
      (here : kept ≡ true → HasEquation c t (Some f) (differing c v e) g)
      (own : g ≡ start → e g ≡ d g) (quiet : kept ≡ false → e g ≡ d g)
      (waited : (s : ℕ) → s ≢ g → slice_index_or after s 0 ≡ 0 → slice_index_or before s 0 ≡ 0)
      (readers : e g ≢ d g → (s : ℕ) → Reads c s g → IsLive c s → slice_index_or after s 0 ≢ 0)
      (behind : (s : ℕ) → slice_index_or after s 0 ≢ 0 → g + 1 ≤ s) where
    no_loop : Reads c g g → ⊥
    no_loop r = let up = rising g g r in omega (arith, up)

    idle_here : slice_index_or after g 0 ≡ 0
    idle_here = go (cases_eq (slice_index_or after g 0) 0)
      where
        go : (slice_index_or after g 0 ≡ 0) ⊎ (slice_index_or after g 0 ≢ 0)
            → slice_index_or after g 0 ≡ 0
        go (inl is) = is
        go (inr ne) = let le = behind g ne in absurd (omega (arith, le))

    -- where it differs anew, it is followed, and is not the start
    anew : e g ≢ d g → (kept ≡ true) × (g ≢ start) × (e g ≡ true)
    anew ne = (on (bit_cases kept), λ is. ne (own is), yes (bit_cases (e g)))
      where
        on : (kept ≡ true) ⊎ (kept ≡ false) → kept ≡ true
        on (inl is) = is
        on (inr is) = absurd (ne (quiet is))

        yes : (e g ≡ true) ⊎ (e g ≡ false) → e g ≡ true
        yes (inl is) = is
        yes (inr is) = absurd (ne (is ∙ sym (h.above_clear g (omega arith) (λ at. ne (own at)))))

    from_start : e g ≢ d g → start ≤ g
    from_start ne = go (cases_lt g start)
      where
        clear : g < start → (p : ℕ) → Reads c g p → e p ≡ false
        clear low p r = let up = rising g p r in
            same p (omega (arith, up)) ∙ off (bit_cases (d p))
          where
            off : (d p ≡ true) ⊎ (d p ≡ false) → d p ≡ false
            off (inl is) = let le = h.from_start p is in let up = rising g p r in
                absurd (omega (arith, le, up, low))
            off (inr is) = is

        go : (g < start) ⊎ (start ≤ g) → start ≤ g
        go (inl low) = let a = anew ne in
            absurd (false≢true (sym (still_gate e g source a.1 reads (here a.0) (clear low)) ∙ a.2))
        go (inr le) = le

    same_or_anew : (e g ≡ d g) ⊎ (e g ≢ d g)
    same_or_anew = go (bit_cases (e g)) (bit_cases (d g))
      where
        go : (e g ≡ true) ⊎ (e g ≡ false) → (d g ≡ true) ⊎ (d g ≡ false) → (e g ≡ d g) ⊎ (e g ≢ d g)
        go (inl a) (inl b) = inl (a ∙ sym b)
        go (inl a) (inr b) = inr (λ is. false≢true (sym b ∙ (sym is ∙ a)))
        go (inr a) (inl b) = inr (λ is. false≢true (sym a ∙ (is ∙ b)))
        go (inr a) (inr b) = inl (a ∙ sym b)

    everywhere : e g ≡ d g → (s : ℕ) → e s ≡ d s
    everywhere is s = go (cases_eq s g)
      where
        go : (s ≡ g) ⊎ (s ≢ g) → e s ≡ d s
        go (inl at) = ap e at ∙ (is ∙ sym (ap d at))
        go (inr ne) = same s ne

    balanced_now : kept ≡ true → (s : ℕ) → Counts c self start s → slice_index_or after s 0 ≡ 0
        → HasEquation c t (Some f) (differing c v e) s
    balanced_now on s is_counted idle = go (cases_eq s g)
      where
        kept_one : s ≢ g → (e g ≡ d g) ⊎ (e g ≢ d g) → HasEquation c t (Some f) (differing c v e) s
        kept_one ne (inl is) = equation_like c well rising t f start v elsewhere free d e s
            (sym (everywhere is s)) (λ p r. sym (everywhere is p))
            (h.balanced on s is_counted (waited s ne idle))
        kept_one ne (inr differs) = equation_like c well rising t f start v elsewhere free d e s
            (sym (same s ne)) (λ p r. pin p r (cases_eq p g))
            (h.balanced on s is_counted (waited s ne idle))
          where
            pin : (p : ℕ) → Reads c s p → (p ≡ g) ⊎ (p ≢ g) → d p ≡ e p
            pin p r (inl is) =
                let to : Reads c s g = subst (Reads c s) is r in
                absurd (readers differs s to (reader_live c self start rising g s
                (from_start differs) is_counted to) idle)
            pin p r (inr other) = sym (same p other)

        go : (s ≡ g) ⊎ (s ≢ g) → HasEquation c t (Some f) (differing c v e) s
        go (inl is) = subst (HasEquation c t (Some f) (differing c v e)) (sym is) (here on)
        go (inr ne) = kept_one ne same_or_anew

    not_below : (s : ℕ) → slice_index_or after s 0 ≢ 0 → g ≤ s
    not_below s ne = let le = behind s ne in omega (arith, le)

    right_here : e g ≢ d g → (n : Name) (w : Name → Bool) → Contains (names c) n → signal c n ≡ g
        → Solves c t (Some f) w → differing c v e n ≡ w n
    right_here differs n w named number solves =
        right_by_now c well rising t f start v elsewhere free after e g
        (balanced_now (anew differs).0) not_below w solves n (among (names c) n named)
        (inl (subst (IsLive c) (sym number) live)) (omega (arith, number))
        (ap (λ x. slice_index_or after x 0) number ∙ idle_here)

    pub lane_evaluated : IsLane c t f start v after (g + 1) kept e
    lane_evaluated = record {
      balanced = balanced_now;
      starts = λ on. starts on (cases_eq start g);
      from_start = λ s on. from s on (cases_eq s g) same_or_anew;
      above_clear = λ s high ne. same s (omega (arith, high))
          ∙ h.above_clear s (omega (arith, high)) ne;
      right = λ s on n w named number solves. right s on n w named number solves (cases_eq s g)
          same_or_anew;
    }
      where
        starts : kept ≡ true → (start ≡ g) ⊎ (start ≢ g) → e start ≡ true
        starts on (inl is) = ap e is ∙ (own (sym is) ∙ (sym (ap d is) ∙ h.starts on))
        starts on (inr ne) = same start ne ∙ h.starts on

        from : (s : ℕ) → e s ≡ true → (s ≡ g) ⊎ (s ≢ g) → (e g ≡ d g) ⊎ (e g ≢ d g) → start ≤ s
        from s on (inr ne) w = h.from_start s (sym (same s ne) ∙ on)
        from s on (inl is) (inl alike) = h.from_start s (sym (everywhere alike s) ∙ on)
        from s on (inl is) (inr differs) = let le = from_start differs in omega (arith, le, is)

        before_right : (s : ℕ) → e s ≡ d s → e s ≡ true → (n : Name) (w : Name → Bool)
            → Contains (names c) n → signal c n ≡ s → Solves c t (Some f) w
            → differing c v e n ≡ w n
        before_right s alike on n w named number solves =
            ap (unlike (v n)) (ap e number ∙ (alike ∙ sym (ap d number)))
            ∙ h.right s (sym alike ∙ on) n w named number solves

        right : (s : ℕ) → e s ≡ true → (n : Name) (w : Name → Bool) → Contains (names c) n
            → signal c n ≡ s → Solves c t (Some f) w → (s ≡ g) ⊎ (s ≢ g)
            → (e g ≡ d g) ⊎ (e g ≢ d g) → differing c v e n ≡ w n
        right s on n w named number solves (inr ne) x =
            before_right s (same s ne) on n w named number solves
        right s on n w named number solves (inl is) (inl alike) =
            before_right s (everywhere alike s) on n w named number solves
        right s on n w named number solves (inl is) (inr differs) =
            right_here differs n w named (number ∙ is) solves
