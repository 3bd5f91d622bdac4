-- The effect of a fault while it spreads: one visit of a signal keeps what is known.
use Rattle.std.proofs.Common.{◌≡◌, ◌≢◌, ◌<◌, ◌≤◌, ℕ, ◌+◌, refl, sym, ◌∙◌, ap, subst, Bool, true}
use Rattle.std.proofs.Common.{false, List, [], ◌∷◌, ◌++◌, length, arith, set, inl, inr, ◌⊎◌}
use Rattle.std.specs.Prelude.{All, Contains, Some, None, map, slice_index_or, bit_and, bit_xor}
use Rattle.std.proofs.lemmas.List.{get_or-set_same, get_or-set_other, set-get_or, Elements.All-nil}
use Rattle.std.proofs.lemmas.Bool.{cases_eq, false≢true, eq-eqb}
use Rattle.bench_net.specs.{declared.Kind.Kind, Statement.{Name, Statement, Gate}}
use Rattle.bench_net.specs.{Scan.{names, signal, gate_line, gate_of}, Circuit.IsWellFormed}
use Rattle.list_lemmas.proofs.Places.{place_within}
use Rattle.list_lemmas.proofs.Members.{among, among_left, among_right, contained}
use Rattle.fault_model.specs.{declared.Line.Line, Fault.{Fault, faults, same_line}}
use Rattle.fault_model.specs.{Solution.{Test, Solves, under}, Detection.name_on}
use Rattle.fault_model.proofs.Public.{carries, same_lines, under_other}
use Rattle.fault_model.specs.declared.Line.TheVariants as line
use Rattle.flat_circuit.{specs.Readers.{Reads, IsRising}, proofs.Public.reader_within}
use Rattle.flat_circuit.specs.Words.{AreWords, lane, lane_bits, test_of, word_over}
use Rattle.flat_circuit.proofs.Public.{changed_to, gate_within, lane_same, no_loop, pin_of}
use Rattle.block_sim.specs.Events.{bits_of, HasEquation, IsElsewhere}
use Rattle.block_sim.proofs.Public.{each_equation, equation_elsewhere, equation_same}
use Rattle.block_sim.proofs.Public.{gate_named_of_signal_equations}
use Rattle.blocking_pins.specs.Effects.{AreFaulty, CanChange, IsSpreading, IsTouched, IsVisited}
use Rattle.blocking_pins.{specs.Effects.IsWordUnder, proofs.Equations.{equation_stuck, word_other}}
use Rattle.blocking_pins.proofs.Equations.{all_equations, equation_kept, equation_of}

-- a fault is on the stem or not
pub on_stem : (f : Fault) (g : ℕ) → (f.line ≡ line.Stem g) ⊎ (f.line ≢ line.Stem g)
on_stem f g = go (same_line f.line (line.Stem g)) refl
  where
    go : (b : Bool) → same_line f.line (line.Stem g) ≡ b
        → (f.line ≡ line.Stem g) ⊎ (f.line ≢ line.Stem g)
    go true e = inl (same_lines f.line (line.Stem g) e)
    go false e = inr (λ own. false≢true (sym e
        ∙ (ap (λ l. same_line l (line.Stem g)) own ∙ eq-eqb g g refl)))

module _ (c : List Statement) (f : Fault) (good : List ℕ) (lanes : ℕ) (well : IsWellFormed c)
    (rises : IsRising c) where
  -- ---- the fault-free words, before anything differs
  pub holds_elsewhere : (delta : List ℕ) (tests : List Test) (group s k : ℕ)
      → AreWords c tests group None good → ((t : ℕ) → slice_index_or delta t 0 ≡ 0)
      → IsElsewhere f s → k < 128
      → HasEquation c (test_of tests group k) (Some f) (bits_of c good delta k) s
  holds_elsewhere delta tests group s k words clear off lt =
      equation_elsewhere c (test_of tests group k) f (bits_of c good delta k) s off
      (equation_same c (test_of tests group k) None (lane_bits c good k) (bits_of c good delta k) s
      (λ n e. same n) (λ n a kind args e at h. same a)
      (each_equation c (test_of tests group k) None (lane_bits c good k) (words k lt) s))
    where
      same : (n : Name) → lane_bits c good k n ≡ bits_of c good delta k n
      same n = sym (lane_same (slice_index_or good (signal c n) 0) k
          (slice_index_or delta (signal c n) 0) (clear (signal c n)))

  -- ---- one visit
  module _ (delta at reached : List ℕ) (from g : ℕ)
      (h : IsSpreading c f good lanes delta at reached from)
      (waits : slice_index_or at g 0 ≢ 0) (in_at : g < length at) (in_delta : g < length delta)
      (least : (other : ℕ) → slice_index_or at other 0 ≢ 0 → g ≤ other)
      (after now : List ℕ) (v : IsVisited c f good lanes g delta (set at g 0) after now) where
    abbrev diff : ℕ
    diff = bit_and (bit_xor v.word (slice_index_or good g 0)) lanes

    clear : slice_index_or delta g 0 ≡ 0
    clear = h.clear g (h.behind g waits)

    new_at : slice_index_or after g 0 ≡ diff
    new_at = ap (λ l. slice_index_or l g 0) v.changed ∙ get_or-set_same delta g diff 0 in_delta

    kept_at : (s : ℕ) → s ≢ g → slice_index_or after s 0 ≡ slice_index_or delta s 0
    kept_at s ne = ap (λ l. slice_index_or l s 0) v.changed ∙ get_or-set_other delta g s diff 0 ne

    -- a signal that waits did so before, or reads the signal
    which : (t : ℕ) → slice_index_or now t 0 ≢ 0
        → ((t ≢ g) × (slice_index_or at t 0 ≢ 0)) ⊎ Reads c t g
    which t ne = go (v.only t)
      where
        go : (slice_index_or now t 0 ≡ slice_index_or (set at g 0) t 0)
            ⊎ (Reads c t g × (slice_index_or now t 0 ≢ 0))
            → ((t ≢ g) × (slice_index_or at t 0 ≢ 0)) ⊎ Reads c t g
        go (inl e) = inl (other, λ z. ne (e ∙ (get_or-set_other at g t 0 0 other ∙ z)))
          where
            other : t ≢ g
            other same = ne (e ∙ (ap (λ x. slice_index_or (set at g 0) x 0) same
                ∙ get_or-set_same at g 0 0 in_at))
        go (inr r) = inr r.0

    -- a signal that waited still does, unless it is the visited one
    still : (t : ℕ) → t ≢ g → slice_index_or at t 0 ≢ 0 → slice_index_or now t 0 ≢ 0
    still t other ne = go (v.only t)
      where
        go : (slice_index_or now t 0 ≡ slice_index_or (set at g 0) t 0)
            ⊎ (Reads c t g × (slice_index_or now t 0 ≢ 0)) → slice_index_or now t 0 ≢ 0
        go (inl e) = λ z. ne (sym (get_or-set_other at g t 0 0 other) ∙ (sym e ∙ z))
        go (inr r) = r.1

    idle_before : (s : ℕ) → s ≢ g → slice_index_or now s 0 ≡ 0 → slice_index_or at s 0 ≡ 0
    idle_before s other idle = go (v.only s)
      where
        go : (slice_index_or now s 0 ≡ slice_index_or (set at g 0) s 0)
            ⊎ (Reads c s g × (slice_index_or now s 0 ≢ 0)) → slice_index_or at s 0 ≡ 0
        go (inl e) = sym (get_or-set_other at g s 0 0 other) ∙ (sym e ∙ idle)
        go (inr r) = absurd (r.1 idle)

    behind : (s : ℕ) → slice_index_or now s 0 ≢ 0 → g + 1 ≤ s
    behind s ne = go (which s ne)
      where
        go : ((s ≢ g) × (slice_index_or at s 0 ≢ 0)) ⊎ Reads c s g → g + 1 ≤ s
        go (inl w) = let le = least s w.1 in let off = w.0 in
            grind (arith, le, off)
        go (inr r) = let lt = rises s g r in omega (arith, lt)

    within : (s : ℕ) → slice_index_or now s 0 ≢ 0 → s < length (names c)
    within s ne = go (which s ne)
      where
        go : ((s ≢ g) × (slice_index_or at s 0 ≢ 0)) ⊎ Reads c s g → s < length (names c)
        go (inl w) = h.within s w.1
        go (inr r) = reader_within c s g r

    driven : (s : ℕ) → slice_index_or now s 0 ≢ 0 → CanChange c f s
    driven s ne = go (which s ne)
      where
        go : ((s ≢ g) × (slice_index_or at s 0 ≢ 0)) ⊎ Reads c s g → CanChange c f s
        go (inl w) = h.driven s w.1
        go (inr r) = inr (
          (r.kind, map (signal c) r.args),
          gate_named_of_signal_equations c r.name r.kind r.args s well r.number r.gate,
        )

    clear_behind : (s : ℕ) → g + 1 ≤ s → slice_index_or after s 0 ≡ 0
    clear_behind s le =
        let from_here = h.behind g waits in
        kept_at s (λ e. let bad = e in omega (arith, le, bad))
        ∙ h.clear s (omega (arith, le, from_here))

    listed_now : (x : ℕ) → (slice_index_or at x 0 ≢ 0) ⊎ Contains reached x
        → (slice_index_or now x 0 ≢ 0) ⊎ Contains (reached ++ g ∷ []) x
    listed_now x (inr there) = inr (contained (reached ++ g ∷ []) x
        (among_left reached (g ∷ []) x (among reached x there)))
    listed_now x (inl ne) = go (cases_eq x g)
      where
        go : (x ≡ g) ⊎ (x ≢ g) → (slice_index_or now x 0 ≢ 0) ⊎ Contains (reached ++ g ∷ []) x
        go (inl same) = inr (contained (reached ++ g ∷ []) x
            (among_right reached (g ∷ []) x (inl (sym same))))
        go (inr other) = inl (still x other ne)

    touched : (x : ℕ) → IsTouched c f after x
        → (slice_index_or now x 0 ≢ 0) ⊎ Contains (reached ++ g ∷ []) x
    touched x (inl pin) = listed_now x (h.touched x (inl pin))
    touched x (inr w) = go (cases_eq w.0 g)
      where
        go : (w.0 ≡ g) ⊎ (w.0 ≢ g) → (slice_index_or now x 0 ≢ 0) ⊎ Contains (reached ++ g ∷ []) x
        go (inl same) = inl (v.readers x (subst (Reads c x) same w.1)
            (subst (λ s. slice_index_or after s 0 ≢ 0) same w.2))
        go (inr other) = listed_now x (h.touched x (inr (
          w.0,
          w.1,
          λ z. w.2 (kept_at w.0 other ∙ z),
        )))

    others : (s k : ℕ) → s ≢ g → lane (word_over good delta s) k ≡ lane (word_over good after s) k
    others s k ne = word_other good delta g diff s k ne
        ∙ ap (λ l. lane (word_over good l s) k) (sym v.changed)

    own_word : (k : ℕ) → lane lanes k ≡ true → lane (word_over good after g) k ≡ lane v.word k
    own_word k on = ap (λ d. lane (bit_xor (slice_index_or good g 0) d) k) new_at
        ∙ changed_to v.word (slice_index_or good g 0) lanes k on

    here : (t : Test) (k : ℕ) → k < 128 → lane lanes k ≡ true
        → HasEquation c t (Some f) (bits_of c good after k) g
    here t k lt on = go (on_stem f g)
      where
        go : (f.line ≡ line.Stem g) ⊎ (f.line ≢ line.Stem g)
            → HasEquation c t (Some f) (bits_of c good after k) g
        go (inl own) = equation_stuck c t f (bits_of c good after k) g own
            (λ n number. ap (λ s. lane (word_over good after s) k) number
            ∙ (own_word k on ∙ v.valued.stem own k lt))
        go (inr off) = let w = v.valued.gate off in
            equation_of c t (Some f) good delta after g k w.0 w.1 well (no_loop c g well) w.2
            (λ s ne. others s k ne)
            (own_word k on ∙ (w.3 k lt ∙ sym (under_other f (line.Stem g) _ off)))

    balanced : (tests : List Test) (group : ℕ) → AreWords c tests group None good
        → (s k : ℕ) → slice_index_or now s 0 ≡ 0 → k < 128 → lane lanes k ≡ true
        → HasEquation c (test_of tests group k) (Some f) (bits_of c good after k) s
    balanced tests group words s k idle lt on = go (cases_eq s g) (cases_eq diff 0)
      where
        before : s ≢ g → HasEquation c (test_of tests group k) (Some f) (bits_of c good delta k) s
        before ne = h.balanced tests group words s k (idle_before s ne idle) lt on

        go : (s ≡ g) ⊎ (s ≢ g) → (diff ≡ 0) ⊎ (diff ≢ 0)
            → HasEquation c (test_of tests group k) (Some f) (bits_of c good after k) s
        go (inl same) _ = subst (HasEquation c (test_of tests group k) (Some f)
            (bits_of c good after k)) (sym same) (here (test_of tests group k) k lt on)
        go (inr ne) (inl none) = subst (λ l. HasEquation c (test_of tests group k) (Some f)
            (bits_of c good l k) s) unchanged (before ne)
          where
            unchanged : delta ≡ after
            unchanged = sym (v.changed ∙ (ap (set delta g) (none ∙ sym clear)
                ∙ set-get_or delta g 0))
        go (inr ne) (inr some) = subst (λ l. HasEquation c (test_of tests group k) (Some f)
            (bits_of c good l k) s) (sym v.changed)
            (equation_kept c (test_of tests group k) (Some f) good delta g diff s k ne
            (λ r. v.readers s r (λ z. some (sym new_at ∙ z)) idle) (before ne))

    pub visited_on : All (λ s. s < length (names c)) (reached ++ g ∷ [])
        → IsSpreading c f good lanes after now (reached ++ g ∷ []) (g + 1)
    visited_on all = record {
      balanced = balanced;
      behind = behind;
      within = within;
      driven = driven;
      clear = clear_behind;
      touched = touched;
      listed = all;
    }

  -- ---- nothing waits any more
  pub spread_faulty : (delta at reached : List ℕ) (from : ℕ)
      → IsSpreading c f good lanes delta at reached from
      → ((s : ℕ) → slice_index_or at s 0 ≡ 0) → AreFaulty c f good lanes delta
  spread_faulty delta at reached from h idle tests group words k lt on =
      all_equations c (test_of tests group k) (Some f) (bits_of c good delta k) well
      (λ s in_names. h.balanced tests group words s k (idle s) lt on)

  pub spread_touched : (delta at reached : List ℕ) (from : ℕ)
      → IsSpreading c f good lanes delta at reached from
      → ((s : ℕ) → slice_index_or at s 0 ≡ 0) → (g : ℕ) → IsTouched c f delta g → Contains reached g
  spread_touched delta at reached from h idle g is = go (h.touched g is)
    where
      go : (slice_index_or at g 0 ≢ 0) ⊎ Contains reached g → Contains reached g
      go (inl ne) = absurd (ne (idle g))
      go (inr there) = there

-- ---- the start
-- the first signal is a signal of the circuit that the fault can change
pub start_within : (c : List Statement) (f : Fault) (start : ℕ) → IsWellFormed c
    → Contains (faults f.model c) f
    → (f.line ≡ line.Stem start) ⊎ ((pin : ℕ) × (f.line ≡ line.Pin start pin))
    → (start < length (names c)) × CanChange c f start
start_within c f start well listed (inl own) =
    let n = carries f.model c f well listed in (
      place_within (names c) start n.0 (ap (name_on c) (sym own) ∙ n.1),
      inl own,
    )
start_within c f start well listed (inr own) =
    let n = carries f.model c f well listed in
    let reads = ap (name_on c) (sym own.1) ∙ n.1 in
    let at = pin_of c start own.0 n.0 reads in (
      gate_within c start own.0 n.0 reads,
      inr ((at.kind, map (signal c) at.args), ap (gate_line c) at.is),
    )

-- no other equation contains the fault
pub start_only : (f : Fault) (start s : ℕ)
    → (f.line ≡ line.Stem start) ⊎ ((pin : ℕ) × (f.line ≡ line.Pin start pin))
    → s ≢ start → IsElsewhere f s
start_only f start s (inl own) ne = record {
  stem = λ h. let e : line.Stem start ≡ line.Stem s = sym own ∙ h in
      let same : s ≡ start = cc in ne same;
  pin = λ pin h. let e : line.Stem start ≡ line.Pin s pin = sym own ∙ h in cc;
}
start_only f start s (inr own) ne = record {
  stem = λ h. let e : line.Pin start own.0 ≡ line.Stem s = sym own.1 ∙ h in cc;
  pin = λ pin h. let e : line.Pin start own.0 ≡ line.Pin s pin = sym own.1 ∙ h in
      let same : s ≡ start = cc in ne same;
}

pub touched_start : (f : Fault) (start g pin : ℕ)
    → (f.line ≡ line.Stem start) ⊎ ((p : ℕ) × (f.line ≡ line.Pin start p))
    → f.line ≡ line.Pin g pin → g ≡ start
touched_start f start g pin (inl own) h =
    let e : line.Stem start ≡ line.Pin g pin = sym own ∙ h in cc
touched_start f start g pin (inr own) h =
    let e : line.Pin start own.0 ≡ line.Pin g pin = sym own.1 ∙ h in cc

module _ (c : List Statement) (f : Fault) (good : List ℕ) (lanes : ℕ) (well : IsWellFormed c)
    (rises : IsRising c) (delta : List ℕ) (clear : (t : ℕ) → slice_index_or delta t 0 ≡ 0) where
  -- no equation contains the fault
  pub spread_nowhere : ((s : ℕ) → IsElsewhere f s) → AreFaulty c f good lanes delta
  spread_nowhere off tests group words k lt on =
      all_equations c (test_of tests group k) (Some f) (bits_of c good delta k) well
      (λ s in_names. holds_elsewhere c f good lanes well rises delta tests group s k words clear
      (off s) lt)

  module _ (idle : List ℕ) (none : (t : ℕ) → slice_index_or idle t 0 ≡ 0) (start : ℕ)
      (h : (f.line ≡ line.Stem start) ⊎ ((pin : ℕ) × (f.line ≡ line.Pin start pin)))
      (within : start < length (names c)) (can : CanChange c f start)
      (room : start < length idle) where
    waits_is : (s : ℕ) → slice_index_or (set idle start 1) s 0 ≢ 0 → s ≡ start
    waits_is s ne = go (cases_eq s start)
      where
        go : (s ≡ start) ⊎ (s ≢ start) → s ≡ start
        go (inl e) = e
        go (inr other) = absurd (ne (get_or-set_other idle start s 1 0 other ∙ none s))

    waits_there : slice_index_or (set idle start 1) start 0 ≢ 0
    waits_there e = let one = get_or-set_same idle start 1 0 room in omega (arith, one, e)

    pub spread_begin : IsSpreading c f good lanes delta (set idle start 1) [] start
    spread_begin = record {
      balanced = λ tests group words s k rests lt on.
          holds_elsewhere c f good lanes well rises delta tests group s k words clear
          (start_only f start s h (λ e. waits_there (ap (λ x.
          slice_index_or (set idle start 1) x 0) (sym e) ∙ rests))) lt;
      behind = λ s ne. let e = waits_is s ne in omega (arith, e);
      within = λ s ne. subst (λ x. x < length (names c)) (sym (waits_is s ne)) within;
      driven = λ s ne. subst (CanChange c f) (sym (waits_is s ne)) can;
      clear = λ s le. clear s;
      touched = λ g is. touched g is;
      listed = All-nil (λ s. s < length (names c));
    }
      where
        touched : (g : ℕ) → IsTouched c f delta g
            → (slice_index_or (set idle start 1) g 0 ≢ 0) ⊎ Contains [] g
        touched g (inl pin) = inl (subst (λ x. slice_index_or (set idle start 1) x 0 ≢ 0)
            (sym (touched_start f start g pin.0 h pin.1)) waits_there)
        touched g (inr w) = absurd (w.2 (clear w.0))
