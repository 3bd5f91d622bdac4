-- Held inputs, one after another.
use Rattle.std.proofs.Common.{◌≡◌, ◌<◌, ◌≤◌, ◌+◌, ◌∙◌, ◌++◌, ◌⊎◌, inl, inr, ℕ, zero, suc, Bool}
use Rattle.std.proofs.Common.{List, [], ◌∷◌, Option, Some, ap, arith, length, map, refl, set, subst}
use Rattle.std.{proofs.Common.sym, specs.Prelude.{slice_get, unwrap_or}}
use Rattle.std.proofs.lemmas.{Bool.cases_lt, List.length-set, Option.slice_get_within}
use Rattle.list_lemmas.proofs.Places.{at_place, placed}
use Rattle.bench_net.specs.Scan.{cells, inputs, names, sources}
use Rattle.bench_net.specs.Statement.{Input, Name, Statement}
use Rattle.bench_net.proofs.Public.{defined_among, of_input}
use Rattle.generator.specs.declared.held.{Held.Held, HeldReason.HeldReason}
use Rattle.generator.specs.declared.held.HeldReason.TheVariants.{Undefined, Gate, FlipFlop, Twice}
use Rattle.generator.specs.Held.{AreHeldBits, AreHolding, AreAllowed, IsColumn, IsHeldAt}
use Rattle.generator.specs.Held.{IsHeldFault, IsInputColumn, IsUnfit, IsWrong, Stands}

-- ---- columns

-- a name has one column
one_column : (c : List Statement) (name : Name) (place other : ℕ) → IsColumn c name place
    → IsColumn c name other → place ≡ other
one_column c name place other is also = first (cases_lt place other)
  where
    second : (other < place) ⊎ (place ≤ other) → other ≤ place → place ≡ other
    second (inl lt) le = absurd (is.first other lt also.here)
    second (inr ge) le = omega (arith, ge, le)

    first : (place < other) ⊎ (other ≤ place) → place ≡ other
    first (inl lt) = absurd (also.first place lt is.here)
    first (inr le) = second (cases_lt other place) le

-- an element of the front of a list
front_at : (front more : List Name) (k : ℕ) (name : Name) → k < length front
    → slice_get (front ++ more) k ≡ Some name → slice_get front k ≡ Some name
front_at [] more k name lt at = absurd (omega (arith, lt))
front_at (x ∷ front) more zero name lt at = at
front_at (x ∷ front) more (suc k) name lt at = front_at front more k name (omega (arith, lt)) at

of_inputs : (c : List Statement) (name : Name) (place : ℕ) → IsInputColumn c name place
    → Stands name (inputs c)
of_inputs c name place is =
    (place, front_at (inputs c) (map (λ cell. cell.0) (cells c)) place name is.1 is.0.here)

of_names : (c : List Statement) (name : Name) (place : ℕ) → IsInputColumn c name place
    → Stands name (names c)
of_names c name place is =
    let at = of_inputs c name place is in
    placed (names c) name (defined_among c (Input name) name
    (of_input c name (at_place (inputs c) at.0 name at.1)) refl)

-- ---- bits that are set

set_here : (xs : List (Option Bool)) (i : ℕ) (x : Option Bool) → i < length xs
    → slice_get (set xs i x) i ≡ Some x
set_here [] i x lt = absurd (omega (arith, lt))
set_here (y ∷ xs) zero x lt = refl
set_here (y ∷ xs) (suc i) x lt = set_here xs i x (omega (arith, lt))

set_other : (xs : List (Option Bool)) (i j : ℕ) (x : Option Bool) → (i ≡ j → ⊥)
    → slice_get (set xs i x) j ≡ slice_get xs j
set_other [] i j x ne = refl
set_other (y ∷ xs) zero zero x ne = absurd (ne refl)
set_other (y ∷ xs) zero (suc j) x ne = refl
set_other (y ∷ xs) (suc i) zero x ne = refl
set_other (y ∷ xs) (suc i) (suc j) x ne = set_other xs i j x (λ e. ne (ap suc e))

-- ---- the first of the held inputs have their bits, and are right

pub record IsSoFar (c : List Statement) (held : List Held) (n : ℕ) (bits : List (Option Bool))
    : Type 0 where
  pub count : length bits ≡ length (sources c)
  pub inputs : (k : ℕ) (h : Held) → k < n → slice_get held k ≡ Some h
      → (place : ℕ) × IsInputColumn c h.name.now place
  pub each : (k place : ℕ) (h : Held) → k < n → slice_get held k ≡ Some h
      → IsColumn c h.name.now place → slice_get bits place ≡ Some (Some h.bit)
  pub only : (place : ℕ) (b : Bool) → slice_get bits place ≡ Some (Some b)
      → (k : ℕ) × (h : Held) × (k < n) × (slice_get held k ≡ Some h) × IsColumn c h.name.now place
  pub right : (k : ℕ) (h : Held) (reason : HeldReason) → k < n → slice_get held k ≡ Some h
      → IsWrong c held k h.name.now reason → ⊥

pub so_far_none : (c : List Statement) (held : List Held) (bits : List (Option Bool))
    → length bits ≡ length (sources c)
    → ((place : ℕ) (b : Bool) → slice_get bits place ≡ Some (Some b) → ⊥) → IsSoFar c held 0 bits
so_far_none c held bits count none = record {
  count = count;
  inputs = λ k h lt. absurd (omega (arith, lt));
  each = λ k place h lt. absurd (omega (arith, lt));
  only = λ place b e. absurd (none place b e);
  right = λ k h reason lt. absurd (omega (arith, lt));
}

same_held : (held : List Held) (k n : ℕ) (g h : Held) → slice_get held k ≡ Some g
    → slice_get held n ≡ Some h → k ≡ n → g ≡ h
same_held held k n g h at also same =
    ap (λ o. unwrap_or o g) (sym at ∙ (ap (slice_get held) same ∙ also))

module _ (c : List Statement) (held : List Held) (n : ℕ) (bits : List (Option Bool)) (h : Held)
    (was : IsSoFar c held n bits) (at : slice_get held n ≡ Some h) where
  -- its column has no bit, so no earlier one has its name
  not_wrong : (place : ℕ) → IsInputColumn c h.name.now place
      → ((b : Bool) → slice_get bits place ≡ Some (Some b) → ⊥) → (reason : HeldReason)
      → IsWrong c held n h.name.now reason → ⊥
  not_wrong place is free Undefined wrong = wrong (of_names c h.name.now place is)
  not_wrong place is free Gate wrong = wrong.1 (place, is.0.here)
  not_wrong place is free FlipFlop wrong = wrong.1 (of_inputs c h.name.now place is)
  not_wrong place is free Twice wrong =
      let g = wrong.2 in
      free g.bit (was.each wrong.1 place g wrong.3 wrong.4
      (subst (λ name. IsColumn c name place) (sym wrong.5) is.0))

  pub so_far_more : (new : List (Option Bool)) → IsHeldAt c h bits new → IsSoFar c held (n + 1) new
  so_far_more new is = record {
    count = ap length is.4 ∙ (length-set bits is.0 (Some h.bit) ∙ was.count);
    inputs = λ k g lt e. input k g lt e (cases_lt k n);
    each = λ k place g lt e col. bit_of k place g lt e col (cases_lt k n);
    only = λ place b e. held_by place b e (cases_lt is.0 place) (cases_lt place is.0);
    right = λ k g reason lt e. right_of k g reason lt e (cases_lt k n);
  }
    where
      input : (k : ℕ) (g : Held) → k < n + 1 → slice_get held k ≡ Some g → (k < n) ⊎ (n ≤ k)
          → (place : ℕ) × IsInputColumn c g.name.now place
      input k g lt e (inl low) = was.inputs k g low e
      input k g lt e (inr le) =
          let same : g ≡ h = same_held held k n g h e at (omega (arith, lt, le)) in
          (is.0, subst (λ x. IsInputColumn c x.name.now is.0) (sym same) is.1)

      other : (place : ℕ) (b : Bool) → slice_get bits place ≡ Some (Some b) → is.0 ≡ place → ⊥
      other place b e same = is.2 b (subst (λ p. slice_get bits p ≡ Some (Some b)) (sym same) e)

      bit_of : (k place : ℕ) (g : Held) → k < n + 1 → slice_get held k ≡ Some g
          → IsColumn c g.name.now place → (k < n) ⊎ (n ≤ k)
          → slice_get new place ≡ Some (Some g.bit)
      bit_of k place g lt e col (inl low) =
          let old = was.each k place g low e col in
          ap (λ l. slice_get l place) is.4
          ∙ (set_other bits is.0 place (Some h.bit) (other place g.bit old) ∙ old)
      bit_of k place g lt e col (inr le) =
          let same : g ≡ h = same_held held k n g h e at (omega (arith, lt, le)) in
          let here : place ≡ is.0 =
          one_column c h.name.now place is.0 (subst (λ x. IsColumn c x.name.now place) same col)
          is.1.0 in
          ap (λ l. slice_get l place) is.4 ∙ (ap (slice_get (set bits is.0 (Some h.bit))) here
          ∙ (set_here bits is.0 (Some h.bit) is.3 ∙ ap (λ x. Some (Some x.bit)) (sym same)))

      kept : (place : ℕ) (b : Bool) → slice_get new place ≡ Some (Some b) → (is.0 ≡ place → ⊥)
          → (k : ℕ) × (g : Held) × (k < n + 1) × (slice_get held k ≡ Some g)
          × IsColumn c g.name.now place
      kept place b e ne =
          let old : slice_get bits place ≡ Some (Some b) =
          sym (set_other bits is.0 place (Some h.bit) ne)
          ∙ (ap (λ l. slice_get l place) (sym is.4) ∙ e) in
          let found = was.only place b old in
          (found.0, found.1, omega (arith, found.2), found.3, found.4)

      held_by : (place : ℕ) (b : Bool) → slice_get new place ≡ Some (Some b)
          → (is.0 < place) ⊎ (place ≤ is.0) → (place < is.0) ⊎ (is.0 ≤ place)
          → (k : ℕ) × (g : Held) × (k < n + 1) × (slice_get held k ≡ Some g)
          × IsColumn c g.name.now place
      held_by place b e (inr le) (inr ge) =
          let same : is.0 ≡ place = omega (arith, le, ge) in
          (n, h, omega arith, at, subst (IsColumn c h.name.now) same is.1.0)
      held_by place b e (inl lt) right = kept place b e (λ same. omega (arith, lt, same))
      held_by place b e (inr le) (inl lt) = kept place b e (λ same. omega (arith, lt, same))

      right_of : (k : ℕ) (g : Held) (reason : HeldReason) → k < n + 1 → slice_get held k ≡ Some g
          → (k < n) ⊎ (n ≤ k) → IsWrong c held k g.name.now reason → ⊥
      right_of k g reason lt e (inl low) = was.right k g reason low e
      right_of k g reason lt e (inr le) = λ wrong.
          let number : k ≡ n = omega (arith, lt, le) in
          let same : g ≡ h = same_held held k n g h e at number in
          not_wrong is.0 is.1 is.2 reason (subst (λ x. IsWrong c held n x.name.now reason) same
          (subst (λ i. IsWrong c held i g.name.now reason) number wrong))

  wrong_here : (reason : HeldReason) → IsUnfit c h.name.now bits reason
      → IsWrong c held n h.name.now reason
  wrong_here Undefined unfit = unfit
  wrong_here Gate unfit = unfit
  wrong_here FlipFlop unfit = unfit
  wrong_here Twice unfit =
      let found = was.only unfit.0 unfit.1 unfit.3 in
      let same : found.1.name.now ≡ h.name.now =
      ap (λ o. unwrap_or o h.name.now) (sym found.4.here ∙ unfit.2.0.here) in
      (of_inputs c h.name.now unfit.0 unfit.2, found.0, found.1, found.2, found.3, same)

  pub fault_here : (reason : HeldReason) → IsUnfit c h.name.now bits reason
      → IsHeldFault c held (record { place = n; reason = reason })
  fault_here reason unfit = (h, at, wrong_here reason unfit, λ k g r lt e. was.right k g r lt e)

pub so_far_all : (c : List Statement) (held : List Held) (n : ℕ) (bits : List (Option Bool))
    → length held ≤ n → IsSoFar c held n bits → AreHeldBits c held bits
so_far_all c held n bits all is = record {
  count = is.count;
  inputs = λ k h e. is.inputs k h (omega (arith, all, slice_get_within held k h e)) e;
  each = λ k place h e. is.each k place h (omega (arith, all, slice_get_within held k h e)) e;
  only = λ place b e. let found = is.only place b e in (found.0, found.1, found.3, found.4);
}

-- tests that are allowed have the bits of the held inputs
pub held_allowed : (c : List Statement) (held : List Held) (bits : List (Option Bool))
    (tests : List (List Bool)) → AreHeldBits c held bits → AreAllowed bits tests
    → AreHolding c held tests
held_allowed c held bits tests are allowed k h e =
    let at = are.inputs k h e in
    (at.0, at.1, λ t test row. allowed t test row at.0 h.bit (are.each k at.0 h e at.1.0))
