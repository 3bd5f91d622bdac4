-- The gates of the statements that define a signal are all gates.
use Rattle.std.proofs.Common.{◌≡◌, ◌∙◌, ◌+◌, ◌<◌, ◌≤◌, ℕ, zero, suc, Bool, true, false, cond, List}
use Rattle.std.proofs.Common.{[], ◌∷◌, ap, arith, drop, length, map, refl, sym, get_or, inl, inr}
use Rattle.std.proofs.{Common.set, Math.Numerals.add-one, lemmas.Bool.Decides.eqb_tells}
use Rattle.std.{proofs.lemmas.Grind.get_or-set_at, specs.List.{filter, flat_map}}
use Rattle.std.proofs.lemmas.List.{get_or-set_other, length-append, length-map}
use Rattle.std.specs.Prelude.{◌==◌, Some, None, slice_get}
use Rattle.bench_net.specs.{declared.Kind.Kind, Circuit.sink_count}
use Rattle.bench_net.specs.declared.Kind.TheVariants.{And, Nand, Or, Nor, Xor, Xnor, Not, Buff}
use Rattle.bench_net.specs.Scan.{cells, gate_line, names, outputs, signal}
use Rattle.bench_net.specs.Statement.{Statement, Input, Output, Gate, Dff, defines}
use Rattle.input_check.specs.Counts.{gate_args, gate_count, is_gate_of, kind_place, pin_count}

-- as many statements define a signal as there are names
pub defining : (c : List Statement) → length (filter defines c) ≡ length (names c)
defining [] = refl
defining (Input n ∷ c) = ap suc (defining c)
defining (Output n ∷ c) = defining c
defining (Gate n kind args ∷ c) = ap suc (defining c)
defining (Dff q d ∷ c) = ap suc (defining c)

-- the other statements are no gates
pub gates_among : (k : Kind) (c : List Statement)
    → length (filter (is_gate_of k) (filter defines c)) ≡ gate_count c k
gates_among k [] = refl
gates_among k (Input n ∷ c) = gates_among k c
gates_among k (Output n ∷ c) = gates_among k c
gates_among k (Gate n kind args ∷ c) =
    counted (kind_place k == kind_place kind) (Gate n kind args) (Gate n kind args) _ _
    (gates_among k c)
  where
    counted : (b : Bool) (x y : Statement) (xs ys : List Statement) → length xs ≡ length ys
        → length (cond b (x ∷ xs) xs) ≡ length (cond b (y ∷ ys) ys)
    counted true x y xs ys e = ap suc e
    counted false x y xs ys e = e
gates_among k (Dff q d ∷ c) = gates_among k c

pub pins_among : (c : List Statement) → length (flat_map gate_args (filter defines c)) ≡ pin_count c
pins_among [] = refl
pins_among (Input n ∷ c) = pins_among c
pins_among (Output n ∷ c) = pins_among c
pins_among (Gate n kind args ∷ c) = length-append args (flat_map gate_args (filter defines c))
    ∙ (ap (λ n. length args + n) (pins_among c) ∙ sym (length-append args (flat_map gate_args c)))
pins_among (Dff q d ∷ c) = pins_among c

-- each gate has a name
pub few_gates : (k : Kind) (c : List Statement) → gate_count c k ≤ length (names c)
few_gates k [] = omega arith
few_gates k (Input n ∷ c) = let h : gate_count c k ≤ length (names c) = few_gates k c in omega arith
few_gates k (Output n ∷ c) = few_gates k c
few_gates k (Gate n kind args ∷ c) =
    let h : gate_count c k ≤ length (names c) = few_gates k c in
    counted (kind_place k == kind_place kind) (Gate n kind args) (filter (is_gate_of k) c)
    (length (names c)) h
  where
    counted : (b : Bool) (x : Statement) (xs : List Statement) (m : ℕ) → length xs ≤ m
        → length (cond b (x ∷ xs) xs) ≤ suc m
    counted true x xs m h = omega arith
    counted false x xs m h = omega arith
few_gates k (Dff q d ∷ c) = let h : gate_count c k ≤ length (names c) = few_gates k c in omega arith

-- each statement reads by its gate pins, as a flip-flop or as an output
pub all_sinks : (c : List Statement)
    → pin_count c + length (cells c) + length (outputs c) ≡ sink_count c
all_sinks [] = refl
all_sinks (Input n ∷ c) = all_sinks c
all_sinks (Output n ∷ c) =
    let h : pin_count c + length (cells c) + length (outputs c) ≡ sink_count c = all_sinks c in
    omega arith
all_sinks (Gate n kind args ∷ c) =
    let h : pin_count c + length (cells c) + length (outputs c) ≡ sink_count c = all_sinks c in
    simp length-append (omega arith)
all_sinks (Dff q d ∷ c) =
    let h : pin_count c + length (cells c) + length (outputs c) ≡ sink_count c = all_sinks c in
    omega arith

-- the gates of a kind, and the gate pins, from a statement on
abbrev pub gates_from : Kind → List Statement → ℕ → ℕ
gates_from k ds i = length (filter (is_gate_of k) (drop i ds))

abbrev pub pins_from : List Statement → ℕ → ℕ
pins_from ds i = length (flat_map gate_args (drop i ds))

-- 1 if both kinds are the same
abbrev pub same : Kind → Kind → ℕ
same k kind = cond (kind_place k == kind_place kind) 1 0

length_cond : (b : Bool) (x : Statement) (xs : List Statement)
    → length (cond b (x ∷ xs) xs) ≡ cond b 1 0 + length xs
length_cond true x xs = omega arith
length_cond false x xs = omega arith

-- a statement that is no gate
pub past_source : (c ds : List Statement) (k : Kind) (i : ℕ) → i < length ds
    → gate_line c (slice_get ds i) ≡ None
    → (gates_from k ds i ≡ gates_from k ds (suc i)) × (pins_from ds i ≡ pins_from ds (suc i))
past_source c [] k i lt e = absurd (omega arith)
past_source c (Input n ∷ ds) k zero lt e = (refl, refl)
past_source c (Output n ∷ ds) k zero lt e = (refl, refl)
past_source c (Gate n kind args ∷ ds) k zero lt e = absurd (cc)
past_source c (Dff q d ∷ ds) k zero lt e = (refl, refl)
past_source c (s ∷ ds) k (suc i) lt e = past_source c ds k i (omega arith) e

-- a gate of a kind, with these pins
pub past_gate : (c ds : List Statement) (k kind : Kind) (pins : List ℕ) (i : ℕ) → i < length ds
    → gate_line c (slice_get ds i) ≡ Some (kind, pins)
    → (gates_from k ds i ≡ same k kind + gates_from k ds (suc i))
    × (pins_from ds i ≡ length pins + pins_from ds (suc i))
past_gate c [] k kind pins i lt e = absurd (omega arith)
past_gate c (Input n ∷ ds) k kind pins zero lt e = absurd (cc)
past_gate c (Output n ∷ ds) k kind pins zero lt e = absurd (cc)
past_gate c (Gate n other args ∷ ds) k kind pins zero lt e =
    let both : ◌≡◌ {A = Kind × List ℕ} (other, map (signal c) args) (kind, pins) = cc in
    let is : other ≡ kind = ap (λ p. p.0) both in
    let are : map (signal c) args ≡ pins = ap (λ p. p.1) both in (
      length_cond (kind_place k == kind_place other) (Gate n other args) (filter (is_gate_of k) ds)
          ∙ ap (λ t. same k t + length (filter (is_gate_of k) ds)) is,
      length-append args (flat_map gate_args ds) ∙ ap (λ t. t + length (flat_map gate_args ds))
          (sym (length-map args (signal c)) ∙ ap length are),
    )
past_gate c (Dff q d ∷ ds) k kind pins zero lt e = absurd (cc)
past_gate c (s ∷ ds) k kind pins (suc i) lt e = past_gate c ds k kind pins i (omega arith) e

-- the same, from the next statement on
pub next_source : (c ds : List Statement) (k : Kind) (i : ℕ) → i < length ds
    → gate_line c (slice_get ds i) ≡ None
    → (gates_from k ds i ≡ gates_from k ds (i + 1)) × (pins_from ds i ≡ pins_from ds (i + 1))
next_source c ds k i lt e = rw add-one (past_source c ds k i lt e)

pub next_gate : (c ds : List Statement) (k kind : Kind) (pins : List ℕ) (i : ℕ) → i < length ds
    → gate_line c (slice_get ds i) ≡ Some (kind, pins)
    → (gates_from k ds i ≡ same k kind + gates_from k ds (i + 1))
    × (pins_from ds i ≡ length pins + pins_from ds (i + 1))
next_gate c ds k kind pins i lt e = rw add-one (past_gate c ds k kind pins i lt e)

-- before the first statement nothing was counted
abbrev pub zeros : List ℕ
zeros = 0 ∷ 0 ∷ 0 ∷ 0 ∷ 0 ∷ 0 ∷ 0 ∷ 0 ∷ []

zero_at : (k : Kind) → get_or zeros (kind_place k) 0 ≡ 0
zero_at And = refl
zero_at Nand = refl
zero_at Or = refl
zero_at Nor = refl
zero_at Xor = refl
zero_at Xnor = refl
zero_at Not = refl
zero_at Buff = refl

pub at_start : (c : List Statement) (k : Kind)
    → get_or zeros (kind_place k) 0 + gates_from k (filter defines c) 0 ≡ gate_count c k
at_start c k = rw (zero_at k) (omega (arith, gates_among k c))

-- past the last one all was
pub at_end : (k : Kind) (ds : List Statement) (i : ℕ) → length ds ≤ i
    → (gates_from k ds i ≡ 0) × (pins_from ds i ≡ 0)
at_end k [] zero le = (refl, refl)
at_end k [] (suc i) le = (refl, refl)
at_end k (s ∷ ds) zero le = absurd (omega arith)
at_end k (s ∷ ds) (suc i) le = at_end k ds i (omega arith)

-- a kind is the same as itself
pub same_self : (k : Kind) → same k k ≡ 1
same_self And = refl
same_self Nand = refl
same_self Or = refl
same_self Nor = refl
same_self Xor = refl
same_self Xnor = refl
same_self Not = refl
same_self Buff = refl

-- one more is counted at a place
pub counted_at : (gates : List ℕ) (p q : ℕ) → p < length gates
    → get_or (set gates p (get_or gates p 0 + 1)) q 0 ≡ cond (q == p) 1 0 + get_or gates q 0
counted_at gates p q lt = elim (eqb_tells q p) [
  | inl h ↦ rw (h.0) (get_or-set_at gates p q (get_or gates p 0 + 1) 0 h.1 lt
      ∙ (ap (λ n. get_or gates n 0 + 1) (sym h.1) ∙ omega arith))
  | inr h ↦ rw (h.0) (get_or-set_other gates p q (get_or gates p 0 + 1) 0 h.1 ∙ omega arith)
]

-- all sinks, once all signals were looked at
pub sinks_at_end : (c : List Statement) (i pins m n : ℕ) → length (names c) ≤ i
    → pins + pins_from (filter defines c) i ≡ pin_count c → m ≡ length (cells c)
    → n ≡ length (outputs c) → pins + m + n ≡ sink_count c
sinks_at_end c i pins m n le e f g =
    let past : length (filter defines c) ≤ i = omega (arith, defining c) in
    let none : pins_from (filter defines c) i ≡ 0 = (at_end And (filter defines c) i past).1 in
    omega (arith, all_sinks c)
