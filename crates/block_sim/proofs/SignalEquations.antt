-- The equations of signals one by one: all of them make a solution, and a change of one word keeps
-- the equations of signals that do not read it.
use Rattle.std.proofs.Common.{◌≡◌, ◌≢◌, ◌<◌, ℕ, ◌+◌, refl, sym, ◌∙◌, ap, subst, Bool, false, List}
use Rattle.std.{proofs.Common.{[], ◌∷◌, length, set}, specs.List.enumerate_from}
use Rattle.std.specs.Prelude.{Contains, Option, Some, None, map, slice_index_or, unwrap_or, bit_xor}
use Rattle.std.proofs.lemmas.List.{get_or-set_other}
use Rattle.bench_net.specs.{declared.Kind.Kind, Circuit.IsWellFormed}
use Rattle.bench_net.specs.Statement.{Name, Statement, Input, Output, Gate, Dff}
use Rattle.bench_net.specs.Scan.{names, signal, definition, gate_of, gate_line, sources}
use Rattle.bench_net.proofs.Public.{name_of-signal}
use Rattle.list_lemmas.proofs.{Members.{Among, among, contained}, Places.{at_place, place_within}}
use Rattle.fault_model.specs.declared.Line.TheVariants as line
use Rattle.fault_model.specs.{Fault.Fault, Solution.{Test, Solves, under, value, sees, pins_see}}
use Rattle.fault_model.proofs.Public.{pins_agree, under_other, IsSource, definition-signal}
use Rattle.fault_model.proofs.Public.{defined_among, source_definition, source_named}
use Rattle.flat_circuit.specs.{Words.{lane, word_over, pin_bits}, Readers.Reads}
use Rattle.flat_circuit.proofs.Public.{nothing}
use Rattle.block_sim.specs.Events.{bits_of, HasEquation, IsElsewhere}

module _ (c : List Statement) (t : Test) (f : Option Fault) (v : Name → Bool) where
  pub each_equation : Solves c t f v → (s : ℕ) → HasEquation c t f v s
  each_equation solves s = record {
    source = λ i n e at. solves.source i n at
        ∙ ap (λ x. under f (line.Stem x) (slice_index_or t i false)) e;
    gate = λ n kind args e at. solves.gate n kind args at
        ∙ ap (λ x. under f (line.Stem x) (value kind (pins_see f v x args))) e;
  }

  pub all_equations : IsWellFormed c → ((s : ℕ) → s < length (names c) → HasEquation c t f v s)
      → Solves c t f v
  all_equations well each = record {
    source = λ i n at. (each (signal c n)
        (within n (source_named c n (at_place (sources c) i n at)))).source i n refl at;
    gate = λ n kind args at. (each (signal c n)
        (within n (defined_among c (Gate n kind args) n (among c (Gate n kind args) at) refl))).gate
        n kind args refl at;
  }
    where
      within : (n : Name) → Among n (names c) → signal c n < length (names c)
      within n a = place_within (names c) (signal c n) n
          (name_of-signal c n (contained (names c) n a))

  -- a valuation that agrees on a signal and on the signals that it reads satisfies its equation too
  pub equation_same : (w : Name → Bool) (s : ℕ) → ((n : Name) → signal c n ≡ s → v n ≡ w n)
      → ((n a : Name) (kind : Kind) (args : List Name) → signal c n ≡ s
      → Contains c (Gate n kind args) → Contains args a → v a ≡ w a)
      → HasEquation c t f v s → HasEquation c t f w s
  equation_same w s same read e = record {
    source = λ i n number at. sym (same n number) ∙ e.source i n number at;
    gate = λ n kind args number at. sym (same n number) ∙ (e.gate n kind args number at
        ∙ ap (λ bits. under f (line.Stem s) (value kind bits))
        (pins_agree f v w s 0 args (λ a h. read n a kind args number at (contained args a h))));
  }

-- a fault that is elsewhere keeps an equation
pins_from : (f : Fault) (v : Name → Bool) (s from : ℕ) (args : List Name) → IsElsewhere f s
    → map (λ at. sees None v (line.Pin s at.0) at.1) (enumerate_from from args)
    ≡ map (λ at. sees (Some f) v (line.Pin s at.0) at.1) (enumerate_from from args)
pins_from f v s from [] off = refl
pins_from f v s from (a ∷ args) off = rw (
  under_other f (line.Pin s from) (v a) (off.pin from),
  pins_from f v s (from + 1) args off,
) refl

pub equation_elsewhere : (c : List Statement) (t : Test) (f : Fault) (v : Name → Bool) (s : ℕ)
    → IsElsewhere f s → HasEquation c t None v s → HasEquation c t (Some f) v s
equation_elsewhere c t f v s off e = record {
  source = λ i n number at. e.source i n number at ∙ sym (under_other f (line.Stem s) _ off.stem);
  gate = λ n kind args number at.
      e.gate n kind args number at ∙ (ap (value kind) (pins_from f v s 0 args off)
      ∙ sym (under_other f (line.Stem s) _ off.stem));
}

-- ---- one word
pub word_other : (good delta : List ℕ) (g diff s k : ℕ) → s ≢ g
    → lane (word_over good delta s) k ≡ lane (word_over good (set delta g diff) s) k
word_other good delta g diff s k ne = ap (λ d. lane (bit_xor (slice_index_or good s 0) d) k)
    (sym (get_or-set_other delta g s diff 0 ne))

-- a change of a word keeps the equations of other signals that do not read it
pub equation_kept : (c : List Statement) (t : Test) (f : Option Fault) (good delta : List ℕ)
    (g diff s k : ℕ) → s ≢ g → (Reads c s g → ⊥) → HasEquation c t f (bits_of c good delta k) s
    → HasEquation c t f (bits_of c good (set delta g diff) k) s
equation_kept c t f good delta g diff s k ne off =
    equation_same c t f (bits_of c good delta k) (bits_of c good (set delta g diff) k) s
    (λ n number. word_other good delta g diff (signal c n) k (λ e. ne (sym number ∙ e)))
    (λ n a kind args number at h. word_other good delta g diff (signal c a) k (λ e. off (record {
      name = n;
      kind = kind;
      args = args;
      read = a;
      gate = at;
      number = number;
      reads = h;
      of = e;
    })))

pub gate_named : (c : List Statement) (n : Name) (kind : Kind) (args : List Name) (g : ℕ)
    → IsWellFormed c → signal c n ≡ g → Contains c (Gate n kind args)
    → gate_of c g ≡ Some (kind, map (signal c) args)
gate_named c n kind args g well number at = ap (λ k. gate_of c k) (sym number)
    ∙ ap (gate_line c) (definition-signal c (Gate n kind args) n well at refl)

-- the bits of the signals that pins read are the bits that the pins see
pins_named : (c : List Statement) (f : Option Fault) (good delta : List ℕ) (s k from : ℕ)
    (args : List Name) → map (λ at. under f (line.Pin s at.0) (lane (word_over good delta at.1) k))
    (enumerate_from from (map (signal c) args))
    ≡ map (λ at. sees f (bits_of c good delta k) (line.Pin s at.0) at.1) (enumerate_from from args)
pins_named c f good delta s k from [] = refl
pins_named c f good delta s k from (a ∷ args) =
    ap (λ more. under f (line.Pin s from) (bits_of c good delta k a) ∷ more)
    (pins_named c f good delta s k (from + 1) args)

-- the value of a gate for the words of its pins satisfies its equation, if the gate does not read
-- itself
pub equation_of : (c : List Statement) (t : Test) (f : Option Fault) (good delta after : List ℕ)
    (g k : ℕ) (kind : Kind) (pins : List ℕ) → IsWellFormed c → (Reads c g g → ⊥)
    → gate_of c g ≡ Some (kind, pins)
    → ((s : ℕ) → s ≢ g → lane (word_over good delta s) k ≡ lane (word_over good after s) k)
    → lane (word_over good after g) k ≡ under f (line.Stem g)
    (value kind (pin_bits f g pins good delta k)) → HasEquation c t f (bits_of c good after k) g
equation_of c t f good delta after g k kind pins well loop is others valued = record {
  source = λ i n number at. absurd
      (no_source n number (source_definition c n well (at_place (sources c) i n at)));
  gate = λ n other args number at.
      let pair : (kind, pins) ≡ (other, map (signal c) args) =
      ap (λ o. unwrap_or o (kind, pins)) (sym is ∙ gate_named c n other args g well number at) in
      ap (λ x. lane (word_over good after x) k) number ∙ (valued ∙ ap (under f (line.Stem g))
      (ap (λ p. value p.0 (pin_bits f g p.1 good delta k)) pair
      ∙ (ap (value other) (pins_named c f good delta g k 0 args)
      ∙ ap (value other) (pins_agree f (bits_of c good delta k) (bits_of c good after k) g 0 args
      (λ a h. others (signal c a) (λ e. loop (record {
        name = n;
        kind = other;
        args = args;
        read = a;
        gate = at;
        number = number;
        reads = contained args a h;
        of = e;
      })))))));
}
  where
    no_source : (n : Name) → signal c n ≡ g → IsSource (definition c (signal c n)) → ⊥
    no_source n number source = go (definition c g)
        (subst (λ k. IsSource (definition c k)) number source) is
      where
        go : (o : Option Statement) → IsSource o → gate_line c o ≡ Some (kind, pins) → ⊥
        go None h g = h
        go (Some (Input m)) h g = nothing (kind, pins) g
        go (Some (Output m)) h g = h
        go (Some (Gate m k args)) h g = h
        go (Some (Dff q d)) h g = nothing (kind, pins) g

-- the same for a fault that is elsewhere
pub equation_here : (c : List Statement) (t : Test) (f : Fault) (good delta after : List ℕ)
    (g k : ℕ) (kind : Kind) (pins : List ℕ) → IsWellFormed c → IsElsewhere f g → (Reads c g g → ⊥)
    → gate_of c g ≡ Some (kind, pins)
    → ((s : ℕ) → s ≢ g → lane (word_over good delta s) k ≡ lane (word_over good after s) k)
    → lane (word_over good after g) k ≡ value kind (pin_bits None g pins good delta k)
    → HasEquation c t (Some f) (bits_of c good after k) g
equation_here c t f good delta after g k kind pins well off loop is others valued =
    equation_elsewhere c t f (bits_of c good after k) g off
    (equation_of c t None good delta after g k kind pins well loop is others valued)
