-- The equations of signals under a fault: all of them make a solution, and the word of a signal
-- satisfies its own.
use Rattle.std.proofs.Common.{◌≡◌, ◌≢◌, ◌<◌, ℕ, ◌+◌, refl, sym, ◌∙◌, ap, subst, Bool, true, false}
use Rattle.std.{proofs.Common.{List, [], ◌∷◌, length, set}, specs.List.enumerate_from}
use Rattle.std.specs.Prelude.{Contains, Option, Some, None, map, slice_index_or, unwrap_or, bit_xor}
use Rattle.std.proofs.lemmas.List.{get_or-set_other}
use Rattle.bench_net.specs.{declared.Kind.Kind, Circuit.IsWellFormed}
use Rattle.bench_net.specs.Statement.{Name, Statement, Input, Output, Gate, Dff}
use Rattle.bench_net.specs.Scan.{names, signal, definition, gate_of, gate_line, sources}
use Rattle.bench_net.proofs.Public.{name_of-signal}
use Rattle.list_lemmas.proofs.{Members.{Among, among, contained}, Places.{at_place, place_within}}
use Rattle.fault_model.specs.declared.Line.TheVariants as line
use Rattle.fault_model.specs.{Fault.Fault, Solution.{Test, Solves, under, value, sees, pins_see}}
use Rattle.fault_model.proofs.Public.{pins_agree, under_own, IsSource, defined_among}
use Rattle.fault_model.proofs.Public.{source_definition, source_named}
use Rattle.flat_circuit.specs.{Words.{lane, word_over, pin_bits}, Readers.Reads}
use Rattle.flat_circuit.proofs.Public.{nothing}
use Rattle.block_sim.specs.Events.{bits_of, HasEquation}
use Rattle.block_sim.proofs.Public.{equation_same, gate_named_of_signal_equations}

pub all_equations : (c : List Statement) (t : Test) (f : Option Fault) (v : Name → Bool)
    → IsWellFormed c → ((s : ℕ) → s < length (names c) → HasEquation c t f v s) → Solves c t f v
all_equations c t f v well each = record {
  source = λ i n at. (each (signal c n)
      (within n (source_named c n (at_place (sources c) i n at)))).source i n refl at;
  gate = λ n kind args at. (each (signal c n)
      (within n (defined_among c (Gate n kind args) n (among c (Gate n kind args) at) refl))).gate
      n kind args refl at;
}
  where
    within : (n : Name) → Among n (names c) → signal c n < length (names c)
    within n a = place_within (names c) (signal c n) n
        (name_of-signal c n (contained (names c) n a))

pub word_other : (good delta : List ℕ) (g diff s k : ℕ) → s ≢ g
    → lane (word_over good delta s) k ≡ lane (word_over good (set delta g diff) s) k
word_other good delta g diff s k ne = ap (λ d. lane (bit_xor (slice_index_or good s 0) d) k)
    (sym (get_or-set_other delta g s diff 0 ne))

-- a change of a word keeps the equations of other signals that do not read it
pub equation_kept : (c : List Statement) (t : Test) (f : Option Fault) (good delta : List ℕ)
    (g diff s k : ℕ) → s ≢ g → (Reads c s g → ⊥) → HasEquation c t f (bits_of c good delta k) s
    → HasEquation c t f (bits_of c good (set delta g diff) k) s
equation_kept c t f good delta g diff s k ne off =
    equation_same c t f (bits_of c good delta k) (bits_of c good (set delta g diff) k) s
    (λ n number. word_other good delta g diff (signal c n) k (λ e. ne (sym number ∙ e)))
    (λ n a kind args number at h. word_other good delta g diff (signal c a) k (λ e. off (record {
      name = n;
      kind = kind;
      args = args;
      read = a;
      gate = at;
      number = number;
      reads = h;
      of = e;
    })))

-- the bits of the signals that pins read are the bits that the pins see
pub pins_named : (c : List Statement) (f : Option Fault) (good delta : List ℕ) (s k from : ℕ)
    (args : List Name) → map (λ at. under f (line.Pin s at.0) (lane (word_over good delta at.1) k))
    (enumerate_from from (map (signal c) args))
    ≡ map (λ at. sees f (bits_of c good delta k) (line.Pin s at.0) at.1) (enumerate_from from args)
pins_named c f good delta s k from [] = refl
pins_named c f good delta s k from (a ∷ args) =
    ap (λ more. under f (line.Pin s from) (bits_of c good delta k a) ∷ more)
    (pins_named c f good delta s k (from + 1) args)

-- the value of a gate for the words of its pins satisfies its equation, if the gate does not read
-- itself
pub equation_of : (c : List Statement) (t : Test) (f : Option Fault) (good delta after : List ℕ)
    (g k : ℕ) (kind : Kind) (pins : List ℕ) → IsWellFormed c → (Reads c g g → ⊥)
    → gate_of c g ≡ Some (kind, pins)
    → ((s : ℕ) → s ≢ g → lane (word_over good delta s) k ≡ lane (word_over good after s) k)
    → lane (word_over good after g) k ≡ under f (line.Stem g)
    (value kind (pin_bits f g pins good delta k)) → HasEquation c t f (bits_of c good after k) g
equation_of c t f good delta after g k kind pins well loop is others valued = record {
  source = λ i n number at. absurd
      (no_source n number (source_definition c n well (at_place (sources c) i n at)));
  gate = λ n other args number at.
      let pair : (kind, pins) ≡ (other, map (signal c) args) =
      ap (λ o. unwrap_or o (kind, pins)) (sym is
      ∙ gate_named_of_signal_equations c n other args g well number at) in
      ap (λ x. lane (word_over good after x) k) number ∙ (valued ∙ ap (under f (line.Stem g))
      (ap (λ p. value p.0 (pin_bits f g p.1 good delta k)) pair
      ∙ (ap (value other) (pins_named c f good delta g k 0 args)
      ∙ ap (value other) (pins_agree f (bits_of c good delta k) (bits_of c good after k) g 0 args
      (λ a h. others (signal c a) (λ e. loop (record {
        name = n;
        kind = other;
        args = args;
        read = a;
        gate = at;
        number = number;
        reads = contained args a h;
        of = e;
      })))))));
}
  where
    no_source : (n : Name) → signal c n ≡ g → IsSource (definition c (signal c n)) → ⊥
    no_source n number source = go (definition c g)
        (subst (λ k. IsSource (definition c k)) number source) is
      where
        go : (o : Option Statement) → IsSource o → gate_line c o ≡ Some (kind, pins) → ⊥
        go None h g = h
        go (Some (Input m)) h g = nothing (kind, pins) g
        go (Some (Output m)) h g = h
        go (Some (Gate m k args)) h g = h
        go (Some (Dff q d)) h g = nothing (kind, pins) g

-- the stuck bit satisfies the equation of the fault's stem
pub equation_stuck : (c : List Statement) (t : Test) (f : Fault) (v : Name → Bool) (g : ℕ)
    → f.line ≡ line.Stem g → ((n : Name) → signal c n ≡ g → v n ≡ f.stuck)
    → HasEquation c t (Some f) v g
equation_stuck c t f v g own stuck = record {
  source = λ i n number at. stuck n number ∙ sym (under_own f (line.Stem g) _ own);
  gate = λ n kind args number at. stuck n number ∙ sym (under_own f (line.Stem g) _ own);
}
