-- A well-formed circuit has a solution under every test, without a fault and under each fault.
use Rattle.std.proofs.Common.{◌≡◌, ◌<◌, ◌≤◌, ℕ, zero, suc, refl, sym, ◌∙◌, ap, subst, Bool, false}
use Rattle.std.proofs.Common.{List, [], ◌∷◌, arith}
use Rattle.std.specs.Prelude.{Contains, Option, Some, None, slice_get, slice_index_or}
use Rattle.bench_net.specs.{declared.Kind.Kind, Scan.{names, sources, signal, definition}}
use Rattle.bench_net.specs.Statement.{Name, Statement, Input, Output, Gate, Dff}
use Rattle.bench_net.specs.Circuit.{IsWellFormed}
use Rattle.bench_net.proofs.Public.{definition_defines, name_of-signal, read_named}
use Rattle.list_lemmas.proofs.{Members.{Among, among, contained}, Places.at_place}
use Rattle.fault_model.proofs.SignalsDefined.{definition-signal, IsSource, source_definition}
use Rattle.fault_model.{proofs.SignalsDefined.source_place, specs.Fault.Fault}
use Rattle.fault_model.specs.Solution.{Test, Solves, value, under, pins_see}
use Rattle.fault_model.proofs.{PlainPrograms.{bit_within, driven}, OneSolution.pins_agree}
use Rattle.fault_model.specs.declared.Line.TheVariants as line

-- a gate that defines a name's number is the gate of that name
gate_named : (c : List Statement) (n g : Name) (kind : Kind) (args : List Name) → Among n (names c)
    → definition c (signal c n) ≡ Some (Gate g kind args) → Among (Gate n kind args) c
gate_named c n g kind args a e =
    let p = definition_defines c (signal c n) (Gate g kind args) e in
    let same : Some p.0 ≡ Some n = sym p.2 ∙ name_of-signal c n (contained (names c) n a) in
    let first : g ∷ [] ≡ p.0 ∷ [] = p.1 in
    let name : g ≡ n = cc in
    subst (λ x. Among (Gate x kind args) c) name p.3

module _ (c : List Statement) (t : Test) (f : Option Fault) (well : IsWellFormed c) where
  -- following more gates back changes nothing
  steady : (bound k j : ℕ) (n : Name) → well.acyclic.0 n < bound → bound ≤ k → bound ≤ j
      → Among n (names c) → bit_within k c t f n ≡ bit_within j c t f n
  steady zero k j n lt hk hj a = absurd (omega (arith, lt))
  steady (suc bound) zero j n lt hk hj a = absurd (omega (arith, hk))
  steady (suc bound) (suc k) zero n lt hk hj a = absurd (omega (arith, hj))
  steady (suc bound) (suc k) (suc j) n lt hk hj a = ap (under f (line.Stem (signal c n))) (go
      (λ m h b. steady bound k j m h (omega (arith, hk)) (omega (arith, hj)) b)
      (definition c (signal c n)) refl)
    where
      go : ((m : Name) → well.acyclic.0 m < bound → Among m (names c)
          → bit_within k c t f m ≡ bit_within j c t f m) → (o : Option Statement)
          → definition c (signal c n) ≡ o
          → driven c t f (bit_within k c t f) n o ≡ driven c t f (bit_within j c t f) n o
      go ih None e = refl
      go ih (Some (Input m)) e = refl
      go ih (Some (Output m)) e = refl
      go ih (Some (Dff q d)) e = refl
      go ih (Some (Gate g kind args)) e =
          let gate : Among (Gate n kind args) c = gate_named c n g kind args a e in
          ap (value kind) (pins_agree f (bit_within k c t f) (bit_within j c t f) (signal c n) 0
          args (λ m h. ih m (lower gate m h)
          (among (names c) m (read_named c (Gate n kind args) m well gate h))))
        where
          lower : Among (Gate n kind args) c → (m : Name) → Among m args → well.acyclic.0 m < bound
          lower gate m h = omega (
            arith,
            lt,
            well.acyclic.1 n m
                (kind, args, contained c (Gate n kind args) gate, contained args m h),
          )

  -- the bit of a name, following back as many gates as its number allows
  abbrev pub solution : Name → Bool
  solution n = bit_within (suc (well.acyclic.0 n)) c t f n

  solved_source : (i : ℕ) (n : Name) → slice_get (sources c) i ≡ Some n
      → solution n ≡ under f (line.Stem (signal c n)) (slice_index_or t i false)
  solved_source i n e = ap (under f (line.Stem (signal c n)))
      (go (definition c (signal c n)) (source_definition c n well (at_place (sources c) i n e)))
    where
      go : (o : Option Statement) → IsSource o
          → driven c t f (bit_within (well.acyclic.0 n) c t f) n o ≡ slice_index_or t i false
      go None h = absurd h
      go (Some (Input m)) h = ap (λ k. slice_index_or t k false) (source_place c i n well e)
      go (Some (Output m)) h = absurd h
      go (Some (Gate g kind args)) h = absurd h
      go (Some (Dff q d)) h = ap (λ k. slice_index_or t k false) (source_place c i n well e)

  solved_gate : (n : Name) (kind : Kind) (args : List Name) → Contains c (Gate n kind args)
      → solution n
      ≡ under f (line.Stem (signal c n)) (value kind (pins_see f solution (signal c n) args))
  solved_gate n kind args at = ap (λ o. under f (line.Stem (signal c n))
      (driven c t f (bit_within (well.acyclic.0 n) c t f) n o))
      (definition-signal c (Gate n kind args) n well at refl)
      ∙ ap (λ bits. under f (line.Stem (signal c n)) (value kind bits))
      (pins_agree f (bit_within (well.acyclic.0 n) c t f) solution (signal c n) 0 args same)
    where
      same : (m : Name) → Among m args → bit_within (well.acyclic.0 n) c t f m ≡ solution m
      same m h =
          let lt : well.acyclic.0 m < well.acyclic.0 n =
          well.acyclic.1 n m (kind, args, at, contained args m h) in
          steady (suc (well.acyclic.0 m)) (well.acyclic.0 n) (suc (well.acyclic.0 m)) m
          (omega arith) (omega (arith, lt)) (omega arith) (among (names c) m
          (read_named c (Gate n kind args) m well (among c (Gate n kind args) at) h))

  pub solution_solves : Solves c t f solution
  solution_solves = record { source = solved_source; gate = solved_gate }
