-- The meaning of a computed test for the relations: a valuation that passes it solves, and a fault
-- that it finds detected is detected.
use Rattle.std.proofs.Common.{◌≡◌, ℕ, refl, subst, Bool, true, false, not, ◌&&◌, List, arith}
use Rattle.std.specs.{Option.option_map_or, List.{list_all, enumerate_from}}
use Rattle.std.specs.Prelude.{Option, Some, None, slice_index_or, if◌then◌else◌, ◌≢◌}
use Rattle.std.proofs.lemmas.Bool.{and_parts}
use Rattle.bench_net.specs.{Statement.{Name, Statement, Gate}, Scan.{signal, sources, observers}}
use Rattle.list_lemmas.proofs.Members.{contained, Among, each_passes, some_passes}
use Rattle.list_lemmas.proofs.Places.{among_numbered_from}
use Rattle.fault_model.specs.declared.{Line.Line, Model.TheVariants.Transition}
use Rattle.fault_model.specs.{Fault.Fault, Detection.{name_on, HasBit}}
use Rattle.fault_model.specs.Solution.{Test, Solves, Detects, value, under, pins_see, shows}
use Rattle.fault_model.proofs.PlainPrograms.{bit_within, has_bit_within, detects_within, differs}
use Rattle.fault_model.specs.declared.Line.TheVariants as line

abbrev pub same_bit : Bool → Bool → Bool
same_bit a b = if a then b else not b

bits_same : (a b : Bool) → same_bit a b ≡ true → a ≡ b
bits_same true true e = refl
bits_same true false e = cc
bits_same false true e = cc
bits_same false false e = refl

bits_differ : (a b : Bool) → differs a b ≡ true → a ≢ b
bits_differ true true e = λ h. cc
bits_differ true false e = λ h. cc
bits_differ false true e = λ h. cc
bits_differ false false e = λ h. cc

abbrev gate_solved : List Statement → Option Fault → (Name → Bool) → Statement → Bool
gate_solved c f v (Gate n kind args) =
    same_bit (v n) (under f (line.Stem (signal c n)) (value kind (pins_see f v (signal c n) args)))
gate_solved c f v _ = true

abbrev source_solved : List Statement → Test → Option Fault → (Name → Bool) → ℕ × Name → Bool
source_solved c t f v at =
    same_bit (v at.1) (under f (line.Stem (signal c at.1)) (slice_index_or t at.0 false))

abbrev pub is_solved : List Statement → Test → Option Fault → (Name → Bool) → Bool
is_solved c t f v = list_all (source_solved c t f v) (enumerate_from 0 (sources c))
    && list_all (gate_solved c f v) c

pub solves : (c : List Statement) (t : Test) (f : Option Fault) (v : Name → Bool)
    → is_solved c t f v ≡ true → Solves c t f v
solves c t f v e =
    let p = and_parts (list_all (source_solved c t f v) (enumerate_from 0 (sources c)))
    (list_all (gate_solved c f v) c) e in
    record {
      source = λ i n at. bits_same _ _ (each_passes (source_solved c t f v)
          (enumerate_from 0 (sources c)) (i, n) p.0 (contained _ _
          (subst (λ k. Among (k, n) (enumerate_from 0 (sources c))) (omega arith)
          (among_numbered_from (sources c) 0 i n at))));
      gate = λ n kind args at. bits_same _ _
          (each_passes (gate_solved c f v) c (Gate n kind args) p.1 at);
    }

-- a fault that the plain program finds detected is detected, if its two valuations solve
pub detects : (k : ℕ) (c : List Statement) (t : Test) (f : Fault)
    → is_solved c t None (bit_within k c t None) ≡ true
    → is_solved c t (Some f) (bit_within k c t (Some f)) ≡ true → detects_within k c t f ≡ true
    → Detects c t f
detects k c t f e g d =
    let found = some_passes (λ o. differs (shows None (bit_within k c t None) o)
    (shows (Some f) (bit_within k c t (Some f)) o)) (observers c) d in (
      bit_within k c t None,
      bit_within k c t (Some f),
      found.0,
      solves c t None (bit_within k c t None) e,
      solves c t (Some f) (bit_within k c t (Some f)) g,
      found.1,
      bits_differ _ _ found.2,
    )

bits_alike : (a b : Bool) → not (differs a b) ≡ true → a ≡ b
bits_alike true true e = refl
bits_alike true false e = cc
bits_alike false true e = cc
bits_alike false false e = refl

-- a bit that the plain program finds on a line is there, if its valuation solves
has_bit : (k : ℕ) (c : List Statement) (t : Test) (f : Fault)
    → is_solved c t None (bit_within k c t None) ≡ true → has_bit_within k c t f ≡ true
    → HasBit c t f.line f.stuck
has_bit k c t f e h = go (name_on c f.line) refl h
  where
    go : (o : Option Name) → name_on c f.line ≡ o
        → option_map_or (λ n. not (differs (bit_within k c t None n) f.stuck)) o false ≡ true
        → HasBit c t f.line f.stuck
    go None at h = let bad : false ≡ true = h in cc
    go (Some n) at h = (
      bit_within k c t None,
      n,
      solves c t None (bit_within k c t None) e,
      at,
      bits_alike (bit_within k c t None n) f.stuck h,
    )

abbrev pub slow : Line → Bool → Fault
slow l b = record { model = Transition; line = l; stuck = b }
