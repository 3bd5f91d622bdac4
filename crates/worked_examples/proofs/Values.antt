-- Values of the remaining relations: classes, levels, words, entries.
use Rattle.std.{proofs.Common.{arith, ap, subst, inl, inr}, specs.Int.bit_at}
use Rattle.std.specs.Prelude.{◌≡◌, ◌<◌, ℕ, zero, suc, ◌+◌, ◌*◌, Bool, true, false, List, [], ◌∷◌}
use Rattle.std.specs.Prelude.{map, codes, refl, Some, None, slice_get, unwrap_or, Contains}
use Rattle.std.specs.Prelude.{bytes_eq, slice_index_or, if◌then◌else◌}
use Rattle.bench_net.specs.{declared.Kind.Kind, Statement.{Name, Statement, Gate}}
use Rattle.bench_net.specs.Level.{AreLevels, IsLevelOrder, GoesBefore, greatest}
use Rattle.list_lemmas.proofs.Members.{Among, among, contained}
use Rattle.fault_model.specs.{declared.Model.TheVariants.StuckAt, Fault.{Fault, faults}}
use Rattle.fault_model.specs.Collapse.{IsClassOf, AreClassesOf, Represents, representatives}
use Rattle.fault_model.specs.declared.Line.TheVariants as line
use Rattle.worked_examples.proofs.{Chains.represents, Circuits.buffer}
use Rattle.patterns.specs.{Tests.{bit, as_number}, Least.below}

abbrev stem : ℕ → Bool → Fault
stem s b = record { model = StuckAt; line = line.Stem s; stuck = b }

-- the buffer: a and z stuck at one bit are of one class
buffer_classes : AreClassesOf StuckAt buffer (record {
  class_of = 0 ∷ 1 ∷ 0 ∷ 1 ∷ [];
  representative = 2 ∷ 3 ∷ [];
})
buffer_classes = record { count = refl; class = each; representative = refl }
  where
    at : (f : Fault) (class : ℕ) → Among f (faults StuckAt buffer)
        → slice_get (representatives StuckAt buffer) class ≡ Some (stem 1 f.stuck)
        → Represents buffer f (stem 1 f.stuck) → IsClassOf StuckAt buffer f class
    at f class a place r = (stem 1 f.stuck, contained (faults StuckAt buffer) f a, r, place)

    as_is : (f g : Fault) (k j : ℕ) → Some f ≡ Some g → Some k ≡ Some j
        → IsClassOf StuckAt buffer f k → IsClassOf StuckAt buffer g j
    as_is f g k j e h p = subst (λ x. IsClassOf StuckAt buffer g x) (ap (λ o. unwrap_or o k) h)
        (subst (λ x. IsClassOf StuckAt buffer x k) (ap (λ o. unwrap_or o f) e) p)

    each : (i : ℕ) (f : Fault) (k : ℕ) → slice_get (faults StuckAt buffer) i ≡ Some f
        → slice_get (0 ∷ 1 ∷ 0 ∷ 1 ∷ []) i ≡ Some k → IsClassOf StuckAt buffer f k
    each zero f k e h = as_is (stem 0 false) f 0 k e h
        (at (stem 0 false) 0 (inl refl) refl (represents 3 buffer (stem 0 false) refl))
    each (suc zero) f k e h = as_is (stem 0 true) f 1 k e h
        (at (stem 0 true) 1 (inr (inl refl)) refl (represents 3 buffer (stem 0 true) refl))
    each (suc (suc zero)) f k e h =
        as_is (stem 1 false) f 0 k e h (at (stem 1 false) 0 (inr (inr (inl refl))) refl
        (represents 3 buffer (stem 1 false) refl))
    each (suc (suc (suc zero))) f k e h =
        as_is (stem 1 true) f 1 k e h (at (stem 1 true) 1 (inr (inr (inr (inl refl)))) refl
        (represents 3 buffer (stem 1 true) refl))
    each (suc (suc (suc (suc i)))) f k e h = let bad : None ≡ Some f = e in cc

-- the word of three tests 1, 0, 1 is 5: bit 0 and bit 2, and 0 past the last test
bits_of_five : map (λ k. bit_at 5 k) (below 64)
    ≡ map (λ k. as_number (bit ((true ∷ []) ∷ (false ∷ []) ∷ (true ∷ []) ∷ []) (64 * 0 + k) 0))
    (below 64)
bits_of_five = refl

-- the levels of the buffer: a has 0 and z has 1
abbrev buffer_level : Name → ℕ
buffer_level n = if bytes_eq n (codes "z") then 1 else 0

buffer_levels : AreLevels buffer buffer_level
buffer_levels = record {
  source = λ n at. source n (among (codes "a" ∷ []) n at);
  gate = λ n kind args at. gate n kind args (among buffer (Gate n kind args) at);
}
  where
    source : (n : Name) → Among n (codes "a" ∷ []) → buffer_level n ≡ 0
    source n (inl e) = rw (← e) refl
    source n (inr a) = absurd a

    the_name : Statement → Name
    the_name (Gate n kind args) = n
    the_name _ = []

    the_args : Statement → List Name
    the_args (Gate n kind args) = args
    the_args _ = []

    gate : (n : Name) (kind : Kind) (args : List Name) → Among (Gate n kind args) buffer
        → buffer_level n ≡ 1 + greatest (map buffer_level args)
    gate n kind args (inl e) = cc
    gate n kind args (inr (inl e)) = cc
    gate n kind args (inr (inr (inl e))) = let m : codes "z" ≡ n = ap the_name e in
        let more : codes "a" ∷ [] ≡ args = ap the_args e in rw (← m, ← more) refl
    gate n kind args (inr (inr (inr a))) = absurd a

buffer_order : IsLevelOrder buffer (0 ∷ 1 ∷ [])
buffer_order = record { all = all; count = refl; ordered = ordered }
  where
    all : (s : ℕ) → s < 2 → Contains (0 ∷ 1 ∷ []) s
    all zero h = contained (0 ∷ 1 ∷ []) 0 (inl refl)
    all (suc zero) h = contained (0 ∷ 1 ∷ []) 1 (inr (inl refl))
    all (suc (suc s)) h = absurd (omega (arith, h))

    ordered : (i j d : ℕ) → i < j → j < 2
        → GoesBefore buffer (slice_index_or (0 ∷ 1 ∷ []) i d) (slice_index_or (0 ∷ 1 ∷ []) j d)
    ordered zero (suc zero) d lt len = (
      0,
      1,
      (buffer_level, codes "a", buffer_levels, refl, refl),
      (buffer_level, codes "z", buffer_levels, refl, refl),
      inl (omega arith),
    )
    ordered zero zero d lt len = absurd (omega (arith, lt))
    ordered zero (suc (suc j)) d lt len = absurd (omega (arith, len))
    ordered (suc i) zero d lt len = absurd (omega (arith, lt))
    ordered (suc i) (suc zero) d lt len = absurd (omega (arith, lt))
    ordered (suc i) (suc (suc j)) d lt len = absurd (omega (arith, len))
