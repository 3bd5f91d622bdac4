-- From words to solutions: words that satisfy the equation of each signal are, in each lane, a
-- solution.
use Rattle.std.proofs.Common.{◌≡◌, ◌≢◌, ◌<◌, ℕ, ◌+◌, refl, sym, ◌∙◌, ap, subst, Bool, true, false}
use Rattle.std.{proofs.Common.{List, [], ◌∷◌, length, inl, inr, ◌⊎◌}, specs.List.enumerate_from}
use Rattle.std.specs.Prelude.{Option, Some, map, set, slice_index_or, bit_xor}
use Rattle.std.proofs.lemmas.{List.{get_or-set_same, get_or-set_other}, Bool.cases_eq}
use Rattle.bench_net.specs.{declared.Kind.Kind, Statement.{Name, Statement, Gate}}
use Rattle.bench_net.specs.Scan.{names, signal, name_of, inputs, cells, sources}
use Rattle.bench_net.specs.Circuit.{IsWellFormed}
use Rattle.bench_net.proofs.Public.{name_of-signal, signal-name_of, read_named}
use Rattle.list_lemmas.proofs.Members.{Among, among, contained, among_left, among_right}
use Rattle.list_lemmas.proofs.Places.{at_place, placed, place_within}
use Rattle.fault_model.specs.declared.Line.TheVariants as line
use Rattle.fault_model.specs.{Fault.Fault, Solution.{Test, Solves, value, under, sees, pins_see}}
use Rattle.fault_model.proofs.Public.{Driven, driven, pins_agree, solution, solution_solves}
use Rattle.fault_model.proofs.Public.{defined_among, source_named}
use Rattle.flat_circuit.specs.Words.{lane, lane_bits, word_over, test_of, AreWords, IsSignalWord}
use Rattle.flat_circuit.{specs.Words.pin_bits, proofs.Lanes.{lane_xor, lane_zero, unlike}}

-- if the words do not differ, an overlaid word is the word
pub lane_same : (word k d : ℕ) → d ≡ 0 → lane (bit_xor word d) k ≡ lane word k
lane_same word k d e = ap (λ x. lane (bit_xor word x) k) e
    ∙ (lane_xor word 0 k ∙ (ap (unlike (lane word k)) (lane_zero k) ∙ turned (lane word k)))
  where
    turned : (b : Bool) → unlike b false ≡ b
    turned true = refl
    turned false = refl

-- the bits that pins see, by the signals that they read and by names
pins_from : (c : List Statement) (f : Option Fault) (words delta : List ℕ) (gate k from : ℕ)
    (args : List Name) → ((s : ℕ) → slice_index_or delta s 0 ≡ 0)
    → map (λ at. under f (line.Pin gate at.0) (lane (word_over words delta at.1) k))
    (enumerate_from from (map (signal c) args))
    ≡ map (λ at. sees f (lane_bits c words k) (line.Pin gate at.0) at.1) (enumerate_from from args)
pins_from c f words delta gate k from [] clear = refl
pins_from c f words delta gate k from (a ∷ args) clear = rw (
  lane_same (slice_index_or words (signal c a) 0) k (slice_index_or delta (signal c a) 0)
      (clear (signal c a)),
  pins_from c f words delta gate k (from + 1) args clear,
) refl

pub pins_named : (c : List Statement) (f : Option Fault) (words delta : List ℕ) (gate k : ℕ)
    (args : List Name) → ((s : ℕ) → slice_index_or delta s 0 ≡ 0)
    → pin_bits f gate (map (signal c) args) words delta k ≡ pins_see f (lane_bits c words k) gate
    args
pins_named c f words delta gate k args clear = pins_from c f words delta gate k 0 args clear

-- a valuation that agrees with a solution on every signal is a solution
pub solves_like : (c : List Statement) (t : Test) (f : Option Fault) (v w : Name → Bool)
    → IsWellFormed c → ((n : Name) → Among n (names c) → v n ≡ w n)
    → Solves c t f w → Solves c t f v
solves_like c t f v w well same known = record {
  source = λ i n at. same n (source_named c n (at_place (sources c) i n at)) ∙ known.source i n at;
  gate = λ n kind args at.
      same n (defined_among c (Gate n kind args) n (among c (Gate n kind args) at) refl)
      ∙ (known.gate n kind args at ∙ ap (λ bits. under f (line.Stem (signal c n)) (value kind bits))
      (pins_agree f w v (signal c n) 0 args
      (λ m h. sym (same m (among (names c) m (read_named c (Gate n kind args) m well
      (among c (Gate n kind args) at) h))))));
}

module _ (c : List Statement) (tests : List Test) (group : ℕ) (f : Option Fault) where
  -- a signal's word is right if in each lane it has the bit that every solution gives the signal
  abbrev pub IsRight : ℕ → ℕ → Type 0
  IsRight s word = (n : Name) (k : ℕ) (v : Name → Bool) → name_of c s ≡ Some n → k < 128
      → Solves c (test_of tests group k) f v → lane word k ≡ v n

  -- a word that satisfies the equation of its signal is right if the words of the signals that its
  -- gate reads are right
  pub right_by_equation : (words : List ℕ) (s word : ℕ) → IsWellFormed c
      → IsSignalWord c tests group f words s word
      → ((n a : Name) (kind : Kind) (args : List Name) → signal c n ≡ s → Among (Gate n kind args) c
      → Among a args → IsRight (signal c a) (slice_index_or words (signal c a) 0)) → IsRight s word
  right_by_equation words s word well equation pins n k v named lt solves =
      go (driven c n (at_place (names c) s n named))
    where
      number : signal c n ≡ s
      number = signal-name_of c s n well.once named
          (contained (names c) n (at_place (names c) s n named))

      by_source : Among n (sources c) → lane word k ≡ v n
      by_source a =
          let at = placed (sources c) n a in
          equation.source at.0 n k lt named at.1 ∙ sym (rw (← number) (solves.source at.0 n at.1))

      by_gate : (kind : Kind) (args : List Name) → Among (Gate n kind args) c → lane word k ≡ v n
      by_gate kind args a = equation.gate n kind args k lt number (contained c (Gate n kind args) a)
          ∙ (ap (λ bits. under f (line.Stem s) (value kind bits))
          (pins_agree f (lane_bits c words k) v s 0 args same)
          ∙ sym (rw (← number) (solves.gate n kind args (contained c (Gate n kind args) a))))
        where
          same : (m : Name) → Among m args → lane_bits c words k m ≡ v m
          same m h = pins n m kind args number a h m k v
              (name_of-signal c m (read_named c (Gate n kind args) m well a h)) lt solves

      go : Driven c n → lane word k ≡ v n
      go (inl x) = by_source (among_left (inputs c) (map (λ cell. cell.0) (cells c)) n x)
      go (inr (inl x)) = by_source (among_right (inputs c) (map (λ cell. cell.0) (cells c)) n x)
      go (inr (inr x)) = by_gate x.0 x.1 x.2

  -- if every signal's word is right, each lane solves the circuit
  pub right_in_lanes : (words : List ℕ) → IsWellFormed c
      → ((s : ℕ) → s < length (names c) → IsRight s (slice_index_or words s 0))
      → AreWords c tests group f words
  right_in_lanes words well right k lt =
      solves_like c (test_of tests group k) f (lane_bits c words k)
      (solution c (test_of tests group k) f well) well same
      (solution_solves c (test_of tests group k) f well)
    where
      same : (n : Name) → Among n (names c)
          → lane_bits c words k n ≡ solution c (test_of tests group k) f well n
      same n a =
          let named : name_of c (signal c n) ≡ Some n =
          name_of-signal c n (contained (names c) n a) in
          right (signal c n) (place_within (names c) (signal c n) n named) n k
          (solution c (test_of tests group k) f well) named lt
          (solution_solves c (test_of tests group k) f well)

  -- a right word that is written leaves the right ones right
  pub right_kept : (words : List ℕ) (s t word : ℕ) → s < length words → IsRight s word
      → IsRight t (slice_index_or words t 0) → IsRight t (slice_index_or (set words s word) t 0)
  right_kept words s t word lt new old = go (cases_eq t s)
    where
      go : (t ≡ s) ⊎ (t ≢ s) → IsRight t (slice_index_or (set words s word) t 0)
      go (inl e) = subst (λ x. IsRight x (slice_index_or (set words s word) x 0)) (sym e)
          (subst (IsRight s) (sym (get_or-set_same words s word 0 lt)) new)
      go (inr e) = subst (IsRight t) (sym (get_or-set_other words s t word 0 e)) old
