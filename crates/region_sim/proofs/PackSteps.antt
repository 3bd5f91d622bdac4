-- One evaluation of a pack, lane by lane.
use Rattle.std.proofs.Common.{◌≡◌, ◌≢◌, ◌<◌, ◌⊎◌, ℕ, refl, sym, ◌∙◌, ap, arith, inl, inr, Bool}
use Rattle.std.proofs.Common.{true, false, ◌&&◌, ◌||◌, List, [], ◌∷◌, length, map}
use Rattle.std.specs.{Prelude.{Contains, bit_and, bit_or, slice_index_or}, Bool.Decides}
use Rattle.std.proofs.lemmas.{List.{get_or-set_same, get_or-set_other}, Nat.le_or_l}
use Rattle.bench_net.specs.{declared.Kind.Kind, Statement.{Name, Statement, Gate}, Scan.signal}
use Rattle.bench_net.specs.Circuit.{IsWellFormed}
use Rattle.fault_model.specs.Solution.{value}
use Rattle.wide_words.specs.Lanes.{Layout, lane_in, slot_of}
use Rattle.flat_circuit.specs.{Readers.IsObserved, GateForms.inverted_if, Words.lane}
use Rattle.flat_circuit.proofs.Public.{lane_and, lane_or, unlike}
use Rattle.block_sim.specs.Events.{AreScheduled}
use Rattle.block_sim.proofs.Public.{gate_named_of_signal_equations as gate_named}
use Rattle.region_sim.{specs.Pack.{IsEvaluated, wide_bit}, proofs.PackGates.unlike_is}
use Rattle.region_sim.proofs.PackWords.{differs_in, has_word, is_some, none_is, some_is}

-- the bit of a name in a lane
abbrev pub wide_bits : Layout → List Statement → (ℕ → List ℕ) → List ℕ → ℕ → Name → Bool
wide_bits l c good delta k n =
    unlike (lane (slice_index_or (good (slot_of l k)) (signal c n) 0) (lane_in l k)) (differs_in
    delta (signal c n) k)

-- A gate was evaluated: in the lanes of a mask it comes to differ where its kind gives another bit
-- for what its pins see than its fault-free one. Where it differs in a lane for the first time its
-- live readers wait, and the lanes are seen if it is observed.
pub record IsStep (l : Layout) (c : List Statement) (good : ℕ → List ℕ) (kept gate : ℕ)
    (before waited after waits : List ℕ) (shown : ℕ) : Type 0 where
  pub others : (s : ℕ) → s ≢ gate → slice_index_or after s 0 ≡ slice_index_or before s 0
  pub here : (name : Name) (kind : Kind) (args : List Name) (k : ℕ)
      → Contains c (Gate name kind args) → signal c name ≡ gate → k < 512
      → differs_in after gate k ≡ (differs_in before gate k || (lane kept k
      && unlike (lane (slice_index_or (good (slot_of l k)) gate 0) (lane_in l k))
      (value kind (map (wide_bits l c good before k) args))))
  pub stays : has_word before gate ≡ true → has_word after gate ≡ true
  pub some : has_word before gate ≡ false → has_word after gate ≡ true
      → (k : ℕ) × (k < 512) × (differs_in after gate k ≡ true)
  pub scheduled : has_word before gate ≡ false → has_word after gate ≡ true
      → AreScheduled c gate waited waits
  pub same : (has_word before gate ≡ true) ⊎ (has_word after gate ≡ false) → waits ≡ waited
  pub found : (k : ℕ) → k < 512 → lane shown k ≡ true
      → IsObserved c gate × (differs_in after gate k ≡ true)
  pub seen : (k : ℕ) → k < 512 → has_word before gate ≡ false → IsObserved c gate
      → differs_in after gate k ≡ true → lane shown k ≡ true

swapped : (a b : Bool) → (a && b) ≡ (b && a)
swapped true true = refl
swapped true false = refl
swapped false true = refl
swapped false false = refl

turned : (differs bit : Bool) → unlike bit (inverted_if differs bit) ≡ differs
turned true true = refl
turned true false = refl
turned false true = refl
turned false false = refl

module _ (l : Layout) (c : List Statement) (well : IsWellFormed c) (good : ℕ → List ℕ)
    (kept gate : ℕ) (before waited after waits : List ℕ) (shown : ℕ) (within : gate < length before)
    (evaluated : IsEvaluated c l good kept gate before after)
    (some : slice_index_or before gate 0 ≡ 0 → slice_index_or after gate 0 ≢ 0
    → (k : ℕ) × (k < 512) × (lane (slice_index_or after gate 0) k ≡ true))
    (scheduled : slice_index_or before gate 0 ≡ 0 → slice_index_or after gate 0 ≢ 0
    → AreScheduled c gate waited waits)
    (same : (slice_index_or before gate 0 ≢ 0) ⊎ (slice_index_or after gate 0 ≡ 0) → waits ≡ waited)
    (decided : (k : ℕ) → k < 512 → Decides (lane shown k)
    (IsObserved c gate × (slice_index_or before gate 0 ≡ 0)
    × (lane (slice_index_or after gate 0) k ≡ true))) where
  abbrev word : ℕ
  word = evaluated.0

  abbrev old : ℕ
  old = slice_index_or before gate 0

  abbrev new : ℕ
  new = slice_index_or after gate 0

  new_is : new ≡ bit_or old (bit_and word kept)
  new_is = ap (λ xs. slice_index_or xs gate 0) evaluated.2
      ∙ get_or-set_same before gate (bit_or old (bit_and word kept)) 0 within

  pins : (k : ℕ) (args : List Name) → map (wide_bits l c good before k) args
      ≡ map (wide_bit l good before k) (map (signal c) args)
  pins k [] = refl
  pins k (a ∷ args) = ap (λ b. b ∷ map (wide_bits l c good before k) args)
      (unlike_is (lane (slice_index_or (good (slot_of l k)) (signal c a) 0) (lane_in l k))
      (differs_in before (signal c a) k))
      ∙ ap (λ bs. wide_bit l good before k (signal c a) ∷ bs) (pins k args)

  turns : (name : Name) (kind : Kind) (args : List Name) (k : ℕ)
      → Contains c (Gate name kind args) → signal c name ≡ gate → k < 512
      → unlike (lane (slice_index_or (good (slot_of l k)) gate 0) (lane_in l k))
      (value kind (map (wide_bits l c good before k) args)) ≡ lane word k
  turns name kind args k there number lt =
      let bit = lane (slice_index_or (good (slot_of l k)) gate 0) (lane_in l k) in
      ap (λ bs. unlike bit (value kind bs)) (pins k args)
      ∙ (ap (unlike bit) (sym (evaluated.1 kind (map (signal c) args) k lt
      (gate_named c name kind args gate well number there))) ∙ turned (lane word k) bit)

  here : (name : Name) (kind : Kind) (args : List Name) (k : ℕ)
      → Contains c (Gate name kind args) → signal c name ≡ gate → k < 512
      → lane new k ≡ (lane old k || (lane kept k
      && unlike (lane (slice_index_or (good (slot_of l k)) gate 0) (lane_in l k))
      (value kind (map (wide_bits l c good before k) args))))
  here name kind args k there number lt = ap (λ w. lane w k) new_is
      ∙ (lane_or old (bit_and word kept) k ∙ ap (λ b. lane old k || b) (lane_and word kept k
      ∙ (swapped (lane word k) (lane kept k)
      ∙ ap (λ b. lane kept k && b) (sym (turns name kind args k there number lt)))))

  stays : old ≢ 0 → new ≢ 0
  stays ne e =
      let le = le_or_l old (bit_and word kept) in
      let is = sym new_is ∙ e in
      ne (omega (arith, le, is))

  pub stepped : IsStep l c good kept gate before waited after waits shown
  stepped = record {
    others = λ s ne. ap (λ xs. slice_index_or xs s 0) evaluated.2
        ∙ get_or-set_other before gate s (bit_or old (bit_and word kept)) 0 ne;
    here = here;
    stays = λ has. is_some new (stays (some_is old has));
    some = λ was now. some (none_is old was) (some_is new now);
    scheduled = λ was now. scheduled (none_is old was) (some_is new now);
    same = λ w. same (go w);
    found = λ k lt on. let d = (decided k lt).0 on in (d.0, d.2);
    seen = λ k lt was o on. (decided k lt).1 (o, none_is old was, on);
  }
    where
      go : (has_word before gate ≡ true) ⊎ (has_word after gate ≡ false) → (old ≢ 0) ⊎ (new ≡ 0)
      go (inl has) = inl (some_is old has)
      go (inr none) = inr (none_is new none)
