-- Words of four groups side by side: their lanes in a wide word, and their rows.
use Rattle.std.proofs.Common.{◌≡◌, ◌<◌, ◌≤◌, ℕ, zero, suc, ◌+◌, ◌*◌, ◌/◌, ◌%◌, refl, sym, ◌∙◌, ap}
use Rattle.std.proofs.Common.{subst, Bool, List, [], ◌∷◌, ◌++◌, length, set, arith, Global, Vec}
use Rattle.std.specs.Prelude.{None, Some, bit_xor, map, slice_get, slice_index_or, unwrap_or}
use Rattle.std.proofs.lemmas.List.{map-append}
use Rattle.bench_net.specs.{Statement.Statement, Scan.names}
use Rattle.fault_model.specs.Solution.{Test}
use Rattle.wide_words.specs.Layouts.{both_layout, one_of}
use Rattle.flat_circuit.specs.{BlockSpans.groups, GateForms.inverted_if, GroupRows.AreRowsFrom}
use Rattle.flat_circuit.specs.{SlotWords.copied_bit, Words.{AreWords, lane}}
use Rattle.flat_circuit.proofs.GateLanes.{turned_lane}

-- a bit that is inverted if this is asked for
pub turned_bit_of : (n word flips k : ℕ) (turn bit : Bool) → n ≡ bit_xor word flips
    → lane flips k ≡ turn → lane word k ≡ bit → lane n k ≡ inverted_if turn bit
turned_bit_of n word flips k turn bit is flip seen =
    ap (λ m. lane m k) is ∙ (turned_lane word flips k turn flip ∙ ap (inverted_if turn) seen)

-- the bits of the pins in a lane of a slot are those of the slot's own words
pub slot_bits : (good : ℕ → List ℕ) (pins : List ℕ) (slot j : ℕ) → j < 128
    → map (copied_bit both_layout good (128 * slot + j)) pins
    ≡ map (λ s. lane (slice_index_or (good slot) s 0) j) pins
slot_bits good pins slot j lt =
    let at : (128 * slot + j) / 128 ≡ slot = omega (arith, lt) in
    let within : 0 + (128 * slot + j) % 128 ≡ j = omega (arith, lt) in
    ap (λ n. map (λ s. lane (slice_index_or (good n) s 0) (0 + (128 * slot + j) % 128)) pins) at
    ∙ ap (λ n. map (λ s. lane (slice_index_or (good slot) s 0) n) pins) within

-- the lane of a wide word that stands in a slot is a lane of the slot's own word
pub slot_lane : (words : ℕ → ℕ) (slot j : ℕ) → j < 128
    → lane (words ((128 * slot + j) / 128)) ((128 * slot + j) % 128) ≡ lane (words slot) j
slot_lane words slot j lt =
    let at : (128 * slot + j) / 128 ≡ slot = omega (arith, lt) in
    let within : (128 * slot + j) % 128 ≡ j = omega (arith, lt) in
    ap (λ n. lane (words n) ((128 * slot + j) % 128)) at ∙ ap (lane (words slot)) within

-- a word is written into each of four rows
pub set_each : (first second third fourth : List ℕ) (s a b c d slot : ℕ)
    → set (one_of first second third fourth slot) s (one_of a b c d slot)
    ≡ one_of (set first s a) (set second s b) (set third s c) (set fourth s d) slot
set_each first second third fourth s a b c d zero = refl
set_each first second third fourth s a b c d (suc zero) = refl
set_each first second third fourth s a b c d (suc (suc zero)) = refl
set_each first second third fourth s a b c d (suc (suc (suc slot))) = refl

-- the rows with one more, by what the vectors hold
pub pushed_row : (after before : List (Vec ℕ Global)) (row : Vec ℕ Global) (rows : List (List ℕ))
    (words : List ℕ) → after ≡ before ++ row ∷ [] → map (λ v. v.items) before ≡ rows
    → row.items ≡ words → map (λ v. v.items) after ≡ rows ++ words ∷ []
pushed_row after before row rows words is was words_are =
    ap (map (λ v. v.items)) is ∙ (map-append (λ (v : Vec ℕ Global). v.items) before (row ∷ [])
    ∙ (ap (λ l. l ++ row.items ∷ []) was ∙ ap (λ w. rows ++ w ∷ []) words_are))

-- the rows of four groups
module _ (c : List Statement) (tests : List Test) (group : ℕ) (first second third fourth : List ℕ)
    (words : (slot : ℕ) → slot < 4
    → AreWords c tests (group + slot) None (one_of first second third fourth slot))
    (room : (slot : ℕ) → slot < 4
    → length (one_of first second third fourth slot) ≡ length (names c)) where
  pub four_from : group + 4 ≤ groups (length tests)
      → AreRowsFrom c tests group (first ∷ second ∷ third ∷ fourth ∷ [])
  four_from low = record { within = omega (arith, low); each = go }
    where
      one : (slot : ℕ) (row : List ℕ) → slot < 4
          → Some (one_of first second third fourth slot) ≡ Some row
          → (length row ≡ length (names c)) × AreWords c tests (group + slot) None row
      one slot row lt is =
          let same : one_of first second third fourth slot ≡ row = ap (λ o. unwrap_or o row) is in (
            ap length (sym same) ∙ room slot lt,
            subst (AreWords c tests (group + slot) None) same (words slot lt),
          )

      go : (k : ℕ) (row : List ℕ) → slice_get (first ∷ second ∷ third ∷ fourth ∷ []) k ≡ Some row
          → (length row ≡ length (names c)) × AreWords c tests (group + k) None row
      go zero row is = one 0 row (omega arith) is
      go (suc zero) row is = one 1 row (omega arith) is
      go (suc (suc zero)) row is = one 2 row (omega arith) is
      go (suc (suc (suc zero))) row is = one 3 row (omega arith) is
      go (suc (suc (suc (suc k)))) row is =
          let bad : None ≡ Some row = is in absurd (cc)

-- a fact of each of four slots
pub of_four : {X : Type 0} (P : ℕ → X → Type 0) (a b c d : X) → P 0 a → P 1 b → P 2 c → P 3 d
    → (slot : ℕ) → slot < 4 → P slot (one_of a b c d slot)
of_four P a b c d first second third fourth zero lt = first
of_four P a b c d first second third fourth (suc zero) lt = second
of_four P a b c d first second third fourth (suc (suc zero)) lt = third
of_four P a b c d first second third fourth (suc (suc (suc zero))) lt = fourth
of_four P a b c d first second third fourth (suc (suc (suc (suc slot)))) lt =
    absurd (omega (arith, lt))
