-- The pins of a gate that see another bit, pin by pin.
use Rattle.std.proofs.Common.{◌≡◌, ◌≢◌, ◌<◌, ◌≤◌, ◌+◌, ◌∙◌, ℕ, refl, sym, ap, subst, Bool, true}
use Rattle.std.{proofs.Common.{false, List, length, arith, inl, inr, ◌⊎◌}, specs.Bool.Decides}
use Rattle.std.specs.Prelude.{Some, bit_or, bit_xor, slice_get, slice_index_or, ◌||◌}
use Rattle.std.proofs.lemmas.{Bool.false≢true, Option.{get_or_from_slice_get, slice_get-get_or}}
use Rattle.list_lemmas.proofs.Places.{place_within}
use Rattle.fault_model.specs.declared.Line.TheVariants as line
use Rattle.fault_model.specs.{Fault.Fault, Solution.under}
use Rattle.flat_circuit.specs.Words.{lane, word_over}
use Rattle.flat_circuit.proofs.Public.{lane_or, lane_xor, lane_zero, unlike}
use Rattle.blocking_pins.specs.Effects.{Differs}

-- a pin before a number sees another bit
abbrev pub DiffersBelow : Fault → List ℕ → List ℕ → ℕ → List ℕ → ℕ → ℕ → Type 0
DiffersBelow f good delta gate pins k end = (pin : ℕ) × (pin < end) × (read : ℕ)
    × (slice_get pins pin ≡ Some read) × (lane (slice_index_or good read 0) k
    ≢ under (Some f) (line.Pin gate pin) (lane (word_over good delta read) k))

before_or : (i n : ℕ) → i < n + 1 → (i < n) ⊎ (i ≡ n)
before_or i n lt = grind (arith, lt)

unlike_differs : (a b : Bool) → unlike a b ≡ true → b ≢ a
unlike_differs true true e = absurd (false≢true e)
unlike_differs true false e = λ z. false≢true z
unlike_differs false true e = λ z. false≢true (sym z)
unlike_differs false false e = absurd (false≢true e)

differs_unlike : (a b : Bool) → b ≢ a → unlike a b ≡ true
differs_unlike true true ne = absurd (ne refl)
differs_unlike true false ne = refl
differs_unlike false true ne = refl
differs_unlike false false ne = absurd (ne refl)

either : (a b : Bool) → (a || b) ≡ true → (a ≡ true) ⊎ (b ≡ true)
either true b e = inl refl
either false b e = inr e

left : (a b : Bool) → a ≡ true → (a || b) ≡ true
left true b e = refl
left false b e = absurd (false≢true e)

right : (a b : Bool) → b ≡ true → (a || b) ≡ true
right true b e = refl
right false b e = e

module _ (f : Fault) (good delta : List ℕ) (gate : ℕ) (pins : List ℕ) (k : ℕ) where
  pub entered_none : Decides (lane 0 k) (DiffersBelow f good delta gate pins k 0)
  entered_none = (
    λ on. absurd (false≢true (sym (lane_zero k) ∙ on)),
    λ h. let lt = h.1 in absurd (omega (arith, lt)),
  )

  module _ (i word seen : ℕ) (lt : i < length pins)
      (is : lane seen k ≡ under (Some f) (line.Pin gate i)
      (lane (word_over good delta (slice_index_or pins i 0)) k))
      (h : Decides (lane word k) (DiffersBelow f good delta gate pins k i)) where
    abbrev read : ℕ
    read = slice_index_or pins i 0

    abbrev own : ℕ
    own = bit_xor seen (slice_index_or good read 0)

    own_lane : lane own k ≡ unlike (lane seen k) (lane (slice_index_or good read 0) k)
    own_lane = lane_xor seen (slice_index_or good read 0) k

    to : (lane word k ≡ true) ⊎ (lane own k ≡ true) → DiffersBelow f good delta gate pins k (i + 1)
    to (inl on) = let w = h.0 on in (w.0, (let low = w.1 in omega (arith, low)), w.2, w.3, w.4)
    to (inr on) = (
      i,
      omega arith,
      read,
      slice_get-get_or pins i 0 lt,
      λ e. unlike_differs (lane seen k) (lane (slice_index_or good read 0) k)
          (sym own_lane ∙ on) (e ∙ sym is),
    )

    from : (w : DiffersBelow f good delta gate pins k (i + 1)) → (w.0 < i) ⊎ (w.0 ≡ i)
        → (lane word k || lane own k) ≡ true
    from w (inl below) = left (lane word k) (lane own k) (h.1 (w.0, below, w.2, w.3, w.4))
    from w (inr same) = right (lane word k) (lane own k) (own_lane
        ∙ differs_unlike (lane seen k) (lane (slice_index_or good read 0) k) differs)
      where
        reads : read ≡ w.2
        reads = get_or_from_slice_get pins i w.2 0
            (subst (λ x. slice_get pins x ≡ Some w.2) same w.3)

        differs : lane (slice_index_or good read 0) k ≢ lane seen k
        differs e = w.4 (ap (λ x. lane (slice_index_or good x 0) k) (sym reads) ∙ (e ∙ (is
            ∙ (ap (λ x. under (Some f) (line.Pin gate i) (lane (word_over good delta x) k)) reads
            ∙ ap (λ x. under (Some f) (line.Pin gate x) (lane (word_over good delta w.2) k))
            (sym same)))))

    pub entered_more : Decides (lane (bit_or word (bit_xor seen
        (slice_index_or good (slice_index_or pins i 0) 0))) k)
        (DiffersBelow f good delta gate pins k (i + 1))
    entered_more = (
      λ on. to (either (lane word k) (lane own k) (sym (lane_or word own k) ∙ on)),
      λ w. lane_or word own k ∙ from w (before_or w.0 i w.1),
    )

  pub entered_all : (word end : ℕ) → length pins ≤ end
      → Decides (lane word k) (DiffersBelow f good delta gate pins k end)
      → Decides (lane word k) (Differs f good delta gate pins k)
  entered_all word end le h = (
    λ on. let w = h.0 on in (w.0, w.2, w.3, w.4),
    λ w. let lt = place_within pins w.0 w.1 w.2 in
        h.1 (w.0, omega (arith, lt, le), w.1, w.2, w.3),
  )
