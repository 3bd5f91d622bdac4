-- What the operations on words do in a lane.
use Rattle.std.proofs.Common.{◌≡◌, ◌<◌, ◌^◌, ◌-◌, ◌%◌, ℕ, zero, suc, ◌+◌, refl, Bool, true, false}
use Rattle.std.proofs.Common.{not, ◌&&◌, ◌||◌, arith, inl, inr, ◌⊎◌, min, max}
use Rattle.std.specs.{Prelude.{◌==◌, bit_and, bit_or, bit_xor}, Int.{bit_at, bit_not, w128}}
use Rattle.std.proofs.lemmas.Nat.Bits.{bit_at-lt, bit_at-zero, bit_at_and, bit_at_or, bit_at_xor}
use Rattle.std.proofs.lemmas.Nat.Bits.{bit_at_ones, bit_at_not}
use Rattle.flat_circuit.specs.Words.{lane}

two : (x : ℕ) → x < 2 → (x ≡ 0) ⊎ (x ≡ 1)
two zero lt = inl refl
two (suc zero) lt = inr refl
two (suc (suc x)) lt = absurd (omega (arith, lt))

pub lane_and : (a b k : ℕ) → lane (bit_and a b) k ≡ (lane a k && lane b k)
lane_and a b k = rw (bit_at_and a b k) (go (bit_at a k) (bit_at b k) (two _ (bit_at-lt a k))
    (two _ (bit_at-lt b k)))
  where
    go : (x y : ℕ) → (x ≡ 0) ⊎ (x ≡ 1) → (y ≡ 0) ⊎ (y ≡ 1) → (min x y == 1) ≡ (x == 1 && y == 1)
    go x y (inl e) (inl g) = rw (e, g) refl
    go x y (inl e) (inr g) = rw (e, g) refl
    go x y (inr e) (inl g) = rw (e, g) refl
    go x y (inr e) (inr g) = rw (e, g) refl

pub lane_or : (a b k : ℕ) → lane (bit_or a b) k ≡ (lane a k || lane b k)
lane_or a b k = rw (bit_at_or a b k) (go (bit_at a k) (bit_at b k) (two _ (bit_at-lt a k))
    (two _ (bit_at-lt b k)))
  where
    go : (x y : ℕ) → (x ≡ 0) ⊎ (x ≡ 1) → (y ≡ 0) ⊎ (y ≡ 1) → (max x y == 1) ≡ (x == 1 || y == 1)
    go x y (inl e) (inl g) = rw (e, g) refl
    go x y (inl e) (inr g) = rw (e, g) refl
    go x y (inr e) (inl g) = rw (e, g) refl
    go x y (inr e) (inr g) = rw (e, g) refl

-- whether two bits differ
abbrev pub unlike : Bool → Bool → Bool
unlike true b = not b
unlike false b = b

pub lane_xor : (a b k : ℕ) → lane (bit_xor a b) k ≡ unlike (lane a k) (lane b k)
lane_xor a b k = rw (bit_at_xor a b k) (go (bit_at a k) (bit_at b k) (two _ (bit_at-lt a k))
    (two _ (bit_at-lt b k)))
  where
    go : (x y : ℕ) → (x ≡ 0) ⊎ (x ≡ 1) → (y ≡ 0) ⊎ (y ≡ 1)
        → ((x + y) % 2 == 1) ≡ unlike (x == 1) (y == 1)
    go x y (inl e) (inl g) = rw (e, g) refl
    go x y (inl e) (inr g) = rw (e, g) refl
    go x y (inr e) (inl g) = rw (e, g) refl
    go x y (inr e) (inr g) = rw (e, g) refl

pub lane_not : (a k : ℕ) → a < 2 ^ 128 → k < 128 → lane (bit_not w128 a) k ≡ not (lane a k)
lane_not a k fits lt = rw (bit_at_not w128 a k fits lt) (go (bit_at a k) (two _ (bit_at-lt a k)))
  where
    go : (x : ℕ) → (x ≡ 0) ⊎ (x ≡ 1) → (1 - x == 1) ≡ not (x == 1)
    go x (inl e) = rw e refl
    go x (inr e) = rw e refl

pub lane_zero : (k : ℕ) → lane 0 k ≡ false
lane_zero k = rw (bit_at-zero k) refl

pub lane_ones : (size k : ℕ) → k < size → lane (2 ^ size - 1) k ≡ true
lane_ones size k lt = rw (bit_at_ones size k lt) refl
