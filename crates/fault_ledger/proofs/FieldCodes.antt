-- The field of a piece has the code that was written.
use Rattle.std.proofs.Common.{◌≡◌, ℕ, zero, suc, ◌+◌, ◌%◌, ◌<◌, false, if◌then◌else◌, eqb, List, []}
use Rattle.std.proofs.Common.{◌∷◌, map, length, get_or, refl, sym, ap, ◌∙◌, arith, ne_eqb}
use Rattle.std.proofs.lemmas.List.{get_or-map}
use Rattle.fault_ledger.specs.{declared.PieceState.PieceState, Settled.is_skipped}
use Rattle.fault_ledger.specs.Words.{code_of, state_at}
use Rattle.fault_ledger.specs.declared.PieceState.TheVariants as state

-- a field is read back as the state that was written
pub decoded : (st : PieceState) → ((k : ℕ) → st ≡ state.Hit k → k < 64) → state_at (code_of st) ≡ st
decoded state.Open f = refl
decoded state.Clear f = refl
decoded state.Skipped f = refl
decoded (state.Hit k) f =
    let small = f k refl in
    let a : eqb (128 + k) 0 ≡ false = ne_eqb (128 + k) 0 (λ e. absurd (omega arith)) in
    let b : eqb (128 + k) 1 ≡ false = ne_eqb (128 + k) 1 (λ e. absurd (omega arith)) in
    let c : eqb (128 + k) 2 ≡ false = ne_eqb (128 + k) 2 (λ e. absurd (omega arith)) in
    let m : (128 + k) % 64 ≡ k = omega arith in
    ap (λ x. if x then state.Open else if eqb (128 + k) 1 then state.Clear else if eqb (128 + k) 2
    then state.Skipped else state.Hit ((128 + k) % 64)) a
    ∙ ap (λ x. if x then state.Clear else if eqb (128 + k) 2 then state.Skipped
    else state.Hit ((128 + k) % 64)) b
    ∙ ap (λ x. if x then state.Skipped else state.Hit ((128 + k) % 64)) c ∙ ap state.Hit m

-- the states of codes that a function gives
pub states_of_codes : {X : Type 0} (f : X → ℕ) (xs : List X)
    → map state_at (map f xs) ≡ map (λ x. state_at (f x)) xs
states_of_codes f [] = refl
states_of_codes f (x ∷ xs) = ap (λ ys. state_at (f x) ∷ ys) (states_of_codes f xs)

pub state_of_code : (codes : List ℕ) (i n : ℕ) → i < length codes → n ≡ get_or codes i 0
    → state_at n ≡ get_or (map state_at codes) i state.Open
state_of_code codes i n l e = ap state_at e ∙ sym (get_or-map state_at codes i 0 state.Open l)

-- a code is a skipped piece's exactly if it is 2
pub skipped_code : (n : ℕ) → is_skipped (state_at n) ≡ eqb n 2
skipped_code zero = refl
skipped_code (suc zero) = refl
skipped_code (suc (suc zero)) = refl
skipped_code (suc (suc (suc n))) =
    let m = suc (suc (suc n)) in
    let a : eqb m 0 ≡ false = ne_eqb m 0 (λ e. absurd (omega arith)) in
    let b : eqb m 1 ≡ false = ne_eqb m 1 (λ e. absurd (omega arith)) in
    let c : eqb m 2 ≡ false = ne_eqb m 2 (λ e. absurd (omega arith)) in
    ap (λ x. is_skipped (if x then state.Open else if eqb m 1 then state.Clear else if eqb m 2
    then state.Skipped else state.Hit (m % 64))) a ∙ ap (λ x. is_skipped
    (if x then state.Clear else if eqb m 2 then state.Skipped else state.Hit (m % 64))) b
    ∙ ap (λ x. is_skipped (if x then state.Skipped else state.Hit (m % 64))) c ∙ sym c

pub codes_long : (codes : List ℕ) → length (map state_at codes) ≡ length codes
codes_long [] = refl
codes_long (n ∷ codes) = ap suc (codes_long codes)
