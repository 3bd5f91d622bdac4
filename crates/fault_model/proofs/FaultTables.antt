-- The tables of the fault list: two faults for each line, and the place of each stem.
use Rattle.std.proofs.Common.{◌≡◌, ◌<◌, ℕ, zero, suc, ◌+◌, ◌*◌, ◌/◌, ◌%◌, refl, sym, ◌∙◌, ap, subst}
use Rattle.std.proofs.Common.{Bool, true, false, List, length, get_or, arith, inl, inr}
use Rattle.std.specs.Prelude.{Contains, Option, Some, None, slice_get, flat_map, option_map}
use Rattle.std.specs.Prelude.{option_and_then, nat_eq, IfSome}
use Rattle.std.proofs.lemmas.Option.{slice_get-get_or}
use Rattle.list_lemmas.proofs.Members.{Among, among, contained, joined_from}
use Rattle.list_lemmas.proofs.Places.{place_within, within_place}
use Rattle.fault_model.specs.{declared.Line.Line, declared.Model.Model, Fault.both}
use Rattle.fault_model.{proofs.ListedFaults.fault_on, specs.Lines.AreStemsOf}
use Rattle.fault_model.proofs.FaultLines.{length_both, at_even, at_odd}
use Rattle.fault_model.specs.declared.Line.TheVariants as line

pub half_within : (m : Model) (ls : List Line) (k : ℕ) → k < length (flat_map (both m) ls)
    → k / 2 < length ls
half_within m ls k h =
    let twice : length (flat_map (both m) ls) ≡ 2 * length ls = length_both m ls in
    omega (arith, h, twice)

-- the fault at a place is on the line at half the place, stuck at 1 if the place is odd
at_half : (m : Model) (ls : List Line) (k : ℕ) (l : Line) → slice_get ls (k / 2) ≡ Some l
    → slice_get (flat_map (both m) ls) k ≡ Some (fault_on m l (nat_eq (k % 2) 1))
at_half m ls k l e = go (k % 2) refl
  where
    go : (r : ℕ) → k % 2 ≡ r
        → slice_get (flat_map (both m) ls) k ≡ Some (fault_on m l (nat_eq (k % 2) 1))
    go zero is =
        let twice : k / 2 + k / 2 ≡ k = omega (arith, is) in
        rw is (subst (λ i. slice_get (flat_map (both m) ls) i ≡ Some (fault_on m l false)) twice
        (at_even m ls (k / 2) ∙ ap (option_map (λ x. fault_on m x false)) e))
    go (suc zero) is =
        let twice : suc (k / 2 + k / 2) ≡ k = omega (arith, is) in
        rw is (subst (λ i. slice_get (flat_map (both m) ls) i ≡ Some (fault_on m l true)) twice
        (at_odd m ls (k / 2) ∙ ap (option_map (λ x. fault_on m x true)) e))
    go (suc (suc r)) is = absurd (omega (arith, is))

pub line_read : (m : Model) (ls : List Line) (k : ℕ) (r : Line) → k < length (flat_map (both m) ls)
    → r ≡ get_or ls (k / 2) r → IfSome (slice_get (flat_map (both m) ls) k) (λ f. r ≡ f.line)
line_read m ls k r h e =
    rw (at_half m ls k r (slice_get-get_or ls (k / 2) r (half_within m ls k h) ∙ ap Some (sym e)))
    refl

pub stuck_read : (m : Model) (ls : List Line) (k : ℕ) → k < length (flat_map (both m) ls)
    → IfSome (slice_get (flat_map (both m) ls) k) (λ f. nat_eq (k % 2) 1 ≡ f.stuck)
stuck_read m ls k h =
    let p = within_place ls (k / 2) (half_within m ls k h) in rw (at_half m ls k p.0 p.1) refl

-- the place of a stem whose fault is in the list
pub record StemAt (ls : List Line) (stems : List ℕ) (s : ℕ) : Type 0 where
  pub place : ℕ
  pub kept : slice_get stems s ≡ Some place
  pub there : slice_get ls place ≡ Some (line.Stem s)

pub stem_at : (m : Model) (ls : List Line) (stems : List ℕ) (s : ℕ) (b : Bool) → AreStemsOf ls stems
    → Contains (flat_map (both m) ls) (fault_on m (line.Stem s) b) → StemAt ls stems s
stem_at m ls stems s b are at =
    let p = joined_from (both m) ls (fault_on m (line.Stem s) b)
    (among (flat_map (both m) ls) (fault_on m (line.Stem s) b) at) in
    go (slice_get stems s) refl
    (are.each s (contained ls (line.Stem s) (subst (λ l. Among l ls) (on p.0 p.2) p.1)))
  where
    on : (l : Line) → Among (fault_on m (line.Stem s) b) (both m l) → l ≡ line.Stem s
    on l (inl e) = ap (λ f. f.line) e
    on l (inr (inl e)) = ap (λ f. f.line) e
    on l (inr (inr bad)) = absurd bad

    go : (o : Option ℕ) → slice_get stems s ≡ o
        → option_and_then (slice_get ls) o ≡ Some (line.Stem s) → StemAt ls stems s
    go None e h = let bad : None ≡ Some (line.Stem s) = h in cc
    go (Some place) e h = record { place = place; kept = e; there = h }

pub stem_within : (ls : List Line) (stems : List ℕ) (s : ℕ) → StemAt ls stems s → s < length stems
stem_within ls stems s at = place_within stems s at.place at.kept

-- the number that was read from the table of stems
pub stem_read : (ls : List Line) (stems : List ℕ) (s r : ℕ) → StemAt ls stems s
    → r ≡ get_or stems s r → slice_get ls r ≡ Some (line.Stem s)
stem_read ls stems s r at e =
    let same : Some r ≡ Some at.place =
    ap Some e ∙ (sym (slice_get-get_or stems s r (stem_within ls stems s at)) ∙ at.kept) in
    let place : at.place ≡ r = cc in
    subst (λ i. slice_get ls i ≡ Some (line.Stem s)) place at.there

pub stem_place_within : (ls : List Line) (s r : ℕ) → slice_get ls r ≡ Some (line.Stem s)
    → r < length ls
stem_place_within ls s r e = place_within ls r (line.Stem s) e

pub stem_at_zero : (m : Model) (ls : List Line) (s r : ℕ) → slice_get ls r ≡ Some (line.Stem s)
    → slice_get (flat_map (both m) ls) (2 * r) ≡ Some (fault_on m (line.Stem s) false)
stem_at_zero m ls s r e =
    let twice : r + r ≡ 2 * r = omega arith in
    subst (λ i. slice_get (flat_map (both m) ls) i ≡ Some (fault_on m (line.Stem s) false)) twice
    (at_even m ls r ∙ ap (option_map (λ x. fault_on m x false)) e)

pub stem_at_one : (m : Model) (ls : List Line) (s r : ℕ) → slice_get ls r ≡ Some (line.Stem s)
    → slice_get (flat_map (both m) ls) (2 * r + 1) ≡ Some (fault_on m (line.Stem s) true)
stem_at_one m ls s r e =
    let twice : suc (r + r) ≡ 2 * r + 1 = omega arith in
    subst (λ i. slice_get (flat_map (both m) ls) i ≡ Some (fault_on m (line.Stem s) true)) twice
    (at_odd m ls r ∙ ap (option_map (λ x. fault_on m x true)) e)
