-- Lemmas on the end of a merge.
use Rattle.std.proofs.Common.{◌≡◌, ◌==◌, true, zero, [], ◌<◌, ◌+◌, ℕ, suc, List, ◌∷◌, ◌++◌, map}
use Rattle.std.{proofs.Common.{take, drop, length, get_or, sym, ap, ◌∙◌, arith}, specs.Borrow.Bor}
use Rattle.std.{specs.Prelude.{Option, Some, slice_get, zip}, proofs.Math.Seq.split_at}
use Rattle.std.proofs.lemmas.{List.{get_or-map, length-map, length-take-le}, Bool.eqb-true}
use Rattle.std.proofs.lemmas.Option.{slice_get-get_or}
use Rattle.region_runs.specs.declared.parts.PartVerdict.{PartVerdict}
use Rattle.region_runs.specs.declared.parts.PartVerdict.TheVariants.{First, OtherPart}
use Rattle.part_files.specs.{declared.joining.MergeFault.MergeFault, PartReading.texts_in}
use Rattle.part_files.specs.Merging.{HasParts, IsEndRefusal, IsOpenRefusal, MergeState}
use Rattle.part_files.specs.declared.joining.MergeFault.TheVariants as fault
use Rattle.threaded_lines.proofs.Public.{zipped_by}

-- the first fault that belongs to no part, after this many first tests
pub open_fault : (vs : List PartVerdict) (firsts : List (Option ℕ)) (n : ℕ) (z : PartVerdict)
    → n < length vs → map First firsts ≡ take n vs → get_or vs n z ≡ OtherPart
    → (fs : List (Option ℕ)) × (rest : List PartVerdict) × (vs ≡ map First fs ++ OtherPart ∷ rest)
    × (n + 2 ≡ length fs + 2)
open_fault vs firsts n z h front here =
    let rest : List PartVerdict = drop (suc n) vs in
    let whole : vs ≡ map First firsts ++ OtherPart ∷ rest = split_at vs n z h
    ∙ (ap (λ v. take n vs ++ v ∷ rest) here ∙ ap (λ l. l ++ OtherPart ∷ rest) (sym front)) in (
      firsts,
      rest,
      whole,
      omega (arith, length-map firsts First, ap (λ l. length l) front, length-take-le n vs),
    )

-- a name and the first test that goes with it, as their lists have them
pub name_at : (fs : List (Bor (List ℕ))) (firsts : List (Option ℕ)) (n : ℕ) (z : Bor (List ℕ))
    (y : Option ℕ) → n < length fs → n < length firsts → (n < length (zip (texts_in fs) firsts))
    × (((get_or fs n z).now, get_or firsts n y) ≡ get_or (zip (texts_in fs) firsts) n (z.now, y))
name_at fs firsts n z y h k =
    let name : slice_get (texts_in fs) n ≡ Some (get_or fs n z).now =
    slice_get-get_or (texts_in fs) n z.now (omega (
      arith,
      h,
      length-map fs (λ (t : Bor (List ℕ)). t.now),
    )) ∙ ap (λ t. Some t) (get_or-map (λ (t : Bor (List ℕ)). t.now) fs n z z.now h) in
    zipped_by (texts_in fs) firsts n _ _ (z.now, y) name (slice_get-get_or firsts n y k)

-- if all parts are there, verdicts with an open fault are no end
pub open_refused : (s : MergeState) (f : MergeFault) → HasParts s.seen s.head.parts
    → IsOpenRefusal s.verdicts f → IsEndRefusal s f
open_refused s (fault.Part f) parts refused = absurd refused
open_refused s fault.OtherModel parts refused = absurd refused
open_refused s fault.OtherRule parts refused = absurd refused
open_refused s fault.OtherInputs parts refused = absurd refused
open_refused s fault.OtherCount parts refused = absurd refused
open_refused s (fault.Again number) parts refused = absurd refused
open_refused s (fault.Differs line) parts refused = absurd refused
open_refused s (fault.Missing number) parts refused = absurd refused
open_refused s (fault.NoPart line) parts refused = (parts, refused)
open_refused s fault.NoFault parts refused = absurd refused
open_refused s fault.TooManyFaults parts refused = absurd refused
open_refused s fault.Memory parts refused = (parts, refused)

-- no first test, no verdict
pub no_verdict : (vs : List PartVerdict) (firsts : List (Option ℕ)) (n : ℕ) → vs ≡ map First firsts
    → n ≡ length firsts → (n == 0) ≡ true → vs ≡ []
no_verdict vs [] n e len none = e
no_verdict vs (first ∷ firsts) zero e len none = absurd (omega (arith, len))
no_verdict vs (first ∷ firsts) (suc n) e len none = let bad : suc n ≡ 0 = eqb-true (suc n) 0 none in
    absurd (omega (arith, bad))
