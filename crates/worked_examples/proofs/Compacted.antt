-- A compaction of three tests of a buffer: the third detects the same faults as the first, so it is
-- left out.
use Rattle.std.proofs.Common.{arith, inl, inr, subst, sym}
use Rattle.std.specs.Prelude.{◌≡◌, ◌<◌, ℕ, zero, suc, Bool, true, false, List, [], ◌∷◌, codes, refl}
use Rattle.std.specs.Prelude.{Contains, Some, None, slice_get, unwrap_or}
use Rattle.bench_net.specs.{declared.Kind.TheVariants.Buff, declared.Sink.Sink, Statement.Name}
use Rattle.bench_net.specs.Scan.{observers}
use Rattle.list_lemmas.proofs.Members.{Among, among, contained}
use Rattle.fault_model.specs.declared.Line.TheVariants as line
use Rattle.fault_model.specs.{declared.Model.TheVariants.StuckAt, Fault.{Fault, faults}}
use Rattle.fault_model.specs.{Solution.{Test, Detects, shows}, Detection.{DetectsAt, LooksBack}}
use Rattle.fault_model.proofs.Public.{detects, listed_model}
use Rattle.compaction.specs.Compaction.{Covers, IsCompaction, IsFirstForSome, IsLastForSome}
use Rattle.compaction.specs.Compaction.{IsNeeded, row_of}
use Rattle.worked_examples.proofs.Circuits.{buffer}

abbrev low : Test
low = false ∷ []

abbrev high : Test
high = true ∷ []

abbrev three : List Test
three = low ∷ high ∷ low ∷ []

abbrev two : List Test
two = low ∷ high ∷ []

-- the output stuck at a bit
abbrev output_stuck : Bool → Fault
output_stuck b = record { model = StuckAt; line = line.Stem 1; stuck = b }

-- a test that gives the output the stuck bit doesn't find the fault: both circuits show that bit
shown_same : (b : Bool) (d : Detects buffer (b ∷ []) (output_stuck b))
    → d.0 (codes "z") ≡ d.1 (codes "z") → ⊥
shown_same b d same = go d.2 (among (observers buffer) d.2 d.5) d.6
  where
    go : (o : Sink × Name) → Among o (observers buffer)
        → (shows None d.0 o ≡ shows (Some (output_stuck b)) d.1 o → ⊥) → ⊥
    go o (inl e) differs =
        subst (λ x. shows None d.0 x ≡ shows (Some (output_stuck b)) d.1 x → ⊥) (sym e) differs same
    go o (inr none) differs = absurd none

not_found : (b : Bool) → ¬ Detects buffer (b ∷ []) (output_stuck b)
not_found true d =
    let a = d.3.source 0 (codes "a") refl in
    let z = d.3.gate (codes "z") Buff (codes "a" ∷ [])
    (contained buffer _ (inr (inr (inl refl)))) in
    let stuck = d.4.gate (codes "z") Buff (codes "a" ∷ [])
    (contained buffer _ (inr (inr (inl refl)))) in
    shown_same true d (rw (z, a, stuck) refl)
not_found false d =
    let a = d.3.source 0 (codes "a") refl in
    let z = d.3.gate (codes "z") Buff (codes "a" ∷ [])
    (contained buffer _ (inr (inr (inl refl)))) in
    let stuck = d.4.gate (codes "z") Buff (codes "a" ∷ [])
    (contained buffer _ (inr (inr (inl refl)))) in
    shown_same false d (rw (z, a, stuck) refl)

-- the first two tests are each the first for some fault, and each the last of the two for some
low_first : IsFirstForSome StuckAt buffer three 0
low_first = (
  output_stuck true,
  contained (faults StuckAt buffer) _ (inr (inr (inr (inl refl)))),
  ((low, refl, detects 3 buffer low (output_stuck true) refl refl refl, tt), before),
)
  where
    before : (earlier : ℕ) → earlier < 0 → ¬ DetectsAt buffer three (output_stuck true) earlier
    before earlier lt d = omega (arith, lt)

high_first : IsFirstForSome StuckAt buffer three 1
high_first = (
  output_stuck false,
  contained (faults StuckAt buffer) _ (inr (inr (inl refl))),
  ((high, refl, detects 3 buffer high (output_stuck false) refl refl refl, tt), before),
)
  where
    before : (earlier : ℕ) → earlier < 1 → ¬ DetectsAt buffer three (output_stuck false) earlier
    before zero lt d = let is : Some low ≡ Some d.0 = d.1 in
        not_found false (subst (λ o. Detects buffer (unwrap_or o low) (output_stuck false))
        (sym is) d.2)
    before (suc earlier) lt d = omega (arith, lt)

low_last : IsLastForSome StuckAt buffer two 0
low_last = (
  output_stuck true,
  contained (faults StuckAt buffer) _ (inr (inr (inr (inl refl)))),
  (low, refl, detects 3 buffer low (output_stuck true) refl refl refl, tt),
  after,
)
  where
    after : (later : ℕ) → 0 < later → ¬ DetectsAt buffer two (output_stuck true) later
    after zero lt d = omega (arith, lt)
    after (suc zero) lt d = let is : Some high ≡ Some d.0 = d.1 in
        not_found true (subst (λ o. Detects buffer (unwrap_or o high) (output_stuck true))
        (sym is) d.2)
    after (suc (suc later)) lt d = let bad : None ≡ Some d.0 = d.1 in cc

high_last : IsLastForSome StuckAt buffer two 1
high_last = (
  output_stuck false,
  contained (faults StuckAt buffer) _ (inr (inr (inl refl))),
  (high, refl, detects 3 buffer high (output_stuck false) refl refl refl, tt),
  after,
)
  where
    after : (later : ℕ) → 1 < later → ¬ DetectsAt buffer two (output_stuck false) later
    after zero lt d = omega (arith, lt)
    after (suc zero) lt d = omega (arith, lt)
    after (suc (suc later)) lt d = let bad : None ≡ Some d.0 = d.1 in cc

-- of stuck-at faults nothing is asked of the test before
found_again : (f : Fault) (k : ℕ) (test : Test) → Contains (faults StuckAt buffer) f
    → slice_get two k ≡ Some test → Detects buffer test f → DetectsAt buffer two f k
found_again f k test listed at found = (
  test,
  at,
  found,
  subst (λ m. LooksBack buffer two m f.line f.stuck k) (sym (listed_model StuckAt buffer f listed))
      tt,
)

covered : Covers StuckAt buffer three two
covered f zero listed d = (0, found_again f 0 d.0 listed d.1 d.2)
covered f (suc zero) listed d = (1, found_again f 1 d.0 listed d.1 d.2)
covered f (suc (suc zero)) listed d = (0, found_again f 0 d.0 listed d.1 d.2)
covered f (suc (suc (suc t))) listed d = let bad : None ≡ Some d.0 = d.1 in cc

three_compacted : IsCompaction StuckAt buffer three two
three_compacted = record {
  marks = marks;
  count = refl;
  rows = refl;
  covers = covered;
  needed = needed;
}
  where
    marks : List Bool
    marks = true ∷ true ∷ false ∷ []

    needed : (t : ℕ) → slice_get marks t ≡ Some true
        → IsNeeded StuckAt buffer three two t (row_of marks t)
    needed zero mark = (low_first, low_last)
    needed (suc zero) mark = (high_first, high_last)
    needed (suc (suc zero)) mark = let bad : Some false ≡ Some true = mark in cc
    needed (suc (suc (suc t))) mark = let bad : None ≡ Some true = mark in cc
