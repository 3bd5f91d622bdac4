-- Tables that are lists of lines: the definition of each signal, and its place among the sources.
use Rattle.std.proofs.Common.{◌≡◌, ◌≢◌, ◌<◌, ◌+◌, ℕ, zero, suc, refl, sym, ◌∙◌, ap, List, [], ◌∷◌}
use Rattle.std.proofs.{Common.{length, get_or, set, filter, arith, ◌⊎◌}, lemmas.Grind.common_steps}
use Rattle.std.{specs.List.{enumerate_from, filter_map}, proofs.lemmas.Bool.Decides.nat_tests}
use Rattle.std.specs.Prelude.{Option, Some, None, slice_get, slice_index}
use Rattle.std.proofs.lemmas.Option.{slice_get-get_or, slice_get_within, get_or_from_slice_get}
use Rattle.bench_net.specs.declared.line.NumberedLine.{NumberedLine}
use Rattle.bench_net.specs.Tables.{ArePlaces, defines_number, place_in, definition_places}
use Rattle.bench_net.specs.declared.line.NumberedLine.TheVariants as line

-- ---- definitions

-- the place of a signal is its line's place among the lines that define one
places_at : (k : ℕ) (lines : List NumberedLine) (s p : ℕ)
    → slice_get (filter_map place_in (enumerate_from k lines)) s ≡ Some p
    → (i : ℕ) × (l : NumberedLine) × (p ≡ k + i) × (slice_get lines i ≡ Some l)
    × (slice_get (filter defines_number lines) s ≡ Some l)
places_at k [] s p e = let bad : None ≡ Some p = e in cc
places_at k (line.Output t ∷ lines) s p e =
    let at = places_at (k + 1) lines s p e in (suc at.0, at.1, omega (arith, at.2), at.3, at.4)
places_at k (l ∷ lines) zero p e = let same : k ≡ p = cc in (0, l, omega (arith, same), refl, refl)
places_at k (_ ∷ lines) (suc s) p e =
    let at = places_at (k + 1) lines s p e in (suc at.0, at.1, omega (arith, at.2), at.3, at.4)

pub line_at : (lines : List NumberedLine) (places : List ℕ) (s : ℕ)
    → places ≡ definition_places lines → s < length places → (slice_index places s < length lines)
    × (slice_get lines (slice_index places s) ≡ slice_get (filter defines_number lines) s)
line_at lines places s are lt =
    let here = slice_get-get_or places s 0 lt in
    let (i, l, is, at, own) = places_at 0 lines s _ (ap (λ ps. slice_get ps s) (sym are) ∙ here) in
    let same : slice_index places s ≡ i = omega (arith, is) in
    rw same (slice_get_within lines i l at, at ∙ sym own)

pub definition_count : (lines : List NumberedLine)
    → length (definition_places lines) ≡ length (filter defines_number lines)
definition_count lines = go 0 lines
  where
    go : (k : ℕ) (ls : List NumberedLine) → length (filter_map place_in (enumerate_from k ls))
        ≡ length (filter defines_number ls)
    go k [] = refl
    go k (line.Output t ∷ ls) = go (k + 1) ls
    go k (_ ∷ ls) = ap suc (go (k + 1) ls)

-- ---- places among the sources

-- the entry of a place after a write
pub written : {X : Type 0} (xs : List X) (g : ℕ) (m : X) (s : ℕ) (x : X)
    → slice_get (set xs g m) s ≡ Some x
    → ((s ≡ g) × (x ≡ m)) ⊎ ((s ≢ g) × (slice_get xs s ≡ Some x))
written xs g m s x e =
    let within = slice_get_within (set xs g m) s x e in
    let is = get_or_from_slice_get (set xs g m) s x x e in
    grind (arith, common_steps, within, is, slice_get-get_or xs s x)

pub places_more : (sources : List ℕ) (signals n : ℕ) (places : List (Option ℕ))
    → ArePlaces sources signals n places
    → ArePlaces sources signals (n + 1) (set places (get_or sources n 0) (Some n))
places_more sources signals n places are = record {
  count = grind (arith, common_steps, are.count);
  some = λ s i lt e. grind (arith, common_steps, nat_tests, are.count, are.some s i lt);
  none = λ s i lt e i_lt. grind (arith, common_steps, nat_tests, are.count, are.none s i lt);
}
