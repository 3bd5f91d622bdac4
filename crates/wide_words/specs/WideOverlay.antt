-- How an overlay keeps the wide words that differ.
use Rattle.std.specs.Prelude.{◌≡◌, ◌≢◌, ℕ, ◌+◌, ◌-◌, ◌<◌, ◌≤◌, ◌^◌, All, List, length, map, Option}
use Rattle.std.specs.Prelude.{Some, None, zero, suc, slice_get, slice_index_or, sum_by}
use Rattle.wide_words.specs.Wide.{number}
use Rattle.wide_words.specs.declared.wide.Wide.{Wide}

abbrev pub number_or : Option Wide → ℕ
number_or None = 0
number_or (Some word) = number word

-- the number of the word at a place, and 0 past the last
abbrev pub number_at : List Wide → ℕ → ℕ
number_at words place = number_or (slice_get words place)

-- the number of each signal's word, which stands at the place that the index names
abbrev pub overlaid : List Wide → List ℕ → List ℕ
overlaid words index = map (number_at words) index

abbrev pub zero_weight : ℕ → ℕ
zero_weight zero = 1
zero_weight (suc n) = 0

-- how many numbers of a list are 0
abbrev pub zeros : List ℕ → ℕ
zeros xs = sum_by zero_weight xs

-- The word at place 0 is 0 and no other is. The index names a place for each signal, 0 if it does
-- not differ, and a place of its own if it does: the list names the signal of place p at p - 1.
pub record IsWideOverlay (words : List Wide) (index changed : List ℕ) (most listed : ℕ) :
    Type 0 where
  pub none : number_at words 0 ≡ 0
  pub differs : (p : ℕ) → 0 < p → p < length words → number_at words p ≢ 0
  pub counted : length words + zeros index ≡ length index + 1
  pub within : (s : ℕ) → slice_index_or index s 0 < length words
  pub back : (s : ℕ) → slice_index_or index s 0 ≢ 0
      → slice_index_or changed (slice_index_or index s 0 - 1) 0 ≡ s
  pub many : length changed + 1 ≡ length words
  pub signals : All (λ s. s < length index) changed
  pub room : length index < most
  pub named : length index ≤ listed
  pub few : length index < 2 ^ 32
