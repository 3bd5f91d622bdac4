-- The histogram of the counts of a job, and the histogram of the files that the job was read from.
use Rattle.std.proofs.Common.{◌≡◌, ◌+◌, ◌<◌, ◌≤◌, ◌∙◌, ◌++◌, ◌∷◌, [], ℕ, List, ap, arith}
use Rattle.std.proofs.Common.{append_assoc, get_or, length, refl, suc, sym, take, zero}
use Rattle.std.{proofs.Math.Bool.cond, specs.Prelude.{◌==◌, codes, decimal, Some, slice_get, zip}}
use Rattle.std.{specs.List.flat_map, proofs.lemmas.List.same_lists}
use Rattle.std.proofs.lemmas.{List.Sums.sum_by_more, Option.slice_get-get_or}
use Rattle.patterns.specs.Least.{below}
use Rattle.patterns.proofs.Public.{get_or-below, get_or-map-below, length-below, length-map-below}
use Rattle.analysis_reports.specs.Histogram.{faults_with, histogram, histogram_line, histogram_text}
use Rattle.analysis_reports.specs.Histogram.{one_with}
use Rattle.byte_output.specs.Output.{Output, TakesAll, TakesFront}
use Rattle.byte_output.proofs.Public.{flat_map_cut, flat_map_taken, stopped, takes_more}
use Rattle.threaded_lines.proofs.Public.{zipped_by}

-- one fault more
pub with_more : (counts : List ℕ) (n i : ℕ) → i < length counts
    → faults_with (take (i + 1) counts) n
    ≡ faults_with (take i counts) n + one_with n (get_or counts i 0)
with_more counts n i lt = sum_by_more (λ x. cond (x == n) 1 0) counts i 0 lt

-- a table with the faults of each count is the histogram
pub is_histogram : (most : ℕ) (counts faults : List ℕ) → length faults ≡ most + 1
    → ((n : ℕ) → n < most + 1 → get_or faults n 0 ≡ faults_with counts n)
    → faults ≡ histogram most counts
is_histogram most counts faults count each = same_lists faults (histogram most counts)
    (count ∙ sym (length-map-below (faults_with counts) (most + 1))) (λ k d lt.
    let within : k < most + 1 = omega (arith, lt, count) in
    from_zero faults k d lt ∙ (each k within
    ∙ sym (get_or-map-below (faults_with counts) (most + 1) k d within)))
  where
    from_zero : (xs : List ℕ) (k d : ℕ) → k < length xs → get_or xs k d ≡ get_or xs k 0
    from_zero [] k d lt = absurd (omega (arith, lt))
    from_zero (x ∷ xs) zero d lt = refl
    from_zero (x ∷ xs) (suc k) d lt = from_zero xs k d (omega (arith, lt))

-- a line from its numbers, given as texts
pub line_of_count : (count faults : ℕ) (a b : List ℕ) → a ≡ decimal count → b ≡ decimal faults
    → a ++ (codes " " ++ (b ++ (codes "\n" ++ []))) ≡ histogram_line (count, faults)
line_of_count count faults a b e f = rw (e, f) (simp append_assoc)

-- the line of a count of the histogram is the line of a pair
pair_at : (faults : List ℕ) (i : ℕ) → i < length faults
    → slice_get (below (length faults)) i ≡ Some i
pair_at faults i lt =
    let all = length-below (length faults) in
    slice_get-get_or (below (length faults)) i 0 (omega (arith, lt, all))
    ∙ ap Some (get_or-below (length faults) i 0 lt)

zipped : (faults : List ℕ) (i : ℕ) → i < length faults
    → (i < length (zip (below (length faults)) faults))
    × ((i, get_or faults i 0) ≡ get_or (zip (below (length faults)) faults) i (0, 0))
zipped faults i lt = zipped_by (below (length faults)) faults i i (get_or faults i 0) (0, 0)
    (pair_at faults i lt) (slice_get-get_or faults i 0 lt)

pub count_taken : (faults : List ℕ) (i : ℕ) (a b c : Output) → i < length faults
    → TakesAll a b (flat_map histogram_line (take i (zip (below (length faults)) faults)))
    → TakesAll b c (histogram_line (i, get_or faults i 0))
    → TakesAll a c (flat_map histogram_line (take (i + 1) (zip (below (length faults)) faults)))
count_taken faults i a b c lt before wrote =
    let pair = zipped faults i lt in
    rw (flat_map_taken histogram_line (zip (below (length faults)) faults) i (0, 0)
    (histogram_line (i, get_or faults i 0)) pair.0 (ap histogram_line pair.1))
    (takes_more a b c _ _ before wrote)

pub count_stopped : (faults : List ℕ) (i : ℕ) (a b c : Output) → i < length faults
    → TakesAll a b (flat_map histogram_line (take i (zip (below (length faults)) faults)))
    → TakesFront b c (histogram_line (i, get_or faults i 0))
    → TakesFront a c (histogram_text faults)
count_stopped faults i a b c lt before wrote =
    let pair = zipped faults i lt in
    stopped _ (histogram_line (i, get_or faults i 0)) _ _ a b c before wrote
    (flat_map_cut histogram_line (zip (below (length faults)) faults) i (0, 0)
    (histogram_line (i, get_or faults i 0)) pair.0 (ap histogram_line pair.1))
