-- Levels, and the marks of a search for them.
use Rattle.std.proofs.Common.{◌≡◌, ◌≢◌, ◌<◌, ◌≤◌, ◌+◌, ℕ, max, ◌∙◌, refl, cond, List, [], ◌∷◌, ◌++◌}
use Rattle.std.proofs.Common.{map, length, take, get_or, set, arith, inl, inr, ◌⊎◌}
use Rattle.std.specs.Prelude.{Some, None, slice_get, slice_index, count_by, fold, ◌^◌}
use Rattle.std.proofs.lemmas.List.{length-map, length-set, get_or-map, take_all, take_more}
use Rattle.std.proofs.lemmas.List.Sums.{sum_by-set, sum_by-cons, count_by-le-length}
use Rattle.std.proofs.lemmas.List.Elements.{Contains-get_or}
use Rattle.std.proofs.lemmas.Option.{slice_get_within, slice_get_cases, get_or_from_slice_get}
use Rattle.bench_net.specs.declared.levels.Mark.{Mark, TheVariants.{Unknown, Open, Level}}
use Rattle.bench_net.specs.{Level.greatest, declared.levels.OpenGate.OpenGate}
use Rattle.bench_net.specs.Marks.{AreLevelsOf, HaveLevels, no_signal, one_more, IsLowestStuck}
use Rattle.bench_net.specs.Marks.{HaveLevelsBelow, is_unknown, waiting_in, steps, pins_left}
use Rattle.bench_net.specs.Marks.{signals_of, IsMark, IsOpen, IsPath, IsSearch, level_in}
use Rattle.bench_net.proofs.LineTables.{written}
use Rattle.list_lemmas.proofs.{Members.{Among, among, mapped_from}, Places.{at_place, within_place}}

-- ---- the greatest of a list of numbers

fold_max : (a : ℕ) (xs : List ℕ) → fold max a xs ≡ max a (greatest xs)
fold_max a [] = omega arith
fold_max a (x ∷ xs) = omega (arith, fold_max (max a x) xs, fold_max (max 0 x) xs)

pub greatest-cons : (x : ℕ) (xs : List ℕ) → greatest (x ∷ xs) ≡ max x (greatest xs)
greatest-cons x xs = omega (arith, fold_max (max 0 x) xs)

pub greatest-among : (xs : List ℕ) (x : ℕ) → Among x xs → x ≤ greatest xs
greatest-among [] x a = absurd a
greatest-among (y ∷ xs) x a = grind (arith, a, greatest-cons y xs, greatest-among xs x)

pub greatest-at : (xs : List ℕ) (i : ℕ) → i < length xs → get_or xs i 0 ≤ greatest xs
greatest-at xs i lt = greatest-among xs _ (among xs _ (Contains-get_or xs i 0 lt))

-- ---- levels

module _ {pins : ℕ → List ℕ} where
  -- signals have one level above them
  pub one_level : (ps : List ℕ) (j k : ℕ) → HaveLevels pins ps j → HaveLevels pins ps k → j ≡ k
  one_level ps j k no_signal no_signal = refl
  one_level ps j k (one_more p qs i a _ here rest is) (one_more _ _ h b _ there more same) =
      omega (arith, one_level (pins p) i h here there, one_level qs a b rest more, is, same)

  -- one more signal with a level
  pushed : (ps : List ℕ) (a p k : ℕ) → HaveLevels pins ps a → HaveLevels pins (pins p) k
      → HaveLevels pins (ps ++ p ∷ []) (max a (k + 1))
  pushed ps a p k no_signal has = one_more p [] k 0 (max 0 (k + 1)) has no_signal (omega arith)
  pushed ps a p k (one_more q qs i b _ here rest is) has =
      one_more q (qs ++ p ∷ []) i (max b (k + 1)) _ here (pushed qs b p k rest has) (omega arith)

-- ---- the search for levels

-- a gate none of whose pins is passed, and one whose next pin's signal has a level
abbrev unpassed : ℕ → OpenGate
unpassed p = record { signal = p; pin = 0; level = 0 }

abbrev passed : OpenGate → ℕ → OpenGate
passed gate k = record gate { pin = gate.pin + 1; level = max gate.level (k + 1) }

-- each gate of a path reads a signal of a set, if the last reads one of it
reads_on : (pins : ℕ → List ℕ) (begun g : ℕ) (path all : List ℕ) → IsPath pins begun (g ∷ path)
    → ((s : ℕ) → Among s (g ∷ path) → Among s all) → (q : ℕ) → Among q (pins g) → Among q all
    → (m : ℕ) → Among m (g ∷ path) → (p : ℕ) × Among p (pins m) × Among p all
reads_on pins begun g [] all is inside q reads has m a = grind (arith, a, reads, has)
reads_on pins begun g (h ∷ path) all is inside q reads has m a =
    let more = reads_on pins begun h path all is.1 (λ s b. inside s (inr b)) g is.0 in
    grind (arith, a, reads, has, more (inside g (inl refl)) m)

start_on : (pins : ℕ → List ℕ) (begun start g : ℕ) (path : List ℕ) → begun ≡ start + 1
    → IsPath pins begun (g ∷ path) → Among start (g ∷ path)
start_on pins begun start g [] e is = inl (omega (arith, e, is.0))
start_on pins begun start g (h ∷ path) e is = inr (start_on pins begun start h path e is.1)

module _ {pins : ℕ → List ℕ} {n begun : ℕ} {marks : List Mark} where
  room : (path : List OpenGate) → IsSearch pins n begun marks path → waiting_in marks path ≤ n
  room [] state = omega (arith, count_by-le-length is_unknown marks, state.count)
  room (gate ∷ path) state = omega (arith, (state.opens gate (inl refl)).2)

  module _ {path : List OpenGate} (state : IsSearch pins n begun marks path) where
    -- a mark is written, and the path becomes another
    marked : (later : ℕ) (after : List OpenGate) (g : ℕ) (m : Mark)
        → let waits = waiting_in (set marks g m) after in waits ≤ waiting_in marks path
        → IsMark pins n later waits (signals_of after) g m
        → ((s : ℕ) → s ≢ g → Among s (signals_of path) → Among s (signals_of after))
        → ((h : OpenGate) → Among h after → Among h path ⊎ IsOpen pins n waits h)
        → IsPath pins later (signals_of after) → ((s : ℕ) → s ≢ g → begun ≤ s → later ≤ s)
        → IsSearch pins n later (set marks g m) after
    marked later after g m less is stays opens path_is begins = record {
      count = length-set marks g m ∙ state.count;
      each = λ s x e.
          let place = written marks g m s x e in
          grind (arith, is, place, less, begins s, stays s, state.each s x);
      opens = λ h a. grind (arith, opens h a, state.opens h);
      path_is = path_is;
    }

    -- an unknown signal is opened
    pub opened : (later p : ℕ) → slice_get marks p ≡ Some Unknown
        → IsPath pins later (p ∷ signals_of path) → ((s : ℕ) → s ≢ p → begun ≤ s → later ≤ s)
        → length (pins p) < 2 ^ 32 → IsSearch pins n later (set marks p Open) (unpassed p ∷ path)
        × (steps pins (set marks p Open) (unpassed p ∷ path) < steps pins marks path)
    opened later p unknown is begins few =
        let within = slice_get_within marks p Unknown unknown in
        let was = get_or_from_slice_get marks p Unknown Unknown unknown in
        let fewer : count_by is_unknown (set marks p Open) + 1 ≡ count_by is_unknown marks =
        grind (arith, was, sum_by-set (λ x. cond (is_unknown x) 1 0) marks p Open Unknown) in (
          marked later (unpassed p ∷ path) p Open (omega (arith, fewer)) (inl refl)
              (λ s ne a. inr a)
              (λ h a. grind (arith, a, within, state.count, no_signal, room path state, fewer))
              is begins,
          omega (arith, fewer, few, sum_by-cons (pins_left pins) (unpassed p) path),
        )

  module _ {gate : OpenGate} {rest : List OpenGate}
      (state : IsSearch pins n begun marks (gate ∷ rest)) where
    -- all pins have levels
    pub finished : slice_get (pins gate.signal) gate.pin ≡ None
        → let after = set marks gate.signal (Level gate.level) in
        IsSearch pins n begun after rest × (steps pins after rest < steps pins marks (gate ∷ rest))
    finished none =
        let is = state.opens gate (inl refl) in
        let past = (slice_get_cases (pins gate.signal) gate.pin).1 in
        let all = take_all gate.pin (pins gate.signal) in
        let lt : gate.signal < length marks = omega (arith, is.0, state.count) in
        let fewer : count_by is_unknown (set marks gate.signal (Level gate.level))
        ≤ count_by is_unknown marks = omega (
          arith,
          sum_by-set (λ x. cond (is_unknown x) 1 0) marks gate.signal (Level gate.level) Unknown lt,
        ) in (
          marked state begun rest gate.signal (Level gate.level) (omega (arith, fewer))
              (grind (arith, none, past, all, is, fewer)) (λ s ne a. grind (arith, ne, a))
              (λ h a. inl (inr a)) state.path_is.1 (λ s ne le. le),
          omega (arith, fewer, sum_by-cons (pins_left pins) gate rest),
        )

    -- the next pin's signal has a level
    pub advanced : {p k : ℕ} → slice_get (pins gate.signal) gate.pin ≡ Some p
        → slice_get marks p ≡ Some (Level k) → IsSearch pins n begun marks (passed gate k ∷ rest)
        × (steps pins marks (passed gate k ∷ rest) < steps pins marks (gate ∷ rest))
    advanced {p} {k} at known =
        let within = slice_get_within (pins gate.signal) gate.pin p at in
        let is = state.opens gate (inl refl) in
        let has = state.each p (Level k) known in
        let next = get_or_from_slice_get (pins gate.signal) gate.pin p 0 at in
        let more = take_more (pins gate.signal) gate.pin 0 within in
        let all = pushed (take gate.pin (pins gate.signal)) gate.level p k is.1 has.0 in
        let sums = sum_by-cons (pins_left pins) in (
          grind (arith, is, has, more, next, all, state.count, state.each, state.opens),
          omega (arith, within, sums gate rest, sums (passed gate k) rest),
        )

    -- it is open, so the path meets itself
    pub met : (start p : ℕ) → begun ≡ start + 1 → HaveLevelsBelow pins start
        → slice_get (pins gate.signal) gate.pin ≡ Some p → slice_get marks p ≡ Some Open
        → IsLowestStuck pins n start
    met start p is lower at again =
        let gates = gate.signal ∷ signals_of rest in
        let first = start_on pins begun start gate.signal (signals_of rest) is state.path_is in
        let from = mapped_from (λ h. h.signal) (gate ∷ rest) start first in
        let reads = at_place (pins gate.signal) gate.pin p at in
        let members = reads_on pins begun gate.signal (signals_of rest) gates state.path_is
        (λ s a. a) p reads (state.each p Open again) in
        (omega (arith, from.2, (state.opens from.0 from.1).0), (gates, members, first), lower)

  -- a signal that is known is known to the next search
  pub begun_more : IsSearch pins n begun marks [] → slice_get marks begun ≢ Some Unknown
      → IsSearch pins n (begun + 1) marks []
  begun_more state known = record {
    count = state.count;
    each = λ s m e. grind (arith, known, e, state.each s m e);
    opens = state.opens;
    path_is = tt;
  }

  -- if no signal is open, each that was begun has a level
  pub level_at : (s : ℕ) → IsSearch pins n begun marks [] → s < begun → s < n
      → (k : ℕ) × (slice_get marks s ≡ Some (Level k))
  level_at s state met lt =
      let m = within_place marks s (omega (arith, lt, state.count)) in
      grind (arith, m.1, state.each s m.0 m.1, met, lt)

  pub lower_levels : IsSearch pins n begun marks [] → begun ≤ n → HaveLevelsBelow pins begun
  lower_levels state le s lt =
      let k = level_at s state lt (omega (arith, lt, le)) in (k.0, (state.each s (Level k.0) k.1).0)

-- a search over all signals has marked all levels
pub settled : {pins : ℕ → List ℕ} {n : ℕ} {marks : List Mark} → IsSearch pins n n marks []
    → ((s p : ℕ) → Among p (pins s) → p < n) → AreLevelsOf pins n (map level_in marks)
settled {pins} {n} {marks} state below = record {
  count = length-map marks level_in ∙ state.count;
  of_pins = λ s p a. at p (below s p a);
  each = at;
}
  where
    at : (s : ℕ) → s < n → HaveLevels pins (pins s) (slice_index (map level_in marks) s)
    at s lt =
        let k = level_at s state lt lt in
        let read = get_or_from_slice_get marks s (Level k.0) (Level 0) k.1 in
        let all = get_or-map level_in marks s (Level 0) 0 in
        grind (arith, lt, state.count, state.each s (Level k.0) k.1, read, all)
