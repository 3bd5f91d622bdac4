-- The rows of responses, test by test, and the signals that are observed.
use Rattle.std.proofs.Common.{◌≡◌, ◌<◌, ◌≤◌, ◌+◌, ◌*◌, ◌-◌, ◌∙◌, ℕ, Bool, List, [], ◌∷◌, ◌++◌}
use Rattle.std.proofs.Common.{length, map, ap, refl, sym, subst, arith, inl, inr, ◌⊎◌, get_or}
use Rattle.std.{proofs.Common.append_assoc, specs.List.enumerate_from, proofs.lemmas.Bool.cases_lt}
use Rattle.std.specs.Prelude.{All, Some, None, flat_map, slice_get, slice_index_or}
use Rattle.std.proofs.lemmas.List.{length-append, length-map, map-append, get_or_append_left}
use Rattle.std.proofs.lemmas.List.{get_or-append-add, get_or-map, same_lists}
use Rattle.std.proofs.lemmas.List.{Elements.Contains-get_or, FromFn.map-range_with_len_more}
use Rattle.std.proofs.lemmas.List.FromFn.{length-map-range_with_len, get_or-map-range_with_len}
use Rattle.std.proofs.lemmas.Option.{get_or_from_slice_get, slice_get-get_or}
use Rattle.bench_net.specs.{declared.Sink.Sink, Scan.{names, signal, observers, outputs, cells}}
use Rattle.bench_net.specs.Statement.{Name, Statement, Input, Output, Gate, Dff, read}
use Rattle.bench_net.specs.Circuit.{IsCircuit, IsWellFormed, sink_count}
use Rattle.bench_net.proofs.Public.{name_of-signal}
use Rattle.bench_net.specs.declared.Sink.TheVariants as sink
use Rattle.list_lemmas.proofs.{Members.{Among, among, mapped_from}, Places.place_within}
use Rattle.fault_model.{specs.Solution.{Test, Solves, shows}, proofs.Public.agree}
use Rattle.patterns.specs.Least.{below}
use Rattle.block_sim.specs.Responses.{lane_row}
use Rattle.flat_circuit.specs.Words.{AreWords, lane, lane_bits, test_of}
use Rattle.flat_circuit.proofs.Public.{observed_named}

-- ---- the observed signals

-- the numbers of the observed names: of the outputs, and of the cells' data pins
outputs_numbered : (c : List Statement) (from : ℕ) (ns : List Name)
    → map (λ (o : Sink × Name). signal c o.1)
    (map (λ at. (sink.Out at.0, at.1)) (enumerate_from from ns)) ≡ map (signal c) ns
outputs_numbered c from [] = refl
outputs_numbered c from (n ∷ ns) = ap (λ xs. signal c n ∷ xs) (outputs_numbered c (from + 1) ns)

cells_numbered : (c : List Statement) (from : ℕ) (qds : List (Name × Name))
    → map (λ (o : Sink × Name). signal c o.1)
    (map (λ at. (sink.Data at.0, at.1.1)) (enumerate_from from qds))
    ≡ map (λ (qd : Name × Name). signal c qd.1) qds
cells_numbered c from [] = refl
cells_numbered c from (qd ∷ qds) = ap (λ xs. signal c qd.1 ∷ xs) (cells_numbered c (from + 1) qds)

pub observed_are : (c : List Statement)
    → map (λ (o : Sink × Name). signal c o.1) (observers c) ≡ map (signal c) (outputs c)
    ++ map (λ (qd : Name × Name). signal c qd.1) (cells c)
observed_are c = map-append (λ (o : Sink × Name). signal c o.1)
    (map (λ at. (sink.Out at.0, at.1)) (enumerate_from 0 (outputs c)))
    (map (λ at. (sink.Data at.0, at.1.1)) (enumerate_from 0 (cells c)))
    ∙ (ap (λ xs. xs ++ map (λ (o : Sink × Name). signal c o.1)
    (map (λ at. (sink.Data at.0, at.1.1)) (enumerate_from 0 (cells c))))
    (outputs_numbered c 0 (outputs c))
    ∙ ap (λ xs. map (signal c) (outputs c) ++ xs) (cells_numbered c 0 (cells c)))

-- the second numbers of pairs
pub seconds : {X : Type 0} (h : X → ℕ) (g : X → ℕ) (xs : List X) (ps : List (Name × Name))
    (p q : Name × Name → ℕ) → map {B = ℕ × ℕ} (λ x. (g x, h x)) xs ≡ map (λ qd. (p qd, q qd)) ps
    → map h xs ≡ map q ps
seconds h g [] [] p q e = refl
seconds {X} h g [] (y ∷ ps) p q e =
    let bad : ◌≡◌ {A = List (ℕ × ℕ)} [] ((p y, q y) ∷ map (λ qd. (p qd, q qd)) ps) = e in cc
seconds {X} h g (x ∷ xs) [] p q e =
    let bad : ◌≡◌ {A = List (ℕ × ℕ)} ((g x, h x) ∷ map (λ x. (g x, h x)) xs) [] = e in cc
seconds {X} h g (x ∷ xs) (y ∷ ps) p q e =
    let is : ◌≡◌ {A = List (ℕ × ℕ)} ((g x, h x) ∷ map (λ x. (g x, h x)) xs)
    ((p y, q y) ∷ map (λ qd. (p qd, q qd)) ps) = e in
    let tails : map {B = ℕ × ℕ} (λ x. (g x, h x)) xs ≡ map (λ qd. (p qd, q qd)) ps = cc in
    let heads : ◌≡◌ {A = ℕ × ℕ} (g x, h x) (p y, q y) = cc in
    let head : h x ≡ q y = ap (λ (pair : ℕ × ℕ). pair.1) heads in
    ap (λ n. n ∷ map h xs) head ∙ ap (λ ns. q y ∷ ns) (seconds h g xs ps p q tails)

pub observed_within : (c : List Statement) (signals : List ℕ) → IsWellFormed c
    → signals ≡ map (λ (o : Sink × Name). signal c o.1) (observers c)
    → All (λ s. s < length (names c)) signals
observed_within c signals well is i d lt =
    let at : Among (get_or signals i d) (map (λ (o : Sink × Name). signal c o.1) (observers c)) =
    subst (Among (get_or signals i d)) is
    (among signals (get_or signals i d) (Contains-get_or signals i d lt)) in
    let p = mapped_from (λ (o : Sink × Name). signal c o.1) (observers c) (get_or signals i d) at in
    let within : signal c p.0.1 < length (names c) = place_within (names c) (signal c p.0.1) p.0.1
    (name_of-signal c p.0.1 (observed_named c p.0 well p.1)) in
    let same : signal c p.0.1 ≡ get_or signals i d = p.2 in
    omega (arith, within, same)

-- there are no more observers than sinks
pub observed_counted : (c : List Statement) → length (outputs c) + length (cells c) ≤ sink_count c
observed_counted [] = omega arith
observed_counted (Input m ∷ c) = observed_counted c
observed_counted (Output m ∷ c) = let h = observed_counted c in omega (arith, h)
observed_counted (Gate m kind args ∷ c) =
    let h = observed_counted c in
    let whole : length (flat_map read (Gate m kind args ∷ c)) ≡ length args
    + length (flat_map read c) = length-append args (flat_map read c) in
    omega (arith, h, whole)
observed_counted (Dff q d ∷ c) = let h = observed_counted c in omega (arith, h)

pub observed_few : (c : List Statement) (signals : List ℕ) → IsCircuit c
    → signals ≡ map (signal c) (outputs c) ++ map (λ (qd : Name × Name). signal c qd.1) (cells c)
    → length signals ≤ 4000000
observed_few c signals circuit is =
    let counted = observed_counted c in
    let long : length signals ≡ length (map (signal c) (outputs c))
    + length (map (λ (qd : Name × Name). signal c qd.1) (cells c)) = ap length is
    ∙ length-append (map (signal c) (outputs c)) (map (λ (qd : Name × Name). signal c qd.1)
    (cells c)) in
    let first = length-map (outputs c) (signal c) in
    let second = length-map (cells c) (λ (qd : Name × Name). signal c qd.1) in
    omega (arith, counted, long, first, second, circuit.sinks)

-- ---- the rows

-- a row that was read bit by bit
pub lane_row_is : (observed words : List ℕ) (row : List Bool) (k : ℕ) → length row ≡ length observed
    → ((i : ℕ) (d : Bool) → i < length observed
    → get_or row i d ≡ lane (slice_index_or words (get_or observed i 0) 0) k)
    → row ≡ lane_row observed words k
lane_row_is observed words row k long each = same_lists row (lane_row observed words k) (long
    ∙ sym (length-map observed (λ s. lane (slice_index_or words s 0) k))) (λ i d lt.
    let within : i < length observed = omega (arith, lt, long) in
    each i d within ∙ sym (get_or-map (λ s. lane (slice_index_or words s 0) k) observed i 0 d
    within))

-- the row of one lane more
pub lane_more : (first rows more : List (List Bool)) (observed words : List ℕ) (row : List Bool)
    (k : ℕ) → rows ≡ first ++ map (lane_row observed words) (below k) → more ≡ rows ++ row ∷ []
    → row ≡ lane_row observed words k
    → more ≡ first ++ map (lane_row observed words) (below (k + 1))
lane_more first rows more observed words row k before pushed is =
    let lanes = map (lane_row observed words) (below k) in
    pushed ∙ (ap (λ rs. rs ++ row ∷ []) before ∙ (append_assoc first lanes (row ∷ [])
    ∙ ap (λ rs. first ++ rs) (ap (λ r. lanes ++ r ∷ []) is
    ∙ sym (map-range_with_len_more (lane_row observed words) 0 k k (omega arith)))))

-- a list of observers, by the bit of each of them
same_row : (os : List (Sink × Name)) (p : Sink × Name → ℕ) (g : ℕ → Bool) (h : Sink × Name → Bool)
    → ((o : Sink × Name) → Among o os → g (p o) ≡ h o) → map g (map p os) ≡ map h os
same_row [] p g h each = refl
same_row (o ∷ os) p g h each = ap (λ b. b ∷ map g (map p os)) (each o (inl refl))
    ∙ ap (λ bs. h o ∷ bs) (same_row os p g h (λ x a. each x (inr a)))

-- a lane of a group's words has the bits that the observers show under the lane's test
pub row_shows : (c : List Statement) (tests : List Test) (group k : ℕ) (words observed : List ℕ)
    (test : Test) (v : Name → Bool) → IsWellFormed c → AreWords c tests group None words → k < 128
    → observed ≡ map (λ (o : Sink × Name). signal c o.1) (observers c)
    → slice_get tests (128 * group + k) ≡ Some test → Solves c test None v
    → lane_row observed words k ≡ map (shows None v) (observers c)
row_shows c tests group k words observed test v well are lt is at solves =
    let own : test_of tests group k ≡ test =
    get_or_from_slice_get tests (128 * group + k) test [] at in
    let solved = subst (λ t. Solves c t None (lane_bits c words k)) own (are k lt) in
    ap (λ xs. lane_row xs words k) is ∙ same_row (observers c) (λ (o : Sink × Name). signal c o.1)
    (λ s. lane (slice_index_or words s 0) k) (shows None v)
    (λ o a. agree c test None (lane_bits c words k) v well solved solves o.1
    (observed_named c o well a))

-- the rows of the first tests
pub record AreFirstResponses (c : List Statement) (tests : List Test) (n : ℕ)
    (rows : List (List Bool)) : Type 0 where
  pub count : length rows ≡ n
  pub each : (t : ℕ) (test : Test) (v : Name → Bool) → t < n → slice_get tests t ≡ Some test
      → Solves c test None v → slice_get rows t ≡ Some (map (shows None v) (observers c))

-- the rows of one group more
pub group_more : (c : List Statement) (tests : List Test) (group n m size : ℕ)
    (rows more : List (List Bool)) (words observed : List ℕ) → IsWellFormed c
    → AreWords c tests group None words
    → observed ≡ map (λ (o : Sink × Name). signal c o.1) (observers c) → n ≡ 128 * group
    → size ≤ 128 → m ≡ n + size
    → more ≡ rows ++ map (lane_row observed words) (below size) → AreFirstResponses c tests n rows
    → AreFirstResponses c tests m more
group_more c tests group n m size rows more words observed well are is starts few ends same before =
    record { count = counted; each = each }
  where
    long : length (map (lane_row observed words) (below size)) ≡ size
    long = length-map-range_with_len (lane_row observed words) 0 size

    counted : length more ≡ m
    counted = ap length same ∙ (length-append rows (map (lane_row observed words) (below size))
        ∙ omega (arith, before.count, long, ends))

    each : (t : ℕ) (test : Test) (v : Name → Bool) → t < m → slice_get tests t ≡ Some test
        → Solves c test None v → slice_get more t ≡ Some (map (shows None v) (observers c))
    each t test v lt at solves = go (cases_lt t n)
      where
        whole : (row : List Bool) → get_or more t [] ≡ row → slice_get more t ≡ Some row
        whole row e = slice_get-get_or more t [] (omega (arith, counted, lt)) ∙ ap Some e

        go : (t < n) ⊎ (n ≤ t) → slice_get more t ≡ Some (map (shows None v) (observers c))
        go (inl low) = whole (map (shows None v) (observers c)) (ap (λ rs. get_or rs t []) same
            ∙ (get_or_append_left rows (map (lane_row observed words) (below size)) [] t
            (omega (arith, before.count, low))
            ∙ get_or_from_slice_get rows t (map (shows None v) (observers c)) []
            (before.each t test v low at solves)))
        go (inr high) =
            let place : length rows + (t - n) ≡ t = omega (arith, before.count, high) in
            let number : 128 * group + (t - n) ≡ t = omega (arith, starts, high) in
            let small : t - n < size = omega (arith, ends, lt, high) in
            let own : slice_get tests (128 * group + (t - n)) ≡ Some test =
            subst (λ i. slice_get tests i ≡ Some test) (sym number) at in
            whole (map (shows None v) (observers c)) (ap (λ rs. get_or rs t []) same
            ∙ (ap (λ i. get_or (rows ++ map (lane_row observed words) (below size)) i [])
            (sym place)
            ∙ (get_or-append-add rows (map (lane_row observed words) (below size)) (t - n) []
            ∙ (get_or-map-range_with_len (lane_row observed words) 0 size (t - n) (t - n) [] small
            (omega arith) ∙ row_shows c tests group (t - n) words observed test v well are (omega (
              arith,
              small,
              few,
            )) is own solves))))
