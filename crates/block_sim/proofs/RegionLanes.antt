-- The laws of regions on words of a group.
use Rattle.std.proofs.Common.{◌≡◌, ◌<◌, ◌≤◌, ℕ, ◌+◌, refl, sym, ◌∙◌, ap, subst, Bool, true, false}
use Rattle.std.proofs.Common.{not, ◌&&◌, List, [], ◌∷◌, length, set, arith, eqb-true, eq-eqb}
use Rattle.std.specs.Prelude.{◌≢◌, ◌↔◌, ◌==◌, All, Contains, Some, None, map, slice_index_or}
use Rattle.std.specs.{Prelude.{bit_and, bit_xor, if◌then◌else◌, unwrap_or}, Bool.Decides}
use Rattle.std.{specs.List.enumerate_from, proofs.lemmas.Bool.false≢true}
use Rattle.std.proofs.lemmas.List.{get_or-set_same, get_or-set_other}
use Rattle.event_queue.proofs.Public.{index_zero}
use Rattle.flat_circuit.proofs.Public.{never, lane_same, lane_and, lane_xor, unlike, lane_of_zero}
use Rattle.flat_circuit.proofs.Public.{left_of, only_lanes, right_of, turned_lanes}
use Rattle.flat_circuit.specs.{Readers.Reads, Regions.IsReadBy, BlockSpans.group_of}
use Rattle.flat_circuit.specs.Words.{lane, lane_bits, word_over, pin_bits, test_of, AreWords}
use Rattle.bench_net.specs.{declared.Kind.Kind, Statement.{Name, Statement, Gate}}
use Rattle.bench_net.specs.{Scan.{names, signal, definition, gate_of}, Circuit.IsWellFormed}
use Rattle.bench_net.proofs.Public.{name_of-signal, read_named}
use Rattle.list_lemmas.proofs.{Members.{among, contained}, Places.place_within}
use Rattle.fault_model.specs.declared.Line.TheVariants as line
use Rattle.fault_model.specs.{Fault.Fault, Solution.{Test, Solves, Detects, under, value}}
use Rattle.fault_model.proofs.Public.{agree, defined_among, definition-signal, signal_apart}
use Rattle.block_sim.{specs.Events.bits_of, proofs.EnteredGates.{free_pins, map_alike}}
use Rattle.block_sim.specs.Flips.{DetectsFlip, HasCome, LanesLaw, Passes, complemented_at}
use Rattle.block_sim.proofs.{SignalEquations.gate_named, Outcomes.first_of_told, Regions.step_law}

both_are : (a b : Bool) → a ≡ true → b ≡ true → (a && b) ≡ true
both_are true b p q = q
both_are false b p q = p

pub lanes_both : (x y k : ℕ) → lane x k ≡ true → lane y k ≡ true → lane (bit_and x y) k ≡ true
lanes_both x y k p q = lane_and x y k ∙ both_are (lane x k) (lane y k) p q

pub lanes_first : (x y k : ℕ) → lane (bit_and x y) k ≡ true → lane x k ≡ true
lanes_first x y k e = left_of (lane x k) (lane y k) (sym (lane_and x y k) ∙ e)

pub lanes_second : (x y k : ℕ) → lane (bit_and x y) k ≡ true → lane y k ≡ true
lanes_second x y k e = right_of (lane x k) (lane y k) (sym (lane_and x y k) ∙ e)

pub lanes_law : (c : List Statement) → LanesLaw c
lanes_law c tests span f s lanes arrived seen decides come tells =
    first_of_told c tests span f lanes (bit_and (bit_and lanes arrived) seen) decides there clear
  where
    there : (k : ℕ) → k < 128 → lane (bit_and (bit_and lanes arrived) seen) k ≡ true
        → (lane lanes k ≡ true) × Detects c (test_of tests (group_of span) k) f
    there k lt e =
        let wanted = lanes_first (bit_and lanes arrived) seen k e in
        let in_lanes = lanes_first lanes arrived k wanted in
        let flip = tells.found k lt wanted (only_lanes (bit_and lanes arrived) seen k e) in
        (in_lanes, (come k lt in_lanes).1 (only_lanes lanes arrived k wanted, flip))

    unseen : (j : ℕ) → lane (bit_and (bit_and lanes arrived) seen) j ≡ false
        → lane (bit_and lanes arrived) j ≡ true → (b : Bool) → lane seen j ≡ b → lane seen j ≡ false
    unseen j out own false e = e
    unseen j out own true e = absurd
        (false≢true (sym out ∙ lanes_both (bit_and lanes arrived) seen j own e))

    clear : (k : ℕ) → k < 128 → lane lanes k ≡ true
        → ((j : ℕ) → j ≤ k → lane (bit_and (bit_and lanes arrived) seen) j ≡ false)
        → Detects c (test_of tests (group_of span) k) f → ⊥
    clear k lt in_lanes none d =
        let h = (come k lt in_lanes).0 d in
        tells.clear k lt (lanes_both lanes arrived k in_lanes h.0)
        (λ j le own. unseen j (none j le) own (lane seen j) refl) h.1

-- ---- one step on words
pins_plain : (c : List Statement) (good delta : List ℕ) (g k from : ℕ) (args : List Name)
    → map (λ at. under None (line.Pin g at.0) (lane (word_over good delta at.1) k))
    (enumerate_from from (map (signal c) args)) ≡ map (bits_of c good delta k) args
pins_plain c good delta g k from [] = refl
pins_plain c good delta g k from (a ∷ args) = ap (λ more. bits_of c good delta k a ∷ more)
    (pins_plain c good delta g k (from + 1) args)

unlike_true : (a b : Bool) → b ≡ true → unlike a b ≡ not a
unlike_true true b e = ap not e
unlike_true false b e = e

-- by any solution
pub passes_is : (c : List Statement) (t : Test) (s : ℕ) (u : Name → Bool) (name : Name) (kind :
    Kind) (args : List Name) → IsWellFormed c → Solves c t None u → Contains c (Gate name kind args)
    → Passes c t s (signal c name) ↔ (value kind (map (complemented_at c s u) args) ≢ u name)
passes_is c t s u name kind args well p at = (
  λ h same. go h same,
  λ ne. record {
    bits = u;
    name = name;
    kind = kind;
    args = args;
    solves = p;
    stands = at;
    number = refl;
    differs = ne;
  },
)
  where
    named : Contains (names c) name
    named = contained (names c) name (defined_among c (Gate name kind args) name
        (among c (Gate name kind args) at) refl)

    go : Passes c t s (signal c name) → value kind (map (complemented_at c s u) args) ≡ u name → ⊥
    go h same =
        let one : h.name ≡ name = signal_apart c h.name name
        (contained (names c) h.name (defined_among c (Gate h.name h.kind h.args) h.name
        (among c (Gate h.name h.kind h.args) h.stands) refl)) named h.number in
        let gates : Gate h.name h.kind h.args ≡ Gate name kind args =
        ap (λ o. unwrap_or o (Gate h.name h.kind h.args))
        (sym (definition-signal c (Gate h.name h.kind h.args) h.name well h.stands refl)
        ∙ (ap (λ n. definition c (signal c n)) one
        ∙ definition-signal c (Gate name kind args) name well at refl)) in
        let kinds : h.kind ≡ kind = cc in
        let lists : h.args ≡ args = cc in
        let alike : map (complemented_at c s h.bits) args ≡ map (complemented_at c s u) args =
        map_alike (complemented_at c s h.bits) (complemented_at c s u) args (λ a b.
        ap (λ x. if signal c a == s then not x else x) (agree c t None h.bits u well h.solves p a
        (read_named c (Gate name kind args) a well (among c (Gate name kind args) at) b))) in
        h.differs (ap (λ k. value k (map (complemented_at c s h.bits) h.args)) kinds
        ∙ (ap (λ x. value kind (map (complemented_at c s h.bits) x)) lists
        ∙ (ap (value kind) alike ∙ (same ∙ (sym (agree c t None h.bits u well h.solves p name named)
        ∙ ap h.bits (sym one))))))

-- if only one signal differs, the word of the only gate that reads it has the lanes in which the
-- gate passes the change on
module _ (c : List Statement) (well : IsWellFormed c) (tests : List Test) (group : ℕ)
    (good : List ℕ) (words : AreWords c tests group None good) (s g : ℕ) (h : IsReadBy c g s)
    (kind : Kind) (pins : List ℕ)
    (gate : gate_of c g ≡ Some (kind, pins)) (delta : List ℕ) (diff word : ℕ)
    (here : slice_index_or delta s 0 ≡ diff) (elsewhere : (x : ℕ) → x ≢ s
    → slice_index_or delta x 0 ≡ 0)
    (valued : (k : ℕ) → k < 128 → lane word k ≡ value kind (pin_bits None g pins good delta k))
  where
    read_as : (k : ℕ) → k < 128 → lane word k ≡ value h.reads.kind
        (map (bits_of c good delta k) h.reads.args)
    read_as k lt =
        let pair : (kind, pins) ≡ (h.reads.kind, map (signal c) h.reads.args) =
        ap (λ o. unwrap_or o (kind, pins)) (sym gate
        ∙ gate_named c h.reads.name h.reads.kind h.reads.args g well h.reads.number h.reads.gate) in
        valued k lt ∙ (ap (λ p. value p.0 (pin_bits None g p.1 good delta k)) pair
        ∙ ap (value h.reads.kind) (pins_plain c good delta g k 0 h.reads.args))

    still : (k : ℕ) (a : Name) → signal c a ≢ s → bits_of c good delta k a ≡ lane_bits c good k a
    still k a ne = lane_same (slice_index_or good (signal c a) 0) k
        (slice_index_or delta (signal c a) 0) (elsewhere (signal c a) ne)

    now_turned : (k : ℕ) (a : Name) → lane diff k ≡ true
        → bits_of c good delta k a ≡ complemented_at c s (lane_bits c good k) a
    now_turned k a e = go (signal c a == s) refl
      where
        go : (x : Bool) → (signal c a == s) ≡ x
            → bits_of c good delta k a ≡ (if x then not (lane_bits c good k a) else lane_bits c good
            k a)
        go true is =
            let number : signal c a ≡ s = eqb-true (signal c a) s is in
            lane_xor (slice_index_or good (signal c a) 0) (slice_index_or delta (signal c a) 0) k
            ∙ unlike_true (lane_bits c good k a) (lane (slice_index_or delta (signal c a) 0) k)
            (ap (λ x. lane (slice_index_or delta x 0) k) number ∙ (ap (λ d. lane d k) here ∙ e))
        go false is = still k a (λ number. false≢true (sym is ∙ eq-eqb (signal c a) s number))

    unturned : (k : ℕ) (a : Name) → lane diff k ≡ false
        → bits_of c good delta k a ≡ lane_bits c good k a
    unturned k a e = lane_xor (slice_index_or good (signal c a) 0)
        (slice_index_or delta (signal c a) 0) k ∙ go (signal c a == s) refl
      where
        none : (x b : Bool) → b ≡ false → unlike x b ≡ x
        none true b e = ap not e
        none false b e = e

        go : (x : Bool) → (signal c a == s) ≡ x
            → unlike (lane_bits c good k a) (lane (slice_index_or delta (signal c a) 0) k)
            ≡ lane_bits c good k a
        go true is = none (lane_bits c good k a) (lane (slice_index_or delta (signal c a) 0) k)
            (ap (λ x. lane (slice_index_or delta x 0) k) (eqb-true (signal c a) s is)
            ∙ (ap (λ d. lane d k) here ∙ e))
        go false is = sym (lane_xor (slice_index_or good (signal c a) 0)
            (slice_index_or delta (signal c a) 0) k)
            ∙ still k a (λ number. false≢true (sym is ∙ eq-eqb (signal c a) s number))

    good_of : (k : ℕ) → lane (slice_index_or good g 0) k ≡ lane_bits c good k h.reads.name
    good_of k = ap (λ x. lane (slice_index_or good x 0) k) (sym h.reads.number)

    pub passed : (k : ℕ) → k < 128 → lane diff k ≡ true
        → Passes c (test_of tests group k) s g ↔ (lane (slice_index_or good g 0) k ≢ lane word k)
    passed k lt e =
        let both = passes_is c (test_of tests group k) s (lane_bits c good k) h.reads.name
        h.reads.kind h.reads.args well (words k lt) h.reads.gate in
        let is : lane word k ≡ value h.reads.kind
        (map (complemented_at c s (lane_bits c good k)) h.reads.args) =
        read_as k lt ∙ ap (value h.reads.kind)
        (map_alike (bits_of c good delta k) (complemented_at c s (lane_bits c good k)) h.reads.args
        (λ a b. now_turned k a e)) in (
          λ p same. both.0 (subst (Passes c (test_of tests group k) s) (sym h.reads.number) p)
              (sym is ∙ (sym same ∙ good_of k)),
          λ ne. subst (Passes c (test_of tests group k) s) h.reads.number
              (both.1 (λ same. ne (good_of k ∙ (sym same ∙ sym is)))),
        )

    pub unpassed : (k : ℕ) → k < 128 → lane diff k ≡ false
        → lane (slice_index_or good g 0) k ≡ lane word k
    unpassed k lt e =
        good_of k ∙ ((words k lt).gate h.reads.name h.reads.kind h.reads.args h.reads.gate
        ∙ (ap (value h.reads.kind) (free_pins None (lane_bits c good k) (signal c h.reads.name) 0
        h.reads.args tt ∙ map_alike (lane_bits c good k) (bits_of c good delta k) h.reads.args
        (λ a b. sym (unturned k a e))) ∙ sym (read_as k lt)))

    -- so a fault that has reached the signal has reached the gate
    pub come_over : (f : Fault) (lanes : ℕ) → HasCome c tests group f lanes s diff
        → HasCome c tests group f lanes g (bit_and (bit_xor word (slice_index_or good g 0)) lanes)
    come_over f lanes come k lt in_lanes = (
      λ d. there ((come k lt in_lanes).0 d),
      λ p. back (lane diff k) refl p.0 p.1,
    )
      where
        turns : Decides (lane (bit_and (bit_xor word (slice_index_or good g 0)) lanes) k)
            ((lane lanes k ≡ true) × (lane (slice_index_or good g 0) k ≢ lane word k))
        turns = turned_lanes word (slice_index_or good g 0) lanes k (lane word k) refl

        there : (lane diff k ≡ true) × DetectsFlip c (test_of tests group k) s
            → (lane (bit_and (bit_xor word (slice_index_or good g 0)) lanes) k ≡ true)
            × DetectsFlip c (test_of tests group k) g
        there p =
            let over = (step_law c well (test_of tests group k) s g h).0 p.1 in
            (turns.1 (in_lanes, (passed k lt p.0).0 over.0), over.1)

        back : (x : Bool) → lane diff k ≡ x
            → lane (bit_and (bit_xor word (slice_index_or good g 0)) lanes) k ≡ true
            → DetectsFlip c (test_of tests group k) g → Detects c (test_of tests group k) f
        back true e new d = (come k lt in_lanes).1 (
          e,
          (step_law c well (test_of tests group k) s g h).1 ((passed k lt e).1 (turns.0 new).1, d),
        )
        back false e new d = absurd ((turns.0 new).1 (unpassed k lt e))

-- the same after a change of this signal, if nothing differed
pub crossed : (c : List Statement) (tests : List Test) (group : ℕ) (f : Fault) (good : List ℕ)
    (lanes s g diff word : ℕ) (kind : Kind) (pins before delta : List ℕ) → IsWellFormed c
    → AreWords c tests group None good
    → IsReadBy c g s → gate_of c g ≡ Some (kind, pins) → All (λ x. x ≡ 0) before → s < length before
    → delta ≡ set before s diff
    → ((k : ℕ) → k < 128 → lane word k ≡ value kind (pin_bits None g pins good delta k))
    → HasCome c tests group f lanes s diff
    → HasCome c tests group f lanes g (bit_and (bit_xor word (slice_index_or good g 0)) lanes)
crossed c tests group f good lanes s g diff word kind pins before delta well words h gate clear
    within is valued come =
    come_over c well tests group good words s g h kind pins gate delta diff word
    (ap (λ d. slice_index_or d s 0) is ∙ get_or-set_same before s diff 0 within)
    (λ x ne. ap (λ d. slice_index_or d x 0) is ∙ (get_or-set_other before s x diff 0 ne
    ∙ index_zero before x clear)) valued f lanes come

-- in the lanes of this change the word has the tests under which the gate lets it pass
pub crossed_where : (c : List Statement) (tests : List Test) (group : ℕ) (good : List ℕ)
    (lanes s g diff word : ℕ) (kind : Kind) (pins before delta : List ℕ) → IsWellFormed c
    → AreWords c tests group None good
    → IsReadBy c g s → gate_of c g ≡ Some (kind, pins) → All (λ x. x ≡ 0) before → s < length before
    → delta ≡ set before s diff
    → ((k : ℕ) → k < 128 → lane word k ≡ value kind (pin_bits None g pins good delta k))
    → (k : ℕ) → k < 128 → lane diff k ≡ true
    → Decides (lane (bit_and (bit_xor word (slice_index_or good g 0)) lanes) k)
    ((lane lanes k ≡ true) × Passes c (test_of tests group k) s g)
crossed_where c tests group good lanes s g diff word kind pins before delta well words h gate clear
    within is valued k lt e =
    let turns = turned_lanes word (slice_index_or good g 0) lanes k (lane word k) refl in
    let over = passed c well tests group good words s g h kind pins gate delta diff word
    (ap (λ d. slice_index_or d s 0) is ∙ get_or-set_same before s diff 0 within)
    (λ x ne. ap (λ d. slice_index_or d x 0) is ∙ (get_or-set_other before s x diff 0 ne
    ∙ index_zero before x clear)) valued k lt e in (
      λ x. (let both = turns.0 x in (both.0, over.1 both.1)),
      λ p. turns.1 (p.0, over.0 p.1),
    )

-- a fault that has arrived in no lane arrives at the next signal in none
pub come_nowhere : (c : List Statement) (tests : List Test) (group : ℕ) (f : Fault)
    (lanes s g diff : ℕ) → diff ≡ 0 → HasCome c tests group f lanes s diff
    → HasCome c tests group f lanes g 0
come_nowhere c tests group f lanes s g diff none come k lt in_lanes = (
  λ d. absurd (false≢true (sym (lane_of_zero diff k none) ∙ ((come k lt in_lanes).0 d).0)),
  λ p. absurd (false≢true (sym (lane_of_zero 0 k refl) ∙ p.0)),
)

-- a signal that a gate reads is a signal of the circuit
pub read_within : (c : List Statement) (g s : ℕ) → IsWellFormed c → Reads c g s
    → s < length (names c)
read_within c g s well r =
    let a = read_named c (Gate r.name r.kind r.args) r.read well
    (among c (Gate r.name r.kind r.args) r.gate) (among r.args r.read r.reads) in
    let lt : signal c r.read < length (names c) = place_within (names c) (signal c r.read) r.read
    (name_of-signal c r.read a) in
    omega (arith, lt, r.of)

-- every reader of a signal is a gate
pub reader_driven : (c : List Statement) (g s : ℕ) → IsWellFormed c → Reads c g s
    → gate_of c g ≡ None → ⊥
reader_driven c g s well r none = never (gate_of c g) (
  r.kind,
  map (signal c) r.args,
) (gate_named c r.name r.kind r.args g well r.number r.gate) none
