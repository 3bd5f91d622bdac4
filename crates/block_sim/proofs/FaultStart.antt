-- The start of a fault: the lanes in which it is excited, and the first change.
use Rattle.std.proofs.Common.{◌≡◌, ◌≢◌, ◌<◌, ℕ, suc, ◌+◌, ◌*◌, refl, sym, ◌∙◌, ap, subst, Bool}
use Rattle.std.proofs.Common.{true, false, List, [], ◌∷◌, length, map, set, arith, inl, inr, ◌⊎◌}
use Rattle.std.specs.Prelude.{Contains, Some, None, slice_get, slice_index_or, bit_and, bit_xor}
use Rattle.std.specs.{Prelude.option_map, Bool.Decides, List.enumerate_from}
use Rattle.std.proofs.lemmas.{List.get_or-set_same, Bool.false≢true}
use Rattle.bench_net.specs.{declared.Kind.Kind, declared.Sink.Sink, Scan.cells}
use Rattle.bench_net.specs.{Statement.{Name, Statement, Gate}, Circuit.IsWellFormed}
use Rattle.bench_net.specs.Scan.{names, signal, definition, gate_of, sources, observers, outputs}
use Rattle.bench_net.proofs.Public.{name_of-signal}
use Rattle.bench_net.specs.declared.Sink.TheVariants as sink
use Rattle.list_lemmas.proofs.Members.{Among, among, contained, among_append, mapped_from}
use Rattle.list_lemmas.proofs.Places.{numbered_at, at_place, within_place}
use Rattle.fault_model.specs.{declared.Line.Line, Detection.{argument, name_on}}
use Rattle.fault_model.specs.Fault.{Fault, branch, same_line}
use Rattle.fault_model.specs.Solution.{Test, Solves, sees, under, value}
use Rattle.fault_model.proofs.Public.{has_solutions, same_lines, under_other, under_own, observes}
use Rattle.fault_model.proofs.Public.{defined_among, definition-signal, source_named}
use Rattle.fault_model.specs.declared.Line.TheVariants as line
use Rattle.flat_circuit.specs.Words.{lane, lane_bits, word_over, pin_bits, test_of, AreWords}
use Rattle.flat_circuit.{specs.Readers.Reads, proofs.Public.{index_of, changed_to, turned_lanes}}
use Rattle.block_sim.specs.{ActiveGates.{AreInGroup, IsActiveIn, IsActiveBy}, Events.bits_of}
use Rattle.block_sim.specs.Propagation.{AreShown, IsApart, IsFirstChange}
use Rattle.block_sim.proofs.SignalEquations.{equation_of, word_other}

-- a line that has the stuck bit anyway
under_same : (f : Fault) (l : Line) (bit : Bool) → (f.line ≡ l → bit ≡ f.stuck)
    → under (Some f) l bit ≡ bit
under_same f l bit stuck = go (same_line f.line l) refl
  where
    go : (b : Bool) → same_line f.line l ≡ b → under (Some f) l bit ≡ bit
    go true e = let own = same_lines f.line l e in under_own f l bit own ∙ sym (stuck own)
    go false e = rw e refl

-- an observer's branch carries the name that it observes
observer_carries : (c : List Statement) (o : Sink × Name) → Contains (observers c) o
    → name_on c (branch o.0) ≡ Some o.1
observer_carries c o at = go (among_append
    (map (λ at. (sink.Out at.0, at.1)) (enumerate_from 0 (outputs c)))
    (map (λ at. (sink.Data at.0, at.1.1)) (enumerate_from 0 (cells c))) o
    (among (observers c) o at))
  where
    go : Among o (map (λ at. (sink.Out at.0, at.1)) (enumerate_from 0 (outputs c)))
        ⊎ Among o (map (λ at. (sink.Data at.0, at.1.1)) (enumerate_from 0 (cells c)))
        → name_on c (branch o.0) ≡ Some o.1
    go (inl h) =
        let p = mapped_from (λ at. (sink.Out at.0, at.1)) (enumerate_from 0 (outputs c)) o h in
        let place : slice_get (outputs c) p.0.0 ≡ Some p.0.1 = numbered_at (outputs c) p.0 p.1 in
        let it : (sink.Out p.0.0, p.0.1) ≡ o = p.2 in
        subst (λ x. name_on c (branch x.0) ≡ Some x.1) it place
    go (inr h) =
        let p = mapped_from (λ at. (sink.Data at.0, at.1.1)) (enumerate_from 0 (cells c)) o h in
        let place : slice_get (cells c) p.0.0 ≡ Some p.0.1 = numbered_at (cells c) p.0 p.1 in
        let it : (sink.Data p.0.0, p.0.1.1) ≡ o = p.2 in
        subst (λ x. name_on c (branch x.0) ≡ Some x.1) it (ap (option_map (λ qd. qd.1)) place)

module _ (c : List Statement) (tests : List Test) (group : ℕ) (f : Fault) (good : List ℕ) (n : Name)
    (well : IsWellFormed c) (words : AreWords c tests group None good)
    (carries : name_on c f.line ≡ Some n) where
  -- ---- a lane in which the line has the stuck bit anyway
  module _ (k : ℕ) (lt : k < 128) (stuck : lane_bits c good k n ≡ f.stuck) where
    stuck_name : (m : Name) → Some m ≡ Some n → lane_bits c good k m ≡ f.stuck
    stuck_name m e = let is : m ≡ n = cc in ap (lane_bits c good k) is ∙ stuck

    on_stem : (m : Name) → Among m (names c) → f.line ≡ line.Stem (signal c m)
        → lane_bits c good k m ≡ f.stuck
    on_stem m a own = stuck_name m (sym (name_of-signal c m (contained (names c) m a))
        ∙ (ap (name_on c) (sym own) ∙ carries))

    pins_from : (s from : ℕ) (args : List Name) → ((i : ℕ) (a : Name) → slice_get args i ≡ Some a
        → f.line ≡ line.Pin s (from + i) → lane_bits c good k a ≡ f.stuck)
        → map (λ at. sees None (lane_bits c good k) (line.Pin s at.0) at.1)
        (enumerate_from from args) ≡ map (λ at. sees (Some f) (lane_bits c good k)
        (line.Pin s at.0) at.1) (enumerate_from from args)
    pins_from s from [] same = refl
    pins_from s from (a ∷ args) same =
        let first = under_same f (line.Pin s from) (lane_bits c good k a)
        (λ own. same 0 a refl (own ∙ ap (line.Pin s) (omega arith))) in
        let rest = pins_from s (from + 1) args (λ i b at own. same (suc i) b at (own
        ∙ ap (line.Pin s) (omega arith))) in
        rw (first, rest) refl

    unmoved : Solves c (test_of tests group k) (Some f) (lane_bits c good k)
    unmoved = record {
      source = λ i m at.
          let plain = (words k lt).source i m at in
          plain ∙ sym (under_same f (line.Stem (signal c m)) _ (λ own. sym plain
          ∙ on_stem m (source_named c m (at_place (sources c) i m at)) own));
      gate = λ m kind args at.
          let a = among c (Gate m kind args) at in
          let plain = (words k lt).gate m kind args at in
          let defined : definition c (signal c m) ≡ Some (Gate m kind args) =
          definition-signal c (Gate m kind args) m well at refl in
          let pins = pins_from (signal c m) 0 args (λ i b here own. stuck_name b (sym here
          ∙ (ap (λ o. argument o i) (sym defined)
          ∙ (ap (name_on c) (sym (own ∙ ap (line.Pin (signal c m)) (omega arith))) ∙ carries)))) in
          let now = plain ∙ ap (value kind) pins in
          now ∙ sym (under_same f (line.Stem (signal c m)) _ (λ own. sym now
          ∙ on_stem m (defined_among c (Gate m kind args) m a refl) own));
    }

    unapart : IsApart c f good k (lane_bits c good k) → ⊥
    unapart h = h.2 (sym (under_same f (branch h.0.0) (lane_bits c good k h.0.1)
        (λ own. stuck_name h.0.1 (sym (observer_carries c h.0 h.1)
        ∙ (ap (name_on c) (sym own) ∙ carries)))))

  -- ---- the lanes in which the fault is excited
  module _ (settled : ℕ → Type 0) (lanes excited : ℕ) (is : (k : ℕ) → k < 128
      → Decides (lane excited k) ((lane lanes k ≡ true) × (lane_bits c good k n ≢ f.stuck))) where
    same_or : (a b : Bool) → (a ≢ b → ⊥) → a ≡ b
    same_or true true h = refl
    same_or true false h = absurd (h (λ e. false≢true (sym e)))
    same_or false true h = absurd (h false≢true)
    same_or false false h = refl

    still : (k : ℕ) → k < 128 → lane lanes k ≡ true → lane excited k ≡ false
        → lane_bits c good k n ≡ f.stuck
    still k lt in_lanes none = same_or (lane_bits c good k n) f.stuck
        (λ ne. false≢true (sym none ∙ (is k lt).1 (in_lanes, ne)))

    cleared : (k : ℕ) → k < 128 → lane lanes k ≡ true → lane excited k ≡ false
        → (v : Name → Bool) × Solves c (test_of tests group k) (Some f) v × (IsApart c f good k v
        → ⊥)
    cleared k lt in_lanes none = let stuck = still k lt in_lanes none in
        (lane_bits c good k, unmoved k lt stuck, unapart k lt stuck)

    -- if it is excited in no lane, nothing is shown
    pub shown_none : (seen : ℕ) → ((k : ℕ) → k < 128 → lane excited k ≡ false)
        → ((k : ℕ) → lane seen k ≡ false) → AreShown c tests group (λ _. f) good lanes settled seen
    shown_none seen none unseen = record {
      found = λ k lt e. absurd (false≢true (sym (unseen k) ∙ e));
      clear = λ k lt in_lanes out _. cleared k lt in_lanes (none k lt);
    }

    -- the line of an observer: an excited fault is shown
    pub shown_at_observer : (o : Sink) → branch o ≡ f.line → Contains (observers c) (o, n)
        → AreShown c tests group (λ _. f) good lanes settled excited
    shown_at_observer o own there = record {
      found = λ k lt e. let d = (is k lt).0 e in (
        d.0,
        λ v solves. ((o, n), there, λ same. d.1 (same ∙ under_own f (branch o) (v n) (sym own))),
      );
      clear = λ k lt in_lanes out _. cleared k lt in_lanes out;
    }

    -- the gate whose pin is excited is active
    pub pin_active : (k g pin : ℕ) → k < 128 → f.line ≡ line.Pin g pin
        → AreInGroup tests group lanes → lane excited k ≡ true
        → (name : Name) (kind : Kind) (args : List Name) → Contains c (Gate name kind args)
        → signal c name ≡ g → slice_get args pin ≡ Some n
        → IsActiveIn c tests group lanes (λ _. f) g
    pin_active k g pin lt on sized e name kind args stands number at =
        let d = (is k lt).0 e in
        let place = within_place tests (128 * group + k) (sized k lt d.0) in
        let same : test_of tests group k ≡ place.0 =
        index_of tests (128 * group + k) place.0 [] place.1 in
        let u = has_solutions c well (test_of tests group k) (Some f) in
        let active : IsActiveBy c (test_of tests group k) f g = record {
          fault_free = lane_bits c good k;
          faulty = u.0;
          name = name;
          kind = kind;
          args = args;
          pin = pin;
          read = n;
          solves = words k lt;
          solves_faulty = u.1;
          stands = stands;
          number = number;
          at = at;
          differs = λ eq. d.1 (eq ∙ under_own f (line.Pin g pin) (u.0 n) on);
        } in
        (k, place.0, lt, d.0, place.1, subst (λ t. IsActiveBy c t f g) same active)

-- ---- the first change
unobserved : (c : List Statement) (f : Fault) (l : Line) → IsWellFormed c → f.line ≡ l
    → ((o : Sink × Name) → Contains (observers c) o → l ≢ branch o.0) → (o : Sink × Name)
    → Contains (observers c) o → f.line ≢ branch o.0
unobserved c f l well on off o there e = off o there (sym on ∙ e)

pub first_on_stem : (c : List Statement) (tests : List Test) (group : ℕ) (f : ℕ
    → Fault) (good : List ℕ) (lanes : ℕ) (delta : List ℕ) (start diff : ℕ) → IsWellFormed c
    → ((k : ℕ) → (f k).line ≡ line.Stem start) → start < length delta
    → AreWords c tests group None good → ((k : ℕ) → k < 128 → lane lanes k ≡ true
    → lane (bit_xor (slice_index_or good start 0) diff) k ≡ (f k).stuck)
    → IsFirstChange c tests group f good lanes delta start diff
first_on_stem c tests group f good lanes delta start diff well on within words now = record {
  words = words;
  elsewhere = λ t k ne. record {
    stem = λ e. let same : line.Stem start ≡ line.Stem t = sym (on k) ∙ e in
        let is : start ≡ t = cc in ne (sym is);
    pin = λ p e. let same : line.Stem start ≡ line.Pin t p = sym (on k) ∙ e in cc;
  };
  unobserved = λ o k. unobserved c (f k) (line.Stem start) well (on k)
      (λ p there. (observes c p well there).no_stem start) o;
  first = λ k lt in_lanes. record {
    source = λ i n number at. here k lt in_lanes n number
        ∙ sym (under_own (f k) (line.Stem start) _ (on k));
    gate = λ n kind args number at. here k lt in_lanes n number
        ∙ sym (under_own (f k) (line.Stem start) _ (on k));
  };
}
  where
    here : (k : ℕ) → k < 128 → lane lanes k ≡ true → (n : Name) → signal c n ≡ start
        → bits_of c good (set delta start diff) k n ≡ (f k).stuck
    here k lt in_lanes n number = ap (λ s. lane (word_over good (set delta start diff) s) k) number
        ∙ (ap (λ d. lane (bit_xor (slice_index_or good start 0) d) k)
        (get_or-set_same delta start diff 0 within) ∙ now k lt in_lanes)

pub first_on_pin : (c : List Statement) (tests : List Test) (group : ℕ) (f : Fault) (good : List ℕ)
    (lanes : ℕ) (delta : List ℕ) (start pin diff : ℕ) (kind : Kind) (pins : List ℕ)
    → IsWellFormed c → AreWords c tests group None good → f.line ≡ line.Pin start pin
    → start < length delta → (Reads c start start → ⊥) → gate_of c start ≡ Some (kind, pins)
    → ((k : ℕ) → k < 128 → lane lanes k ≡ true
    → lane (bit_xor (slice_index_or good start 0) diff) k ≡ value kind
    (pin_bits (Some f) start pins good delta k))
    → IsFirstChange c tests group (λ _. f) good lanes delta start diff
first_on_pin c tests group f good lanes delta start pin diff kind pins well words on within loop is
    now = record {
      words = words;
      elsewhere = λ t k ne. record {
        stem = λ e. let same : line.Pin start pin ≡ line.Stem t = sym on ∙ e in cc;
        pin = λ p e. let same : line.Pin start pin ≡ line.Pin t p = sym on ∙ e in
            let is : start ≡ t = cc in ne (sym is);
      };
      unobserved = λ o k. unobserved c f (line.Pin start pin) well on
          (λ p there. (observes c p well there).no_pin_line start pin) o;
      first = λ k lt in_lanes. equation_of c (test_of tests group k) (Some f) good delta
          (set delta start diff) start k kind pins well loop is
          (λ s ne. word_other good delta start diff s k ne)
          (ap (λ d. lane (bit_xor (slice_index_or good start 0) d) k)
          (get_or-set_same delta start diff 0 within)
          ∙ (now k lt in_lanes ∙ sym (under_other f (line.Stem start) _
          (λ e. let same : line.Pin start pin ≡ line.Stem start = sym on ∙ e in cc))));
    }

-- the same, from the word of the signal that the line carries
pub stem_change : (c : List Statement) (tests : List Test) (group : ℕ) (f : Fault) (good : List ℕ)
    (lanes : ℕ) (delta : List ℕ) (start number word : ℕ) → IsWellFormed c
    → AreWords c tests group None good
    → f.line ≡ line.Stem start → start < length delta → number ≡ start
    → ((k : ℕ) → k < 128 → lane word k ≡ f.stuck)
    → IsFirstChange c tests group (λ _. f) good lanes delta start
    (bit_and (bit_xor word (slice_index_or good number 0)) lanes)
stem_change c tests group f good lanes delta start number word well words on within same stuck =
    subst (λ x. IsFirstChange c tests group (λ _. f) good lanes delta start
    (bit_and (bit_xor word (slice_index_or good x 0)) lanes)) (sym same)
    (first_on_stem c tests group (λ _. f) good lanes delta start
    (bit_and (bit_xor word (slice_index_or good start 0)) lanes) well (λ _. on) within words
    (λ k lt in_lanes. changed_to word (slice_index_or good start 0) lanes k in_lanes ∙ stuck k lt))

-- the lanes in which the code sees the line excited
pub turned_is : (c : List Statement) (f : Fault) (good : List ℕ) (lanes number word : ℕ) (n : Name)
    → number ≡ signal c n → ((k : ℕ) → k < 128 → lane word k ≡ f.stuck)
    → (k : ℕ) → k < 128 → Decides
    (lane (bit_and (bit_xor word (slice_index_or good number 0)) lanes) k)
    ((lane lanes k ≡ true) × (lane_bits c good k n ≢ f.stuck))
turned_is c f good lanes number word n is stuck k lt =
    subst (λ x. Decides (lane (bit_and (bit_xor word (slice_index_or good number 0)) lanes) k)
    ((lane lanes k ≡ true) × (lane (slice_index_or good x 0) k ≢ f.stuck))) is
    (turned_lanes word (slice_index_or good number 0) lanes k f.stuck (stuck k lt))
