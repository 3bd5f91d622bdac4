-- The laws of fanout-free regions.
use Rattle.std.proofs.Common.{◌≡◌, ℕ, refl, sym, ◌∙◌, ap, subst, Bool, true, false, not, List, inl}
use Rattle.std.{proofs.Common.{inr, ◌⊎◌}, specs.List.enumerate_from}
use Rattle.std.specs.Prelude.{◌≢◌, ◌↔◌, Contains, Some, None, map, option_map, unwrap_or}
use Rattle.bench_net.specs.{declared.Sink.Sink, Statement.{Name, Statement, Gate}}
use Rattle.bench_net.specs.Scan.{names, signal, name_of, cells, definition, observers, outputs}
use Rattle.bench_net.{specs.Circuit.IsWellFormed, proofs.Public.{name_of-signal, signal-name_of}}
use Rattle.bench_net.specs.declared.Sink.TheVariants as sink
use Rattle.list_lemmas.proofs.Members.{Among, among, among_append, contained, mapped_from}
use Rattle.list_lemmas.proofs.Places.{at_place, numbered_at}
use Rattle.fault_model.specs.{declared.Line.Line, declared.Model.Model, Detection.{HasBit, name_on}}
use Rattle.fault_model.specs.Fault.{Fault, branch, faults, same_line}
use Rattle.fault_model.specs.Solution.{Test, Solves, Detects, value}
use Rattle.fault_model.proofs.Public.{IsOn, defined_among, definition-signal, has_solutions}
use Rattle.fault_model.proofs.Public.{listed_on, observes, same_lines, signal_apart, under_own}
use Rattle.fault_model.specs.declared.Line.TheVariants as line
use Rattle.flat_circuit.specs.Regions.{IsReadBy, RunsTo, here, onward}
use Rattle.flat_circuit.proofs.Public.{data_observed, output_observed}
use Rattle.block_sim.specs.Flips.{Alters, Arrives, there, over, DetectsFlip, FaultLaw, ObserverLaw}
use Rattle.block_sim.specs.Flips.{Passes, RegionLaw, StemLaw, StepLaw, flip, start_of}
use Rattle.block_sim.{specs.Flips.complemented_at, proofs.Flips.{stem_stuck, stem_there, turned_of}}
use Rattle.block_sim.proofs.EnteredGates.{Enters, IsFree, arg_named, gate_named, same_where}
use Rattle.block_sim.proofs.Flips.{altered, bit_is, entered_back, entered_there, gate_turned}
use Rattle.block_sim.proofs.Flips.{not_back, not_itself, pin_enters, stem_back, stem_enters}

module _ (c : List Statement) (well : IsWellFormed c) (t : Test) (s g : ℕ)
    (h : IsReadBy c g s) where
  abbrev e : Enters c (line.Stem s)
  e = (stem_enters c g s well h).enters

  number : signal c e.name ≡ g
  number = (stem_enters c g s well h).number

  abbrev read : Name
  read = (stem_enters c g s well h).read

  of : signal c read ≡ s
  of = (stem_enters c g s well h).of

  reads : Among read e.args
  reads = (stem_enters c g s well h).reads

  read_here : Among read (names c)
  read_here = arg_named c well (line.Stem s) e read reads

  gate_here : Among e.name (names c)
  gate_here = gate_named c well (line.Stem s) e

  stands : Contains c (Gate e.name e.kind e.args)
  stands = contained c (Gate e.name e.kind e.args) e.stands

  step_there : DetectsFlip c t s → Passes c t s g × DetectsFlip c t g
  step_there d = subst (λ x. Passes c t s x × DetectsFlip c t x) number (passes, a.1)
    where
      a : Alters c t (flip s d.0) (signal c e.name) × DetectsFlip c t (signal c e.name)
      a = entered_there c well t (flip s d.0) e d.2

      passes : Passes c t s (signal c e.name)
      passes =
          let u = a.0.fault_free in
          let v = a.0.faulty in
          let is = bit_is c well t read d.0 u read_here (subst (λ x. HasBit c t (line.Stem x) d.0)
          (sym of) d.1) a.0.solves in
          let gives = gate_turned c well t s e read of reads u v d.0 a.0.solves a.0.solves_faulty
          is in
          let turned = altered c well t (flip s d.0) e.name u v gate_here a.0 a.0.solves
          a.0.solves_faulty in
          record {
            bits = u;
            name = e.name;
            kind = e.kind;
            args = e.args;
            solves = a.0.solves;
            stands = stands;
            number = refl;
            differs = λ same. not_itself (u e.name) (sym same ∙ (sym gives ∙ turned));
          }

  step_back : Passes c t s g → DetectsFlip c t g → DetectsFlip c t s
  step_back p d = (
    (p.bits read),
    (p.bits, read, p.solves, read_at, refl),
    entered_back c well t (flip s (p.bits read)) e alters (subst (DetectsFlip c t) (sym number) d),
  )
    where
      read_at : name_of c s ≡ Some read
      read_at = subst (λ x. name_of c x ≡ Some read) of
          (name_of-signal c read (contained (names c) read read_here))

      one : p.name ≡ e.name
      one = signal_apart c p.name e.name
          (contained (names c) p.name (defined_among c (Gate p.name p.kind p.args) p.name
          (among c (Gate p.name p.kind p.args) p.stands) refl))
          (contained (names c) e.name gate_here) (p.number ∙ sym number)

      gates : Some (Gate p.name p.kind p.args) ≡ Some (Gate e.name e.kind e.args)
      gates = sym (definition-signal c (Gate p.name p.kind p.args) p.name well p.stands refl)
          ∙ (ap (λ n. definition c (signal c n)) one
          ∙ definition-signal c (Gate e.name e.kind e.args) e.name well stands refl)

      differs : value e.kind (map (complemented_at c s p.bits) e.args) ≢ p.bits e.name
      differs is =
          let same : Gate p.name p.kind p.args ≡ Gate e.name e.kind e.args =
          ap (λ o. unwrap_or o (Gate p.name p.kind p.args)) gates in
          let kinds : p.kind ≡ e.kind = cc in
          let args : p.args ≡ e.args = cc in
          p.differs (ap (λ k. value k (map (complemented_at c s p.bits) p.args)) kinds
          ∙ (ap (λ x. value e.kind (map (complemented_at c s p.bits) x)) args
          ∙ (is ∙ ap p.bits (sym one))))

      w : (v : Name → Bool) × Solves c t (Some (flip s (p.bits read))) v
      w = has_solutions c well t (Some (flip s (p.bits read)))

      alters : Alters c t (flip s (p.bits read)) (signal c e.name)
      alters = record {
        fault_free = p.bits;
        faulty = w.0;
        name = e.name;
        solves = p.solves;
        solves_faulty = w.1;
        named = name_of-signal c e.name (contained (names c) e.name gate_here);
        differs = λ is. differs (sym (gate_turned c well t s e read of reads p.bits w.0
            (p.bits read) p.solves w.1 refl) ∙ sym is);
      }

pub step_law : (c : List Statement) → IsWellFormed c → StepLaw c
step_law c well t s g h = (step_there c well t s g h, λ p. step_back c well t s g h p.0 p.1)

-- ---- through the steps of a region
region_there : (c : List Statement) (t : Test) {s r : ℕ} → IsWellFormed c → RunsTo c s r
    → DetectsFlip c t s → Arrives c t s r × DetectsFlip c t r
region_there c t well here d = (there, d)
region_there c t well (onward {s = s} {g = g} h p) d =
    let first = (step_law c well t s g h).0 d in
    let rest = region_there c t well p first.1 in
    (over h first.0 rest.0, rest.1)

region_back : (c : List Statement) (t : Test) {s r : ℕ} → IsWellFormed c → Arrives c t s r
    → DetectsFlip c t r → DetectsFlip c t s
region_back c t well there d = d
region_back c t well (over {s = s} {g = g} h p rest) d = (step_law c well t s g h).1 (
  p,
  region_back c t well rest d,
)

pub region_law : (c : List Statement) → IsWellFormed c → RegionLaw c
region_law c well t s r runs = (region_there c t well runs, λ p. region_back c t well p.0 p.1)

-- ---- faults by their lines
stem_named : (m : Model) (c : List Statement) (f : Fault) (s : ℕ) → IsWellFormed c
    → Contains (faults m c) f → f.line ≡ line.Stem s → (n : Name) × Among n (names c)
    × (signal c n ≡ s)
stem_named m c f s well at on = let p = listed_on m c f at in go p.0 p.1 p.2 p.3
  where
    off_branch : (k : Sink) → line.Stem s ≡ branch k → ⊥
    off_branch (sink.Pin g p) e = cc
    off_branch (sink.Data i) e = cc
    off_branch (sink.Out i) e = cc

    go : (k : ℕ) (n : Name) → name_of c k ≡ Some n → IsOn c k n f.line
        → (n : Name) × Among n (names c) × (signal c n ≡ s)
    go k n named (inl stem) =
        let lines : line.Stem s ≡ line.Stem k = sym on ∙ stem in
        let same : k ≡ s = cc in
        let a = at_place (names c) k n named in
        (n, a, signal-name_of c k n well.once named (contained (names c) n a) ∙ same)
    go k n named (inr b) = absurd (off_branch b.0 (sym on ∙ b.2))

pub fault_law : (c : List Statement) → IsWellFormed c → FaultLaw c
fault_law c well m f t s at = go f.line refl
  where
    go : (l : Line) → f.line ≡ l → start_of l ≡ Some s
        → Detects c t f ↔ (Alters c t f s × DetectsFlip c t s)
    go (line.Stem k) on is =
        let same : k ≡ s = ap (λ o. unwrap_or o s) is in
        let n = stem_named m c f k well at on in
        let here : f.line ≡ line.Stem (signal c n.0) = on ∙ ap line.Stem (sym n.2) in
        subst (λ x. Detects c t f ↔ (Alters c t f x × DetectsFlip c t x)) (n.2 ∙ same)
        (stem_there c well t f n.0 n.1 here, λ h. stem_back c well t f n.0 n.1 here h.0 h.1)
    go (line.Pin gate pin) on is =
        let same : gate ≡ s = ap (λ o. unwrap_or o s) is in
        let e = pin_enters m c f gate pin at on in
        subst (λ x. Detects c t f ↔ (Alters c t f x × DetectsFlip c t x)) (e.1 ∙ same)
        (entered_there c well t f e.0, λ h. entered_back c well t f e.0 h.0 h.1)
    go (line.Data i) on is = let bad : None ≡ Some s = is in cc
    go (line.Out i) on is = let bad : None ≡ Some s = is in cc

pub stem_law : (c : List Statement) → IsWellFormed c → StemLaw c
stem_law c well m f t s at on = subst (λ x. Alters c t f x ↔ HasBit c t f.line (not f.stuck)) n.2
    (there_is, back_is)
  where
    n : (n : Name) × Among n (names c) × (signal c n ≡ s)
    n = stem_named m c f s well at on

    own : f.line ≡ line.Stem (signal c n.0)
    own = on ∙ ap line.Stem (sym n.2)

    named : name_of c (signal c n.0) ≡ Some n.0
    named = name_of-signal c n.0 (contained (names c) n.0 n.1)

    there_is : Alters c t f (signal c n.0) → HasBit c t f.line (not f.stuck)
    there_is a =
        let turned = altered c well t f n.0 a.fault_free a.faulty n.1 a a.solves a.solves_faulty in
        let stuck = stem_stuck c well t f a.faulty n.0 a.solves_faulty n.1 own in (
          a.fault_free,
          n.0,
          a.solves,
          ap (name_on c) own ∙ named,
          not_back (a.faulty n.0) (a.fault_free n.0) turned ∙ ap not stuck,
        )

    back_is : HasBit c t f.line (not f.stuck) → Alters c t f (signal c n.0)
    back_is h =
        let w = has_solutions c well t (Some f) in
        let bit = bit_is c well t n.0 (not f.stuck) h.0 n.1
        (subst (λ l. HasBit c t l (not f.stuck)) own h) h.2 in
        record {
          fault_free = h.0;
          faulty = w.0;
          name = n.0;
          solves = h.2;
          solves_faulty = w.1;
          named = named;
          differs = λ is. not_itself f.stuck (sym (stem_stuck c well t f w.0 n.0 w.1 n.1 own)
              ∙ (sym is ∙ bit));
        }

-- ---- a fault at an observer
-- the line of an observer carries the name that it observes
observer_carries : (c : List Statement) (o : Sink × Name) → Contains (observers c) o
    → name_on c (branch o.0) ≡ Some o.1
observer_carries c o at = go (among_append
    (map (λ at. (sink.Out at.0, at.1)) (enumerate_from 0 (outputs c)))
    (map (λ at. (sink.Data at.0, at.1.1)) (enumerate_from 0 (cells c))) o
    (among (observers c) o at))
  where
    go : Among o (map (λ at. (sink.Out at.0, at.1)) (enumerate_from 0 (outputs c)))
        ⊎ Among o (map (λ at. (sink.Data at.0, at.1.1)) (enumerate_from 0 (cells c)))
        → name_on c (branch o.0) ≡ Some o.1
    go (inl h) =
        let p = mapped_from (λ at. (sink.Out at.0, at.1)) (enumerate_from 0 (outputs c)) o h in
        subst (λ (x : Sink × Name). name_on c (branch x.0) ≡ Some x.1) p.2
        (numbered_at (outputs c) p.0 p.1)
    go (inr h) =
        let p = mapped_from (λ at. (sink.Data at.0, at.1.1)) (enumerate_from 0 (cells c)) o h in
        subst (λ (x : Sink × Name). name_on c (branch x.0) ≡ Some x.1) p.2
        (ap (option_map (λ qd. qd.1)) (numbered_at (cells c) p.0 p.1))

module _ (c : List Statement) (well : IsWellFormed c) (f : Fault) (t : Test)
    (is : start_of f.line ≡ None) where
  free : (s : ℕ) → IsFree (Some f) s
  free s = (
    λ e. (let bad : Some s ≡ None = sym (ap start_of e) ∙ is in cc),
    λ pin e. (let bad : Some s ≡ None = sym (ap start_of e) ∙ is in cc),
  )

  same_all : (u v : Name → Bool) → Solves c t None u → Solves c t (Some f) v → (m : Name)
      → Among m (names c) → v m ≡ u m
  same_all u v p q m a = same_where c t (Some f) None v u well q p (λ x. Unit {0})
      (λ x b h. inr (free (signal c x), tt, λ kind args stands y z. tt)) m a tt

  observed_there : Detects c t f → HasBit c t f.line (not f.stuck)
  observed_there d = go (same_line f.line (branch d.2.0)) refl
    where
      same : d.1 d.2.1 ≡ d.0 d.2.1
      same = same_all d.0 d.1 d.3 d.4 d.2.1 (among (names c) d.2.1 (observes c d.2 well d.5).named)

      go : (b : Bool) → same_line f.line (branch d.2.0) ≡ b → HasBit c t f.line (not f.stuck)
      go true e =
          let own = same_lines f.line (branch d.2.0) e in (
            d.0,
            d.2.1,
            d.3,
            ap (name_on c) own ∙ observer_carries c d.2 d.5,
            turned_of f.stuck (d.0 d.2.1)
                (λ x. d.6 (sym x ∙ sym (under_own f (branch d.2.0) (d.1 d.2.1) own))),
          )
      go false e = absurd (d.6 (sym (rw e same)))

  observed_back : HasBit c t f.line (not f.stuck) → Detects c t f
  observed_back h = go f.line refl is
    where
      w : (v : Name → Bool) × Solves c t (Some f) v
      w = has_solutions c well t (Some f)

      at : (k : Sink) → f.line ≡ branch k → Contains (observers c) (k, h.1) → Detects c t f
      at k own there_is = (
        h.0,
        w.0,
        (k, h.1),
        h.2,
        w.1,
        there_is,
        λ x. not_itself f.stuck (sym (under_own f (branch k) (w.0 h.1) own) ∙ (sym x ∙ h.4)),
      )

      go : (l : Line) → f.line ≡ l → start_of l ≡ None → Detects c t f
      go (line.Stem s) on none = let bad : Some s ≡ None = none in cc
      go (line.Pin g p) on none = let bad : Some g ≡ None = none in cc
      go (line.Data i) on none = at (sink.Data i) on (data_observed c i h.1 (ap (name_on c) (sym on)
          ∙ h.3))
      go (line.Out i) on none = at (sink.Out i) on (output_observed c i h.1 (ap (name_on c) (sym on)
          ∙ h.3))

pub observer_law : (c : List Statement) → IsWellFormed c → ObserverLaw c
observer_law c well m f t at is = (observed_there c well f t is, observed_back c well f t is)
