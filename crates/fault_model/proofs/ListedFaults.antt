-- The faults of the list, and their next faults.
use Rattle.std.proofs.Common.{◌≡◌, ℕ, refl, sym, ◌∙◌, ap, subst, Bool, true, false, List, [], ◌∷◌}
use Rattle.std.{proofs.Common.{inl, inr, ◌⊎◌, eqb-true, eq-eqb}, specs.Option.option_map_or}
use Rattle.std.specs.Prelude.{Contains, Option, Some, None, slice_get, flat_map, length, nat_le}
use Rattle.std.specs.Prelude.{unwrap_or, ◌≢◌, option_map, option_and_then, ◌==◌}
use Rattle.std.{specs.List.enumerate_from, proofs.lemmas.Bool.and_parts}
use Rattle.bench_net.specs.{declared.Kind.Kind, declared.Sink.Sink, Circuit.IsWellFormed}
use Rattle.bench_net.specs.Statement.{Name, Statement, Gate}
use Rattle.bench_net.specs.Scan.{names, signal, name_of, sinks, gate_line}
use Rattle.bench_net.proofs.Public.{name_of-signal, signal-name_of}
use Rattle.bench_net.specs.declared.Sink.TheVariants as sink
use Rattle.list_lemmas.proofs.Members.{Among, among, contained, among_append, among_left}
use Rattle.list_lemmas.proofs.Members.{among_joined, among_right, joined_from}
use Rattle.list_lemmas.proofs.Places.{among_numbered, numbered_at, at_place}
use Rattle.fault_model.proofs.SignalsDefined.{definition-signal, defined_among}
use Rattle.fault_model.{proofs.SignalsSinks.{PinReads, pin_reads}, specs.declared.Line.Line}
use Rattle.fault_model.specs.{declared.Model.Model, Solution.under}
use Rattle.fault_model.specs.Fault.{Fault, branch, branches, both, faults, faults_of, same_line}
use Rattle.fault_model.specs.Collapse.{next, next_over, next_stuck, readers, kind_of}
use Rattle.fault_model.specs.declared.Line.TheVariants as line

-- the fault of a model on a line, with a bit
abbrev pub fault_on : Model → Line → Bool → Fault
fault_on m l b = record { model = m; line = l; stuck = b }

-- the test of lines
pub same_lines : (l k : Line) → same_line l k ≡ true → l ≡ k
same_lines (line.Stem s) (line.Stem t) e = ap line.Stem (eqb-true s t e)
same_lines (line.Pin g p) (line.Pin h q) e =
    let both = and_parts (g == h) (p == q) e in
    let a : g ≡ h = eqb-true g h both.0 in
    let b : p ≡ q = eqb-true p q both.1 in
    cc
same_lines (line.Data i) (line.Data j) e = ap line.Data (eqb-true i j e)
same_lines (line.Out i) (line.Out j) e = ap line.Out (eqb-true i j e)
same_lines (line.Stem s) (line.Pin h q) e = cc
same_lines (line.Stem s) (line.Data j) e = cc
same_lines (line.Stem s) (line.Out j) e = cc
same_lines (line.Pin g p) (line.Stem t) e = cc
same_lines (line.Pin g p) (line.Data j) e = cc
same_lines (line.Pin g p) (line.Out j) e = cc
same_lines (line.Data i) (line.Stem t) e = cc
same_lines (line.Data i) (line.Pin h q) e = cc
same_lines (line.Data i) (line.Out j) e = cc
same_lines (line.Out i) (line.Stem t) e = cc
same_lines (line.Out i) (line.Pin h q) e = cc
same_lines (line.Out i) (line.Data j) e = cc

same_itself : (l : Line) → same_line l l ≡ true
same_itself (line.Stem s) = eq-eqb s s refl
same_itself (line.Pin g p) = rw (eq-eqb g g refl) (eq-eqb p p refl)
same_itself (line.Data i) = eq-eqb i i refl
same_itself (line.Out i) = eq-eqb i i refl

-- another line keeps its bit, and the fault's own is stuck
pub under_other : (f : Fault) (l : Line) (bit : Bool) → f.line ≢ l → under (Some f) l bit ≡ bit
under_other f l bit other = go (same_line f.line l) refl
  where
    go : (b : Bool) → same_line f.line l ≡ b → under (Some f) l bit ≡ bit
    go true e = absurd (other (same_lines f.line l e))
    go false e = rw e refl

pub under_own : (f : Fault) (l : Line) (bit : Bool) → f.line ≡ l → under (Some f) l bit ≡ f.stuck
under_own f l bit own = let e : same_line f.line l ≡ true = rw own (same_itself l) in rw e refl

-- a fault of the list is on the stem of a signal, or on one of its branches
abbrev pub IsOn : List Statement → ℕ → Name → Line → Type 0
IsOn c s n l = (l ≡ line.Stem s) ⊎ ((k : Sink) × Among k (branches c n) × (l ≡ branch k))

pub on_both : (m : Model) (l : Line) (f : Fault) → Among f (both m l) → f.line ≡ l
on_both m l f (inl e) = sym (ap (λ x. x.line) e)
on_both m l f (inr (inl e)) = sym (ap (λ x. x.line) e)
on_both m l f (inr (inr bad)) = absurd bad

pub listed_on : (m : Model) (c : List Statement) (f : Fault) → Contains (faults m c) f
    → (s : ℕ) × (n : Name) × (name_of c s ≡ Some n) × IsOn c s n f.line
listed_on m c f at =
    let p =
    joined_from (faults_of m c) (enumerate_from 0 (names c)) f (among (faults m c) f at) in (
      p.0.0,
      p.0.1,
      numbered_at (names c) p.0 p.1,
      go p.0 (among_append (both m (line.Stem p.0.0))
          (flat_map (λ k. both m (branch k)) (branches c p.0.1)) f p.2),
    )
  where
    go : (at : ℕ × Name) → Among f (both m (line.Stem at.0))
        ⊎ Among f (flat_map (λ k. both m (branch k)) (branches c at.1)) → IsOn c at.0 at.1 f.line
    go at (inl h) = inl (on_both m (line.Stem at.0) f h)
    go at (inr h) =
        let q = joined_from (λ k. both m (branch k)) (branches c at.1) f h in
        inr (q.0, q.1, on_both m (branch q.0) f q.2)

-- and is of the list's model
of_both : (m : Model) (l : Line) (f : Fault) → Among f (both m l) → f.model ≡ m
of_both m l f (inl e) = sym (ap (λ x. x.model) e)
of_both m l f (inr (inl e)) = sym (ap (λ x. x.model) e)
of_both m l f (inr (inr bad)) = absurd bad

pub listed_model : (m : Model) (c : List Statement) (f : Fault) → Contains (faults m c) f
    → f.model ≡ m
listed_model m c f at =
    let p = joined_from (faults_of m c) (enumerate_from 0 (names c)) f (among (faults m c) f at) in
    go p.0 (among_append (both m (line.Stem p.0.0))
    (flat_map (λ k. both m (branch k)) (branches c p.0.1)) f p.2)
  where
    go : (at : ℕ × Name) → Among f (both m (line.Stem at.0))
        ⊎ Among f (flat_map (λ k. both m (branch k)) (branches c at.1)) → f.model ≡ m
    go at (inl h) = of_both m (line.Stem at.0) f h
    go at (inr h) =
        let q = joined_from (λ k. both m (branch k)) (branches c at.1) f h in
        of_both m (branch q.0) f q.2

-- a branch is one of the sinks
pub branch_among : (c : List Statement) (n : Name) (k : Sink) → Among k (branches c n)
    → Among k (sinks c n)
branch_among c n k a = go (nat_le 2 (length (sinks c n))) refl
  where
    go : (b : Bool) → nat_le 2 (length (sinks c n)) ≡ b → Among k (sinks c n)
    go true e = rw e at a
    go false e = let none : ⊥ = rw e at a in absurd none

-- each stem fault is in the list
stem_both : (m : Model) (l : Line) (b : Bool) → Among (fault_on m l b) (both m l)
stem_both m l false = inl refl
stem_both m l true = inr (inl refl)

pub stem_listed : (m : Model) (c : List Statement) (s : ℕ) (n : Name) (b : Bool)
    → name_of c s ≡ Some n → Contains (faults m c) (fault_on m (line.Stem s) b)
stem_listed m c s n b e = contained (faults m c) (fault_on m (line.Stem s) b)
    (among_joined (faults_of m c) (enumerate_from 0 (names c)) (s, n) (fault_on m (line.Stem s) b)
    (among_numbered (names c) s n e) (among_left (both m (line.Stem s))
    (flat_map (λ k. both m (branch k)) (branches c n)) (fault_on m (line.Stem s) b)
    (stem_both m (line.Stem s) b)))

-- and so is each fault on a branch
pub branch_listed : (m : Model) (c : List Statement) (s : ℕ) (n : Name) (k : Sink) (b : Bool)
    → name_of c s ≡ Some n → Among k (branches c n)
    → Contains (faults m c) (fault_on m (branch k) b)
branch_listed m c s n k b e a =
    let there = among_joined (λ j. both m (branch j)) (branches c n) k (fault_on m (branch k) b) a
    (stem_both m (branch k) b) in
    contained (faults m c) (fault_on m (branch k) b)
    (among_joined (faults_of m c) (enumerate_from 0 (names c)) (s, n) (fault_on m (branch k) b)
    (among_numbered (names c) s n e) (among_right (both m (line.Stem s))
    (flat_map (λ j. both m (branch j)) (branches c n)) (fault_on m (branch k) b) there))

-- the one reader of a line is a gate pin that reads the name: the line is the name's stem, or the
-- pin's branch
abbrev pub IsReadBy : List Statement → Line → Name → ℕ → ℕ → Type 0
IsReadBy c l n gate pin =
    ((l ≡ line.Stem (signal c n)) × (sinks c n ≡ sink.Pin gate pin ∷ [])) ⊎ (l ≡ line.Pin gate pin)

-- the parts of a fault with a next fault
record NextParts (c : List Statement) (f g : Fault) : Type 0 where
  gate : ℕ
  pin : ℕ
  kind : Kind
  bit : Bool
  read_by : readers c f.line ≡ sink.Pin gate pin ∷ []
  has_kind : kind_of c gate ≡ Some kind
  fixes : next_stuck f.model kind f.stuck ≡ Some bit
  gives : fault_on f.model (line.Stem gate) bit ≡ g

next_parts : (c : List Statement) (f g : Fault) → next c f ≡ Some g → NextParts c f g
next_parts c f g e = go (readers c f.line) refl e
  where
    go : (rs : List Sink) → readers c f.line ≡ rs → next_over c f.model f.stuck rs ≡ Some g
        → NextParts c f g
    go [] at e = let bad : None ≡ Some g = e in cc
    go (sink.Data i ∷ rs) at e = let bad : None ≡ Some g = e in cc
    go (sink.Out i ∷ rs) at e = let bad : None ≡ Some g = e in cc
    go (sink.Pin gate pin ∷ r ∷ rs) at e = let bad : None ≡ Some g = e in cc
    go (sink.Pin gate pin ∷ []) at e = by_kind (kind_of c gate) refl e
      where
        by_kind : (k : Option Kind) → kind_of c gate ≡ k
            → option_map (λ b. fault_on f.model (line.Stem gate) b)
            (option_and_then (λ kind. next_stuck f.model kind f.stuck) k) ≡ Some g → NextParts c f g
        by_kind None has e = let bad : None ≡ Some g = e in cc
        by_kind (Some kind) has e = by_bit (next_stuck f.model kind f.stuck) refl e
          where
            by_bit : (b : Option Bool) → next_stuck f.model kind f.stuck ≡ b
                → option_map (λ b. fault_on f.model (line.Stem gate) b) b ≡ Some g → NextParts c f g
            by_bit None is e = let bad : None ≡ Some g = e in cc
            by_bit (Some bit) is e = record {
              gate = gate;
              pin = pin;
              kind = kind;
              bit = bit;
              read_by = at;
              has_kind = has;
              fixes = is;
              gives = ap (λ o. unwrap_or o g) e;
            }

-- a next fault is on a stem
pub next_on_stem : (c : List Statement) (f g : Fault) → next c f ≡ Some g
    → (s : ℕ) × (b : Bool) × (fault_on f.model (line.Stem s) b ≡ g)
next_on_stem c f g e = let p = next_parts c f g e in (p.gate, p.bit, p.gives)

-- One step from a fault of the list to its next fault: a pin of a gate reads a name, and that pin
-- is
-- the one reader of the fault's line.
pub record Step (c : List Statement) (f g : Fault) : Type 0 where
  pub name : Name
  pub kind : Kind
  pub args : List Name
  pub pin : ℕ
  pub read : Name
  pub bit : Bool
  pub stands : Among (Gate name kind args) c
  pub reads : slice_get args pin ≡ Some read
  pub fixes : next_stuck f.model kind f.stuck ≡ Some bit
  pub gives : fault_on f.model (line.Stem (signal c name)) bit ≡ g
  pub on : IsReadBy c f.line read (signal c name) pin

-- the kind of a gate that stands in the list
kind_stands : (c : List Statement) (n : Name) (kind : Kind) (args : List Name) → IsWellFormed c
    → Among (Gate n kind args) c → kind_of c (signal c n) ≡ Some kind
kind_stands c n kind args well a = ap (λ o. option_map (λ g. g.0) (gate_line c o))
    (definition-signal c (Gate n kind args) n well (contained c (Gate n kind args) a) refl)

step_with : (c : List Statement) (f g : Fault) (n : Name) → IsWellFormed c → (p : NextParts c f g)
    → PinReads c n p.gate p.pin → IsReadBy c f.line n p.gate p.pin → Step c f g
step_with c f g n well p r on = record {
  name = r.name;
  kind = r.kind;
  args = r.args;
  pin = p.pin;
  read = n;
  bit = p.bit;
  stands = r.stands;
  reads = r.reads;
  fixes = subst (λ k. next_stuck f.model k f.stuck ≡ Some p.bit) kinds p.fixes;
  gives = subst (λ s. fault_on f.model (line.Stem s) p.bit ≡ g) (sym r.number) p.gives;
  on = subst (λ s. IsReadBy c f.line n s p.pin) (sym r.number) on;
}
  where
    kinds : p.kind ≡ r.kind
    kinds =
        let same : Some p.kind ≡ Some r.kind = sym p.has_kind
        ∙ (ap (kind_of c) (sym r.number) ∙ kind_stands c r.name r.kind r.args well r.stands) in
        ap (λ o. unwrap_or o r.kind) same

-- the one reader of a line that is a gate pin is that pin, and the line is its branch
pub branch_read : (c : List Statement) (k : Sink) (gate pin : ℕ)
    → readers c (branch k) ≡ sink.Pin gate pin ∷ [] → k ≡ sink.Pin gate pin
branch_read c (sink.Pin g p) gate pin e =
    let h : sink.Pin g p ∷ [] ≡ sink.Pin gate pin ∷ [] = e in cc
branch_read c (sink.Data i) gate pin e = let h : sink.Data i ∷ [] ≡ sink.Pin gate pin ∷ [] = e in cc
branch_read c (sink.Out i) gate pin e = let h : sink.Out i ∷ [] ≡ sink.Pin gate pin ∷ [] = e in cc

pub step_of : (m : Model) (c : List Statement) (f g : Fault) → IsWellFormed c
    → Contains (faults m c) f → next c f ≡ Some g → Step c f g
step_of m c f g well at e = let q = listed_on m c f at in go q.0 q.1 q.2 q.3 (next_parts c f g e)
  where
    go : (s : ℕ) (n : Name) → name_of c s ≡ Some n → IsOn c s n f.line → NextParts c f g
        → Step c f g
    go s n named (inl on) p =
        let number : signal c n ≡ s = signal-name_of c s n well.once named
        (contained (names c) n (at_place (names c) s n named)) in
        let read : option_map_or (sinks c) (name_of c s) [] ≡ sink.Pin p.gate p.pin ∷ [] =
        rw on at p.read_by in
        let only : sinks c n ≡ sink.Pin p.gate p.pin ∷ [] =
        sym (ap (λ o. option_map_or (sinks c) o []) named) ∙ read in
        let there : Among (sink.Pin p.gate p.pin) (sinks c n) = rw only (inl refl) in
        step_with c f g n well p (pin_reads c n p.gate p.pin there)
        (inl (on ∙ ap line.Stem (sym number), only))
    go s n named (inr b) p =
        let own : b.0 ≡ sink.Pin p.gate p.pin = branch_read c b.0 p.gate p.pin
        (subst (λ l. readers c l ≡ sink.Pin p.gate p.pin ∷ []) b.2 p.read_by) in
        let there : Among (sink.Pin p.gate p.pin) (sinks c n) =
        subst (λ k. Among k (sinks c n)) own (branch_among c n b.0 b.1) in
        step_with c f g n well p (pin_reads c n p.gate p.pin there) (inr (b.2 ∙ ap branch own))

-- so the next fault is in the list
pub next_listed : (m : Model) (c : List Statement) (f g : Fault) → IsWellFormed c
    → Contains (faults m c) f → next c f ≡ Some g → Contains (faults m c) g
next_listed m c f g well at e =
    let s = step_of m c f g well at e in
    subst (λ x. Contains (faults x c) g) (listed_model m c f at)
    (subst (Contains (faults f.model c)) s.gives (stem_listed f.model c (signal c s.name) s.name
    s.bit (name_of-signal c s.name (gate_defined s))))
  where
    gate_defined : (s : Step c f g) → Contains (names c) s.name
    gate_defined s = contained (names c) s.name
        (defined_among c (Gate s.name s.kind s.args) s.name s.stands refl)
