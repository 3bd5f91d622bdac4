-- The tests that detect a complemented signal, and the tests that detect a fault by its first
-- signal.
use Rattle.std.proofs.Common.{◌≡◌, ◌<◌, ℕ, refl, sym, ◌∙◌, ap, subst, Bool, true, false, not, List}
use Rattle.std.{proofs.Common.{arith, inl, inr, ◌⊎◌, eqb-true, eq-eqb}, specs.Prelude.bytes_eq}
use Rattle.std.specs.Prelude.{◌≢◌, ◌==◌, Contains, Some, None, map, if◌then◌else◌, unwrap_or}
use Rattle.bench_net.specs.{declared.Sink.Sink, Statement.{Name, Statement, Gate}}
use Rattle.bench_net.specs.Scan.{names, inputs, cells, sources, signal, name_of, observers}
use Rattle.bench_net.specs.Circuit.{IsWellFormed}
use Rattle.bench_net.proofs.Public.{same_bytes, bytes_refl, name_of-signal}
use Rattle.bench_net.specs.declared.Sink.TheVariants as sink
use Rattle.list_lemmas.proofs.Members.{Among, among, contained, among_left, among_right}
use Rattle.list_lemmas.proofs.Places.{placed}
use Rattle.fault_model.specs.{declared.Line.Line, declared.Model.Model, Detection.HasBit}
use Rattle.fault_model.specs.Fault.{Fault, branch, branches, faults, same_line}
use Rattle.fault_model.specs.Solution.{Test, Solves, Detects, value, under, shows}
use Rattle.fault_model.proofs.Public.{Driven, IsOn, agree, branch_among, defined_among, driven}
use Rattle.fault_model.proofs.Public.{has_solutions, listed_on, observes, pin_reads, signal_apart}
use Rattle.fault_model.proofs.Public.{under_other, under_own}
use Rattle.fault_model.specs.declared.Line.TheVariants as line
use Rattle.flat_circuit.specs.Regions.{IsReadBy}
use Rattle.block_sim.specs.Flips.{Alters, DetectsFlip, flip, complemented_at}
use Rattle.block_sim.proofs.EnteredGates.{Enters, Follows, IsFree, IsOnlyFor, arg_named, free_pins}
use Rattle.block_sim.proofs.EnteredGates.{free_stem, gate_named, map_alike, outside, same_where}
use Rattle.block_sim.proofs.EnteredGates.{shows_alike}

-- two bits are equal, or the second is the complement of the first
pub alike_or_turned : (a b : Bool) → (a ≡ b) ⊎ (b ≡ not a)
alike_or_turned true true = inl refl
alike_or_turned true false = inr refl
alike_or_turned false true = inr refl
alike_or_turned false false = inl refl

pub turned_of : (a b : Bool) → a ≢ b → b ≡ not a
turned_of true true ne = absurd (ne refl)
turned_of true false ne = refl
turned_of false true ne = refl
turned_of false false ne = absurd (ne refl)

pub not_itself : (a : Bool) → a ≢ not a
not_itself true e = cc
not_itself false e = cc

pub not_back : (a b : Bool) → a ≡ not b → b ≡ not a
not_back true true e = cc
not_back true false e = refl
not_back false true e = refl
not_back false false e = cc

-- ---- the effect of a fault depends on its line and its bit
pub under_alike : (f g : Fault) (l : Line) (b : Bool) → f.line ≡ g.line → f.stuck ≡ g.stuck
    → under (Some f) l b ≡ under (Some g) l b
under_alike f g l b on stuck = ap (λ x. if same_line x l then f.stuck else b) on
    ∙ ap (λ x. if same_line g.line l then x else b) stuck

pub solves_alike : (c : List Statement) (t : Test) (f g : Fault) (v : Name → Bool) → f.line ≡ g.line
    → f.stuck ≡ g.stuck → Solves c t (Some f) v → Solves c t (Some g) v
solves_alike c t f g v on stuck p =
    let other : Solves c t (Some (record { model = g.model; line = f.line; stuck = f.stuck })) v =
    record { source = p.source; gate = p.gate } in
    let there : Solves c t (Some (record { model = g.model; line = g.line; stuck = f.stuck })) v =
    subst (λ (l : Line). Solves c t
    (Some (record { model = g.model; line = l; stuck = f.stuck })) v) on other in
    subst (λ (b : Bool). Solves c t (Some (record { model = g.model; line = g.line; stuck = b })) v)
    stuck there

pub detects_alike : (c : List Statement) (t : Test) (f g : Fault) → f.line ≡ g.line
    → f.stuck ≡ g.stuck → Detects c t f → Detects c t g
detects_alike c t f g on stuck d = (
  d.0,
  d.1,
  d.2,
  d.3,
  solves_alike c t f g d.1 on stuck d.4,
  d.5,
  λ e. d.6 (e ∙ sym (under_alike f g (branch d.2.0) (d.1 d.2.1) on stuck)),
)

module _ (c : List Statement) (well : IsWellFormed c) where
  pub stem_stuck : (t : Test) (f : Fault) (v : Name → Bool) (n : Name) → Solves c t (Some f) v
      → Among n (names c) → f.line ≡ line.Stem (signal c n) → v n ≡ f.stuck
  stem_stuck t f v n p a own = go (driven c n a)
    where
      by_source : Among n (sources c) → v n ≡ f.stuck
      by_source h = let at = placed (sources c) n h in
          p.source at.0 n at.1 ∙ under_own f (line.Stem (signal c n)) _ own

      go : Driven c n → v n ≡ f.stuck
      go (inl h) = by_source (among_left (inputs c) (map (λ cell. cell.0) (cells c)) n h)
      go (inr (inl h)) = by_source (among_right (inputs c) (map (λ cell. cell.0) (cells c)) n h)
      go (inr (inr h)) = p.gate n h.0 h.1 (contained c (Gate n h.0 h.1) h.2)
          ∙ under_own f (line.Stem (signal c n)) _ own

  named : (n : Name) → Among n (names c) → name_of c (signal c n) ≡ Some n
  named n a = name_of-signal c n (contained (names c) n a)

  one_name : (m n : Name) → Among n (names c) → name_of c (signal c n) ≡ Some m → m ≡ n
  one_name m n a e = ap (λ o. unwrap_or o n) (sym e ∙ named n a)

  pub bit_is : (t : Test) (n : Name) (b : Bool) (u : Name → Bool) → Among n (names c)
      → HasBit c t (line.Stem (signal c n)) b → Solves c t None u → u n ≡ b
  bit_is t n b u a h p = agree c t None u h.0 well p h.2 n (contained (names c) n a)
      ∙ (ap h.0 (sym (one_name h.1 n a h.3)) ∙ h.4)

  pub altered : (t : Test) (f : Fault) (n : Name) (u v : Name → Bool) → Among n (names c)
      → Alters c t f (signal c n) → Solves c t None u → Solves c t (Some f) v → v n ≡ not (u n)
  altered t f n u v a h p q =
      let is = one_name h.name n a h.named in
      let at = contained (names c) n a in
      agree c t (Some f) v h.faulty well q h.solves_faulty n at ∙ (ap h.faulty (sym is)
      ∙ (turned_of (h.fault_free h.name) (h.faulty h.name) h.differs
      ∙ ap not (ap h.fault_free is ∙ agree c t None h.fault_free u well h.solves p n at)))

  flip_free : (n : Name) (b : Bool) (m : Name) → Among n (names c) → Among m (names c) → m ≢ n
      → IsFree (Some (flip (signal c n) b)) (signal c m)
  flip_free n b m at a other = (
    λ e. (let stems : line.Stem (signal c n) ≡ line.Stem (signal c m) = e in
        let number : signal c n ≡ signal c m = cc in
        other (one_name m n at (rw number (named m a)))),
    λ pin e. (let stems : line.Stem (signal c n) ≡ line.Pin (signal c m) pin = e in cc),
  )

  flip_off : (s : ℕ) (b : Bool) (o : Sink × Name) → Contains (observers c) o → (x : Bool)
      → under (Some (flip s b)) (branch o.0) x ≡ x
  flip_off s b o there x = under_other (flip s b) (branch o.0) x
      ((observes c o well there).no_stem s)

  -- ---- a fault on a line that only one pin reads
  module _ (t : Test) (f : Fault) (e : Enters c f.line) where
    gate_is : Among e.name (names c)
    gate_is = gate_named c well f.line e

    pub entered_there : Detects c t f → Alters c t f (signal c e.name)
        × DetectsFlip c t (signal c e.name)
    entered_there d = go (alike_or_turned (d.0 e.name) (d.1 e.name))
      where
        go : (d.0 e.name ≡ d.1 e.name) ⊎ (d.1 e.name ≡ not (d.0 e.name))
            → Alters c t f (signal c e.name) × DetectsFlip c t (signal c e.name)
        go (inl same) =
            absurd (d.6 (sym (shows_alike c t f None d.1 d.0 well e d.4 d.3 (λ m a ne. tt) d.2 d.5
            (sym same) (λ b. refl))))
        go (inr turned) =
            let h = flip (signal c e.name) (d.0 e.name) in
            let w = has_solutions c well t (Some h) in
            let same : d.1 e.name ≡ w.0 e.name = turned
            ∙ sym (stem_stuck t h w.0 e.name w.1 gate_is refl) in
            let shown : shows (Some f) d.1 d.2 ≡ shows (Some h) w.0 d.2 =
            shows_alike c t f (Some h) d.1 w.0 well e d.4 w.1
            (λ m a ne. flip_free e.name (d.0 e.name) m gate_is a ne) d.2 d.5 same
            (flip_off (signal c e.name) (d.0 e.name) d.2 d.5) in
            let alters : Alters c t f (signal c e.name) = record {
              fault_free = d.0;
              faulty = d.1;
              name = e.name;
              solves = d.3;
              solves_faulty = d.4;
              named = named e.name gate_is;
              differs = λ is. not_itself (d.0 e.name) (is ∙ turned);
            } in (
              alters,
              (
                d.0 e.name,
                (d.0, e.name, d.3, named e.name gate_is, refl),
                (d.0, w.0, d.2, d.3, w.1, d.5, λ is. d.6 (is ∙ sym shown)),
              ),
            )

    pub entered_back : Alters c t f (signal c e.name) → DetectsFlip c t (signal c e.name)
        → Detects c t f
    entered_back h d =
        let b = d.0 in
        let g = flip (signal c e.name) b in
        let u = d.2.0 in
        let w = d.2.1 in
        let same : h.faulty e.name ≡ w e.name =
        altered t f e.name u h.faulty gate_is h d.2.3 h.solves_faulty
        ∙ (ap not (bit_is t e.name b u gate_is d.1 d.2.3)
        ∙ sym (stem_stuck t g w e.name d.2.4 gate_is refl)) in
        let shown : shows (Some f) h.faulty d.2.2 ≡ shows (Some g) w d.2.2 =
        shows_alike c t f (Some g) h.faulty w well e h.solves_faulty d.2.4
        (λ m a ne. flip_free e.name b m gate_is a ne) d.2.2 d.2.5 same
        (flip_off (signal c e.name) b d.2.2 d.2.5) in
        (u, h.faulty, d.2.2, d.2.3, h.solves_faulty, d.2.5, λ is. d.2.6 (is ∙ shown))

  -- ---- a fault on the stem of a name
  module _ (t : Test) (f : Fault) (n : Name) (a : Among n (names c))
      (on : f.line ≡ line.Stem (signal c n)) where
    pub stem_there : Detects c t f → Alters c t f (signal c n) × DetectsFlip c t (signal c n)
    stem_there d = go (alike_or_turned (d.0 n) (d.1 n))
      where
        step : d.1 n ≡ d.0 n → (m : Name) → Among m (names c) → Unit {0}
            → Follows c t (Some f) None d.1 d.0 well d.4 d.3 (λ m. Unit {0}) m
        step same m b h = by (bytes_eq m n) refl
          where
            by : (x : Bool) → bytes_eq m n ≡ x
                → Follows c t (Some f) None d.1 d.0 well d.4 d.3 (λ m. Unit {0}) m
            by true is = let one = same_bytes m n is in inl (ap d.1 one ∙ (same ∙ ap d.0 (sym one)))
            by false is = inr (
              (
                λ e. (let stems : line.Stem (signal c n) ≡ line.Stem (signal c m) = sym on ∙ e in
                    let number : signal c n ≡ signal c m = cc in
                    other (one_name m n a (rw number (named m b)))),
                λ pin e. (let stems : line.Stem (signal c n) ≡ line.Pin (signal c m) pin = sym on
                    ∙ e in cc),
              ),
              tt,
              λ kind args stands x y. tt,
            )
              where
                other : m ≢ n
                other same = let yes : bytes_eq m n ≡ true = rw (← same) (bytes_refl m) in
                    let bad : true ≡ false = sym yes ∙ is in cc

        go : (d.0 n ≡ d.1 n) ⊎ (d.1 n ≡ not (d.0 n)) → Alters c t f (signal c n)
            × DetectsFlip c t (signal c n)
        go (inl same) =
            let h = observes c d.2 well d.5 in
            let there : d.1 d.2.1 ≡ d.0 d.2.1 = same_where c t (Some f) None d.1 d.0 well d.4 d.3
            (λ m. Unit {0}) (step (sym same)) d.2.1 (among (names c) d.2.1 h.named) tt in
            let shown : shows (Some f) d.1 d.2 ≡ d.0 d.2.1 =
            under_other f (branch d.2.0) (d.1 d.2.1) (λ e. h.no_stem (signal c n) (sym on ∙ e))
            ∙ there in
            absurd (d.6 (sym shown))
        go (inr turned) =
            let stuck : f.stuck ≡ not (d.0 n) = sym (stem_stuck t f d.1 n d.4 a on) ∙ turned in
            let alters : Alters c t f (signal c n) = record {
              fault_free = d.0;
              faulty = d.1;
              name = n;
              solves = d.3;
              solves_faulty = d.4;
              named = named n a;
              differs = λ is. not_itself (d.0 n) (is ∙ turned);
            } in (
              alters,
              (
                d.0 n,
                (d.0, n, d.3, named n a, refl),
                detects_alike c t f (flip (signal c n) (d.0 n)) on stuck d,
              ),
            )

    pub stem_back : Alters c t f (signal c n) → DetectsFlip c t (signal c n) → Detects c t f
    stem_back h d =
        let u = d.2.0 in
        let stuck : not d.0 ≡ f.stuck = ap not (sym (bit_is t n d.0 u a d.1 d.2.3))
        ∙ (sym (altered t f n u h.faulty a h d.2.3 h.solves_faulty)
        ∙ stem_stuck t f h.faulty n h.solves_faulty a on) in
        detects_alike c t (flip (signal c n) d.0) f (sym on) stuck d.2

-- ---- the lines by which a fault enters a gate
pub pin_enters : (m : Model) (c : List Statement) (f : Fault) (gate pin : ℕ)
    → Contains (faults m c) f → f.line ≡ line.Pin gate pin
    → (e : Enters c f.line) × (signal c e.name ≡ gate)
pin_enters m c f gate pin at on = let p = listed_on m c f at in go p.0 p.1 p.3
  where
    by_branch : (n : Name) (k : Sink) → Among k (branches c n) → line.Pin gate pin ≡ branch k
        → (e : Enters c f.line) × (signal c e.name ≡ gate)
    by_branch n (sink.Data i) a e = cc
    by_branch n (sink.Out i) a e = cc
    by_branch n (sink.Pin h j) a e =
        let lines : line.Pin gate pin ≡ line.Pin h j = e in
        let r = pin_reads c n h j (branch_among c n (sink.Pin h j) a) in
        let gates : h ≡ gate = cc in
        let pins : h ≡ signal c r.name = sym r.number in
        let enters : Enters c f.line = record {
          name = r.name;
          kind = r.kind;
          args = r.args;
          stands = r.stands;
          on = inr (j, on ∙ (e ∙ ap (λ x. line.Pin x j) pins));
        } in
        (enters, r.number ∙ gates)

    go : (s : ℕ) (n : Name) → IsOn c s n f.line → (e : Enters c f.line) × (signal c e.name ≡ gate)
    go s n (inl stem) = let bad : line.Pin gate pin ≡ line.Stem s = sym on ∙ stem in cc
    go s n (inr b) = by_branch n b.0 b.1 (sym on ∙ b.2)

-- only one gate reads the signal, and reads it by this name
pub record StemEnters (c : List Statement) (g s : ℕ) : Type 0 where
  pub enters : Enters c (line.Stem s)
  pub number : signal c enters.name ≡ g
  pub read : Name
  pub of : signal c read ≡ s
  pub reads : Among read enters.args

pub stem_enters : (c : List Statement) (g s : ℕ) → IsWellFormed c → IsReadBy c g s
    → StemEnters c g s
stem_enters c g s well h =
    let r = h.reads in
    let stands : Among (Gate r.name r.kind r.args) c = among c (Gate r.name r.kind r.args) r.gate in
    let reads : Among r.read r.args = among r.args r.read r.reads in
    let only : IsOnlyFor c r.name r.args r.read = record {
      reads = reads;
      alone = λ x kind others at a. signal_apart c x r.name (contained (names c) x
          (defined_among c (Gate x kind others) x at refl))
          (contained (names c) r.name (defined_among c (Gate r.name r.kind r.args) r.name stands
          refl)) (h.alone (signal c x) (record {
            name = x;
            kind = kind;
            args = others;
            read = r.read;
            gate = contained c (Gate x kind others) at;
            number = refl;
            reads = contained others r.read a;
            of = r.of;
          }) ∙ sym r.number);
      unobserved = λ o there is. h.unobserved (o, there, ap (signal c) is ∙ r.of);
    } in
    record {
      enters = record {
        name = r.name;
        kind = r.kind;
        args = r.args;
        stands = stands;
        on = inl (r.read, ap line.Stem (sym r.of), only);
      };
      number = r.number;
      read = r.read;
      of = r.of;
      reads = reads;
    }

-- ---- the changes that a gate passes on
module _ (c : List Statement) (well : IsWellFormed c) (t : Test) (s : ℕ)
    (e : Enters c (line.Stem s)) (read : Name) (of : signal c read ≡ s) (reads : Among read e.args)
  where
    rises : (a : Name) → Among a e.args → well.acyclic.0 a < well.acyclic.0 e.name
    rises a h = well.acyclic.1 e.name a (
      e.kind,
      e.args,
      contained c (Gate e.name e.kind e.args) e.stands,
      contained e.args a h,
    )

    module _ (u v : Name → Bool) (b : Bool) (p : Solves c t None u)
        (q : Solves c t (Some (flip s b)) v) (is : u read ≡ b) where
      -- the gate's arguments are as without the fault, except for the complemented signal
      arg_turned : (a : Name) → Among a e.args → v a ≡ complemented_at c s u a
      arg_turned a h = go (signal c a == s) refl
        where
          here : Among a (names c)
          here = arg_named c well (line.Stem s) e a h

          go : (x : Bool) → (signal c a == s) ≡ x → v a ≡ (if x then not (u a) else u a)
          go true same =
              let number : signal c a ≡ s = eqb-true (signal c a) s same in
              let one : a ≡ read = signal_apart c a read (contained (names c) a here)
              (contained (names c) read (arg_named c well (line.Stem s) e read reads)) (number
              ∙ sym of) in
              stem_stuck c well t (flip s b) v a q here (ap line.Stem (sym number))
              ∙ ap not (sym is ∙ ap u (sym one))
          go false other =
              let low = rises a h in
              outside c t (flip s b) None v u well e q p (λ m x ne. tt) a here
              (λ stems. (let h : line.Stem s ≡ line.Stem (signal c a) = stems in
              let number : signal c a ≡ s = cc in let yes = eq-eqb (signal c a) s number in
              let bad : true ≡ false = sym yes ∙ other in cc)) (inl low)

      pub gate_turned : v e.name ≡ value e.kind (map (complemented_at c s u) e.args)
      gate_turned =
          let off : IsFree (Some (flip s b)) (signal c e.name) = (
            λ stems. (let h : line.Stem s ≡ line.Stem (signal c e.name) = stems in
                let number : signal c read ≡ signal c e.name = of ∙ cc in
                let one : read ≡ e.name = signal_apart c read e.name
                (contained (names c) read (arg_named c well (line.Stem s) e read reads))
                (contained (names c) e.name (gate_named c well (line.Stem s) e)) number in
                let same = ap well.acyclic.0 one in let low = rises read reads in
                absurd (omega (arith, low, same))),
            λ pin pins. (let h : line.Stem s ≡ line.Pin (signal c e.name) pin = pins in cc),
          ) in
          q.gate e.name e.kind e.args (contained c (Gate e.name e.kind e.args) e.stands)
          ∙ (free_stem (Some (flip s b)) (signal c e.name) _ off
          ∙ ap (value e.kind) (free_pins (Some (flip s b)) v (signal c e.name) 0 e.args off
          ∙ map_alike v (complemented_at c s u) e.args arg_turned))
