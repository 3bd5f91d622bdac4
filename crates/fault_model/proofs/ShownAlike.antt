-- A fault and its next fault show the same to every observer under every test.
use Rattle.std.proofs.Common.{◌≡◌, ◌<◌, ℕ, zero, suc, ◌+◌, refl, sym, ◌∙◌, ap, subst, Bool, true}
use Rattle.std.proofs.Common.{false, not, ◌||◌, List, [], ◌∷◌, length, arith, inl, inr, ◌⊎◌}
use Rattle.std.specs.Prelude.{Contains, Option, Some, None, slice_get, map, unwrap_or, ◌≢◌}
use Rattle.std.specs.{Prelude.bytes_eq, List.{enumerate_from, list_all, list_any}}
use Rattle.bench_net.specs.declared.Kind.{Kind, TheVariants.{And, Nand, Or, Nor, Not, Buff}}
use Rattle.bench_net.specs.{declared.Sink.Sink, Statement.{Name, Statement, Output, Gate, Dff}}
use Rattle.bench_net.specs.{Reading.HasArity, Scan.{sinks, observers}}
use Rattle.bench_net.specs.Scan.{names, signal, definition, inputs, cell, cells, outputs, sources}
use Rattle.bench_net.specs.Circuit.{IsWellFormed, HaveArities}
use Rattle.bench_net.proofs.Public.{same_bytes, bytes_refl, read_named}
use Rattle.bench_net.specs.declared.Sink.TheVariants as sink
use Rattle.list_lemmas.proofs.Members.{Among, among, contained, among_left, among_right}
use Rattle.list_lemmas.proofs.Members.{among_append, among_map, mapped_from}
use Rattle.list_lemmas.proofs.Places.{placed, at_place, among_numbered, numbered_at}
use Rattle.fault_model.proofs.SignalsDefined.{signal_apart, source_definition, IsSource}
use Rattle.fault_model.proofs.SignalsDefined.{definition-signal, defined_among, output_in, cell_in}
use Rattle.fault_model.proofs.SignalsSinks.{pin_among, out_among, data_among}
use Rattle.fault_model.specs.declared.Model.{Model, TheVariants.StuckAt}
use Rattle.fault_model.specs.{Fault.{Fault, faults, branch}, Collapse.{next, next_stuck}}
use Rattle.fault_model.specs.Solution.{Test, Solves, value, sees, pins_see, shows, ShowSame}
use Rattle.fault_model.proofs.OneSolution.{Driven, driven}
use Rattle.fault_model.proofs.ListedFaults.{IsReadBy, under_other, under_own, Step, step_of}
use Rattle.fault_model.proofs.NextFaultChains.{read_below, read_defined, gate_defined}
use Rattle.fault_model.specs.declared.Line.TheVariants as line

-- one 0 makes a conjunction 0, and one 1 a disjunction 1
all_with_false : (bits : List Bool) → Among false bits → list_all (λ b. b) bits ≡ false
all_with_false [] a = absurd a
all_with_false (b ∷ bits) (inl e) = rw e refl
all_with_false (true ∷ bits) (inr a) = all_with_false bits a
all_with_false (false ∷ bits) (inr a) = refl

any_with_true : (bits : List Bool) → Among true bits → list_any (λ b. b) bits ≡ true
any_with_true [] a = absurd a
any_with_true (b ∷ bits) (inl e) = rw e refl
any_with_true (true ∷ bits) (inr a) = refl
any_with_true (false ∷ bits) (inr a) = any_with_true bits a

pub only_one : (bits : List Bool) (a : Bool) → length bits ≡ 1 → Among a bits
    → list_any (λ b. b) bits ≡ a
only_one [] a one h = absurd h
only_one (b ∷ []) a one (inl e) = go b e
  where
    go : (x : Bool) → x ≡ a → (x || false) ≡ a
    go true e = e
    go false e = e
only_one (b ∷ []) a one (inr h) = absurd h
only_one (b ∷ d ∷ bits) a one h = absurd (omega (arith, one))

-- a pin at this bit fixes the output, by the table
fixed : (m : Model) (kind : Kind) (a b : Bool) (args : List Name) (bits : List Bool)
    → next_stuck m kind a ≡ Some b → HasArity kind args → length bits ≡ length args → Among a bits
    → value kind bits ≡ b
fixed StuckAt And false b args bits e arity len h =
    all_with_false bits h ∙ ap (λ o. unwrap_or o b) e
fixed StuckAt Nand false b args bits e arity len h =
    ap not (all_with_false bits h) ∙ ap (λ o. unwrap_or o b) e
fixed StuckAt Or true b args bits e arity len h = any_with_true bits h ∙ ap (λ o. unwrap_or o b) e
fixed StuckAt Nor true b args bits e arity len h =
    ap not (any_with_true bits h) ∙ ap (λ o. unwrap_or o b) e
fixed m Not a b args bits e arity len h =
    ap not (only_one bits a (len ∙ arity) h) ∙ ap (λ o. unwrap_or o b) e
fixed m Buff a b args bits e arity len h =
    only_one bits a (len ∙ arity) h ∙ ap (λ o. unwrap_or o b) e
fixed m kind a b args bits e arity len h = let bad : None ≡ Some b = e in cc

-- two functions that agree on the elements of a list map it alike
pub map_agree : {X Y : Type 0} (f g : X → Y) (xs : List X) → ((x : X) → Among x xs → f x ≡ g x)
    → map f xs ≡ map g xs
map_agree f g [] same = refl
map_agree f g (x ∷ xs) same = rw (same x (inl refl), map_agree f g xs (λ y a. same y (inr a))) refl

pub length_pins : (f : Option Fault) (v : Name → Bool) (gate from : ℕ) (args : List Name)
    → length (map (λ at. sees f v (line.Pin gate at.0) at.1) (enumerate_from from args))
    ≡ length args
length_pins f v gate from [] = refl
length_pins f v gate from (a ∷ args) = ap suc (length_pins f v gate (from + 1) args)

-- an observer is no pin and a sink of the name that it observes
pub record Observes (c : List Statement) (o : Sink × Name) : Type 0 where
  pub reader : Sink
  pub among_sinks : Among reader (sinks c o.1)
  pub no_pin : (gate pin : ℕ) → reader ≢ sink.Pin gate pin
  pub no_stem : (s : ℕ) → line.Stem s ≢ branch o.0
  pub no_pin_line : (gate pin : ℕ) → line.Pin gate pin ≢ branch o.0
  pub named : Contains (names c) o.1

pub observes : (c : List Statement) (o : Sink × Name) → IsWellFormed c → Contains (observers c) o
    → Observes c o
observes c o well at =
    go (among_append (map (λ at. (sink.Out at.0, at.1)) (enumerate_from 0 (outputs c)))
    (map (λ at. (sink.Data at.0, at.1.1)) (enumerate_from 0 (cells c))) o
    (among (observers c) o at))
  where
    go : Among o (map (λ at. (sink.Out at.0, at.1)) (enumerate_from 0 (outputs c)))
        ⊎ Among o (map (λ at. (sink.Data at.0, at.1.1)) (enumerate_from 0 (cells c))) → Observes c o
    go (inl h) =
        let p = mapped_from (λ at. (sink.Out at.0, at.1)) (enumerate_from 0 (outputs c)) o h in
        let place : slice_get (outputs c) p.0.0 ≡ Some p.0.1 = numbered_at (outputs c) p.0 p.1 in
        let it : (sink.Out p.0.0, p.0.1) ≡ o = p.2 in
        let made : Observes c (sink.Out p.0.0, p.0.1) = record {
          reader = sink.Out p.0.0;
          among_sinks = out_among c p.0.1 p.0.0 place;
          no_pin = λ gate pin e. cc;
          no_stem = λ s e. cc;
          no_pin_line = λ gate pin e. cc;
          named = read_named c (Output p.0.1) p.0.1 well
              (output_in c p.0.1 (at_place (outputs c) p.0.0 p.0.1 place)) (inl refl);
        } in
        subst (Observes c) it made
    go (inr h) =
        let p = mapped_from (λ at. (sink.Data at.0, at.1.1)) (enumerate_from 0 (cells c)) o h in
        let place : slice_get (cells c) p.0.0 ≡ Some p.0.1 = numbered_at (cells c) p.0 p.1 in
        let it : (sink.Data p.0.0, p.0.1.1) ≡ o = p.2 in
        let stands : Among (Dff p.0.1.0 p.0.1.1) c =
        cell_in c p.0.1 (at_place (cells c) p.0.0 p.0.1 place) in
        let made : Observes c (sink.Data p.0.0, p.0.1.1) = record {
          reader = sink.Data (cell c p.0.1.0);
          among_sinks = data_among c p.0.1.0 p.0.1.1 stands;
          no_pin = λ gate pin e. cc;
          no_stem = λ s e. cc;
          no_pin_line = λ gate pin e. cc;
          named = read_named c (Dff p.0.1.0 p.0.1.1) p.0.1.1 well stands (inl refl);
        } in
        subst (Observes c) it made

-- a name with a stem fault has the stuck bit
stem_stuck : (c : List Statement) (t : Test) (f : Fault) (v : Name → Bool) (n : Name)
    → Solves c t (Some f) v → Among n (names c) → f.line ≡ line.Stem (signal c n) → v n ≡ f.stuck
stem_stuck c t f v n p a own = go (driven c n a)
  where
    by_source : Among n (sources c) → v n ≡ f.stuck
    by_source h =
        let at = placed (sources c) n h in
        p.source at.0 n at.1 ∙ under_own f (line.Stem (signal c n)) _ own

    go : Driven c n → v n ≡ f.stuck
    go (inl h) = by_source (among_left (inputs c) (map (λ cell. cell.0) (cells c)) n h)
    go (inr (inl h)) = by_source (among_right (inputs c) (map (λ cell. cell.0) (cells c)) n h)
    go (inr (inr h)) = p.gate n h.0 h.1 (contained c (Gate n h.0 h.1) h.2)
        ∙ under_own f (line.Stem (signal c n)) _ own

module _ (c : List Statement) (t : Test) (f g : Fault) (v w : Name → Bool) (well : IsWellFormed c)
    (arities : HaveArities c) (s : Step c f g)
    (p : Solves c t (Some f) v) (q : Solves c t (Some g) w) where
  to_line : g.line ≡ line.Stem (signal c s.name)
  to_line = sym (ap (λ x. x.line) s.gives)

  to_stuck : g.stuck ≡ s.bit
  to_stuck = sym (ap (λ x. x.stuck) s.gives)

  -- the name that the pin reads isn't the gate's
  read_apart : s.read ≢ s.name
  read_apart e =
      let lt : well.acyclic.0 s.read < well.acyclic.0 s.name = read_below c well f g s in
      let same : well.acyclic.0 s.read ≡ well.acyclic.0 s.name = ap well.acyclic.0 e in
      absurd (omega (arith, lt, same))

  apart : (m n : Name) → Among m (names c) → Among n (names c) → m ≢ n → signal c m ≢ signal c n
  apart m n a b other e =
      other (signal_apart c m n (contained (names c) m a) (contained (names c) n b) e)

  -- the stem of the gate isn't the fault's line
  gate_free : f.line ≢ line.Stem (signal c s.name)
  gate_free e = go s.on
    where
      go : IsReadBy c f.line s.read (signal c s.name) s.pin → ⊥
      go (inl on) =
          let h : line.Stem (signal c s.read) ≡ line.Stem (signal c s.name) = sym on.0 ∙ e in
          let k : signal c s.read ≡ signal c s.name = cc in
          apart s.read s.name (read_defined c well f g s) (gate_defined c well f g s) read_apart k
      go (inr on) =
          let h : line.Pin (signal c s.name) s.pin ≡ line.Stem (signal c s.name) = sym on ∙ e in cc

  -- the pin sees the stuck bit
  pin_stuck : sees (Some f) v (line.Pin (signal c s.name) s.pin) s.read ≡ f.stuck
  pin_stuck = go s.on
    where
      go : IsReadBy c f.line s.read (signal c s.name) s.pin
          → sees (Some f) v (line.Pin (signal c s.name) s.pin) s.read ≡ f.stuck
      go (inl on) = under_other f (line.Pin (signal c s.name) s.pin) (v s.read) (λ e.
          let h : line.Stem (signal c s.read) ≡ line.Pin (signal c s.name) s.pin = sym on.0 ∙ e in
          cc) ∙ stem_stuck c t f v s.read p (read_defined c well f g s) on.0
      go (inr on) = under_own f (line.Pin (signal c s.name) s.pin) (v s.read) on

  -- so the gate has the same bit under both faults
  gate_agrees : v s.name ≡ w s.name
  gate_agrees =
      let stands : Contains c (Gate s.name s.kind s.args) =
      contained c (Gate s.name s.kind s.args) s.stands in
      let bits : List Bool = pins_see (Some f) v (signal c s.name) s.args in
      let seen : Among f.stuck bits = subst (λ b. Among b bits) pin_stuck
      (among_map (λ at. sees (Some f) v (line.Pin (signal c s.name) at.0) at.1)
      (enumerate_from 0 s.args) (s.pin, s.read) (among_numbered s.args s.pin s.read s.reads)) in
      p.gate s.name s.kind s.args stands ∙ (under_other f (line.Stem (signal c s.name)) _ gate_free
      ∙ (fixed f.model s.kind f.stuck s.bit s.args bits s.fixes
      (arities s.name s.kind s.args stands) (length_pins (Some f) v (signal c s.name) 0 s.args) seen
      ∙ sym (stem_stuck c t g w s.name q (gate_defined c well f g s) to_line ∙ to_stuck)))

  -- a name that another gate's pin reads isn't the one whose stem the fault is on
  reads_free : (x a : Name) (kind : Kind) (args : List Name) (k : ℕ) → Among (Gate x kind args) c
      → slice_get args k ≡ Some a → x ≢ s.name → f.line ≢ line.Stem (signal c a)
  reads_free x a kind args k stands reads other e = go s.on
    where
      go : IsReadBy c f.line s.read (signal c s.name) s.pin → ⊥
      go (inl on) =
          let h : line.Stem (signal c s.read) ≡ line.Stem (signal c a) = sym on.0 ∙ e in
          let number : signal c a ≡ signal c s.read = cc in
          let same : a ≡ s.read = signal_apart c a s.read
          (read_named c (Gate x kind args) a well stands (at_place args k a reads))
          (contained (names c) s.read (read_defined c well f g s)) number in
          let there : Among (sink.Pin (signal c x) k) (sink.Pin (signal c s.name) s.pin ∷ []) =
          rw (ap (sinks c) same ∙ on.1) at (pin_among c x a kind args k stands reads) in
          one there
        where
          one : Among (sink.Pin (signal c x) k) (sink.Pin (signal c s.name) s.pin ∷ []) → ⊥
          one (inl same) =
              let number : signal c x ≡ signal c s.name = cc in
              apart x s.name (defined_among c (Gate x kind args) x stands refl)
              (gate_defined c well f g s) other number
          one (inr bad) = bad
      go (inr on) =
          let h : line.Pin (signal c s.name) s.pin ≡ line.Stem (signal c a) = sym on ∙ e in cc

  -- nor is another gate's pin the fault's line
  pin_free : (x : Name) (k : ℕ) → Among x (names c) → x ≢ s.name → f.line ≢ line.Pin (signal c x) k
  pin_free x k a other e = go s.on
    where
      go : IsReadBy c f.line s.read (signal c s.name) s.pin → ⊥
      go (inl on) =
          let h : line.Stem (signal c s.read) ≡ line.Pin (signal c x) k = sym on.0 ∙ e in cc
      go (inr on) =
          let h : line.Pin (signal c s.name) s.pin ≡ line.Pin (signal c x) k = sym on ∙ e in
          let number : signal c x ≡ signal c s.name = cc in
          apart x s.name a (gate_defined c well f g s) other number

  -- under the next fault too
  to_free : (x : Name) → Among x (names c) → x ≢ s.name → g.line ≢ line.Stem (signal c x)
  to_free x a other e =
      let h : line.Stem (signal c s.name) ≡ line.Stem (signal c x) = sym to_line ∙ e in
      let number : signal c x ≡ signal c s.name = cc in
      apart x s.name a (gate_defined c well f g s) other number

  to_pin_free : (gate k : ℕ) → g.line ≢ line.Pin gate k
  to_pin_free gate k e =
      let h : line.Stem (signal c s.name) ≡ line.Pin gate k = sym to_line ∙ e in cc

  -- a source isn't the gate
  source_apart : (x : Name) → Among x (sources c) → x ≢ s.name
  source_apart x a e =
      let here : IsSource (definition c (signal c x)) = source_definition c x well a in
      let is : definition c (signal c x) ≡ Some (Gate s.name s.kind s.args) =
      ap (λ n. definition c (signal c n)) e
      ∙ definition-signal c (Gate s.name s.kind s.args) s.name well
      (contained c (Gate s.name s.kind s.args) s.stands) refl in
      let bad : ⊥ = rw is at here in bad

  -- names whose stem isn't the fault's line have the same bit under both faults
  below_same : (bound : ℕ) (x : Name) → well.acyclic.0 x < bound → Among x (names c)
      → f.line ≢ line.Stem (signal c x) → v x ≡ w x
  below_same zero x lt a free = absurd (omega (arith, lt))
  below_same (suc bound) x lt a free = go (below_same bound) (driven c x a)
    where
      by_source : Among x (sources c) → v x ≡ w x
      by_source h =
          let at = placed (sources c) x h in
          p.source at.0 x at.1 ∙ (under_other f (line.Stem (signal c x)) _ free
          ∙ sym (q.source at.0 x at.1
          ∙ under_other g (line.Stem (signal c x)) _ (to_free x a (source_apart x h))))

      by_gate : (kind : Kind) (args : List Name) → Among (Gate x kind args) c
          → ((m : Name) → well.acyclic.0 m < bound → Among m (names c)
          → f.line ≢ line.Stem (signal c m) → v m ≡ w m) → (b : Bool) → bytes_eq x s.name ≡ b
          → v x ≡ w x
      by_gate kind args stands ih true e =
          subst (λ n. v n ≡ w n) (sym (same_bytes x s.name e)) gate_agrees
      by_gate kind args stands ih false e =
          p.gate x kind args (contained c (Gate x kind args) stands)
          ∙ (under_other f (line.Stem (signal c x)) _ free
          ∙ (ap (value kind) (map_agree (λ at. sees (Some f) v (line.Pin (signal c x) at.0) at.1)
          (λ at. sees (Some g) w (line.Pin (signal c x) at.0) at.1) (enumerate_from 0 args) same)
          ∙ sym (q.gate x kind args (contained c (Gate x kind args) stands)
          ∙ under_other g (line.Stem (signal c x)) _ (to_free x a other))))
        where
          other : x ≢ s.name
          other same =
              let yes : bytes_eq x s.name ≡ true = rw (← same) (bytes_refl x) in
              let bad : true ≡ false = sym yes ∙ e in
              cc

          same : (at : ℕ × Name) → Among at (enumerate_from 0 args)
              → sees (Some f) v (line.Pin (signal c x) at.0) at.1
              ≡ sees (Some g) w (line.Pin (signal c x) at.0) at.1
          same at h =
              let reads : slice_get args at.0 ≡ Some at.1 = numbered_at args at h in
              let named : Contains (names c) at.1 =
              read_named c (Gate x kind args) at.1 well stands (at_place args at.0 at.1 reads) in
              let lt' : well.acyclic.0 at.1 < well.acyclic.0 x = well.acyclic.1 x at.1 (
                kind,
                args,
                contained c (Gate x kind args) stands,
                contained args at.1 (at_place args at.0 at.1 reads),
              ) in
              under_other f (line.Pin (signal c x) at.0) (v at.1) (pin_free x at.0 a other)
              ∙ (ih at.1 (omega (arith, lt, lt')) (among (names c) at.1 named)
              (reads_free x at.1 kind args at.0 stands reads other) ∙ sym
              (under_other g (line.Pin (signal c x) at.0) (w at.1) (to_pin_free (signal c x) at.0)))

      go : ((m : Name) → well.acyclic.0 m < bound → Among m (names c)
          → f.line ≢ line.Stem (signal c m) → v m ≡ w m) → Driven c x → v x ≡ w x
      go ih (inl h) = by_source (among_left (inputs c) (map (λ cell. cell.0) (cells c)) x h)
      go ih (inr (inl h)) = by_source (among_right (inputs c) (map (λ cell. cell.0) (cells c)) x h)
      go ih (inr (inr h)) = by_gate h.0 h.1 h.2 ih (bytes_eq x s.name) refl

  -- an observed name's stem isn't the fault's line, so the observer shows the same
  observed_free : (o : Sink × Name) → Observes c o → f.line ≢ line.Stem (signal c o.1)
  observed_free o h e = go s.on
    where
      go : IsReadBy c f.line s.read (signal c s.name) s.pin → ⊥
      go (inl on) =
          let k : line.Stem (signal c s.read) ≡ line.Stem (signal c o.1) = sym on.0 ∙ e in
          let number : signal c o.1 ≡ signal c s.read = cc in
          let same : o.1 ≡ s.read =
          signal_apart c o.1 s.read h.named (contained (names c) s.read (read_defined c well f g s))
          number in
          let there : Among h.reader (sink.Pin (signal c s.name) s.pin ∷ []) =
          rw (ap (sinks c) same ∙ on.1) at h.among_sinks in
          one there
        where
          one : Among h.reader (sink.Pin (signal c s.name) s.pin ∷ []) → ⊥
          one (inl same) = h.no_pin (signal c s.name) s.pin (sym same)
          one (inr bad) = bad
      go (inr on) =
          let k : line.Pin (signal c s.name) s.pin ≡ line.Stem (signal c o.1) = sym on ∙ e in cc

  from_branch_free : (o : Sink × Name) → Observes c o → f.line ≢ branch o.0
  from_branch_free o h e = go s.on
    where
      go : IsReadBy c f.line s.read (signal c s.name) s.pin → ⊥
      go (inl on) = h.no_stem (signal c s.read) (sym on.0 ∙ e)
      go (inr on) = h.no_pin_line (signal c s.name) s.pin (sym on ∙ e)

  pub step_shows : (o : Sink × Name) → Contains (observers c) o
      → shows (Some f) v o ≡ shows (Some g) w o
  step_shows o at =
      let h = observes c o well at in
      under_other f (branch o.0) (v o.1) (from_branch_free o h)
      ∙ (below_same (suc (well.acyclic.0 o.1)) o.1 (omega arith) (among (names c) o.1 h.named)
      (observed_free o h) ∙ sym
      (under_other g (branch o.0) (w o.1) (λ e. h.no_stem (signal c s.name) (sym to_line ∙ e))))

-- a fault of the list and its next fault show the same
pub step_shows_same : (m : Model) (c : List Statement) (f g : Fault) → IsWellFormed c
    → HaveArities c → Contains (faults m c) f → next c f ≡ Some g → ShowSame c f g
step_shows_same m c f g well arities at e t v w o p q seen =
    step_shows c t f g v w well arities (step_of m c f g well at e) p q o seen
