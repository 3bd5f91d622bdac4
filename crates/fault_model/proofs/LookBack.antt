-- Members of a class look back alike, and so the same tests of every list detect them.
use Rattle.std.proofs.Common.{◌≡◌, ℕ, zero, suc, refl, sym, ◌∙◌, ap, subst, Bool, true, false, not}
use Rattle.std.{proofs.Common.{List, length, inl, inr}, specs.List.enumerate_from}
use Rattle.std.specs.Prelude.{◌↔◌, Contains, Some, None, unwrap_or}
use Rattle.bench_net.specs.{declared.Kind.Kind, Statement.{Name, Statement, Gate}, Reading.HasArity}
use Rattle.bench_net.specs.declared.Kind.TheVariants.{And, Nand, Or, Nor, Xor, Xnor, Not, Buff}
use Rattle.bench_net.specs.{Scan.{names, signal}, Circuit.{IsWellFormed, HaveArities}}
use Rattle.bench_net.proofs.Public.{name_of-signal}
use Rattle.list_lemmas.proofs.{Members.{Among, contained, among_map}, Places.among_numbered}
use Rattle.fault_model.{proofs.SignalsDefined.definition-signal, specs.declared.Model.Model}
use Rattle.fault_model.specs.declared.Model.TheVariants.{StuckAt, Transition, TransitionPairs}
use Rattle.fault_model.specs.{Fault.{Fault, faults}, Solution.{Test, Solves, value, sees, pins_see}}
use Rattle.fault_model.specs.Collapse.{next_stuck, Reaches, here, onward, IsClassOf}
use Rattle.fault_model.specs.Detection.{name_on, argument, HasBit, IsInitialized, LooksBack}
use Rattle.fault_model.specs.Detection.{ClassesDetectedSame, DetectedAsRepresentative}
use Rattle.fault_model.proofs.ListedFaults.{IsReadBy, Step, step_of, next_listed}
use Rattle.fault_model.proofs.NextFaultChains.{read_defined, gate_defined}
use Rattle.fault_model.proofs.ShownAlike.{only_one, length_pins}
use Rattle.fault_model.proofs.ClassLaws.{classes_detect_same, own_class}
use Rattle.fault_model.specs.declared.Line.TheVariants as line

not_apart : (a b : Bool) → not a ≡ not b → a ≡ b
not_apart true true e = refl
not_apart true false e = cc
not_apart false true e = cc
not_apart false false e = refl

-- over a gate of one input its pin has the one bit exactly if its output has the other
passed : (kind : Kind) (a b x : Bool) (args : List Name) (bits : List Bool)
    → next_stuck Transition kind a ≡ Some b → HasArity kind args → length bits ≡ length args
    → Among x bits → (x ≡ a) ↔ (value kind bits ≡ b)
passed Buff a b x args bits e arity len h =
    let one : value Buff bits ≡ x = only_one bits x (len ∙ arity) h in
    let same : a ≡ b = ap (λ o. unwrap_or o b) e in
    (λ i. one ∙ (i ∙ same), λ i. sym one ∙ (i ∙ sym same))
passed Not a b x args bits e arity len h =
    let one : value Not bits ≡ not x = ap not (only_one bits x (len ∙ arity) h) in
    let same : not a ≡ b = ap (λ o. unwrap_or o b) e in
    (λ i. one ∙ (ap not i ∙ same), λ i. not_apart x a (sym one ∙ (i ∙ sym same)))
passed kind a b x args bits e arity len h = let bad : None ≡ Some b = e in cc

-- transition faults have the same rows, in a list of pairs or not
same_rows : (kind : Kind) (a : Bool)
    → next_stuck TransitionPairs kind a ≡ next_stuck Transition kind a
same_rows And a = refl
same_rows Nand a = refl
same_rows Or a = refl
same_rows Nor a = refl
same_rows Xor a = refl
same_rows Xnor a = refl
same_rows Not a = refl
same_rows Buff a = refl

module _ (c : List Statement) (f g : Fault) (well : IsWellFormed c) (arities : HaveArities c)
    (s : Step c f g) where
  from_carried : name_on c f.line ≡ Some s.read
  from_carried = go s.on
    where
      go : IsReadBy c f.line s.read (signal c s.name) s.pin → name_on c f.line ≡ Some s.read
      go (inl on) = ap (name_on c) on.0
          ∙ name_of-signal c s.read (contained (names c) s.read (read_defined c well f g s))
      go (inr on) = ap (name_on c) on
          ∙ (ap (λ o. argument o s.pin) (definition-signal c (Gate s.name s.kind s.args) s.name well
          (contained c (Gate s.name s.kind s.args) s.stands) refl) ∙ s.reads)

  to_carried : name_on c g.line ≡ Some s.name
  to_carried = ap (λ x. name_on c x.line) (sym s.gives)
      ∙ name_of-signal c s.name (contained (names c) s.name (gate_defined c well f g s))

  to_bit : g.stuck ≡ s.bit
  to_bit = sym (ap (λ x. x.stuck) s.gives)

  pub to_model : g.model ≡ f.model
  to_model = sym (ap (λ x. x.model) s.gives)

  -- in the fault-free circuit the pin's name has the fault's bit exactly if the gate's name has the
  -- next fault's
  bit_passes : (t : Test) (v : Name → Bool) → next_stuck Transition s.kind f.stuck ≡ Some s.bit
      → Solves c t None v → (v s.read ≡ f.stuck) ↔ (v s.name ≡ g.stuck)
  bit_passes t v fixes p =
      let stands : Contains c (Gate s.name s.kind s.args) =
      contained c (Gate s.name s.kind s.args) s.stands in
      let bits : List Bool = pins_see None v (signal c s.name) s.args in
      let seen : Among (v s.read) bits =
      among_map (λ at. sees None v (line.Pin (signal c s.name) at.0) at.1) (enumerate_from 0 s.args)
      (s.pin, s.read) (among_numbered s.args s.pin s.read s.reads) in
      let both = passed s.kind f.stuck s.bit (v s.read) s.args bits fixes
      (arities s.name s.kind s.args stands) (length_pins None v (signal c s.name) 0 s.args) seen in
      let gate : v s.name ≡ value s.kind bits = p.gate s.name s.kind s.args stands in
      (λ i. gate ∙ (both.0 i ∙ sym to_bit), λ i. both.1 (sym gate ∙ (i ∙ to_bit)))

  bit_step : (t : Test) → next_stuck Transition s.kind f.stuck ≡ Some s.bit
      → HasBit c t f.line f.stuck ↔ HasBit c t g.line g.stuck
  bit_step t fixes = (
    λ h. (h.0, s.name, h.2, to_carried, (bit_passes t h.0 fixes h.2).0 (on_read h.0 h.1 h.3 h.4)),
    λ h. (h.0, s.read, h.2, from_carried, (bit_passes t h.0 fixes h.2).1 (on_name h.0 h.1 h.3 h.4)),
  )
    where
      on_read : (v : Name → Bool) (n : Name) → name_on c f.line ≡ Some n → v n ≡ f.stuck
          → v s.read ≡ f.stuck
      on_read v n at e =
          subst (λ x. v x ≡ f.stuck) (ap (λ o. unwrap_or o n) (sym at ∙ from_carried)) e

      on_name : (v : Name → Bool) (n : Name) → name_on c g.line ≡ Some n → v n ≡ g.stuck
          → v s.name ≡ g.stuck
      on_name v n at e =
          subst (λ x. v x ≡ g.stuck) (ap (λ o. unwrap_or o n) (sym at ∙ to_carried)) e

  fixes_in : (m : Model) → f.model ≡ m → next_stuck m s.kind f.stuck ≡ Some s.bit
  fixes_in m is = subst (λ x. next_stuck x s.kind f.stuck ≡ Some s.bit) is s.fixes

  initialized_step : (tests : List Test) (t : ℕ) → next_stuck Transition s.kind f.stuck ≡ Some s.bit
      → IsInitialized c tests f.line f.stuck t ↔ IsInitialized c tests g.line g.stuck t
  initialized_step tests zero fixes = (λ h. h, λ h. h)
  initialized_step tests (suc t) fixes =
      (λ h. (h.0, h.1, (bit_step h.0 fixes).0 h.2), λ h. (h.0, h.1, (bit_step h.0 fixes).1 h.2))

  looks_back_in : (tests : List Test) (m : Model) (t : ℕ) → f.model ≡ m
      → LooksBack c tests m f.line f.stuck t ↔ LooksBack c tests m g.line g.stuck t
  looks_back_in tests StuckAt t is = (λ h. h, λ h. h)
  looks_back_in tests Transition t is = initialized_step tests t (fixes_in Transition is)
  looks_back_in tests TransitionPairs t is =
      let step =
      initialized_step tests t (sym (same_rows s.kind f.stuck) ∙ fixes_in TransitionPairs is) in
      (λ h. (h.0, step.0 h.1), λ h. (h.0, step.1 h.1))

  -- a fault and its next fault look back alike
  pub step_looks_back : (tests : List Test) (t : ℕ)
      → LooksBack c tests f.model f.line f.stuck t ↔ LooksBack c tests g.model g.line g.stuck t
  step_looks_back tests t =
      subst (λ m. LooksBack c tests f.model f.line f.stuck t ↔ LooksBack c tests m g.line g.stuck t)
      (sym to_model) (looks_back_in tests f.model t refl)

-- so does each fault that is reached from it
along_looks_back : (m : Model) (c : List Statement) (f r : Fault) (tests : List Test) (t : ℕ)
    → IsWellFormed c → HaveArities c → Contains (faults m c) f → Reaches c f r
    → LooksBack c tests f.model f.line f.stuck t ↔ LooksBack c tests r.model r.line r.stuck t
along_looks_back m c f r tests t well arities at here = (λ h. h, λ h. h)
along_looks_back m c f r tests t well arities at (onward {g = g} e p) =
    let first = step_looks_back c f g well arities (step_of m c f g well at e) tests t in
    let then = along_looks_back m c g r tests t well arities (next_listed m c f g well at e) p in
    (λ h. then.0 (first.0 h), λ h. first.1 (then.1 h))

pub classes_detected_same : (c : List Statement) → IsWellFormed c → HaveArities c
    → ClassesDetectedSame c
classes_detected_same c well arities f g tests t both =
    let p : IsClassOf both.0 c f both.1 = both.2 in
    let q : IsClassOf both.0 c g both.1 = both.3 in
    let one : p.0 ≡ q.0 = ap (λ o. unwrap_or o q.0) (sym p.3 ∙ q.3) in
    let a =
    along_looks_back both.0 c f q.0 tests t well arities p.1 (subst (Reaches c f) one p.2.0) in
    let b = along_looks_back both.0 c g q.0 tests t well arities q.1 q.2.0 in (
      λ d. (d.0, d.1, (classes_detect_same c well arities f g d.0 both).0 d.2, b.1 (a.0 d.3)),
      λ d. (d.0, d.1, (classes_detect_same c well arities f g d.0 both).1 d.2, a.1 (b.0 d.3)),
    )

pub detected_as_representative : (c : List Statement) → IsWellFormed c → HaveArities c
    → DetectedAsRepresentative c
detected_as_representative c well arities m f r class tests t is at =
    classes_detected_same c well arities f r tests t (m, class, is, own_class m c r class at)
