-- The lines that carry a signal are activated as its stem is.
use Rattle.std.proofs.Common.{◌≡◌, ◌∙◌, ℕ, zero, suc, Bool, true, List, ap, not, subst, sym}
use Rattle.std.specs.Prelude.{◌↔◌, Contains, IfSome, Some, slice_get}
use Rattle.bench_net.specs.{Circuit.IsWellFormed, Scan.{name_of, names}}
use Rattle.bench_net.{specs.Statement.{Name, Statement}, proofs.Public.name_of-signal}
use Rattle.fault_model.specs.{declared.Line.Line, declared.Model.Model, Fault.{Fault, faults}}
use Rattle.fault_model.specs.declared.Model.TheVariants.{StuckAt, Transition, TransitionPairs}
use Rattle.fault_model.specs.{Detection.{HasBit, IsInitialized, LooksBack, name_on}, Solution.Test}
use Rattle.fault_model.proofs.Public.{carries, listed_model}
use Rattle.fault_model.specs.declared.Line.TheVariants as line
use Rattle.undetected.specs.{Activation.IsActivated, Activated.stem_fault}
use Rattle.flat_circuit.specs.Origins.{Carries}

module _ (c : List Statement) (l k : Line) (n : Name) (on : name_on c l ≡ Some n)
    (too : name_on c k ≡ Some n) where
  bit_alike : (t : Test) (b : Bool) → HasBit c t l b → HasBit c t k b
  bit_alike t b h = (h.0, h.1, h.2, too ∙ (sym on ∙ h.3), h.4)

  before_alike : (tests : List Test) (b : Bool) (t : ℕ) → IsInitialized c tests l b t
      → IsInitialized c tests k b t
  before_alike tests b zero h = h
  before_alike tests b (suc t) h = (h.0, h.1, bit_alike h.0 b h.2)

  back_alike : (m : Model) (tests : List Test) (b : Bool) (t : ℕ) → LooksBack c tests m l b t
      → LooksBack c tests m k b t
  back_alike StuckAt tests b t h = h
  back_alike Transition tests b t h = before_alike tests b t h
  back_alike TransitionPairs tests b t h = (h.0, before_alike tests b t h.1)

  -- a fault on one of the lines is activated where the same fault on the other is
  pub moved_on : (m : Model) (tests : List Test) (b : Bool)
      → IsActivated c tests (record { model = m; line = l; stuck = b })
      → IsActivated c tests (record { model = m; line = k; stuck = b })
  moved_on m tests b h =
      let a = h.1 in
      (h.0, (a.0, a.1, bit_alike a.0 (not b) a.2, back_alike m tests b h.0 a.3))

-- a fault is activated where that of its bit on the stem is, of a signal that its line carries
pub as_the_stem : (m : Model) (c : List Statement) (tests : List Test) (f : Fault) (s : ℕ)
    (bit flag : Bool) → IsWellFormed c → Contains (faults m c) f → bit ≡ f.stuck
    → Carries c f.line s → (flag ≡ true) ↔ IsActivated c tests (stem_fault m s bit)
    → (flag ≡ true) ↔ IsActivated c tests f
as_the_stem m c tests f s bit flag well listed same on told = (there, back)
  where
    p : (n : Name) × (name_on c f.line ≡ Some n) × Contains (names c) n
    p = carries m c f well listed

    stem : name_on c (line.Stem s) ≡ Some p.0
    stem = ap (name_of c) (on p.0 p.1) ∙ name_of-signal c p.0 p.2

    own_model : m ≡ f.model
    own_model = sym (listed_model m c f listed)

    there : flag ≡ true → IsActivated c tests f
    there e = subst
        (λ k. IsActivated c tests (record { model = k; line = f.line; stuck = f.stuck }))
        own_model (subst (λ b. IsActivated c tests (record { model = m; line = f.line; stuck = b }))
        same (moved_on c (line.Stem s) f.line p.0 stem p.1 m tests bit (told.0 e)))

    back : IsActivated c tests f → flag ≡ true
    back h = told.1 (moved_on c f.line (line.Stem s) p.0 p.1 stem m tests bit
        (subst (λ b. IsActivated c tests (record { model = m; line = f.line; stuck = b }))
        (sym same)
        (subst (λ k. IsActivated c tests (record { model = k; line = f.line; stuck = f.stuck }))
        (sym own_model) h)))

-- the bit of a fault of a list
pub bit_of : (list own : List Fault) (i : ℕ) (b : Bool) (f : Fault) → list ≡ own
    → IfSome (slice_get list i) (λ g. b ≡ g.stuck) → slice_get own i ≡ Some f → b ≡ f.stuck
bit_of list own i b f same is at =
    subst (λ o. IfSome o (λ g. b ≡ g.stuck)) (ap (λ l. slice_get l i) same ∙ at) is

-- the line of a fault of a list
pub line_of : (list own : List Fault) (i : ℕ) (l : Line) (f : Fault) → list ≡ own
    → IfSome (slice_get list i) (λ g. l ≡ g.line) → slice_get own i ≡ Some f → l ≡ f.line
line_of list own i l f same is at =
    subst (λ o. IfSome o (λ g. l ≡ g.line)) (ap (λ x. slice_get x i) same ∙ at) is
