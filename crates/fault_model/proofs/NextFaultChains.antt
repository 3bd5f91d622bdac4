-- Chains of next faults end: each next fault is on the stem of a gate with a greater number.
use Rattle.std.proofs.Common.{◌≡◌, ◌<◌, ◌≤◌, ℕ, zero, suc, ◌+◌, ◌*◌, refl, sym, ◌∙◌, ap, subst}
use Rattle.std.{proofs.Common.{List, [], ◌∷◌, arith, inl, inr}, specs.Option.option_map_or}
use Rattle.std.specs.Prelude.{Contains, Option, Some, None, unwrap_or, is_none}
use Rattle.bench_net.specs.{Statement.{Name, Statement, Gate}, Scan.{names, signal, name_of}}
use Rattle.bench_net.{specs.Circuit.IsWellFormed, proofs.Public.{name_of-signal, read_named}}
use Rattle.list_lemmas.proofs.Members.{Among, among, contained, among_filter}
use Rattle.list_lemmas.proofs.{Places.{at_place, placed}, Distinct.one_place_of}
use Rattle.fault_model.{proofs.SignalsDefined.defined_among, specs.declared.Line.Line}
use Rattle.fault_model.specs.{declared.Model.Model, Fault.{Fault, faults}, Collapse.IsClassOf}
use Rattle.fault_model.specs.Collapse.{next, Reaches, here, onward, Represents, representatives}
use Rattle.fault_model.specs.Laws.{HasRepresentatives, HasClasses}
use Rattle.fault_model.proofs.FaultLines.{distinct_faults, distinct_filter}
use Rattle.fault_model.proofs.ListedFaults.{IsReadBy, Step, step_of, next_listed}
use Rattle.fault_model.specs.declared.Line.TheVariants as line

-- the sum of the numbers of some names, which none of them is above
total : (Name → ℕ) → List Name → ℕ
total number [] = 0
total number (n ∷ ns) = number n + total number ns

below_total : (number : Name → ℕ) (ns : List Name) (n : Name) → Among n ns
    → number n ≤ total number ns
unfolding total
below_total number [] n a = absurd a
below_total number (m ∷ ns) n (inl e) =
    let same : number m ≡ number n = ap number e in omega (arith, same)
below_total number (m ∷ ns) n (inr a) =
    let h : number n ≤ total number ns = below_total number ns n a in omega (arith, h)

-- how high a line stands: a stem above the pins of its gate
abbrev height : List Statement → (Name → ℕ) → Line → ℕ
height c number (line.Stem s) = option_map_or (λ n. 2 * number n + 1) (name_of c s) 0
height c number (line.Pin gate pin) = option_map_or (λ n. 2 * number n) (name_of c gate) 0
height c number _ = 0

module _ (c : List Statement) (well : IsWellFormed c) where
  -- a next fault stands higher, and no next fault stands above the total
  record Rises (f g : Fault) : Type 0 where
    higher : height c well.acyclic.0 f.line < height c well.acyclic.0 g.line
    bounded : height c well.acyclic.0 g.line ≤ 2 * total well.acyclic.0 (names c) + 1

  gate_height : (n : Name) → Among n (names c)
      → height c well.acyclic.0 (line.Stem (signal c n)) ≡ 2 * well.acyclic.0 n + 1
  gate_height n a = ap (λ o. option_map_or (λ m. 2 * well.acyclic.0 m + 1) o 0)
      (name_of-signal c n (contained (names c) n a))

  pin_height : (n : Name) (pin : ℕ) → Among n (names c)
      → height c well.acyclic.0 (line.Pin (signal c n) pin) ≡ 2 * well.acyclic.0 n
  pin_height n pin a = ap (λ o. option_map_or (λ m. 2 * well.acyclic.0 m) o 0)
      (name_of-signal c n (contained (names c) n a))

  -- the number of the name that a step's pin reads is below the number of its gate
  pub read_below : (f g : Fault) (s : Step c f g) → well.acyclic.0 s.read < well.acyclic.0 s.name
  read_below f g s = well.acyclic.1 s.name s.read (
    s.kind,
    s.args,
    contained c (Gate s.name s.kind s.args) s.stands,
    contained s.args s.read (at_place s.args s.pin s.read s.reads),
  )

  pub read_defined : (f g : Fault) (s : Step c f g) → Among s.read (names c)
  read_defined f g s =
      among (names c) s.read (read_named c (Gate s.name s.kind s.args) s.read well s.stands
      (at_place s.args s.pin s.read s.reads))

  pub gate_defined : (f g : Fault) (s : Step c f g) → Among s.name (names c)
  gate_defined f g s = defined_among c (Gate s.name s.kind s.args) s.name s.stands refl

  rises : (m : Model) (f g : Fault) → Contains (faults m c) f → next c f ≡ Some g → Rises f g
  rises m f g at e = go (step_of m c f g well at e)
    where
      go : (s : Step c f g) → Rises f g
      go s = record {
        higher = by_line s.on;
        bounded =
            let most : well.acyclic.0 s.name ≤ total well.acyclic.0 (names c) =
            below_total well.acyclic.0 (names c) s.name (gate_defined f g s) in
            omega (arith, most, to);
      }
        where
          to : height c well.acyclic.0 g.line ≡ 2 * well.acyclic.0 s.name + 1
          to = ap (λ x. height c well.acyclic.0 x.line) (sym s.gives)
              ∙ gate_height s.name (gate_defined f g s)

          by_line : IsReadBy c f.line s.read (signal c s.name) s.pin
              → height c well.acyclic.0 f.line < height c well.acyclic.0 g.line
          by_line (inl on) =
              let from : height c well.acyclic.0 f.line ≡ 2 * well.acyclic.0 s.read + 1 =
              ap (height c well.acyclic.0) on.0 ∙ gate_height s.read (read_defined f g s) in
              omega (arith, from, to, read_below f g s)
          by_line (inr on) =
              let from : height c well.acyclic.0 f.line ≡ 2 * well.acyclic.0 s.name =
              ap (height c well.acyclic.0) on ∙ pin_height s.name s.pin (gate_defined f g s) in
              omega (arith, from, to)

  ends : (m : Model) (fuel : ℕ) (f : Fault) → Contains (faults m c) f
      → 2 * total well.acyclic.0 (names c) + 1 < height c well.acyclic.0 f.line + fuel
      → (r : Fault) × Contains (faults m c) r × Represents c f r
  ends m zero f at lt = go (next c f) refl
    where
      go : (o : Option Fault) → next c f ≡ o
          → (r : Fault) × Contains (faults m c) r × Represents c f r
      go None e = (f, at, (here, e))
      go (Some g) e = let r = rises m f g at e in absurd (omega (arith, lt, r.higher, r.bounded))
  ends m (suc fuel) f at lt = go (ends m fuel) (next c f) refl
    where
      go : ((g : Fault) → Contains (faults m c) g
          → 2 * total well.acyclic.0 (names c) + 1 < height c well.acyclic.0 g.line + fuel
          → (r : Fault) × Contains (faults m c) r × Represents c g r) → (o : Option Fault)
          → next c f ≡ o → (r : Fault) × Contains (faults m c) r × Represents c f r
      go later None e = (f, at, (here, e))
      go later (Some g) e =
          let r = rises m f g at e in
          let p = later g (next_listed m c f g well at e) (omega (arith, lt, r.higher)) in
          (p.0, p.1, (onward e p.2.0, p.2.1))

-- two faults without a next that are reached from one fault are one
one_end : {c : List Statement} {f r s : Fault} → Reaches c f r → next c r ≡ None → Reaches c f s
    → next c s ≡ None → s ≡ r
one_end here p here q = refl
one_end {f = f} here p (onward {g = g} e q) last = let bad : None ≡ Some g = sym p ∙ e in cc
one_end (onward {g = g} e p) last here q = let bad : None ≡ Some g = sym q ∙ e in cc
one_end {c} {s = s} (onward {g = g} e p) end (onward {g = h} d q) last =
    let same : Some h ≡ Some g = sym d ∙ e in
    one_end p end (subst (λ x. Reaches c x s) (ap (λ o. unwrap_or o g) same) q) last

representative_of : (m : Model) (c : List Statement) (f : Fault) → IsWellFormed c
    → Contains (faults m c) f → (r : Fault) × Contains (faults m c) r × Represents c f r
representative_of m c f well at =
    ends c well m (suc (2 * total well.acyclic.0 (names c) + 1)) f at (omega arith)

one_representative : (c : List Statement) (f r s : Fault) → Represents c f r → Represents c f s
    → s ≡ r
one_representative c f r s p q = one_end p.0 p.1 q.0 q.1

pub has_representatives : (c : List Statement) → IsWellFormed c → HasRepresentatives c
has_representatives c well m f at =
    let p = representative_of m c f well at in
    (p.0, p.1, p.2, λ s q. one_representative c f p.0 s p.2 q)

-- a fault of the list without a next is among the representatives
among_representatives : (m : Model) (c : List Statement) (r : Fault) → Contains (faults m c) r
    → next c r ≡ None → Among r (representatives m c)
among_representatives m c r at e =
    among_filter (λ f. is_none (next c f)) (faults m c) r (among (faults m c) r at) (ap is_none e)

-- two classes of one fault are one
one_class : (m : Model) (c : List Statement) (f : Fault) (j k : ℕ) → IsWellFormed c
    → IsClassOf m c f j → IsClassOf m c f k → j ≡ k
one_class m c f j k well p q =
    let same : p.0 ≡ q.0 = one_representative c f q.0 p.0 q.2 p.2 in
    one_place_of (representatives m c) j k q.0
    (distinct_filter (λ r. is_none (next c r)) (faults m c) (distinct_faults m c well))
    (p.3 ∙ ap Some same) q.3

pub has_classes : (c : List Statement) → IsWellFormed c → HasClasses c
has_classes c well m f at =
    let p = representative_of m c f well at in
    let k = placed (representatives m c) p.0 (among_representatives m c p.0 p.1 p.2.1) in
    let is : IsClassOf m c f k.0 = (p.0, at, p.2, k.1) in
    (k.0, is, λ j other. one_class m c f j k.0 well other is)
