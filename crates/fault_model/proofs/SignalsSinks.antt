-- Who reads a name: each pin, data pin and output that reads it is among its sinks, and a gate pin
-- among them reads it.
use Rattle.std.proofs.Common.{◌≡◌, ℕ, refl, sym, ◌∙◌, ap, subst, Bool, true, false, List, [], ◌∷◌}
use Rattle.std.{proofs.Common.{inl, inr, ◌⊎◌}, specs.List.enumerate_from}
use Rattle.std.specs.Prelude.{Some, slice_get, map, filter, flat_map, bytes_eq}
use Rattle.bench_net.specs.declared.{Kind.Kind, Sink.TheVariants.{Pin, Data, Out}}
use Rattle.bench_net.specs.Statement.{Name, Statement, Input, Output, Gate, Dff}
use Rattle.bench_net.specs.Scan.{signal, outputs, cell, places, pins_of, sinks}
use Rattle.bench_net.proofs.Public.{same_bytes, bytes_refl}
use Rattle.list_lemmas.proofs.Members.{Among, among_left, among_right, among_append, among_joined}
use Rattle.list_lemmas.proofs.Members.{joined_from, among_map, mapped_from, among_filter}
use Rattle.list_lemmas.proofs.{Members.filtered_from, Places.{among_numbered, numbered_at}}

-- the places of a name in a list
among_places : (n : Name) (ns : List Name) (i : ℕ) → slice_get ns i ≡ Some n → Among i (places n ns)
among_places n ns i e =
    among_map (λ at. at.0) (filter (λ at. bytes_eq n at.1) (enumerate_from 0 ns)) (i, n)
    (among_filter (λ at. bytes_eq n at.1) (enumerate_from 0 ns) (i, n) (among_numbered ns i n e)
    (bytes_refl n))

pub places_are : (n : Name) (ns : List Name) (i : ℕ) → Among i (places n ns)
    → slice_get ns i ≡ Some n
places_are n ns i a =
    let p = mapped_from (λ at. at.0) (filter (λ at. bytes_eq n at.1) (enumerate_from 0 ns)) i a in
    let q = filtered_from (λ at. bytes_eq n at.1) (enumerate_from 0 ns) p.0 p.1 in
    let same : n ≡ p.0.1 = same_bytes n p.0.1 q.1 in
    subst (λ k. slice_get ns k ≡ Some n) p.2 (numbered_at ns p.0 q.0 ∙ ap Some (sym same))

-- a pin that reads the name is among its sinks
pub pin_among : (c : List Statement) (x n : Name) (kind : Kind) (args : List Name) (pin : ℕ)
    → Among (Gate x kind args) c → slice_get args pin ≡ Some n
    → Among (Pin (signal c x) pin) (sinks c n)
pin_among c x n kind args pin a e =
    among_left (flat_map (pins_of c n) c) (map Out (places n (outputs c))) (Pin (signal c x) pin)
    (among_joined (pins_of c n) c (Gate x kind args) (Pin (signal c x) pin) a
    (among_map (λ k. Pin (signal c x) k) (places n args) pin (among_places n args pin e)))

-- so is an output that observes it
pub out_among : (c : List Statement) (n : Name) (output : ℕ) → slice_get (outputs c) output ≡ Some n
    → Among (Out output) (sinks c n)
out_among c n output e =
    among_right (flat_map (pins_of c n) c) (map Out (places n (outputs c))) (Out output)
    (among_map Out (places n (outputs c)) output (among_places n (outputs c) output e))

-- and a cell's data pin
pub data_among : (c : List Statement) (q n : Name) → Among (Dff q n) c
    → Among (Data (cell c q)) (sinks c n)
data_among c q n a =
    among_left (flat_map (pins_of c n) c) (map Out (places n (outputs c))) (Data (cell c q))
    (among_joined (pins_of c n) c (Dff q n) (Data (cell c q)) a (rw (bytes_refl n) (inl refl)))

-- the gate, its kind and its arguments that have this pin, which reads the name
pub record PinReads (c : List Statement) (n : Name) (gate pin : ℕ) : Type 0 where
  pub name : Name
  pub kind : Kind
  pub args : List Name
  pub stands : Among (Gate name kind args) c
  pub number : signal c name ≡ gate
  pub reads : slice_get args pin ≡ Some n

pin_of : (c : List Statement) (n : Name) (st : Statement) (gate pin : ℕ) → Among st c
    → Among (Pin gate pin) (pins_of c n st) → PinReads c n gate pin
pin_of c n (Input m) gate pin a h = absurd h
pin_of c n (Output m) gate pin a h = absurd h
pin_of c n (Gate x kind args) gate pin a h =
    let p = mapped_from (λ k. Pin (signal c x) k) (places n args) (Pin gate pin) h in
    let same : Pin (signal c x) p.0 ≡ Pin gate pin = p.2 in
    let number : signal c x ≡ gate = cc in
    let place : p.0 ≡ pin = cc in
    record {
      name = x;
      kind = kind;
      args = args;
      stands = a;
      number = number;
      reads = subst (λ k. slice_get args k ≡ Some n) place (places_are n args p.0 p.1);
    }
pin_of c n (Dff q d) gate pin a h = go (bytes_eq n d) refl
  where
    go : (b : Bool) → bytes_eq n d ≡ b → PinReads c n gate pin
    go true e = first (rw e at h)
      where
        first : Among (Pin gate pin) (Data (cell c q) ∷ []) → PinReads c n gate pin
        first (inl bad) = let no : Data (cell c q) ≡ Pin gate pin = bad in cc
        first (inr bad) = absurd bad
    go false e = let none : ⊥ = rw e at h in absurd none

-- a gate pin among the sinks of a name is a pin that reads it
pub pin_reads : (c : List Statement) (n : Name) (gate pin : ℕ) → Among (Pin gate pin) (sinks c n)
    → PinReads c n gate pin
pin_reads c n gate pin a =
    go (among_append (flat_map (pins_of c n) c) (map Out (places n (outputs c))) (Pin gate pin) a)
  where
    go : Among (Pin gate pin) (flat_map (pins_of c n) c)
        ⊎ Among (Pin gate pin) (map Out (places n (outputs c))) → PinReads c n gate pin
    go (inl h) =
        let p = joined_from (pins_of c n) c (Pin gate pin) h in pin_of c n p.0 gate pin p.1 p.2
    go (inr h) =
        let p = mapped_from Out (places n (outputs c)) (Pin gate pin) h in
        let bad : Out p.0 ≡ Pin gate pin = p.2 in
        cc
