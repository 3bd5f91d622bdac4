-- Each sink comes once among the sinks of a name, and among the sinks of all names.
use Rattle.std.proofs.Common.{◌≡◌, ℕ, ◌+◌, refl, sym, ◌∙◌, ap, subst, Bool, true, false, List, []}
use Rattle.std.{proofs.Common.{◌∷◌, arith, inl, inr, ◌⊎◌}, specs.Prelude.if◌then◌else◌}
use Rattle.std.specs.Prelude.{Some, slice_get, map, filter, flat_map, bytes_eq, unwrap_or}
use Rattle.std.specs.List.{enumerate_from}
use Rattle.bench_net.specs.declared.{Kind.Kind, Sink.Sink, Sink.TheVariants.{Pin, Data, Out}}
use Rattle.bench_net.specs.Statement.{Name, Statement, Input, Output, Gate, Dff}
use Rattle.bench_net.specs.Scan.{names, signal, outputs, cells, cell, places, pins_of, sinks}
use Rattle.bench_net.{specs.Circuit.IsWellFormed, proofs.Public.{same_bytes, at_position}}
use Rattle.list_lemmas.proofs.Members.{Among, contained, among_append, mapped_from, joined_from}
use Rattle.list_lemmas.proofs.{Members.filtered_from, Distinct.distinct_map, Places.numbered_from}
use Rattle.list_lemmas.proofs.Distinct.{Distinct, distinct_from_pairs, distinct_append}
use Rattle.fault_model.proofs.SignalsDefined.{signal_apart, one_definition, defined_among}
use Rattle.fault_model.proofs.SignalsSinks.{pin_reads, places_are}

-- the places of a name are apart
places_from : (n : Name) (ns : List Name) (from : ℕ)
    → Distinct (map (λ at. at.0) (filter (λ at. bytes_eq n at.1) (enumerate_from from ns)))
places_from n [] from = tt
places_from n (m ∷ ns) from = go (bytes_eq n m) refl (places_from n ns (from + 1))
  where
    later : Among from
        (map (λ at. at.0) (filter (λ at. bytes_eq n at.1) (enumerate_from (from + 1) ns))) → ⊥
    later a =
        let p =
        mapped_from (λ at. at.0) (filter (λ at. bytes_eq n at.1) (enumerate_from (from + 1) ns))
        from a in
        let q = filtered_from (λ at. bytes_eq n at.1) (enumerate_from (from + 1) ns) p.0 p.1 in
        let r = numbered_from ns (from + 1) p.0 q.0 in
        let same : p.0.0 ≡ from = p.2 in
        let place : p.0.0 ≡ from + 1 + r.0 = r.1 in
        absurd (omega (arith, same, place))

    go : (b : Bool) → bytes_eq n m ≡ b → Distinct
        (map (λ at. at.0) (filter (λ at. bytes_eq n at.1) (enumerate_from (from + 1) ns)))
        → Distinct
        (map (λ at. at.0) (filter (λ at. bytes_eq n at.1) (enumerate_from from (m ∷ ns))))
    go true e d = rw e (later, d)
    go false e d = rw e d

distinct_places : (n : Name) (ns : List Name) → Distinct (places n ns)
distinct_places n ns = places_from n ns 0

-- what a data pin or an output among the sinks of a name is
pub record DataReads (c : List Statement) (n : Name) (number : ℕ) : Type 0 where
  pub q : Name
  pub stands : Among (Dff q n) c
  pub place : cell c q ≡ number

data_in : (c : List Statement) (n : Name) (st : Statement) (number : ℕ) → Among st c
    → Among (Data number) (pins_of c n st) → DataReads c n number
data_in c n (Input m) number a h = absurd h
data_in c n (Output m) number a h = absurd h
data_in c n (Gate x kind args) number a h =
    let p = mapped_from (λ k. Pin (signal c x) k) (places n args) (Data number) h in
    let bad : Pin (signal c x) p.0 ≡ Data number = p.2 in
    cc
data_in c n (Dff q d) number a h = go (bytes_eq n d) refl
  where
    go : (b : Bool) → bytes_eq n d ≡ b → DataReads c n number
    go true e = first (rw e at h)
      where
        first : Among (Data number) (Data (cell c q) ∷ []) → DataReads c n number
        first (inl same) = record {
          q = q;
          stands = subst (λ x. Among (Dff q x) c) (sym (same_bytes n d e)) a;
          place = let it : Data (cell c q) ≡ Data number = same in cc;
        }
        first (inr bad) = absurd bad
    go false e = let none : ⊥ = rw e at h in absurd none

pub data_reads : (c : List Statement) (n : Name) (number : ℕ) → Among (Data number) (sinks c n)
    → DataReads c n number
data_reads c n number a =
    go (among_append (flat_map (pins_of c n) c) (map Out (places n (outputs c))) (Data number) a)
  where
    go : Among (Data number) (flat_map (pins_of c n) c)
        ⊎ Among (Data number) (map Out (places n (outputs c))) → DataReads c n number
    go (inl h) =
        let p = joined_from (pins_of c n) c (Data number) h in data_in c n p.0 number p.1 p.2
    go (inr h) =
        let p = mapped_from Out (places n (outputs c)) (Data number) h in
        let bad : Out p.0 ≡ Data number = p.2 in
        cc

no_out : (c : List Statement) (n : Name) (st : Statement) (number : ℕ)
    → Among (Out number) (pins_of c n st) → ⊥
no_out c n (Input m) number h = h
no_out c n (Output m) number h = h
no_out c n (Gate x kind args) number h =
    let p = mapped_from (λ k. Pin (signal c x) k) (places n args) (Out number) h in
    let bad : Pin (signal c x) p.0 ≡ Out number = p.2 in
    cc
no_out c n (Dff q d) number h = go (bytes_eq n d) refl
  where
    go : (b : Bool) → bytes_eq n d ≡ b → ⊥
    go true e = first (rw e at h)
      where
        first : Among (Out number) (Data (cell c q) ∷ []) → ⊥
        first (inl same) = let bad : Data (cell c q) ≡ Out number = same in cc
        first (inr bad) = bad
    go false e = rw e at h

pub out_reads : (c : List Statement) (n : Name) (number : ℕ) → Among (Out number) (sinks c n)
    → slice_get (outputs c) number ≡ Some n
out_reads c n number a =
    go (among_append (flat_map (pins_of c n) c) (map Out (places n (outputs c))) (Out number) a)
  where
    go : Among (Out number) (flat_map (pins_of c n) c)
        ⊎ Among (Out number) (map Out (places n (outputs c)))
        → slice_get (outputs c) number ≡ Some n
    go (inl h) =
        let p = joined_from (pins_of c n) c (Out number) h in absurd (no_out c n p.0 number p.2)
    go (inr h) =
        let p = mapped_from Out (places n (outputs c)) (Out number) h in
        let it : Out p.0 ≡ Out number = p.2 in
        let same : p.0 ≡ number = cc in
        subst (λ k. slice_get (outputs c) k ≡ Some n) same (places_are n (outputs c) p.0 p.1)

-- the q of a cell that stands in the list
pub q_among : (c : List Statement) (q d : Name) → Among (Dff q d) c
    → Among q (map (λ cell. cell.0) (cells c))
q_among [] q d a = absurd a
q_among (Dff p e ∷ c) q d (inl same) =
    let it : Dff p e ≡ Dff q d = same in let here : p ≡ q = cc in inl here
q_among (Dff p e ∷ c) q d (inr a) = inr (q_among c q d a)
q_among (Input m ∷ c) q d (inl same) = let it : Input m ≡ Dff q d = same in cc
q_among (Input m ∷ c) q d (inr a) = q_among c q d a
q_among (Output m ∷ c) q d (inl same) = let it : Output m ≡ Dff q d = same in cc
q_among (Output m ∷ c) q d (inr a) = q_among c q d a
q_among (Gate m kind args ∷ c) q d (inl same) = let it : Gate m kind args ≡ Dff q d = same in cc
q_among (Gate m kind args ∷ c) q d (inr a) = q_among c q d a

cell_apart : (c : List Statement) (p q d e : Name) → Among (Dff p d) c → Among (Dff q e) c
    → cell c p ≡ cell c q → p ≡ q
cell_apart c p q d e a b same =
    let x : Some p ≡ Some q = sym (at_position (map (λ cell. cell.0) (cells c)) p (q_among c p d a))
    ∙ (ap (slice_get (map (λ cell. cell.0) (cells c))) same
    ∙ at_position (map (λ cell. cell.0) (cells c)) q (q_among c q e b)) in
    ap (λ o. unwrap_or o q) x

-- a sink reads one name
pub one_read : (c : List Statement) (k : Sink) (m n : Name) → IsWellFormed c → Among k (sinks c m)
    → Among k (sinks c n) → m ≡ n
one_read c (Pin gate pin) m n well a b =
    let p = pin_reads c m gate pin a in
    let q = pin_reads c n gate pin b in
    let name : p.name ≡ q.name = signal_apart c p.name q.name
    (contained (names c) p.name (defined_among c (Gate p.name p.kind p.args) p.name p.stands refl))
    (contained (names c) q.name (defined_among c (Gate q.name q.kind q.args) q.name q.stands refl))
    (p.number ∙ sym q.number) in
    let gates : Gate p.name p.kind p.args ≡ Gate q.name q.kind q.args =
    one_definition c (Gate p.name p.kind p.args) (Gate q.name q.kind q.args) q.name well
    (contained c (Gate p.name p.kind p.args) p.stands)
    (contained c (Gate q.name q.kind q.args) q.stands) (ap (λ x. x ∷ []) name) refl in
    let args : p.args ≡ q.args = cc in
    let same : Some m ≡ Some n = sym p.reads ∙ (ap (λ x. slice_get x pin) args ∙ q.reads) in
    ap (λ o. unwrap_or o n) same
one_read c (Data i) m n well a b =
    let p = data_reads c m i a in
    let q = data_reads c n i b in
    let name : p.q ≡ q.q = cell_apart c p.q q.q m n p.stands q.stands (p.place ∙ sym q.place) in
    let cells_are : Dff p.q m ≡ Dff q.q n =
    one_definition c (Dff p.q m) (Dff q.q n) q.q well (contained c (Dff p.q m) p.stands)
    (contained c (Dff q.q n) q.stands) (ap (λ x. x ∷ []) name) refl in
    cc
one_read c (Out i) m n well a b =
    let same : Some m ≡ Some n = sym (out_reads c m i a) ∙ out_reads c n i b in
    ap (λ o. unwrap_or o n) same

-- which statement a pin or a data pin is of
abbrev IsOf : List Statement → Sink → Statement → Type 0
IsOf c (Pin gate pin) (Gate x kind args) = signal c x ≡ gate
IsOf c (Data i) (Dff q d) = cell c q ≡ i
IsOf c _ _ = ⊥

is_of : (c : List Statement) (n : Name) (k : Sink) (st : Statement) → Among k (pins_of c n st)
    → IsOf c k st
is_of c n k (Input m) h = absurd h
is_of c n k (Output m) h = absurd h
is_of c n k (Gate x kind args) h =
    let p = mapped_from (λ i. Pin (signal c x) i) (places n args) k h in
    let own : IsOf c (Pin (signal c x) p.0) (Gate x kind args) = refl in
    subst (λ s. IsOf c s (Gate x kind args)) p.2 own
is_of c n k (Dff q d) h = go (bytes_eq n d) refl
  where
    go : (b : Bool) → bytes_eq n d ≡ b → IsOf c k (Dff q d)
    go true e = first (rw e at h)
      where
        first : Among k (Data (cell c q) ∷ []) → IsOf c k (Dff q d)
        first (inl same) =
            let own : IsOf c (Data (cell c q)) (Dff q d) = refl in
            subst (λ s. IsOf c s (Dff q d)) same own
        first (inr bad) = absurd bad
    go false e = let none : ⊥ = rw e at h in absurd none

module _ (c : List Statement) (well : IsWellFormed c) (n : Name) where
  -- a gate and a cell of the rest of the list have other names, so other sinks
  gate_later : (x : Name) (kind : Kind) (args : List Name) (rest : List Statement) (i : ℕ)
      → Among (Gate x kind args) c → ((st : Statement) → Among st rest → Among st c)
      → (Among x (names rest) → ⊥) → (st : Statement) → Among st rest
      → IsOf c (Pin (signal c x) i) st → ⊥
  gate_later x kind args rest i a inside fresh (Input m) b of = of
  gate_later x kind args rest i a inside fresh (Output m) b of = of
  gate_later x kind args rest i a inside fresh (Dff q d) b of = of
  gate_later x kind args rest i a inside fresh (Gate y k more) b of =
      let same : y ≡ x = signal_apart c y x
      (contained (names c) y (defined_among c (Gate y k more) y (inside (Gate y k more) b) refl))
      (contained (names c) x (defined_among c (Gate x kind args) x a refl)) of in
      fresh (subst (λ z. Among z (names rest)) same (defined_among rest (Gate y k more) y b refl))

  cell_later : (q d : Name) (rest : List Statement) → Among (Dff q d) c
      → ((st : Statement) → Among st rest → Among st c)
      → (Among q (names rest) → ⊥) → (st : Statement) → Among st rest → IsOf c (Data (cell c q)) st
      → ⊥
  cell_later q d rest a inside fresh (Input m) b of = of
  cell_later q d rest a inside fresh (Output m) b of = of
  cell_later q d rest a inside fresh (Gate y k more) b of = of
  cell_later q d rest a inside fresh (Dff p e) b of =
      let same : p ≡ q = cell_apart c p q e d (inside (Dff p e) b) a of in
      fresh (subst (λ z. Among z (names rest)) same (defined_among rest (Dff p e) p b refl))

  pins_once : (rest : List Statement) → ((st : Statement) → Among st rest → Among st c)
      → Distinct (names rest) → Distinct (flat_map (pins_of c n) rest)
  pins_once [] inside d = tt
  pins_once (Input m ∷ rest) inside d = pins_once rest (λ st a. inside st (inr a)) d.1
  pins_once (Output m ∷ rest) inside d = pins_once rest (λ st a. inside st (inr a)) d
  pins_once (Gate x kind args ∷ rest) inside d =
      distinct_append (map (λ k. Pin (signal c x) k) (places n args)) (flat_map (pins_of c n) rest)
      (distinct_map (λ k. Pin (signal c x) k) (places n args)
      (λ i j e. let it : Pin (signal c x) i ≡ Pin (signal c x) j = e in cc)
      (distinct_places n args)) (pins_once rest (λ st a. inside st (inr a)) d.1) apart
    where
      apart : (k : Sink) → Among k (map (λ i. Pin (signal c x) i) (places n args))
          → Among k (flat_map (pins_of c n) rest) → ⊥
      apart k a b =
          let p = mapped_from (λ i. Pin (signal c x) i) (places n args) k a in
          let q = joined_from (pins_of c n) rest k b in
          let of : IsOf c (Pin (signal c x) p.0) q.0 =
          subst (λ s. IsOf c s q.0) (sym p.2) (is_of c n k q.0 q.2) in
          gate_later x kind args rest p.0 (inside (Gate x kind args) (inl refl))
          (λ st h. inside st (inr h)) d.0 q.0 q.1 of
  pins_once (Dff p e ∷ rest) inside d =
      distinct_append (pins_of c n (Dff p e)) (flat_map (pins_of c n) rest) (go (bytes_eq n e))
      (pins_once rest (λ st a. inside st (inr a)) d.1) apart
    where
      go : (b : Bool) → Distinct (if b then Data (cell c p) ∷ [] else [])
      go true = ((λ a. a), tt)
      go false = tt

      apart : (k : Sink) → Among k (pins_of c n (Dff p e)) → Among k (flat_map (pins_of c n) rest)
          → ⊥
      apart k a b =
          let q = joined_from (pins_of c n) rest k b in
          own k (is_of c n k (Dff p e) a) q.0 q.1 (is_of c n k q.0 q.2)
        where
          own : (k : Sink) → IsOf c k (Dff p e) → (st : Statement) → Among st rest → IsOf c k st → ⊥
          own (Pin gate pin) bad st h of = bad
          own (Out i) bad st h of = bad
          own (Data i) here st h of =
              cell_later p e rest (inside (Dff p e) (inl refl)) (λ s g. inside s (inr g)) d.0 st h
              (subst (λ j. IsOf c (Data j) st) (sym here) of)

  -- no sink stands twice among the sinks of a name
  pub sinks_once : Distinct (sinks c n)
  sinks_once = distinct_append (flat_map (pins_of c n) c) (map Out (places n (outputs c)))
      (pins_once c (λ st a. a) (distinct_from_pairs (names c) well.once))
      (distinct_map Out (places n (outputs c)) (λ i j e. let it : Out i ≡ Out j = e in cc)
      (distinct_places n (outputs c))) apart
    where
      apart : (k : Sink) → Among k (flat_map (pins_of c n) c)
          → Among k (map Out (places n (outputs c))) → ⊥
      apart k a b =
          let p = joined_from (pins_of c n) c k a in
          let q = mapped_from Out (places n (outputs c)) k b in
          no_out c n p.0 q.0 (subst (λ s. Among s (pins_of c n p.0)) (sym q.2) p.2)
