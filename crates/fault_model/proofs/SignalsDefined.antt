-- The definitions of names: the definition of a name's number is the one statement that defines the
-- name.
use Rattle.std.proofs.Common.{◌≡◌, ℕ, refl, sym, ◌∙◌, ap, subst, Bool, true, false, List, [], ◌∷◌}
use Rattle.std.{proofs.Common.{inl, inr, ◌⊎◌}, specs.List.position_or_len}
use Rattle.std.specs.Prelude.{Contains, Option, Some, slice_get, map, bytes_eq, unwrap_or, ◌≢◌}
use Rattle.std.proofs.Math.Numerals.{one-add}
use Rattle.bench_net.specs.Statement.{Name, Statement, Input, Output, Gate, Dff, defined}
use Rattle.bench_net.specs.Scan.{names, signal, name_of, definition, inputs, outputs, cells}
use Rattle.bench_net.{specs.Scan.sources, specs.Circuit.IsWellFormed, proofs.Public.of_input}
use Rattle.bench_net.proofs.Public.{same_bytes, bytes_refl, at_position, name_of-signal, of_cell}
use Rattle.list_lemmas.proofs.{Members.{Among, among, contained, among_append}, Places.at_place}
use Rattle.list_lemmas.proofs.Distinct.{Distinct, distinct_from_pairs, distinct_between}
use Rattle.list_lemmas.proofs.Distinct.{one_place_of}
pub use Rattle.bench_net.proofs.Public.{defined_among}

-- a name other than n is no n for the test of bytes
bytes_differ : (n m : Name) → m ≢ n → bytes_eq n m ≡ false
bytes_differ n m other = go (bytes_eq n m) refl
  where
    go : (b : Bool) → bytes_eq n m ≡ b → bytes_eq n m ≡ false
    go true e = absurd (other (sym (same_bytes n m e)))
    go false e = e

here : {S : Type 0} (n m : Name) (ns : List Name) (x : S) (xs : List S) → m ≡ n
    → slice_get (x ∷ xs) (position_or_len (bytes_eq n) (m ∷ ns)) ≡ Some x
here n m ns x xs e = rw (e, bytes_refl n) refl

later : {S : Type 0} (n m : Name) (ns : List Name) (x y : S) (xs : List S) → m ≢ n
    → slice_get xs (position_or_len (bytes_eq n) ns) ≡ Some y
    → slice_get (x ∷ xs) (position_or_len (bytes_eq n) (m ∷ ns)) ≡ Some y
later n m ns x y xs other at = rw (bytes_differ n m other, one-add) at

head_is : (m n : Name) (st : Statement) → defined st ≡ m ∷ [] → defined st ≡ n ∷ [] → m ≡ n
head_is m n st e g = let h : m ∷ [] ≡ n ∷ [] = sym e ∙ g in cc

definition_in : (c : List Statement) (st : Statement) (n : Name) → Distinct (names c) → Among st c
    → defined st ≡ n ∷ [] → definition c (signal c n) ≡ Some st
definition_in [] st n d a e = absurd a
definition_in (Output m ∷ c) st n d (inl h) e = let bad : [] ≡ n ∷ [] = ap defined h ∙ e in cc
definition_in (Output m ∷ c) st n d (inr a) e = definition_in c st n d a e
definition_in (Input m ∷ c) st n d (inl h) e =
    here n m (names c) (Input m) _ (head_is m n st (sym (ap defined h)) e) ∙ ap Some h
definition_in (Input m ∷ c) st n d (inr a) e = later n m (names c) (Input m) st _
    (λ same. d.0 (subst (λ x. Among x (names c)) (sym same) (defined_among c st n a e)))
    (definition_in c st n d.1 a e)
definition_in (Gate m kind args ∷ c) st n d (inl h) e =
    here n m (names c) (Gate m kind args) _ (head_is m n st (sym (ap defined h)) e) ∙ ap Some h
definition_in (Gate m kind args ∷ c) st n d (inr a) e = later n m (names c) (Gate m kind args) st _
    (λ same. d.0 (subst (λ x. Among x (names c)) (sym same) (defined_among c st n a e)))
    (definition_in c st n d.1 a e)
definition_in (Dff q x ∷ c) st n d (inl h) e =
    here n q (names c) (Dff q x) _ (head_is q n st (sym (ap defined h)) e) ∙ ap Some h
definition_in (Dff q x ∷ c) st n d (inr a) e = later n q (names c) (Dff q x) st _
    (λ same. d.0 (subst (λ y. Among y (names c)) (sym same) (defined_among c st n a e)))
    (definition_in c st n d.1 a e)

-- in a well-formed list the definition of a name's number is the statement that defines it
pub definition-signal : (c : List Statement) (st : Statement) (n : Name) → IsWellFormed c
    → Contains c st → defined st ≡ n ∷ [] → definition c (signal c n) ≡ Some st
definition-signal c st n well at e =
    definition_in c st n (distinct_from_pairs (names c) well.once) (among c st at) e

-- so two statements that define one name are one
pub one_definition : (c : List Statement) (s t : Statement) (n : Name) → IsWellFormed c
    → Contains c s → Contains c t → defined s ≡ n ∷ [] → defined t ≡ n ∷ [] → s ≡ t
one_definition c s t n well p q e g =
    let same : Some s ≡ Some t =
    sym (definition-signal c s n well p e) ∙ definition-signal c t n well q g in
    ap (λ o. unwrap_or o t) same

-- names with one number are one name
pub signal_apart : (c : List Statement) (m n : Name) → Contains (names c) m → Contains (names c) n
    → signal c m ≡ signal c n → m ≡ n
signal_apart c m n p q e =
    let same : Some m ≡ Some n =
    sym (name_of-signal c m p) ∙ (ap (name_of c) e ∙ name_of-signal c n q) in
    ap (λ o. unwrap_or o n) same

-- an output and a cell stand in the list
pub output_in : (c : List Statement) (n : Name) → Among n (outputs c) → Among (Output n) c
output_in [] n a = absurd a
output_in (Output m ∷ c) n (inl e) = inl (ap Output e)
output_in (Output m ∷ c) n (inr a) = inr (output_in c n a)
output_in (_ ∷ c) n a = inr (output_in c n a)

pub cell_in : (c : List Statement) (at : Name × Name) → Among at (cells c) → Among (Dff at.0 at.1) c
cell_in [] at a = absurd a
cell_in (Dff q d ∷ c) at (inl e) = inl (ap (λ p. Dff p.0 p.1) e)
cell_in (Dff q d ∷ c) at (inr a) = inr (cell_in c at a)
cell_in (_ ∷ c) at a = inr (cell_in c at a)

-- a source is an input or the q of a cell
source_by : (c : List Statement) (n : Name) → Among n (sources c)
    → Among (Input n) c ⊎ ((d : Name) × Among (Dff n d) c)
source_by c n a = go (among_append (inputs c) (map (λ cell. cell.0) (cells c)) n a)
  where
    go : Among n (inputs c) ⊎ Among n (map (λ cell. cell.0) (cells c))
        → Among (Input n) c ⊎ ((d : Name) × Among (Dff n d) c)
    go (inl h) = inl (of_input c n h)
    go (inr h) = inr (of_cell c n h)

-- so it is a defined name
pub source_named : (c : List Statement) (n : Name) → Among n (sources c) → Among n (names c)
source_named c n a = go (source_by c n a)
  where
    go : Among (Input n) c ⊎ ((d : Name) × Among (Dff n d) c) → Among n (names c)
    go (inl h) = defined_among c (Input n) n h refl
    go (inr h) = defined_among c (Dff n h.0) n h.1 refl

-- and its definition is no gate
abbrev pub IsSource : Option Statement → Type 0
IsSource (Some (Input n)) = Unit {0}
IsSource (Some (Dff q d)) = Unit {0}
IsSource _ = ⊥

pub source_definition : (c : List Statement) (n : Name) → IsWellFormed c → Among n (sources c)
    → IsSource (definition c (signal c n))
source_definition c n well a = go (source_by c n a)
  where
    go : Among (Input n) c ⊎ ((d : Name) × Among (Dff n d) c) → IsSource (definition c (signal c n))
    go (inl h) = rw (definition-signal c (Input n) n well (contained c (Input n) h) refl) tt
    go (inr h) = rw (definition-signal c (Dff n h.0) n well (contained c (Dff n h.0) h.1) refl) tt

-- no source stands twice in a test row
distinct_sources : (c : List Statement) → Distinct (names c) → Distinct (sources c)
distinct_sources [] d = tt
distinct_sources (Input m ∷ c) d = (λ a. d.0 (source_named c m a), distinct_sources c d.1)
distinct_sources (Output m ∷ c) d = distinct_sources c d
distinct_sources (Gate m kind args ∷ c) d = distinct_sources c d.1
distinct_sources (Dff q x ∷ c) d =
    distinct_between (inputs c) (map (λ cell. cell.0) (cells c)) q (distinct_sources c d.1)
    (λ a. d.0 (source_named c q a))

-- a source is at its place
pub source_place : (c : List Statement) (i : ℕ) (n : Name) → IsWellFormed c
    → slice_get (sources c) i ≡ Some n → position_or_len (bytes_eq n) (sources c) ≡ i
source_place c i n well e = one_place_of (sources c) (position_or_len (bytes_eq n) (sources c)) i n
    (distinct_sources c (distinct_from_pairs (names c) well.once))
    (at_position (sources c) n (at_place (sources c) i n e)) e
