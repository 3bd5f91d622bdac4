-- Computed tests of names in a list, and the numbers of names.
use Rattle.std.proofs.Common.{◌≡◌, refl, sym, subst, Bool, true, false, List, [], ◌∷◌, arith, inl}
use Rattle.std.{proofs.Common.{inr, ◌⊎◌, ℕ, zero, suc, ap}, specs.Prelude.flat_map}
use Rattle.std.specs.Prelude.{Contains, ◌≢◌, bytes_eq, AllPairs, Some, None, slice_get, unwrap_or}
use Rattle.std.{specs.List.{list_all, list_any, position_or_len}, proofs.lemmas.Bool.cases_Bool}
use Rattle.std.proofs.lemmas.{List.Folds.list_any_at, Map.Views.Contains-from_any}
use Rattle.std.proofs.lemmas.List.{Kept.AllPairs-cons, Elements.Contains-get_or}
use Rattle.std.proofs.{lemmas.Slice.Eq.bytes_eq-Decides, Math.Numerals.one-add}
use Rattle.bench_net.specs.Statement.{Name, Statement, Output, defined, Input, Gate, Dff, read}
use Rattle.bench_net.specs.{reader.Entries.is_in, Scan.{names, signal, name_of, definition}}
use Rattle.bench_net.specs.Circuit.{IsWellFormed}
use Rattle.list_lemmas.proofs.Distinct.{Distinct, distinct_from_pairs, one_place_of}
use Rattle.list_lemmas.proofs.Members.{contained, among, Among, among_joined}

pub same_bytes : (m n : Name) → bytes_eq m n ≡ true → m ≡ n
same_bytes m n e = (bytes_eq-Decides m n).0 e

pub bytes_refl : (n : Name) → bytes_eq n n ≡ true
bytes_refl n = (bytes_eq-Decides n n).1 refl

-- a name that is in the list is contained, and the other way round
pub in_contained : (ns : List Name) (n : Name) → is_in ns n ≡ true → Contains ns n
in_contained ns n e = Contains-from_any same_bytes n ns e

-- if not all of a list pass, one doesn't
pub some_not : {X : Type 0} (p : X → Bool) (xs : List X) → list_all p xs ≡ false
    → (x : X) × Among x xs × (p x ≡ false)
some_not p [] e = cc
some_not p (y ∷ xs) e = elim (cases_Bool (p y)) [
  | inl on ↦ (let x = some_not p xs (rw on at e) in (x.0, inr x.1, x.2))
  | inr off ↦ (y, inl refl, off)
]

-- some element passes if one does
pub any_true : {X : Type 0} (p : X → Bool) (xs : List X) (x : X) → Contains xs x → p x ≡ true
    → list_any p xs ≡ true
any_true p xs x has on = list_any_at p xs has.0 x has.1 (rw has.2 on)

pub among_in : (ns : List Name) (n : Name) → Among n ns → is_in ns n ≡ true
among_in ns n a = any_true (bytes_eq n) ns n (contained ns n a) (bytes_refl n)

-- names each of which stands once
pub pairs_distinct : (ns : List Name) → Distinct ns → AllPairs (λ m n. m ≢ n) ns
pairs_distinct [] d = λ i j e lt len. absurd (omega (arith, len))
pairs_distinct (n ∷ ns) d = AllPairs-cons (λ m n. m ≢ n) n ns
    (λ k e h same. d.0 (subst (λ m. Among m ns) (sym same) (among ns _ (Contains-get_or ns k e h))))
    (pairs_distinct ns d.1)

-- a statement defines one name or none
pub defined_few : (s : Statement) → (defined s ≡ []) ⊎ ((n : Name) × (defined s ≡ n ∷ []))
defined_few (Output n) = inl refl
defined_few _ = inr (_, refl)

-- a name of the list is at its place
pub at_position : (ns : List Name) (n : Name) → Among n ns
    → slice_get ns (position_or_len (bytes_eq n) ns) ≡ Some n
at_position [] n a = absurd a
at_position (m ∷ ns) n (inl e) = rw (e, bytes_refl n) refl
at_position (m ∷ ns) n (inr a) = elim (cases_Bool (bytes_eq n m)) [
  | inl on ↦ rw on (ap Some (sym (same_bytes n m on)))
  | inr off ↦ rw (off, one-add) (at_position ns n a)
]

-- the number of a defined name gives the name back
pub name_of-signal : (c : List Statement) (n : Name) → Contains (names c) n
    → name_of c (signal c n) ≡ Some n
name_of-signal c n at = at_position (names c) n (among (names c) n at)

-- if each name is defined once, the name of a number has that number
pub signal-name_of : (c : List Statement) (s : ℕ) (n : Name) → AllPairs (λ m o. m ≢ o) (names c)
    → name_of c s ≡ Some n → Contains (names c) n → signal c n ≡ s
signal-name_of c s n once e at = one_place_of (names c) (signal c n) s n
    (distinct_from_pairs (names c) once) (name_of-signal c n at) e

-- the definition of a number is the statement that defines its name
pub definition_defines : (c : List Statement) (s : ℕ) (st : Statement) → definition c s ≡ Some st
    → (n : Name) × (defined st ≡ n ∷ []) × (name_of c s ≡ Some n) × Among st c
definition_defines [] s st e = let bad : None ≡ Some st = e in cc
definition_defines (Output m ∷ c) s st e = let p = definition_defines c s st e in
    (p.0, p.1, p.2, inr p.3)
definition_defines (Input m ∷ c) zero st e = let h : Input m ≡ st = ap (λ o. unwrap_or o st) e in
    (m, rw (← h) refl, refl, inl h)
definition_defines (Gate m kind args ∷ c) zero st e =
    let h : Gate m kind args ≡ st = ap (λ o. unwrap_or o st) e in (m, rw (← h) refl, refl, inl h)
definition_defines (Dff q d ∷ c) zero st e = let h : Dff q d ≡ st = ap (λ o. unwrap_or o st) e in
    (q, rw (← h) refl, refl, inl h)
definition_defines (_ ∷ c) (suc s) st e = let p = definition_defines c s st e in
    (p.0, p.1, p.2, inr p.3)

-- each name that a statement of a well-formed list reads is defined
pub read_named : (c : List Statement) (st : Statement) (n : Name) → IsWellFormed c → Among st c
    → Among n (read st) → Contains (names c) n
read_named c st n well a h = well.all_defined n
    (contained (flat_map read c) n (among_joined read c st n a h))
