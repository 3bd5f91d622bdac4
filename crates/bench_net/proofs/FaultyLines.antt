-- Lines of a file: the words that make their names, and the places and names that make an error.
use Rattle.std.proofs.Common.{◌≡◌, ◌<◌, ℕ, zero, suc, sym, refl, ◌∙◌, ap, true, not, List, [], ◌∷◌}
use Rattle.std.{proofs.Common.{◌++◌, take, drop, arith, inl, inr, length-take}, specs.List.list_all}
use Rattle.std.specs.Prelude.{Contains, IsSomeAnd, ◌↔◌, Option, Some, None, slice_get, flat_map}
use Rattle.std.{specs.Str.IsUtf8, proofs.lemmas.Bool.Decides.nat_tests}
use Rattle.std.proofs.lemmas.{Option.slice_get_within, Slice.Zip.AllZip-right}
use Rattle.std.proofs.lemmas.Str.{IsUtf8-from_ascii, Ascii.IsAscii-from_all}
use Rattle.std.proofs.lemmas.List.Concat.{flat_map-append}
use Rattle.std.proofs.lemmas.List.Elements.{filter_map-append, Contains-get_or}
use Rattle.text_lines.specs.Lines.{lines}
use Rattle.bench_net.specs.{Text.is_word_byte, Statement.{Name, Statement, Gate, defined, read}}
use Rattle.bench_net.specs.{Reading.{HasArity, States, LinesState, statements}, Scan.names}
use Rattle.bench_net.specs.{Circuit.{HaveArities, IsStuck}, Refusal.IsCyclic, declared.Kind.Kind}
use Rattle.bench_net.specs.Refusal.{at_line, IsLowest, NoLine, IsRedefinition, IsUndefined}
use Rattle.bench_net.proofs.Names.{defined_few}
use Rattle.list_lemmas.proofs.Members.{Among, among, contained, among_left, among_right}
use Rattle.list_lemmas.proofs.Members.{among_joined, joined_from, each_passes}
use Rattle.list_lemmas.proofs.Distinct.{Distinct, distinct_append}

abbrev pub Stated : Type 0
Stated = Option Statement

-- the names that lines define
abbrev pub names_of : List Stated → List Name
names_of stated = names (statements stated)

-- ---- places

-- the lines before a place
at_front : {X : Type 0} (xs : List X) (j line : ℕ) → line < suc j
    → at_line (take j xs) line ≡ at_line xs line
at_front xs zero (suc k) lt = absurd (omega (arith, lt))
at_front (x ∷ xs) (suc j) (suc (suc k)) lt = at_front xs j (suc k) (omega (arith, lt))
at_front _ _ _ lt = refl

-- the lines around a place
pub around : {X : Type 0} (xs : List X) (i : ℕ) (x : X) → slice_get xs i ≡ Some x
    → xs ≡ take i xs ++ (x ∷ drop (suc i) xs)
around (y ∷ xs) (suc i) x e = ap (λ ys. y ∷ ys) (around xs i x e)
around _ _ x e = cc

-- each statement of a line is among the statements, and the other way round
pub line_among : (stated : List Stated) (line : ℕ) (s : Statement)
    → at_line stated line ≡ Some (Some s) → Among s (statements stated)
line_among stated zero s e = cc
line_among (None ∷ stated) (suc (suc i)) s e = line_among stated (suc i) s e
line_among (Some t ∷ stated) (suc zero) s e = let same : t ≡ s = cc in inl same
line_among (Some t ∷ stated) (suc (suc i)) s e = inr (line_among stated (suc i) s e)
line_among _ _ s e = cc

pub stated_at : (stated : List Stated) (s : Statement) → Among s (statements stated)
    → (i : ℕ) × (slice_get stated i ≡ Some (Some s))
stated_at [] s a = absurd a
stated_at (None ∷ stated) s a = let f = stated_at stated s a in (suc f.0, f.1)
stated_at (Some t ∷ stated) s (inl e) = (0, ap (λ x. Some (Some x)) e)
stated_at (Some t ∷ stated) s (inr a) = let f = stated_at stated s a in (suc f.0, f.1)

-- ---- properties of words and of gates: they are UTF-8, and have the arity of their kind

-- a word is UTF-8
pub word_utf8 : (w : List ℕ) → list_all is_word_byte w ≡ true → IsUtf8 w
word_utf8 w e = IsUtf8-from_ascii w (IsAscii-from_all w (λ k d below.
    let on = each_passes is_word_byte w _ e (Contains-get_or w k d below) in
    grind (arith, nat_tests)))

-- the statements of a text have the arities of their kinds
pub arities_of_text : (text : List ℕ) (stated : List Stated) → LinesState text stated
    → HaveArities (statements stated)
arities_of_text text stated each n kind args at =
    let k = stated_at stated (Gate n kind args) (among _ _ at) in
    go (slice_get (lines text) k.0) (rw k.1 at (AllZip-right States (lines text) stated each k.0))
  where
    go : (o : Option (List ℕ)) → IsSomeAnd o (λ l. States l (Some (Gate n kind args)))
        → HasArity kind args
    go None h = absurd h
    go (Some l) h = h.2.2

-- ---- a line that defines a name that is defined before it

-- the line states a statement with this name, among the ones that f gives
abbrev pub Says : (Statement → List Name) → List Stated → ℕ → Name → Type 0
Says f stated line n = (s : Statement) × (at_line stated line ≡ Some (Some s)) × Contains (f s) n

-- the names that f gives for earlier lines are its names for the lines in front
pub earlier : (f : Statement → List Name) (stated : List Stated) (j : ℕ) (n : Name)
    → ((there : ℕ) × (there < suc j) × Says f stated there n)
    ↔ Among n (flat_map f (statements (take j stated)))
earlier f stated j n = (
  λ e. let there = line_among (take j stated) e.0 e.2.0 (at_front stated j e.0 e.1 ∙ e.2.1) in
      among_joined f _ e.2.0 n there (among _ n e.2.2),
  λ a. let t = joined_from f (statements (take j stated)) n a in
      let k = stated_at (take j stated) t.0 t.1 in
      let below = slice_get_within (take j stated) k.0 (Some t.0) k.1 in
      let lt : suc k.0 < suc j = omega (arith, below, length-take j stated) in
      (suc k.0, lt, (t.0, sym (at_front stated j (suc k.0) lt) ∙ k.1, contained _ n t.2)),
)

distinct_apart : (xs ys : List Name) (n : Name) → Distinct (xs ++ ys) → Among n xs → Among n ys → ⊥
distinct_apart [] ys n d a b = a
distinct_apart (x ∷ xs) ys n d (inl e) b = d.0 (among_right xs ys x (rw (← e) at b))
distinct_apart (x ∷ xs) ys n d (inr a) b = distinct_apart xs ys n d.1 a b

-- if each name is defined once, no line defines one again
pub no_redefinition : (stated : List Stated) → Distinct (names_of stated)
    → NoLine (IsRedefinition stated)
no_redefinition stated once zero bad = cc
no_redefinition stated once (suc j) bad = distinct_apart (names_of (take j stated)) _ bad.0
    (rw (around stated j _ bad.2.1, filter_map-append, flat_map-append) at once)
    ((earlier defined stated j bad.0).0 (bad.1, bad.3, bad.4))
    (among_left (defined bad.2.0) _ bad.0 (among _ bad.0 bad.2.2))

-- and the other way round
once_from : (stated : List Stated)
    → ((i j : ℕ) (s t : Statement) (n : Name) → i < j → slice_get stated i ≡ Some (Some s)
    → slice_get stated j ≡ Some (Some t) → Among n (defined s) → Among n (defined t) → ⊥)
    → Distinct (names_of stated)
once_from [] none = tt
once_from (None ∷ more) none =
    once_from more (λ i j s t n lt. none (suc i) (suc j) s t n (omega (arith, lt)))
once_from (Some s ∷ more) none = distinct_append (defined s) (names_of more)
    (elim (defined_few s) [ inl none ↦ rw none tt | inr some ↦ rw some.1 (λ a. a, tt) ])
    (once_from more (λ i j s t n lt. none (suc i) (suc j) s t n (omega (arith, lt))))
    (λ n a b. let t = joined_from defined (statements more) n b in
    let k = stated_at more t.0 t.1 in none 0 (suc k.0) s t.0 n (omega arith) refl k.1 a t.2)

pub once_each : (stated : List Stated) → NoLine (IsRedefinition stated) → Distinct (names_of stated)
once_each stated none = once_from stated (λ i j s t n lt at_i at_j a b. none (suc j)
    (n, suc i, (t, at_j, contained _ n b), omega (arith, lt), (s, at_i, contained _ n a)))

pub redefined_lowest : (stated : List Stated) (j : ℕ) (s : Statement) (n : Name)
    → slice_get stated j ≡ Some (Some s) → Among n (defined s)
    → Among n (names_of (take j stated)) → Distinct (names_of (take j stated))
    → IsLowest (IsRedefinition stated) (suc j)
redefined_lowest stated j s n at here front once = (
  let e = (earlier defined stated j n).1 front in
      (n, e.0, (s, at, contained _ n here), e.1, e.2),
  λ line lt (m, there, (t, here, has), less, (u, early, too)).
      let at = at_front stated j line lt ∙ here in
      let before = at_front stated j there (omega (arith, lt, less)) ∙ early in
      no_redefinition (take j stated) once line (m, there, (t, at, has), less, (u, before, too)),
)

-- ---- a line that reads a name that no line defines

pub undefined_lowest : (stated : List Stated) (j : ℕ) (s : Statement) (n : Name)
    → slice_get stated j ≡ Some (Some s) → Among n (read s) → ¬ Contains (names_of stated) n
    → ((m : Name) → Among m (flat_map read (statements (take j stated)))
    → Contains (names_of stated) m) → IsLowest (IsUndefined stated) (suc j)
undefined_lowest stated j s n at here not known = (
  (n, (s, at, contained _ n here), not),
  λ line lt bad. bad.2 (known bad.0 ((earlier read stated j bad.0).0 (line, lt, bad.1))),
)

pub no_undefined : (stated : List Stated)
    → ((n : Name) → Contains (flat_map read (statements stated)) n → Contains (names_of stated) n)
    → NoLine (IsUndefined stated)
no_undefined stated known line bad =
    let s = line_among stated line bad.1.0 bad.1.1 in
    bad.2 (known bad.0 (contained _ _ (among_joined read _ bad.1.0 _ s (among _ _ bad.1.2))))

-- ---- a gate line that is on a cycle or fed by one

pub cyclic_lowest : (stated : List Stated) (j : ℕ) (n : Name) (kind : Kind) (args : List Name)
    → slice_get stated j ≡ Some (Some (Gate n kind args)) → IsStuck (statements stated) n
    → ((m : Name) (other : Kind) (more : List Name)
    → Among (Gate m other more) (statements (take j stated)) → ¬ IsStuck (statements stated) m)
    → IsLowest (IsCyclic stated) (suc j)
cyclic_lowest stated j n kind args at stuck free = (
  (n, kind, args, at, stuck),
  λ line lt (m, other, more, here, is).
      free m other more (line_among (take j stated) line _ (at_front stated j line lt ∙ here)) is,
)
