-- Each file is accepted or has an error, in one way, and a plain program decides which.
use Rattle.std.proofs.Common.{◌≡◌, ◌<◌, ◌≤◌, ℕ, zero, suc, refl, sym, ◌∙◌, subst, Bool, true, false}
use Rattle.std.proofs.Common.{not, List, [], ◌∷◌, length, take, arith, inl, inr, ◌⊎◌}
use Rattle.std.specs.Prelude.{◌≢◌, ◌↔◌, option_map, if◌then◌else◌, ◌==◌, nat_lt, Option, Some, None}
use Rattle.std.specs.Prelude.{Result, Ok, Err, slice_get, filter_map, is_none}
use Rattle.std.{specs.List.{AllZip, list_any}, proofs.lemmas.List.nil_from_length}
use Rattle.std.proofs.lemmas.Bool.{eqb-true, both_ways, cond_both, ltb-true, ltb-false, le-ltb}
use Rattle.std.proofs.lemmas.{Bool.{not-true, true_from_ne_false}, Option.none-some}
use Rattle.std.proofs.lemmas.Bool.Decides.{nat_tests}
use Rattle.bench_net.specs.{declared.Limit.TheVariants.{Bytes, Signals, Sinks}, Scan.names}
use Rattle.bench_net.specs.declared.BenchFault.{BenchFault, TheVariants.{Cycle, Empty, Memory}}
use Rattle.bench_net.specs.declared.BenchFault.TheVariants.{TooLarge, Syntax, Redefined, Undefined}
use Rattle.bench_net.specs.{Statement.{Name, Statement, Gate, defined, read}, reader.Entries.is_in}
use Rattle.bench_net.specs.{Reading.{States, LinesState, statements}, reader.Parsed.stated_of}
use Rattle.bench_net.specs.Circuit.{IsWellFormed, max_bytes, max_signals, max_sinks, sink_count}
use Rattle.bench_net.specs.Refusal.{at_line, IsLowest, NoLine, IsWithin, IsSyntaxFault}
use Rattle.bench_net.specs.Refusal.{IsRedefinition, IsUndefined, IsCyclic, IsAccepted, IsRefused}
use Rattle.bench_net.proofs.Reader.{sound_states, complete_states, unstated}
use Rattle.bench_net.proofs.Names.{any_true, in_contained, among_in, pairs_distinct}
use Rattle.bench_net.proofs.FaultyLines.{Stated, names_of, stated_at, line_among, earlier}
use Rattle.bench_net.proofs.FaultyLines.{no_redefinition, no_undefined, once_each}
use Rattle.bench_net.proofs.StuckSets.{stuck_names, stuck_set, stuck_left, none_stuck, numbering}
use Rattle.text_lines.specs.Lines.{lines}
use Rattle.list_lemmas.proofs.Members.{among, contained, some_passes, joined_from}
use Rattle.list_lemmas.proofs.Distinct.{distinct_from_pairs}

-- ---- the program

-- whether a value passes a test, if there is a value
abbrev pub passes : {Y : Type 0} → (Y → Bool) → Option Y → Bool
passes test None = false
passes test (Some y) = test y

-- the first line that passes a test of its place and its statement
abbrev pub first : {Y : Type 0} → (ℕ → Y → Bool) → List Y → Option ℕ
first test [] = None
first test (y ∷ ys) = if test 0 y then Some 1 else option_map suc (first (λ i. test (suc i)) ys)

-- the errors of lines
abbrev pub is_unread : List ℕ → Bool
is_unread bytes = is_none (stated_of bytes)

abbrev pub redefines : List Name → Statement → Bool
redefines front s = list_any (is_in front) (defined s)

abbrev pub reads_unknown : List Statement → Statement → Bool
reads_unknown c s = list_any (λ n. not (is_in (names c) n)) (read s)

abbrev pub is_stuck : List Statement → Statement → Bool
is_stuck c (Gate n kind args) = is_in (stuck_names c) n
is_stuck c _ = false

abbrev pub line_or : (ℕ → BenchFault) → Option ℕ → Result (List Statement) BenchFault
    → Result (List Statement) BenchFault
line_or fault None later = later
line_or fault (Some line) later = Err (fault line)

-- the result past the limits, from the first line with each error
abbrev pub answer_by : Option ℕ → Option ℕ → Option ℕ → List Statement
    → Result (List Statement) BenchFault
answer_by r u y c = line_or Redefined r (line_or Undefined u (line_or Cycle y
    (if length c == 0 then Err Empty else Ok c)))

abbrev pub answer_stated : List Stated → Result (List Statement) BenchFault
answer_stated stated =
    let c = statements stated in
    if nat_lt max_signals (length (names c)) then Err (TooLarge Signals)
    else if nat_lt max_sinks (sink_count c) then Err (TooLarge Sinks)
    else answer_by (first (λ i. passes (redefines (names_of (take i stated)))) stated)
    (first (λ i. passes (reads_unknown c)) stated) (first (λ i. passes (is_stuck c)) stated) c

-- the reader's result for a file
abbrev pub answer_text : List ℕ → Result (List Statement) BenchFault
answer_text text =
    let ls = lines text in
    if nat_lt max_bytes (length text) then Err (TooLarge Bytes)
    else line_or Syntax (first (λ i. is_unread) ls) (answer_stated (filter_map stated_of ls))

-- ---- the first line with an error

-- the first line with an error, or None if no line has it
abbrev pub IsFirst : (ℕ → Type 0) → Option ℕ → Type 0
IsFirst Faulty None = NoLine Faulty
IsFirst Faulty (Some line) = IsLowest Faulty line

first_one : (F : ℕ → Type 0) (o p : Option ℕ) → IsFirst F o → IsFirst F p → o ≡ p
first_one F _ _ a b = grind (arith, a, b)

-- a property of the place before all lines, and of each line, holds of each number
from_zero : (P : ℕ → Type 0) → P 0 → ((i : ℕ) → P (suc i)) → (line : ℕ) → P line
from_zero P none some zero = none
from_zero P none some (suc i) = some i

-- if the lines with the error are the lines that pass
is_first : {Y : Type 0} (ys : List Y) (F : ℕ → Type 0) (test : ℕ → Y → Bool) → ¬ F 0
    → ((i : ℕ) → F (suc i) ↔ (passes (test i) (slice_get ys i) ≡ true)) → IsFirst F (first test ys)
is_first [] F test none same =
    from_zero (λ line. ¬ F line) none (λ i f. let bad : false ≡ true = (same i).0 f in cc)
is_first (y ∷ ys) F test none same = cond_both (test 0 y) _ _ (IsFirst F)
    (λ on. ((same 0).1 on, from_zero (λ k. k < 1 → ¬ F k) (λ _. none) (λ i h f. omega (arith, h))))
    (λ off. behind (first (λ i. test (suc i)) ys)
    (is_first ys (λ line. F (suc line)) (λ i. test (suc i)) (λ f. both_ways _ off ((same 0).0 f))
    (λ i. same (suc i))))
  where
    behind : (o : Option ℕ) → IsFirst (λ line. F (suc line)) o → IsFirst F (option_map suc o)
    behind None free = from_zero (λ line. ¬ F line) none free
    behind (Some line) (at, free) =
        (at, from_zero (λ k. k < suc line → ¬ F k) (λ lt. none) (λ i h. free i (omega (arith, h))))

-- ---- the four errors

syntax_first : (text : List ℕ) → IsFirst (IsSyntaxFault text) (first (λ i. is_unread) (lines text))
syntax_first text =
    is_first (lines text) (IsSyntaxFault text) (λ i. is_unread) (λ bad. none-some _ bad.1)
    (λ i. (λ bad. rw bad.1 ((unstated bad.0).0 bad.2), from i (slice_get (lines text) i) refl))
  where
    from : (i : ℕ) (o : Option (List ℕ)) → slice_get (lines text) i ≡ o → passes is_unread o ≡ true
        → IsSyntaxFault text (suc i)
    from i None at on = cc
    from i (Some l) at on = (l, at, (unstated l).1 on)

-- lines that state something are all read
read_all : (ls : List (List ℕ)) (stated : List Stated) → AllZip States ls stated
    → (first (λ i. is_unread) ls ≡ None) × (filter_map stated_of ls ≡ stated)
read_all [] [] all = (refl, refl)
read_all (l ∷ ls) (s ∷ ss) all = grind (arith, complete_states l s all.0, read_all ls ss all.1)
read_all _ _ all = absurd all

-- and after such lines the first that isn't read is the lowest
first_unread : (ls : List (List ℕ)) (stated : List Stated) (k : ℕ) (l : List ℕ)
    → AllZip States (take k ls) stated → slice_get ls k ≡ Some l → stated_of l ≡ None
    → first (λ i. is_unread) ls ≡ Some (suc k)
first_unread (m ∷ ls) (s ∷ stated) (suc k) l all at none =
    rw (complete_states m s all.0, first_unread ls stated k l all.1 at none) refl
first_unread _ stated k l all at none = grind (arith, at, none)

pub unread_lowest : (text : List ℕ) (k : ℕ) (l : List ℕ) (stated : List Stated)
    → slice_get (lines text) k ≡ Some l → stated_of l ≡ None
    → AllZip States (take k (lines text)) stated → IsLowest (IsSyntaxFault text) (suc k)
unread_lowest text k l stated at none all = subst (IsFirst (IsSyntaxFault text))
    (first_unread (lines text) stated k l all at none) (syntax_first text)

-- the statement of a line that passes
passed : (test : Statement → Bool) (o : Option Stated) → passes (passes test) o ≡ true
    → (s : Statement) × (o ≡ Some (Some s)) × (test s ≡ true)
passed test (Some (Some s)) on = (s, refl, on)
passed test _ on = cc

module _ (stated : List Stated) where
  redefined_first : IsFirst (IsRedefinition stated)
      (first (λ i. passes (redefines (names_of (take i stated)))) stated)
  redefined_first = is_first stated (IsRedefinition stated) _ (λ bad. none-some _ bad.2.1) (λ i. (
    λ (n, k, (s, at, here), lt, says).
        let e = (earlier defined stated i n).0 (k, lt, says) in
        rw at (any_true _ (defined s) n here (among_in _ _ e)),
    λ on. let (s, at, clash) = passed _ (slice_get stated i) on in
        let (n, here, front) = some_passes _ (defined s) clash in
        let e = (earlier defined stated i n).1 (among _ n (in_contained _ n front)) in
        (n, e.0, (s, at, here), e.1, e.2),
  ))

  undefined_first : IsFirst (IsUndefined stated)
      (first (λ i. passes (reads_unknown (statements stated))) stated)
  undefined_first = is_first stated (IsUndefined stated) _ (λ bad. none-some _ bad.1.1) (λ i. (
    λ (n, (s, at, here), new).
        rw at (any_true _ (read s) n here (grind (arith, in_contained (names_of stated), new))),
    λ on. let (s, at, unknown) = passed _ (slice_get stated i) on in
        let (n, here, off) = some_passes _ (read s) unknown in
        (n, (s, at, here), λ has. both_ways _ (not-true _ off) (among_in _ _ (among _ _ has))),
  ))

  cyclic_first : IsFirst (IsCyclic stated)
      (first (λ i. passes (is_stuck (statements stated))) stated)
  cyclic_first = is_first stated (IsCyclic stated) _ (λ bad. none-some _ bad.3) (λ i. (
    λ bad. rw bad.3 (stuck_left (statements stated) bad.0 bad.4),
    λ on. let (s, at, stuck) = passed _ (slice_get stated i) on in from i s at stuck,
  ))
    where
      from : (i : ℕ) (s : Statement) → slice_get stated i ≡ Some (Some s)
          → is_stuck (statements stated) s ≡ true → IsCyclic stated (suc i)
      from i (Gate n kind args) at on =
          (n, kind, args, at, (is_in (stuck_names (statements stated)), stuck_set _, on))
      from i _ at on = cc

  -- a file without an error is well-formed
  well : statements stated ≢ [] → NoLine (IsRedefinition stated) → NoLine (IsUndefined stated)
      → NoLine (IsCyclic stated) → IsWellFormed (statements stated)
  well some once known acyclic = record {
    some = some;
    once = pairs_distinct _ (once_each stated once);
    all_defined = λ n has.
        let r = joined_from read (statements stated) n (among _ n has) in
        let l = stated_at stated r.0 r.1 in
        in_contained _ n (true_from_ne_false _ (λ off. known (suc l.0)
        (n, (r.0, l.1, contained _ n r.2), λ has. both_ways _ off (among_in _ n (among _ n has)))));
    acyclic = numbering (statements stated) (λ members set n inside.
        let a = (set n inside).1 in
        let l = stated_at stated (Gate n a.0 a.1) (among _ _ a.2) in
        acyclic (suc l.0) (n, a.0, a.1, l.1, (members, set, inside)));
  }

-- ---- the results

abbrev IsAnswer : List ℕ → Result (List Statement) BenchFault → Type 0
IsAnswer text (Ok c) = IsAccepted text c
IsAnswer text (Err fault) = IsRefused text fault

late : (text : List ℕ) (stated : List Stated) (r u y : Option ℕ) → IsWithin text stated
    → IsFirst (IsRedefinition stated) r → IsFirst (IsUndefined stated) u
    → IsFirst (IsCyclic stated) y → IsAnswer text (answer_by r u y (statements stated))
late text stated (Some l) u y within once known free = (stated, within, once)
late text stated None (Some l) y within once known free = (stated, within, once, known)
late text stated None None (Some l) within once known free = (stated, within, once, known, free)
late text stated None None None within once known free =
    cond_both _ (Err Empty) (Ok (statements stated)) (IsAnswer text)
    (λ e. (stated, within, nil_from_length _ (eqb-true _ 0 e)))
    (λ off. (stated, within, refl, well stated (λ none. grind (arith, none)) once known free))

-- lines without an error state what is read
all_read : (ls : List (List ℕ))
    → ((i : ℕ) (l : List ℕ) → slice_get ls i ≡ Some l → stated_of l ≢ None)
    → AllZip States ls (filter_map stated_of ls)
all_read [] some = tt
all_read (l ∷ ls) some = go (stated_of l) refl (all_read ls (λ i. some (suc i)))
  where
    go : (o : Option Stated) → stated_of l ≡ o → AllZip States ls (filter_map stated_of ls)
        → AllZip States (l ∷ ls) (filter_map stated_of (l ∷ ls))
    go None e more = absurd (some 0 l refl e)
    go (Some s) e more = rw e (sound_states l s e, more)

-- the plain reader's result is the result of the relations
answered : (text : List ℕ) → IsAnswer text (answer_text text)
answered text = cond_both _ _ _ (IsAnswer text) (λ e. ltb-true _ _ e)
    (λ e. go (ltb-false _ _ e) _ (syntax_first text))
  where
    stated : List Stated
    stated = filter_map stated_of (lines text)

    go : length text ≤ max_bytes → (o : Option ℕ) → IsFirst (IsSyntaxFault text) o
        → IsAnswer text (line_or Syntax o (answer_stated stated))
    go bytes (Some l) bad = (bytes, bad)
    go bytes None none =
        let bad = λ (i : ℕ) (l : List ℕ) (at : slice_get (lines text) i ≡ Some l)
        (e : stated_of l ≡ None). none (suc i) (l, at, (unstated l).1 (rw e refl)) in
        let each = all_read (lines text) bad in
        cond_both _ _ _ (IsAnswer text) (λ e. (bytes, stated, each, ltb-true _ _ e))
        (λ f. cond_both _ _ _ (IsAnswer text)
        (λ e. (bytes, stated, each, ltb-false _ _ f, ltb-true _ _ e))
        (λ e. late text stated _ _ _ (record {
          bytes = bytes;
          each = each;
          signals = ltb-false _ _ f;
          sinks = ltb-false _ _ e;
        }) (redefined_first stated) (undefined_first stated) (cyclic_first stated)))

pub accepted_by : (text : List ℕ) (c : List Statement) → answer_text text ≡ Ok c → IsAccepted text c
accepted_by text c e = subst (IsAnswer text) e (answered text)

pub refused_by : (text : List ℕ) (fault : BenchFault) → answer_text text ≡ Err fault
    → IsRefused text fault
refused_by text fault e = subst (IsAnswer text) e (answered text)

pub some_answer : (text : List ℕ)
    → ((c : List Statement) × IsAccepted text c) ⊎ ((fault : BenchFault) × IsRefused text fault)
some_answer text = go (answer_text text) (answered text)
  where
    go : (r : Result (List Statement) BenchFault) → IsAnswer text r
        → ((c : List Statement) × IsAccepted text c) ⊎ ((fault : BenchFault) × IsRefused text fault)
    go (Ok c) a = inl (c, a)
    go (Err fault) a = inr (fault, a)

-- ---- and the result of the relations is the plain reader's, so there is only one

stated_answer : (text : List ℕ) (stated : List Stated) → length text ≤ max_bytes
    → LinesState text stated → answer_text text ≡ answer_stated stated
stated_answer text stated bytes each =
    grind (arith, nat_tests, bytes, read_all (lines text) stated each)

answer_is : (text : List ℕ) (stated : List Stated) → IsWithin text stated → (r u y : Option ℕ)
    → IsFirst (IsRedefinition stated) r → IsFirst (IsUndefined stated) u
    → IsFirst (IsCyclic stated) y → answer_text text ≡ answer_by r u y (statements stated)
answer_is text stated within r u y once known free =
    stated_answer text stated within.bytes within.each ∙ rw (
      le-ltb _ (length (names_of stated)) within.signals,
      le-ltb _ (sink_count (statements stated)) within.sinks,
      first_one (IsRedefinition stated) _ r (redefined_first stated) once,
      first_one (IsUndefined stated) _ u (undefined_first stated) known,
      first_one (IsCyclic stated) _ y (cyclic_first stated) free,
    ) refl

exact : (text : List ℕ) (r : Result (List Statement) BenchFault) → IsAnswer text r
    → answer_text text ≡ r
exact text (Err (TooLarge Bytes)) past = grind (arith, nat_tests, past)
exact text (Err (Syntax l)) (bytes, is) =
    grind (arith, bytes, first_one (IsSyntaxFault text) _ (Some l) (syntax_first text) is)
exact text (Err (TooLarge Signals)) (bytes, stated, each, past) =
    grind (arith, nat_tests, stated_answer text stated bytes each, past)
exact text (Err (TooLarge Sinks)) (bytes, stated, each, few, past) =
    grind (arith, nat_tests, stated_answer text stated bytes each, few, past)
exact text (Err (Redefined l)) (stated, within, is) =
    answer_is text stated within (Some l) _ _ is (undefined_first stated) (cyclic_first stated)
exact text (Err (Undefined l)) (stated, within, once, is) =
    answer_is text stated within None (Some l) _ once is (cyclic_first stated)
exact text (Err (Cycle l)) (stated, within, once, known, is) =
    answer_is text stated within None None (Some l) once known is
exact text (Err Empty) (stated, within, empty) =
    let none = λ (line : ℕ) (s : Statement) (at : at_line stated line ≡ Some (Some s)).
    rw empty at (line_among stated line s at) in
    answer_is text stated within None None None (λ l bad. none l bad.2.0 bad.2.1)
    (λ l bad. none l bad.1.0 bad.1.1) (λ l bad. none l _ bad.3) ∙ rw empty refl
exact text (Err Memory) bad = absurd bad
exact text (Ok c) (stated, within, same, is) =
    let well : IsWellFormed (statements stated) = rw same at is in
    let number = well.acyclic in
    answer_is text stated within None None None
    (no_redefinition stated (distinct_from_pairs _ well.once))
    (no_undefined stated well.all_defined)
    (λ l bad. none_stuck _ number.0 number.1 bad.4.0 bad.4.1 bad.0 bad.4.2)
    ∙ grind (arith, same, well.some, nil_from_length (statements stated))

pub one_answer : (text : List ℕ) (r s : Result (List Statement) BenchFault)
    → IsAnswer text r → IsAnswer text s → r ≡ s
one_answer text r s a b = sym (exact text r a) ∙ exact text s b
