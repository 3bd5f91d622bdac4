-- The entries of lines, the numbering of lines, and the meaning of the passes over them for the
-- file.
use Rattle.std.proofs.Common.{◌≡◌, ◌<◌, ◌+◌, ◌==◌, ℕ, zero, suc, refl, sym, ap, List, [], ◌∷◌, ◌++◌}
use Rattle.std.proofs.Common.{length, length-append, take, map, arith, get_or, ◌≤◌, ◌∙◌, append-nil}
use Rattle.std.{proofs.Common.{subst, ◌≢◌, false, filter, inl, inr}, specs.Borrow.Bor}
use Rattle.std.specs.Prelude.{Option, Some, None, slice_get, flat_map, bytes_eq, ◌||◌, Contains}
use Rattle.std.specs.{Prelude.{AllPairs, option_map}, List.{slice_split, list_any, All, list_all}}
use Rattle.std.{specs.Str.Lines.strip_carriage_return, proofs.lemmas.Slice.Zip.AllZip-long}
use Rattle.std.proofs.lemmas.List.{map_push, length-map, take-map, map-append, take_more}
use Rattle.std.proofs.lemmas.{List.{get_or-append-add, get_or_append_left}, Grind.common_steps}
use Rattle.std.proofs.lemmas.{Option.{slice_get-map, slice_get_read}, Bool.both_ways, Simd.map-map}
use Rattle.std.proofs.lemmas.List.Concat.{flat_map-append, get_or-flat_map}
use Rattle.std.proofs.lemmas.List.Folds.{length-flat_map-take, flat_map-map}
use Rattle.std.proofs.lemmas.List.Elements.{All-append, All-map, All-contains, Contains-get_or}
use Rattle.indexmap.proofs.SetLemmas.{AllZip-push}
use Rattle.bench_net.specs.Statement.{Statement, Name, read, Output, Gate, defined, defines}
use Rattle.bench_net.specs.{Reading.{States, statements}, reader.Entries.{AreCounts, AreNamesFrom}}
use Rattle.bench_net.specs.{Refusal.{IsLowest, IsSyntaxFault, IsRefused}, declared.Limit.Limit}
use Rattle.bench_net.specs.{reader.Parsed.{stated_of, names_of, stands_for, FailsBy}, Scan.names}
use Rattle.bench_net.specs.reader.Entries.{Entry, numbered_from, AreStated, is_in, names_in}
use Rattle.bench_net.specs.reader.Entries.{defined_of, IsNextFor, IsNumberedLine, AreNumberedLines}
use Rattle.bench_net.specs.reader.Entries.{entry_of, entries_of, statements_in, reads_in, read_of}
use Rattle.bench_net.specs.reader.Entries.{AreWithin, AreFew, ArePast, MayBe, AreStatedFrom}
use Rattle.bench_net.{specs.declared.read.Counts.Counts, proofs.Reader.sound_states}
use Rattle.bench_net.{proofs.OneAnswer.unread_lowest, specs.declared.line.NumberedLine.NumberedLine}
use Rattle.bench_net.specs.declared.{number.StatedLine.StatedLine, BenchFault.BenchFault}
use Rattle.bench_net.specs.Stored.{name_at, statement_of, statements_of, defined_numbers}
use Rattle.bench_net.specs.Stored.{read_numbers, numbers, AreStatements, AreRefused, AreLinesOf}
use Rattle.bench_net.{proofs.Names.{defined_few, among_in, some_not}, specs.Circuit.sink_count}
use Rattle.bench_net.specs.declared.Limit.TheVariants.{Bytes, Signals, Sinks}
use Rattle.bench_net.specs.declared.BenchFault.TheVariants.{TooLarge, Redefined, Undefined}
use Rattle.bench_net.proofs.FaultyLines.{arities_of_text, redefined_lowest, undefined_lowest}
use Rattle.bench_net.proofs.FaultyLines.{cyclic_lowest, no_redefinition, no_undefined}
use Rattle.list_lemmas.proofs.Members.{Among, contained, mapped_from, joined_from, among_joined}
use Rattle.list_lemmas.proofs.Members.{among_right, among}
use Rattle.list_lemmas.proofs.Distinct.{Distinct, distinct_from_pairs}
use Rattle.text_lines.specs.Lines.{lines}
use Rattle.bench_net.specs.declared.line.NumberedLine.TheVariants as line
use Rattle.bench_net.specs.declared.BenchFault.TheVariants as fault

-- a line states what its entry stands for, after the same statements
pub entry_at : (line : ℕ) (stated : List (Option Statement)) (i n : ℕ) (s : Statement)
    → slice_get (numbered_from line stated) i ≡ Some (n, s)
    → (j : ℕ) × (n ≡ line + j) × (slice_get stated j ≡ Some (Some s))
    × (statements (take j stated) ≡ map (λ e. e.1) (take i (numbered_from line stated)))
entry_at line [] i n s e = let bad : None ≡ Some (n, s) = e in cc
entry_at line (None ∷ stated) i n s e =
    let p = entry_at (suc line) stated i n s e in (suc p.0, omega (arith, p.1), p.2, p.3)
entry_at line (Some t ∷ stated) zero n s e = (0, grind (arith, e), grind (arith, e), refl)
entry_at line (Some t ∷ stated) (suc i) n s e =
    let p = entry_at (suc line) stated i n s e in
    (suc p.0, omega (arith, p.1), p.2, ap (λ c. t ∷ c) p.3)

pub statements_numbered : (line : ℕ) (stated : List (Option Statement))
    → map (λ e. e.1) (numbered_from line stated) ≡ statements stated
statements_numbered line [] = refl
statements_numbered line (None ∷ stated) = statements_numbered (suc line) stated
statements_numbered line (Some s ∷ stated) = ap (λ c. s ∷ c) (statements_numbered (suc line) stated)

-- one more line
push : (line : ℕ) (stated : List (Option Statement)) (o : Option Statement) (n : ℕ)
    → n ≡ line + length stated
    → numbered_from line (stated ++ o ∷ []) ≡ numbered_from line stated ++ numbered_from n (o ∷ [])
push line [] o n e = let same : line ≡ n = omega arith in rw same refl
push line (None ∷ stated) o n e = push (suc line) stated o n (omega arith)
push line (Some t ∷ stated) o n e = let more = push (suc line) stated o n (omega arith) in cc

-- the lines that an iterator has given so far
abbrev pub given : List (Bor (List ℕ)) → List (List ℕ)
given parts = map (λ x. x.now) parts

module _ (parts : List (Bor (List ℕ))) (x : Bor (List ℕ)) where
  pub given_more : {first : ℕ} {entries : List Entry} {o : Option Statement} (n : ℕ)
      → n ≡ first + length parts → AreStatedFrom first (given parts) entries
      → stated_of x.now ≡ Some o
      → AreStatedFrom first (given (parts ++ x ∷ [])) (entries ++ numbered_from n (o ∷ []))
  given_more {first} {o = o} n number h e = record {
    stated = h.stated ++ o ∷ [];
    each = rw map_push (AllZip-push States (given parts) h.stated _ o h.each (sound_states _ o e));
    same =
        let long = simp length-map at (AllZip-long States (given parts) h.stated h.each) in
        rw h.same (sym (push first h.stated o n (omega arith)));
  }

  -- the first line that states nothing that a line may state
  pub refused_line : (text : List ℕ) {first : ℕ} {entries : List Entry}
      → given parts ≡ take (length parts) (lines text) → length parts < length (lines text)
      → x.now ≡ get_or (lines text) (length parts) x.now → AreStatedFrom first (given parts) entries
      → stated_of x.now ≡ None → IsLowest (IsSyntaxFault text) (suc (length parts))
  refused_line text so_far below turn h none = unread_lowest text (length parts) x.now h.stated
      (slice_get_read (lines text) _ _ x.now refl below turn) none (rw (← so_far) h.each)

module _ {A : Type 0} (xs : List A) (i : ℕ) (x : A) (h : i < length xs)
    (e : x ≡ get_or xs i x) where
  -- the names of one more line
  pub names_more : (f : A → List Name)
      → flat_map f (take (i + 1) xs) ≡ flat_map f (take i xs) ++ f x
  names_more f = rw (take_more xs i x h, ← e) (grind (arith, common_steps))

  -- the names so far and the names of this line are no more than all
  pub names_fit : (f : A → List Name)
      → length (flat_map f (take i xs)) + length (f x) ≤ length (flat_map f xs)
  names_fit f = rw (← e) at (length-flat_map-take f xs i x h)

-- the search for a key compares its bytes
pub key_in : (ks : List (Bor Name)) (n : Name)
    → list_any (λ k. bytes_eq n k.now) ks ≡ is_in (names_of ks) n
key_in [] n = refl
key_in (k ∷ ks) n = ap (λ more. bytes_eq n k.now || more) (key_in ks n)

-- the number of the name that a line defines is the number of names before it
pub next_for : (stated : List StatedLine) (i : ℕ) (line : StatedLine) → i < length stated
    → line ≡ get_or stated i line
    → IsNextFor (names_in stated) (length (names_in (take i stated))) (stands_for line.statement)
next_for stated i line h e =
    let place = get_or-flat_map defined_of stated i 0 line [] h in
    grind (arith, common_steps, e, place, defined_few (stands_for line.statement))

-- names from a number on are no more than all
pub from_fits : (ns : List Name) (first : ℕ) (own : List Name) → AreNamesFrom ns first own
    → first + length own ≤ length ns
from_fits ns first own from = omega (
  arith,
  from.3,
  ap length from.2,
  length-append from.0 (own ++ from.1),
  length-append own from.1,
)

name_from : (ns : List Name) (first : ℕ) (own : List Name) (k : ℕ) → AreNamesFrom ns first own
    → k < length own → name_at ns (first + k) ≡ name_at own k
name_from ns first own k (before, after, is, place) below = ap (λ l. get_or l (first + k) []) is
    ∙ ap (λ n. get_or (before ++ (own ++ after)) (n + k) []) (sym place)
    ∙ get_or-append-add before (own ++ after) k [] ∙ get_or_append_left own after [] k below

-- the number of the name that a line defines, if the names of some lines have these numbers
pub next_from : (ns : List Name) (first : ℕ) (stated : List StatedLine) (i : ℕ) (line : StatedLine)
    → AreNamesFrom ns first (names_in stated) → i < length stated → line ≡ get_or stated i line
    → IsNextFor ns (first + length (names_in (take i stated))) (stands_for line.statement)
next_from ns first stated i line from h e =
    let s = stands_for line.statement in
    let k = length (names_in (take i stated)) in
    let own = next_for stated i line h e in
    let fits = names_fit stated i line h e defined_of in
    elim (defined_few s) [
      | inl none ↦ rw none refl
      | inr one ↦
          (let below : k < length (names_in stated) = omega (arith, fits, ap length one.1) in
          ap (λ m. map (λ n. m) (defined s)) (name_from ns first (names_in stated) k from below)
          ∙ own)
    ]

-- one more line, numbered
pub numbered_more : (ns : List Name) (stated : List StatedLine) (lines : List NumberedLine) (i : ℕ)
    (new : StatedLine) (l : NumberedLine) (next : ℕ) → i < length stated → new ≡ get_or stated i new
    → AreNumberedLines ns (take i stated) lines → next + length (defined_of new) ≤ length ns
    → IsNumberedLine ns next (stands_for new.statement) l
    → AreNumberedLines ns (take (i + 1) stated) (lines ++ l ∷ [])
numbered_more ns stated lines i new l next h e so_far fits one = record {
  stand = rw (items, map_push, map_push, so_far.stand, one.stands) refl;
  in_range = rw (more, one.own) (All-append below _ _ so_far.in_range (All-append below _ _
      (All-map below (λ n. next) (defined_of new) (λ k d lt. omega (arith, fits, lt)))
      one.in_range));
}
  where
    below : ℕ → Type 0
    below number = number < length ns

    items : take (i + 1) stated ≡ take i stated ++ new ∷ []
    items = take_more stated i new h ∙ ap (λ x. take i stated ++ x ∷ []) (sym e)

    more : flat_map numbers (lines ++ l ∷ []) ≡ flat_map numbers lines ++ numbers l
    more = flat_map-append numbers lines (l ∷ [])
        ∙ ap (λ ks. flat_map numbers lines ++ ks) (append-nil (numbers l))

-- the names that a stored line reads are the names of its numbers
reads_of : (ns : List Name) (l : NumberedLine)
    → read (statement_of ns l) ≡ map (name_at ns) (read_numbers l)
reads_of ns (line.Input s) = refl
reads_of ns _ = refl

pub reads_numbers : (ns : List Name) (lines : List NumberedLine)
    → flat_map read (statements_of ns lines) ≡ map (name_at ns) (flat_map read_numbers lines)
reads_numbers ns [] = refl
reads_numbers ns (l ∷ lines) = rw (reads_of ns l, reads_numbers ns lines)
    (sym (map-append (name_at ns) (read_numbers l) (flat_map read_numbers lines)))

-- lines hold the numbers that they read
pub reads_held : (ls : List NumberedLine) (k : ℕ) → Among k (flat_map read_numbers ls)
    → Among k (flat_map numbers ls)
reads_held ls k a =
    let at = joined_from read_numbers ls k a in
    among_joined numbers ls at.0 k at.1 (among_right (defined_numbers at.0) _ k at.2)

-- each name that numbered lines read is among the names
pub known : (ns : List Name) (ls : List NumberedLine)
    → All (λ number. number < length ns) (flat_map numbers ls)
    → (n : Name) → Among n (flat_map read (statements_of ns ls)) → Contains ns n
known ns ls in_range n a =
    let k = mapped_from (name_at ns) (flat_map read_numbers ls) n
    (subst (Among n) (reads_numbers ns ls) a) in
    let below = All-contains (λ number. number < length ns) (flat_map numbers ls) k.0 in_range
    (contained _ k.0 (reads_held ls k.0 k.1)) in
    subst (Contains ns) k.2 (Contains-get_or ns k.0 [] below)

-- the error of a file in which a line has an error
pub may_be : (text : List ℕ) (refusal fault : BenchFault) (Gone : Type 0)
    → FailsBy refusal Gone fault → (Gone → IsRefused text refusal) → MayBe text fault
may_be text refusal fault Gone (inl e) h = inl e
may_be text refusal fault Gone (inr p) h = inr (rw p.0 (h p.1))

-- the names that statements give
names_by : (f : Statement → List Name) (lines : List StatedLine) (stated : List (Option Statement))
    → entries_of lines ≡ numbered_from 1 stated
    → flat_map (λ line. f (stands_for line.statement)) lines ≡ flat_map f (statements stated)
names_by f lines stated e = sym (flat_map-map f (λ line. stands_for line.statement) lines)
    ∙ ap (flat_map f) (sym (map-map (λ entry. entry.1) entry_of lines)
    ∙ ap (map (λ entry. entry.1)) e ∙ statements_numbered 1 stated)

-- numbers as far as a count goes are past a limit exactly if the real ones are
pub counted_few : (names reads : List Name) (counts : Counts) → AreCounts names reads counts
    → AreFew counts.signals counts.sinks → AreFew (length names) (length reads)
counted_few names reads counts are few = (omega (arith, are, few), omega (arith, are, few))

pub counted_past : (names reads : List Name) (counts : Counts) (limit : Limit)
    → AreCounts names reads counts → ArePast counts.signals counts.sinks limit
    → ArePast (length names) (length reads) limit
counted_past names reads counts Bytes are past = absurd past
counted_past names reads counts Signals are past = omega (arith, are, past)
counted_past names reads counts Sinks are past =
    (omega (arith, are, past), omega (arith, are, past))

-- the limits on signals and sinks
module _ (text : List ℕ) (stated : List StatedLine)
    (are : AreStated (lines text) (entries_of stated)) (bytes : length text ≤ 16777216) where
  same : (f : Statement → List Name)
      → flat_map (λ line. f (stands_for line.statement)) stated ≡ flat_map f (statements are.stated)
  same f = names_by f stated are.stated are.same

  pub past : (limit : Limit) → ArePast (length (names_in stated)) (length (reads_in stated)) limit
      → IsRefused text (TooLarge limit)
  past Bytes more = absurd more
  past Signals more = (bytes, are.stated, are.each, rw (same defined) at more)
  past Sinks (few, more) =
      (bytes, are.stated, are.each, rw (same defined) at few, rw (same read) at more)

  pub within : AreFew (length (names_in stated)) (length (reads_in stated)) → AreWithin text stated
  within few = record {
    stated = are.stated;
    within = record {
      bytes = bytes;
      each = are.each;
      signals = omega (arith, few, ap length (same defined));
      sinks = omega (arith, few, ap length (same read));
    };
    same = are.same;
  }

-- the entries that define a name, and their numbers
abbrev pub definers : List Entry → List Entry
definers entries = filter (λ e. defines e.1) entries

definers_of : (lines : List StatedLine) → map (λ e. e.0) (definers (entries_of lines))
    ≡ map (λ line. line.number) (filter (λ line. defines (stands_for line.statement)) lines)
definers_of [] = refl
definers_of (l ∷ lines) = grind (arith, definers_of lines)

definer_count : (entries : List Entry)
    → length (definers entries) ≡ length (names (map (λ e. e.1) entries))
definer_count [] = refl
definer_count ((k, Output n) ∷ entries) = definer_count entries
definer_count (_ ∷ entries) = ap suc (definer_count entries)

-- the entry that defines the name of a number, and the numbers of the names before it
definer_at : (entries : List Entry) (s number : ℕ) (st : Statement)
    → slice_get (map (λ e. e.0) (definers entries)) s ≡ Some number
    → slice_get (filter defines (map (λ e. e.1) entries)) s ≡ Some st
    → (i : ℕ) × (slice_get entries i ≡ Some (number, st))
    × ((m : Name) → Among m (names (map (λ e. e.1) (take i entries)))
    → (t : ℕ) × (t < s) × (slice_get (names (map (λ e. e.1) entries)) t ≡ Some m))
definer_at [] s number st e h = let bad : None ≡ Some number = e in cc
definer_at ((k, Output n) ∷ entries) s number st e h =
    let d = definer_at entries s number st e h in (suc d.0, d.1, d.2)
definer_at (l ∷ entries) zero number st e h = (0, cc, λ m a. absurd a)
definer_at (l ∷ entries) (suc s) number st e h =
    let d = definer_at entries s number st e h in (
      suc d.0,
      d.1,
      λ m a. elim a [
        | inl first ↦ (0, omega arith, ap Some first)
        | inr b ↦ (let t = d.2 m b in (suc t.0, omega (arith, t.1), t.2))
      ],
    )

module _ (text : List ℕ) (stated : List StatedLine) (of : AreWithin text stated) where
  all : (f : Statement → List Name)
      → flat_map (λ line. f (stands_for line.statement)) stated ≡ flat_map f (statements of.stated)
  all f = names_by f stated of.stated of.same

  -- a line of the text, and the lines before it
  module _ (i : ℕ) (line : StatedLine) (h : i < length stated)
      (e : line ≡ get_or stated i line) where
    place : (j : ℕ) × (line.number ≡ suc j)
        × (slice_get of.stated j ≡ Some (Some (stands_for line.statement)))
        × (statements (take j of.stated) ≡ statements_in (take i stated))
    place =
        let at = slice_get-map entry_of stated i
        ∙ ap (option_map entry_of) (slice_get_read stated (length stated) i line refl h e) in
        let p = entry_at 1 of.stated i line.number (stands_for line.statement)
        (rw of.same at at) in (
          p.0,
          omega (arith, p.1),
          p.2,
          p.3 ∙ rw (← of.same, take-map, map-map) refl,
        )

    pub redefined : (n : Name) → Among n (defined_of line) → Among n (names_in (take i stated))
        → Distinct (names_in (take i stated)) → IsRefused text (Redefined line.number)
    redefined n here before once =
        let before_is = ap (flat_map defined) place.3 ∙ flat_map-map defined _ (take i stated) in (
          of.stated,
          of.within,
          rw place.1 (redefined_lowest of.stated place.0 (stands_for line.statement) n place.2 here
              (rw before_is before) (rw before_is once)),
        )

    pub undefined : (ns : List Name) (ls : List NumberedLine) → ns ≡ names_in stated
        → AllPairs (λ m n. m ≢ n) (names_in stated) → AreNumberedLines ns (take i stated) ls
        → list_all (is_in ns) (read_of line) ≡ false → IsRefused text (Undefined line.number)
    undefined ns ls is once numbered off =
        let n = some_not (is_in ns) (read_of line) off in
        let names_are : names (statements of.stated) ≡ ns = sym (is ∙ all defined) in (
          of.stated,
          of.within,
          no_redefinition of.stated (distinct_from_pairs _ (rw (← all defined) once)),
          rw place.1 (undefined_lowest of.stated place.0 (stands_for line.statement) n.0 place.2 n.1
              (λ has. both_ways _ n.2 (among_in ns n.0 (among ns n.0 (rw names_are at has))))
              (λ m a. rw names_are (known ns ls numbered.in_range m
              (rw (place.3 ∙ sym numbered.stand) at a)))),
        )

  -- the numbered lines are the lines of the file
  module _ (ns : List Name) (ls : List NumberedLine) (at : List ℕ) (is : ns ≡ names_in stated)
      (once : AllPairs (λ m n. m ≢ n) (names_in stated)) (numbered : AreNumberedLines ns stated ls)
      (numbers_are : at ≡ map (λ line. line.number)
      (filter (λ line. defines (stands_for line.statement)) stated)) where
    abbrev entries : List Entry
    entries = numbered_from 1 of.stated

    numbers_at : at ≡ map (λ e. e.0) (definers entries)
    numbers_at = rw (← of.same, definers_of stated) numbers_are

    lines_are : statements_of ns ls ≡ map (λ entry. entry.1) entries
    lines_are = rw (← of.same, map-map) numbered.stand

    stand : statements_of ns ls ≡ statements of.stated
    stand = lines_are ∙ statements_numbered 1 of.stated

    names_are : names (statements_of ns ls) ≡ ns
    names_are = ap names numbered.stand ∙ flat_map-map defined _ stated ∙ sym is

    statements_are : AreStatements ns ls at
    statements_are = record {
      names_are = names_are;
      in_range = numbered.in_range;
      once = rw is once;
      arities = rw stand (arities_of_text text of.stated of.within.each);
      signals = omega (arith, ap length (is ∙ all defined), of.within.signals);
      sinks = omega (arith, ap sink_count stand, of.within.sinks);
      line_count = rw (numbers_at, length-map, definer_count entries, ← lines_are, names_are) refl;
    }

    refused : (f : BenchFault) → AreRefused ns ls at f → IsRefused text f
    refused (fault.Empty) r = (of.stated, of.within, sym stand ∙ ap (statements_of ns) r)
    refused (fault.Cycle number) (s, numbered_at, (n, kind, args, here, stuck, free)) =
        let d = definer_at entries s number (Gate n kind args) (rw numbers_at at numbered_at)
        (rw lines_are at here) in
        let p = entry_at 1 of.stated d.0 number (Gate n kind args) d.1 in
        let line_is : number ≡ suc p.0 = omega (arith, p.1) in (
          of.stated,
          of.within,
          no_redefinition of.stated (distinct_from_pairs _ (rw (← all defined) once)),
          no_undefined of.stated (λ n has. rw (← all defined, ← is)
              (known ns ls numbered.in_range n (among _ n (rw (sym stand) at has)))),
          rw line_is (cyclic_lowest of.stated p.0 n kind args p.2 (rw stand at stuck)
              (λ m other more a.
              let front = among_joined defined _ (Gate m other more) m a (inl refl) in
              let t = d.2 m (rw p.3 at front) in
              rw (← stand) (free t.0 m t.1 (ap (λ c. slice_get (names c) t.0) lines_are ∙ t.2)))),
        )
    refused _ r = absurd r

    pub assembled : AreLinesOf text ns ls at
    assembled = record {
      are = statements_are;
      accepted = λ circuit. (of.stated, of.within, stand, circuit.well_formed);
      refused = refused;
    }
