-- The only error of a merge of the files of all parts of a run is refused memory.
use Rattle.std.proofs.Common.{◌≡◌, ◌≢◌, ◌<◌, ◌^◌, ◌+◌, ◌*◌, ◌⊎◌, inl, inr, ℕ, zero, suc, List, []}
use Rattle.std.proofs.Common.{◌∷◌, ◌++◌, length, get_or, refl, sym, ap, ◌∙◌, subst, Option, Some}
use Rattle.std.{proofs.Common.{arith, lit<, map}, specs.Prelude.{Contains, slice_get}}
use Rattle.std.{specs.List.AllZip, proofs.lemmas.List.length-map}
use Rattle.std.proofs.lemmas.List.Elements.{Contains-append_cases, Contains-append_left}
use Rattle.std.proofs.lemmas.List.Elements.{Contains-append_right}
use Rattle.std.proofs.lemmas.Option.{get_or_from_slice_get, slice_get-get_or, slice_get_within}
use Rattle.list_lemmas.proofs.Members.{Among, among, contained}
use Rattle.list_lemmas.proofs.Distinct.{Distinct, distinct_from_pairs}
use Rattle.list_lemmas.proofs.Places.{at_place, place_within, within_place}
use Rattle.bench_net.specs.{Statement.Statement, Refusal.IsAccepted}
use Rattle.bench_net.specs.Circuit.{IsCircuit, IsWellFormed, max_signals, max_sinks}
use Rattle.fault_model.specs.{declared.Model.Model, Fault.{Fault, faults}, Laws.HasClasses}
use Rattle.fault_model.proofs.Public.{faults_within}
use Rattle.region_runs.specs.declared.parts.PartVerdict.{PartVerdict}
use Rattle.region_runs.specs.declared.parts.PartVerdict.TheVariants.{First, OtherPart}
use Rattle.part_files.specs.{declared.joining.MergeFault.MergeFault, PartText.PartHead}
use Rattle.part_files.specs.declared.part_reader.PartFault.{PartFault}
use Rattle.part_files.specs.Merging.{DifferAt, HasParts, HaveBoth, IsEndRefusal, IsFirstMerged}
use Rattle.part_files.specs.Merging.{IsFirstRefusal, IsJoined, IsMerged, IsMergeRefusal, MergeState}
use Rattle.part_files.{specs.PartReading.{IsPart, IsPartRefusal}, proofs.PartRefusals.no_refusal}
use Rattle.part_files.specs.WholeMerge.{AreAllPartsOf, IsForMemory, IsPartOf, IsLaterRefusal}
use Rattle.part_files.specs.WholeMerge.{IsRefusedMerge, PartedRun}
use Rattle.part_files.proofs.FaultParts.{TellPart, TellsSeen, one_part_of, part_told, seen_more}
use Rattle.part_files.proofs.FaultParts.{seen_one, some_part_of}
use Rattle.part_files.proofs.MergedReport.{OneCircuit, head_in_run, read_as, told}
use Rattle.part_files.specs.declared.joining.MergeFault.TheVariants as fault
use Rattle.report.specs.Report.{fault_text}

-- The state of the merge so far: the first line is the line of the run, and the names are the names
-- of the circuit's faults. A verdict is open if the fault belongs to no part that is there.
record IsWhole (run : PartedRun) (c : List Statement) (s : MergeState) : Type 0 where
  pub part : ℕ
  pub head : s.head ≡ head_in_run run part
  pub faults_are : s.faults ≡ map (fault_text c) (faults run.model c)
  pub count : length s.verdicts ≡ length (faults run.model c)
  pub each : (k : ℕ) (f : Fault) (v : PartVerdict) → slice_get (faults run.model c) k ≡ Some f
      → slice_get s.verdicts k ≡ Some v → TellsSeen run.model c run.parts s.seen f v

-- the facts about the circuit
record IsKnown (run : PartedRun) (c : List Statement) : Type 0 where
  pub one : OneCircuit
  pub accepted : IsAccepted run.bench c
  pub classes : HasClasses c

same_circuit : (run : PartedRun) (part : ℕ) (bytes : List ℕ) (c : List Statement) → IsKnown run c
    → (of : IsPartOf run part bytes) → of.text.0.circuit ≡ c
same_circuit run part bytes c known of =
    known.one run.bench of.text.0.circuit c of.text.1.0 known.accepted

-- the verdicts in a file of a part belong to the part
text_told : (run : PartedRun) (part : ℕ) (bytes : List ℕ) (c : List Statement) → IsKnown run c
    → (of : IsPartOf run part bytes) → TellPart run.model c run.parts part of.text.2.0
text_told run part bytes c known of =
    let circuit : of.text.0.circuit ≡ c = same_circuit run part bytes c known of in
    let has : HasClasses of.text.0.circuit = subst HasClasses (sym circuit) known.classes in
    subst (λ x. TellPart run.model x run.parts part of.text.2.0) circuit
    (subst (λ m. TellPart m of.text.0.circuit run.parts part of.text.2.0) of.text.1.3
    (part_told of.text.0 run.parts part of.text.2.0 has of.text.1.2 of.text.2.1))

-- the values of a file of a part, in terms of the circuit
record IsRead (run : PartedRun) (part : ℕ) (c : List Statement) (h : PartHead)
    (names : List (List ℕ)) (verdicts : List PartVerdict) : Type 0 where
  pub head : h ≡ head_in_run run part
  pub names_are : names ≡ map (fault_text c) (faults run.model c)
  pub count : length verdicts ≡ length (faults run.model c)
  pub each : TellPart run.model c run.parts part verdicts

read_told : (run : PartedRun) (part : ℕ) (bytes : List ℕ) (c : List Statement) (h : PartHead)
    (names : List (List ℕ)) (verdicts : List PartVerdict) → IsKnown run c
    → IsPartOf run part bytes → IsPart bytes h names verdicts → IsRead run part c h names verdicts
read_told run part bytes c h names verdicts known of is = record {
  head = same.0;
  names_are = names_are;
  count = sym is.lines.same ∙ ap (λ (l : List (List ℕ)). length l) names_are
      ∙ length-map (faults run.model c) (fault_text c);
  each = subst (TellPart run.model c run.parts part) (sym same.2)
      (text_told run part bytes c known of);
}
  where
    same : (h ≡ head_in_run run part)
        × (names ≡ map (fault_text of.text.0.circuit) (faults run.model of.text.0.circuit))
        × (verdicts ≡ of.text.2.0)
    same = read_as run part bytes h names verdicts of is

    names_are : names ≡ map (fault_text c) (faults run.model c)
    names_are = same.1 ∙ ap (λ x. map (fault_text x) (faults run.model x))
        (same_circuit run part bytes c known of)

-- the first text
whole_first : (run : PartedRun) (part : ℕ) (bytes : List ℕ) (c : List Statement) (s : MergeState)
    → IsKnown run c → IsPartOf run part bytes → IsFirstMerged bytes s
    → IsWhole run c s × (s.seen ≡ part ∷ [])
whole_first run part bytes c s known of is = (
  record {
    part = part;
    head = read.head;
    faults_are = read.names_are;
    count = read.count;
    each = λ k f v ef ev. subst (λ l. TellsSeen run.model c run.parts l f v) (sym seen)
        (seen_one run.model c run.parts part f v (read.each k f v ef ev));
  },
  seen,
)
  where
    read : IsRead run part c s.head s.faults s.verdicts
    read = read_told run part bytes c s.head s.faults s.verdicts known of is.part

    seen : s.seen ≡ part ∷ []
    seen = is.seen ∙ ap (λ (h : PartHead). h.part ∷ []) read.head

-- one more text
whole_more : (run : PartedRun) (part : ℕ) (bytes : List ℕ) (c : List Statement)
    (old new : MergeState) → IsKnown run c → IsPartOf run part bytes → IsMerged old bytes new
    → IsWhole run c old → IsWhole run c new × (new.seen ≡ old.seen ++ part ∷ [])
whole_more run part bytes c old new known of is was = (
  record {
    part = was.part;
    head = is.head_is ∙ was.head;
    faults_are = is.faults_are ∙ was.faults_are;
    count = is.joined.count ∙ was.count;
    each = λ k f v ef ev.
        let within = slice_get_within new.verdicts k v ev in
        let here = get_or_from_slice_get new.verdicts k v OtherPart ev in
        let low : k < length (faults run.model c) = place_within (faults run.model c) k f ef in
        let a : slice_get old.verdicts k ≡ Some (get_or old.verdicts k OtherPart) =
        slice_get-get_or old.verdicts k OtherPart (omega (arith, low, was.count)) in
        let b : slice_get is.verdicts k ≡ Some (get_or is.verdicts k OtherPart) =
        slice_get-get_or is.verdicts k OtherPart (omega (arith, low, read.count)) in
        subst (λ l. TellsSeen run.model c run.parts l f v) (sym seen)
        (seen_more run.model c run.parts old.seen part f (get_or old.verdicts k OtherPart)
        (get_or is.verdicts k OtherPart) v (was.each k f (get_or old.verdicts k OtherPart) ef a)
        (read.each k f (get_or is.verdicts k OtherPart) ef b)
        (subst (IsJoined (get_or old.verdicts k OtherPart) (get_or is.verdicts k OtherPart)) here
        (is.joined.each k OtherPart within)));
  },
  seen,
)
  where
    read : IsRead run part c is.head old.faults is.verdicts
    read = read_told run part bytes c is.head old.faults is.verdicts known of is.part

    seen : new.seen ≡ old.seen ++ part ∷ []
    seen = is.seen ∙ ap (λ (h : PartHead). old.seen ++ h.part ∷ []) read.head

-- a verdict that isn't open stands in the list
own_place : (xs : List PartVerdict) (k : ℕ) → get_or xs k OtherPart ≢ OtherPart
    → (first : Option ℕ) × (slice_get xs k ≡ Some (First first))
own_place [] k other = absurd (other refl)
own_place (OtherPart ∷ xs) zero other = absurd (other refl)
own_place (First first ∷ xs) zero other = (first, refl)
own_place (x ∷ xs) (suc k) other = own_place xs k other

-- the only error of reading a file of a part is refused memory
read_refused : (run : PartedRun) (part : ℕ) (bytes : List ℕ) (f : PartFault)
    → IsPartOf run part bytes → IsPartRefusal bytes f → IsForMemory (fault.Part f)
read_refused run part bytes f of r = subst (λ x. IsForMemory (fault.Part x))
    (sym (no_refusal bytes (head_in_run run part)
    (map (fault_text of.text.0.circuit) (faults run.model of.text.0.circuit)) of.text.2.0 f
    (told run part bytes of) r)) tt

-- it has the names that are there, and no fault of a part that is there
no_difference : (run : PartedRun) (part : ℕ) (c : List Statement) (old : MergeState)
    (h : PartHead) (names : List (List ℕ)) (verdicts : List PartVerdict) (k : ℕ) → IsKnown run c
    → IsRead run part c h names verdicts → IsWhole run c old → (Contains old.seen part → ⊥)
    → DifferAt old.faults names k ⊎ HaveBoth old.verdicts verdicts k → ⊥
no_difference run part c old h names verdicts k known read was fresh (inl d) =
    d.differ (ap (λ (l : List (List ℕ)). slice_get l k) (was.faults_are ∙ sym read.names_are))
no_difference run part c old h names verdicts k known read was fresh (inr both) =
    let there = own_place old.verdicts k both.0 in
    let here = own_place verdicts k both.1 in
    let low = place_within old.verdicts k (First there.0) there.1 in
    let at = within_place (faults run.model c) k (omega (arith, low, was.count)) in
    let before = was.each k at.0 (First there.0) at.1 there.1 in
    let now = read.each k at.0 (First here.0) at.1 here.1 in
    fresh (subst (Contains old.seen)
    (one_part_of run.model c run.parts before.0 part at.0 known.classes before.2 now) before.1)

-- the only error of a file of a part that isn't there is refused memory
more_refused : (run : PartedRun) (part : ℕ) (bytes : List ℕ) (c : List Statement)
    (old : MergeState) (f : MergeFault) → IsKnown run c
    → IsPartOf run part bytes → IsWhole run c old → (Contains old.seen part → ⊥)
    → IsMergeRefusal old bytes f → IsForMemory f
more_refused run part bytes c old (fault.Part f) known of was fresh r =
    read_refused run part bytes f of r
more_refused run part bytes c old (fault.Again number) known of was fresh r =
    let read = read_told run part bytes c r.0 r.1 r.2 known of r.3 in
    absurd (fresh (subst (Contains old.seen) (ap (λ (h : PartHead). h.part) read.head) r.5))
more_refused run part bytes c old (fault.Differs line) known of was fresh r =
    let read = read_told run part bytes c r.0 r.1 r.2 known of r.3 in
    absurd (no_difference run part c old r.0 r.1 r.2 r.6 known read was fresh r.8)
more_refused run part bytes c old fault.Memory known of was fresh r = tt
more_refused run part bytes c old fault.OtherModel known of was fresh r =
    let read = read_told run part bytes c r.0 r.1 r.2 known of r.3 in
    absurd (r.4 (ap (λ (h : PartHead). h.model) was.head
    ∙ sym (ap (λ (h : PartHead). h.model) read.head)))
more_refused run part bytes c old fault.OtherRule known of was fresh r =
    let read = read_told run part bytes c r.0 r.1 r.2 known of r.3 in
    absurd (r.4 (ap (λ (h : PartHead). h.rule) was.head
    ∙ sym (ap (λ (h : PartHead). h.rule) read.head)))
more_refused run part bytes c old fault.OtherInputs known of was fresh r =
    let read = read_told run part bytes c r.0 r.1 r.2 known of r.3 in
    elim r.4 [
      | inl bench ↦ absurd (bench (ap (λ (h : PartHead). h.bench) was.head
          ∙ sym (ap (λ (h : PartHead). h.bench) read.head)))
      | inr tests ↦ absurd (tests (ap (λ (h : PartHead). h.tests) was.head
          ∙ sym (ap (λ (h : PartHead). h.tests) read.head)))
    ]
more_refused run part bytes c old fault.OtherCount known of was fresh r =
    let read = read_told run part bytes c r.0 r.1 r.2 known of r.3 in
    absurd (r.4 (ap (λ (h : PartHead). h.parts) was.head
    ∙ sym (ap (λ (h : PartHead). h.parts) read.head)))
more_refused run part bytes c old (fault.Missing number) known of was fresh r = absurd r.4
more_refused run part bytes c old (fault.NoPart line) known of was fresh r = absurd r.4
more_refused run part bytes c old fault.NoFault known of was fresh r = absurd r.4
more_refused run part bytes c old fault.TooManyFaults known of was fresh r = absurd r.4

-- the first verdict that is open
open_place : (firsts : List (Option ℕ)) (rest : List PartVerdict)
    → slice_get (map First firsts ++ OtherPart ∷ rest) (length firsts) ≡ Some OtherPart
open_place [] rest = refl
open_place (x ∷ firsts) rest = open_place firsts rest

-- the only error of the end of a merge of all parts is refused memory
end_refused : (run : PartedRun) (c : List Statement) (s : MergeState) (f : MergeFault)
    → IsKnown run c → IsCircuit c → 0 < run.parts → 0 < length (faults run.model c)
    → IsWhole run c s → HasParts s.seen run.parts → IsEndRefusal s f → IsForMemory f
end_refused run c s (fault.Missing number) known is some any was all r =
    absurd (r.4 (all r.0 (subst (λ n. r.0 < n) (ap (λ (h : PartHead). h.parts) was.head) r.2)))
end_refused run c s fault.NoFault known is some any was all r =
    absurd (omega (arith, any, was.count, ap (λ (l : List PartVerdict). length l) r.1))
end_refused run c s fault.TooManyFaults known is some any was all r = absurd (omega (
  arith,
  faults_within run.model c is,
  was.count,
  ap (λ (l : List PartVerdict). length l) r.2,
  length-map r.1 First,
  r.3,
  lit< {m = 2 * (max_signals + max_sinks)} {n = 2 ^ 32} tt,
))
end_refused run c s (fault.NoPart line) known is some any was all r =
    let at : slice_get s.verdicts (length r.1.0) ≡ Some OtherPart =
    ap (λ (l : List PartVerdict). slice_get l (length r.1.0)) r.1.2 ∙ open_place r.1.0 r.1.1 in
    let low = place_within s.verdicts (length r.1.0) OtherPart at in
    let f = within_place (faults run.model c) (length r.1.0) (omega (arith, low, was.count)) in
    let has =
    contained (faults run.model c) f.0 (at_place (faults run.model c) (length r.1.0) f.0 f.1) in
    let own = some_part_of run.model c run.parts f.0 known.classes is.well_formed some has in
    absurd (was.each (length r.1.0) f.0 OtherPart f.1 at own.0 (all own.0 own.1) own.2)
end_refused run c s fault.Memory known is some any was all r = tt
end_refused run c s (fault.Part f) known is some any was all r = absurd r.1
end_refused run c s (fault.Again number) known is some any was all r = absurd r.1
end_refused run c s (fault.Differs line) known is some any was all r = absurd r.1
end_refused run c s fault.OtherModel known is some any was all r = absurd r.1
end_refused run c s fault.OtherRule known is some any was all r = absurd r.1
end_refused run c s fault.OtherInputs known is some any was all r = absurd r.1
end_refused run c s fault.OtherCount known is some any was all r = absurd r.1

-- the parts that are there, and the parts that are to come: none is both, and all are one of them
record AreToCome (run : PartedRun) (seen numbers : List ℕ) (texts : List (List ℕ)) : Type 0 where
  pub each : AllZip (IsPartOf run) numbers texts
  pub once : Distinct numbers
  pub fresh : (part : ℕ) → Among part numbers → Contains seen part → ⊥
  pub all : (part : ℕ) → part < run.parts → Contains seen part ⊎ Among part numbers

one_less : (run : PartedRun) (seen : List ℕ) (part : ℕ) (numbers : List ℕ) (text : List ℕ)
    (texts : List (List ℕ)) → AreToCome run seen (part ∷ numbers) (text ∷ texts)
    → AreToCome run (seen ++ part ∷ []) numbers texts
one_less run seen part numbers text texts come = record {
  each = come.each.1;
  once = come.once.1;
  fresh = λ other later has. fresh other later (Contains-append_cases seen (part ∷ []) other has);
  all = λ other lt. all other (come.all other lt);
}
  where
    fresh : (other : ℕ) → Among other numbers → Contains seen other ⊎ Contains (part ∷ []) other → ⊥
    fresh other later (inl before) = come.fresh other (inr later) before
    fresh other later (inr now) = elim (among (part ∷ []) other now) [
      | inl e ↦ come.once.0 (subst (λ n. Among n numbers) (sym e) later)
      | inr bad ↦ absurd bad
    ]

    all : (other : ℕ) → Contains seen other ⊎ Among other (part ∷ numbers)
        → Contains (seen ++ part ∷ []) other ⊎ Among other numbers
    all other (inl before) = inl (Contains-append_left seen (part ∷ []) other before)
    all other (inr (inl e)) =
        inl (Contains-append_right seen (part ∷ []) other (contained (part ∷ []) other (inl e)))
    all other (inr (inr later)) = inr later

-- so no error comes after the first file
behind_refused : (run : PartedRun) (c : List Statement) (numbers : List ℕ)
    (texts : List (List ℕ)) (old : MergeState) (f : MergeFault)
    → IsKnown run c → IsCircuit c → 0 < run.parts
    → 0 < length (faults run.model c) → IsWhole run c old → AreToCome run old.seen numbers texts
    → IsLaterRefusal old texts f → IsForMemory f
behind_refused run c [] [] old f known is some any was come r =
    end_refused run c old f known is some any was (λ part lt. there part (come.all part lt)) r
  where
    there : (part : ℕ) → Contains old.seen part ⊎ Among part [] → Contains old.seen part
    there part (inl has) = has
    there part (inr bad) = absurd bad
behind_refused run c [] (text ∷ texts) old f known is some any was come r = absurd come.each
behind_refused run c (part ∷ numbers) [] old f known is some any was come r = absurd come.each
behind_refused run c (part ∷ numbers) (text ∷ texts) old f known is some any was come (inl r) =
    more_refused run part text c old f known come.each.0 was (come.fresh part (inl refl)) r
behind_refused run c (part ∷ numbers) (text ∷ texts) old f known is some any was come (inr r) =
    let now = whole_more run part text c old r.0 known come.each.0 r.1 was in
    behind_refused run c numbers texts r.0 f known is some any now.0
    (subst (λ l. AreToCome run l numbers texts) (sym now.1)
    (one_less run old.seen part numbers text texts come)) r.2

first_refused : (run : PartedRun) (part : ℕ) (bytes : List ℕ) (f : MergeFault)
    → IsPartOf run part bytes → IsFirstRefusal bytes f → IsForMemory f
first_refused run part bytes (fault.Part f) of r = read_refused run part bytes f of r
first_refused run part bytes fault.Memory of r = tt
first_refused run part bytes (fault.Again number) of r = absurd r
first_refused run part bytes (fault.Differs line) of r = absurd r
first_refused run part bytes (fault.Missing number) of r = absurd r
first_refused run part bytes (fault.NoPart line) of r = absurd r
first_refused run part bytes fault.NoFault of r = absurd r
first_refused run part bytes fault.TooManyFaults of r = absurd r
first_refused run part bytes fault.OtherModel of r = absurd r
first_refused run part bytes fault.OtherRule of r = absurd r
first_refused run part bytes fault.OtherInputs of r = absurd r
first_refused run part bytes fault.OtherCount of r = absurd r

-- each circuit has a fault
abbrev pub HaveFaults : Type 0
HaveFaults = (m : Model) (c : List Statement) → IsCircuit c → 0 < length (faults m c)

abbrev pub HaveClasses : Type 0
HaveClasses = (c : List Statement) → IsWellFormed c → HasClasses c

apart : (part : ℕ) (numbers : List ℕ) → (Among part numbers → ⊥) → (other : ℕ)
    → Among other numbers → Among other (part ∷ []) → ⊥
apart part numbers fresh other later (inl e) = fresh (subst (λ n. Among n numbers) (sym e) later)
apart part numbers fresh other later (inr bad) = bad

cover : (part : ℕ) (numbers : List ℕ) (other : ℕ) → Among other (part ∷ numbers)
    → Contains (part ∷ []) other ⊎ Among other numbers
cover part numbers other (inl e) = inl (contained (part ∷ []) other (inl e))
cover part numbers other (inr later) = inr later

pub merge_refused : OneCircuit → HaveClasses → HaveFaults → (run : PartedRun) (first : List ℕ)
    (others : List (List ℕ)) (f : MergeFault) → AreAllPartsOf run (first ∷ others)
    → IsRefusedMerge first others f → IsForMemory f
merge_refused one classes any run first others f are r =
    go are.numbers are.each (distinct_from_pairs are.numbers are.once) are.all r
  where
    go : (numbers : List ℕ) → AllZip (IsPartOf run) numbers (first ∷ others) → Distinct numbers
        → HasParts numbers run.parts → IsRefusedMerge first others f → IsForMemory f
    go [] each once all r = absurd each
    go (part ∷ numbers) each once all (inl r) = first_refused run part first f each.0 r
    go (part ∷ numbers) each once all (inr r) =
        let c = each.0.text.0.circuit in
        let is : IsCircuit c = each.0.text.1.2.circuit in
        let known : IsKnown run c =
        record { one = one; accepted = each.0.text.1.0; classes = classes c is.well_formed } in
        let begun = whole_first run part first c r.0 known each.0 r.1 in
        behind_refused run c numbers others r.0 f
        known is (omega (arith, each.0.below)) (any run.model c is) begun.0
        (subst (λ l. AreToCome run l numbers others) (sym begun.1) (record {
          each = each.1;
          once = once.1;
          fresh = λ other later has.
              apart part numbers once.0 other later (among (part ∷ []) other has);
          all = λ other lt. cover part numbers other (among (part ∷ numbers) other (all other lt));
        })) r.2
