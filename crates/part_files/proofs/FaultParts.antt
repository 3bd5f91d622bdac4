-- The part of a run to which a fault belongs, and what the verdicts of parts state about it.
use Rattle.std.proofs.Common.{◌≡◌, ◌<◌, ◌%◌, ◌⊎◌, inl, inr, ℕ, List, [], ◌∷◌, ◌++◌, refl, sym, ap}
use Rattle.std.{proofs.Common.{◌∙◌, subst, Some, arith}, specs.Prelude.{Contains, slice_get}}
use Rattle.std.proofs.{Math.Nat.mod-lt, lemmas.List.Elements.Contains-append_right}
use Rattle.std.proofs.lemmas.List.Elements.{Contains-append_cases, Contains-append_left}
use Rattle.list_lemmas.proofs.{Members.{among, contained}, Places.{place_within, within_place}}
use Rattle.bench_net.specs.{Statement.Statement, Circuit.IsWellFormed}
use Rattle.fault_model.specs.{declared.Model.Model, Fault.{Fault, faults}, Laws.HasClasses}
use Rattle.fault_model.specs.Collapse.{IsClassOf, representatives}
use Rattle.block_sim.specs.Parts.{BelongTogether, Parts}
use Rattle.flat_circuit.specs.Regions.{IsStemOfClass}
use Rattle.flat_circuit.proofs.Public.{class_has_stem, one_class_stem}
use Rattle.region_runs.specs.declared.parts.PartVerdict.{PartVerdict}
use Rattle.region_runs.specs.declared.parts.PartVerdict.TheVariants.{First, OtherPart}
use Rattle.region_runs.specs.Part.{ArePartVerdicts, IsPartVerdict}
use Rattle.part_files.specs.Merging.{IsJoined}

-- a fault belongs to a part: the part of the stem of its class
pub record IsInPart (m : Model) (c : List Statement) (parts part : ℕ) (f : Fault) : Type 0 where
  pub class : ℕ
  pub of : IsClassOf m c f class
  pub stem : ℕ
  pub stem_is : IsStemOfClass m c class stem
  pub part_is : part ≡ stem % parts

-- a fault has one class
one_class : (m : Model) (c : List Statement) (f : Fault) (k j : ℕ) → HasClasses c
    → IsClassOf m c f k → IsClassOf m c f j → k ≡ j
one_class m c f k j has a b =
    let own = has m f a.1 in
    own.2 k a ∙ sym (own.2 j b)

-- and belongs to only one part
pub one_part_of : (m : Model) (c : List Statement) (parts part other : ℕ) (f : Fault)
    → HasClasses c → IsInPart m c parts part f → IsInPart m c parts other f → part ≡ other
one_part_of m c parts part other f has a b =
    let class : a.class ≡ b.class = one_class m c f a.class b.class has a.of b.of in
    let stem : IsStemOfClass m c b.class a.stem =
    subst (λ k. IsStemOfClass m c k a.stem) class a.stem_is in
    a.part_is ∙ ap (λ n. n % parts) (one_class_stem m c b.class a.stem b.stem stem b.stem_is)
    ∙ sym b.part_is

-- and of some
pub some_part_of : (m : Model) (c : List Statement) (parts : ℕ) (f : Fault) → HasClasses c
    → IsWellFormed c → 0 < parts → Contains (faults m c) f
    → (part : ℕ) × (part < parts) × IsInPart m c parts part f
some_part_of m c parts f has well some at =
    let own = has m f at in
    let lt = place_within (representatives m c) own.0 own.1.0 own.1.3 in
    let stem = class_has_stem m c well own.0 lt in (
      stem.0 % parts,
      mod-lt stem.0 some,
      record { class = own.0; of = own.1; stem = stem.0; stem_is = stem.2; part_is = refl },
    )

-- the statement of a part's verdict about it
abbrev pub TellsPart : Model → List Statement → ℕ → ℕ → Fault → PartVerdict → Type 0
TellsPart m c parts part f (First first) = IsInPart m c parts part f
TellsPart m c parts part f OtherPart = IsInPart m c parts part f → ⊥

abbrev pub TellPart : Model → List Statement → ℕ → ℕ → List PartVerdict → Type 0
TellPart m c parts part verdicts = (k : ℕ) (f : Fault) (v : PartVerdict)
    → slice_get (faults m c) k ≡ Some f → slice_get verdicts k ≡ Some v
    → TellsPart m c parts part f v

from_class : (job : Parts) (parts part class : ℕ) (f : Fault) (v : PartVerdict)
    → HasClasses job.circuit → IsClassOf job.list.model job.circuit f class
    → IsPartVerdict job parts part class f v → TellsPart job.list.model job.circuit parts part f v
from_class job parts part class f (First first) has of is =
    record { class = class; of = of; stem = is.0.0; stem_is = is.0.1; part_is = is.0.2 }
from_class job parts part class f OtherPart has of is = λ at. is (
  at.stem,
  subst (λ k. IsStemOfClass job.list.model job.circuit k at.stem)
      (one_class job.list.model job.circuit f at.class class has at.of of) at.stem_is,
  at.part_is,
)

pub part_told : (job : Parts) (parts part : ℕ) (verdicts : List PartVerdict)
    → HasClasses job.circuit → BelongTogether job → ArePartVerdicts job parts part verdicts
    → TellPart job.list.model job.circuit parts part verdicts
part_told job parts part verdicts has together are k f v ef ev =
    let low = place_within (faults job.list.model job.circuit) k f ef in
    let at = within_place job.classes.class_of k (omega (arith, low, together.classes.count)) in
    from_class job parts part at.0 f v has (together.classes.class k f at.0 ef at.1)
    (are.each k at.0 f v ef at.1 ev)

-- the statement of the verdict from several parts
abbrev pub TellsSeen : Model → List Statement → ℕ → List ℕ → Fault → PartVerdict → Type 0
TellsSeen m c parts seen f (First first) =
    (part : ℕ) × Contains seen part × IsInPart m c parts part f
TellsSeen m c parts seen f OtherPart =
    (part : ℕ) → Contains seen part → IsInPart m c parts part f → ⊥

lone : (n part : ℕ) → Contains (n ∷ []) part → n ≡ part
lone n part has = elim (among (n ∷ []) part has) [ inl e ↦ e | inr bad ↦ absurd bad ]

pub seen_one : (m : Model) (c : List Statement) (parts part : ℕ) (f : Fault) (v : PartVerdict)
    → TellsPart m c parts part f v → TellsSeen m c parts (part ∷ []) f v
seen_one m c parts part f (First first) is = (part, contained (part ∷ []) part (inl refl), is)
seen_one m c parts part f OtherPart is = λ other has at.
    is (subst (λ p. IsInPart m c parts p f) (sym (lone part other has)) at)

pub seen_more : (m : Model) (c : List Statement) (parts : ℕ) (seen : List ℕ) (part : ℕ) (f : Fault)
    (a b both : PartVerdict) → TellsSeen m c parts seen f a → TellsPart m c parts part f b
    → IsJoined a b both → TellsSeen m c parts (seen ++ part ∷ []) f both
seen_more m c parts seen part f OtherPart (First first) both old own is =
    subst (TellsSeen m c parts (seen ++ part ∷ []) f) (sym is) (
      part,
      Contains-append_right seen (part ∷ []) part (contained (part ∷ []) part (inl refl)),
      own,
    )
seen_more m c parts seen part f OtherPart OtherPart both old own is =
    subst (TellsSeen m c parts (seen ++ part ∷ []) f) (sym is)
    (λ other has at. go other at (Contains-append_cases seen (part ∷ []) other has))
  where
    go : (other : ℕ) → IsInPart m c parts other f
        → Contains seen other ⊎ Contains (part ∷ []) other → ⊥
    go other at (inl before) = old other before at
    go other at (inr now) = own (subst (λ p. IsInPart m c parts p f) (sym (lone part other now)) at)
seen_more m c parts seen part f (First first) OtherPart both old own is =
    subst (TellsSeen m c parts (seen ++ part ∷ []) f) (sym is)
    (old.0, Contains-append_left seen (part ∷ []) old.0 old.1, old.2)
seen_more m c parts seen part f (First first) (First other) both old own is = absurd is
