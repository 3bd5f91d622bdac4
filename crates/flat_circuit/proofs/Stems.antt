-- Stems: each signal and each class has one, and a table of them.
use Rattle.std.proofs.Common.{◌≡◌, ◌≢◌, ◌<◌, ◌≤◌, ◌+◌, ◌-◌, ℕ, zero, suc, refl, sym, ◌∙◌, ap, subst}
use Rattle.std.proofs.Common.{List, [], ◌∷◌, ◌++◌, length, set, arith, inl, inr, ◌⊎◌}
use Rattle.std.specs.{Option.option_map_or, Prelude.slice_index_or}
use Rattle.std.specs.Prelude.{Contains, Option, Some, None, IfSome, map, option_map, slice_get}
use Rattle.std.proofs.lemmas.Bool.{cases_eq, cases_order}
use Rattle.std.proofs.lemmas.List.{get_or_default, get_or-set_same, get_or-set_other}
use Rattle.bench_net.specs.{Statement.{Name, Statement}, Scan.{names, signal, name_of}}
use Rattle.bench_net.specs.{Circuit.IsWellFormed, Level.{GoesBefore, IsLevelOrder, greatest}}
use Rattle.bench_net.proofs.Public.{name_of-signal, read_named}
use Rattle.list_lemmas.proofs.Members.{among, among_map, contained, filtered_from}
use Rattle.list_lemmas.proofs.Places.{at_place, place_within, within_place}
use Rattle.fault_model.specs.{declared.Line.Line, declared.Model.Model, Detection.name_on}
use Rattle.fault_model.specs.Fault.{Fault, FaultList, fault_list, faults}
use Rattle.fault_model.specs.Collapse.{AreClassesOf, Collapsed, representatives}
use Rattle.fault_model.proofs.Public.{below_greatest, carries, defined_among}
use Rattle.fault_model.specs.declared.Line.TheVariants as line
use Rattle.flat_circuit.{specs.Readers.Reads, specs.Regions.way_from, proofs.OnePin.pin_law}
use Rattle.flat_circuit.specs.Regions.{HasStem, HaveStems, IsStem, IsStemOf, IsStemOfClass, LeadLaw}
use Rattle.flat_circuit.specs.Regions.{LeadsTo, OneClassStemLaw, OneStemLaw, RunsTo}
use Rattle.flat_circuit.specs.Regions.{SomeClassStemLaw, SomeStemLaw, here, lone_reader, onward}
use Rattle.flat_circuit.proofs.{CarriedSignals.gate_within, LevelOrder.{not_before, order_within}}
use Rattle.flat_circuit.proofs.{Readers.{no_loop, reader_within}, Representatives.representative_at}
use Rattle.flat_circuit.proofs.{LevelsRise.{level_at, level_named}, Rows.pushed_get}

-- ---- one stem
stays : (c : List Statement) {s r : ℕ} → IsStem c s → LeadsTo c s r → s ≡ r
stays c is here = refl
stays c is (onward {g = g} h p) = let bad : None ≡ Some g = sym is ∙ h in cc

one_end : (c : List Statement) {s r q : ℕ} → LeadsTo c s r → IsStem c r → LeadsTo c s q → IsStem c q
    → r ≡ q
one_end c here p y l = stays c p y
one_end c (onward h x) p here l = sym (stays c l (onward h x))
one_end c {q = q} (onward {g = g} h x) p (onward {g = k} j y) l =
    let gates : Some k ≡ Some g = sym j ∙ h in
    let same : k ≡ g = cc in
    one_end c x p (subst (λ z. LeadsTo c z q) same y) l

pub one_stem_law : (c : List Statement) → OneStemLaw c
one_stem_law c s r q a b = one_end c a.0 a.1 b.0 b.1

pub one_class_stem : (m : Model) (c : List Statement) → OneClassStemLaw m c
one_class_stem m c class r q a b =
    let faults : Some b.0 ≡ Some a.0 = sym b.1 ∙ a.1 in
    let same : b.0 ≡ a.0 = cc in
    let ways : Some b.2.0 ≡ Some a.2.0 = sym b.2.1 ∙ (ap (λ (f : Fault). way_from c f.line) same
    ∙ a.2.1) in
    let one : b.2.0 ≡ a.2.0 = cc in
    one_stem_law c a.2.0 r q a.2.2 (subst (IsStemOf c q) one b.2.2)

-- ---- some stem
module _ (c : List Statement) (well : IsWellFormed c) where
  pub lead_runs : {s r : ℕ} → LeadsTo c s r → RunsTo c s r
  lead_runs here = here
  lead_runs (onward {s = s} {g = g} h p) = onward (pin_law c well s g h) (lead_runs p)

  pub lone_within : (s g : ℕ) → lone_reader c s ≡ Some g → g < length (names c)
  lone_within s g h = reader_within c g s (pin_law c well s g h).reads

  -- a name's number in the order of the gates
  abbrev number : ℕ → ℕ
  number s = level_at c well.acyclic.0 s

  above : (s g : ℕ) → Reads c g s → number s < number g
  above s g r =
      let gate = among c _ r.gate in
      let low : number s ≡ well.acyclic.0 r.read = level_named c well.acyclic.0 r.read s
      (read_named c _ r.read well gate (among r.args r.read r.reads)) r.of in
      let high : number g ≡ well.acyclic.0 r.name = level_named c well.acyclic.0 r.name g
      (contained (names c) r.name (defined_among c _ r.name gate refl)) r.number in
      let lower : well.acyclic.0 r.read < well.acyclic.0 r.name =
      well.acyclic.1 r.name r.read (r.kind, r.args, r.gate, r.reads) in
      omega (arith, low, high, lower)

  some_from : (fuel s : ℕ) → s < length (names c)
      → greatest (map well.acyclic.0 (names c)) < number s + fuel → (r : ℕ) × (r < length (names c))
      × IsStemOf c r s
  some_from zero s lt few = absurd (omega (arith, few, most))
    where
      n : (n : Name) × (name_of c s ≡ Some n)
      n = within_place (names c) s lt

      is : number s ≡ well.acyclic.0 n.0
      is = ap (λ (o : Option Name). option_map_or well.acyclic.0 o 0) n.1

      most : number s ≤ greatest (map well.acyclic.0 (names c))
      most = let le = below_greatest (map well.acyclic.0 (names c)) (well.acyclic.0 n.0)
          (among_map well.acyclic.0 (names c) n.0 (at_place (names c) s n.0 n.1)) in
          omega (arith, le, is)
  some_from (suc fuel) s lt few = go (lone_reader c s) refl (some_from fuel)
    where
      go : (o : Option ℕ) → lone_reader c s ≡ o → ((g : ℕ) → g < length (names c)
          → greatest (map well.acyclic.0 (names c)) < number g + fuel
          → (r : ℕ) × (r < length (names c)) × IsStemOf c r g)
          → (r : ℕ) × (r < length (names c)) × IsStemOf c r s
      go None is ih = (s, lt, (here, is))
      go (Some g) is ih =
          let up = above s g (pin_law c well s g is).reads in
          let rest = ih g (lone_within s g is) (omega (arith, up, few)) in
          (rest.0, rest.1, (onward is rest.2.0, rest.2.1))

  pub some_stem : (s : ℕ) → s < length (names c) → (r : ℕ) × (r < length (names c)) × IsStemOf c r s
  some_stem s lt = some_from (suc (greatest (map well.acyclic.0 (names c)))) s lt (omega arith)

  -- the start of a listed fault's way
  pub way_of : (m : Model) (f : Fault) → Contains (faults m c) f
      → (s : ℕ) × (way_from c f.line ≡ Some s) × (s < length (names c))
  way_of m f at = let n = carries m c f well at in go f.line n.0 n.1 n.2
    where
      go : (l : Line) (n : Name) → name_on c l ≡ Some n → Contains (names c) n
          → (s : ℕ) × (way_from c l ≡ Some s) × (s < length (names c))
      go (line.Stem r) n e named = (r, refl, place_within (names c) r n e)
      go (line.Pin g p) n e named = (g, refl, gate_within c g p n e)
      go (line.Data cell) n e named = (
        signal c n,
        ap (option_map (signal c)) e,
        place_within (names c) (signal c n) n (name_of-signal c n named),
      )
      go (line.Out o) n e named = (
        signal c n,
        ap (option_map (signal c)) e,
        place_within (names c) (signal c n) n (name_of-signal c n named),
      )

pub some_stem_law : (c : List Statement) → IsWellFormed c → SomeStemLaw c
some_stem_law c well s lt = some_stem c well s lt

pub lead_law : (c : List Statement) → IsWellFormed c → LeadLaw c
lead_law c well s r p = lead_runs c well p

pub class_has_stem : (m : Model) (c : List Statement) → IsWellFormed c → SomeClassStemLaw m c
class_has_stem m c well class lt =
    let f = within_place (representatives m c) class lt in
    let listed = contained (faults m c) f.0
    (filtered_from _ (faults m c) f.0 (at_place (representatives m c) class f.0 f.1)).0 in
    let way = way_of c well m f.0 listed in
    let stem = some_stem c well way.0 way.2 in
    (stem.0, stem.1, (f.0, f.1, (way.0, way.1, stem.2)))

-- ---- a table of the stems of signals
-- the last signals in level order
abbrev pub StemsFrom : List Statement → List ℕ → List ℕ → ℕ → Type 0
StemsFrom c order stems place = (i : ℕ) → place ≤ i → i < length order
    → HasStem c stems (slice_index_or order i 0)

module _ (c : List Statement) (well : IsWellFormed c) (order : List ℕ) (is : IsLevelOrder c order)
  where
    -- a gate comes after the signals that it reads
    pub behind : (p k g : ℕ) → p < length order → k < length order → slice_index_or order k 0 ≡ g
        → Reads c g (slice_index_or order p 0) → p < k
    behind p k g within inside at r = go (cases_order p k)
      where
        go : (p ≡ k) ⊎ ((p < k) ⊎ (k < p)) → p < k
        go (inl same) = absurd (no_loop c g well
            (subst (Reads c g) (ap (λ i. slice_index_or order i 0) same ∙ at) r))
        go (inr (inl lt)) = lt
        go (inr (inr before)) =
            let wrong : GoesBefore c (slice_index_or order k 0) (slice_index_or order p 0) =
            is.ordered k p 0 before within in
            let moved : GoesBefore c (signal c r.name) (signal c r.read) =
            subst (λ x. GoesBefore c x (signal c r.read)) (at ∙ sym r.number)
            (subst (GoesBefore c (slice_index_or order k 0)) (sym r.of) wrong) in
            absurd (not_before c well r.name r.read r.kind r.args (among c _ r.gate)
            (among r.args r.read r.reads) moved)

    -- so its stem is known
    pub reader_known : (stems : List ℕ) (place g : ℕ) → 0 < place → place ≤ length order
        → StemsFrom c order stems place
        → lone_reader c (slice_index_or order (place - 1) 0) ≡ Some g → HasStem c stems g
    reader_known stems place g some low known h =
        let there = is.all g (lone_within c well (slice_index_or order (place - 1) 0) g h) in
        let at : slice_index_or order there.0 0 ≡ g = get_or_default order there.0 0 g there.1
        ∙ there.2 in
        let lt = behind (place - 1) there.0 g (omega (arith, some, low)) there.1 at
        (pin_law c well (slice_index_or order (place - 1) 0) g h).reads in
        subst (HasStem c stems) at (known there.0 (omega (arith, lt)) there.1)

    pub stems_more : (stems : List ℕ) (place stem : ℕ) → 0 < place → place ≤ length order
        → length stems ≡ length (names c) → StemsFrom c order stems place
        → stem < length (names c) → IsStemOf c stem (slice_index_or order (place - 1) 0)
        → StemsFrom c order (set stems (slice_index_or order (place - 1) 0) stem) (place - 1)
    stems_more stems place stem some low room known within now i from inside =
        go (cases_eq (slice_index_or order i 0) (slice_index_or order (place - 1) 0))
      where
        inner : slice_index_or order (place - 1) 0 < length stems
        inner = let lt = order_within c order (place - 1) is (omega (arith, some, low)) in
            omega (arith, lt, room)

        go : (slice_index_or order i 0 ≡ slice_index_or order (place - 1) 0)
            ⊎ (slice_index_or order i 0 ≢ slice_index_or order (place - 1) 0)
            → HasStem c (set stems (slice_index_or order (place - 1) 0) stem)
            (slice_index_or order i 0)
        go (inl same) = subst (HasStem c (set stems (slice_index_or order (place - 1) 0) stem))
            (sym same)
            (subst (λ x. (x < length (names c)) × IsStemOf c x (slice_index_or order (place - 1) 0))
            (sym (get_or-set_same stems (slice_index_or order (place - 1) 0) stem 0 inner))
            (within, now))
        go (inr other) = subst (λ x. (x < length (names c))
            × IsStemOf c x (slice_index_or order i 0))
            (sym (get_or-set_other stems (slice_index_or order (place - 1) 0)
            (slice_index_or order i 0) stem 0 other))
            (known i (by (cases_order (place - 1) i)) inside)
          where
            by : (place - 1 ≡ i) ⊎ ((place - 1 < i) ⊎ (i < place - 1)) → place ≤ i
            by (inl e) = absurd (other (ap (λ x. slice_index_or order x 0) (sym e)))
            by (inr (inl lt)) = omega (arith, lt)
            by (inr (inr gt)) = absurd (omega (arith, gt, from))

    pub stems_all : (stems : List ℕ) → StemsFrom c order stems 0 → (s : ℕ) → s < length (names c)
        → HasStem c stems s
    stems_all stems known s lt =
        let there = is.all s lt in
        subst (HasStem c stems) (get_or_default order there.0 0 s there.1 ∙ there.2)
        (known there.0 (omega arith) there.1)

-- ---- the stems of classes
module _ (m : Model) (c : List Statement) (well : IsWellFormed c) (list : FaultList)
    (classes : Collapsed) (class k : ℕ) (l : Line) (are : AreClassesOf m c classes)
    (same : list ≡ fault_list m c) (at : slice_get classes.representative class ≡ Some k)
    (on : IfSome (slice_get list.list k) (λ f. l ≡ f.line)) where
  found : (r : Fault) × (slice_get (faults m c) k ≡ Some r)
      × (slice_get (representatives m c) class ≡ Some r)
  found = representative_at m c classes class k are at

  line_is : l ≡ found.0.line
  line_is = subst (λ o. IfSome o (λ f. l ≡ f.line)) (ap (λ x. slice_get x.list k) same ∙ found.1) on

  listed : Contains (faults m c) found.0
  listed = contained (faults m c) found.0 (at_place (faults m c) k found.0 found.1)

  pub line_named : (n : Name) × (name_on c l ≡ Some n)
  line_named = let n = carries m c found.0 well listed in (n.0, ap (name_on c) line_is ∙ n.1)

  pub way_within : (s : ℕ) → way_from c l ≡ Some s → s < length (names c)
  way_within s e =
      let way = way_of c well m found.0 listed in
      let both : Some way.0 ≡ Some s = sym way.1 ∙ (ap (way_from c) (sym line_is) ∙ e) in
      let one : way.0 ≡ s = cc in
      subst (λ x. x < length (names c)) one way.2

  pub class_stem : (s r : ℕ) → way_from c l ≡ Some s → IsStemOf c r s → IsStemOfClass m c class r
  class_stem s r e stem = (found.0, found.2, (s, ap (way_from c) (sym line_is) ∙ e, stem))

pub stems_push : (m : Model) (c : List Statement) (stems : List ℕ) (class r : ℕ)
    → length stems ≡ class → HaveStems m c stems → r < length (names c) → IsStemOfClass m c class r
    → HaveStems m c (stems ++ r ∷ [])
stems_push m c stems class r count known within now x q at = go (pushed_get stems r q x at)
  where
    go : (slice_get stems x ≡ Some q) ⊎ ((x ≡ length stems) × (r ≡ q)) → (q < length (names c))
        × IsStemOfClass m c x q
    go (inl h) = known x q h
    go (inr h) = subst (λ y. (y < length (names c)) × IsStemOfClass m c x y) h.1 (
      within,
      subst (λ y. IsStemOfClass m c y r) (sym count ∙ sym h.0) now,
    )
