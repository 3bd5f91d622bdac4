-- Rows of a list that are followed one after the other: the tests of a class are taken at its
-- place, or an entry for the class is added to a list.
use Rattle.std.proofs.Common.{◌≡◌, ◌≢◌, ◌+◌, ◌<◌, ◌≤◌, ◌⊎◌, inl, inr, ℕ, refl, sym, ◌∙◌, ap, subst}
use Rattle.std.proofs.Common.{Bool, List, [], ◌∷◌, ◌++◌, length, arith, Some, true}
use Rattle.std.{specs.Prelude.{Contains, slice_get, unwrap_or}, proofs.lemmas.List.length-append}
use Rattle.std.proofs.lemmas.Bool.{cases_eq, cases_lt, false≢true}
use Rattle.std.proofs.lemmas.Option.{get_or_from_slice_get, slice_get_within}
use Rattle.list_lemmas.proofs.Members.{Among, among, among_append, among_left, among_right}
use Rattle.list_lemmas.proofs.Members.{contained}
use Rattle.flat_circuit.specs.declared.block_span.BlockSpan.{BlockSpan}
use Rattle.flat_circuit.specs.declared.origin.ListedClass.{ListedClass}
use Rattle.region_sim.specs.{Goals.HasTakenAt, OpenPlaces.{AreSettled, KeepsClosed}}
use Rattle.region_sim.{specs.RegionHits.IsOpenAt, proofs.ListParts.{get_left, get_right}}
use Rattle.block_sim.specs.Parts.{Parts}

-- the place is that of an entry
abbrev pub IsPlaceOf : {X : Type 0} → (X → ℕ) → List X → ℕ → Type 0
IsPlaceOf {X} place_of entries place = (one : X) × Contains entries one × (place_of one ≡ place)

-- for each open class from one place up to another the tests of the span were taken, or its place
-- is that of an entry and nothing was taken
abbrev pub HaveTakenOr : {K X : Type 0} → (K → Bool) → ((ℕ → Bool) → ℕ → ℕ → K → Type 0)
    → (X → ℕ) → Parts → BlockSpan → List ListedClass → List X → ℕ → ℕ → List K → List K → Type 0
HaveTakenOr is_open means place_of job span rows entries from to before now =
    (place : ℕ) (row : ListedClass) → from ≤ place → place < to
    → IsOpenAt is_open rows before place row → HasTakenAt means job span row before now place
    ⊎ (IsPlaceOf place_of entries place × (slice_get now place ≡ slice_get before place))

-- what is said of the open rows up to a place is said up to the next one that may be open
pub each_over : {K : Type 0} (is_open : K → Bool) (rows : List ListedClass) (before : List K)
    (from p q : ℕ) (P : ℕ → ListedClass → Type 0) → AreSettled is_open before p q
    → ((place : ℕ) (row : ListedClass) → from ≤ place → place < p
    → IsOpenAt is_open rows before place row → P place row)
    → (place : ℕ) (row : ListedClass) → from ≤ place → place < q
    → IsOpenAt is_open rows before place row → P place row
each_over is_open rows before from p q P settled so place row le lt idle = go (cases_lt place p)
  where
    go : (place < p) ⊎ (p ≤ place) → P place row
    go (inl low) = so place row le low idle
    go (inr high) =
        let known = settled place high lt in
        let both : Some idle.one ≡ Some known.0 = sym idle.kept_is ∙ known.1 in
        absurd (false≢true (sym known.2
        ∙ (ap (λ o. is_open (unwrap_or o known.0)) (sym both) ∙ idle.wanted)))

-- ---- one row more
module _ {K X : Type 0} (is_open : K → Bool) (means : (ℕ → Bool) → ℕ → ℕ → K → Type 0)
    (class_of place_of : X → ℕ) (Came : X → Type 0) (job : Parts)
    (span : BlockSpan) (row : ListedClass) (p : ℕ) (was entries : List X) (old now : List K) where
  abbrev pub IsTakenOrAdded : Type 0
  IsTakenOrAdded = ((entries ≡ was) × (length now ≡ length old)
      × ((other : ℕ) → other ≢ p → slice_get now other ≡ slice_get old other)
      × HasTakenAt means job span row old now p)
      ⊎ ((now ≡ old) × (one : X) × (class_of one ≡ row.class) × (place_of one ≡ p) × Came one
      × (entries ≡ was ++ one ∷ []))

  module _ (step : IsTakenOrAdded) where
    -- the entries are still there
    still : (one : X) → Contains was one → Contains entries one
    still one there = go step
      where
        go : IsTakenOrAdded → Contains entries one
        go (inl s) = subst (λ l. Contains l one) (sym s.0) there
        go (inr s) = subst (λ l. Contains l one) (sym s.5) (contained (was ++ s.1 ∷ []) one
            (among_left was (s.1 ∷ []) one (among was one there)))

    -- what was kept elsewhere is still
    pub elsewhere : (place : ℕ) → place ≢ p → slice_get now place ≡ slice_get old place
    elsewhere place ne = go step
      where
        go : IsTakenOrAdded → slice_get now place ≡ slice_get old place
        go (inl s) = s.2 place ne
        go (inr s) = ap (λ l. slice_get l place) s.0

    pub as_many : length now ≡ length old
    as_many = go step
      where
        go : IsTakenOrAdded → length now ≡ length old
        go (inl s) = s.1
        go (inr s) = ap length s.0

    pub one_more : length entries ≤ length was + 1
    one_more = go step
      where
        go : IsTakenOrAdded → length entries ≤ length was + 1
        go (inl s) = let e = ap length s.0 in omega (arith, e)
        go (inr s) =
            let e = ap length s.5 ∙ length-append was (s.1 ∷ []) in
            let one : length (s.1 ∷ []) ≡ 1 = omega arith in
            omega (arith, e, one)

    -- what holds of the new entry and of each old one
    pub each_more : (P : X → Type 0)
        → ((one : X) → class_of one ≡ row.class → place_of one ≡ p → Came one → P one)
        → ((one : X) → Contains was one → P one) → (one : X) → Contains entries one → P one
    each_more P own before one there = go step
      where
        either : (s : X) → P s → Among one was ⊎ Among one (s ∷ []) → P one
        either s is (inl h) = before one (contained was one h)
        either s is (inr (inl same)) = subst P same is
        either s is (inr (inr bad)) = absurd bad

        go : IsTakenOrAdded → P one
        go (inl s) = before one (subst (λ l. Contains l one) s.0 there)
        go (inr s) = either s.1 (own s.1 s.2 s.3 s.4) (among_append was (s.1 ∷ []) one
            (among (was ++ s.1 ∷ []) one (subst (λ l. Contains l one) s.5 there)))

    -- they stand in the order of their places, if the new one comes behind the old ones
    abbrev InOrder : List X → Type 0
    InOrder xs = (i k : ℕ) (one other : X) → i < k → slice_get xs i ≡ Some one
        → slice_get xs k ≡ Some other → place_of one < place_of other

    pub order_more : ((one : X) → Contains was one → place_of one < p) → InOrder was
        → InOrder entries
    order_more behind ordered = go step
      where
        with_one : (s : X) → place_of s ≡ p → InOrder (was ++ s ∷ [])
        with_one s at i k one other lt is there = by (cases_lt k (length was))
          where
            low : i < length (was ++ s ∷ [])
            low = slice_get_within (was ++ s ∷ []) i one is

            end : k < length (was ++ s ∷ [])
            end = slice_get_within (was ++ s ∷ []) k other there

            long : length (was ++ s ∷ []) ≡ length was + 1
            long = length-append was (s ∷ [])

            first : i < length was
            first = omega (arith, lt, end, long)

            one_is : slice_get was i ≡ Some one
            one_is = sym (get_left was (s ∷ []) i first) ∙ is

            by : (k < length was) ⊎ (length was ≤ k) → place_of one < place_of other
            by (inl less) = ordered i k one other lt one_is
                (sym (get_left was (s ∷ []) k less) ∙ there)
            by (inr le) =
                let last : length was + 0 ≡ k = omega (arith, le, end, long) in
                let both : Some s ≡ Some other = sym (get_right was (s ∷ []) 0)
                ∙ (ap (slice_get (was ++ s ∷ [])) last ∙ there) in
                let same : place_of s ≡ place_of other = ap (λ o. place_of (unwrap_or o s)) both in
                let before = behind one (i, first, get_or_from_slice_get was i one one one_is) in
                omega (arith, before, same, at)

        go : IsTakenOrAdded → InOrder entries
        go (inl s) = subst InOrder (sym s.0) ordered
        go (inr s) = subst InOrder (sym s.5) (with_one s.1 s.3)

    here : (before : List K) → slice_get old p ≡ slice_get before p
        → HasTakenAt means job span row before now p
        ⊎ (IsPlaceOf place_of entries p × (slice_get now p ≡ slice_get before p))
    here before same = go step
      where
        go : IsTakenOrAdded → HasTakenAt means job span row before now p
            ⊎ (IsPlaceOf place_of entries p × (slice_get now p ≡ slice_get before p))
        go (inl s) = let t = s.3 in inl (t.0, t.1, sym same ∙ t.2, t.3, t.4)
        go (inr s) = inr (
          (
            s.1,
            subst (λ l. Contains l s.1) (sym s.5)
                (contained (was ++ s.1 ∷ []) s.1 (among_right was (s.1 ∷ []) s.1 (inl refl))),
            s.3,
          ),
          ap (λ l. slice_get l p) s.0 ∙ same,
        )

    pub taken_more : (rows : List ListedClass) (before : List K) (from : ℕ)
        → slice_get rows p ≡ Some row → slice_get old p ≡ slice_get before p
        → HaveTakenOr is_open means place_of job span rows was from p before old
        → HaveTakenOr is_open means place_of job span rows entries from (p + 1) before now
    taken_more rows before from is agree so place other le lt idle = go (cases_eq place p)
      where
        keep : place ≢ p → HasTakenAt means job span other before old place
            ⊎ (IsPlaceOf place_of was place × (slice_get old place ≡ slice_get before place))
            → HasTakenAt means job span other before now place
            ⊎ (IsPlaceOf place_of entries place × (slice_get now place ≡ slice_get before place))
        keep ne (inl h) = inl (h.0, h.1, h.2, elsewhere place ne ∙ h.3, h.4)
        keep ne (inr h) = inr ((h.0.0, still h.0.0 h.0.1, h.0.2), elsewhere place ne ∙ h.1)

        go : (place ≡ p) ⊎ (place ≢ p) → HasTakenAt means job span other before now place
            ⊎ (IsPlaceOf place_of entries place × (slice_get now place ≡ slice_get before place))
        go (inl same) =
            let both : Some other ≡ Some row = sym idle.row_is ∙ (ap (slice_get rows) same ∙ is) in
            let one : other ≡ row = cc in
            subst (λ n. HasTakenAt means job span other before now n
            ⊎ (IsPlaceOf place_of entries n × (slice_get now n ≡ slice_get before n))) (sym same)
            (subst (λ (r : ListedClass). HasTakenAt means job span r before now p
            ⊎ (IsPlaceOf place_of entries p × (slice_get now p ≡ slice_get before p))) (sym one)
            (here before agree))
        go (inr ne) = keep ne (so place other le (omega (arith, lt, ne)) idle)

    pub others_more : (from : ℕ) (first : List K) → from ≤ p
        → ((place : ℕ) → (place < from) ⊎ (p ≤ place) → slice_get old place ≡ slice_get first place)
        → (place : ℕ) → (place < from) ⊎ (p + 1 ≤ place)
        → slice_get now place ≡ slice_get first place
    others_more from first after before place (inl lt) =
        elsewhere place (λ e. omega (arith, lt, e, after)) ∙ before place (inl lt)
    others_more from first after before place (inr le) =
        elsewhere place (λ e. omega (arith, le, e)) ∙ before place (inr (omega (arith, le)))

    -- what was no longer open stays, if something is open here
    pub closed_more : (first : List K) (own : K) → slice_get first p ≡ Some own
        → is_open own ≡ true → KeepsClosed is_open first old → KeepsClosed is_open first now
    closed_more first own at wanted before place one is closed =
        elsewhere place not_here ∙ before place one is closed
      where
        not_here : place ≢ p
        not_here same =
            let both : Some one ≡ Some own = sym is ∙ (ap (slice_get first) same ∙ at) in
            false≢true (sym closed ∙ (ap (λ o. is_open (unwrap_or o one)) both ∙ wanted))

    -- what stands at the places of the entries is what stood there before
    pub still_more : (before : List K) → slice_get old p ≡ slice_get before p
        → ((one : X) → Contains was one → place_of one < p) → ((one : X) → Contains was one
        → slice_get old (place_of one) ≡ slice_get before (place_of one))
        → (one : X) → Contains entries one
        → slice_get now (place_of one) ≡ slice_get before (place_of one)
    still_more before agree behind so = each_with step
      where
        each_with : IsTakenOrAdded → (one : X) → Contains entries one
            → slice_get now (place_of one) ≡ slice_get before (place_of one)
        each_with (inl s) one there =
            let member = subst (λ l. Contains l one) s.0 there in
            let low = behind one member in
            elsewhere (place_of one) (λ e. omega (arith, low, e)) ∙ so one member
        each_with (inr s) one there = ap (λ l. slice_get l (place_of one)) s.0
            ∙ each_more (λ x. slice_get old (place_of x) ≡ slice_get before (place_of x))
            (λ x class at came. ap (slice_get old) at ∙ (agree ∙ ap (slice_get before) (sym at)))
            so one there
