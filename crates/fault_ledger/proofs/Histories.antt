-- Facts about histories: the holder of a piece, and the piece's states.
use Rattle.std.proofs.Common.{◌≡◌, ◌≢◌, ℕ, ◌+◌, ◌<◌, ◌≤◌, Bool, true, false, if◌then◌else◌, eqb, []}
use Rattle.std.proofs.Common.{◌∷◌, ◌++◌, Option, Some, None, refl, sym, ap, ◌∙◌, arith, ne_eqb}
use Rattle.std.{proofs.Common.{eqb-true, eq-eqb, append_assoc}, specs.Option.option_map_or}
use Rattle.fault_ledger.specs.{declared.Event.Event, History.ContinuesWithout}
use Rattle.fault_ledger.specs.History.{History, claims, held_by, holds, state_of, entry, NoneOf}
use Rattle.fault_ledger.specs.declared.PieceState.TheVariants as state

-- a piece that is held was claimed
pub held_below : (w p : ℕ) (h : History) → held_by w h ≡ Some p → p < claims h
held_below w p [] e = absurd (cc)
held_below w p (Event.Claim u ∷ h) e = go (eqb w u) (held_below w p h) e
  where
    go : (b : Bool) → (held_by w h ≡ Some p → p < claims h)
        → (if b then Some (claims h) else held_by w h) ≡ Some p → p < claims h + 1
    go true i e = let q : claims h ≡ p = cc in omega arith
    go false i e = let j = i e in omega arith
held_below w p (Event.Report u o ∷ h) e = go (eqb w u) (held_below w p h) e
  where
    go : (b : Bool) → (held_by w h ≡ Some p → p < claims h)
        → (if b then None else held_by w h) ≡ Some p → p < claims h
    go true i e = absurd (cc)
    go false i e = i e
held_below w p (Event.Drop u ∷ h) e = go (eqb w u) (held_below w p h) e
  where
    go : (b : Bool) → (held_by w h ≡ Some p → p < claims h)
        → (if b then None else held_by w h) ≡ Some p → p < claims h
    go true i e = absurd (cc)
    go false i e = i e

-- no piece has two holders
pub held_once : (w v p : ℕ) (h : History) → held_by w h ≡ Some p → held_by v h ≡ Some p → w ≡ v
held_once w v p [] e f = absurd (cc)
held_once w v p (Event.Claim u ∷ h) e f = go (eqb w u) (eqb v u) (held_once w v p h) refl refl e f
  where
    go : (a b : Bool) → (held_by w h ≡ Some p → held_by v h ≡ Some p → w ≡ v) → eqb w u ≡ a
        → eqb v u ≡ b → (if a then Some (claims h) else held_by w h) ≡ Some p
        → (if b then Some (claims h) else held_by v h) ≡ Some p → w ≡ v
    go true true i x y e f = eqb-true w u x ∙ sym (eqb-true v u y)
    go true false i x y e f = let q : claims h ≡ p = cc in let j = held_below v p h f in
        absurd (omega arith)
    go false true i x y e f = let q : claims h ≡ p = cc in let j = held_below w p h e in
        absurd (omega arith)
    go false false i x y e f = i e f
held_once w v p (Event.Report u o ∷ h) e f = go (eqb w u) (eqb v u) (held_once w v p h) e f
  where
    go : (a b : Bool) → (held_by w h ≡ Some p → held_by v h ≡ Some p → w ≡ v)
        → (if a then None else held_by w h) ≡ Some p → (if b then None else held_by v h) ≡ Some p
        → w ≡ v
    go true b i e f = absurd (cc)
    go false true i e f = absurd (cc)
    go false false i e f = i e f
held_once w v p (Event.Drop u ∷ h) e f = go (eqb w u) (eqb v u) (held_once w v p h) e f
  where
    go : (a b : Bool) → (held_by w h ≡ Some p → held_by v h ≡ Some p → w ≡ v)
        → (if a then None else held_by w h) ≡ Some p → (if b then None else held_by v h) ≡ Some p
        → w ≡ v
    go true b i e f = absurd (cc)
    go false true i e f = absurd (cc)
    go false false i e f = i e f

is_some-piece : (p : ℕ) (o : Option ℕ) → option_map_or (λ q. eqb q p) o false ≡ true → o ≡ Some p
is_some-piece p None e = absurd (cc)
is_some-piece p (Some q) e = ap Some (eqb-true q p e)

is_not-piece : (p : ℕ) (o : Option ℕ) → (o ≡ Some p → ⊥)
    → option_map_or (λ q. eqb q p) o false ≡ false
is_not-piece p None n = refl
is_not-piece p (Some q) n = ne_eqb q p (λ e. n (ap Some e))

-- the meaning of `holds`
pub holds-held : (w p : ℕ) (h : History) → holds w p h ≡ true → held_by w h ≡ Some p
holds-held w p h e = is_some-piece p (held_by w h) e

pub holds-not : (w p : ℕ) (h : History) → (held_by w h ≡ Some p → ⊥) → holds w p h ≡ false
holds-not w p h n = is_not-piece p (held_by w h) n

pub held-holds : (w p : ℕ) (h : History) → held_by w h ≡ Some p → holds w p h ≡ true
held-holds w p h e = ap (λ o. option_map_or (λ q. eqb q p) o false) e ∙ eq-eqb p p refl

-- a piece that was not claimed is open
pub unclaimed_open : (p : ℕ) (h : History) → claims h ≤ p → entry p h ≡ state.Open
unclaimed_open p [] l = refl
unclaimed_open p (Event.Claim w ∷ h) l = unclaimed_open p h (omega arith)
unclaimed_open p (Event.Report w o ∷ h) l =
    rw (holds-not w p h (λ e. let i = held_below w p h e in omega arith)) (unclaimed_open p h l)
unclaimed_open p (Event.Drop w ∷ h) l =
    rw (holds-not w p h (λ e. let i = held_below w p h e in omega arith)) (unclaimed_open p h l)

-- a piece that is held is open
pub held_open : (w p : ℕ) (h : History) → held_by w h ≡ Some p → entry p h ≡ state.Open
held_open w p [] e = refl
held_open w p (Event.Claim v ∷ h) e = go (eqb w v) (held_open w p h) e
  where
    go : (b : Bool) → (held_by w h ≡ Some p → entry p h ≡ state.Open)
        → (if b then Some (claims h) else held_by w h) ≡ Some p → entry p h ≡ state.Open
    go true i e = let q : claims h ≡ p = cc in unclaimed_open p h (omega arith)
    go false i e = i e
held_open w p (Event.Report v o ∷ h) e = go (eqb w v) (held_open w p h) refl e
  where
    go : (b : Bool) → (held_by w h ≡ Some p → entry p h ≡ state.Open)
        → eqb w v ≡ b → (if b then None else held_by w h) ≡ Some p
        → (if holds v p h then state_of o else entry p h) ≡ state.Open
    go true i x e = absurd (cc)
    go false i x e =
        rw (holds-not v p h (λ f. let q = eq-eqb w v (held_once w v p h e f) in absurd (cc))) (i e)
held_open w p (Event.Drop v ∷ h) e = go (eqb w v) (held_open w p h) refl e
  where
    go : (b : Bool) → (held_by w h ≡ Some p → entry p h ≡ state.Open)
        → eqb w v ≡ b → (if b then None else held_by w h) ≡ Some p
        → (if holds v p h then state.Skipped else entry p h) ≡ state.Open
    go true i x e = absurd (cc)
    go false i x e =
        rw (holds-not v p h (λ f. let q = eq-eqb w v (held_once w v p h e f) in absurd (cc))) (i e)

-- the state of a reported or dropped piece stays
pub entry_past : (p : ℕ) (d h : History) → entry p h ≢ state.Open → entry p (d ++ h) ≡ entry p h
entry_past p [] h n = refl
entry_past p (Event.Claim w ∷ d) h n = entry_past p d h n
entry_past p (Event.Report w o ∷ d) h n =
    let i = entry_past p d h n in
    rw (holds-not w p (d ++ h) (λ e. n (sym i ∙ held_open w p (d ++ h) e))) i
entry_past p (Event.Drop w ∷ d) h n =
    let i = entry_past p d h n in
    rw (holds-not w p (d ++ h) (λ e. n (sym i ∙ held_open w p (d ++ h) e))) i

-- the events of others don't change the piece that a worker holds
pub held_past : (w : ℕ) (d h : History) → NoneOf w d → held_by w (d ++ h) ≡ held_by w h
held_past w [] h n = refl
held_past w (Event.Claim v ∷ d) h n = rw (ne_eqb w v (λ e. n.0 (sym e))) (held_past w d h n.1)
held_past w (Event.Report v o ∷ d) h n = rw (ne_eqb w v (λ e. n.0 (sym e))) (held_past w d h n.1)
held_past w (Event.Drop v ∷ d) h n = rw (ne_eqb w v (λ e. n.0 (sym e))) (held_past w d h n.1)

pub held_goes_on : (w : ℕ) (later earlier : History) → ContinuesWithout w later earlier
    → held_by w later ≡ held_by w earlier
held_goes_on w later earlier c = ap (held_by w) c.1 ∙ held_past w c.0 earlier c.2

pub claims_past : (d h : History) → claims h ≤ claims (d ++ h)
claims_past [] h = omega arith
claims_past (Event.Claim v ∷ d) h = let i = claims_past d h in omega arith
claims_past (Event.Report v o ∷ d) h = claims_past d h
claims_past (Event.Drop v ∷ d) h = claims_past d h

none_append : (w : ℕ) (d e : History) → NoneOf w d → NoneOf w e → NoneOf w (d ++ e)
none_append w [] e a b = b
none_append w (x ∷ d) e a b = (a.0, none_append w d e a.1 b)

-- to go on without a worker's events, twice
pub goes_on_twice : (w : ℕ) (last later earlier : History) → ContinuesWithout w last later
    → ContinuesWithout w later earlier → ContinuesWithout w last earlier
goes_on_twice w last later earlier a b = (
  a.0 ++ b.0,
  a.1 ∙ ap (λ h. a.0 ++ h) b.1 ∙ sym (append_assoc a.0 b.0 earlier),
  none_append w a.0 b.0 a.2 b.2,
)

pub goes_on_same : (w : ℕ) (h : History) → ContinuesWithout w h h
goes_on_same w h = ([], refl, tt)

-- the state of a reported or dropped piece stays
pub entry_goes_on : (w p : ℕ) (later earlier : History) → ContinuesWithout w later earlier
    → entry p earlier ≢ state.Open → entry p later ≡ entry p earlier
entry_goes_on w p later earlier c n = ap (entry p) c.1 ∙ entry_past p c.0 earlier n
