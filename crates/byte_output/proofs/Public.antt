-- The effect of several pieces, one after another, on an output.
use Rattle.std.proofs.Common.{◌≡◌, ◌≤◌, ◌-◌, ℕ, Bool, false, List, ◌++◌, length, take, drop, ◌∙◌}
use Rattle.std.proofs.Common.{append_assoc, arith, refl, subst}
use Rattle.std.proofs.Common.{◌<◌, ◌+◌, suc, ap, get_or, ◌∷◌, [], append-nil}
use Rattle.std.proofs.Math.Seq.{split_at}
use Rattle.std.proofs.lemmas.List.{take_more}
use Rattle.std.proofs.lemmas.List.Concat.{flat_map-append}
use Rattle.std.proofs.lemmas.Bool.{ne_eqb}
use Rattle.std.specs.List.{flat_map}
use Rattle.std.proofs.lemmas.Grind.{common_steps}
use Rattle.std.specs.Prelude.{Option, Some, None, Result, Ok, Err, ◌==◌, if◌then◌else◌}
use Rattle.byte_output.specs.Output.{Output, fails_after, TakesAll, TakesFront, Writes}
use Rattle.std.specs.Io.KnownBytes.{Appends}

pub appends_more : (a b c : Option (List ℕ)) (x y : List ℕ) → Appends a b x → Appends b c y
    → Appends a c (x ++ y)
appends_more None b c x y p q = tt
appends_more (Some s) None c x y p q = absurd p
appends_more (Some s) (Some t) None x y p q = absurd q
appends_more (Some s) (Some t) (Some u) x y p q = q ∙ rw (p, append_assoc) refl

-- a list is its front, and then the rest
pub rest_split : (front rest : List ℕ) (n : ℕ) → n ≤ length rest
    → front ++ rest ≡ (front ++ take n rest) ++ take (length rest - n) (drop n rest)
rest_split front rest n le = grind (arith, common_steps)

-- a call that took something counts no failure
pub counts_none : (n fails : ℕ) (b : Bool) → (n ≡ 0 → ⊥)
    → fails_after fails (if n == 0 then b else false) ≡ fails
counts_none n fails b h = rw (ne_eqb n 0 h) refl

-- two texts that were taken whole, one after the other
pub takes_more : (a b c : Output) (x y : List ℕ) → TakesAll a b x → TakesAll b c y
    → TakesAll a c (x ++ y)
takes_more a b c x y p q = (appends_more a.bytes b.bytes c.bytes x y p.0 q.0, q.1 ∙ p.1)

-- a text whose beginning was taken, and whose next part was not taken whole
pub stopped : (x y rest text : List ℕ) (a b c : Output) → TakesAll a b x → TakesFront b c y
    → text ≡ x ++ (y ++ rest) → TakesFront a c text
stopped x y rest text a b c taken w is = (
  x ++ w.0,
  w.1 ++ rest,
  is ∙ rw (w.2, append_assoc w.0 w.1 rest, append_assoc x w.0 (w.1 ++ rest)) refl,
  appends_more a.bytes b.bytes c.bytes x w.0 taken.0 w.3,
  rw (← taken.1) w.4,
)

-- a list's parts, round the part y at an index, and up to it
pub flat_map_cut : {X : Type 0} (f : X → List ℕ) (xs : List X) (i : ℕ) (d : X) (y : List ℕ)
    → i < length xs → y ≡ f (get_or xs i d)
    → flat_map f xs ≡ flat_map f (take i xs) ++ (y ++ flat_map f (drop (suc i) xs))
flat_map_cut f xs i d y h e = rw e (ap (λ l. flat_map f l) (split_at xs i d h)
    ∙ flat_map-append f (take i xs) (get_or xs i d ∷ drop (suc i) xs))

pub flat_map_taken : {X : Type 0} (f : X → List ℕ) (xs : List X) (i : ℕ) (d : X) (y : List ℕ)
    → i < length xs → y ≡ f (get_or xs i d)
    → flat_map f (take (i + 1) xs) ≡ flat_map f (take i xs) ++ y
flat_map_taken f xs i d y h e =
    rw e (ap (λ l. flat_map f l) (take_more xs i d h)
    ∙ (flat_map-append f (take i xs) (get_or xs i d ∷ [])
    ∙ rw (append-nil (f (get_or xs i d))) refl))

pub stopped_after : (x y : List ℕ) (a b c : Output) → TakesAll a b x → TakesFront b c y
    → TakesFront a c (x ++ y)
stopped_after x y a b c p w = stopped x y [] (x ++ y) a b c p w (rw (append-nil y) refl)

-- equal texts are written alike
pub writes_same : {T E : Type 0} (r : Result T E) (a b : Output) (x y : List ℕ) → x ≡ y
    → Writes r a b x → Writes r a b y
writes_same r a b x y e w = subst (λ text. Writes r a b text) e w

-- after a part that was taken whole, the next part
pub writes_then : {T E : Type 0} (r : Result T E) (a b c : Output) (x y : List ℕ) → TakesAll a b x
    → Writes r b c y → Writes r a c (x ++ y)
writes_then (Ok v) a b c x y p w = takes_more a b c x y p w
writes_then (Err e) a b c x y p w = stopped_after x y a b c p w

-- the rest of a text after a part that was not taken whole
pub stopped_before : (x y : List ℕ) (a b : Output) → TakesFront a b x → TakesFront a b (x ++ y)
stopped_before x y a b w = (w.0, w.1 ++ y, rw (w.2, append_assoc w.0 w.1 y) refl, w.3, w.4)
