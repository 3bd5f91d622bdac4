-- A line that only one pin of a gate reads: a fault on it alters other signals only as far as it
-- alters the gate's.
use Rattle.std.proofs.Common.{◌≡◌, ◌<◌, ℕ, zero, suc, ◌+◌, refl, sym, ◌∙◌, ap, subst, Bool, true}
use Rattle.std.proofs.Common.{false, List, [], ◌∷◌, arith, inl, inr, ◌⊎◌}
use Rattle.std.specs.Prelude.{◌≢◌, Contains, Option, Some, None, map, bytes_eq}
use Rattle.std.specs.List.{enumerate_from}
use Rattle.bench_net.specs.{declared.Kind.Kind, declared.Sink.Sink, Circuit.IsWellFormed}
use Rattle.bench_net.specs.Statement.{Name, Statement, Gate}
use Rattle.bench_net.specs.Scan.{names, inputs, cells, sources, signal, observers}
use Rattle.bench_net.proofs.Public.{same_bytes, bytes_refl, read_named}
use Rattle.list_lemmas.proofs.Members.{Among, among, contained, among_left, among_right}
use Rattle.list_lemmas.proofs.Places.{placed}
use Rattle.fault_model.specs.{declared.Line.Line, Fault.{Fault, branch}}
use Rattle.fault_model.specs.Solution.{Test, Solves, value, under, sees, shows}
use Rattle.fault_model.proofs.Public.{Driven, driven, under_other, observes, signal_apart}
use Rattle.fault_model.proofs.Public.{defined_among}
use Rattle.fault_model.specs.declared.Line.TheVariants as line

-- a name that only one gate reads, by one or more pins, and that no observer observes
pub record IsOnlyFor (c : List Statement) (name : Name) (args : List Name)
    (read : Name) : Type 0 where
  pub reads : Among read args
  pub alone : (x : Name) (kind : Kind) (others : List Name) → Among (Gate x kind others) c
      → Among read others → x ≡ name
  pub unobserved : (o : Sink × Name) → Contains (observers c) o → o.1 ≢ read

-- a line that only one gate reads: the stem of a name that no other reads, or the branch to a pin
pub record Enters (c : List Statement) (l : Line) : Type 0 where
  pub name : Name
  pub kind : Kind
  pub args : List Name
  pub stands : Among (Gate name kind args) c
  pub on : ((read : Name) × (l ≡ line.Stem (signal c read)) × IsOnlyFor c name args read)
      ⊎ ((pin : ℕ) × (l ≡ line.Pin (signal c name) pin))

-- a fault, if there is one, is on no line that a signal's equation reads or drives
abbrev pub IsFree : Option Fault → ℕ → Type 0
IsFree None s = Unit {0}
IsFree (Some f) s = (f.line ≢ line.Stem s) × ((pin : ℕ) → f.line ≢ line.Pin s pin)

pub free_stem : (f : Option Fault) (s : ℕ) (b : Bool) → IsFree f s → under f (line.Stem s) b ≡ b
free_stem None s b h = refl
free_stem (Some f) s b h = under_other f (line.Stem s) b h.0

free_pin : (f : Option Fault) (s k : ℕ) (b : Bool) → IsFree f s → under f (line.Pin s k) b ≡ b
free_pin None s k b h = refl
free_pin (Some f) s k b h = under_other f (line.Pin s k) b (h.1 k)

pub free_pins : (f : Option Fault) (v : Name → Bool) (s k : ℕ) (args : List Name) → IsFree f s
    → map (λ at. sees f v (line.Pin s at.0) at.1) (enumerate_from k args) ≡ map v args
free_pins f v s k [] h = refl
free_pins f v s k (a ∷ args) h = rw (free_pin f s k (v a) h, free_pins f v s (k + 1) args h) refl

pub map_alike : {X Y : Type 0} (f g : X → Y) (xs : List X) → ((x : X) → Among x xs → f x ≡ g x)
    → map f xs ≡ map g xs
map_alike f g [] same = refl
map_alike f g (x ∷ xs) same = rw (same x (inl refl), map_alike f g xs (λ y a. same y (inr a))) refl

-- Two solutions agree on the names that have a property, if each such name meets one of two
-- conditions. It has one bit in both solutions; or it is on no fault's line, and its gate reads
-- names that have the property.
module _ (c : List Statement) (t : Test) (f g : Option Fault) (v w : Name
    → Bool) (well : IsWellFormed c) (p : Solves c t f v) (q : Solves c t g w) (P : Name
    → Type 0) where
  abbrev pub Follows : Name → Type 0
  Follows m = (v m ≡ w m) ⊎ (IsFree f (signal c m) × IsFree g (signal c m)
      × ((kind : Kind) (args : List Name) → Among (Gate m kind args) c → (a : Name) → Among a args
      → P a))

  module _ (step : (m : Name) → Among m (names c) → P m → Follows m) where
    below_same : (bound : ℕ) (m : Name) → well.acyclic.0 m < bound → Among m (names c) → P m
        → v m ≡ w m
    below_same zero m lt a has = absurd (omega (arith, lt))
    below_same (suc bound) m lt a has = go (below_same bound) (step m a has) (driven c m a)
      where
        by_source : IsFree f (signal c m) → IsFree g (signal c m) → Among m (sources c) → v m ≡ w m
        by_source off_f off_g h =
            let at = placed (sources c) m h in
            p.source at.0 m at.1 ∙ (free_stem f (signal c m) _ off_f
            ∙ sym (q.source at.0 m at.1 ∙ free_stem g (signal c m) _ off_g))

        go : ((x : Name) → well.acyclic.0 x < bound → Among x (names c) → P x → v x ≡ w x)
            → Follows m → Driven c m → v m ≡ w m
        go ih (inl e) d = e
        go ih (inr h) (inl x) = by_source h.0 h.1
            (among_left (inputs c) (map (λ cell. cell.0) (cells c)) m x)
        go ih (inr h) (inr (inl x)) =
            by_source h.0 h.1 (among_right (inputs c) (map (λ cell. cell.0) (cells c)) m x)
        go ih (inr h) (inr (inr x)) =
            let at : Contains c (Gate m x.0 x.1) = contained c (Gate m x.0 x.1) x.2 in
            p.gate m x.0 x.1 at ∙ (free_stem f (signal c m) _ h.0
            ∙ (ap (value x.0) (free_pins f v (signal c m) 0 x.1 h.0
            ∙ (map_alike v w x.1 same ∙ sym (free_pins g w (signal c m) 0 x.1 h.1)))
            ∙ sym (q.gate m x.0 x.1 at ∙ free_stem g (signal c m) _ h.1)))
          where
            same : (a : Name) → Among a x.1 → v a ≡ w a
            same a b =
                let up = well.acyclic.1 m a (
                  x.0,
                  x.1,
                  contained c (Gate m x.0 x.1) x.2,
                  contained x.1 a b,
                ) in
                ih a (omega (arith, lt, up))
                (among (names c) a (read_named c (Gate m x.0 x.1) a well x.2 b))
                (h.2 x.0 x.1 x.2 a b)

    pub same_where : (m : Name) → Among m (names c) → P m → v m ≡ w m
    same_where m a has = below_same (suc (well.acyclic.0 m)) m (omega arith) a has

module _ (c : List Statement) (well : IsWellFormed c) (l : Line) (e : Enters c l) where
  abbrev IsOn : Type 0
  IsOn = ((read : Name) × (l ≡ line.Stem (signal c read)) × IsOnlyFor c e.name e.args read)
      ⊎ ((pin : ℕ) × (l ≡ line.Pin (signal c e.name) pin))

  pub gate_named : Among e.name (names c)
  gate_named = defined_among c (Gate e.name e.kind e.args) e.name e.stands refl

  pub arg_named : (a : Name) → Among a e.args → Among a (names c)
  arg_named a h = among (names c) a (read_named c (Gate e.name e.kind e.args) a well e.stands h)

  pub apart : (m n : Name) → Among m (names c) → Among n (names c) → m ≢ n → signal c m ≢ signal c n
  apart m n a b other same = other (signal_apart c m n (contained (names c) m a)
      (contained (names c) n b) same)

  -- the line is none that another signal's equation reads or drives
  pub line_away : (m : Name) → Among m (names c) → m ≢ e.name → l ≢ line.Stem (signal c m)
      → (l ≢ line.Stem (signal c m)) × ((pin : ℕ) → l ≢ line.Pin (signal c m) pin)
  line_away m a other off = (off, λ pin same. go pin same e.on)
    where
      go : (pin : ℕ) → l ≡ line.Pin (signal c m) pin → IsOn → ⊥
      go pin same (inl on) = let h : line.Stem (signal c on.0) ≡ line.Pin (signal c m) pin =
          sym on.1 ∙ same in cc
      go pin same (inr on) =
          let h : line.Pin (signal c e.name) on.0 ≡ line.Pin (signal c m) pin = sym on.1 ∙ same in
          let number : signal c m ≡ signal c e.name = cc in
          apart m e.name a gate_named other number

  -- nor the stem of a name that another gate reads
  pub args_away : (x a : Name) (kind : Kind) (args : List Name) → Among (Gate x kind args) c
      → Among a args → x ≢ e.name → l ≢ line.Stem (signal c a)
  args_away x a kind args stands h other same = go e.on
    where
      go : IsOn → ⊥
      go (inl on) =
          let stems : line.Stem (signal c on.0) ≡ line.Stem (signal c a) = sym on.1 ∙ same in
          let number : signal c a ≡ signal c on.0 = cc in
          let is : a ≡ on.0 = signal_apart c a on.0
          (read_named c (Gate x kind args) a well stands h)
          (contained (names c) on.0 (arg_named on.0 on.2.reads)) number in
          other (on.2.alone x kind args stands (subst (λ n. Among n args) is h))
      go (inr on) = let bad : line.Pin (signal c e.name) on.0 ≡ line.Stem (signal c a) = sym on.1
          ∙ same in cc

  -- an observer is another line, and does not observe a name that only the gate reads
  pub unobserved : (o : Sink × Name) → Contains (observers c) o → (l ≢ line.Stem (signal c o.1))
      × (l ≢ branch o.0)
  unobserved o there = (λ same. stem same e.on, λ same. own same e.on)
    where
      stem : l ≡ line.Stem (signal c o.1) → IsOn → ⊥
      stem same (inl on) =
          let stems : line.Stem (signal c on.0) ≡ line.Stem (signal c o.1) = sym on.1 ∙ same in
          let number : signal c o.1 ≡ signal c on.0 = cc in
          on.2.unobserved o there (signal_apart c o.1 on.0 (observes c o well there).named
          (contained (names c) on.0 (arg_named on.0 on.2.reads)) number)
      stem same (inr on) = let bad : line.Pin (signal c e.name) on.0 ≡ line.Stem (signal c o.1) =
          sym on.1 ∙ same in cc

      own : l ≡ branch o.0 → IsOn → ⊥
      own same (inl on) = (observes c o well there).no_stem (signal c on.0) (sym on.1 ∙ same)
      own same (inr on) = (observes c o well there).no_pin_line (signal c e.name) on.0 (sym on.1
          ∙ same)

-- A solution with this fault, and one with another fault, or none, that other signals are free of.
module _ (c : List Statement) (t : Test) (f : Fault) (g : Option Fault) (v w : Name
    → Bool) (well : IsWellFormed c) (e : Enters c f.line) (p : Solves c t (Some f) v)
    (q : Solves c t g w)
    (free : (m : Name) → Among m (names c) → m ≢ e.name → IsFree g (signal c m)) where
  abbrev pub IsOutside : Name → Type 0
  IsOutside m = (f.line ≢ line.Stem (signal c m)) × ((well.acyclic.0 m < well.acyclic.0 e.name)
      ⊎ (v e.name ≡ w e.name))

  step : (m : Name) → Among m (names c) → IsOutside m
      → Follows c t (Some f) g v w well p q IsOutside m
  step m a h = go (bytes_eq m e.name) refl
    where
      here : m ≡ e.name → (well.acyclic.0 m < well.acyclic.0 e.name) ⊎ (v e.name ≡ w e.name)
          → v m ≡ w m
      here is (inl lt) = let same = ap well.acyclic.0 is in absurd (omega (arith, lt, same))
      here is (inr same) = ap v is ∙ (same ∙ ap w (sym is))

      go : (b : Bool) → bytes_eq m e.name ≡ b → Follows c t (Some f) g v w well p q IsOutside m
      go true is = inl (here (same_bytes m e.name is) h.1)
      go false is = inr (line_away c well f.line e m a other h.0, free m a other, below)
        where
          other : m ≢ e.name
          other same = let yes : bytes_eq m e.name ≡ true = rw (← same) (bytes_refl m) in
              let bad : true ≡ false = sym yes ∙ is in cc

          below : (kind : Kind) (args : List Name) → Among (Gate m kind args) c → (x : Name)
              → Among x args → IsOutside x
          below kind args stands x b = (
            args_away c well f.line e m x kind args stands b other,
            low h.1,
          )
            where
              low : (well.acyclic.0 m < well.acyclic.0 e.name) ⊎ (v e.name ≡ w e.name)
                  → (well.acyclic.0 x < well.acyclic.0 e.name) ⊎ (v e.name ≡ w e.name)
              low (inl lt) = let up = well.acyclic.1 m x (
                kind,
                args,
                contained c (Gate m kind args) stands,
                contained args x b,
              ) in
                  inl (omega (arith, lt, up))
              low (inr same) = inr same

  -- names of lower number have one bit in both; if the gate's name has one bit in both, so have all
  -- others
  pub outside : (m : Name) → Among m (names c) → f.line ≢ line.Stem (signal c m)
      → (well.acyclic.0 m < well.acyclic.0 e.name) ⊎ (v e.name ≡ w e.name) → v m ≡ w m
  outside m a off by = same_where c t (Some f) g v w well p q IsOutside step m a (off, by)

  pub shows_alike : (o : Sink × Name) → Contains (observers c) o → v e.name ≡ w e.name
      → ((b : Bool) → under g (branch o.0) b ≡ b) → shows (Some f) v o ≡ shows g w o
  shows_alike o there same off =
      let far = unobserved c well f.line e o there in
      under_other f (branch o.0) (v o.1) far.1
      ∙ (outside o.1 (among (names c) o.1 (observes c o well there).named) far.0 (inr same)
      ∙ sym (off (w o.1)))
