-- A well-formed circuit has at most one solution under a test and a fault.
use Rattle.std.proofs.Common.{◌≡◌, ◌<◌, ℕ, zero, suc, ◌+◌, refl, sym, ◌∙◌, ap, Bool, List, [], ◌∷◌}
use Rattle.std.{proofs.Common.{arith, inl, inr, ◌⊎◌}, specs.Prelude.{Contains, Option, map}}
use Rattle.std.specs.List.{enumerate_from}
use Rattle.bench_net.specs.{declared.Kind.Kind, Scan.{names, inputs, cells, sources, signal}}
use Rattle.bench_net.specs.Statement.{Name, Statement, Input, Output, Gate, Dff}
use Rattle.bench_net.{specs.Circuit.IsWellFormed, proofs.Public.read_named}
use Rattle.list_lemmas.proofs.Members.{Among, among, contained, among_left, among_right}
use Rattle.list_lemmas.proofs.Places.{placed}
use Rattle.fault_model.specs.declared.Line.TheVariants as line
use Rattle.fault_model.specs.{Fault.Fault, Solution.{Test, Solves, value, under, sees}}

-- a defined name is a source or drives a gate
abbrev pub Driven : List Statement → Name → Type 0
Driven c n = Among n (inputs c) ⊎ (Among n (map (λ cell. cell.0) (cells c))
    ⊎ ((kind : Kind) × (args : List Name) × Among (Gate n kind args) c))

pub driven : (c : List Statement) (n : Name) → Among n (names c) → Driven c n
driven [] n a = absurd a
driven (Input m ∷ c) n (inl e) = inl (inl e)
driven (Input m ∷ c) n (inr a) = go (driven c n a)
  where
    go : Driven c n → Driven (Input m ∷ c) n
    go (inl x) = inl (inr x)
    go (inr (inl x)) = inr (inl x)
    go (inr (inr x)) = inr (inr (x.0, x.1, inr x.2))
driven (Output m ∷ c) n a = go (driven c n a)
  where
    go : Driven c n → Driven (Output m ∷ c) n
    go (inl x) = inl x
    go (inr (inl x)) = inr (inl x)
    go (inr (inr x)) = inr (inr (x.0, x.1, inr x.2))
driven (Gate m kind args ∷ c) n (inl e) = inr (inr (kind, args, inl (ap (λ x. Gate x kind args) e)))
driven (Gate m kind args ∷ c) n (inr a) = go (driven c n a)
  where
    go : Driven c n → Driven (Gate m kind args ∷ c) n
    go (inl x) = inl x
    go (inr (inl x)) = inr (inl x)
    go (inr (inr x)) = inr (inr (x.0, x.1, inr x.2))
driven (Dff q d ∷ c) n (inl e) = inr (inl (inl e))
driven (Dff q d ∷ c) n (inr a) = go (driven c n a)
  where
    go : Driven c n → Driven (Dff q d ∷ c) n
    go (inl x) = inl x
    go (inr (inl x)) = inr (inl (inr x))
    go (inr (inr x)) = inr (inr (x.0, x.1, inr x.2))

-- pins of names on which two valuations agree see the same
pub pins_agree : (f : Option Fault) (v w : Name → Bool) (gate k : ℕ) (args : List Name)
    → ((a : Name) → Among a args → v a ≡ w a)
    → map (λ at. sees f v (line.Pin gate at.0) at.1) (enumerate_from k args)
    ≡ map (λ at. sees f w (line.Pin gate at.0) at.1) (enumerate_from k args)
pins_agree f v w gate k [] same = refl
pins_agree f v w gate k (a ∷ args) same =
    rw (same a (inl refl), pins_agree f v w gate (k + 1) args (λ b h. same b (inr h))) refl

module _ (c : List Statement) (t : Test) (f : Option Fault) (v w : Name → Bool)
    (well : IsWellFormed c) (p : Solves c t f v) (q : Solves c t f w) where
  by_source : (n : Name) → Among n (sources c) → v n ≡ w n
  by_source n a =
      let at = placed (sources c) n a in p.source at.0 n at.1 ∙ sym (q.source at.0 n at.1)

  -- names with a number below the bound have the same bit
  below_agree : (bound : ℕ) (n : Name) → well.acyclic.0 n < bound → Among n (names c) → v n ≡ w n
  below_agree zero n lt a = absurd (omega (arith, lt))
  below_agree (suc bound) n lt a = go (below_agree bound) (driven c n a)
    where
      go : ((m : Name) → well.acyclic.0 m < bound → Among m (names c) → v m ≡ w m) → Driven c n
          → v n ≡ w n
      go ih (inl x) = by_source n (among_left (inputs c) (map (λ cell. cell.0) (cells c)) n x)
      go ih (inr (inl x)) =
          by_source n (among_right (inputs c) (map (λ cell. cell.0) (cells c)) n x)
      go ih (inr (inr x)) =
          let at : Contains c (Gate n x.0 x.1) = contained c (Gate n x.0 x.1) x.2 in
          p.gate n x.0 x.1 at ∙ (ap (λ bits. under f (line.Stem (signal c n)) (value x.0 bits))
          (pins_agree f v w (signal c n) 0 x.1 (λ a h. ih a (lower a h)
          (among (names c) a (read_named c (Gate n x.0 x.1) a well x.2 h))))
          ∙ sym (q.gate n x.0 x.1 at))
        where
          lower : (a : Name) → Among a x.1 → well.acyclic.0 a < bound
          lower a h = omega (
            arith,
            lt,
            well.acyclic.1 n a (x.0, x.1, contained c (Gate n x.0 x.1) x.2, contained x.1 a h),
          )

  pub agree : (n : Name) → Contains (names c) n → v n ≡ w n
  agree n at = below_agree (suc (well.acyclic.0 n)) n (omega arith) (among (names c) n at)
