-- The observers of the lines of a circuit, and the names that they observe.
use Rattle.std.proofs.Common.{◌≡◌, ℕ, refl, ap, subst, List, [], ◌∷◌, map, inl, inr, ◌⊎◌}
use Rattle.std.specs.Prelude.{Contains, Option, Some, None, slice_get, option_map, flat_map}
use Rattle.std.specs.List.{enumerate_from}
use Rattle.bench_net.specs.{declared.Sink.Sink, Scan.{names, observers, outputs, cells}}
use Rattle.bench_net.specs.Statement.{Name, Statement, Gate, Input, Output, Dff, read}
use Rattle.bench_net.specs.Circuit.{IsWellFormed}
use Rattle.bench_net.specs.declared.Sink.TheVariants as sink
use Rattle.list_lemmas.proofs.Members.{Among, contained, among_append, among_left, among_right}
use Rattle.list_lemmas.proofs.Members.{among_map, mapped_from}
use Rattle.list_lemmas.proofs.Places.{among_numbered, numbered_at, at_place}
use Rattle.fault_model.specs.declared.Line.TheVariants as line
use Rattle.fault_model.specs.Detection.{name_on}

-- an observer's line that carries a name is the branch of an observer of it
pub output_observed : (c : List Statement) (i : ℕ) (n : Name) → name_on c (line.Out i) ≡ Some n
    → Contains (observers c) (sink.Out i, n)
output_observed c i n e = contained (observers c) (
  sink.Out i,
  n,
) (among_left _ _ (
  sink.Out i,
  n,
) (among_map (λ at. (sink.Out at.0, at.1)) (enumerate_from 0 (outputs c)) (
  i,
  n,
) (among_numbered (outputs c) i n e)))

pub cell_observed : (c : List Statement) (i : ℕ) (q n : Name) → slice_get (cells c) i ≡ Some (q, n)
    → Contains (observers c) (sink.Data i, n)
cell_observed c i q n e = contained (observers c) (
  sink.Data i,
  n,
) (among_right _ _ (
  sink.Data i,
  n,
) (among_map (λ at. (sink.Data at.0, at.1.1)) (enumerate_from 0 (cells c)) (
  i,
  (q, n),
) (among_numbered (cells c) i (q, n) e)))

some_mapped : {X Y : Type 0} (h : X → Y) (o : Option X) (y : Y) → option_map h o ≡ Some y
    → (x : X) × (o ≡ Some x) × (h x ≡ y)
some_mapped h None y e = let bad : None ≡ Some y = e in cc
some_mapped h (Some x) y e = let is : Some (h x) ≡ Some y = e in (x, refl, cc)

pub data_observed : (c : List Statement) (i : ℕ) (n : Name) → name_on c (line.Data i) ≡ Some n
    → Contains (observers c) (sink.Data i, n)
data_observed c i n e =
    let p = some_mapped (λ (qd : Name × Name). qd.1) (slice_get (cells c) i) n e in
    subst (λ m. Contains (observers c) (sink.Data i, m)) p.2 (cell_observed c i p.0.0 p.0.1 p.1)

-- an observed name is read by a statement
output_read : (c : List Statement) (n : Name) → Among n (outputs c) → Among n (flat_map read c)
output_read [] n a = a
output_read (Input m ∷ c) n a = output_read c n a
output_read (Output m ∷ c) n (inl e) = inl e
output_read (Output m ∷ c) n (inr a) = inr (output_read c n a)
output_read (Gate m kind args ∷ c) n a = among_right args (flat_map read c) n (output_read c n a)
output_read (Dff q d ∷ c) n a = inr (output_read c n a)

cell_read : (c : List Statement) (qd : Name × Name) → Among qd (cells c)
    → Among qd.1 (flat_map read c)
cell_read [] qd a = a
cell_read (Input m ∷ c) qd a = cell_read c qd a
cell_read (Output m ∷ c) qd a = inr (cell_read c qd a)
cell_read (Gate m kind args ∷ c) qd a = among_right args (flat_map read c) qd.1 (cell_read c qd a)
cell_read (Dff q d ∷ c) qd (inl e) = inl (ap (λ (x : Name × Name). x.1) e)
cell_read (Dff q d ∷ c) qd (inr a) = inr (cell_read c qd a)

pub observed_named : (c : List Statement) (o : Sink × Name) → IsWellFormed c → Among o (observers c)
    → Contains (names c) o.1
observed_named c o well a = well.all_defined o.1
    (contained (flat_map read c) o.1 (go (among_append _ _ o a)))
  where
    go : Among o (map (λ at. (sink.Out at.0, at.1)) (enumerate_from 0 (outputs c)))
        ⊎ Among o (map (λ at. (sink.Data at.0, at.1.1)) (enumerate_from 0 (cells c)))
        → Among o.1 (flat_map read c)
    go (inl h) =
        let p = mapped_from (λ at. (sink.Out at.0, at.1)) (enumerate_from 0 (outputs c)) o h in
        let it : (sink.Out p.0.0, p.0.1) ≡ o = p.2 in
        subst (λ (x : Sink × Name). Among x.1 (flat_map read c)) it
        (output_read c p.0.1 (at_place (outputs c) p.0.0 p.0.1 (numbered_at (outputs c) p.0 p.1)))
    go (inr h) =
        let p = mapped_from (λ at. (sink.Data at.0, at.1.1)) (enumerate_from 0 (cells c)) o h in
        let it : (sink.Data p.0.0, p.0.1.1) ≡ o = p.2 in
        subst (λ (x : Sink × Name). Among x.1 (flat_map read c)) it
        (cell_read c p.0.1 (at_place (cells c) p.0.0 p.0.1 (numbered_at (cells c) p.0 p.1)))
