-- Statements in another order: the same sinks of each name, and the same faults on moved lines.
use Rattle.std.proofs.Common.{◌≡◌, ℕ, refl, sym, ◌∙◌, ap, subst, Bool, true, false, List, [], ◌∷◌}
use Rattle.std.proofs.Common.{◌+◌, map, length, length-append, arith, inl, inr, ◌⊎◌}
use Rattle.std.specs.Prelude.{Contains, Option, Some, None, option_map, flat_map, bytes_eq}
use Rattle.std.specs.{Prelude.{if◌then◌else◌, nat_le}, Option.option_map_or, List.position_or_len}
use Rattle.std.proofs.lemmas.List.{length-map}
use Rattle.bench_net.specs.{declared.Sink.Sink, Circuit.IsWellFormed}
use Rattle.bench_net.specs.Statement.{Name, Statement, Input, Output, Gate, Dff}
use Rattle.bench_net.specs.Scan.{names, signal, name_of, cell, outputs, places, pins_of, sinks}
use Rattle.bench_net.specs.declared.Sink.TheVariants as sink
use Rattle.list_lemmas.proofs.Members.{Among, among, contained, among_append, among_left}
use Rattle.list_lemmas.proofs.Members.{among_right, among_joined, joined_from, among_map}
use Rattle.list_lemmas.proofs.Members.{mapped_from}
use Rattle.fault_model.specs.{declared.Line.Line, declared.Model.Model, Collapse.readers}
use Rattle.fault_model.specs.{Fault.{Fault, branch, branches, faults}, Known.only_gate}
use Rattle.fault_model.specs.Reordered.{IsReordered, place, moved_line, moved_fault, moved_sink}
use Rattle.fault_model.{specs.Reordered.HasSameSinks, proofs.SignalsDefined.defined_among}
use Rattle.fault_model.proofs.ListedFaults.{fault_on, IsOn, listed_on, listed_model, stem_listed}
use Rattle.fault_model.proofs.{ListedFaults.branch_listed, ReorderedNames.length_reordered}
use Rattle.fault_model.proofs.ReorderedSignals.{numbered, same_name, stands_there, stands_back}
use Rattle.fault_model.specs.declared.Line.TheVariants as line

-- as many sinks of a statement in whichever list it stands
count_of : (c d : List Statement) (n : Name) (st : Statement)
    → length (pins_of d n st) ≡ length (pins_of c n st)
count_of c d n (Input m) = refl
count_of c d n (Output m) = refl
count_of c d n (Gate g kind args) = length-map (places n args) (λ pin. sink.Pin (signal d g) pin)
    ∙ sym (length-map (places n args) (λ pin. sink.Pin (signal c g) pin))
count_of c d n (Dff q x) = go (bytes_eq n x)
  where
    go : (b : Bool) → length (if b then sink.Data (cell d q) ∷ [] else [])
        ≡ length (if b then sink.Data (cell c q) ∷ [] else [])
    go true = refl
    go false = refl

counts_of : (c d : List Statement) (n : Name) (all : List Statement)
    → length (flat_map (pins_of d n) all) ≡ length (flat_map (pins_of c n) all)
counts_of c d n [] = refl
counts_of c d n (st ∷ all) =
    let first = count_of c d n st in
    let rest = counts_of c d n all in
    length-append (pins_of d n st) (flat_map (pins_of d n) all)
    ∙ ((ap (λ k. k + length (flat_map (pins_of d n) all)) first
    ∙ ap (λ k. length (pins_of c n st) + k) rest)
    ∙ sym (length-append (pins_of c n st) (flat_map (pins_of c n) all)))

module _ (c d : List Statement) (well : IsWellFormed c) (is : IsReordered c d) where
  count : (n : Name) → length (sinks d n) ≡ length (sinks c n)
  count n =
      let pins : length (flat_map (pins_of d n) d) ≡ length (flat_map (pins_of c n) c) =
      length_reordered (pins_of d n) c d is.statements ∙ counts_of c d n c in
      length-append (flat_map (pins_of d n) d) (map sink.Out (places n (outputs d)))
      ∙ ((ap (λ k. k + length (map sink.Out (places n (outputs d)))) pins
      ∙ ap (λ os. length (flat_map (pins_of c n) c) + length (map sink.Out (places n os)))
      is.same_outputs)
      ∙ sym (length-append (flat_map (pins_of c n) c) (map sink.Out (places n (outputs c)))))

  pins_moved : (n g : Name) (ks : List ℕ) → Contains (names c) g
      → map (λ pin. sink.Pin (signal d g) pin) ks
      ≡ map (moved_sink c d) (map (λ pin. sink.Pin (signal c g) pin) ks)
  pins_moved n g [] at = refl
  pins_moved n g (k ∷ ks) at =
      let first : sink.Pin (signal d g) k ≡ sink.Pin (place c d (signal c g)) k =
      ap (λ s. sink.Pin s k) (numbered c d well is g at) in
      let rest = pins_moved n g ks at in
      cc

  of_statement : (n : Name) (st : Statement) → Contains c st
      → pins_of d n st ≡ map (moved_sink c d) (pins_of c n st)
  of_statement n (Input m) at = refl
  of_statement n (Output m) at = refl
  of_statement n (Gate g kind args) at = pins_moved n g (places n args) (contained (names c) g
      (defined_among c (Gate g kind args) g (among c (Gate g kind args) at) refl))
  of_statement n (Dff q x) at = ap (λ k. if bytes_eq n x then sink.Data k ∷ [] else [])
      (ap (λ all. position_or_len (bytes_eq q) (map (λ (qd : Name × Name). qd.0) all))
      is.same_cells) ∙ go (bytes_eq n x)
    where
      go : (b : Bool) → (if b then sink.Data (cell c q) ∷ [] else [])
          ≡ map (moved_sink c d) (if b then sink.Data (cell c q) ∷ [] else [])
      go true = refl
      go false = refl

  sinks_to : (n : Name) (k : Sink) → Contains (sinks c n) k
      → Contains (sinks d n) (moved_sink c d k)
  sinks_to n k at = contained (sinks d n) (moved_sink c d k)
      (go (among_append (flat_map (pins_of c n) c) (map sink.Out (places n (outputs c))) k
      (among (sinks c n) k at)))
    where
      go : Among k (flat_map (pins_of c n) c) ⊎ Among k (map sink.Out (places n (outputs c)))
          → Among (moved_sink c d k) (sinks d n)
      go (inl a) =
          let from = joined_from (pins_of c n) c k a in
          let st = contained c from.0 from.1 in
          let there = among d from.0 (stands_there c d well is from.0 st) in
          let here = among_map (moved_sink c d) (pins_of c n from.0) k from.2 in
          among_left (flat_map (pins_of d n) d) (map sink.Out (places n (outputs d)))
          (moved_sink c d k) (among_joined (pins_of d n) d from.0 (moved_sink c d k) there
          (subst (Among (moved_sink c d k)) (sym (of_statement n from.0 st)) here))
      go (inr a) =
          let from = mapped_from sink.Out (places n (outputs c)) k a in
          let own : sink.Out from.0 ≡ moved_sink c d k = ap (moved_sink c d) from.2 in
          let there : Among from.0 (places n (outputs d)) =
          subst (λ os. Among from.0 (places n os)) (sym is.same_outputs) from.1 in
          among_right (flat_map (pins_of d n) d) (map sink.Out (places n (outputs d)))
          (moved_sink c d k) (subst (λ j. Among j (map sink.Out (places n (outputs d)))) own
          (among_map sink.Out (places n (outputs d)) from.0 there))

  sinks_back : (n : Name) (k : Sink) → Contains (sinks d n) k
      → (j : Sink) × Contains (sinks c n) j × (k ≡ moved_sink c d j)
  sinks_back n k at =
      go (among_append (flat_map (pins_of d n) d) (map sink.Out (places n (outputs d))) k
      (among (sinks d n) k at))
    where
      go : Among k (flat_map (pins_of d n) d) ⊎ Among k (map sink.Out (places n (outputs d)))
          → (j : Sink) × Contains (sinks c n) j × (k ≡ moved_sink c d j)
      go (inl a) =
          let from = joined_from (pins_of d n) d k a in
          let st = stands_back c d well is from.0 (contained d from.0 from.1) in
          let own = mapped_from (moved_sink c d) (pins_of c n from.0) k
          (subst (Among k) (of_statement n from.0 st) from.2) in (
            own.0,
            contained (sinks c n) own.0 (among_left (flat_map (pins_of c n) c)
                (map sink.Out (places n (outputs c))) own.0
                (among_joined (pins_of c n) c from.0 own.0 (among c from.0 st) own.1)),
            sym own.2,
          )
      go (inr a) =
          let from = mapped_from sink.Out (places n (outputs d)) k a in
          let there : Among from.0 (places n (outputs c)) =
          subst (λ os. Among from.0 (places n os)) is.same_outputs from.1 in (
            sink.Out from.0,
            contained (sinks c n) (sink.Out from.0) (among_right (flat_map (pins_of c n) c)
                (map sink.Out (places n (outputs c))) (sink.Out from.0)
                (among_map sink.Out (places n (outputs c)) from.0 there)),
            sym from.2,
          )

  -- ---- the gate that is the only reader of a line

  of_several : (k j : Sink) (ks : List Sink) → only_gate (k ∷ j ∷ ks) ≡ None
  of_several (sink.Pin g p) j ks = refl
  of_several (sink.Data i) j ks = refl
  of_several (sink.Out o) j ks = refl

  of_one : (k : Sink)
      → only_gate (moved_sink c d k ∷ []) ≡ option_map (place c d) (only_gate (k ∷ []))
  of_one (sink.Pin g p) = refl
  of_one (sink.Data i) = refl
  of_one (sink.Out o) = refl

  of_sinks : (xs ys : List Sink) → length ys ≡ length xs
      → ((k : Sink) → Among k xs → Among (moved_sink c d k) ys)
      → only_gate ys ≡ option_map (place c d) (only_gate xs)
  of_sinks [] [] e into = refl
  of_sinks [] (y ∷ ys) e into = absurd (omega (arith, e))
  of_sinks (x ∷ xs) [] e into = absurd (omega (arith, e))
  of_sinks (x ∷ []) (y ∷ []) e into = go (into x (inl refl))
    where
      go : Among (moved_sink c d x) (y ∷ [])
          → only_gate (y ∷ []) ≡ option_map (place c d) (only_gate (x ∷ []))
      go (inl same) = ap (λ k. only_gate (k ∷ [])) same ∙ of_one x
      go (inr bad) = absurd bad
  of_sinks (x ∷ []) (y ∷ z ∷ ys) e into = absurd (omega (arith, e))
  of_sinks (x ∷ w ∷ xs) (y ∷ []) e into = absurd (omega (arith, e))
  of_sinks (x ∷ w ∷ xs) (y ∷ z ∷ ys) e into =
      of_several y z ys ∙ ap (option_map (place c d)) (sym (of_several x w xs))

  alone : (l : Line)
      → only_gate (readers d (moved_line c d l)) ≡ option_map (place c d) (only_gate (readers c l))
  alone (line.Pin gate pin) = refl
  alone (line.Data i) = refl
  alone (line.Out o) = refl
  alone (line.Stem s) = ap (λ o. only_gate (option_map_or (sinks d) o [])) (same_name c d well is s)
      ∙ go (name_of c s)
    where
      go : (o : Option Name) → only_gate (option_map_or (sinks d) o [])
          ≡ option_map (place c d) (only_gate (option_map_or (sinks c) o []))
      go None = refl
      go (Some n) = of_sinks (sinks c n) (sinks d n) (count n)
          (λ k a. among (sinks d n) (moved_sink c d k) (sinks_to n k (contained (sinks c n) k a)))

  -- ---- faults of the list

  branch_moved : (k : Sink) → moved_line c d (branch k) ≡ branch (moved_sink c d k)
  branch_moved (sink.Pin g p) = refl
  branch_moved (sink.Data i) = refl
  branch_moved (sink.Out o) = refl

  branches_to : (n : Name) (k : Sink) → Among k (branches c n)
      → Among (moved_sink c d k) (branches d n)
  branches_to n k a = go (nat_le 2 (length (sinks c n))) refl
    where
      go : (b : Bool) → nat_le 2 (length (sinks c n)) ≡ b → Among (moved_sink c d k) (branches d n)
      go false e = let none : ⊥ = rw e at a in absurd none
      go true e =
          let own : Among k (sinks c n) = rw e at a in
          let many : nat_le 2 (length (sinks d n)) ≡ true = ap (nat_le 2) (count n) ∙ e in
          rw many (among (sinks d n) (moved_sink c d k)
          (sinks_to n k (contained (sinks c n) k own)))

  listed : (m : Model) (f : Fault) → Contains (faults m c) f
      → Contains (faults m d) (moved_fault c d f)
  listed m f at = let p = listed_on m c f at in go p.0 p.1 p.2 p.3
    where
      same : (l : Line) → moved_line c d f.line ≡ l → fault_on m l f.stuck ≡ moved_fault c d f
      same l e = ap (λ x. fault_on x l f.stuck) (sym (listed_model m c f at))
          ∙ ap (λ x. fault_on f.model x f.stuck) (sym e)

      go : (s : ℕ) (n : Name) → name_of c s ≡ Some n → IsOn c s n f.line
          → Contains (faults m d) (moved_fault c d f)
      go s n named (inl on) =
          let there = stem_listed m d (place c d s) n f.stuck (same_name c d well is s ∙ named) in
          subst (Contains (faults m d))
          (same (line.Stem (place c d s)) (ap (moved_line c d) on)) there
      go s n named (inr b) =
          let there = branch_listed m d (place c d s) n (moved_sink c d b.0) f.stuck
          (same_name c d well is s ∙ named) (branches_to n b.0 b.1) in
          subst (Contains (faults m d)) (same (branch (moved_sink c d b.0))
          (ap (moved_line c d) b.2 ∙ branch_moved b.0)) there

  pub same_sinks : HasSameSinks c d
  same_sinks = record {
    count = count;
    to = sinks_to;
    back = sinks_back;
    alone = alone;
    listed = listed;
  }
