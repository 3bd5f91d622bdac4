-- The signals that are observed.
use Rattle.std.proofs.Common.{◌≡◌, ◌<◌, ◌≤◌, ◌+◌, ◌-◌, ◌∙◌, ℕ, List, [], ◌∷◌, ◌++◌, length, map, ap}
use Rattle.std.proofs.Common.{refl, sym, subst, arith, inl, inr, ◌⊎◌, get_or}
use Rattle.std.specs.Prelude.{Contains, Some, flat_map, option_map, slice_get}
use Rattle.std.{specs.List.enumerate_from, proofs.lemmas.List.get_or-append_right}
use Rattle.std.proofs.lemmas.List.{length-append, length-map, map-append, get_or_append_left}
use Rattle.std.proofs.lemmas.Option.{get_or_from_slice_get, slice_get-map}
use Rattle.std.proofs.lemmas.List.Elements.{Contains-get_or}
use Rattle.bench_net.specs.{declared.ScanCell.ScanCell, declared.Sink.Sink, Circuit.IsWellFormed}
use Rattle.bench_net.specs.Statement.{Name, Statement, Input, Output, Gate, Dff, read}
use Rattle.bench_net.specs.Scan.{names, signal, observers, outputs, cells}
use Rattle.bench_net.proofs.Public.{name_of-signal}
use Rattle.bench_net.specs.declared.Sink.TheVariants as sink
use Rattle.list_lemmas.proofs.Members.{Among, among, contained, among_append, among_right}
use Rattle.list_lemmas.proofs.{Members.mapped_from, Places.{at_place, numbered_at, place_within}}
use Rattle.faultsim_c.specs.Calls.{observed}

-- the numbers of the observed names: the outputs' numbers, and the cells' data pins'
outputs_numbered : (c : List Statement) (from : ℕ) (ns : List Name)
    → map (λ (o : Sink × Name). signal c o.1)
    (map (λ at. (sink.Out at.0, at.1)) (enumerate_from from ns)) ≡ map (signal c) ns
outputs_numbered c from [] = refl
outputs_numbered c from (n ∷ ns) = ap (λ xs. signal c n ∷ xs) (outputs_numbered c (from + 1) ns)

cells_numbered : (c : List Statement) (from : ℕ) (qds : List (Name × Name))
    → map (λ (o : Sink × Name). signal c o.1)
    (map (λ at. (sink.Data at.0, at.1.1)) (enumerate_from from qds))
    ≡ map (λ (qd : Name × Name). signal c qd.1) qds
cells_numbered c from [] = refl
cells_numbered c from (qd ∷ qds) = ap (λ xs. signal c qd.1 ∷ xs) (cells_numbered c (from + 1) qds)

-- the second numbers of pairs
seconds : (cells : List ScanCell) (ps : List (Name × Name)) (p q : Name × Name → ℕ)
    → map {B = ℕ × ℕ} (λ (cell : ScanCell). (cell.q, cell.d)) cells ≡ map (λ qd. (p qd, q qd)) ps
    → map (λ (cell : ScanCell). cell.d) cells ≡ map q ps
seconds [] [] p q e = refl
seconds [] (y ∷ ps) p q e =
    let bad : ◌≡◌ {A = List (ℕ × ℕ)} [] ((p y, q y) ∷ map (λ qd. (p qd, q qd)) ps) = e in cc
seconds (x ∷ cells) [] p q e =
    let bad : ◌≡◌ {A = List (ℕ × ℕ)} ((x.q, x.d)
    ∷ map (λ (cell : ScanCell). (cell.q, cell.d)) cells) [] = e in cc
seconds (x ∷ cells) (y ∷ ps) p q e =
    let is : ◌≡◌ {A = List (ℕ × ℕ)} ((x.q, x.d) ∷ map (λ (cell : ScanCell). (cell.q, cell.d)) cells)
    ((p y, q y) ∷ map (λ qd. (p qd, q qd)) ps) = e in
    let tails : map {B = ℕ × ℕ} (λ (cell : ScanCell). (cell.q, cell.d)) cells
    ≡ map (λ qd. (p qd, q qd)) ps = cc in
    let heads : ◌≡◌ {A = ℕ × ℕ} (x.q, x.d) (p y, q y) = cc in
    let head : x.d ≡ q y = ap (λ (pair : ℕ × ℕ). pair.1) heads in
    ap (λ n. n ∷ map (λ (cell : ScanCell). cell.d) cells) head
    ∙ ap (λ ns. q y ∷ ns) (seconds cells ps p q tails)

module _ (c : List Statement) (outs : List ℕ) (items : List ScanCell)
    (outs_are : outs ≡ map (signal c) (outputs c))
    (items_are : map {B = ℕ × ℕ} (λ (cell : ScanCell). (cell.q, cell.d)) items
    ≡ map (λ cell. (signal c cell.0, signal c cell.1)) (cells c)) where
  -- the observed signals are the outputs' signals, and then the data pins'
  pub observed_split : observed c ≡ outs ++ map (λ (cell : ScanCell). cell.d) items
  observed_split = map-append (λ (o : Sink × Name). signal c o.1)
      (map (λ at. (sink.Out at.0, at.1)) (enumerate_from 0 (outputs c)))
      (map (λ at. (sink.Data at.0, at.1.1)) (enumerate_from 0 (cells c)))
      ∙ (ap (λ xs. xs ++ map (λ (o : Sink × Name). signal c o.1)
      (map (λ at. (sink.Data at.0, at.1.1)) (enumerate_from 0 (cells c))))
      (outputs_numbered c 0 (outputs c) ∙ sym outs_are)
      ∙ ap (λ xs. outs ++ xs) (cells_numbered c 0 (cells c)
      ∙ sym (seconds items (cells c) (λ cell. signal c cell.0) (λ cell. signal c cell.1)
      items_are)))

  -- their number
  pub observed_count : length (observed c) ≡ length outs + length items
  observed_count = ap (λ (l : List ℕ). length l) observed_split
      ∙ length-append outs (map (λ (cell : ScanCell). cell.d) items)
      ∙ ap (λ n. length outs + n) (length-map items (λ (cell : ScanCell). cell.d))

  pub observed_output : (i : ℕ) → i < length outs → get_or outs i 0 ≡ get_or (observed c) i 0
  observed_output i lt = sym (ap (λ (l : List ℕ). get_or l i 0) observed_split
      ∙ get_or_append_left outs (map (λ (cell : ScanCell). cell.d) items) 0 i lt)

  pub observed_cell : (i : ℕ) (cell : ScanCell) → length outs ≤ i
      → slice_get items (i - length outs) ≡ Some cell → cell.d ≡ get_or (observed c) i 0
  observed_cell i cell high at =
      let ds = map (λ (cell : ScanCell). cell.d) items in
      sym (ap (λ (l : List ℕ). get_or l i 0) observed_split
      ∙ (get_or-append_right outs ds (length outs) i 0 refl high
      ∙ get_or_from_slice_get ds (i - length outs) cell.d 0
      (slice_get-map (λ (cell : ScanCell). cell.d) items (i - length outs)
      ∙ ap (option_map (λ (cell : ScanCell). cell.d)) at)))

-- a statement reads each observed signal
output_read : (c : List Statement) (n : Name) → Among n (outputs c) → Among n (flat_map read c)
output_read [] n a = a
output_read (Input m ∷ c) n a = output_read c n a
output_read (Output m ∷ c) n (inl e) = inl e
output_read (Output m ∷ c) n (inr a) = inr (output_read c n a)
output_read (Gate m kind args ∷ c) n a = among_right args (flat_map read c) n (output_read c n a)
output_read (Dff q d ∷ c) n a = inr (output_read c n a)

cell_read : (c : List Statement) (qd : Name × Name) → Among qd (cells c)
    → Among qd.1 (flat_map read c)
cell_read [] qd a = a
cell_read (Input m ∷ c) qd a = cell_read c qd a
cell_read (Output m ∷ c) qd a = inr (cell_read c qd a)
cell_read (Gate m kind args ∷ c) qd a = among_right args (flat_map read c) qd.1 (cell_read c qd a)
cell_read (Dff q d ∷ c) qd (inl e) = inl (ap (λ (x : Name × Name). x.1) e)
cell_read (Dff q d ∷ c) qd (inr a) = inr (cell_read c qd a)

-- so it has a name of the circuit
observed_named : (c : List Statement) (o : Sink × Name) → IsWellFormed c → Among o (observers c)
    → Contains (names c) o.1
observed_named c o well a = well.all_defined o.1
    (contained (flat_map read c) o.1 (go (among_append _ _ o a)))
  where
    go : Among o (map (λ at. (sink.Out at.0, at.1)) (enumerate_from 0 (outputs c)))
        ⊎ Among o (map (λ at. (sink.Data at.0, at.1.1)) (enumerate_from 0 (cells c)))
        → Among o.1 (flat_map read c)
    go (inl h) =
        let p = mapped_from (λ at. (sink.Out at.0, at.1)) (enumerate_from 0 (outputs c)) o h in
        let it : (sink.Out p.0.0, p.0.1) ≡ o = p.2 in
        subst (λ (x : Sink × Name). Among x.1 (flat_map read c)) it
        (output_read c p.0.1 (at_place (outputs c) p.0.0 p.0.1 (numbered_at (outputs c) p.0 p.1)))
    go (inr h) =
        let p = mapped_from (λ at. (sink.Data at.0, at.1.1)) (enumerate_from 0 (cells c)) o h in
        let it : (sink.Data p.0.0, p.0.1.1) ≡ o = p.2 in
        subst (λ (x : Sink × Name). Among x.1 (flat_map read c)) it
        (cell_read c p.0.1 (at_place (cells c) p.0.0 p.0.1 (numbered_at (cells c) p.0 p.1)))

-- each observed signal is one of the circuit
pub observed_within : (c : List Statement) (i : ℕ) → IsWellFormed c → i < length (observed c)
    → get_or (observed c) i 0 < length (names c)
observed_within c i well lt =
    let it = get_or (observed c) i 0 in
    let at : Among it (map (λ (o : Sink × Name). signal c o.1) (observers c)) =
    among (observed c) it (Contains-get_or (observed c) i 0 lt) in
    let p = mapped_from (λ (o : Sink × Name). signal c o.1) (observers c) it at in
    let within : signal c p.0.1 < length (names c) = place_within (names c) (signal c p.0.1) p.0.1
    (name_of-signal c p.0.1 (observed_named c p.0 well p.1)) in
    let same : signal c p.0.1 ≡ it = p.2 in
    omega (arith, within, same)
