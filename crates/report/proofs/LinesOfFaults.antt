-- The lines of the faults of the list are lines of the circuit.
use Rattle.std.proofs.Common.{◌≡◌, ◌<◌, ℕ, refl, sym, subst, List, [], ◌∷◌, length, inl, inr}
use Rattle.std.proofs.lemmas.List.{length-map}
use Rattle.std.specs.Prelude.{⊤, Contains, Some, IfSome, slice_get, map}
use Rattle.bench_net.specs.{declared.Sink.Sink, Scan.{names, signal, cell, cells, sinks, name_of}}
use Rattle.bench_net.specs.Statement.{Name, Statement, Input, Output, Gate, Dff}
use Rattle.bench_net.proofs.Public.{name_of-signal, at_position}
use Rattle.bench_net.specs.declared.Sink.TheVariants as sink
use Rattle.list_lemmas.proofs.Members.{Among, contained}
use Rattle.list_lemmas.proofs.Places.{place_within, within_place, at_place}
use Rattle.fault_model.specs.declared.Line.{Line, TheVariants.{Stem, Pin, Data, Out}}
use Rattle.fault_model.specs.{declared.Model.Model, Fault.{Fault, branch, faults}}
use Rattle.fault_model.proofs.Public.{listed_on, listed_model, branch_among, IsOn, defined_among}
use Rattle.fault_model.proofs.Public.{pin_reads, data_reads}

-- the line's numbers are numbers of signals, pins, cells and outputs of the circuit, as far as its
-- text needs them
abbrev pub IsLineOf : List Statement → Line → Type 0
IsLineOf c (Stem s) = s < length (names c)
IsLineOf c (Pin gate pin) = gate < length (names c)
IsLineOf c (Data cell) = cell < length (cells c)
IsLineOf c (Out output) = ⊤

among_cells : (c : List Statement) (q d : Name) → Among (Dff q d) c
    → Among q (map (λ qd. qd.0) (cells c))
among_cells [] q d a = absurd a
among_cells (Input m ∷ c) q d (inl e) = cc
among_cells (Input m ∷ c) q d (inr a) = among_cells c q d a
among_cells (Output m ∷ c) q d (inl e) = cc
among_cells (Output m ∷ c) q d (inr a) = among_cells c q d a
among_cells (Gate m kind args ∷ c) q d (inl e) = cc
among_cells (Gate m kind args ∷ c) q d (inr a) = among_cells c q d a
among_cells (Dff p e ∷ c) q d (inl same) = let h : p ≡ q = cc in inl h
among_cells (Dff p e ∷ c) q d (inr a) = inr (among_cells c q d a)

length_names : {X : Type 0} (f : X → Name) (xs : List X) → length (map f xs) ≡ length xs
length_names f xs = length-map xs f

-- the number of a defined name is the number of a signal
number_within : (c : List Statement) (n : Name) → Among n (names c) → signal c n < length (names c)
number_within c n a = place_within (names c) (signal c n) n
    (name_of-signal c n (contained (names c) n a))

cell_within : (c : List Statement) (q : Name) → Among q (map (λ qd. qd.0) (cells c))
    → cell c q < length (cells c)
cell_within c q a = subst (λ k. cell c q < k) (length_names (λ qd. qd.0) (cells c))
    (place_within (map (λ qd. qd.0) (cells c)) (cell c q) q
    (at_position (map (λ qd. qd.0) (cells c)) q a))

sink_within : (c : List Statement) (n : Name) (k : Sink) → Among k (sinks c n)
    → IsLineOf c (branch k)
sink_within c n (sink.Pin gate pin) a =
    let p = pin_reads c n gate pin a in
    subst (λ g. g < length (names c)) p.number
    (number_within c p.name (defined_among c (Gate p.name p.kind p.args) p.name p.stands refl))
sink_within c n (sink.Data i) a = let p = data_reads c n i a in
    subst (λ j. j < length (cells c)) p.place (cell_within c p.q (among_cells c p.q n p.stands))
sink_within c n (sink.Out output) a = tt

-- the line of a fault of the list is a line of the circuit
listed_line : (m : Model) (c : List Statement) (f : Fault) → Contains (faults m c) f
    → IsLineOf c f.line
listed_line m c f at = let p = listed_on m c f at in go p.0 p.1 p.2 p.3
  where
    go : (s : ℕ) (n : Name) → name_of c s ≡ Some n → IsOn c s n f.line → IsLineOf c f.line
    go s n e (inl h) = subst (λ l. IsLineOf c l) (sym h) (place_within (names c) s n e)
    go s n e (inr h) = subst (λ l. IsLineOf c l) (sym h.2)
        (sink_within c n h.0 (branch_among c n h.0 h.1))

-- so is the line at a place of the list
pub line_known : (m : Model) (c : List Statement) (fs : List Fault) (i : ℕ) (l : Line)
    → fs ≡ faults m c → i < length fs → IfSome (slice_get fs i) (λ f. l ≡ f.line) → IsLineOf c l
line_known m c fs i l list h e =
    let at = within_place fs i h in
    let own : l ≡ at.0.line = rw (at.1) at e in
    subst (λ x. IsLineOf c x) (sym own) (listed_line m c at.0 (subst (λ xs. Contains xs at.0) list
    (contained fs at.0 (at_place fs i at.0 at.1))))

-- and its model is the model of the list
pub model_known : (m : Model) (c : List Statement) (fs : List Fault) (i : ℕ) (f : Fault)
    → fs ≡ faults m c → slice_get fs i ≡ Some f → f.model ≡ m
model_known m c fs i f list at =
    listed_model m c f (subst (λ xs. Contains xs f) list (contained fs f (at_place fs i f at)))
