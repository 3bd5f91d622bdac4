-- The relations at the worked circuits: texts that are accepted, lists that are well-formed or
-- stuck, solutions, detected faults.
use Rattle.std.{proofs.Common.{lit≤, arith}, specs.Prelude.{Some, None, bytes_eq}}
use Rattle.std.specs.Prelude.{◌≡◌, ◌<◌, ℕ, zero, suc, true, false, List, [], ◌∷◌, map, codes, refl}
use Rattle.std.specs.List.{position_or_len}
use Rattle.bench_net.specs.declared.Sink.TheVariants as sink
use Rattle.bench_net.specs.{declared.BenchFault.TheVariants.Syntax, Statement.Name, Scan.sinks}
use Rattle.bench_net.specs.{Text.{Spells, Open, Word}, Circuit.{IsWellFormed, IsStuck}}
use Rattle.bench_net.specs.Refusal.{IsRefused, IsSyntaxFault}
use Rattle.bench_net.proofs.Public.{complete_states, is_in, stuck}
use Rattle.fault_model.specs.{declared.Model.TheVariants.StuckAt, Solution.{Solves, Detects}}
use Rattle.fault_model.{specs.Collapse.Represents, proofs.Public.{bit_within, solves, detects}}
use Rattle.fault_model.specs.declared.Line.TheVariants as line
use Rattle.worked_examples.proofs.{Chains.represents, Bench.odd_spelling}
use Rattle.worked_examples.proofs.Bench.{c17_text, inverter_loop_text, scan_cell_text, self_cell}
use Rattle.worked_examples.proofs.Circuits.{c17, inverter_loop, buffer, output_and_inverter}
use Rattle.worked_examples.proofs.Circuits.{xor_of_one, scan_cell, cell_of_itself, cycle_with_tail}

abbrev number_in : List Name → Name → ℕ
number_in order n = position_or_len (bytes_eq n) order

-- the circuit of a text that is accepted is well-formed
c17_well_formed : IsWellFormed c17
c17_well_formed = c17_text.accepted.3

inverter_loop_well_formed : IsWellFormed inverter_loop
inverter_loop_well_formed = inverter_loop_text.accepted.3

scan_cell_well_formed : IsWellFormed scan_cell
scan_cell_well_formed = scan_cell_text.accepted.3

cell_of_itself_well_formed : IsWellFormed cell_of_itself
cell_of_itself_well_formed = self_cell.accepted.3

buffer_well_formed : IsWellFormed buffer
buffer_well_formed = odd_spelling.accepted.3

-- a line by hand: the tokens of ` a )` and the comment
by_hand : Spells (codes "(a # x") (Open ∷ Word (codes "a") ∷ [])
by_hand = (
  [],
  codes "a # x",
  refl,
  refl,
  tt,
  tt,
  ([], codes " # x", refl, refl, ((λ e. cc), refl), tt, (codes " ", codes "# x", refl, refl, refl)),
)

-- the last line has an error, and it is the lowest
unclosed : IsRefused (codes "INPUT(a") (Syntax 1)
unclosed = (
  lit≤ tt,
  (
    (
      codes "INPUT(a",
      refl,
      λ s h. let e : None ≡ Some s = complete_states (codes "INPUT(a") s h in cc,
    ),
    lower,
  ),
)
  where
    lower : (k : ℕ) → k < 1 → ¬ IsSyntaxFault (codes "INPUT(a") k
    lower zero h f = let e : None ≡ Some f.0 = f.1 in cc
    lower (suc k) h f = omega (arith, h)

-- b is fed by the cycle of c and d
fed_by_cycle : IsStuck cycle_with_tail (codes "b")
fed_by_cycle = (
  is_in (codes "b" ∷ codes "c" ∷ codes "d" ∷ []),
  stuck cycle_with_tail (codes "b" ∷ codes "c" ∷ codes "d" ∷ []) refl,
  refl,
)

-- the fault-free values of c17 under 11111
c17_values : map (bit_within 4 c17 (true ∷ true ∷ true ∷ true ∷ true ∷ []) None)
    (codes "G10" ∷ codes "G11" ∷ codes "G16" ∷ codes "G19" ∷ codes "G22" ∷ codes "G23" ∷ [])
    ≡ false ∷ false ∷ true ∷ true ∷ true ∷ false ∷ []
c17_values = refl

c17_solution : Solves c17 (true ∷ true ∷ true ∷ true ∷ true ∷ []) None
    (bit_within 4 c17 (true ∷ true ∷ true ∷ true ∷ true ∷ []) None)
c17_solution = solves _ _ _ _ refl

-- a stem of a source, a branch, a cell's stem, a data pin, an output's branch, and a pin of an
-- exclusive or
c17_stem : Detects c17 (true ∷ true ∷ true ∷ true ∷ true ∷ []) (record {
  model = StuckAt;
  line = line.Stem 0;
  stuck = false;
})
c17_stem = detects 4 _ _ _ refl refl refl

c17_branch : Detects c17 (true ∷ true ∷ true ∷ true ∷ true ∷ []) (record {
  model = StuckAt;
  line = line.Pin 7 1;
  stuck = true;
})
c17_branch = detects 4 _ _ _ refl refl refl

cell_stem : Detects inverter_loop (false ∷ []) (record {
  model = StuckAt;
  line = line.Stem 0;
  stuck = true;
})
cell_stem = detects 4 _ _ _ refl refl refl

data_pin : Detects scan_cell (true ∷ true ∷ []) (record {
  model = StuckAt;
  line = line.Data 0;
  stuck = false;
})
data_pin = detects 4 _ _ _ refl refl refl

output_branch : Detects output_and_inverter (false ∷ []) (record {
  model = StuckAt;
  line = line.Out 0;
  stuck = true;
})
output_branch = detects 4 _ _ _ refl refl refl

xor_pin : Detects xor_of_one (false ∷ []) (record {
  model = StuckAt;
  line = line.Pin 1 1;
  stuck = true;
})
xor_pin = detects 4 _ _ _ refl refl refl

-- the sinks of a name that an output and a gate pin read: the pin goes first though its line comes
-- later
output_and_inverter_sinks : sinks output_and_inverter (codes "a") ≡ sink.Pin 1 0 ∷ sink.Out 0 ∷ []
output_and_inverter_sinks = refl

xor_of_one_sinks : sinks xor_of_one (codes "a") ≡ sink.Pin 1 0 ∷ sink.Pin 1 1 ∷ []
xor_of_one_sinks = refl

-- data pins and gate pins by line, then the outputs
scan_cell_sinks : sinks scan_cell (codes "y") ≡ sink.Data 0 ∷ sink.Out 0 ∷ []
scan_cell_sinks = refl

-- the chain of `stem G6 sa0` in c17 ends at `stem G11 sa1`
c17_chain : Represents c17 (record { model = StuckAt; line = line.Stem 3; stuck = false })
    (record { model = StuckAt; line = line.Stem 6; stuck = true })
c17_chain = represents 13 c17 (record { model = StuckAt; line = line.Stem 3; stuck = false }) refl
