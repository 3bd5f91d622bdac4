-- Bench files that are accepted or have an error: the plain program computes it, and its result is
-- the result of the relations.
use Rattle.std.specs.Prelude.{◌≡◌, ℕ, List, [], ◌∷◌, ◌++◌, codes, refl, Ok, Err}
use Rattle.bench_net.specs.declared.Kind.TheVariants.{And, Nand, Xnor, Not, Buff}
use Rattle.bench_net.specs.declared.BenchFault.{BenchFault, TheVariants.Empty}
use Rattle.bench_net.specs.declared.BenchFault.TheVariants.{Syntax, Redefined, Undefined, Cycle}
use Rattle.bench_net.specs.Statement.{Statement, Input, Output, Gate, Dff}
use Rattle.bench_net.specs.Refusal.{IsAccepted, IsRefused}
use Rattle.bench_net.proofs.Public.{answer_text, accepted_by, refused_by}
use Rattle.worked_examples.proofs.Circuits.{c17, and_of_two, inverter_loop, buffer}
use Rattle.worked_examples.proofs.Circuits.{output_and_inverter, xor_of_one, scan_cell}
use Rattle.worked_examples.proofs.Circuits.{cell_of_itself}

-- records, so that text and circuit or fault are read off the statement
pub record Accepts (text : List ℕ) (c : List Statement) : Type 0 where
  pub accepted : IsAccepted text c

record Refuses (text : List ℕ) (fault : BenchFault) : Type 0 where
  refused : IsRefused text fault

accepts : {text : List ℕ} {c : List Statement} → answer_text text ≡ Ok c → Accepts text c
accepts {text} {c} e = record { accepted = accepted_by text c e }

refuses : {text : List ℕ} {fault : BenchFault} → answer_text text ≡ Err fault → Refuses text fault
refuses {text} {fault} e = record { refused = refused_by text fault e }

pub c17_text : Accepts (codes "INPUT(G1)" ++ (10 ∷ []) ++ codes "INPUT(G2)" ++ (10 ∷ [])
    ++ codes "INPUT(G3)" ++ (10 ∷ []) ++ codes "INPUT(G6)" ++ (10 ∷ []) ++ codes "INPUT(G7)"
    ++ (10 ∷ []) ++ codes "OUTPUT(G22)" ++ (10 ∷ []) ++ codes "OUTPUT(G23)" ++ (10 ∷ [])
    ++ codes "G10 = NAND(G1, G3)" ++ (10 ∷ []) ++ codes "G11 = NAND(G3, G6)" ++ (10 ∷ [])
    ++ codes "G16 = NAND(G2, G11)" ++ (10 ∷ []) ++ codes "G19 = NAND(G11, G7)" ++ (10 ∷ [])
    ++ codes "G22 = NAND(G10, G16)" ++ (10 ∷ []) ++ codes "G23 = NAND(G16, G19)" ++ (10 ∷ [])) c17
c17_text = accepts refl

and_of_two_text : Accepts (codes "INPUT(a)" ++ (10 ∷ []) ++ codes "INPUT(b)" ++ (10 ∷ [])
    ++ codes "OUTPUT(z)" ++ (10 ∷ []) ++ codes "z = AND(a, b)" ++ (10 ∷ [])) and_of_two
and_of_two_text = accepts refl

pub inverter_loop_text : Accepts (codes "q = DFF(d)" ++ (10 ∷ []) ++ codes "d = NOT(q)"
    ++ (10 ∷ [])) inverter_loop
inverter_loop_text = accepts refl

output_and_inverter_text : Accepts (codes "INPUT(a)" ++ (10 ∷ []) ++ codes "OUTPUT(a)" ++ (10 ∷ [])
    ++ codes "OUTPUT(z)" ++ (10 ∷ []) ++ codes "z = NOT(a)" ++ (10 ∷ [])) output_and_inverter
output_and_inverter_text = accepts refl

xor_of_one_text : Accepts (codes "INPUT(a)" ++ (10 ∷ []) ++ codes "OUTPUT(z)" ++ (10 ∷ [])
    ++ codes "z = XOR(a, a)" ++ (10 ∷ [])) xor_of_one
xor_of_one_text = accepts refl

pub scan_cell_text : Accepts (codes "INPUT(a)" ++ (10 ∷ []) ++ codes "OUTPUT(y)" ++ (10 ∷ [])
    ++ codes "q = DFF(y)" ++ (10 ∷ []) ++ codes "y = AND(a, q)" ++ (10 ∷ [])) scan_cell
scan_cell_text = accepts refl

two_gate_cycle : Refuses (codes "a = NOT(b)" ++ (10 ∷ []) ++ codes "b = NOT(a)" ++ (10 ∷ []))
    (Cycle 1)
two_gate_cycle = refuses refl

empty_text : Refuses ([]) Empty
empty_text = refuses refl

only_comment : Refuses (codes "# x" ++ (10 ∷ [])) Empty
only_comment = refuses refl

only_blanks : Refuses (codes " " ++ (9 ∷ []) ++ (13 ∷ []) ++ (10 ∷ []) ++ (10 ∷ []) ++ codes " "
    ++ (13 ∷ [])) Empty
only_blanks = refuses refl

unclosed : Refuses (codes "INPUT(a") (Syntax 1)
unclosed = refuses refl

two_for_not : Refuses (codes "INPUT(a)" ++ (10 ∷ []) ++ codes "z = NOT(a, a)" ++ (10 ∷ []))
    (Syntax 2)
two_for_not = refuses refl

unknown_kind : Refuses (codes "INPUT(a)" ++ (10 ∷ []) ++ codes "z = INV(a)" ++ (10 ∷ [])) (Syntax 2)
unknown_kind = refuses refl

constant : Refuses (codes "INPUT(a)" ++ (10 ∷ []) ++ codes "z = vdd" ++ (10 ∷ [])) (Syntax 2)
constant = refuses refl

twice_input : Refuses (codes "INPUT(a)" ++ (10 ∷ []) ++ codes "INPUT(a)" ++ (10 ∷ [])) (Redefined 2)
twice_input = refuses refl

undefined_output : Refuses (codes "OUTPUT(z)" ++ (10 ∷ [])) (Undefined 1)
undefined_output = refuses refl

syntax_first : Refuses (codes "OUTPUT(z)" ++ (10 ∷ []) ++ codes ")" ++ (10 ∷ [])) (Syntax 2)
syntax_first = refuses refl

pub odd_spelling : Accepts (codes "input( a )" ++ (13 ∷ []) ++ (10 ∷ []) ++ codes "Output(z)"
    ++ (13 ∷ []) ++ (10 ∷ []) ++ (13 ∷ []) ++ (10 ∷ []) ++ codes "z=buf(a) # x") buffer
odd_spelling = accepts refl

pub self_cell : Accepts (codes "z = DFF(z)" ++ (10 ∷ [])) cell_of_itself
self_cell = accepts refl

fed_by_cycle : Refuses (codes "INPUT(a)" ++ (10 ∷ []) ++ codes "b = NOT(c)" ++ (10 ∷ [])
    ++ codes "c = AND(a, d)" ++ (10 ∷ []) ++ codes "d = BUFF(c)" ++ (10 ∷ [])) (Cycle 2)
fed_by_cycle = refuses refl

redefined_before_undefined : Refuses (codes "OUTPUT(x)" ++ (10 ∷ []) ++ codes "INPUT(a)"
    ++ (10 ∷ []) ++ codes "INPUT(a)" ++ (10 ∷ [])) (Redefined 3)
redefined_before_undefined = refuses refl

keyword_name : Accepts (codes "INPUT(INPUT)" ++ (10 ∷ []) ++ codes "OUTPUT(INPUT)" ++ (10 ∷ []))
    (Input (codes "INPUT") ∷ Output (codes "INPUT") ∷ [])
keyword_name = accepts refl

cut_0 : Refuses ([]) Empty
cut_0 = refuses refl

cut_8 : Refuses (codes "INPUT(G1") (Syntax 1)
cut_8 = refuses refl

cut_9 : Accepts (codes "INPUT(G1)") (Input (codes "G1") ∷ [])
cut_9 = accepts refl

cut_line_1 : Accepts (codes "INPUT(G1)" ++ (10 ∷ [])) (Input (codes "G1") ∷ [])
cut_line_1 = accepts refl

cut_line_6 : Refuses (codes "INPUT(G1)" ++ (10 ∷ []) ++ codes "INPUT(G2)" ++ (10 ∷ [])
    ++ codes "INPUT(G3)" ++ (10 ∷ []) ++ codes "INPUT(G6)" ++ (10 ∷ []) ++ codes "INPUT(G7)"
    ++ (10 ∷ []) ++ codes "OUTPUT(G22)" ++ (10 ∷ [])) (Undefined 6)
cut_line_6 = refuses refl

cut_line_8 : Refuses (codes "INPUT(G1)" ++ (10 ∷ []) ++ codes "INPUT(G2)" ++ (10 ∷ [])
    ++ codes "INPUT(G3)" ++ (10 ∷ []) ++ codes "INPUT(G6)" ++ (10 ∷ []) ++ codes "INPUT(G7)"
    ++ (10 ∷ []) ++ codes "OUTPUT(G22)" ++ (10 ∷ []) ++ codes "OUTPUT(G23)" ++ (10 ∷ [])
    ++ codes "G10 = NAND(G1, G3)" ++ (10 ∷ [])) (Undefined 6)
cut_line_8 = refuses refl

cut_line_12 : Refuses (codes "INPUT(G1)" ++ (10 ∷ []) ++ codes "INPUT(G2)" ++ (10 ∷ [])
    ++ codes "INPUT(G3)" ++ (10 ∷ []) ++ codes "INPUT(G6)" ++ (10 ∷ []) ++ codes "INPUT(G7)"
    ++ (10 ∷ []) ++ codes "OUTPUT(G22)" ++ (10 ∷ []) ++ codes "OUTPUT(G23)" ++ (10 ∷ [])
    ++ codes "G10 = NAND(G1, G3)" ++ (10 ∷ []) ++ codes "G11 = NAND(G3, G6)" ++ (10 ∷ [])
    ++ codes "G16 = NAND(G2, G11)" ++ (10 ∷ []) ++ codes "G19 = NAND(G11, G7)" ++ (10 ∷ [])
    ++ codes "G22 = NAND(G10, G16)" ++ (10 ∷ [])) (Undefined 7)
cut_line_12 = refuses refl

inner_return : Refuses (codes "INPUT(a)" ++ (13 ∷ []) ++ codes "INPUT(b)" ++ (10 ∷ [])) (Syntax 1)
inner_return = refuses refl

two_returns : Refuses (codes "INPUT(a)" ++ (13 ∷ []) ++ (13 ∷ []) ++ (10 ∷ [])) (Syntax 1)
two_returns = refuses refl

high_byte : Refuses (codes "INPUT(a" ++ (128 ∷ []) ++ codes ")" ++ (10 ∷ [])) (Syntax 1)
high_byte = refuses refl

comment_bytes : Accepts (codes "INPUT(a) # " ++ (0 ∷ []) ++ (13 ∷ []) ++ (255 ∷ []) ++ (10 ∷ []))
    (Input (codes "a") ∷ [])
comment_bytes = accepts refl

comment_at_word : Accepts (codes "INPUT(a)#x" ++ (10 ∷ []) ++ codes "z=BUFF(a)#(")
    (Input (codes "a") ∷ Gate (codes "z") Buff (codes "a" ∷ []) ∷ [])
comment_at_word = accepts refl

return_before_comment : Refuses (codes "INPUT(a)" ++ (13 ∷ []) ++ codes "#x" ++ (10 ∷ []))
    (Syntax 1)
return_before_comment = refuses refl

hash_in_word : Refuses (codes "INPUT(a#b)" ++ (10 ∷ [])) (Syntax 1)
hash_in_word = refuses refl

two_words : Refuses (codes "INPUT a (b)" ++ (10 ∷ [])) (Syntax 1)
two_words = refuses refl

blank_in_word : Refuses (codes "INPUT(a b)" ++ (10 ∷ [])) (Syntax 1)
blank_in_word = refuses refl

split_keyword : Refuses (codes "IN PUT(a)" ++ (10 ∷ [])) (Syntax 1)
split_keyword = refuses refl

no_arguments : Refuses (codes "INPUT(a)" ++ (10 ∷ []) ++ codes "z = AND()" ++ (10 ∷ [])) (Syntax 2)
no_arguments = refuses refl

trailing_comma : Refuses (codes "INPUT(a)" ++ (10 ∷ []) ++ codes "z = AND(a,)" ++ (10 ∷ []))
    (Syntax 2)
trailing_comma = refuses refl

leading_comma : Refuses (codes "INPUT(a)" ++ (10 ∷ []) ++ codes "z = AND(,a)" ++ (10 ∷ []))
    (Syntax 2)
leading_comma = refuses refl

two_commas : Refuses (codes "INPUT(a)" ++ (10 ∷ []) ++ codes "z = AND(a,,a)" ++ (10 ∷ []))
    (Syntax 2)
two_commas = refuses refl

two_for_dff : Refuses (codes "INPUT(a)" ++ (10 ∷ []) ++ codes "q = DFF(a, a)" ++ (10 ∷ []))
    (Syntax 2)
two_for_dff = refuses refl

input_as_kind : Refuses (codes "INPUT(a)" ++ (10 ∷ []) ++ codes "z = INPUT(a)" ++ (10 ∷ []))
    (Syntax 2)
input_as_kind = refuses refl

two_inputs : Refuses (codes "INPUT(a, b)" ++ (10 ∷ [])) (Syntax 1)
two_inputs = refuses refl

two_statements : Refuses (codes "INPUT(a) INPUT(b)" ++ (10 ∷ [])) (Syntax 1)
two_statements = refuses refl

no_close_text : Refuses (codes "INPUT(a)" ++ (10 ∷ []) ++ codes "z = AND(a" ++ (10 ∷ [])
    ++ codes ")" ++ (10 ∷ [])) (Syntax 2)
no_close_text = refuses refl

vertical_tab : Refuses (codes "INPUT(a)" ++ (11 ∷ []) ++ (10 ∷ [])) (Syntax 1)
vertical_tab = refuses refl

delete_byte : Refuses (codes "INPUT(a" ++ (127 ∷ []) ++ codes ")" ++ (10 ∷ [])) (Syntax 1)
delete_byte = refuses refl

one_for_and : Accepts (codes "INPUT(a)" ++ (10 ∷ []) ++ codes "z = AND(a)" ++ (10 ∷ []))
    (Input (codes "a") ∷ Gate (codes "z") And (codes "a" ∷ []) ∷ [])
one_for_and = accepts refl

keyword_gates : Accepts (codes "INPUT(AND)" ++ (10 ∷ []) ++ codes "NAND = nAnD(AND,AND)"
    ++ (10 ∷ []) ++ codes "DFF = dFf(NAND)" ++ (10 ∷ []) ++ codes "OUTPUT(DFF)" ++ (10 ∷ []))
    (Input (codes "AND") ∷ Gate (codes "NAND") Nand (codes "AND" ∷ codes "AND" ∷ []) ∷ Dff
    (codes "DFF") (codes "NAND") ∷ Output (codes "DFF") ∷ [])
keyword_gates = accepts refl

named_input : Accepts (codes "INPUT = BUFF(OUTPUT)" ++ (10 ∷ []) ++ codes "OUTPUT = DFF(INPUT)"
    ++ (10 ∷ [])) (Gate (codes "INPUT") Buff (codes "OUTPUT" ∷ []) ∷ Dff (codes "OUTPUT")
    (codes "INPUT") ∷ [])
named_input = accepts refl

odd_word_bytes : Accepts (codes "INPUT(!~a.b[3]<x>)" ++ (10 ∷ []))
    (Input (codes "!~a.b[3]<x>") ∷ [])
odd_word_bytes = accepts refl

tabs_and_blanks : Accepts ((9 ∷ []) ++ codes "z" ++ (9 ∷ []) ++ codes "=" ++ (9 ∷ [])
    ++ codes "XNOR" ++ (9 ∷ []) ++ codes "(" ++ (9 ∷ []) ++ codes "a" ++ (9 ∷ []) ++ codes ","
    ++ (9 ∷ []) ++ codes "b" ++ (9 ∷ []) ++ codes ")" ++ (9 ∷ []) ++ (10 ∷ []) ++ codes "INPUT(a)"
    ++ (10 ∷ []) ++ codes "INPUT(b)") (Gate (codes "z") Xnor (codes "a" ∷ codes "b" ∷ []) ∷ Input
    (codes "a") ∷ Input (codes "b") ∷ [])
tabs_and_blanks = accepts refl

case_of_names : Accepts (codes "INPUT(a)" ++ (10 ∷ []) ++ codes "INPUT(A)" ++ (10 ∷ []))
    (Input (codes "a") ∷ Input (codes "A") ∷ [])
case_of_names = accepts refl

case_of_reads : Refuses (codes "INPUT(a)" ++ (10 ∷ []) ++ codes "OUTPUT(A)" ++ (10 ∷ []))
    (Undefined 2)
case_of_reads = refuses refl

used_before : Accepts (codes "OUTPUT(z)" ++ (10 ∷ []) ++ codes "z = NOT(a)" ++ (10 ∷ [])
    ++ codes "INPUT(a)" ++ (10 ∷ [])) (Output (codes "z") ∷ Gate (codes "z") Not
    (codes "a" ∷ []) ∷ Input (codes "a") ∷ [])
used_before = accepts refl

output_twice : Accepts (codes "INPUT(a)" ++ (10 ∷ []) ++ codes "OUTPUT(a)" ++ (10 ∷ [])
    ++ codes "OUTPUT(a)" ++ (10 ∷ [])) (Input (codes "a") ∷ Output (codes "a") ∷ Output
    (codes "a") ∷ [])
output_twice = accepts refl

undefined_in_gate : Refuses (codes "INPUT(a)" ++ (10 ∷ []) ++ codes "z = AND(a, b)" ++ (10 ∷ [])
    ++ codes "OUTPUT(y)" ++ (10 ∷ [])) (Undefined 2)
undefined_in_gate = refuses refl

undefined_in_dff : Refuses (codes "INPUT(a)" ++ (10 ∷ []) ++ (10 ∷ []) ++ codes "# c" ++ (10 ∷ [])
    ++ codes "q = DFF(d)" ++ (10 ∷ []) ++ codes "OUTPUT(y)" ++ (10 ∷ [])) (Undefined 4)
undefined_in_dff = refuses refl

gate_and_input : Refuses (codes "z = NOT(z)" ++ (10 ∷ []) ++ codes "INPUT(z)" ++ (10 ∷ []))
    (Redefined 2)
gate_and_input = refuses refl

dff_and_gate : Refuses (codes "INPUT(a)" ++ (10 ∷ []) ++ codes "q = DFF(a)" ++ (10 ∷ [])
    ++ codes "q = NOT(a)" ++ (10 ∷ [])) (Redefined 3)
dff_and_gate = refuses refl

own_argument : Refuses (codes "z = NOT(z)" ++ (10 ∷ [])) (Cycle 1)
own_argument = refuses refl

cell_breaks_cycle : Accepts (codes "q = DFF(b)" ++ (10 ∷ []) ++ codes "a = NOT(q)" ++ (10 ∷ [])
    ++ codes "b = NOT(a)" ++ (10 ∷ [])) (Dff (codes "q") (codes "b") ∷ Gate (codes "a") Not
    (codes "q" ∷ []) ∷ Gate (codes "b") Not (codes "a" ∷ []) ∷ [])
cell_breaks_cycle = accepts refl

undefined_before_cycle : Refuses (codes "a = NOT(a)" ++ (10 ∷ []) ++ codes "OUTPUT(x)" ++ (10 ∷ []))
    (Undefined 2)
undefined_before_cycle = refuses refl

cycle_behind : Refuses (codes "INPUT(i)" ++ (10 ∷ []) ++ codes "x = BUFF(i)" ++ (10 ∷ [])
    ++ codes "y = AND(x, z)" ++ (10 ∷ []) ++ codes "z = OR(y, i)" ++ (10 ∷ []) ++ codes "OUTPUT(y)"
    ++ (10 ∷ [])) (Cycle 3)
cycle_behind = refuses refl
