-- The worked circuits.
use Rattle.std.specs.Prelude.{List, [], ◌∷◌, codes}
use Rattle.bench_net.specs.declared.Kind.TheVariants.{And, Nand, Nor, Xor, Not, Buff}
use Rattle.bench_net.specs.Statement.{Statement, Input, Output, Gate, Dff}

abbrev pub c17 : List Statement
c17 = Input (codes "G1") ∷ Input (codes "G2") ∷ Input (codes "G3") ∷ Input (codes "G6") ∷ Input
    (codes "G7") ∷ Output (codes "G22") ∷ Output (codes "G23") ∷ Gate (codes "G10") Nand
    (codes "G1" ∷ codes "G3" ∷ []) ∷ Gate (codes "G11") Nand (codes "G3" ∷ codes "G6" ∷ []) ∷ Gate
    (codes "G16") Nand (codes "G2" ∷ codes "G11" ∷ []) ∷ Gate (codes "G19") Nand
    (codes "G11" ∷ codes "G7" ∷ []) ∷ Gate (codes "G22") Nand
    (codes "G10" ∷ codes "G16" ∷ []) ∷ Gate (codes "G23") Nand (codes "G16" ∷ codes "G19" ∷ []) ∷ []

abbrev pub and_of_two : List Statement
and_of_two = Input (codes "a") ∷ Input (codes "b") ∷ Output (codes "z") ∷ Gate (codes "z") And
    (codes "a" ∷ codes "b" ∷ []) ∷ []

abbrev pub inverter_loop : List Statement
inverter_loop = Dff (codes "q") (codes "d") ∷ Gate (codes "d") Not (codes "q" ∷ []) ∷ []

abbrev pub eleven_inputs : List Statement
eleven_inputs = Input (codes "i0") ∷ Input (codes "i1") ∷ Input (codes "i2") ∷ Input
    (codes "i3") ∷ Input (codes "i4") ∷ Input (codes "i5") ∷ Input (codes "i6") ∷ Input
    (codes "i7") ∷ Input (codes "i8") ∷ Input (codes "i9") ∷ Input (codes "i10") ∷ Output
    (codes "i0") ∷ []

abbrev pub buffer : List Statement
buffer = Input (codes "a") ∷ Output (codes "z") ∷ Gate (codes "z") Buff (codes "a" ∷ []) ∷ []

abbrev pub nor_of_two : List Statement
nor_of_two = Input (codes "a") ∷ Input (codes "b") ∷ Output (codes "z") ∷ Gate (codes "z") Nor
    (codes "a" ∷ codes "b" ∷ []) ∷ []

abbrev pub output_and_inverter : List Statement
output_and_inverter = Input (codes "a") ∷ Output (codes "a") ∷ Output (codes "z") ∷ Gate
    (codes "z") Not (codes "a" ∷ []) ∷ []

abbrev pub xor_of_one : List Statement
xor_of_one = Input (codes "a") ∷ Output (codes "z") ∷ Gate (codes "z") Xor
    (codes "a" ∷ codes "a" ∷ []) ∷ []

abbrev pub scan_cell : List Statement
scan_cell = Input (codes "a") ∷ Output (codes "y") ∷ Dff (codes "q") (codes "y") ∷ Gate
    (codes "y") And (codes "a" ∷ codes "q" ∷ []) ∷ []

abbrev pub cell_of_itself : List Statement
cell_of_itself = Dff (codes "z") (codes "z") ∷ []

abbrev pub cycle_with_tail : List Statement
cycle_with_tail = Input (codes "a") ∷ Gate (codes "b") Not (codes "c" ∷ []) ∷ Gate (codes "c") And
    (codes "a" ∷ codes "d" ∷ []) ∷ Gate (codes "d") Buff (codes "c" ∷ []) ∷ []
