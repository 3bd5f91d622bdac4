-- The responses of a scan cell and of C17 to three tests each, at the relation.
use Rattle.std.{proofs.Common.{inl, inr}, specs.Prelude.{Some, None, slice_get, slice_index_or}}
use Rattle.std.specs.Prelude.{◌≡◌, ℕ, zero, suc, Bool, true, false, List, [], ◌∷◌, map, codes, refl}
use Rattle.bench_net.specs.{declared.Kind.TheVariants.{And, Nand}, Statement.Name, Scan.observers}
use Rattle.list_lemmas.proofs.Members.{contained}
use Rattle.fault_model.specs.Solution.{Test, Solves, shows, value}
use Rattle.patterns.specs.{Making.test_text, Tests.TestList}
use Rattle.block_sim.specs.Responses.{AreResponses}
use Rattle.worked_examples.proofs.{Circuits.{c17, scan_cell}, Listings.{tests, text}}

-- y = AND(a, q) is the output, and q captures it: the bits of both in the solution
shown : (t : Test) (v : Name → Bool) → Solves scan_cell t None v
    → map (shows None v) (observers scan_cell)
    ≡ value And (slice_index_or t 0 false ∷ slice_index_or t 1 false ∷ []) ∷ value And
    (slice_index_or t 0 false ∷ slice_index_or t 1 false ∷ []) ∷ []
shown t v s =
    let a : v (codes "a") ≡ slice_index_or t 0 false = s.source 0 (codes "a") refl in
    let q : v (codes "q") ≡ slice_index_or t 1 false = s.source 1 (codes "q") refl in
    let y : v (codes "y") ≡ value And (v (codes "a") ∷ v (codes "q") ∷ []) =
    s.gate (codes "y") And (codes "a" ∷ codes "q" ∷ [])
    (contained scan_cell _ (inr (inr (inr (inl refl))))) in
    rw (y, a, q) refl

abbrev three : List Test
three = tests (codes "11" ∷ codes "10" ∷ codes "01" ∷ [])

abbrev answers : TestList
answers = record { width = 2; tests = tests (codes "11" ∷ codes "00" ∷ codes "00" ∷ []) }

scan_cell_responses : AreResponses scan_cell three answers
scan_cell_responses = record { width = refl; count = refl; each = each }
  where
    each : (t : ℕ) (test : Test) (v : Name → Bool) → slice_get three t ≡ Some test
        → Solves scan_cell test None v
        → slice_get answers.tests t ≡ Some (map (shows None v) (observers scan_cell))
    each zero test v at s = let row = shown test v s in
        let is : Some (true ∷ true ∷ []) ≡ Some test = at in cc
    each (suc zero) test v at s = let row = shown test v s in
        let is : Some (true ∷ false ∷ []) ≡ Some test = at in cc
    each (suc (suc zero)) test v at s = let row = shown test v s in
        let is : Some (false ∷ true ∷ []) ≡ Some test = at in cc
    each (suc (suc (suc t))) test v at s = let bad : None ≡ Some test = at in cc

scan_cell_response_text : test_text answers.tests ≡ text (codes "11" ∷ codes "00" ∷ codes "00" ∷ [])
scan_cell_response_text = refl

-- C17: the bits of its two outputs in the solution, gate after gate
abbrev bit_of : Test → ℕ → Bool
bit_of t k = slice_index_or t k false

abbrev nand : Bool → Bool → Bool
nand a b = value Nand (a ∷ b ∷ [])

abbrev g11 : Test → Bool
g11 t = nand (bit_of t 2) (bit_of t 3)

abbrev g16 : Test → Bool
g16 t = nand (bit_of t 1) (g11 t)

c17_shown : (t : Test) (v : Name → Bool) → Solves c17 t None v → map (shows None v) (observers c17)
    ≡ nand (nand (bit_of t 0) (bit_of t 2)) (g16 t) ∷ nand (g16 t) (nand (g11 t) (bit_of t 4)) ∷ []
c17_shown t v s =
    let i1 : v (codes "G1") ≡ bit_of t 0 = s.source 0 (codes "G1") refl in
    let i2 : v (codes "G2") ≡ bit_of t 1 = s.source 1 (codes "G2") refl in
    let i3 : v (codes "G3") ≡ bit_of t 2 = s.source 2 (codes "G3") refl in
    let i6 : v (codes "G6") ≡ bit_of t 3 = s.source 3 (codes "G6") refl in
    let i7 : v (codes "G7") ≡ bit_of t 4 = s.source 4 (codes "G7") refl in
    let n10 : v (codes "G10") ≡ nand (v (codes "G1")) (v (codes "G3")) =
    s.gate (codes "G10") Nand (codes "G1" ∷ codes "G3" ∷ [])
    (contained c17 _ (inr (inr (inr (inr (inr (inr (inr (inl refl))))))))) in
    let n11 : v (codes "G11") ≡ nand (v (codes "G3")) (v (codes "G6")) =
    s.gate (codes "G11") Nand (codes "G3" ∷ codes "G6" ∷ [])
    (contained c17 _ (inr (inr (inr (inr (inr (inr (inr (inr (inl refl)))))))))) in
    let n16 : v (codes "G16") ≡ nand (v (codes "G2")) (v (codes "G11")) =
    s.gate (codes "G16") Nand (codes "G2" ∷ codes "G11" ∷ [])
    (contained c17 _ (inr (inr (inr (inr (inr (inr (inr (inr (inr (inl refl))))))))))) in
    let n19 : v (codes "G19") ≡ nand (v (codes "G11")) (v (codes "G7")) =
    s.gate (codes "G19") Nand (codes "G11" ∷ codes "G7" ∷ [])
    (contained c17 _ (inr (inr (inr (inr (inr (inr (inr (inr (inr (inr (inl refl)))))))))))) in
    let n22 : v (codes "G22") ≡ nand (v (codes "G10")) (v (codes "G16")) =
    s.gate (codes "G22") Nand (codes "G10" ∷ codes "G16" ∷ [])
    (contained c17 _ (inr (inr (inr (inr (inr (inr (inr (inr (inr (inr (inr (inl
    refl))))))))))))) in
    let n23 : v (codes "G23") ≡ nand (v (codes "G16")) (v (codes "G19")) =
    s.gate (codes "G23") Nand (codes "G16" ∷ codes "G19" ∷ [])
    (contained c17 _ (inr (inr (inr (inr (inr (inr (inr (inr (inr (inr (inr (inr (inl
    refl)))))))))))))) in
    rw (n22, n23, n10, n16, n19, n11, i1, i2, i3, i6, i7) refl

abbrev c17_three : List Test
c17_three = tests (codes "11111" ∷ codes "00000" ∷ codes "01011" ∷ [])

abbrev c17_answers : TestList
c17_answers = record { width = 2; tests = tests (codes "10" ∷ codes "00" ∷ codes "11" ∷ []) }

c17_responses : AreResponses c17 c17_three c17_answers
c17_responses = record { width = refl; count = refl; each = each }
  where
    each : (t : ℕ) (test : Test) (v : Name → Bool) → slice_get c17_three t ≡ Some test
        → Solves c17 test None v
        → slice_get c17_answers.tests t ≡ Some (map (shows None v) (observers c17))
    each zero test v at s = let row = c17_shown test v s in
        let is : Some (true ∷ true ∷ true ∷ true ∷ true ∷ []) ≡ Some test = at in cc
    each (suc zero) test v at s = let row = c17_shown test v s in
        let is : Some (false ∷ false ∷ false ∷ false ∷ false ∷ []) ≡ Some test = at in cc
    each (suc (suc zero)) test v at s = let row = c17_shown test v s in
        let is : Some (false ∷ true ∷ false ∷ true ∷ true ∷ []) ≡ Some test = at in cc
    each (suc (suc (suc t))) test v at s = let bad : None ≡ Some test = at in cc
