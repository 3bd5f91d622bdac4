-- Test files and order files of the worked circuits.
use Rattle.std.specs.Prelude.{◌≡◌, ℕ, true, false, List, [], ◌∷◌, ◌++◌, map, flat_map, replicate}
use Rattle.std.specs.Prelude.{codes, refl}
use Rattle.patterns.specs.Tests.{test_faults, HasTests, IsTestRefusal}
use Rattle.orders.specs.Order.{order_faults, HasMoves}
use Rattle.patterns.specs.declared.TestFault.TheVariants as fault
use Rattle.orders.specs.declared.OrderFault.TheVariants as order

abbrev text : List (List ℕ) → List ℕ
text ls = flat_map (λ l. l ++ 10 ∷ []) ls

short_row : test_faults (text (codes "11111" ∷ codes "00000" ∷ codes "1111" ∷ [])) 5
    ≡ fault.BadWidth 3 ∷ []
short_row = refl

bad_byte : IsTestRefusal (text (codes "11211" ∷ [])) 5 (fault.BadByte 1)
bad_byte = ([], refl)

inner_blank : IsTestRefusal (text (codes "1 1" ∷ [])) 2 (fault.BadByte 1)
inner_blank = ([], refl)

-- the byte goes before the width
byte_first : IsTestRefusal (text (codes "1121" ∷ [])) 2 (fault.BadByte 1)
byte_first = ([], refl)

-- blanks at the ends, comments, empty lines, a carriage return at a line end and at the end of the
-- text
odd_rows : HasTests (codes " 10" ++ 9 ∷ codes "# x" ++ 13 ∷ 10 ∷ 10 ∷ codes "   # only a comment"
    ++ 10 ∷ codes "01#" ++ 10 ∷ codes "11" ++ 13 ∷ []) 2 (record {
      width = 2;
      tests = (true ∷ false ∷ []) ∷ (false ∷ true ∷ []) ∷ (true ∷ true ∷ []) ∷ [];
    })
odd_rows = (refl, refl, refl)

-- a carriage return that ends no line is a byte of the row
inner_return : IsTestRefusal (49 ∷ 13 ∷ 35 ∷ 10 ∷ []) 1 (fault.BadByte 1)
inner_return = ([], refl)

no_rows : HasTests [] 5 (record { width = 5; tests = [] })
no_rows = (refl, refl, refl)

only_comments : HasTests (text (codes "# a" ∷ codes "" ∷ codes " # b" ∷ [])) 5 (record {
  width = 5;
  tests = [];
})
only_comments = (refl, refl, refl)

-- the first row with an error decides, also past block 63
late_byte : test_faults (text (replicate 4096 (codes "00") ++ codes "2" ∷ [])) 2
    ≡ fault.BadByte 4097 ∷ []
late_byte = refl

-- the row past the limit is TooMany whatever its bytes
too_many : test_faults (text (replicate 65536 (codes "00") ++ codes "2" ∷ [])) 2
    ≡ fault.TooMany ∷ []
too_many = refl

orders : map (λ l. order_faults (text (l ∷ [])) 4)
    (codes "000000003" ∷ codes "0000000003" ∷ codes "0 1" ∷ codes "-1" ∷ codes "4" ∷ codes
    "3 # x" ∷ []) ≡ [] ∷ (order.BadNumber 1 ∷ []) ∷ (order.BadNumber 1 ∷ []) ∷ (order.BadNumber
    1 ∷ []) ∷ (order.NoSuchWorker 1 ∷ []) ∷ [] ∷ []
orders = refl

moves : HasMoves (text (codes "0" ∷ codes "# none" ∷ codes "003" ∷ [])) 4 (0 ∷ 3 ∷ [])
moves = (refl, refl)
