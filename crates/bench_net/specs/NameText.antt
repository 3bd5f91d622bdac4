-- The names of a circuit in one text.
use Rattle.std.specs.Prelude.{◌≡◌, ◌≤◌, ◌-◌, ℕ, zero, suc, ⊤, List, [], ◌∷◌, take}
use Rattle.std.specs.Prelude.{drop, slice_index}
use Rattle.std.specs.Str.{IsUtf8}
use Rattle.bench_net.specs.Statement.{Name}

-- the names that stand in a text from a place on, given the place behind each
abbrev pub cut_names : List ℕ → ℕ → List ℕ → List Name
cut_names text start [] = []
cut_names text start (end ∷ ends) = take (end - start) (drop start text) ∷ cut_names text end ends

-- the place where a name begins: behind the name before it, and the first at the start
abbrev pub start_of : ℕ → List ℕ → ℕ → ℕ
start_of start ends zero = start
start_of start ends (suc place) = slice_index ends place

-- the places rise from a start to the length of the text
abbrev pub AreEnds : ℕ → ℕ → List ℕ → Type 0
AreEnds size start [] = start ≡ size
AreEnds size start (end ∷ ends) = (start ≤ end) × AreEnds size end ends

-- each name is text
abbrev pub AreTexts : List Name → Type 0
AreTexts [] = ⊤
AreTexts (name ∷ names) = IsUtf8 name × AreTexts names
