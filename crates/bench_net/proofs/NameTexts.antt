-- Names that are put into one text, and taken out of it.
use Rattle.std.proofs.Common.{◌≡◌, ◌<◌, ◌≤◌, ◌-◌, ◌+◌, ℕ, zero, suc, refl, sym, ap, List, [], ◌∷◌}
use Rattle.std.{proofs.Common.{◌++◌, take, drop, length, length-drop, arith}, specs.Str.IsUtf8}
use Rattle.std.specs.Prelude.{Some, slice_get, slice_index}
use Rattle.std.proofs.lemmas.List.{drop-append-le, take-append-le, take_all}
use Rattle.bench_net.specs.{Statement.Name, NameText.{cut_names, start_of, AreEnds, AreTexts}}

-- a start is no greater than the length of the text
pub start_within : (size start : ℕ) (ends : List ℕ) → AreEnds size start ends → start ≤ size
start_within size start [] h = omega (arith, h)
start_within size start (end ∷ ends) h =
    let rest = start_within size end ends h.1 in
    let low = h.0 in
    omega arith

-- one more end
pub ends_more : (size next start : ℕ) (ends : List ℕ) → AreEnds size start ends → size ≤ next
    → AreEnds next start (ends ++ next ∷ [])
ends_more size next start [] h more = (omega (arith, h, more), refl)
ends_more size next start (end ∷ ends) h more = (h.0, ends_more size next end ends h.1 more)

-- the last bytes of a text
last_bytes : (text more : List ℕ) → drop (length text) (text ++ more) ≡ more
last_bytes [] more = refl
last_bytes (b ∷ text) more = last_bytes text more

-- one more name
pub names_more : (text more : List ℕ) (start next : ℕ) (ends : List ℕ)
    → AreEnds (length text) start ends → next ≡ length text + length more
    → cut_names (text ++ more) start (ends ++ next ∷ []) ≡ cut_names text start ends ++ more ∷ []
names_more text more start next [] h is =
    let all : length more ≤ next - length text = omega (arith, is) in
    rw (h, last_bytes text more, take_all (next - length text) more all) refl
names_more text more start next (end ∷ ends) h is =
    let up = start_within (length text) end ends h.1 in
    let low = h.0 in
    let at : start ≤ length text = omega arith in
    let size = length-drop start text in
    let fits : end - start ≤ length (drop start text) = omega arith in
    let head : take (end - start) (drop start (text ++ more))
    ≡ take (end - start) (drop start text) =
    rw (drop-append-le start text more at, take-append-le (end - start) (drop start text) more fits)
    refl in
    rw (head, names_more text more end next ends h.1 is) refl

-- one more name is text
pub texts_more : (names : List Name) (name : Name) → AreTexts names → IsUtf8 name
    → AreTexts (names ++ name ∷ [])
texts_more [] name h is = (is, tt)
texts_more (n ∷ names) name h is = (h.0, texts_more names name h.1 is)

-- a name for each end
pub name_count : (text : List ℕ) (start : ℕ) (ends : List ℕ)
    → length (cut_names text start ends) ≡ length ends
name_count text start [] = refl
name_count text start (end ∷ ends) = ap suc (name_count text end ends)

-- the name at a place, from its start to its end
pub name_cut : (text : List ℕ) (start : ℕ) (ends : List ℕ) (place : ℕ) → place < length ends
    → slice_get (cut_names text start ends) place
    ≡ Some (take (slice_index ends place - start_of start ends place)
    (drop (start_of start ends place) text))
name_cut text start [] place lt = absurd (omega (arith, lt))
name_cut text start (end ∷ ends) zero lt = refl
name_cut text start (end ∷ ends) (suc zero) lt = name_cut text end ends zero (omega (arith, lt))
name_cut text start (end ∷ ends) (suc (suc place)) lt =
    name_cut text end ends (suc place) (omega (arith, lt))

-- the start and the end of a name are within the text
pub name_within : (size start : ℕ) (ends : List ℕ) (place : ℕ) → AreEnds size start ends
    → place < length ends
    → (start_of start ends place ≤ slice_index ends place) × (slice_index ends place ≤ size)
name_within size start [] place h lt = absurd (omega (arith, lt))
name_within size start (end ∷ ends) zero h lt = (h.0, start_within size end ends h.1)
name_within size start (end ∷ ends) (suc zero) h lt =
    name_within size end ends zero h.1 (omega (arith, lt))
name_within size start (end ∷ ends) (suc (suc place)) h lt =
    name_within size end ends (suc place) h.1 (omega (arith, lt))

-- the name at a place is text
pub text_at : (names : List Name) (place : ℕ) (name : Name) → AreTexts names
    → slice_get names place ≡ Some name → IsUtf8 name
text_at [] place name h is = cc
text_at (n ∷ names) zero name h is = let same : n ≡ name = cc in rw (sym same) h.0
text_at (n ∷ names) (suc place) name h is = text_at names place name h.1 is
