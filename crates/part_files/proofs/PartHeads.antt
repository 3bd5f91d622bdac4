-- The first line of a part file.
use Rattle.std.proofs.Common.{◌≡◌, ◌≢◌, ◌<◌, ◌^◌, ◌+◌, ℕ, List, ◌∷◌, ◌++◌, refl, sym, ap, ◌∙◌}
use Rattle.std.{proofs.Common.{append_assoc, arith, lit<}, specs.Prelude.{codes, decimal, length}}
use Rattle.std.proofs.lemmas.{List.append_cancel_right, Fmt.{decimal_injective, decimal_nonempty}}
use Rattle.part_files.specs.{Cut.Lacks, PartText.{PartHead, head_line}}
use Rattle.part_files.specs.PartReading.{AreWords, IsHead, WordTexts, words_text}
use Rattle.part_files.proofs.PartWords.{lacks_decimal, next_field}

-- a number is spelled in one way
pub same_number : (m n : ℕ) (word : List ℕ) → m < 2 ^ 32 → n < 2 ^ 32 → word ≡ decimal m
    → word ≡ decimal n → m ≡ n
same_number m n word p q e f =
    let more : 2 ^ 32 < 2 ^ 64 = lit< tt in
    decimal_injective m n (omega (arith, p, more)) (omega (arith, q, more)) (sym e ∙ f)

-- the words of a first line from the model on
abbrev pub words_in_head : PartHead → WordTexts
words_in_head h = record { model = h.model; rule = h.rule; bench = h.bench; tests = h.tests }

-- the first line without its line feed, and from the number of parts on
abbrev pub of_on : PartHead → List ℕ
of_on h = codes "of " ++ (decimal h.parts ++ 32 ∷ words_text (words_in_head h))

abbrev pub head_body : PartHead → List ℕ
head_body h = codes "part " ++ (decimal (h.part + 1) ++ 32 ∷ of_on h)

pub head_line_is : (h : PartHead) → head_body h ++ codes "\n" ≡ head_line h
head_line_is h = simp append_assoc

pub are_words : (h : PartHead) → IsHead h → AreWords (words_in_head h)
are_words h ok = record { model = ok.model; rule = ok.rule; bench = ok.bench; tests = ok.tests }

pub body_of : (h : PartHead) (line : List ℕ) → line ++ codes "\n" ≡ head_line h → line ≡ head_body h
body_of h line e = append_cancel_right line (head_body h) (codes "\n") (e ∙ sym (head_line_is h))

-- its numbers have no space
pub small_part : (h : PartHead) → Lacks 32 (decimal (h.part + 1))
small_part h = lacks_decimal 32 (h.part + 1) (lit< tt)

pub small_parts : (h : PartHead) → Lacks 32 (decimal h.parts)
small_parts h = lacks_decimal 32 h.parts (lit< tt)

-- the fields of a first line that was given without its line feed
pub first_field : (h : PartHead) (line word rest : List ℕ) → IsHead h
    → line ++ codes "\n" ≡ head_line h → Lacks 32 word
    → line ≡ codes "part " ++ (word ++ 32 ∷ rest) → (word ≡ decimal (h.part + 1)) × (rest ≡ of_on h)
first_field h line word rest ok e lacks f =
    next_field (codes "part ") word rest (decimal (h.part + 1)) (of_on h) line lacks
    (small_part h) f (body_of h line e)

pub second_field : (h : PartHead) (text word rest : List ℕ) → IsHead h → text ≡ of_on h
    → Lacks 32 word → text ≡ codes "of " ++ (word ++ 32 ∷ rest) → (word ≡ decimal h.parts)
    × (rest ≡ words_text (words_in_head h))
second_field h text word rest ok e lacks f = next_field (codes "of ") word rest (decimal h.parts)
    (words_text (words_in_head h)) text lacks (small_parts h) f e

pub no_first : (h : PartHead) (line : List ℕ) → IsHead h
    → ((word rest : List ℕ) → 0 < length word → Lacks 32 word
    → line ≢ codes "part " ++ (word ++ 32 ∷ rest)) → line ++ codes "\n" ≢ head_line h
no_first h line ok none e = let more : 2 ^ 32 < 2 ^ 64 = lit< tt in
    none (decimal (h.part + 1)) (of_on h)
    (decimal_nonempty (h.part + 1) (omega (arith, ok.below, ok.few, more))) (small_part h)
    (body_of h line e)

pub no_second : (h : PartHead) (text : List ℕ) → IsHead h
    → ((word rest : List ℕ) → 0 < length word → Lacks 32 word
    → text ≢ codes "of " ++ (word ++ 32 ∷ rest)) → text ≢ of_on h
no_second h text ok none e = let more : 2 ^ 32 < 2 ^ 64 = lit< tt in
    none (decimal h.parts) (words_text (words_in_head h))
    (decimal_nonempty h.parts (omega (arith, ok.few, more))) (small_parts h) e

-- the first line that was read
pub head_read : (h : PartHead) (line r1 r2 part parts : List ℕ) → h.part < h.parts
    → h.parts < 2 ^ 32 → AreWords (words_in_head h)
    → line ≡ codes "part " ++ (part ++ 32 ∷ r1) → r1 ≡ codes "of " ++ (parts ++ 32 ∷ r2)
    → r2 ≡ words_text (words_in_head h) → part ≡ decimal (h.part + 1) → parts ≡ decimal h.parts
    → IsHead h × (line ++ codes "\n" ≡ head_line h)
head_read h line r1 r2 part parts below few words e1 e2 e3 p q =
    let body : line ≡ head_body h = e1 ∙ rw (p, e2, q, e3) refl in (
      record {
        below = below;
        few = few;
        model = words.model;
        rule = words.rule;
        bench = words.bench;
        tests = words.tests;
      },
      ap (λ l. l ++ codes "\n") body ∙ head_line_is h,
    )
