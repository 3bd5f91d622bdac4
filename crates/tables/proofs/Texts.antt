-- The pieces of a text make the text.
use Rattle.std.proofs.Common.{◌≡◌, ◌∙◌, ◌<◌, ◌/◌, ◌%◌, ℕ, List, [], ◌++◌, ap, append-nil}
use Rattle.std.proofs.{Common.{append_assoc, arith, refl, subst}, lemmas.Fmt.decimal_digit}
use Rattle.std.specs.Prelude.{OnOk, Option, Result, Some, codes, decimal}
use Rattle.tables.specs.Summaries.{effort_text, inputs_of, seconds_text}

-- a time in seconds, from its digits, given as texts
pub seconds_pieces : (n : ℕ) (whole tenths hundredths thousandths : List ℕ)
    → whole ≡ decimal (n / 1000) → tenths ≡ decimal (n % 1000 / 100)
    → hundredths ≡ decimal (n % 1000 / 10 % 10) → thousandths ≡ decimal (n % 1000 % 10)
    → whole ++ (codes "." ++ (tenths ++ (hundredths ++ (thousandths ++ []))))
    ≡ seconds_text (Some n)
seconds_pieces n whole tenths hundredths thousandths e f g h =
    let first : n % 1000 / 100 < 10 = omega arith in
    let second : n % 1000 / 10 % 10 < 10 = omega arith in
    let third : n % 1000 % 10 < 10 = omega arith in
    rw (e, f, g, h, decimal_digit _ first, decimal_digit _ second, decimal_digit _ third) refl

-- the first members, from their pieces
pub inputs_pieces : (version proved model bench tests count : List ℕ)
    → codes "{\n\"version\":\"" ++ (version ++ (codes "\",\n\"proved\":" ++ (proved
    ++ (codes ",\n\"model\":\"" ++ (model ++ (codes "\",\n\"bench_sha256\":\"" ++ (bench
    ++ (codes "\",\n\"tests_sha256\":\"" ++ (tests ++ (codes "\",\n\"tests\":" ++ (count
    ++ []))))))))))) ≡ inputs_of version proved model bench tests count
inputs_pieces version proved model bench tests count = simp append-nil

regrouped : (a b c d e : List ℕ)
    → (a ++ (b ++ (c ++ []))) ++ (d ++ (e ++ [])) ≡ a ++ (b ++ (c ++ (d ++ e)))
regrouped a b c d e = simp (append-nil, append_assoc)

-- the number of workers, given as text, the time, and the end
pub effort_pieces : (workers : ℕ) (milliseconds : Option ℕ) (n : List ℕ) → n ≡ decimal workers
    → (codes ",\n\"workers\":" ++ (n ++ (codes ",\n\"seconds\":" ++ [])))
    ++ (seconds_text milliseconds ++ (codes "\n}\n" ++ [])) ≡ effort_text workers milliseconds
effort_pieces workers milliseconds n e =
    let begin = codes ",\n\"workers\":" in
    let middle = codes ",\n\"seconds\":" in
    let end = codes "\n}\n" in
    let seconds = seconds_text milliseconds in
    regrouped begin n middle seconds end ∙ ap (λ t. begin ++ (t ++ (middle ++ (seconds ++ end)))) e

-- equal texts are added in the same way
pub added_same : {E : Type 0} (r : Result (Unit {0}) E) (old new x y : List ℕ) → x ≡ y
    → OnOk r (new ≡ old ++ x) → OnOk r (new ≡ old ++ y)
added_same r old new x y e h = subst (λ t. OnOk r (new ≡ old ++ t)) e h

-- three parts of a text, added one after another
pub added_parts : {E : Type 0} (r : Result (Unit {0}) E) (old a b new x y z text : List ℕ)
    → a ≡ old ++ x → b ≡ a ++ y → x ++ (y ++ z) ≡ text → OnOk r (new ≡ b ++ z)
    → OnOk r (new ≡ old ++ text)
added_parts r old a b new x y z text e f g h =
    subst (λ t. OnOk r (new ≡ t)) (ap (λ t. t ++ z) (f ∙ ap (λ t. t ++ y) e)
    ∙ (append_assoc (old ++ x) y z ∙ (append_assoc old x (y ++ z) ∙ ap (λ t. old ++ t) g))) h

-- four parts of a text, added one after another
pub added_four : {E : Type 0} (r : Result (Unit {0}) E) (old s t u new a b c d : List ℕ)
    → s ≡ old ++ a → t ≡ s ++ b → u ≡ t ++ c → OnOk r (new ≡ u ++ d)
    → OnOk r (new ≡ old ++ ((a ++ b) ++ (c ++ d)))
added_four r old s t u new a b c d e f g h =
    let regroup : (((old ++ a) ++ b) ++ c) ++ d ≡ old ++ ((a ++ b) ++ (c ++ d)) =
    simp append_assoc in
    subst (λ t. OnOk r (new ≡ t)) (ap (λ t. t ++ d) (g ∙ ap (λ t. t ++ c) (f
    ∙ ap (λ t. t ++ b) e)) ∙ regroup) h

-- five parts of a text, one after another
pub five_parts : (s t u v w a b c d e : List ℕ) → s ≡ a → t ≡ s ++ b → u ≡ t ++ c → v ≡ u ++ d
    → w ≡ v ++ e → w ≡ a ++ (b ++ (c ++ (d ++ e)))
five_parts s t u v w a b c d e f g h i j =
    let regroup : (((a ++ b) ++ c) ++ d) ++ e ≡ a ++ (b ++ (c ++ (d ++ e))) = simp append_assoc in
    j ∙ (ap (λ l. l ++ e) (i ∙ ap (λ l. l ++ d) (h ∙ ap (λ l. l ++ c) (g ∙ ap (λ l. l ++ b) f)))
    ∙ regroup)
