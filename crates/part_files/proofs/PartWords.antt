-- The words of a part file's first line.
use Rattle.std.proofs.Common.{◌≡◌, ◌≢◌, ◌<◌, ◌^◌, ◌+◌, ◌/◌, ◌%◌, ◌==◌, ℕ, zero, suc, Bool, true}
use Rattle.std.proofs.Common.{false, List, [], ◌∷◌, ◌++◌, refl, sym, ap, ◌∙◌, arith, subst, lit<}
use Rattle.std.{specs.Prelude.{codes, decimal, if◌then◌else◌, length}, proofs.Math.Dec.eqb}
use Rattle.std.specs.{Fmt.{digit_glyph, digits, digits_onto}, Str.IsUtf8}
use Rattle.std.proofs.lemmas.{Bool.Decides.{Decides-eqb, nat_tests}, Fmt.IsAscii-decimal}
use Rattle.std.proofs.lemmas.{Str.IsUtf8-from_ascii, List.append_cancel_left}
use lib.Pointwise.{pointwise, pointwise_decides}
use Rattle.part_files.specs.{Cut.{IsCutFirst, Lacks}, PartReading.{AreWords, WordTexts, words_text}}
use Rattle.part_files.proofs.CutTexts.{cut_once, lacks_left, lacks_right, lacks_not}

-- a number of any size has only digits
glyph_is : (d : ℕ) → d < 10 → digit_glyph false d ≡ 48 + d
glyph_is d h = grind (arith, nat_tests)

lacks_onto : (byte k n : ℕ) (acc : List ℕ) → ((d : ℕ) → d < 10 → 48 + d ≢ byte) → Lacks byte acc
    → Lacks byte (digits_onto k 10 false n acc)
lacks_onto byte zero n acc other lacks = lacks
lacks_onto byte (suc k) n acc other lacks = go glyph
    (lacks_onto byte k (n / 10) (digit_glyph false (n % 10) ∷ acc) other (glyph, lacks))
    (n / 10 == 0)
  where
    glyph : digit_glyph false (n % 10) ≢ byte
    glyph e =
        let small : n % 10 < 10 = omega arith in
        other (n % 10) small (sym (glyph_is (n % 10) small) ∙ e)

    go : digit_glyph false (n % 10) ≢ byte
        → Lacks byte (digits_onto k 10 false (n / 10) (digit_glyph false (n % 10) ∷ acc))
        → (t : Bool) → Lacks byte (if t then digit_glyph false (n % 10) ∷ acc
        else digits_onto k 10 false (n / 10) (digit_glyph false (n % 10) ∷ acc))
    go last more true = (last, lacks)
    go last more false = more

digits_onto_none : (n : ℕ) → digits_onto 64 10 false n [] ≡ decimal n
unfolding digits
digits_onto_none n = refl

pub lacks_byte : (byte n : ℕ) → ((d : ℕ) → d < 10 → 48 + d ≢ byte) → Lacks byte (decimal n)
lacks_byte byte n other =
    subst (λ ds. Lacks byte ds) (digits_onto_none n) (lacks_onto byte 64 n [] other tt)

pub lacks_decimal : (byte n : ℕ) → byte < 48 → Lacks byte (decimal n)
lacks_decimal byte n low = lacks_byte byte n (λ d h e. omega (arith, e))

pub not_utf8 : (word : List ℕ) (n : ℕ) → n < 2 ^ 32 → word ≡ decimal n → (IsUtf8 word → ⊥) → ⊥
not_utf8 word n small e bad = bad (subst (λ w. IsUtf8 w) (sym e)
    (IsUtf8-from_ascii _ (IsAscii-decimal n (omega (
      arith,
      small,
      lit< {m = 2 ^ 32} {n = 2 ^ 64} tt,
    )))))

-- texts that compare as different are
pub differs : (s t : List ℕ) → s ≡ t → pointwise eqb s t ≡ false → ⊥
differs s t e bad = let yes = (pointwise_decides Decides-eqb s t).1 e in
    let both : true ≡ false = sym yes ∙ bad in cc

-- two readings of a field are one
pub next_field : (name word rest other more text : List ℕ) → Lacks 32 word → Lacks 32 other
    → text ≡ name ++ (word ++ 32 ∷ rest)
    → text ≡ name ++ (other ++ 32 ∷ more) → (word ≡ other) × (rest ≡ more)
next_field name word rest other more text p q e f =
    cut_once 32 word rest other more p q (append_cancel_left name _ _ (sym e ∙ f))

pub field_lacks : (byte : ℕ) (name word rest text : List ℕ) → Lacks byte text
    → text ≡ name ++ (word ++ 32 ∷ rest) → Lacks byte word × Lacks byte rest
field_lacks byte name word rest text lacks e =
    let behind = lacks_right byte name (word ++ 32 ∷ rest) (subst (λ t. Lacks byte t) e lacks) in
    (lacks_left byte word _ behind, (lacks_right byte word (32 ∷ rest) behind).1)

-- a text without a space after the name of a field has no such field
pub no_field : (name text rest : List ℕ) → text ≡ name ++ rest → Lacks 32 rest
    → (word more : List ℕ) → 0 < length word → Lacks 32 word → text ≢ name ++ (word ++ 32 ∷ more)
no_field name text rest e lacks word more _ _ f =
    lacks_not 32 word more (subst (λ t. Lacks 32 t) (append_cancel_left name _ _ (sym e ∙ f)) lacks)

-- nor has one whose word there is empty
pub empty_field : (name text rest before after : List ℕ) → text ≡ name ++ rest
    → IsCutFirst 32 rest before after → length before ≡ 0
    → (word more : List ℕ) → 0 < length word → Lacks 32 word → text ≢ name ++ (word ++ 32 ∷ more)
empty_field name text rest before after e is none word more some lacks f =
    let same = (next_field name before after word more text is.first lacks
    (e ∙ ap (λ t. name ++ t) is.whole) f).0 in
    let long : length before ≡ length word = ap length same in
    absurd (omega (arith, none, some, long))

-- the first line from its rule on, from its first sum on, and from its second
abbrev pub rule_on : WordTexts → List ℕ
rule_on w = codes "rule " ++ (w.rule
    ++ 32 ∷ (codes "bench " ++ (w.bench ++ 32 ∷ (codes "tests " ++ w.tests))))

abbrev pub bench_on : WordTexts → List ℕ
bench_on w = codes "bench " ++ (w.bench ++ 32 ∷ (codes "tests " ++ w.tests))

-- the words that were read are the words of the line
pub after_model : (w : WordTexts) (text model rest : List ℕ) → AreWords w → text ≡ words_text w
    → Lacks 32 model → text ≡ codes "model " ++ (model ++ 32 ∷ rest) → rest ≡ rule_on w
after_model w text model rest ok e lacks f =
    (next_field (codes "model ") model rest w.model (rule_on w) text lacks ok.model.no_space f e).1

pub after_rule : (w : WordTexts) (text rule rest : List ℕ) → AreWords w → text ≡ rule_on w
    → Lacks 32 rule → text ≡ codes "rule " ++ (rule ++ 32 ∷ rest) → rest ≡ bench_on w
after_rule w text rule rest ok e lacks f =
    (next_field (codes "rule ") rule rest w.rule (bench_on w) text lacks ok.rule.no_space f e).1

pub after_bench : (w : WordTexts) (text bench rest : List ℕ) → AreWords w → text ≡ bench_on w
    → Lacks 32 bench
    → text ≡ codes "bench " ++ (bench ++ 32 ∷ rest) → rest ≡ codes "tests " ++ w.tests
after_bench w text bench rest ok e lacks f =
    (next_field (codes "bench ") bench rest w.bench (codes "tests "
    ++ w.tests) text lacks ok.bench.no_space f e).1

pub words_read : (w : WordTexts) (text r1 r2 r3 : List ℕ) → Lacks 10 text
    → (0 < length w.model) × Lacks 32 w.model × (text ≡ codes "model " ++ (w.model ++ 32 ∷ r1))
    → (0 < length w.rule) × Lacks 32 w.rule × (r1 ≡ codes "rule " ++ (w.rule ++ 32 ∷ r2))
    → (0 < length w.bench) × Lacks 32 w.bench × (r2 ≡ codes "bench " ++ (w.bench ++ 32 ∷ r3))
    → r3 ≡ codes "tests " ++ w.tests → 0 < length w.tests → Lacks 32 w.tests
    → AreWords w × (text ≡ words_text w)
words_read w text r1 r2 r3 line m r b t some last =
    let p1 = field_lacks 10 (codes "model ") w.model r1 text line m.2 in
    let p2 = field_lacks 10 (codes "rule ") w.rule r2 r1 p1.1 r.2 in
    let p3 = field_lacks 10 (codes "bench ") w.bench r3 r2 p2.1 b.2 in
    let p4 = lacks_right 10 (codes "tests ") w.tests (subst (λ l. Lacks 10 l) t p3.1) in (
      record {
        model = record { some = m.0; no_space = m.1; one_line = p1.0 };
        rule = record { some = r.0; no_space = r.1; one_line = p2.0 };
        bench = record { some = b.0; no_space = b.1; one_line = p3.0 };
        tests = record { some = some; no_space = last; one_line = p4 };
      },
      m.2 ∙ ap (λ l. codes "model " ++ (w.model ++ 32 ∷ l)) (r.2
          ∙ ap (λ l. codes "rule " ++ (w.rule ++ 32 ∷ l)) (b.2
          ∙ ap (λ l. codes "bench " ++ (w.bench ++ 32 ∷ l)) t)),
    )
