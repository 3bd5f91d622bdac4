-- A part file is read in one way.
use Rattle.std.proofs.Common.{◌≡◌, ◌≢◌, ◌+◌, ◌==◌, ℕ, Bool, true, false, List, [], ◌∷◌, ◌++◌}
use Rattle.std.proofs.Common.{length, refl, sym, ap, inl, inr, ◌∙◌, append_assoc, append-nil, arith}
use Rattle.std.{proofs.Common.{subst, lit<}, specs.List.AllByRecursion}
use Rattle.std.specs.Prelude.{codes, decimal, zip, flat_map, count_by, Some, None, if◌then◌else◌}
use Rattle.std.proofs.lemmas.{List.append_cancel_left, Bool.{cases_Bool, eq-eqb}}
use Rattle.region_runs.specs.declared.parts.PartVerdict.{PartVerdict}
use Rattle.region_runs.specs.declared.parts.PartVerdict.TheVariants.{First, OtherPart}
use Rattle.part_files.specs.{Cut.Lacks, PartText.verdict_text}
use Rattle.part_files.specs.PartText.{PartHead, end_line, head_line, is_found, is_own, verdict_line}
use Rattle.part_files.specs.PartReading.{IsHead, IsLine, IsPart, IsVerdict, WordTexts, words_text}
use Rattle.part_files.proofs.CutTexts.{cut_last, cut_once, lacks_append}
use Rattle.part_files.proofs.PartWords.{bench_on, lacks_byte, lacks_decimal, next_field, rule_on}
use Rattle.part_files.proofs.PartHeads.{head_body, head_line_is, of_on, same_number, small_part}
use Rattle.part_files.proofs.PartHeads.{small_parts, words_in_head}
use Rattle.part_files.proofs.PartLines.{lacks_verdict, line_body, verdict_line_is}

-- the bytes that a literal text lacks can be computed
unfoldable pub lacks_test : ℕ → List ℕ → Bool
lacks_test byte [] = true
lacks_test byte (x ∷ xs) = if x == byte then false else lacks_test byte xs

pub lacks_literal : (byte : ℕ) (xs : List ℕ) → lacks_test byte xs ≡ true → Lacks byte xs
unfolding lacks_test
lacks_literal byte [] e = tt
lacks_literal byte (x ∷ xs) e = elim (cases_Bool (x == byte)) [
  | inl met ↦ let bad : false ≡ true = rw met at e in cc
  | inr other ↦ (
    (λ same. let bad : true ≡ false = sym (eq-eqb x byte same) ∙ other in cc),
    lacks_literal byte xs (rw other at e),
  )
]

-- a field that lacks a byte
field_without : (byte : ℕ) (name word rest : List ℕ) → Lacks byte name → Lacks byte word → 32 ≢ byte
    → Lacks byte rest → Lacks byte (name ++ (word ++ 32 ∷ rest))
field_without byte name word rest p q s r =
    lacks_append byte name _ p (lacks_append byte word (32 ∷ rest) q (s, r))

-- the first line is on one line
pub head_lacks : (h : PartHead) → IsHead h → Lacks 10 (head_body h)
unfolding lacks_test
head_lacks h ok =
    let blank : 32 ≢ 10 = λ e. omega (arith, e) in
    let tests = lacks_append 10 (codes "tests ") h.tests (lacks_literal 10 (codes "tests ") refl)
    ok.tests.one_line in
    let bench = field_without 10 (codes "bench ") h.bench _ (lacks_literal 10 (codes "bench ") refl)
    ok.bench.one_line blank tests in
    let rule = field_without 10 (codes "rule ") h.rule _ (lacks_literal 10 (codes "rule ") refl)
    ok.rule.one_line blank bench in
    let model = field_without 10 (codes "model ") h.model _ (lacks_literal 10 (codes "model ") refl)
    ok.model.one_line blank rule in
    let parts = field_without 10 (codes "of ") (decimal h.parts) _
    (lacks_literal 10 (codes "of ") refl) (lacks_decimal 10 h.parts (lit< tt)) blank model in
    field_without 10 (codes "part ") (decimal (h.part + 1)) _
    (lacks_literal 10 (codes "part ") refl) (lacks_decimal 10 (h.part + 1) (lit< tt)) blank parts

-- words belong to one first line
pub words_once : (w v : WordTexts) → (Lacks 32 w.model × Lacks 32 w.rule × Lacks 32 w.bench)
    → (Lacks 32 v.model × Lacks 32 v.rule × Lacks 32 v.bench)
    → words_text w ≡ words_text v → (w.model ≡ v.model) × (w.rule ≡ v.rule) × (w.bench ≡ v.bench)
    × (w.tests ≡ v.tests)
words_once w v p q e =
    let m = next_field (codes "model ") w.model (rule_on w) v.model (rule_on v)
    (words_text w) p.0 q.0 refl e in
    let r = next_field (codes "rule ") w.rule (bench_on w) v.rule (bench_on v)
    (rule_on w) p.1 q.1 refl m.1 in
    let b = next_field (codes "bench ") w.bench (codes "tests " ++ w.tests) v.bench (codes "tests "
    ++ v.tests) (bench_on w) p.2 q.2 refl r.1 in
    (m.0, r.0, b.0, append_cancel_left (codes "tests ") w.tests v.tests b.1)

made : ℕ → ℕ → List ℕ → List ℕ → List ℕ → List ℕ → PartHead
made a b c d e f = record { part = a; parts = b; model = c; rule = d; bench = e; tests = f }

made_is : (h : PartHead) → made h.part h.parts h.model h.rule h.bench h.tests ≡ h
unfolding made
made_is h = refl

same_head : (h k : PartHead) → h.part ≡ k.part → h.parts ≡ k.parts → h.model ≡ k.model
    → h.rule ≡ k.rule → h.bench ≡ k.bench → h.tests ≡ k.tests → h ≡ k
same_head h k a b c d e f = sym (made_is h) ∙ (rw (a, b, c, d, e, f) refl ∙ made_is k)

-- two texts that begin with a first line begin with the same one
pub head_once : (h k : PartHead) (rest more : List ℕ) → IsHead h → IsHead k
    → head_line h ++ rest ≡ head_line k ++ more → (h ≡ k) × (rest ≡ more)
head_once h k rest more p q e =
    let left : head_line h ++ rest ≡ head_body h ++ 10 ∷ rest =
    ap (λ l. l ++ rest) (sym (head_line_is h)) ∙ append_assoc (head_body h) (codes "\n") rest in
    let right : head_line k ++ more ≡ head_body k ++ 10 ∷ more =
    ap (λ l. l ++ more) (sym (head_line_is k)) ∙ append_assoc (head_body k) (codes "\n") more in
    let cut = cut_once 10 (head_body h) rest (head_body k) more (head_lacks h p) (head_lacks k q)
    (sym left ∙ (e ∙ right)) in
    let one = next_field (codes "part ") (decimal (h.part + 1)) (of_on h) (decimal (k.part + 1))
    (of_on k) (head_body h) (small_part h) (small_part k) refl cut.0 in
    let two = next_field (codes "of ") (decimal h.parts) (words_text (words_in_head h))
    (decimal k.parts) (words_text (words_in_head k)) (of_on h) (small_parts h)
    (small_parts k) refl one.1 in
    let words = words_once (words_in_head h) (words_in_head k) (
      p.model.no_space,
      p.rule.no_space,
      p.bench.no_space,
    ) (q.model.no_space, q.rule.no_space, q.bench.no_space) two.1 in
    let part : h.part + 1 ≡ k.part + 1 = same_number (h.part + 1) (k.part + 1)
    (decimal (h.part + 1)) (omega (arith, p.below, p.few)) (omega (
      arith,
      q.below,
      q.few,
    )) refl one.0 in
    let parts : h.parts ≡ k.parts = same_number h.parts k.parts (decimal h.parts) p.few q.few refl
    two.0 in
    (same_head h k (omega (arith, part)) parts words.0 words.1 words.2 words.3, cut.1)

-- a verdict is spelled in one way
not_none : (t : ℕ) → decimal t ≢ codes "none"
not_none t e = (subst (λ l. Lacks 110 l) e (lacks_byte 110 t (λ d h f. omega (arith, f)))).0 refl

not_dash : (t : ℕ) → decimal t ≢ codes "-"
not_dash t e = (subst (λ l. Lacks 45 l) e (lacks_byte 45 t (λ d h f. omega (arith, f)))).0 refl

none_dash : codes "none" ≢ codes "-"
none_dash e = let bad : length (codes "none") ≡ length (codes "-") = ap (λ l. length l) e in
    omega (arith, bad)

pub verdict_once : (v w : PartVerdict) → IsVerdict v → IsVerdict w → verdict_text v ≡ verdict_text w
    → v ≡ w
verdict_once (First (Some t)) (First (Some u)) p q e =
    ap (λ n. First (Some n)) (same_number t u (decimal t) p q refl e)
verdict_once (First (Some t)) (First None) p q e = absurd (not_none t e)
verdict_once (First (Some t)) OtherPart p q e = absurd (not_dash t e)
verdict_once (First None) (First (Some u)) p q e = absurd (not_none u (sym e))
verdict_once (First None) (First None) p q e = refl
verdict_once (First None) OtherPart p q e = absurd (none_dash e)
verdict_once OtherPart (First (Some u)) p q e = absurd (not_dash u (sym e))
verdict_once OtherPart (First None) p q e = absurd (none_dash (sym e))
verdict_once OtherPart OtherPart p q e = refl

-- two texts that begin with the line of a fault begin with the same one
pub line_lacks : (at : List ℕ × PartVerdict) → IsLine at → Lacks 10 (line_body at)
line_lacks at ok = lacks_append 10 at.0 _ ok.name.one_line (
  (λ e. omega (arith, e)),
  lacks_verdict 10 at.1 (lit< tt),
)

pub split_line : (at : List ℕ × PartVerdict) (rest : List ℕ)
    → verdict_line at ++ rest ≡ line_body at ++ 10 ∷ rest
split_line at rest = ap (λ l. l ++ rest) (sym (verdict_line_is at))
    ∙ append_assoc (line_body at) (codes "\n") rest

pair : List ℕ → PartVerdict → List ℕ × PartVerdict
pair name v = (name, v)

pair_is : (at : List ℕ × PartVerdict) → pair at.0 at.1 ≡ at
unfolding pair
pair_is at = refl

same_pair : (at to : List ℕ × PartVerdict) → at.0 ≡ to.0 → at.1 ≡ to.1 → at ≡ to
same_pair at to e f = sym (pair_is at) ∙ (rw (e, f) refl ∙ pair_is to)

pub line_once : (at to : List ℕ × PartVerdict) (rest more : List ℕ) → IsLine at → IsLine to
    → verdict_line at ++ rest ≡ verdict_line to ++ more → (at ≡ to) × (rest ≡ more)
line_once at to rest more p q e =
    let cut = cut_once 10 (line_body at) rest (line_body to) more (line_lacks at p)
    (line_lacks to q) (sym (split_line at rest) ∙ (e ∙ split_line to more)) in
    let parts = cut_last 32 at.0 (verdict_text at.1) to.0 (verdict_text to.1)
    (lacks_verdict 32 at.1 (lit< tt)) (lacks_verdict 32 to.1 (lit< tt)) cut.0 in
    (same_pair at to parts.0 (verdict_once at.1 to.1 p.verdict q.verdict parts.1), cut.1)

-- two bytes don't come first at one place
two_bytes : (a b : ℕ) (xs r ys s : List ℕ) → a ≢ b → Lacks b xs → Lacks a ys
    → xs ++ a ∷ r ≡ ys ++ b ∷ s → ⊥
two_bytes a b [] r [] s ne p q e = let same : a ≡ b = cc in ne same
two_bytes a b [] r (y ∷ ys) s ne p q e = let same : a ≡ y = cc in q.0 (sym same)
two_bytes a b (x ∷ xs) r [] s ne p q e = let same : x ≡ b = cc in p.0 same
two_bytes a b (x ∷ xs) r (y ∷ ys) s ne p q e = let tail : xs ++ a ∷ r ≡ ys ++ b ∷ s = cc in
    two_bytes a b xs r ys s ne p.1 q.1 tail

cons_head : {X : Type 0} (x y : X) (xs ys : List X) → x ∷ xs ≡ y ∷ ys → x ≡ y
cons_head x y xs ys e = cc

cons_tail : {X : Type 0} (x y : X) (xs ys : List X) → x ∷ xs ≡ y ∷ ys → xs ≡ ys
cons_tail x y xs ys e = cc

differs : (x y : ℕ) (xs ys : List ℕ) → (x == y) ≡ false → x ∷ xs ≢ y ∷ ys
differs x y xs ys other e = let bad : true ≡ false = sym (eq-eqb x y (cons_head x y xs ys e))
    ∙ other in cc

first_five : (a b c d f a' b' c' d' f' : ℕ) (xs ys name : List ℕ)
    → a ∷ b ∷ c ∷ d ∷ f ∷ xs ≡ a' ∷ b' ∷ c' ∷ d' ∷ f' ∷ ys
    → a ∷ b ∷ c ∷ d ∷ f ∷ name ≡ a' ∷ b' ∷ c' ∷ d' ∷ f' ∷ name
first_five a b c d f a' b' c' d' f' xs ys name e = cc

-- bytes before a space that don't begin as the last line does are the last line's first word, or
-- the texts differ
before_space : (name rest more : List ℕ) → name ++ 32 ∷ rest ≡ codes "part " ++ more
    → ((t : List ℕ) → name ≢ codes "part " ++ t) → rest ≡ more
before_space [] rest more e front = absurd (differs 32 112 _ _ refl e)
before_space (a ∷ []) rest more e front = absurd (differs 32 97 _ _ refl (cons_tail a 112 _ _ e))
before_space (a ∷ b ∷ []) rest more e front =
    absurd (differs 32 114 _ _ refl (cons_tail b 97 _ _ (cons_tail a 112 _ _ e)))
before_space (a ∷ b ∷ c ∷ []) rest more e front = absurd (differs 32 116 _ _ refl
    (cons_tail c 114 _ _ (cons_tail b 97 _ _ (cons_tail a 112 _ _ e))))
before_space (a ∷ b ∷ c ∷ d ∷ []) rest more e front = cc
before_space (a ∷ b ∷ c ∷ d ∷ f ∷ name) rest more e front =
    let is : a ∷ b ∷ c ∷ d ∷ f ∷ name ≡ codes "part "
    ++ name = first_five a b c d f 112 97 114 116 32 (name ++ 32 ∷ rest) more name e in
    absurd (front name is)

-- the line of a fault is no last line
pub not_end : (at : List ℕ × PartVerdict) (part parts found own : ℕ) (rest more : List ℕ)
    → IsLine at → verdict_line at ++ rest ≢ end_line part parts found own ++ more
not_end at part parts found own rest more ok e =
    let left : at.0 ++ 32 ∷ (verdict_text at.1 ++ 10 ∷ rest) ≡ verdict_line at
    ++ rest = simp append_assoc in
    let after : List ℕ = codes "of " ++ (decimal parts ++ (codes ": "
    ++ (decimal found ++ (codes " of " ++ (decimal own ++ 10 ∷ more))))) in
    let right : end_line part parts found own ++ more ≡ codes "part "
    ++ (decimal (part + 1) ++ 32 ∷ after) = simp append_assoc in
    let same = before_space at.0 _ _ (left ∙ (e ∙ right)) ok.name.no_end in
    two_bytes 10 32 (verdict_text at.1) rest (decimal (part + 1)) after (λ f. omega (arith, f))
    (lacks_verdict 32 at.1 (lit< tt)) (lacks_decimal 10 (part + 1) (lit< tt)) same

-- the lines of faults up to a last line are read in one way
pub lines_once : (ps qs : List (List ℕ × PartVerdict)) (part parts a b c d : ℕ) (rest more : List ℕ)
    → AllByRecursion IsLine ps → AllByRecursion IsLine qs
    → flat_map verdict_line ps ++ (end_line part parts a b ++ rest) ≡ flat_map verdict_line qs
    ++ (end_line part parts c d ++ more) → ps ≡ qs
lines_once [] [] part parts a b c d rest more p q e = refl
lines_once [] (y ∷ qs) part parts a b c d rest more p q e =
    absurd (not_end y part parts a b _ rest q.0
    (sym (append_assoc (verdict_line y) (flat_map verdict_line qs) (end_line part parts c d
    ++ more)) ∙ sym e))
lines_once (x ∷ ps) [] part parts a b c d rest more p q e =
    absurd (not_end x part parts c d _ more p.0
    (sym (append_assoc (verdict_line x) (flat_map verdict_line ps) (end_line part parts a b
    ++ rest)) ∙ e))
lines_once (x ∷ ps) (y ∷ qs) part parts a b c d rest more p q e =
    let one = line_once x y _ _ p.0 q.0
    (sym (append_assoc (verdict_line x) (flat_map verdict_line ps) (end_line part parts a b
    ++ rest))
    ∙ (e ∙ append_assoc (verdict_line y) (flat_map verdict_line qs) (end_line part parts c d
    ++ more))) in
    rw (one.0, lines_once ps qs part parts a b c d rest more p.1 q.1 one.1) refl

-- equal zipped lists have equal parts
pub zip_once : {X Y : Type 0} (xs us : List X) (ys vs : List Y) → length xs ≡ length ys
    → length us ≡ length vs → zip xs ys ≡ zip us vs → (xs ≡ us) × (ys ≡ vs)
zip_once [] [] [] [] p q e = (refl, refl)
zip_once [] us (y ∷ ys) vs p q e = absurd (omega (arith, p))
zip_once (x ∷ xs) us [] vs p q e = absurd (omega (arith, p))
zip_once xs [] ys (v ∷ vs) p q e = absurd (omega (arith, q))
zip_once xs (u ∷ us) ys [] p q e = absurd (omega (arith, q))
zip_once [] (u ∷ us) [] (v ∷ vs) p q e = absurd (omega (arith, ap (λ l. length l) e))
zip_once (x ∷ xs) [] (y ∷ ys) [] p q e = absurd (omega (arith, ap (λ l. length l) e))
zip_once {X} {Y} (x ∷ xs) (u ∷ us) (y ∷ ys) (v ∷ vs) p q e =
    let at : X × Y = (x, y) in
    let to : X × Y = (u, v) in
    let head : at ≡ to = cons_head at to (zip xs ys) (zip us vs) e in
    let one : x ≡ u = ap (λ (t : X × Y). t.0) head in
    let two : y ≡ v = ap (λ (t : X × Y). t.1) head in
    let rest = zip_once xs us ys vs (omega (arith, p)) (omega (arith, q))
    (cons_tail at to (zip xs ys) (zip us vs) e) in
    (rw (one, rest.0) refl, rw (two, rest.1) refl)

-- a part file has one first line, one list of faults and one list of verdicts
pub one_part : (text : List ℕ) (h k : PartHead) (faults others : List (List ℕ))
    (verdicts more : List PartVerdict)
    → IsPart text h faults verdicts → IsPart text k others more → (h ≡ k) × (faults ≡ others)
    × (verdicts ≡ more)
one_part text h k faults others verdicts more p q =
    let head = head_once h k _ _ p.head q.head (sym p.whole ∙ q.whole) in
    let a : ℕ = count_by is_found verdicts in
    let b : ℕ = count_by is_own verdicts in
    let c : ℕ = count_by is_found more in
    let d : ℕ = count_by is_own more in
    let ps : List ℕ = flat_map verdict_line (zip faults verdicts) in
    let qs : List ℕ = flat_map verdict_line (zip others more) in
    let left : ps ++ (end_line h.part h.parts a b ++ []) ≡ ps ++ end_line h.part h.parts a b =
    ap (λ l. ps ++ l) (append-nil _) in
    let right : qs ++ (end_line h.part h.parts c d ++ []) ≡ qs ++ end_line h.part h.parts c d =
    ap (λ l. qs ++ l) (append-nil _) in
    let other : qs ++ end_line k.part k.parts c d ≡ qs ++ end_line h.part h.parts c d =
    ap (λ (g : PartHead). qs ++ end_line g.part g.parts c d) (sym head.0) in
    let pairs = lines_once (zip faults verdicts) (zip others more) h.part h.parts a b c d [] []
    p.lines.each q.lines.each (left ∙ (head.1 ∙ (other ∙ sym right))) in
    let lists = zip_once faults others verdicts more p.lines.same q.lines.same pairs in
    (head.0, lists.0, lists.1)
