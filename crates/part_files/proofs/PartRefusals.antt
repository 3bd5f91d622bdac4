-- The only error of reading a part file is refused memory.
use Rattle.std.proofs.Common.{◌≡◌, ◌+◌, ℕ, List, [], ◌∷◌, ◌++◌, length, refl, sym, ap, ◌∙◌, inl}
use Rattle.std.proofs.Common.{inr, append_assoc, append-nil, length-append, arith, subst, lit<}
use Rattle.std.specs.Prelude.{codes, decimal, zip, flat_map, count_by, Result, Ok, Err, IfOk, IfErr}
use Rattle.std.specs.{Prelude.MatchResult, List.AllByRecursion}
use Rattle.std.proofs.lemmas.List.{append_cancel_left}
use Rattle.region_runs.specs.declared.parts.PartVerdict.{PartVerdict}
use Rattle.part_files.specs.declared.part_reader.{PartText.PartText as Read, PartFault.PartFault}
use Rattle.part_files.specs.declared.part_reader.PartFault.TheVariants.{NotAPart, CutOff, Memory}
use Rattle.part_files.{specs.Cut.Lacks, proofs.CutTexts.{cut_once, lacks_append, lacks_not}}
use Rattle.part_files.specs.PartText.{PartHead, end_line, head_line, is_found, is_own, verdict_line}
use Rattle.part_files.specs.PartReading.{HasMore, IsBadHead, IsBadLine, IsCutLines, IsLine, IsBegun}
use Rattle.part_files.specs.PartReading.{IsPart, IsPartRefusal, end_of, head_in, texts_in}
use Rattle.part_files.proofs.{PartWords.lacks_decimal, PartHeads.{head_body, head_line_is}}
use Rattle.part_files.proofs.PartLines.{line_body, verdict_line_is}
use Rattle.part_files.proofs.OnePartText.{head_lacks, head_once, lacks_literal, lacks_test}
use Rattle.part_files.proofs.OnePartText.{line_lacks, line_once, lines_once, not_end, one_part}
use Rattle.part_files.proofs.OnePartText.{split_line, zip_once}

-- the last line without its line feed
abbrev end_body : ℕ → ℕ → ℕ → ℕ → List ℕ
end_body part parts found own = codes "part " ++ (decimal (part + 1) ++ (codes " of "
    ++ (decimal parts ++ (codes ": " ++ (decimal found ++ (codes " of " ++ decimal own))))))

end_line_is : (part parts found own : ℕ) → end_body part parts found own
    ++ codes "\n" ≡ end_line part parts found own
end_line_is part parts found own = simp append_assoc

end_lacks : (part parts found own : ℕ) → Lacks 10 (end_body part parts found own)
unfolding lacks_test
end_lacks part parts found own =
    let d4 = lacks_append 10 (codes " of ") _ (lacks_literal 10 (codes " of ") refl)
    (lacks_decimal 10 own (lit< tt)) in
    let d3 = lacks_append 10 (codes ": ") _ (lacks_literal 10 (codes ": ") refl)
    (lacks_append 10 (decimal found) _ (lacks_decimal 10 found (lit< tt)) d4) in
    let d2 = lacks_append 10 (codes " of ") _ (lacks_literal 10 (codes " of ") refl)
    (lacks_append 10 (decimal parts) _ (lacks_decimal 10 parts (lit< tt)) d3) in
    lacks_append 10 (codes "part ") _ (lacks_literal 10 (codes "part ") refl)
    (lacks_append 10 (decimal (part + 1)) _ (lacks_decimal 10 (part + 1) (lit< tt)) d2)

same_cons : {X : Type 0} {x y : X} {xs ys : List X} → x ≡ y → xs ≡ ys → x ∷ xs ≡ y ∷ ys
same_cons e f = rw (e, f) refl

-- after some lines of faults come the others
pub rest_of : (ps qs : List (List ℕ × PartVerdict)) (part parts a b : ℕ) (r : List ℕ)
    → AllByRecursion IsLine ps → AllByRecursion IsLine qs
    → flat_map verdict_line ps ++ end_line part parts a b ≡ flat_map verdict_line qs ++ r
    → (more : List (List ℕ × PartVerdict)) × (ps ≡ qs ++ more) × AllByRecursion IsLine more
    × (flat_map verdict_line more ++ end_line part parts a b ≡ r)
rest_of ps [] part parts a b r p q e = (ps, refl, p, e)
rest_of [] (y ∷ qs) part parts a b r p q e =
    absurd (not_end y part parts a b (flat_map verdict_line qs ++ r) [] q.0
    (sym (append_assoc (verdict_line y) (flat_map verdict_line qs) r)
    ∙ (sym e ∙ sym (append-nil (end_line part parts a b)))))
rest_of (x ∷ ps) (y ∷ qs) part parts a b r p q e =
    let one = line_once x y _ _ p.0 q.0
    (sym (append_assoc (verdict_line x) (flat_map verdict_line ps) (end_line part parts a b))
    ∙ (e ∙ append_assoc (verdict_line y) (flat_map verdict_line qs) r)) in
    let rest = rest_of ps qs part parts a b r p.1 q.1 one.1 in
    (rest.0, same_cons one.0 rest.1, rest.2, rest.3)

-- no line of it is bad
not_bad_head : (text : List ℕ) (h : PartHead) (faults : List (List ℕ)) (verdicts : List PartVerdict)
    → IsPart text h faults verdicts → IsBadHead text → ⊥
not_bad_head text h faults verdicts p bad =
    let rest : List ℕ = flat_map verdict_line (zip faults verdicts) ++ end_of h verdicts in
    let left : head_line h ++ rest ≡ head_body h ++ 10 ∷ rest =
    ap (λ l. l ++ rest) (sym (head_line_is h)) ∙ append_assoc (head_body h) (codes "\n") rest in
    let cut = cut_once 10 (head_body h) rest bad.line bad.more (head_lacks h p.head) bad.one_line
    (sym left ∙ (sym p.whole ∙ bad.whole)) in
    bad.bad h p.head (ap (λ l. l ++ codes "\n") (sym cut.0) ∙ head_line_is h)

lacks_no_line : (text : List ℕ) (h : PartHead) (faults : List (List ℕ))
    (verdicts : List PartVerdict) → IsPart text h faults verdicts → Lacks 10 text → ⊥
lacks_no_line text h faults verdicts p lacks =
    let rest : List ℕ = flat_map verdict_line (zip faults verdicts) ++ end_of h verdicts in
    let left : head_line h ++ rest ≡ head_body h ++ 10 ∷ rest =
    ap (λ l. l ++ rest) (sym (head_line_is h)) ∙ append_assoc (head_body h) (codes "\n") rest in
    lacks_not 10 (head_body h) rest (subst (λ l. Lacks 10 l) (p.whole ∙ left) lacks)

-- a beginning of the same file: the same first line, and some of the lines
record Shared (h k : PartHead) (ps qs : List (List ℕ × PartVerdict)) (last r : List ℕ) : Type 0
  where
    pub head : h ≡ k
    pub more : List (List ℕ × PartVerdict)
    pub lines : ps ≡ qs ++ more
    pub each : AllByRecursion IsLine more
    pub rest : flat_map verdict_line more ++ last ≡ r

shared : (text : List ℕ) (h k : PartHead) (faults others : List (List ℕ))
    (verdicts ws : List PartVerdict) (r : List ℕ)
    → IsPart text h faults verdicts → IsBegun text k others ws r
    → Shared h k (zip faults verdicts) (zip others ws) (end_of h verdicts) r
shared text h k faults others verdicts ws r p q =
    let head = head_once h k _ _ p.head q.head (sym p.whole ∙ q.whole) in
    let rest = rest_of (zip faults verdicts) (zip others ws) h.part h.parts
    (count_by is_found verdicts) (count_by is_own verdicts) r p.lines.each q.lines.each head.1 in
    record { head = head.0; more = rest.0; lines = rest.1; each = rest.2; rest = rest.3 }

same_end : (h k : PartHead) (vs ws : List PartVerdict) → h ≡ k → vs ≡ ws → end_of h vs ≡ end_of k ws
same_end h k vs ws e f = ap (λ (g : PartHead). end_of g vs) e ∙ ap (λ l. end_of k l) f

not_bad_line : (text : List ℕ) (h : PartHead) (faults : List (List ℕ)) (verdicts : List PartVerdict)
    (count : ℕ) → IsPart text h faults verdicts → IsBadLine text count → ⊥
not_bad_line text h faults verdicts count p b =
    bad_rest (shared text h b.head faults b.faults verdicts b.verdicts _ p b.begun)
  where
    bad_rest : Shared h b.head (zip faults verdicts) (zip b.faults b.verdicts) (end_of h verdicts)
        (b.line ++ 10 ∷ b.more) → ⊥
    bad_rest s = tail_bad s.more s.lines s.each s.rest
      where
        tail_bad : (more : List (List ℕ × PartVerdict))
            → zip faults verdicts ≡ zip b.faults b.verdicts ++ more → AllByRecursion IsLine more
            → flat_map verdict_line more ++ end_of h verdicts ≡ b.line ++ 10 ∷ b.more → ⊥
        tail_bad [] same each e =
            let lists = zip_once faults b.faults verdicts b.verdicts p.lines.same b.begun.lines.same
            (same ∙ append-nil _) in
            let cut = cut_once 10 (end_body h.part h.parts (count_by is_found verdicts)
            (count_by is_own verdicts)) [] b.line b.more
            (end_lacks h.part h.parts _ _) b.one_line (end_line_is h.part h.parts _ _ ∙ e) in
            b.no_end (ap (λ l. l ++ codes "\n") (sym cut.0) ∙ (end_line_is h.part h.parts _ _
            ∙ same_end h b.head verdicts b.verdicts s.head lists.1))
        tail_bad (x ∷ more) same each e =
            let cut = cut_once 10 (line_body x) _ b.line b.more (line_lacks x each.0) b.one_line
            (sym (split_line x _) ∙ (sym (append_assoc (verdict_line x) (flat_map verdict_line more)
            (end_of h verdicts)) ∙ e)) in
            b.no_fault x each.0 (ap (λ l. l ++ codes "\n") (sym cut.0) ∙ verdict_line_is x)

not_cut_lines : (text : List ℕ) (h : PartHead) (faults : List (List ℕ))
    (verdicts : List PartVerdict) → IsPart text h faults verdicts → IsCutLines text → ⊥
not_cut_lines text h faults verdicts p b =
    let s = shared text h b.head faults b.faults verdicts b.verdicts _ p b.begun in
    tail_cut s.more b.more s.rest b.one_line
  where
    tail_cut : (more : List (List ℕ × PartVerdict)) (r : List ℕ) → flat_map verdict_line more
        ++ end_of h verdicts ≡ r → Lacks 10 r → ⊥
    tail_cut [] r e lacks = lacks_not 10 (end_body h.part h.parts (count_by is_found verdicts)
        (count_by is_own verdicts)) []
        (subst (λ l. Lacks 10 l) (sym e ∙ sym (end_line_is h.part h.parts _ _)) lacks)
    tail_cut (x ∷ more) r e lacks = lacks_not 10 (line_body x) _ (subst (λ l. Lacks 10 l) (sym e
        ∙ (append_assoc (verdict_line x) (flat_map verdict_line more) (end_of h verdicts)
        ∙ split_line x _)) lacks)

not_more : (text : List ℕ) (h : PartHead) (faults : List (List ℕ)) (verdicts : List PartVerdict)
    (count : ℕ) → IsPart text h faults verdicts → HasMore text count → ⊥
not_more text h faults verdicts count p b =
    let head = head_once h b.head _ _ p.head b.begun.head (sym p.whole ∙ b.begun.whole) in
    let ps : List ℕ = flat_map verdict_line (zip faults verdicts) in
    let qs : List ℕ = flat_map verdict_line (zip b.faults b.verdicts) in
    let left : ps ++ (end_of h verdicts ++ []) ≡ ps ++ end_of h verdicts =
    ap (λ l. ps ++ l) (append-nil _) in
    let right : qs ++ (end_of b.head b.verdicts ++ b.more) ≡ qs ++ (end_of h b.verdicts ++ b.more) =
    ap (λ l. qs ++ (l ++ b.more)) (same_end b.head h b.verdicts b.verdicts (sym head.0) refl) in
    let pairs = lines_once (zip faults verdicts) (zip b.faults b.verdicts) h.part h.parts
    (count_by is_found verdicts) (count_by is_own verdicts)
    (count_by is_found b.verdicts) (count_by is_own b.verdicts) [] b.more p.lines.each
    b.begun.lines.each (left ∙ (head.1 ∙ right)) in
    let lists = zip_once faults b.faults verdicts b.verdicts p.lines.same b.begun.lines.same
    pairs in
    let lasts : ps ++ end_of h verdicts ≡ ps ++ (end_of h verdicts ++ b.more) =
    head.1 ∙ (ap (λ l. qs ++ (l ++ b.more)) (same_end b.head h b.verdicts verdicts (sym head.0)
    (sym lists.1))
    ∙ ap (λ l. flat_map verdict_line l ++ (end_of h verdicts ++ b.more)) (sym pairs)) in
    omega (
      arith,
      ap (λ l. length l) (append_cancel_left ps _ _ lasts),
      length-append (end_of h verdicts) b.more,
      b.some,
    )

pub no_refusal : (text : List ℕ) (h : PartHead) (faults : List (List ℕ))
    (verdicts : List PartVerdict) (refusal : PartFault)
    → IsPart text h faults verdicts → IsPartRefusal text refusal → refusal ≡ Memory
no_refusal text h faults verdicts (NotAPart line) p r = elim r [
  | inl first ↦ absurd (not_bad_head text h faults verdicts p first.1)
  | inr later ↦ elim later.1 [
    | inl bad ↦ absurd (not_bad_line text h faults verdicts later.0 p bad.1)
    | inr over ↦ absurd (not_more text h faults verdicts later.0 p over.1)
  ]
]
no_refusal text h faults verdicts CutOff p r = elim r [
  | inl lacks ↦ absurd (lacks_no_line text h faults verdicts p lacks)
  | inr lines ↦ absurd (not_cut_lines text h faults verdicts p lines)
]
no_refusal text h faults verdicts Memory p r = refl

-- so the values that are read of a part file are its values
pub read_exactly : (text : List ℕ) (h : PartHead) (faults : List (List ℕ))
    (verdicts : List PartVerdict) (r : Result Read PartFault)
    → IfOk r (λ part. IsPart text (head_in part.header) (texts_in part.faults.items)
    part.verdicts.items) → IfErr r (IsPartRefusal text) → IsPart text h faults verdicts
    → MatchResult r (λ part. (head_in part.header ≡ h) × (texts_in part.faults.items ≡ faults)
    × (part.verdicts.items ≡ verdicts)) (λ fault. fault ≡ Memory)
read_exactly text h faults verdicts (Ok part) read refused p =
    one_part text (head_in part.header) h _ faults _ verdicts read p
read_exactly text h faults verdicts (Err fault) read refused p =
    no_refusal text h faults verdicts fault p refused
