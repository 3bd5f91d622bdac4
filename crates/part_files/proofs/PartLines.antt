-- The lines of faults in a part file, and its last line.
use Rattle.std.proofs.Common.{◌≡◌, ◌≢◌, ◌<◌, ◌+◌, ℕ, List, [], ◌∷◌, ◌++◌, refl, sym, ap, ◌∙◌}
use Rattle.std.proofs.Common.{append_assoc, append-nil, arith, subst, lit<}
use Rattle.std.{specs.Prelude.{codes, decimal, Some, None}, proofs.lemmas.List.append_cancel_right}
use Rattle.region_runs.specs.declared.parts.PartVerdict.{PartVerdict}
use Rattle.region_runs.specs.declared.parts.PartVerdict.TheVariants.{First, OtherPart}
use Rattle.part_files.specs.{Cut.{IsCutLast, Lacks}, PartReading.{IsLine, IsVerdict}}
use Rattle.part_files.specs.PartText.{end_line, verdict_line, verdict_text}
use Rattle.part_files.proofs.{CutTexts.{cut_last, lacks_left}, PartWords.lacks_decimal}

-- a verdict has no space and no line feed
pub lacks_verdict : (byte : ℕ) (v : PartVerdict) → byte < 45 → Lacks byte (verdict_text v)
lacks_verdict byte (First (Some t)) low = lacks_decimal byte t (omega (arith, low))
lacks_verdict byte (First None) low = (
  (λ e. omega (arith, e)),
  ((λ e. omega (arith, e)), ((λ e. omega (arith, e)), ((λ e. omega (arith, e)), tt))),
)
lacks_verdict byte OtherPart low = ((λ e. omega (arith, e)), tt)

-- the line of a fault without its line feed
abbrev pub line_body : List ℕ × PartVerdict → List ℕ
line_body at = at.0 ++ 32 ∷ verdict_text at.1

pub verdict_line_is : (at : List ℕ × PartVerdict) → line_body at ++ codes "\n" ≡ verdict_line at
verdict_line_is at = simp append_assoc

pub body_of : (at : List ℕ × PartVerdict) (line : List ℕ) → line ++ codes "\n" ≡ verdict_line at
    → line ≡ line_body at
body_of at line e = append_cancel_right line (line_body at) (codes "\n") (e
    ∙ sym (verdict_line_is at))

-- a line is cut into its fault and its verdict in one way
pub line_once : (at : List ℕ × PartVerdict) (line name word : List ℕ) → IsLine at
    → line ++ codes "\n" ≡ verdict_line at
    → IsCutLast 32 line name word → (name ≡ at.0) × (word ≡ verdict_text at.1)
line_once at line name word ok e cut =
    cut_last 32 name word at.0 (verdict_text at.1) cut.last (lacks_verdict 32 at.1 (lit< tt))
    (sym cut.whole ∙ body_of at line e)

pub line_read : (name word line : List ℕ) (v : PartVerdict) → Lacks 10 line
    → IsCutLast 32 line name word → ((rest : List ℕ) → name ≢ codes "part " ++ rest)
    → IsVerdict v × (word ≡ verdict_text v)
    → IsLine (name, v) × (line ++ codes "\n" ≡ verdict_line (name, v))
line_read name word line v lacks cut front verdict = (
  record {
    name = record {
      one_line = lacks_left 10 name _ (subst (λ l. Lacks 10 l) cut.whole lacks);
      no_end = front;
    };
    verdict = verdict.0;
  },
  ap (λ l. l ++ codes "\n") (cut.whole ∙ ap (λ w. name ++ 32 ∷ w) verdict.1)
      ∙ verdict_line_is (name, v),
)

-- the last line by its pieces
regrouped : (a b c d : List ℕ) → (codes "part " ++ (a ++ (codes " of "
    ++ (b ++ (codes ": " ++ (c ++ (codes " of " ++ (d ++ [])))))))) ++ codes "\n"
    ≡ codes "part " ++ a ++ codes " of " ++ b ++ codes ": " ++ c ++ codes " of " ++ d ++ codes "\n"
regrouped a b c d = simp (append_assoc, append-nil)

pub end_pieces : (part parts found own : ℕ) (line a b c d : List ℕ) → a ≡ decimal (part + 1)
    → b ≡ decimal parts → c ≡ decimal found → d ≡ decimal own
    → line ≡ codes "part " ++ (a ++ (codes " of "
    ++ (b ++ (codes ": " ++ (c ++ (codes " of " ++ (d ++ [])))))))
    → line ++ codes "\n" ≡ end_line part parts found own
end_pieces part parts found own line a b c d e f g h is =
    rw is (regrouped a b c d ∙ rw (e, f, g, h) refl)

pub end_pieces_only : (part parts found own : ℕ) (line a b c d : List ℕ) → a ≡ decimal (part + 1)
    → b ≡ decimal parts → c ≡ decimal found → d ≡ decimal own
    → line ++ codes "\n" ≡ end_line part parts found own
    → line ≡ codes "part " ++ (a ++ (codes " of "
    ++ (b ++ (codes ": " ++ (c ++ (codes " of " ++ (d ++ [])))))))
end_pieces_only part parts found own line a b c d e f g h is =
    append_cancel_right line _ (codes "\n") (is
    ∙ sym (end_pieces part parts found own _ a b c d e f g h refl))
