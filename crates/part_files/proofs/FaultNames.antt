-- The names of a circuit's faults can stand in a part file.
use Rattle.std.proofs.Common.{◌≡◌, ◌≢◌, ◌+◌, ℕ, Bool, true, false, List, [], ◌∷◌, ◌++◌, refl, ap}
use Rattle.std.proofs.Common.{subst, inl, inr, ◌⊎◌, IsTrue, Option, Some, None, arith, lit<, map}
use Rattle.std.specs.{Prelude.{codes, decimal, slice_get, unwrap_or}, List.{AllZip, list_all}}
use Rattle.std.proofs.lemmas.Bool.{and_parts}
use Rattle.list_lemmas.proofs.{Members.{Among, among_append}, Places.at_place}
use Rattle.text_lines.specs.Lines.{lines}
use Rattle.bench_net.specs.Text.{Token, Word, Open, Close, Equals, IsToken, Spells, is_word_byte}
use Rattle.bench_net.specs.Statement.{Name, Statement, Input, Output, Gate, Dff, defined}
use Rattle.bench_net.specs.Reading.{ReadsAs, States, tokens_of_list, statements}
use Rattle.bench_net.specs.{Refusal.IsAccepted, Scan.{names, name_of, cells}}
use Rattle.fault_model.specs.{declared.Line.Line, declared.Model.Model, Fault.Fault}
use Rattle.fault_model.specs.declared.Model.TheVariants.{StuckAt, Transition, TransitionPairs}
use Rattle.fault_model.specs.declared.Line.TheVariants as line
use Rattle.part_files.{specs.Cut.Lacks, specs.PartReading.IsFaultName, proofs.CutTexts.lacks_append}
use Rattle.part_files.proofs.{OnePartText.{lacks_literal, lacks_test}, PartWords.lacks_decimal}
use Rattle.report.specs.Report.{cell_text, defect_text, fault_text, line_text, signal_text}
use Rattle.report.proofs.Public.{cell_is_named}

-- a word of a line is made of word bytes
spelled_word : (l : List ℕ) (tokens : List Token) (w : List ℕ) → Spells l tokens
    → Among (Word w) tokens → IsTrue (list_all is_word_byte w)
spelled_word l [] w s a = absurd a
spelled_word l (t ∷ tokens) w s (inl e) = (subst IsToken e s.4).1
spelled_word l (t ∷ tokens) w s (inr a) = spelled_word s.1 tokens w s.6 a

-- so is the name that a line defines
defined_word : (l : List ℕ) (tokens : List Token) (s : Statement) (n : Name) → Spells l tokens
    → ReadsAs tokens s → Among n (defined s) → IsTrue (list_all is_word_byte n)
defined_word l tokens (Input m) n spelled r (inl e) =
    spelled_word l (Word r.0 ∷ Open ∷ Word m ∷ Close ∷ []) n (subst (Spells l) r.2 spelled)
    (inr (inr (inl (ap Word e))))
defined_word l tokens (Input m) n spelled r (inr a) = absurd a
defined_word l tokens (Output m) n spelled r a = absurd a
defined_word l tokens (Gate m kind args) n spelled r (inl e) =
    spelled_word l (Word m ∷ Equals ∷ Word r.0 ∷ Open ∷ (tokens_of_list args ++ Close ∷ [])) n
    (subst (Spells l) r.3 spelled) (inl (ap Word e))
defined_word l tokens (Gate m kind args) n spelled r (inr a) = absurd a
defined_word l tokens (Dff q d) n spelled r (inl e) =
    spelled_word l (Word q ∷ Equals ∷ Word r.0 ∷ Open ∷ Word d ∷ Close ∷ []) n
    (subst (Spells l) r.2 spelled) (inl (ap Word e))
defined_word l tokens (Dff q d) n spelled r (inr a) = absurd a

-- and each name of a text
named_word : (ls : List (List ℕ)) (stated : List (Option Statement)) (n : Name)
    → AllZip States ls stated → Among n (names (statements stated))
    → IsTrue (list_all is_word_byte n)
named_word [] [] n each a = absurd a
named_word [] (s ∷ stated) n each a = absurd each
named_word (l ∷ ls) [] n each a = absurd each
named_word (l ∷ ls) (None ∷ stated) n each a = named_word ls stated n each.1 a
named_word (l ∷ ls) (Some s ∷ stated) n each a = go (λ h. named_word ls stated n each.1 h)
    (among_append (defined s) (names (statements stated)) n a)
  where
    go : (Among n (names (statements stated)) → IsTrue (list_all is_word_byte n))
        → Among n (defined s) ⊎ Among n (names (statements stated))
        → IsTrue (list_all is_word_byte n)
    go rest (inl h) = defined_word l each.0.0 s n each.0.1 each.0.2 h
    go rest (inr h) = rest h

-- a line feed is no word byte
lacks_feed : (word : List ℕ) → list_all is_word_byte word ≡ true → Lacks 10 word
lacks_feed [] all = tt
lacks_feed (b ∷ word) all =
    let p = and_parts (is_word_byte b) (list_all is_word_byte word) all in
    let other : b ≢ 10 =
    λ e. let bad : false ≡ true = subst (λ x. is_word_byte x ≡ true) e p.0 in cc in
    (other, lacks_feed word p.1)

name_lacks : (bench : List ℕ) (c : List Statement) (n : Name) → IsAccepted bench c
    → Among n (names c) → Lacks 10 n
name_lacks bench c n accepted a =
    lacks_feed n (named_word (lines bench) accepted.0 n accepted.1.each
    (subst (λ x. Among n (names x)) accepted.2 a))

-- the name of a signal and of a cell
signal_lacks : (bench : List ℕ) (c : List Statement) (s : ℕ) → IsAccepted bench c
    → Lacks 10 (signal_text c s)
signal_lacks bench c s accepted = go (name_of c s) refl
  where
    go : (o : Option Name) → name_of c s ≡ o → Lacks 10 (unwrap_or o [])
    go None e = tt
    go (Some n) e = name_lacks bench c n accepted (at_place (names c) s n e)

cell_lacks : (bench : List ℕ) (c : List Statement) (i : ℕ) → IsAccepted bench c
    → Lacks 10 (cell_text c i)
cell_lacks bench c i accepted = go (slice_get (map (λ qd. qd.0) (cells c)) i) refl
  where
    go : (o : Option Name) → slice_get (map (λ qd. qd.0) (cells c)) i ≡ o
        → Lacks 10 (unwrap_or o [])
    go None e = tt
    go (Some q) e = name_lacks bench c q accepted
        (cell_is_named c q (at_place (map (λ qd. qd.0) (cells c)) i q e))

-- the name of a line, and its defect
line_lacks : (bench : List ℕ) (c : List Statement) (l : Line) → IsAccepted bench c
    → Lacks 10 (line_text c l)
unfolding lacks_test
line_lacks bench c (line.Stem s) accepted =
    lacks_append 10 (codes "stem ") (signal_text c s) (lacks_literal 10 (codes "stem ") refl)
    (signal_lacks bench c s accepted)
line_lacks bench c (line.Pin gate pin) accepted =
    lacks_append 10 (codes "pin " ++ signal_text c gate ++ codes " ") (decimal (pin + 1))
    (lacks_append 10 (codes "pin " ++ signal_text c gate) (codes " ")
    (lacks_append 10 (codes "pin ") (signal_text c gate) (lacks_literal 10 (codes "pin ") refl)
    (signal_lacks bench c gate accepted)) (lacks_literal 10 (codes " ") refl))
    (lacks_decimal 10 (pin + 1) (lit< tt))
line_lacks bench c (line.Data i) accepted =
    lacks_append 10 (codes "data ") (cell_text c i) (lacks_literal 10 (codes "data ") refl)
    (cell_lacks bench c i accepted)
line_lacks bench c (line.Out output) accepted =
    lacks_append 10 (codes "out ") (decimal (output + 1)) (lacks_literal 10 (codes "out ") refl)
    (lacks_decimal 10 (output + 1) (lit< tt))

defect_lacks : (m : Model) (b : Bool) → Lacks 10 (defect_text m b)
unfolding lacks_test
defect_lacks StuckAt false = lacks_literal 10 (codes " sa0") refl
defect_lacks StuckAt true = lacks_literal 10 (codes " sa1") refl
defect_lacks Transition false = lacks_literal 10 (codes " str") refl
defect_lacks Transition true = lacks_literal 10 (codes " stf") refl
defect_lacks TransitionPairs false = lacks_literal 10 (codes " str") refl
defect_lacks TransitionPairs true = lacks_literal 10 (codes " stf") refl

-- no line begins as the last line of a part file does
first_same : (a b : ℕ) (xs ys : List ℕ) → a ∷ xs ≡ b ∷ ys → a ≡ b
first_same a b xs ys e = cc

second_same : (a b x y : ℕ) (xs ys : List ℕ) → a ∷ x ∷ xs ≡ b ∷ y ∷ ys → x ≡ y
second_same a b x y xs ys e = cc

no_part : (c : List Statement) (l : Line) (more rest : List ℕ)
    → line_text c l ++ more ≢ codes "part " ++ rest
no_part c (line.Stem s) more rest e = let bad = first_same 115 112 _ _ e in omega (arith, bad)
no_part c (line.Pin gate pin) more rest e =
    let bad = second_same 112 112 105 97 _ _ e in omega (arith, bad)
no_part c (line.Data i) more rest e = let bad = first_same 100 112 _ _ e in omega (arith, bad)
no_part c (line.Out output) more rest e = let bad = first_same 111 112 _ _ e in omega (arith, bad)

-- so each fault has a name for a part file
pub fault_named : (bench : List ℕ) (c : List Statement) (f : Fault) → IsAccepted bench c
    → IsFaultName (fault_text c f)
fault_named bench c f accepted = record {
  one_line = lacks_append 10 (line_text c f.line) (defect_text f.model f.stuck)
      (line_lacks bench c f.line accepted) (defect_lacks f.model f.stuck);
  no_end = λ rest. no_part c f.line (defect_text f.model f.stuck) rest;
}
