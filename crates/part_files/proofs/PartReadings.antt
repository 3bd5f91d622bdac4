-- A part file read line by line.
use Rattle.std.proofs.Common.{◌≡◌, ◌≢◌, ◌<◌, ◌≤◌, ◌+◌, ◌==◌, ℕ, zero, suc, true, false, List, []}
use Rattle.std.proofs.Common.{◌∷◌, ◌++◌, length, refl, sym, ap, ◌∙◌, append_assoc, append-nil}
use Rattle.std.{proofs.Common.{arith, subst, length-append, inl, inr}, specs.List.AllByRecursion}
use Rattle.std.{specs.Prelude.{codes, zip, flat_map}, proofs.lemmas.Grind.flat_map-append}
use Rattle.region_runs.specs.declared.parts.PartVerdict.{PartVerdict}
use Rattle.part_files.specs.{Cut.IsCutFirst, PartText.{PartHead, head_line, verdict_line}}
use Rattle.part_files.specs.PartReading.{HasMore, IsBadHead, IsBadLine, IsBegun, IsHead, IsEndFault}
use Rattle.part_files.specs.PartReading.{IsLine, IsNoFaultLine, IsPart, IsPartRefusal, end_of}
use Rattle.part_files.specs.declared.part_reader.PartFault.{PartFault}

-- a list of pairs with one more pair
pub zip_more : {X Y : Type 0} (xs : List X) (ys : List Y) (x : X) (y : Y) → length xs ≡ length ys
    → zip (xs ++ x ∷ []) (ys ++ y ∷ []) ≡ zip xs ys ++ (x, y) ∷ []
zip_more [] [] x y e = refl
zip_more [] (v ∷ ys) x y e = absurd (omega (arith, e))
zip_more (u ∷ xs) [] x y e = absurd (omega (arith, e))
zip_more (u ∷ xs) (v ∷ ys) x y e = ap (λ l. (u, v) ∷ l) (zip_more xs ys x y (omega (arith, e)))

pub each_more : {X : Type 0} (P : X → Type 0) (xs : List X) (x : X) → AllByRecursion P xs → P x
    → AllByRecursion P (xs ++ x ∷ [])
each_more P [] x all here = (here, tt)
each_more P (y ∷ xs) x all here = (all.0, each_more P xs x all.1 here)

-- a line that is cut off with its line feed
pub joined : (line after text : List ℕ) → line ++ codes "\n" ≡ text → line ++ 10 ∷ after ≡ text
    ++ after
joined line after text e = let assoc : (line ++ codes "\n") ++ after ≡ line ++ 10 ∷ after =
    append_assoc line (codes "\n") after in sym assoc ∙ ap (λ l. l ++ after) e

-- one more line of a fault
pub begun_more : (text : List ℕ) (h : PartHead) (faults : List (List ℕ))
    (verdicts : List PartVerdict) (rest line after name : List ℕ) (v : PartVerdict)
    → IsBegun text h faults verdicts rest → rest ≡ line ++ 10 ∷ after → IsLine (name, v)
    → line ++ codes "\n" ≡ verdict_line (name, v)
    → IsBegun text h (faults ++ name ∷ []) (verdicts ++ v ∷ []) after
begun_more text h faults verdicts rest line after name v begun cut ok e =
    let pairs = zip_more faults verdicts name v begun.lines.same in
    let lines : List ℕ = flat_map verdict_line (zip faults verdicts) in
    let one : List ℕ = verdict_line (name, v) in
    let assoc : (lines ++ one) ++ after ≡ lines ++ (one ++ after) = append_assoc lines one after in
    let grown : flat_map verdict_line (zip (faults ++ name ∷ []) (verdicts ++ v ∷ [])) ≡ lines
    ++ one = ap (λ l. flat_map verdict_line l) pairs
    ∙ (flat_map-append verdict_line (zip faults verdicts) ((name, v) ∷ [])
    ∙ ap (λ l. lines ++ l) (append-nil one)) in
    record {
      head = begun.head;
      lines = record {
        same = length-append faults (name ∷ [])
            ∙ (ap (λ n. n + 1) begun.lines.same ∙ sym (length-append verdicts (v ∷ [])));
        each = subst (λ l. AllByRecursion IsLine l) (sym pairs)
            (each_more IsLine (zip faults verdicts) (name, v) begun.lines.each ok);
      };
      whole = begun.whole ∙ ap (λ l. head_line h ++ l)
          (ap (λ l. lines ++ l) (cut ∙ joined line after one e)
          ∙ (sym assoc ∙ ap (λ l. l ++ after) (sym grown)));
    }

-- after the last line
pub begun_end : (text : List ℕ) (h : PartHead) (faults : List (List ℕ))
    (verdicts : List PartVerdict) (rest line after : List ℕ)
    → IsBegun text h faults verdicts rest → rest ≡ line ++ 10 ∷ after
    → line ++ codes "\n" ≡ end_of h verdicts
    → IsBegun text h faults verdicts (end_of h verdicts ++ after)
begun_end text h faults verdicts rest line after begun cut e = record {
  head = begun.head;
  lines = begun.lines;
  whole = begun.whole ∙ ap (λ l. head_line h ++ (flat_map verdict_line (zip faults verdicts) ++ l))
      (cut ∙ joined line after (end_of h verdicts) e);
}

pub part_of : (text : List ℕ) (h : PartHead) (faults : List (List ℕ)) (verdicts : List PartVerdict)
    (after : List ℕ)
    → IsBegun text h faults verdicts (end_of h verdicts ++ after) → length after ≡ 0
    → IsPart text h faults verdicts
part_of text h faults verdicts [] begun e = record {
  head = begun.head;
  lines = begun.lines;
  whole = begun.whole ∙ ap (λ l. head_line h ++ (flat_map verdict_line (zip faults verdicts) ++ l))
      (append-nil (end_of h verdicts));
}
part_of text h faults verdicts (b ∷ after) begun e = absurd (omega (arith, e))

pub has_more : (text : List ℕ) (h : PartHead) (faults : List (List ℕ)) (verdicts : List PartVerdict)
    (after : List ℕ)
    → IsBegun text h faults verdicts (end_of h verdicts ++ after) → 0 < length after
    → HasMore text (length faults)
has_more text h faults verdicts after begun some = record {
  head = h;
  faults = faults;
  verdicts = verdicts;
  more = after;
  begun = begun;
  count_is = refl;
  some = some;
}

-- a line that is no line of a part file
pub bad_line : (text : List ℕ) (h : PartHead) (faults : List (List ℕ)) (verdicts : List PartVerdict)
    (rest line after : List ℕ)
    → IsBegun text h faults verdicts rest → IsCutFirst 10 rest line after → IsNoFaultLine line
    → line ++ codes "\n" ≢ end_of h verdicts → IsBadLine text (length faults)
bad_line text h faults verdicts rest line after begun cut none last = record {
  head = h;
  faults = faults;
  verdicts = verdicts;
  line = line;
  more = after;
  begun = subst (λ l. IsBegun text h faults verdicts l) cut.whole begun;
  count_is = refl;
  one_line = cut.first;
  no_fault = none;
  no_end = last;
}

pub bad_head : (text line more : List ℕ) → IsCutFirst 10 text line more
    → ((h : PartHead) → IsHead h → line ++ codes "\n" ≢ head_line h) → IsBadHead text
bad_head text line more cut bad = record {
  line = line;
  more = more;
  whole = cut.whole;
  one_line = cut.first;
  bad = bad;
}

-- The invariant of a loop over the lines: the lines so far and the rest, and the number of the next
-- line.
pub record Reading (text : List ℕ) (h : PartHead) (faults : List (List ℕ))
    (verdicts : List PartVerdict) (rest : List ℕ) (number : ℕ) : Type 0 where
  pub begun : IsBegun text h faults verdicts rest
  pub number_is : number ≡ length faults + 2
  pub room : number + length rest ≤ length text + 1

pub reading_more : (text : List ℕ) (h : PartHead) (faults more : List (List ℕ))
    (verdicts others : List PartVerdict) (rest line after name : List ℕ) (v : PartVerdict)
    (number : ℕ) → Reading text h faults verdicts rest number → IsCutFirst 10 rest line after
    → IsLine (name, v) × (line ++ codes "\n" ≡ verdict_line (name, v))
    → more ≡ faults ++ name ∷ [] → others ≡ verdicts ++ v ∷ []
    → Reading text h more others after (number + 1)
reading_more text h faults more verdicts others rest line after name v number reading cut is e f =
    rw (e, f) (record {
      begun = begun_more text h faults verdicts rest line after name v reading.begun cut.whole is.0
          is.1;
      number_is = omega (arith, reading.number_is, length-append faults (name ∷ []));
      room = omega (
        arith,
        reading.room,
        ap (λ l. length l) cut.whole,
        length-append line (10 ∷ after),
      );
    })

-- a line that is no line of a fault, and not the end of the text either
pub end_refused : (text : List ℕ) (h : PartHead) (faults : List (List ℕ))
    (verdicts : List PartVerdict) (rest line after : List ℕ) (number : ℕ) (f : PartFault)
    → Reading text h faults verdicts rest number → IsCutFirst 10 rest line after
    → IsNoFaultLine line → IsEndFault line after h verdicts number f → IsPartRefusal text f
end_refused text h faults verdicts rest line after number f reading cut none (inl is) =
    rw (is.0) (inr (
      length faults,
      inl (
        reading.number_is,
        bad_line text h faults verdicts rest line after reading.begun cut none is.1,
      ),
    ))
end_refused text h faults verdicts rest line after number f reading cut none (inr is) =
    let begun = begun_end text h faults verdicts rest line after reading.begun cut.whole is.1 in
    rw (is.0) (inr (
      length faults,
      inr (omega (arith, reading.number_is), has_more text h faults verdicts after begun is.2),
    ))

pub shorter : (rest line after : List ℕ) → rest ≡ line ++ 10 ∷ after → length after < length rest
shorter rest line after e = omega (arith, ap (λ l. length l) e, length-append line (10 ∷ after))

pub some_bytes : (n : ℕ) → (n == 0) ≡ false → 0 < n
some_bytes zero e = let bad : true ≡ false = e in cc
some_bytes (suc n) e = omega arith
