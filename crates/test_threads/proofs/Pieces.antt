-- Lemmas on a buffer that a file fills piece by piece.
use Rattle.std.proofs.Common.{◌≡◌, ℕ, ◌+◌, ◌≤◌, List, ◌++◌, Option, None, Some, length, take, drop}
use Rattle.std.proofs.Common.{sym, ap, ◌∙◌, append_assoc, length-append, length-take-le}
use Rattle.std.{proofs.Common.take-append-drop, specs.Io.KnownBytes.Consumes}
use Rattle.std.proofs.lemmas.List.{take_at}
use borrow.Rule.Slice.PartMut.{put_mid, post_of}

-- what two reads consume, one after the other
pub Consumes-both : (known between left : Option (List ℕ)) (first second : List ℕ)
    → Consumes known between first → Consumes between left second
    → Consumes known left (first ++ second)
Consumes-both None between left first second p q = tt
Consumes-both (Some xs) None left first second p q = absurd p
Consumes-both (Some xs) (Some ys) None first second p q = absurd q
Consumes-both (Some xs) (Some ys) (Some zs) first second p q =
    p ∙ ap (λ bytes. first ++ bytes) q ∙ sym (append_assoc first second zs)

-- the front of a buffer, of which a part from a place on was read anew
pub take-put_mid-more : (place size count : ℕ) (old read : List ℕ)
    → place ≤ length old → count ≤ length read
    → take (place + count) (put_mid place size old read) ≡ take place old ++ take count read
take-put_mid-more place size count old read within fits =
    let behind = drop count read ++ post_of place size old in
    let front = take place old ++ take count read in
    let whole : put_mid place size old read ≡ front ++ behind =
    ap (λ bytes. take place old ++ (bytes ++ post_of place size old))
    (sym (take-append-drop count read)) ∙ ap (λ bytes. take place old ++ bytes)
    (append_assoc (take count read) (drop count read) (post_of place size old))
    ∙ sym (append_assoc (take place old) (take count read) behind) in
    let size_of_front : length front ≡ place + count =
    length-append (take place old) (take count read)
    ∙ ap (λ n. n + length (take count read)) (length-take-le place old within)
    ∙ ap (λ n. place + n) (length-take-le count read fits) in
    ap (take (place + count)) whole ∙ take_at front behind (place + count) size_of_front
