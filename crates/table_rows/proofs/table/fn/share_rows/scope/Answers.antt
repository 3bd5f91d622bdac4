use Rattle.std.proofs.Common.{◌≡◌, ◌<◌, ◌∙◌, ◌*◌, ◌+◌, ◌++◌, ◌∷◌, [], ℕ, Global, List, Vec, ap}
use Rattle.std.proofs.{Common.{arith, get_or, length, map, subst, sym, vec_len}, Math.Nat.add-mul}
use Rattle.std.specs.Prelude.{Err, IfOk, Ok, Result, flat_map, min}
use Rattle.std.specs.declared.{alloc.AllocError.AllocError, thread.PromisedHandle.PromisedHandle}
use Rattle.threaded_lines.specs.Texts.{joined, text_between}
use Rattle.table_rows.specs.{declared.table.TextOf.TextOf, Table.row_texts}
use Rattle.table_rows.proofs.Stretches.{all_between, each_pushed, next_cut, same_stretch}
use Rattle.table_rows.proofs.Stretches.{stretches_joined, texts_counted}
use Rattle.table_rows.proofs.table.fn.share_rows.scope.Goals as goal

pub loop-thread-preserved : goal.loop-thread-preserved
loop-thread-preserved g c =
    let was = c.loop-thread.invariant in
    let old = c.loop-thread.handles in
    let rows = c.captures.rows.now in
    let size = c.captures.size in
    let count = length (g.T.Rows.table rows).rows in
    let n = vec_len old in
    let next = add-mul n 1 size in
    let all = c.count-count.ensures in
    let promise = c.in-Ok.ensures.ok in
    let ended : c.loop-thread.start + c.min.result ≡ min ((n + 1) * size) count =
    omega (arith, was.low, next, all, c.min.ensures) in
    let P = λ (k : ℕ) (h : PromisedHandle (Result (Vec ℕ Global) AllocError)
    (TextOf g.row.T.Denot)). (h.promise.rows.value ≡ rows) × (h.promise.format ≡ c.captures.format)
    × (h.promise.start ≡ min (k * size) count) × (h.promise.end ≡ min ((k + 1) * size) count) in
    let own : P n c.in-Ok.handle = (
      ap (λ p. p.rows.value) promise ∙ c.of.ensures,
      ap (λ p. p.format) promise,
      ap (λ p. p.start) promise ∙ was.low,
      ap (λ p. p.end) promise ∙ ended,
    ) in
    let long : n ≡ length old.items = omega (arith, old.ok.0) in
    let longer : vec_len c.push.new.self ≡ n + 1 = omega (arith, c.in_ok-push.ensures.len) in
    let pushed = each_pushed P old.items c.in-Ok.handle
    (λ k d lt. was.each k d (omega (arith, lt, long))) (subst (λ m. P m c.in-Ok.handle) long own) in
    record {
      low = ended ∙ ap (λ m. min (m * size) count) (sym longer);
      each = λ k d lt. subst (λ hs. P k (get_or hs k d)) (sym c.in_ok-push.ensures.items)
          (pushed k d (omega (arith, lt, longer, long)));
    }

texts_are : (r : Result (Vec (Vec ℕ Global) Global) AllocError)
    (parts : List (Result (Vec ℕ Global) AllocError)) (own : Vec ℕ Global) (ts : List (List ℕ))
    (size count n : ℕ) → length parts ≡ n
    → ((i : ℕ) (d : Result (Vec ℕ Global) AllocError) → i < n → IfOk (get_or parts i d)
    (λ text. text.items ≡ text_between ts (min (i * size) count) (min ((i + 1) * size) count)))
    → own.items ≡ text_between ts (min (n * size) count) count → count ≡ length ts
    → IfOk r (λ texts. map Ok texts.items ≡ parts ++ Ok own ∷ [])
    → IfOk r (λ texts. flat_map (λ text. text.items) texts.items ≡ joined ts)
texts_are (Err e) parts own ts size count n many each is all made = made
texts_are (Ok texts) parts own ts size count n many each is all made =
    let at = λ (k : ℕ). min (k * size) count in
    let none : min (0 * size) count ≡ 0 = omega arith in
    let behind : 0 + length parts ≡ n = omega (arith, many) in
    let whole = stretches_joined ts at (next_cut size count) parts own texts.items 0 count
    (λ i m d lt e. let same : i ≡ m = omega (arith, e) in
    rw (← same) (each i d (omega (arith, lt, many))))
    (rw (behind) is) (rw (behind) (omega arith)) made in
    whole.0 ∙ rw (none) (all_between ts count all)

pub returns : goal.returns
returns g c =
    let was = c.loop-thread.invariant in
    let hs = c.loop-thread.handles in
    let joined = c.in-Ok-join_promised in
    let rows = c.captures.rows.now in
    let t = g.T.Rows.table rows in
    let ts = row_texts c.captures.format t in
    let size = c.captures.size in
    let count = length t.rows in
    let n = vec_len hs in
    let long = c.count-count.ensures in
    let theirs : (i : ℕ) (d : Result (Vec ℕ Global) AllocError) → i < n
    → IfOk (get_or joined.parts.items i d) (λ text. text.items
    ≡ text_between ts (min (i * size) count) (min ((i + 1) * size) count)) = λ i d lt.
    let k = (joined.ensures.each i d lt).1 in
    let at = was.each i k.handle lt in
    let same_rows = ap (λ h. h.promise.rows.value) k.handle_is ∙ at.0 in
    let same_format = ap (λ h. h.promise.format) k.handle_is ∙ at.1 in
    same_stretch _ _ ts _ _ _ _
    (ap (λ f. row_texts f (g.T.Rows.table k.handle.promise.rows.value)) same_format
    ∙ ap (λ r. row_texts c.captures.format (g.T.Rows.table r)) same_rows)
    (ap (λ h. h.promise.start) k.handle_is ∙ at.2)
    (ap (λ h. h.promise.end) k.handle_is ∙ at.3) k.kept in
    let own = c.in_ok-own.ensures ∙ (ap (λ a. text_between ts a c.count-count.result) was.low
    ∙ ap (λ b. text_between ts (min (n * size) count) b) long) in
    texts_are c.texts_of.result joined.parts.items c.in_ok-own.own ts size count n
    (omega (arith, joined.parts.ok.0, joined.ensures.len)) theirs own
    (sym (texts_counted c.captures.format t)) c.texts_of.ensures
