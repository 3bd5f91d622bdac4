use Rattle.std.proofs.Common.{Bool, List, true, refl, ◌≡◌, ◌<◌, ◌∙◌, ◌∷◌, [], ℕ, All, ap, arith}
use Rattle.std.{proofs.Common.{count_by, get_or, length, not, subst, sym}, specs.Prelude.filter}
use Rattle.std.proofs.lemmas.List.Elements.{All-filter}
use Rattle.patterns.specs.Least.{below}
use Rattle.compaction.specs.{Detections.{DetectionTable, detects_by, is_detected}, News.IsBest}
use Rattle.compaction.proofs.{DetectedClasses.undetected, PushedElements.written_over}
use Rattle.compaction.proofs.SteepestOrder.{AreSome, fewer_left, left_within, so_far_more}
use Rattle.compaction.proofs.SteepestOrder.{so_far_none, split_counts, steepest}
use Rattle.compaction.proofs.steepest.steepest_order.Goals as goal

-- without a test yet all are left
none_yet : (xs : List ℕ) (p : ℕ → Bool) → filter p xs ≡ filter (λ class. true) (filter p xs)
none_yet xs p = go (filter p xs)
  where
    go : (xs : List ℕ) → xs ≡ filter (λ class. true) xs
    go [] = refl
    go (x ∷ xs) = ap (λ l. x ∷ l) (go xs)

-- no test detects the other classes
none : (table : DetectionTable) → AreSome (is_detected table) (detects_by table)
none table = λ class t e. undetected table class t e

pub counts_of-requires : goal.counts_of-requires
counts_of-requires c =
    let table = c.args.detections.now in
    record {
      classes = subst (All (λ class. class < length table.words))
          (sym (c.deref.ensures.value
          ∙ (c.in_ok-left.ensures ∙ none_yet (below (length table.words)) (is_detected table))))
          (left_within (is_detected table) (detects_by table) (length table.words) []);
    }

pub loop-best-init : goal.loop-best-init
loop-best-init c =
    let table = c.args.detections.now in
    record {
      few = c.in_ok-news.ensures.few;
      so = rw (c.new-order.ensures.items) (so_far_none (is_detected table) (detects_by table)
          (none table) (length table.words) table.tests c.in_ok-left.left.items
          c.in_ok-news.news.items c.in_ok-left.ensures (record {
            count = c.in_ok-news.ensures.count;
            each = λ t lt. c.in_ok-news.ensures.each t lt
                ∙ ap (count_by (λ class. detects_by table class t)) c.deref.ensures.value;
          }));
    }

pub counts_of-requires-in-Some : goal.counts_of-requires-in-Some
counts_of-requires-in-Some c =
    let table = c.args.detections.now in
    let best = c.in-Some.best in
    let so = c.loop-best.invariant.so in
    let own : c.deref-in-Some-2.result.now
    ≡ filter (λ class. detects_by table class best) c.loop-best.left.items =
    c.deref-in-Some-2.ensures.value ∙ (c.in_ok-detected.ensures.detected
    ∙ ap (filter (λ class. detects_by table class best)) c.deref-in-Some.ensures.value) in
    record {
      classes = subst (All (λ class. class < length table.words)) (sym own)
          (All-filter (λ class. detects_by table class best) (λ class. class < length table.words)
          c.loop-best.left.items
          (subst (All (λ class. class < length table.words)) (sym so.others)
          (left_within (is_detected table) (detects_by table) (length table.words)
          c.loop-best.order.items)));
    }

pub take_off-requires-clause-less : goal.take_off-requires-clause-less
take_off-requires-clause-less c = λ t lt.
    let table = c.args.detections.now in
    let best = c.in-Some.best in
    let left = c.loop-best.left.items in
    let so = c.loop-best.invariant.so in
    let own : c.deref-in-Some-2.result.now ≡ filter (λ class. detects_by table class best) left =
    c.deref-in-Some-2.ensures.value ∙ (c.in_ok-detected.ensures.detected
    ∙ ap (filter (λ class. detects_by table class best)) c.deref-in-Some.ensures.value) in
    let low : t < table.tests =
    omega (arith, lt, ap length c.deref_mut.ensures.value, so.are.count) in
    let now = ap (λ xs. get_or xs t 0) c.deref_mut.ensures.value in
    let off = ap (λ xs. get_or xs t 0) c.deref-in-Some-3.ensures.value in
    let counted = c.in_ok-covered.ensures.each t low in
    let of = ap (count_by (λ class. detects_by table class t)) own in
    let was = so.are.each t low in
    let both = split_counts (detects_by table) left best t in
    omega (arith, now, off, counted, of, was, both)

pub loop-best-smaller : goal.loop-best-smaller
loop-best-smaller c =
    let table = c.args.detections.now in
    let best = c.in-Some.best in
    let left = c.loop-best.left.items in
    let so = c.loop-best.invariant.so in
    let of : IsBest c.loop-best.news.items best =
    subst (λ xs. IsBest xs best) c.deref-in-loop-best.ensures.value c.in-Some.ensures.best in
    let within = of.within in
    let low : best < table.tests = omega (arith, within, so.are.count) in
    let some = of.some in
    let news = so.are.each best low in
    let fewer = fewer_left (detects_by table) left best (omega (arith, some, news)) in
    let is = ap length (c.in_ok-detected.ensures.others
    ∙ ap (filter (λ class. not (detects_by table class best))) c.deref-in-Some.ensures.value) in
    omega (arith, fewer, is)

pub loop-best-preserved : goal.loop-best-preserved
loop-best-preserved c =
    let table = c.args.detections.now in
    let best = c.in-Some.best in
    let left = c.loop-best.left.items in
    let new = c.take_off.new.numbers in
    let so = c.loop-best.invariant.so in
    let was = c.deref_mut.ensures.value in
    let len : c.loop-best.news.len ≡ length new =
    sym (c.take_off.auto.numbers ∙ c.deref_mut.ensures.len) in
    let count : length new ≡ table.tests =
    c.take_off.ensures.count ∙ (ap length was ∙ so.are.count) in
    let of : IsBest c.loop-best.news.items best =
    subst (λ xs. IsBest xs best) c.deref-in-loop-best.ensures.value c.in-Some.ensures.best in
    let own : c.deref-in-Some-2.result.now ≡ filter (λ class. detects_by table class best) left =
    c.deref-in-Some-2.ensures.value ∙ (c.in_ok-detected.ensures.detected
    ∙ ap (filter (λ class. detects_by table class best)) c.deref-in-Some.ensures.value) in
    let others : c.in_ok-detected.field-0.others.items
    ≡ filter (λ class. not (detects_by table class best)) left =
    c.in_ok-detected.ensures.others
    ∙ ap (filter (λ class. not (detects_by table class best))) c.deref-in-Some.ensures.value in
    let each : (t : ℕ) → t < table.tests → get_or new t 0
    ≡ count_by (λ class. detects_by table class t) c.in_ok-detected.field-0.others.items = λ t low.
    let taken = c.take_off.ensures.each t (omega (arith, low, ap length was, so.are.count)) in
    let now = ap (λ xs. get_or xs t 0) was in
    let off = ap (λ xs. get_or xs t 0) c.deref-in-Some-3.ensures.value in
    let counted = c.in_ok-covered.ensures.each t low in
    let some = ap (count_by (λ class. detects_by table class t)) own in
    let rest = ap (count_by (λ class. detects_by table class t)) others in
    let before = so.are.each t low in
    let both = split_counts (detects_by table) left best t in
    omega (arith, taken, now, off, counted, some, rest, before, both) in
    let few = c.loop-best.invariant.few in
    rw (written_over c.loop-best.news.len new _ len, c.in_ok-push.ensures.items) (record {
      few = omega (arith, few, count, so.are.count);
      so = so_far_more (is_detected table) (detects_by table) (none table) (length table.words)
          table.tests c.loop-best.order.items left c.loop-best.news.items so best
          c.in_ok-detected.field-0.others.items new of others
          (record { count = count; each = each });
    })

pub returns : goal.returns
returns c =
    let table = c.args.detections.now in
    let so = c.loop-best.invariant.so in
    steepest (is_detected table) (detects_by table) (none table) (length table.words)
    table.tests c.loop-best.order.items c.loop-best.left.items c.loop-best.news.items so
    (λ t lt. ap (λ xs. get_or xs t 0) (sym c.deref-in-loop-best.ensures.value)
    ∙ c.in_default.ensures.none t (omega (arith, lt, ap length c.deref-in-loop-best.ensures.value)))
