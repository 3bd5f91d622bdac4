use Rattle.std.specs.{declared.vec.Vec.Vec, Prelude.◌^◌}
use Rattle.std.proofs.Common.{List, ◌∷◌, ◌≡◌, ◌<◌, ◌+◌, ◌/◌, ◌%◌, ◌≤◌, ◌∙◌, [], ℕ, ap, arith}
use Rattle.std.proofs.Common.{get_or, length, map, subst, sym, take, Bool, true, false, refl}
use Rattle.std.proofs.lemmas.List.{length-map, length-take-le}
use Rattle.patterns.specs.Tests.{as_number}
use Rattle.flat_circuit.specs.Words.{lane}
use Rattle.compaction.specs.{Detections.detects_by, Tallies.number_in}
use Rattle.compaction.proofs.PushedElements.{written_over}
use Rattle.compaction.proofs.TallyDigits.{tallied_more, tallied_none, tallied_room}
use Rattle.compaction.proofs.steepest.counts_of.Goals as goal

pub loop-class-init : goal.loop-class-init
loop-class-init c = record {
  count = c.in_ok-groups.ensures.count ∙ c.groups.ensures;
  tallied = tallied_none (detects_by c.args.detections.now) c.digits_of-digits.result
      c.in_ok-groups.groups.items c.in_ok-groups.ensures.zeros;
}

small : (b : Bool) → as_number b ≤ 1
small true = omega arith
small false = omega arith

map-map : {Z : Type 0} (groups : List (Vec ℕ Z))
    → map length (map (λ words. words.items) groups) ≡ map (λ words. length words.items) groups
map-map [] = refl
map-map (words ∷ groups) = ap (λ l. length words.items ∷ l) (map-map groups)

pub add_words-requires-clause-room : goal.add_words-requires-clause-room
add_words-requires-clause-room c = λ group k lt low.
    let so_far = c.loop-class.invariant in
    let value = c.deref_mut.ensures.value in
    let rows = map (λ words. words.items) c.loop-class.groups.items in
    let long = length-take-le c.loop-class.class-index c.args.classes.now
    (omega (arith, c.loop-class-test.true)) in
    let within : group < length rows =
    omega (
      arith,
      lt,
      ap length value,
      length-map c.loop-class.groups.items (λ words. words.items),
    ) in
    let few : length (take c.loop-class.class-index c.args.classes.now) + 1
    < 2 ^ c.digits_of-digits.result =
    omega (arith, long, c.loop-class-test.true, c.digits_of-digits.ensures.enough) in
    let bit = as_number (lane (get_or c.row.result.now group 0) k) in
    subst (λ gs. number_in (get_or (map (λ words. words.items) gs) group []) k + bit
    < 2 ^ length (get_or (map (λ words. words.items) gs) group [])) (sym value)
    (tallied_room (detects_by c.args.detections.now) _ c.digits_of-digits.result rows
    so_far.tallied few group k bit within low (small (lane (get_or c.row.result.now group 0) k)))

pub loop-class-preserved : goal.loop-class-preserved
loop-class-preserved c =
    let so_far = c.loop-class.invariant in
    let table = c.args.detections.now in
    let at = c.loop-class.class-index in
    let old = c.loop-class.groups.items in
    let new = c.add_words.new.groups in
    let value = c.deref_mut.ensures.value in
    let lengths : map (λ words. length words.items) new ≡ map (λ words. length words.items) old =
    c.add_words.ensures.long ∙ ap (map (λ words. length words.items)) value in
    let count : length new ≡ length old =
    sym (length-map new (λ words. length words.items)) ∙ (ap length lengths
    ∙ length-map old (λ words. length words.items)) in
    let len : c.loop-class.groups.len ≡ length new =
    sym (c.add_words.auto.groups ∙ c.deref_mut.ensures.len) in
    let each : (t : ℕ) → t / 128 < length (map (λ words. words.items) old)
    → number_in (get_or (map (λ words. words.items) new) (t / 128) []) (t % 128)
    ≡ number_in (get_or (map (λ words. words.items) old) (t / 128) []) (t % 128)
    + as_number (detects_by table (get_or c.args.classes.now at 0) t) = λ t lt.
    let within : t / 128 < length c.deref_mut.result.now =
    omega (arith, lt, length-map old (λ words. words.items), ap length value) in
    let low : t % 128 < 128 = omega arith in
    c.add_words.ensures.sum (t / 128) (t % 128) within low
    ∙ (ap (λ gs. number_in (get_or (map (λ words. words.items) gs) (t / 128) []) (t % 128)
    + as_number (lane (get_or c.row.result.now (t / 128) 0) (t % 128))) value
    ∙ ap (λ ws. number_in (get_or (map (λ words. words.items) old) (t / 128) []) (t % 128)
    + as_number (lane (get_or ws (t / 128) 0) (t % 128))) c.row.ensures.words) in
    rw (written_over c.loop-class.groups.len new _ len) (record {
      count = count ∙ so_far.count;
      tallied = tallied_more (detects_by table) c.args.classes.now at 0 c.digits_of-digits.result
          (map (λ words. words.items) old) (map (λ words. words.items) new)
          c.loop-class-test.true so_far.tallied
          (map-map new ∙ (lengths ∙ sym (map-map old)))
          (λ t lt. each t lt);
    })
