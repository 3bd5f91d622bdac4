use Rattle.std.proofs.Common.{◌≡◌, ◌+◌, ◌<◌, ◌≤◌, ◌∙◌, ◌⊎◌, [], ℕ, ap, arith, get_or, inl, inr}
use Rattle.std.{proofs.Common.{length, map, set, subst, sym}, specs.Vec.with_items}
use Rattle.std.proofs.{lemmas.Bool.cases_lt, lemmas.List.map-set, Math.Seq.map-set_same}
use Rattle.std.proofs.lemmas.List.{get_or-map, get_or-set_other, get_or-set_same, length-map}
use Rattle.patterns.specs.Tests.{as_number}
use Rattle.flat_circuit.specs.Words.{lane}
use Rattle.compaction.{specs.Tallies.number_in, proofs.PushedElements.written_over}
use Rattle.compaction.proofs.tallies.add_words.Goals as goal

-- a place before the one that was written, or this one
either : {P : Type 0} (at place : ℕ) → (place < at) ⊎ (at ≤ place) → place < at + 1
    → (place < at → P) → (at ≡ place → P) → P
either at place (inl low) lt before here = before low
either at place (inr past) lt before here = here (omega (arith, past, lt))

pub loop-group-preserved : goal.loop-group-preserved
loop-group-preserved c =
    let at = c.loop-group.group in
    let old = c.loop-group.groups in
    let new = c.add_word.new.digits in
    let so_far = c.loop-group.invariant in
    let was = get_or old at c.index-groups-group.result in
    let v = with_items was new in
    let own : was.items ≡ c.as_mut_slice.result.now = sym c.as_mut_slice.ensures.value in
    let long : was.len ≡ length new = sym (c.add_word.auto.digits ∙ c.as_mut_slice.ensures.len) in
    let items : v.items ≡ new = written_over was.len new _ long in
    let all : map (λ words. words.items) (set old at v)
    ≡ set (map (λ words. words.items) old) at new =
    map-set (λ words. words.items) old at v
    ∙ ap (set (map (λ words. words.items) old) at) items in
    let count : length old ≡ length c.args.groups.now =
    sym (length-map old (λ words. length words.items)) ∙ (ap length so_far.long
    ∙ length-map c.args.groups.now (λ words. length words.items)) in
    let within : at < length old = omega (arith, c.loop-group-test.true, count, c.requires.count) in
    let rows = map (λ words. words.items) old in
    let in_rows : at < length rows =
    omega (arith, within, length-map old (λ words. words.items)) in
    let before : get_or rows at [] ≡ c.as_mut_slice.result.now =
    get_or-map (λ words. words.items) old at c.index-groups-group.result [] within ∙ own in
    let sum : (k : ℕ) → k < 128 → number_in (get_or (set rows at new) at []) k
    ≡ number_in (get_or (map (λ words. words.items) c.args.groups.now) at []) k
    + as_number (lane (get_or c.args.words.now at 0) k) = λ k low.
    ap (λ ws. number_in ws k) (get_or-set_same rows at new [] in_rows)
    ∙ (c.add_word.ensures.sum k low
    ∙ ap (λ ws. number_in ws k + as_number (lane (get_or c.args.words.now at 0) k))
    (sym before ∙ so_far.left at (omega arith))) in
    rw (all) (record {
      long = map-set_same (λ words. length words.items) old at v c.index-groups-group.result
          (ap length items ∙ (c.add_word.ensures.count ∙ ap length (sym own))) ∙ so_far.long;
      done = λ group k lt low. either at group (cases_lt group at) lt
          (λ before. ap (λ ws. number_in ws k)
          (get_or-set_other rows at group new [] (λ e. omega (arith, before, e)))
          ∙ so_far.done group k before low)
          (λ e. subst (λ g. number_in (get_or (set rows at new) g []) k
          ≡ number_in (get_or (map (λ words. words.items) c.args.groups.now) g []) k
          + as_number (lane (get_or c.args.words.now g 0) k)) e (sum k low));
      left = λ group le. get_or-set_other (map (λ words. words.items) old) at group new []
          (λ e. omega (arith, le, e)) ∙ so_far.left group (omega (arith, le));
    })
