use Rattle.std.proofs.Common.{◌≡◌, ◌∙◌, ◌++◌, ◌%◌, ◌∷◌, [], None, ap, length, refl, sym}
use Rattle.std.specs.Prelude.{slice_index_or}
use Rattle.generator.specs.RandomTests.{held_word, held_words, next_words, numbers}
use Rattle.generator.proofs.{HeldColumns.{held_more, word_count}, RandomWords.word_more}
use Rattle.generator.proofs.search.random_words.Goals as goal

pub loop-place-preserved : goal.loop-place-preserved
loop-place-preserved c =
    let was = c.loop-place.invariant in
    let s = numbers c.args.rng.now in
    let drawn = next_words c.loop-place.place s in
    let more = word_more c.loop-place.place s (numbers c.loop-place.rng)
    (numbers c.next_u64-word.new.self) drawn c.next_u64-word.result refl was.rest
    c.next_u64-word.ensures in
    let bits = c.args.bits.now in
    let word = c.next_u64-word.result in
    let column = c.loop-place.place % length bits in
    let own : c.held_word.result ≡ held_word (slice_index_or bits column None) word =
    c.held_word.ensures in
    let count = word_count c.loop-place.place s in
    record {
      words = c.in_ok-push.ensures.items ∙ (ap (λ l. l ++ c.held_word.result ∷ []) was.words
          ∙ (ap (λ x. held_words bits drawn ++ x ∷ []) own ∙ (ap (λ n. held_words bits drawn
          ++ held_word (slice_index_or bits (n % length bits) None) word ∷ []) (sym count)
          ∙ (sym (held_more bits drawn word) ∙ ap (held_words bits) more.0))));
      rest = more.1;
    }
