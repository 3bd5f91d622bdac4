use Rattle.std.proofs.Common.{◌≡◌}
use Rattle.generator.specs.RandomTests.{after_words, held_words, next_words, numbers}
use Rattle.generator.proofs.search.random_words.Given as goal

abbrev pub invariant-loop-place : goal.invariant-loop-place
invariant-loop-place l = record {
  words : l.words.items ≡ held_words l.bits (next_words l.place (numbers l.fn.rng));
  rest : numbers l.rng ≡ after_words l.place (numbers l.fn.rng);
}
