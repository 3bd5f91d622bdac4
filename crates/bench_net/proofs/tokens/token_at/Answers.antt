use Rattle.std.proofs.Common.{◌<◌, arith}
use Rattle.bench_net.{specs.Text.is_word_byte, proofs.FaultyLines.word_utf8}
use Rattle.bench_net.proofs.Reader.{parted, word_leads}
use Rattle.bench_net.proofs.tokens.token_at.Goals as goal

pub word_text-requires : goal.word_text-requires
word_text-requires c = rw (c.split_at.ensures.front, c.word_len-len.ensures.counted)
    (word_utf8 _ (parted is_word_byte c.args.bytes.now).0)

pub returns-else-len-eq0 : goal.returns-else-len-eq0
returns-else-len-eq0 c =
    let len = c.word_len-len.result in
    let some : 0 < len = omega arith in
    rw (c.word_text.ensures, c.split_at.ensures.front, c.split_at.ensures.back)
    (word_leads c.args.bytes.now len c.word_len-len.ensures.counted some)
