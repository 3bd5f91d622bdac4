use Rattle.std.proofs.lemmas.List.{take_rest}
use Rattle.text_lines.specs.Lines.{is_blank}
use Rattle.bench_net.proofs.Reader.{behind_blanks, parted}
use Rattle.bench_net.proofs.tokens.next_token.Goals as goal

pub token_at-requires : goal.token_at-requires
token_at-requires c =
    rw (take_rest, c.blank_len.ensures.counted) (parted is_blank c.args.line.now).1

pub returns : goal.returns
returns c =
    behind_blanks c.args.line.now c.blank_len.result c.token_at.result c.blank_len.ensures.counted
    (rw take_rest at c.token_at.ensures)
