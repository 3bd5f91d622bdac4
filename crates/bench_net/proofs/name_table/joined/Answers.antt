use Rattle.std.proofs.Common.{◌≡◌, ◌+◌, ◌∙◌, [], ◌∷◌, ◌++◌, ap, length, length-append, append_assoc}
use Rattle.std.proofs.Common.{arith, rules}
use Rattle.bench_net.specs.{reader.Parsed.names_of, NameText.cut_names}
use Rattle.bench_net.proofs.NameTexts.{ends_more, names_more, texts_more}
use Rattle.bench_net.proofs.name_table.joined.Goals as goal

pub loop-name-preserved : goal.loop-name-preserved
loop-name-preserved c =
    let text = c.loop-name.text.items in
    let ends = c.loop-name.ends.items in
    let name = c.as_bytes.result.now in
    let next = c.len-in-loop-name.result in
    let front : names_of c.loop-name.name-iterator ≡ name ∷ names_of c.next.new.self =
    search rules in
    let grown : c.extend_from_slice.new.self.items ≡ text ++ name =
    c.in_ok-extend_from_slice.ensures.items in
    let pushed : c.push.new.self.items ≡ ends ++ next ∷ [] = c.in_ok-push.ensures.items in
    let size : next ≡ length text + length name =
    c.len-in-loop-name.ensures ∙ c.extend_from_slice.new.self.ok.0 ∙ ap length grown
    ∙ length-append text name in
    let more = names_more text name 0 next ends c.loop-name.invariant.1 size in (
      rw (grown, pushed, more, append_assoc, ← front) c.loop-name.invariant.0,
      rw (grown, pushed, length-append, ← size)
          (ends_more (length text) next 0 ends c.loop-name.invariant.1 (omega (arith, size))),
      rw (grown, pushed, more)
          (texts_more (cut_names text 0 ends) name c.loop-name.invariant.2 c.as_bytes.ensures.utf8),
    )
