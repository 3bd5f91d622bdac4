use Rattle.std.proofs.Common.{arith, refl}
use Rattle.test_columns.proofs.FirstLine.{behind_last, behind_more, split_at}
use Rattle.test_columns.proofs.front.read_front.Goals as goal

pub loop-init : goal.loop-init
loop-init g c = λ text is. (
  text,
  is,
  rw c.new-front.ensures.items refl,
  (1, λ rest. rw c.new-front.ensures.items refl),
)

pub returns-then-ends_front : goal.returns-then-ends_front
returns-then-ends_front g c =
    behind_last (g.R.Read.remaining c.args.file.now) (g.R.Read.remaining c.loop.file)
    c.loop.front.items c.read_until.new.buf.items _ c.loop.invariant c.in-Ok.ensures.bytes
    (split_at c.loop.front.items c.read_until.new.buf.items c.deref.result.now c.len-start.result
    (omega (arith, c.len-start.ensures, c.loop.front.ok)) c.deref.ensures.value
    c.read_until.ensures.appends) (c.ends_front.ensures.yes c.if-ends_front.true)

pub loop-preserved : goal.loop-preserved
loop-preserved g c =
    behind_more (g.R.Read.remaining c.args.file.now) (g.R.Read.remaining c.loop.file)
    (g.R.Read.remaining c.read_until.new.self) c.loop.front.items c.read_until.new.buf.items _
    c.loop.invariant c.in-Ok.ensures.bytes c.in-Ok.ensures.rest
    (split_at c.loop.front.items c.read_until.new.buf.items c.deref.result.now c.len-start.result
    (omega (arith, c.len-start.ensures, c.loop.front.ok)) c.deref.ensures.value
    c.read_until.ensures.appends) (c.ends_front.ensures.no c.if-ends_front.false)
