use Rattle.std.{proofs.Common.◌≡◌, specs.List.All}
use Rattle.bench_net.specs.reader.Parsed.{names_of}
use Rattle.bench_threads.specs.Stretches.{AreFirst, IsRange}
use Rattle.bench_threads.proofs.reading.fn.read_stretches.scope.Given as goal

-- the range is one of the text, and each handle is promised statements of this text
abbrev pub invariant-loop-turn : goal.invariant-loop-turn
invariant-loop-turn g l = record {
  range : IsRange l.text.now l.range.start l.range.end l.range.before;
  text : l.first.text.now ≡ l.text.now;
  first : AreFirst l.first.text.now l.first.end l.first.stretches.items
      (names_of l.first.names.keys) l.first.counts;
  each : All (λ h. h.promise.text.now ≡ l.text.now) l.handles.items;
}
