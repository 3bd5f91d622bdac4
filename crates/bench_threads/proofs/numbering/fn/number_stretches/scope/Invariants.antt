use Rattle.std.proofs.Common.{◌≡◌, ◌+◌, ◌<◌, ◌≤◌, length, take}
use Rattle.bench_net.specs.reader.Entries.{AreNumberedLines}
use Rattle.bench_threads.{specs.Stretches.{joined, line_numbers_in}, proofs.Waiting.AllFrom}
use Rattle.bench_threads.proofs.numbering.fn.number_stretches.scope.Given as goal

-- the lines are those of the stretches that are done, and each handle is promised those of the
-- stretch at its place behind them
abbrev pub invariant-loop-place : goal.invariant-loop-place
invariant-loop-place g l = record {
  waiting : (l.place < l.count → l.done + length l.handles.items ≡ l.place)
      × (l.done + length l.handles.items ≤ l.count);
  each : AllFrom (λ n h. (h.promise.place ≡ n) × (h.promise.file.value ≡ l.file)) l.done
      l.handles.items;
  numbered : AreNumberedLines (g.F.StretchedFile.names l.file)
      (joined (take l.done (g.F.StretchedFile.stretches l.file))) l.all.lines.items;
  at : l.all.at.items ≡ line_numbers_in (joined (take l.done (g.F.StretchedFile.stretches l.file)));
}
