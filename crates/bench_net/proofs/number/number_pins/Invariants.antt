use Rattle.std.{proofs.Common.{◌≡◌, ◌<◌, map, take, length}, specs.List.All}
use Rattle.bench_net.specs.{reader.Parsed.names_of, Stored.name_at}
use Rattle.bench_net.proofs.number.number_pins.Given as goal

abbrev pub invariant-loop-argument : goal.invariant-loop-argument
invariant-loop-argument l = (map (name_at (names_of l.names.keys)) l.pins.items ≡ names_of
    (take l.argument-index l.arguments))
    × All (λ number. number < length (names_of l.names.keys)) l.pins.items
