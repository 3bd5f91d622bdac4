use Rattle.std.proofs.Common.{◌≡◌, ◌+◌, ◌++◌, length, take}
use Rattle.faultsim_c.proofs.FanOuts.{pins_among}
use Rattle.faultsim_c.proofs.circuit.put_fan_out.Given as goal

-- the pins among the sinks so far stand in their places
abbrev pub invariant-loop-sink : goal.invariant-loop-sink
invariant-loop-sink l = record {
  place : l.next ≡ l.place + length (pins_among (take l.sink-index l.sinks));
  rows : take l.next l.pins ≡ take l.place l.fn.pins ++ pins_among (take l.sink-index l.sinks);
  long : length l.pins ≡ length l.fn.pins;
}
