use Rattle.std.{proofs.Common.{◌≡◌, ℕ, ◌<◌, length, take}, specs.Prelude.slice_index}
use Rattle.faultsim_c.specs.Circuits.{fan_out, rows_before}
use Rattle.faultsim_c.proofs.circuit.fill_fan_outs.Given as goal

-- the rows of the signals so far stand in their places
abbrev pub invariant-loop-signal : goal.invariant-loop-signal
invariant-loop-signal l = record {
  place : l.place ≡ length (rows_before (fan_out l.circuit) l.signal);
  rows : take l.place l.pins ≡ rows_before (fan_out l.circuit) l.signal;
  long : length l.pins ≡ length l.fn.pins;
  count : length l.starts ≡ length l.fn.starts;
  starts : (k : ℕ) → k < l.signal
      → slice_index l.starts k ≡ length (rows_before (fan_out l.circuit) k);
}
