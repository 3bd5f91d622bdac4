-- A word of 512 lanes as a number, whose bits are the lanes.
use Rattle.std.specs.Prelude.{ℕ}
use Rattle.std.specs.Simd.Lanes.{number_l}
use Rattle.wide_words.specs.declared.wide.Wide.{Wide}

-- bit k is lane k: bit k % 64 of part k / 64
abbrev pub number : Wide → ℕ
number w = number_l 18446744073709551616 w.parts
