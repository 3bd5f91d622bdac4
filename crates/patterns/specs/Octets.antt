-- The layout of an octet's tests: a byte for each source, in which bit k is the bit of test k.
use Rattle.std.specs.Prelude.{◌≡◌, ℕ, ◌≤◌, ◌==◌, Bool, List, map, length, slice_index}
use Rattle.std.specs.Int.{bit_at}
use Rattle.patterns.specs.Least.{below}

-- the tests in bytes, one byte for each source: bit k of a byte is the bit of test k
unfoldable pub tests_in_bytes : ℕ → ℕ → List ℕ → List (List Bool)
tests_in_bytes width count bytes =
    map (λ test. map (λ source. bit_at (slice_index bytes source) test == 1) (below width))
    (below count)

-- the bytes of at most eight tests of this width, with 0 for each bit past the last test
pub record AreBytes (width count : ℕ) (bytes : List ℕ) : Type 0 where
  pub few : count ≤ 8
  pub each : length bytes ≡ width
  pub idle : (source k : ℕ) → count ≤ k → bit_at (slice_index bytes source) k ≡ 0
