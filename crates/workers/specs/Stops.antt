-- The pieces at which gates stop workers.
use Rattle.std.specs.Prelude.{⊤, ℕ}

-- The workers, classes and blocks for which a gate may stop the worker, and for which it surely
-- does.
pub record Stops : Type 1 where
  pub may : ℕ → ℕ → ℕ → Type 0
  pub must : ℕ → ℕ → ℕ → Type 0

-- it stops no worker
abbrev pub no_stop : Stops
no_stop = record { may = λ worker class block. ⊥; must = λ worker class block. ⊥ }

-- it may stop any worker at any piece
abbrev pub any_stop : Stops
any_stop = record { may = λ worker class block. ⊤; must = λ worker class block. ⊥ }
