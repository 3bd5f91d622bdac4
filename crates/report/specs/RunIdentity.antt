-- The identity of a run in its files.
use Rattle.std.specs.Prelude.{ℕ, List, codes}
use Rattle.fault_model.specs.declared.Model.{Model}
use Rattle.fault_model.specs.declared.Model.TheVariants.{StuckAt, Transition, TransitionPairs}

-- the name of a model
abbrev pub model_name : Model → List ℕ
model_name StuckAt = codes "stuck"
model_name Transition = codes "transition"
model_name TransitionPairs = codes "transition-pairs"
