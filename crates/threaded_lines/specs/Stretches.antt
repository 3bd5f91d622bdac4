-- The lines of a stretch of a fault list, as a thread returns them.
use Rattle.std.specs.Prelude.{◌≡◌, ℕ, ◌<◌, ◌≤◌, List}
use Rattle.std.specs.Prelude.{Result, Ok, Err, Some, IfOk}
use Rattle.std.specs.Prelude.{length, slice_get}
use Rattle.byte_output.specs.declared.OutFailed.{OutFailed}
use Rattle.byte_output.specs.Output.{Output, TakesAll, TakesFront}
use Rattle.threaded_lines.specs.declared.in_threads.Stretch.{Stretch}
use Rattle.threaded_lines.specs.Texts.{text_between}

-- a stretch of the list has its lines
pub record HasLines (texts : List (List ℕ)) (s : Stretch) : Type 0 where
  pub order : s.start ≤ s.end
  pub within : s.end ≤ length texts
  pub text : s.text.items ≡ text_between texts s.start s.end

-- the result of a thread has them, unless its memory ran out
abbrev pub HasStretch : List (List ℕ) → Result Stretch OutFailed → Type 0
HasStretch texts part = IfOk part (HasLines texts)

-- each of several results has them
abbrev pub HaveStretches : List (List ℕ) → List (Result Stretch OutFailed) → Type 0
HaveStretches texts parts = (i : ℕ) (part : Result Stretch OutFailed)
    → slice_get parts i ≡ Some part → HasStretch texts part

-- the lines of the faults from one number up to another were taken whole
pub record HasPut (texts : List (List ℕ)) (start end : ℕ) (old new : Output) : Type 0 where
  pub order : start ≤ end
  pub within : end ≤ length texts
  pub taken : TakesAll old new (text_between texts start end)

-- a call that writes the lines of faults from one on: an Ok tells up to which fault, and an Err
-- wrote a beginning of all that are left
abbrev pub PutsFrom : {T : Type 0} → List (List ℕ) → ℕ → Result (ℕ × T) OutFailed → Output → Output
    → Type 0
PutsFrom texts start (Ok r) old new = HasPut texts start r.0 old new
PutsFrom texts start (Err e) old new = TakesFront old new (text_between texts start (length texts))

-- the same of a call that writes the lines of one fault or more
abbrev pub PutsSome : {T : Type 0} → List (List ℕ) → ℕ → Result (ℕ × T) OutFailed → Output → Output
    → Type 0
PutsSome texts start r old new = PutsFrom texts start r old new × IfOk r (λ p. start < p.0)
