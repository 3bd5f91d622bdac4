-- From the compaction of a job to the compaction of the files that the job was read from.
use Rattle.std.proofs.Common.{◌≡◌, ◌<◌, ◌≤◌, ◌∙◌, ◌++◌, [], ℕ, List, ap, length}
use Rattle.std.specs.Prelude.{codes, decimal, Err}
use Rattle.fault_model.specs.Solution.{Test}
use Rattle.byte_output.specs.Output.{Output}
use Rattle.workers.specs.declared.RunFault.{RunFault}
use Rattle.job_loading.specs.declared.fault.SimFault.{SimFault}
use Rattle.job_loading.specs.declared.fault.SimFault.TheVariants as fault
use Rattle.analysis_reports.specs.declared.compacted.KeptCount.{KeptCount}
use Rattle.analysis_reports.specs.Compacted.{GivesOneOf, count_of, number_line}
use Rattle.report.specs.EndToEnd.{IsJobTextFault, IsListFault, WritesOneOf}

-- the text of a failed call that would also have returned a value
pub given_text : {X : Type 0} (A : List ℕ → Type 0) (B : X → List ℕ → Type 0) (x : X)
    (f : SimFault) (old new : Output) → ((text : List ℕ) → A text → B x text)
    → WritesOneOf A (Err f) old new → GivesOneOf B (Err f) old new
given_text A B x (fault.Report f) old new into w = (x, w.0, into w.0 w.1, w.2)
given_text A B x (fault.Bench f) old new into w = w
given_text A B x (fault.Tests f) old new into w = w
given_text A B x (fault.Order f) old new into w = w
given_text A B x (fault.Job f) old new into w = w
given_text A B x (fault.Run f) old new into w = w
given_text A B x fault.Memory old new into w = w

-- the errors for a file that is known
pub kept_fault : (workers : ℕ) (IsFault : RunFault → Type 0) (f : SimFault) → 0 < workers
    → workers ≤ 64 → IsListFault f → IsJobTextFault workers IsFault f
kept_fault workers IsFault (fault.Report f) some few h = (some, few)
kept_fault workers IsFault fault.Memory some few h = tt
kept_fault workers IsFault (fault.Bench f) some few h = absurd h
kept_fault workers IsFault (fault.Tests f) some few h = absurd h
kept_fault workers IsFault (fault.Order f) some few h = absurd h
kept_fault workers IsFault (fault.Job f) some few h = absurd h
kept_fault workers IsFault (fault.Run f) some few h = absurd h

-- the line of a number from its digits
pub line_of_number : (n : ℕ) (digits : List ℕ) → digits ≡ decimal n
    → digits ++ (codes "\n" ++ []) ≡ number_line n
line_of_number n digits e = ap (λ ds. ds ++ codes "\n") e

-- the number of kept tests, by their numbers
abbrev pub the_count : ℕ → ℕ → KeptCount
the_count kept all = record { kept = kept; all = all }

pub counted : (tests kept : List Test) (k a : ℕ) → k ≡ length kept → a ≡ length tests
    → the_count k a ≡ count_of tests kept
counted tests kept k a e f = ap (λ n. the_count n a) e ∙ ap (the_count (length kept)) f
