-- The responses of files.
use Rattle.std.proofs.Common.{ℕ, List}
use Rattle.job_loading.specs.{declared.fault.SimFault.SimFault, Jobs.IsInputFault}
use Rattle.job_loading.specs.declared.fault.SimFault.TheVariants as fault
use Rattle.analysis_reports.specs.Responses.{IsResponsesFault}

-- an error of the files is an error of the responses
pub input_fault : (bench text : List ℕ) (f : SimFault) → IsInputFault bench text f
    → IsResponsesFault bench text f
input_fault bench text (fault.Bench f) h = h
input_fault bench text (fault.Tests f) h = h
input_fault bench text (fault.Order f) h = absurd h
input_fault bench text (fault.Job f) h = absurd h
input_fault bench text (fault.Run f) h = absurd h
input_fault bench text (fault.Report f) h = absurd h
input_fault bench text fault.Memory h = tt
