-- The ledger's definitions on worked lists of calls.
use Rattle.std.specs.Prelude.{◌≡◌, ℕ, zero, suc, slice_index_or, List, [], ◌∷◌, ◌++◌, map, refl}
use Rattle.std.specs.Prelude.{Some, None}
use Rattle.patterns.specs.{declared.Outcome.Outcome, Least.{Table, least}, Tests.{blocks, size_of}}
use Rattle.patterns.specs.declared.Outcome.TheVariants as outcome
use Rattle.fault_ledger.specs.declared.Refusal.TheVariants.{NoSuchWorker, Holding, NothingHeld}
use Rattle.fault_ledger.specs.declared.Refusal.TheVariants.{BadOutcome, NoEarlierHit, NoSuchClass}
use Rattle.fault_ledger.specs.declared.{Claim.TheVariants.{Piece, Exhausted}, Call.Call}
use Rattle.fault_ledger.specs.declared.Reply.TheVariants.{Claimed, Done, Refused, Status, Finish}
use Rattle.fault_ledger.specs.declared.{Status.TheVariants.{Settled, Waiting}, Event.Event}
use Rattle.fault_ledger.specs.declared.LedgerFault.TheVariants.{NoWorkers, TooManyWorkers}
use Rattle.fault_ledger.specs.declared.LedgerFault.TheVariants.{TooManyPieces}
use Rattle.fault_ledger.specs.{Answer.{replies, after_all, IsLegal}, Face.{shape_of, shape_fault}}
use Rattle.fault_ledger.specs.declared.Finish.TheVariants as finish_is

claims_of : List Call
claims_of = Call.Claim 0 ∷ Call.Claim 1 ∷ Call.Claim 2 ∷ Call.Claim 3 ∷ Call.Claim 4 ∷ Call.Claim
    5 ∷ Call.Claim 6 ∷ Call.Claim 7 ∷ []

-- a later Hit first, then a drop, an earlier Hit, and Clear up to it: the earliest counts though
-- three pieces are held
settles_early : replies (shape_of 1 512 8) []
    (claims_of ++ Call.Report 5 (outcome.Hit 3) ∷ Call.Drop 7 ∷ Call.Report 2
    (outcome.Hit 0) ∷ Call.Report 0 outcome.Clear ∷ Call.Status 0
    ∷ Call.Report 1 outcome.Clear ∷ Call.Status 0 ∷ Call.Finished ∷ [])
    ≡ Claimed (Piece 0 0) ∷ Claimed (Piece 0 1) ∷ Claimed (Piece 0 2) ∷ Claimed
    (Piece 0 3) ∷ Claimed (Piece 0 4) ∷ Claimed (Piece 0 5) ∷ Claimed (Piece 0 6) ∷ Claimed
    (Piece 0 7)
    ∷ Done ∷ Done ∷ Done ∷ Done ∷ Status (Waiting 1) ∷ Done ∷ Status (Settled (Some 128)) ∷ Finish
    finish_is.Finished ∷ []
unfolding claims_of
settles_early = refl

-- a later Hit lets no earlier piece be dropped
no_drop_before : replies (shape_of 1 512 8) (after_all (shape_of 1 512 8) [] (claims_of
    ++ Call.Report 5 (outcome.Hit 3) ∷ []))
    (Call.Drop 2 ∷ Call.Report 2 (outcome.Hit 0) ∷ []) ≡ Refused NoEarlierHit ∷ Done ∷ []
unfolding claims_of
no_drop_before = refl

-- the errors, each without effect
refusals : replies (shape_of 1 64 1) []
    (Call.Report 0 outcome.Clear ∷ Call.Claim 0 ∷ Call.Claim 0 ∷ Call.Claim 1 ∷ Call.Report 0
    (outcome.Hit 64) ∷ Call.Drop 0 ∷ Call.Report 0 outcome.Clear ∷ Call.Claim 0 ∷ Call.Status
    0 ∷ Call.Finished ∷ [])
    ≡ Refused NothingHeld ∷ Claimed (Piece 0 0) ∷ Refused Holding ∷ Refused NoSuchWorker ∷ Refused
    BadOutcome ∷ Refused NoEarlierHit ∷ Done ∷ Claimed Exhausted ∷ Status
    (Settled None) ∷ Finish finish_is.Finished ∷ []
refusals = refl

-- claims are exhausted, and the class still waits
not_finished : replies (shape_of 1 1 2) [] (Call.Claim 0 ∷ Call.Claim 1 ∷ Call.Finished ∷ [])
    ≡ Claimed (Piece 0 0) ∷ Claimed Exhausted ∷ Finish (finish_is.Waiting 0 0) ∷ []
not_finished = refl

dropped : replies (shape_of 1 65 1) []
    (Call.Claim 0 ∷ Call.Report 0 (outcome.Hit 0) ∷ Call.Claim 0 ∷ Call.Drop 0 ∷ Call.Status
    0 ∷ Call.Status 1 ∷ Call.Finished ∷ [])
    ≡ Claimed (Piece 0 0) ∷ Done ∷ Claimed (Piece 0 1) ∷ Done ∷ Status (Settled (Some 0)) ∷ Refused
    NoSuchClass ∷ Finish finish_is.Finished ∷ []
dropped = refl

no_tests : replies (shape_of 1 0 1) [] (Call.Finished ∷ Call.Status 0 ∷ Call.Claim 0 ∷ [])
    ≡ Finish finish_is.Finished ∷ Status (Settled None) ∷ Claimed Exhausted ∷ []
no_tests = refl

-- a short last block bounds the outcome
short_block : replies (shape_of 1 65 1) []
    (Call.Report 0 outcome.Clear ∷ Call.Drop 0 ∷ Call.Claim 0 ∷ Call.Claim 0 ∷ Call.Report 0
    (outcome.Hit 64) ∷ Call.Drop 0 ∷ Call.Report 0 outcome.Clear ∷ Call.Claim 0
    ∷ Call.Report 0 (outcome.Hit 1) ∷ Call.Drop 0 ∷ Call.Report 0 (outcome.Hit 0) ∷ Call.Claim
    0 ∷ Call.Claim 0 ∷ Call.Report 0 outcome.Clear ∷ Call.Status 0 ∷ [])
    ≡ Refused NothingHeld ∷ Refused NothingHeld ∷ Claimed (Piece 0 0) ∷ Refused Holding ∷ Refused
    BadOutcome ∷ Refused NoEarlierHit ∷ Done ∷ Claimed (Piece 0 1)
    ∷ Refused BadOutcome ∷ Refused NoEarlierHit ∷ Done ∷ Claimed Exhausted ∷ Claimed
    Exhausted ∷ Refused NothingHeld ∷ Status (Settled (Some 64)) ∷ []
short_block = refl

shapes : map shape_fault (shape_of 16384 65536 1 ∷ shape_of 65537 4096 1 ∷ shape_of 16385 65536 1
    ∷ shape_of 16385 65536 0 ∷ shape_of 1 1 65 ∷ shape_of 1 1 64 ∷ [])
    ≡ None ∷ None ∷ Some TooManyPieces ∷ Some NoWorkers ∷ Some TooManyWorkers ∷ None ∷ []
shapes = refl

-- no classes, no pieces: finished at once
no_classes : replies (shape_of 0 4096 1) [] (Call.Finished ∷ Call.Claim 0 ∷ Call.Status 0 ∷ [])
    ≡ Finish finish_is.Finished ∷ Claimed Exhausted ∷ Refused NoSuchClass ∷ []
no_classes = refl

block_sizes : map (size_of 65) (0 ∷ 1 ∷ []) ≡ 64 ∷ 1 ∷ []
block_sizes = refl

block_counts : map blocks (0 ∷ 1 ∷ 64 ∷ 65 ∷ 65536 ∷ []) ≡ 0 ∷ 1 ∷ 1 ∷ 2 ∷ 1024 ∷ []
block_counts = refl

-- a legal history, event by event
legal : IsLegal (shape_of 1 65 1) (Event.Drop 0 ∷ Event.Claim 0 ∷ Event.Report 0
    (outcome.Hit 0) ∷ Event.Claim 0 ∷ [])
legal = (refl, (refl, (refl, (refl, tt))))

-- The buffer of one input, 63 tests 0 and two tests 1: class 0 is z stuck at 0, class 1 is z stuck
-- at 1.
abbrev buffer_class : ℕ → List Outcome
buffer_class zero = outcome.Hit 63 ∷ outcome.Hit 0 ∷ []
buffer_class (suc _) = outcome.Hit 0 ∷ outcome.Clear ∷ []

abbrev buffer_table : Table
buffer_table class block = slice_index_or (buffer_class class) block outcome.Clear

buffer_least : map (least buffer_table 2) (0 ∷ 1 ∷ []) ≡ Some 63 ∷ Some 0 ∷ []
buffer_least = refl
