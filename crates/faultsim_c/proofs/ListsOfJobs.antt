-- A simulation of lists of classes of a job serves the job with other tests.
use Rattle.std.{proofs.Common.{◌≡◌, subst, sym}, specs.Prelude.{Result, Ok, Err, IfErr, IfOk}}
use Rattle.patterns.specs.Tests.{TestList}
use Rattle.block_sim.specs.Parts.{HasRoom, Parts, Room, with_tests}
use Rattle.class_lists.specs.Lists.{ListsSimulated, ServesClasses}

pub serves_with_tests : (lists : ListsSimulated) (job : Parts) (tests : TestList)
    → ServesClasses lists job → ServesClasses lists (with_tests job tests)
serves_with_tests lists job tests s = record {
  room = record { room = s.room.room; followed = s.room.followed };
  count = s.count;
  below = s.below;
}

-- so does the room of a session, whether it took the tests or not
pub stays_fit : {T E : Type 0} (room : Room) (lists : ListsSimulated) (old new : Parts)
    (tests : TestList) (r : Result T E) → IfOk r (λ _. new ≡ with_tests old tests)
    → IfErr r (λ _. new ≡ old) → HasRoom room old × ServesClasses lists old
    → HasRoom room new × ServesClasses lists new
stays_fit room lists old new tests (Ok x) done kept was =
    subst (λ (job : Parts). HasRoom room job × ServesClasses lists job) (sym done)
    (was.0, serves_with_tests lists old tests was.1)
stays_fit room lists old new tests (Err e) done kept was =
    subst (λ (job : Parts). HasRoom room job × ServesClasses lists job) (sym kept) was
