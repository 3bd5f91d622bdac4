use Rattle.std.proofs.Common.{◌≡◌, ◌<◌, ◌*◌, ◌-◌, ◌∙◌, [], All, List, ap, arith, length, refl}
use Rattle.std.proofs.{Common.{subst, sym, ℕ}, lemmas.Bool.eqb-true}
use Rattle.std.proofs.lemmas.List.{nil_from_length, with_items_is}
use Rattle.std.specs.Prelude.{count_by, vec_len}
use Rattle.block_sim.specs.Parts.{BelongTogether, Parts, with_tests}
use Rattle.region_runs.specs.{Joins.AreJoined, Tasks.{AreKept, IsSound, task_of}}
use Rattle.region_runs.specs.WindowLedgers.{AreFoundByLedger, AreOfWindows, HasRunWindow, goes_on}
use Rattle.region_runs.specs.WindowLedgers.{open_classes, settled, window_task}
use Rattle.region_runs.specs.Windows.{AreKeptBelow}
use Rattle.region_runs.proofs.Joins.{open_count, open_few, open_within}
use Rattle.region_runs.proofs.WindowValues.{values_after, values_settled}
use Rattle.region_runs.proofs.windows.run_window.Goals as goal

pub returns-in_err-left-clause-job : goal.returns-in_err-left-clause-job
returns-in_err-left-clause-job g c = (c.args.job.now.tests, refl)

pub returns-then-is_empty-clause-job : goal.returns-then-is_empty-clause-job
returns-then-is_empty-clause-job g c = (c.args.job.now.tests, refl)

pub returns-in_err-have_window-clause-job : goal.returns-in_err-have_window-clause-job
returns-in_err-have_window-clause-job g c =
    ((c.have_window.new.job).tests, c.in_err-have_window.ensures.kept)

pub returns-then-is_empty-clause-kept : goal.returns-then-is_empty-clause-kept
returns-then-is_empty-clause-kept g c =
    let goal = c.args.goal.now in
    let wants = g.A.Goal.wants goal in
    let task = task_of (with_tests c.args.job.now c.args.tests.now) 0 wants (g.A.Goal.means goal) in
    let sound : IsSound task = record {
      agrees = g.A.Goal.agrees goal;
      stays = g.A.Goal.stays goal;
      unchanged = g.A.Goal.unchanged goal;
    } in
    let left = c.in_ok-left.left in
    let none : vec_len left ≡ 0 =
    eqb-true (vec_len left) 0 (sym c.is_empty.ensures ∙ c.if-is_empty.true) in
    let empty : left.items ≡ [] = nil_from_length left.items (omega (arith, none)) in
    let is : left.items ≡ open_classes wants c.args.classes.now c.args.kept.items =
    c.in_ok-left.ensures ∙ ap (open_classes wants c.args.classes.now) c.as_slice.ensures.value in
    values_settled task sound (64 * c.args.window.first) (64 * c.args.window.end)
    c.args.classes.now c.args.kept.items (omega (arith, c.requires.window.some)) c.requires.kept
    (sym is ∙ empty)

pub returns-then-is_empty-clause-ledgers : goal.returns-then-is_empty-clause-ledgers
returns-then-is_empty-clause-ledgers g c = λ of.
    let wants = g.A.Goal.wants c.args.goal.now in
    let left = c.in_ok-left.left in
    let none : vec_len left ≡ 0 =
    eqb-true (vec_len left) 0 (sym c.is_empty.ensures ∙ c.if-is_empty.true) in
    let empty : left.items ≡ [] = nil_from_length left.items (omega (arith, none)) in
    let is : left.items ≡ open_classes wants c.args.classes.now c.args.kept.items =
    c.in_ok-left.ensures ∙ ap (open_classes wants c.args.classes.now) c.as_slice.ensures.value in
    settled c.args.window.first c.args.window.end c.args.kept.items of (sym is ∙ empty)

pub run_open_classes-requires-clause-few : goal.run_open_classes-requires-clause-few
run_open_classes-requires-clause-few g c κs within =
    let wants = g.A.Goal.wants c.args.goal.now in
    let set = c.in_ok-have_window.ensures.kept in
    let is : c.in_ok-left.left.items ≡ open_classes wants c.args.classes.now c.as_slice.result.now =
    c.in_ok-left.ensures in
    let few = open_few wants c.args.classes.now c.as_slice.result.now
    (ap (λ l. length l) c.as_slice.ensures.value ∙ c.requires.kept.count) in
    omega (
      arith,
      ap (λ (l : List ℕ). length l) is,
      few,
      c.requires.few,
      ap (λ (j : Parts). length j.classes.representative) set,
    )

pub run_open_classes-requires-clause-within : goal.run_open_classes-requires-clause-within
run_open_classes-requires-clause-within g c κs within =
    let wants = g.A.Goal.wants c.args.goal.now in
    let job = c.args.job.now in
    let set = c.in_ok-have_window.ensures.kept in
    let is : c.in_ok-left.left.items ≡ open_classes wants c.args.classes.now c.as_slice.result.now =
    c.in_ok-left.ensures in
    subst (λ (j : Parts). All (λ class. class < length j.classes.representative)
    c.in_ok-left.left.items) (sym set)
    (subst (λ l. All (λ class. class < length job.classes.representative) l) (sym is)
    (open_within wants (length job.classes.representative) c.args.classes.now
    c.as_slice.result.now c.requires.within))

pub join_window-requires-clause-found : goal.join_window-requires-clause-found
join_window-requires-clause-found g c =
    let wants = g.A.Goal.wants c.args.goal.now in
    let is : c.in_ok-left.left.items ≡ open_classes wants c.args.classes.now c.args.kept.items =
    c.in_ok-left.ensures ∙ ap (open_classes wants c.args.classes.now) c.as_slice.ensures.value in
    ap length c.as_slice-2.ensures.value ∙ c.in_ok-found.ensures.kept.count ∙ ap length is
    ∙ open_count wants c.args.classes.now c.args.kept.items c.requires.kept.count
    ∙ ap (count_by wants) (sym c.as_mut_slice.ensures.value)

pub returns-clause-kept : goal.returns-clause-kept
returns-clause-kept g c =
    let goal = c.args.goal.now in
    let wants = g.A.Goal.wants goal in
    let means = g.A.Goal.means goal in
    let window = c.args.window in
    let classes = c.args.classes.now in
    let task = task_of (with_tests c.args.job.now c.args.tests.now) 0 wants means in
    let some = (c.have_window.new.job).tests in
    let set = c.in_ok-have_window.ensures.kept in
    let left = c.in_ok-left.left.items in
    let found = c.in_ok-found.found.items in
    let after = c.join_window.new.kept in
    let is : left ≡ open_classes wants classes c.args.kept.items =
    c.in_ok-left.ensures ∙ ap (open_classes wants classes) c.as_slice.ensures.value in
    let joined = subst (λ l. AreJoined wants means (64 * window.from) l found after)
    c.as_mut_slice.ensures.value
    (subst (λ l. AreJoined wants means (64 * window.from) c.as_mut_slice.result.now l after)
    c.as_slice-2.ensures.value c.join_window.ensures) in
    let whole : length after ≡ c.args.kept.len =
    (let count = c.join_window.ensures.count in let old = c.as_mut_slice.ensures.value in
    let sized = c.args.kept.ok.0 in omega (arith, count, ap length old, sized)) in
    let sound : IsSound task = record {
      agrees = g.A.Goal.agrees goal;
      stays = g.A.Goal.stays goal;
      unchanged = g.A.Goal.unchanged goal;
    } in
    let are = subst (λ l. AreKept (window_task task some window) l found) is
    (subst (λ (j : Parts). AreKept (task_of j (window.first - window.from) wants means) left found)
    set c.in_ok-found.ensures.kept) in
    subst (AreKeptBelow task (64 * window.end) classes)
    (sym (with_items_is c.args.kept after whole))
    (values_after task sound c.args.tests.now some window classes refl c.requires.list
    (subst BelongTogether set c.in_ok-found.ensures.together) c.in_ok-have_window.ensures.tests
    c.requires.window c.requires.within c.args.kept.items found after c.requires.kept are joined)

pub returns-clause-ledgers : goal.returns-clause-ledgers
returns-clause-ledgers g c = λ of.
    let goal = c.args.goal.now in
    let wants = g.A.Goal.wants goal in
    let means = g.A.Goal.means goal in
    let window = c.args.window in
    let classes = c.args.classes.now in
    let task = task_of (with_tests c.args.job.now c.args.tests.now) 0 wants means in
    let some = (c.have_window.new.job).tests in
    let set = c.in_ok-have_window.ensures.kept in
    let left = c.in_ok-left.left.items in
    let found = c.in_ok-found.found.items in
    let after = c.join_window.new.kept in
    let is : left ≡ open_classes wants classes c.args.kept.items =
    c.in_ok-left.ensures ∙ ap (open_classes wants classes) c.as_slice.ensures.value in
    let joined = subst (λ l. AreJoined wants means (64 * window.from) l found after)
    c.as_mut_slice.ensures.value
    (subst (λ l. AreJoined wants means (64 * window.from) c.as_mut_slice.result.now l after)
    c.as_slice-2.ensures.value c.join_window.ensures) in
    let whole : length after ≡ c.args.kept.len =
    (let count = c.join_window.ensures.count in let old = c.as_mut_slice.ensures.value in
    let sized = c.args.kept.ok.0 in omega (arith, count, ap length old, sized)) in
    let ledger = c.in_ok-found.ensures.ledger in
    let ran : HasRunWindow task c.args.workers classes window c.args.kept.items after = record {
      tests = some;
      are = c.in_ok-have_window.ensures.tests;
      found = found;
      ledger = ledger.0;
      by = subst (λ l. AreFoundByLedger (window_task task some window) c.args.workers l found
          ledger.0) is (subst (λ (j : Parts). AreFoundByLedger
          (task_of j (window.first - window.from) wants means) c.args.workers left found ledger.0)
          set ledger.1);
      joined = joined;
    } in
    subst (AreOfWindows task c.args.workers classes window.end)
    (sym (with_items_is c.args.kept after whole))
    (goes_on window.first window c.args.kept.items after c.requires.window of ran)
