use Rattle.std.proofs.Common.{◌≡◌, ◌<◌, ◌≤◌, ◌∙◌, ℕ, List, ap, arith, get_or, length, subst, sym}
use Rattle.std.specs.Prelude.{All, IfOk, Some}
use Rattle.bench_net.specs.Scan.{gate_of, names}
use Rattle.fault_model.specs.Fault.{FaultList}
use Rattle.list_lemmas.proofs.Places.{place_within}
use Rattle.patterns.specs.Tests.{TestList}
use Rattle.flat_circuit.proofs.Public.{gate_at}
use Rattle.blocking_pins.specs.{Blocking.IsBlockingPin, Effects.AreGatePins}
use Rattle.blocking_pins.specs.Sorted.{IsSortedBy, faults_key, tests_key}
use Rattle.blocking_pins.proofs.PinLists.{all_pins}
use Rattle.blocking_pins.proofs.RankedPins.{all_sorted, few_faults, few_tests, ranked}
use Rattle.blocking_pins.proofs.pins.blocking_pins.Goals as goal

pub rows_of-requires-clause-pins : goal.rows_of-requires-clause-pins
rows_of-requires-clause-pins c =
    let circuit = c.args.job.now.circuit in
    let there = c.words-words.result.circuit.now.arranged in
    let pins = c.in_ok-pins.pins.pins.items in
    let starts = c.in_ok-pins.pins.starts.items in
    all_pins circuit there pins starts
    (subst (λ x. AreGatePins x there (length (names x)) pins starts) c.words-words.ensures.part
    c.in_ok-pins.ensures) (λ gate kind reads e. let own = gate_at circuit gate kind reads e in
    place_within (names circuit) gate own.name own.named)

pub by_tests-requires : goal.by_tests-requires
by_tests-requires c =
    let job = c.args.job.now in
    let count : c.count.result ≡ length job.tests.tests =
    c.count.ensures ∙ ap (λ (t : TestList). length t.tests) c.tests.ensures.part in
    let each = subst (All (IsBlockingPin job)) (sym c.deref.ensures.value)
    c.in_ok-rows.ensures.each in
    record {
      within = λ k d lt.
          let few = few_tests job (get_or c.deref.result.now k d) (each k d lt) in
          omega (arith, few, count);
    }

pub by_faults-requires : goal.by_faults-requires
by_faults-requires c =
    let job = c.args.job.now in
    let count : c.count-2.result ≡ length job.list.list =
    c.count-2.ensures ∙ ap (λ (l : FaultList). length l.list) c.faults.ensures.part in
    let tests : c.count.result ≡ length job.tests.tests =
    c.count.ensures ∙ ap (λ (t : TestList). length t.tests) c.tests.ensures.part in
    let first : IsSortedBy (tests_key c.count.result) c.in_ok-rows.rows.items
    c.in_ok-by_tests.by_tests.items =
    subst (λ l. IsSortedBy (tests_key c.count.result) l c.in_ok-by_tests.by_tests.items)
    c.deref.ensures.value c.in_ok-by_tests.ensures in
    let each = subst (All (IsBlockingPin job)) (sym c.deref-2.ensures.value)
    (all_sorted job (IsBlockingPin job) (tests_key c.count.result) c.in_ok-rows.rows.items
    c.in_ok-by_tests.by_tests.items first c.in_ok-rows.ensures.each) in
    record {
      within = λ k d lt.
          let few = few_faults job (get_or c.deref-2.result.now k d) (each k d lt) in
          omega (arith, few, count);
    }

pub returns : goal.returns
returns c =
    let job = c.args.job.now in
    let count : c.count-2.result ≡ length job.list.list =
    c.count-2.ensures ∙ ap (λ (l : FaultList). length l.list) c.faults.ensures.part in
    let tests : c.count.result ≡ length job.tests.tests =
    c.count.ensures ∙ ap (λ (t : TestList). length t.tests) c.tests.ensures.part in
    let rows = c.in_ok-rows.rows.items in
    let middle = c.in_ok-by_tests.by_tests.items in
    let sorted = c.in_ok-sorted.sorted.items in
    let first : IsSortedBy (tests_key (length job.tests.tests)) rows middle =
    subst (λ n. IsSortedBy (tests_key n) rows middle) tests
    (subst (λ l. IsSortedBy (tests_key c.count.result) l middle) c.deref.ensures.value
    c.in_ok-by_tests.ensures) in
    let second : IsSortedBy (faults_key (length job.list.list)) middle sorted =
    subst (λ n. IsSortedBy (faults_key n) middle sorted) count
    (subst (λ l. IsSortedBy (faults_key c.count-2.result) l sorted) c.deref-2.ensures.value
    c.in_ok-sorted.ensures) in
    ranked job rows middle sorted c.in_ok-rows.ensures first second
