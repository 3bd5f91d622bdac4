use Rattle.std.proofs.Common.{◌≡◌, ◌≤◌, ◌⊎◌, ◌++◌, Some, length, ap, sym, subst, ◌∙◌, arith, rules}
use Rattle.bench_net.specs.{Refusal.IsAccepted, Scan.sources}
use Rattle.patterns.specs.{Tests.HasTests, Making.test_text}
use Rattle.block_sim.specs.Parts.{Parts}
use Rattle.test_columns.specs.Columns.{columns}
use Rattle.compaction.specs.Compaction.{IsCompaction}
use Rattle.generator.specs.Generated.{AreFewPieces, DetectsEarly, DetectsSome, FindsNone}
use Rattle.generator.{specs.Held.{AreAllowed, AreHeldBits}, proofs.AmongTests.allowed_among}
use Rattle.generator.proofs.{HeldInputs.held_allowed, Pieces.fewer_pieces, Searches.compacted_some}
use Rattle.generator.proofs.Texts.{file_is, held_refused, text_has_job}
use Rattle.generator.proofs.test_rows.Goals as goal

pub returns-clause-held : goal.returns-clause-held
returns-clause-held g c =
    let job = c.in_ok-job.job in
    let bits = c.in_ok-bits.bits.items in
    let found = c.in_ok-found.found.tests in
    let best = c.in_ok-best.best.tests in
    let kept = c.in_ok-needed.needed.tests in
    let allowed = allowed_among bits kept best c.in_ok-needed.ensures.among
    (allowed_among bits best found c.in_ok-best.ensures.among
    (subst (λ l. AreAllowed l found) c.deref.ensures.value c.in_ok-found.ensures.allowed)) in (
      job.circuit,
      kept,
      c.in_ok-job.ensures.job.0,
      file_is job.circuit c.circuit.result.now c.in_ok-needed.needed.tests c.in_ok-line.line.items
          c.in_ok-test_file.field-0.items c.circuit.ensures.part c.in_ok-line.ensures.line
          c.in_ok-test_file.ensures.text,
      held_allowed job.circuit c.args.held.now bits kept
          (subst (λ x. AreHeldBits x c.args.held.now bits) c.circuit-2.ensures.part
          c.in_ok-bits.ensures.bits) allowed,
    )

pub returns-clause-few : goal.returns-clause-few
returns-clause-few g c =
    let job = c.in_ok-job.job in (
      job.circuit,
      c.in_ok-needed.needed.tests,
      c.in_ok-job.ensures.job.0,
      file_is job.circuit c.circuit.result.now c.in_ok-needed.needed.tests c.in_ok-line.line.items
          c.in_ok-test_file.field-0.items c.circuit.ensures.part c.in_ok-line.ensures.line
          c.in_ok-test_file.ensures.text,
      omega (arith, c.in_ok-needed.ensures.no_more, c.in_ok-best.ensures.few),
    )

pub returns-clause-compacted : goal.returns-clause-compacted
returns-clause-compacted g c =
    let job = c.in_ok-job.job in
    let was = c.best_tests.new.run.whole in
    let best = c.in_ok-best.best.tests in
    let kept = c.in_ok-needed.needed.tests in
    let is = c.in_ok-job.ensures.job in
    let circuit : was.circuit ≡ job.circuit = c.best_tests.ensures.circuit
    ∙ (ap (λ (p : Parts). p.circuit) c.whole-run.ensures.whole ∙ c.search.ensures.circuit) in
    let model : was.list.model ≡ c.args.settings.model =
    ap (λ l. l.model) (c.best_tests.ensures.list
    ∙ (ap (λ (p : Parts). p.list) c.whole-run.ensures.whole ∙ c.search.ensures.list)) ∙ is.3 in (
      job.circuit,
      best,
      kept,
      is.0,
      subst (λ m. IsCompaction m job.circuit best kept) model
          (subst (λ x. IsCompaction was.list.model x best kept) circuit
          c.in_ok-needed.ensures.needed),
      file_is job.circuit c.circuit.result.now c.in_ok-needed.needed.tests c.in_ok-line.line.items
          c.in_ok-test_file.field-0.items c.circuit.ensures.part c.in_ok-line.ensures.line
          c.in_ok-test_file.ensures.text,
    )

pub returns-clause-some : goal.returns-clause-some
returns-clause-some g c = λ big.
    let job = c.in_ok-job.job in
    let m = c.args.settings.model in
    let searched = c.search.new.job in
    let was = c.best_tests.new.run.whole in
    let found = c.in_ok-found.found.tests in
    let best = c.in_ok-best.best.tests in
    let kept = c.in_ok-needed.needed.tests in
    let is = c.in_ok-job.ensures.job in
    let of_best : DetectsEarly m job.circuit found → DetectsSome m job.circuit best =
    subst (λ x. DetectsEarly m x found → DetectsSome m x best)
    (ap (λ (p : Parts). p.circuit) c.whole-run.ensures.whole ∙ c.search.ensures.circuit)
    (c.in_ok-best.ensures.some big) in
    let circuit : was.circuit ≡ job.circuit = c.best_tests.ensures.circuit
    ∙ (ap (λ (p : Parts). p.circuit) c.whole-run.ensures.whole ∙ c.search.ensures.circuit) in
    let model : was.list.model ≡ m = ap (λ l. l.model) (c.best_tests.ensures.list
    ∙ (ap (λ (p : Parts). p.list) c.whole-run.ensures.whole ∙ c.search.ensures.list)) ∙ is.3 in
    let needed : IsCompaction m job.circuit best kept =
    subst (λ x. IsCompaction x job.circuit best kept) model
    (subst (λ x. IsCompaction was.list.model x best kept) circuit c.in_ok-needed.ensures.needed) in
    let seed = c.args.settings.seed in
    let bits = c.in_ok-bits.bits.items in
    let early : DetectsEarly m job.circuit found ⊎ FindsNone m job.circuit bits seed =
    subst (λ x. DetectsEarly x job.circuit found ⊎ FindsNone x job.circuit bits seed) is.3
    (subst (λ l. DetectsEarly job.list.model job.circuit found
    ⊎ FindsNone job.list.model job.circuit l seed) c.deref.ensures.value
    c.in_ok-found.ensures.early) in (
      job.circuit,
      bits,
      kept,
      is.0,
      subst (λ x. AreHeldBits x c.args.held.now bits) c.circuit-2.ensures.part
          c.in_ok-bits.ensures.bits,
      file_is job.circuit c.circuit.result.now c.in_ok-needed.needed.tests c.in_ok-line.line.items
          c.in_ok-test_file.field-0.items c.circuit.ensures.part c.in_ok-line.ensures.line
          c.in_ok-test_file.ensures.text,
      compacted_some m job.circuit bits seed found best kept of_best needed early,
    )

-- the file is read as the needed tests, and names the columns
pub returns-clause-columns : goal.returns-clause-columns
returns-clause-columns g c =
    let job = c.in_ok-job.job in
    let needed = c.in_ok-needed.needed in
    let is = c.in_ok-job.ensures.job in
    let bench = c.args.bench.now in
    let line = c.in_ok-line.line.items in
    let rows = test_text needed.tests in
    let width : needed.width ≡ length (sources job.circuit) = c.in_ok-needed.ensures.width
    ∙ (c.in_ok-best.ensures.width ∙ c.in_ok-found.ensures.width) in
    let accepted : IsAccepted bench c.circuit.result.now =
    subst (IsAccepted bench) (sym c.circuit.ensures.part) is.0 in
    let read = c.in_ok-test_file.ensures.read
    (λ rest. c.in_ok-line.ensures.rows bench rest accepted) (omega (
      arith,
      c.in_ok-needed.ensures.width,
      c.in_ok-best.ensures.width,
      c.in_ok-found.ensures.some,
    )) in (
      job.circuit,
      needed,
      is.0,
      file_is job.circuit c.circuit.result.now needed.tests line
          c.in_ok-test_file.field-0.items c.circuit.ensures.part c.in_ok-line.ensures.line
          c.in_ok-test_file.ensures.text,
      subst (λ n. HasTests c.in_ok-test_file.field-0.items n needed) width read,
      ap columns c.in_ok-test_file.ensures.text ∙ subst
          (λ x. columns (line ++ rows) ≡ Some (record { line = 1; names = sources x }))
          c.circuit.ensures.part (c.in_ok-line.ensures.named bench rows accepted),
    )

pub returns-clause-job : goal.returns-clause-job
returns-clause-job g c =
    let job = c.in_ok-job.job in
    let found = c.in_ok-found.found in
    let needed = c.in_ok-needed.needed in
    let bench = c.args.bench.now in
    let classes = length job.classes.representative in
    let less : length needed.tests ≤ length found.tests =
    omega (arith, c.in_ok-needed.ensures.no_more, c.in_ok-best.ensures.no_more) in
    let few : AreFewPieces classes (length needed.tests) =
    fewer_pieces classes (length needed.tests) (length found.tests) less
    c.in_ok-found.ensures.pieces in
    let width = c.in_ok-needed.ensures.width
    ∙ (c.in_ok-best.ensures.width ∙ c.in_ok-found.ensures.width) in
    let is = c.in_ok-job.ensures.job in
    let accepted : IsAccepted bench c.circuit.result.now =
    subst (IsAccepted bench) (sym c.circuit.ensures.part) is.0 in
    let read = c.in_ok-test_file.ensures.read
    (λ rest. c.in_ok-line.ensures.rows bench rest accepted) (omega (
      arith,
      c.in_ok-needed.ensures.width,
      c.in_ok-best.ensures.width,
      c.in_ok-found.ensures.some,
    )) in
    text_has_job c.args.settings.model bench c.in_ok-test_file.field-0.items job needed is.0 is.2
    is.3 width c.width-width.ensures.tests few read

pub returns-in_err-bits-clause-refused : goal.returns-in_err-bits-clause-refused
returns-in_err-bits-clause-refused g c =
    let bench = c.args.bench.now in
    let accepted : IsAccepted bench c.circuit-2.result.now =
    subst (IsAccepted bench) (sym c.circuit-2.ensures.part) c.in_ok-job.ensures.job.0 in
    let known = held_refused bench c.circuit-2.result.now c.args.held.now c.args.settings.workers
    c.in_err-bits.field-0.0 accepted c.in_err-bits.ensures.refused in
    let result = c.from_residual-in_err-bits.ensures in
    search rules
