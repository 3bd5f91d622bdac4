use Rattle.std.proofs.Common.{◌≡◌, ◌<◌, ◌∙◌, ap, arith, false, length, subst, sym, true}
use Rattle.std.{proofs.lemmas.Option.slice_get-get_or, specs.Prelude.{Contains, Some, slice_get}}
use Rattle.list_lemmas.proofs.{Members.contained, Places.at_place}
use Rattle.bench_net.specs.{Scan.names, Statement.Name}
use Rattle.fault_model.specs.{Detection.name_on, Fault.faults}
use Rattle.flat_circuit.specs.Origins.{Carries}
use Rattle.undetected.proofs.{ActivatedAlike.{as_the_stem, bit_of, line_of}, KnownReasons.list_is}
use Rattle.undetected.proofs.LinesInCircuit.{listed_named}
use Rattle.undetected.proofs.activations.Activations.of.Goals as goal

pub signal_on-signal-requires : goal.signal_on-signal-requires
signal_on-signal-requires c =
    subst (λ x. (n : Name) × (name_on x c.line_of.result ≡ Some n) × Contains (names x) n)
    (sym (c.circuit.ensures.part ∙ c.job-job.ensures.circuit))
    (listed_named c.args.run.now.whole c.faults-list.result.now c.args.fault c.line_of.result
    (c.faults-list.ensures.part ∙ c.job-job.ensures.list) c.tests-tests.ensures.together
    c.line_of.ensures c.requires.fault)

pub returns-then-stuck_of : goal.returns-then-stuck_of
returns-then-stuck_of c = λ f at.
    let job = c.args.run.now.whole in
    let own = faults job.list.model job.circuit in
    let together = c.tests-tests.ensures.together in
    let same = ap (λ l. l.list) (c.faults-list.ensures.part ∙ c.job-job.ensures.list) in
    let listed : slice_get own c.args.fault ≡ Some f =
    ap (λ l. slice_get l c.args.fault) (sym (list_is job together)) ∙ at in
    let bit : true ≡ f.stuck = sym c.if-stuck_of.true ∙ bit_of c.faults-list.result.now.list
    job.list.list c.args.fault c.stuck_of.result f same c.stuck_of.ensures at in
    let on = line_of c.faults-list.result.now.list job.list.list c.args.fault c.line_of.result f
    same c.line_of.ensures at in
    let s = c.signal_on-signal.result in
    let carries : Carries job.circuit f.line s = subst (λ l. Carries job.circuit l s) on
    (subst (λ x. Carries x c.line_of.result s)
    (c.circuit.ensures.part ∙ c.job-job.ensures.circuit) c.signal_on-signal.ensures.carries) in
    let within : s < length (names job.circuit) =
    subst (λ x. s < length (names x)) (c.circuit.ensures.part ∙ c.job-job.ensures.circuit)
    c.signal_on-signal.ensures.within in
    let flags = c.args.self.now.at_one.items in
    let there = slice_get-get_or flags s c.index.result.now (omega (
      arith,
      within,
      c.requires.known.one_room,
    )) in
    rw (c.index.ensures) (as_the_stem job.list.model job.circuit job.tests.tests f s true _
    together.circuit.well_formed (contained own f (at_place own c.args.fault f listed)) bit carries
    (c.requires.known.at_one s _ there))

pub returns-else-stuck_of : goal.returns-else-stuck_of
returns-else-stuck_of c = λ f at.
    let job = c.args.run.now.whole in
    let own = faults job.list.model job.circuit in
    let together = c.tests-tests.ensures.together in
    let same = ap (λ l. l.list) (c.faults-list.ensures.part ∙ c.job-job.ensures.list) in
    let listed : slice_get own c.args.fault ≡ Some f =
    ap (λ l. slice_get l c.args.fault) (sym (list_is job together)) ∙ at in
    let bit : false ≡ f.stuck = sym c.if-stuck_of.false ∙ bit_of c.faults-list.result.now.list
    job.list.list c.args.fault c.stuck_of.result f same c.stuck_of.ensures at in
    let on = line_of c.faults-list.result.now.list job.list.list c.args.fault c.line_of.result f
    same c.line_of.ensures at in
    let s = c.signal_on-signal.result in
    let carries : Carries job.circuit f.line s = subst (λ l. Carries job.circuit l s) on
    (subst (λ x. Carries x c.line_of.result s)
    (c.circuit.ensures.part ∙ c.job-job.ensures.circuit) c.signal_on-signal.ensures.carries) in
    let within : s < length (names job.circuit) =
    subst (λ x. s < length (names x)) (c.circuit.ensures.part ∙ c.job-job.ensures.circuit)
    c.signal_on-signal.ensures.within in
    let flags = c.args.self.now.at_zero.items in
    let there = slice_get-get_or flags s c.index-else-stuck_of.result.now (omega (
      arith,
      within,
      c.requires.known.zero_room,
    )) in
    rw (c.index-else-stuck_of.ensures) (as_the_stem job.list.model job.circuit job.tests.tests f s
    false _ together.circuit.well_formed
    (contained own f (at_place own c.args.fault f listed)) bit carries
    (c.requires.known.at_zero s _ there))
