use Rattle.std.proofs.Common.{rules, ◌≡◌, ◌∙◌, ℕ, List, Some, subst, ap}
use Rattle.bench_net.specs.Scan.{name_of}
use Rattle.faultsim_c.{specs.Calls.IsCopied, proofs.Options.some_inj}
use Rattle.faultsim_c.proofs.signals.name_in.Goals as goal

pub returns-clause-done : goal.returns-clause-done
returns-clause-done c name low of =
    let named : Some c.name_of.result.now ≡ name_of c.args.job.now.circuit c.args.signal =
    search rules in
    let same : c.as_bytes.result.now ≡ name =
    some_inj (ap Some c.as_bytes.ensures.value ∙ named ∙ of) in
    subst (λ (bytes : List ℕ). IsCopied bytes c.args.text.now c.copy_text.new.text
    c.copy_text.new.wanted c.copy_text.result) same c.copy_text.ensures.copied
