use Rattle.std.proofs.Common.{List, ℕ, refl, subst}
use Rattle.faultsim_c.specs.Calls.{IsCopied}
use Rattle.faultsim_c.proofs.texts.report_in.Goals as goal

pub returns-in-Ok-clause-done : goal.returns-in-Ok-clause-done
returns-in-Ok-clause-done c = λ low other. (
  record { lines = c.in-Some.lines; classes = c.args.classes },
  c.in-Ok.bytes.items,
  record { number = c.in-Some.ensures.some; choice = refl },
  c.in-Ok.ensures.report,
  subst (λ (bytes : List ℕ). IsCopied bytes c.args.text.now c.copy_text.new.text
      c.copy_text.new.wanted c.copy_text.result) c.as_slice.ensures.value
      c.copy_text.ensures.copied,
)
