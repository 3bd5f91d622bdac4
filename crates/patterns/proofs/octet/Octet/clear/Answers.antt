use Rattle.std.proofs.Common.{[], ap, ◌∙◌}
use Rattle.patterns.proofs.Octets.{tests_in_bytes-none}
use Rattle.patterns.proofs.octet.Octet.clear.Goals as goal

pub returns : goal.returns
returns c = ap (λ tests. record { width = c.self.inside.width; tests = tests })
    (tests_in_bytes-none c.self.inside.width c.fill.new.self.items)
    ∙ ap (λ w. record { width = w; tests = [] }) (ap (λ t. t.width) c.self.view_is)
