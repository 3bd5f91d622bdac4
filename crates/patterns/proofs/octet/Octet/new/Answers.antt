use Rattle.std.proofs.Common.{ap}
use Rattle.patterns.proofs.Octets.{tests_in_bytes-none}
use Rattle.patterns.proofs.octet.Octet.new.Goals as goal

pub returns : goal.returns
returns c = ap (λ tests. record { width = c.args.width; tests = tests })
    (tests_in_bytes-none c.args.width c.in_ok-bytes.bytes.items)
