use Rattle.std.proofs.Common.{sym}
use Rattle.patterns.proofs.Octets.{octet-count}
use Rattle.patterns.proofs.octet.Octet.count.Goals as goal

pub returns-clause-count : goal.returns-clause-count
returns-clause-count c = sym (octet-count c.self.inside.width c.self.inside.count
    c.self.inside.bytes.items c.args.self.now c.self.view_is)
