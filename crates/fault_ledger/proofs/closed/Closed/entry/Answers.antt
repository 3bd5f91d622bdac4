use Rattle.std.proofs.Common.{◌≡◌, ap, ◌∙◌, map}
use Rattle.fault_ledger.specs.{declared.PieceState.TheVariants.Open, Heads.state_in, Words.state_at}
use Rattle.fault_ledger.{specs.Seats.ClosedFace, proofs.ClassStatus.found-entry}
use Rattle.fault_ledger.proofs.closed.Closed.entry.Goals as goal

pub returns-clause-entry : goal.returns-clause-entry
returns-clause-entry c =
    let f = c.args.self.now in
    let class = c.args.class in
    let block = c.args.block in
    let is : c.state_of.result ≡ state_in f.shape f.states class block =
    c.state_of.ensures ∙ ap (λ codes.
    state_in c.self.inside.shape (map state_at codes) class block) c.deref.ensures.value
    ∙ ap (λ (g : ClosedFace). state_in g.shape g.states class block) c.self.view_is in
    λ h e. is ∙ found-entry f.shape f.states h class block Open
    (ap (λ (g : ClosedFace). g.states) e) c.requires.0 c.requires.1
