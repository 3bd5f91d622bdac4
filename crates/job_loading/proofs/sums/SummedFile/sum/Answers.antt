use Rattle.std.proofs.{Common.{◌∙◌, ap}, Props.props, Math.Logic.∥∥₁_elim}
use Rattle.hex.specs.Hex.{encode_lower}
use Rattle.job_loading.proofs.SummedFiles.{summed_all}
use Rattle.job_loading.proofs.sums.SummedFile.sum.Goals as goal

pub returns-in-Some-clause-sum : goal.returns-in-Some-clause-sum
returns-in-Some-clause-sum g c = λ text known.
    let held = summed_all g.T.FileText.text (g.F.Read.remaining c.args.self.file)
    c.args.self.hasher text c.in-Some.hasher c.args.self.known known (c.requires text known)
    c.in-Some.is in
    ∥∥₁_elim held (Prim.hlevel props)
    (λ h. c.in_ok-encode-in-Some.ensures ∙ ap encode_lower (c.finalize.ensures text h))
