use Rattle.std.proofs.Common.{◌≡◌, ◌∙◌, ◌++◌, Some, ap, is_some, subst, sym, take}
use Rattle.sha2.specs.Hashers.{Holds256}
use Rattle.job_loading.proofs.SummedFiles.{HasTaken, summed_more}
use Rattle.job_loading.proofs.sums.SummedFileRead.read.Goals as goal

pub invariant_of-self-in-Some : goal.invariant_of-self-in-Some
invariant_of-self-in-Some g c = record {
  known =
      let bytes = take c.in_ok-count.count c.read.new.buf in
      let took : HasTaken c.args.self.now.hasher (Some c.update.new.self) bytes = λ b q. (
        c.in-Some.hasher,
        c.in-Some.is,
        λ m h.
            let same : c.update.new.self ≡ b = cc in
            subst (λ x. Holds256 x (m ++ bytes)) same (c.update.ensures m h),
      ) in
      summed_more g.T.FileText.text (g.F.Read.remaining c.args.self.now.file)
      (g.F.Read.remaining c.read.new.self) c.args.self.now.hasher (Some c.update.new.self) bytes
      c.args.self.now.known c.in_ok-count.ensures.bytes.0 took;
  summed = sym (ap is_some c.in-Some.is) ∙ c.args.self.now.summed;
}

pub invariant_of-self-in_default : goal.invariant_of-self-in_default
invariant_of-self-in_default g c = record {
  known =
      let hasher = c.args.self.now.hasher in
      let bytes = take c.in_ok-count.count c.read.new.buf in
      let took : HasTaken hasher hasher bytes = λ b q. absurd (c.in_default.not-Some b q) in
      summed_more g.T.FileText.text (g.F.Read.remaining c.args.self.now.file)
      (g.F.Read.remaining c.read.new.self) hasher hasher bytes c.args.self.now.known
      c.in_ok-count.ensures.bytes.0 took;
  summed = c.args.self.now.summed;
}
